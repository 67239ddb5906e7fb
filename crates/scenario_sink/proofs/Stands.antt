-- A sink with its links that stands for its past stands for one call more.
use Rattle.scenario_sink.proofs.Prelude.{ℕ, ◌≡◌, ◌≢◌, Bool, true, false, List, [], ◌∷◌, map, drop, Option, Some, None, refl, sym, ap, ◌∙◌, subst, inl, inr, is_some, cases_eq, append-nil, group_calls, with_step, Halves, StandsFor, settings_of, has_group, Notice, changes, handed_out, is_told, waiting, Snapshot, Step, done_by, snapshot_of, after, Setup, value_at, none_change, snapshot_goes_on, waiting_goes_on, Call, stepped, is_joined, step_by, steps_of, writes_waiting, IsApart, LeavesLink, Acts, acts_of, IsAsked, IsWritten, IsStep, NotifiesLink, link_at, linked, mtu_of, slots_of, Linked, with_notices, Links, snapshot_in, SinkHistory, receiving, hearing_event, LinkHolds, OnLink, HasStepped, LinkIs, Stands, after_call, untold, arith, groups_heard, steps_heard, Gathers, StandsOn}
use Rattle.delegator_machine.specs.Calls as machine
use Rattle.group_sink.specs.Calls as sinks
use Rattle.sink_history.specs.Calls as calls
use Rattle.scenario_sink.specs.State.Stands.{given}
use Rattle.scenario_sink.proofs.Acts.{apart_joined, step_joined}
use Rattle.scenario_sink.proofs.Assistants.{holds_as, told_all}
use Rattle.scenario_sink.proofs.Places.{at_mapped}
use Rattle.scenario_sink.proofs.Untold.{its_snapshot, no_asking, none_more, same_groups, same_snapshot, stays}

-- what is proved of the calls of a link
abbrev pub Tells : Type 0
Tells = (setup : Setup) (mtu : Option ℕ) (link : ℕ) (call : Call) (calls : List Call) → IsStep call → NotifiesLink setup mtu link call calls

abbrev pub Leaves : Type 0
Leaves = (setup : Setup) (mtu : Option ℕ) (link : ℕ) (call : Call) (calls : List Call) → IsApart link call → LeavesLink setup mtu link call calls

-- that the links kept their slots and their MTU
abbrev pub SameTerms : Links → Links → Type 0
SameTerms new old = (slots_of new ≡ slots_of old) × (mtu_of new ≡ mtu_of old)

-- ---- one link

pub on_some : {slots : ℕ} {mtu : Option ℕ} {joined : Bool} {acts : Acts} {writes : List (List ℕ)} {on : Linked} → joined ≡ true
    → LinkHolds slots mtu acts writes on → OnLink slots mtu joined acts writes (Some on)
on_some {slots} {mtu} {joined} {acts} {writes} {on} is holds = grind (arith, linked)

pub on_none : {slots : ℕ} {mtu : Option ℕ} {joined : Bool} {acts : Acts} {writes : List (List ℕ)} → joined ≡ false → OnLink slots mtu joined acts writes None
on_none is = record { joined_is = sym is; holds = λ linked same. absurd cc }

pub on_as : {slots : ℕ} {mtu : Option ℕ} {joined now : Bool} {acts others : Acts} {writes more : List (List ℕ)} {on new : Option Linked} → now ≡ joined → others ≡ acts → more ≡ writes → new ≡ on
    → OnLink slots mtu joined acts writes on → OnLink slots mtu now others more new
on_as {slots} {mtu} {joined} {now} {acts} {others} {writes} {more} a b c d its = grind (arith, is_some, linked, holds_as)

-- the notices of a step go to it
stepped_link : (link : ℕ) (call : Call) (history : SinkHistory) (on : Option Linked) → IsStep call → NotifiesLink history.made.setup history.made.mtu link call history.calls_made
    → OnLink history.made.setup.slots history.made.mtu (is_joined link history.calls_made) (acts_of history.made.setup history.made.mtu link history.calls_made) (writes_waiting link (call ∷ history.calls_made)) on
    → LinkIs link (after_call call history)
    (with_notices (map (handed_out history.made.mtu) (changes history.made.setup.slots (snapshot_in history.made history.calls_made) (snapshot_in history.made (call ∷ history.calls_made)))) on)
stepped_link link call history None step tells its = on_none (step_joined link call history.calls_made step ∙ sym its.joined_is)
stepped_link link call history (Some on) step tells its = grind (arith, map, handed_out, changes, snapshot_in, on_some, step_joined, told_all, acts_of, writes_waiting)

none_new : (on : Option Linked) → with_notices [] on ≡ on
none_new on = grind (arith, waiting, append-nil)

-- ---- the notices of a step are gathered

pub gathered : Tells → (call : Call) (history : SinkHistory) (d new : Halves) (links next : Links) → HasStepped call history d links
    → Gathers d.scan new.scan (linked links) (linked next) → StandsOn d new → SameTerms next links → Stands (after_call call history) new next
gathered tells call history d new links next its gathers on terms =
    let told : List Notice = changes history.made.setup.slots (snapshot_in history.made history.calls_made) (snapshot_in history.made (call ∷ history.calls_made)) in
    let more : map (handed_out d.scan.mtu) d.scan.waiting ≡ map (handed_out history.made.mtu) told =
    (λ i. map (handed_out (its.took.settings_is i).mtu) (its.waiting i)) in
    record {
      took = grind (arith, none_more, same_groups, settings_of);
      none_waits = gathers.none;
      each = λ link.
          let there : link_at next link ≡ with_notices (map (handed_out history.made.mtu) told) (link_at links link) =
          at_mapped (with_notices (map (handed_out d.scan.mtu) d.scan.waiting)) links next refl gathers.given.links link ∙ ap (λ ns. with_notices ns (link_at links link)) more in
          subst (LinkIs link (after_call call history)) (sym there)
          (stepped_link link call history (link_at links link) its.is_step (tells history.made.setup history.made.mtu link call history.calls_made its.is_step) (its.each link));
    }

-- there are none
pub settled : Tells → (call : Call) (history : SinkHistory) (d : Halves) (links : Links) → HasStepped call history d links → d.scan.waiting ≡ [] → Stands (after_call call history) d links
settled tells call history d links its none = record {
  took = its.took;
  none_waits = none;
  each = λ link.
      let told : List Notice = changes history.made.setup.slots (snapshot_in history.made history.calls_made) (snapshot_in history.made (call ∷ history.calls_made)) in
      let there : with_notices (map (handed_out history.made.mtu) told) (link_at links link) ≡ link_at links link =
      ap (λ ns. with_notices (map (handed_out history.made.mtu) ns) (link_at links link)) (sym its.waiting ∙ none) ∙ none_new (link_at links link) in
      subst (LinkIs link (after_call call history)) there
      (stepped_link link call history (link_at links link) its.is_step (tells history.made.setup history.made.mtu link call history.calls_made its.is_step) (its.each link));
}

-- ---- the delegator takes a step

pub waiting_is : (setup : Setup) (taken : List machine.Call) (d : Halves) → StandsFor setup taken d → d.scan.waiting ≡ waiting setup (machine.steps_of taken)
waiting_is setup taken d stands = subst (λ s. d.scan.waiting ≡ waiting s (machine.steps_of taken)) stands.setup_is stands.steps.waiting

-- that its history tells of
pub has_stepped : (step : Step) (call : Call) (history : SinkHistory) (old new : Halves) (links next : Links) → is_told step ≡ 0 → IsStep call → step_by call history.calls_made ≡ Some step
    → IsAsked call → (its : Stands history old links) → StandsFor history.made.setup (machine.control step ∷ its.took.taken) new → settings_of new ≡ settings_of old → SameTerms next links
    → ((link : ℕ) → OnLink history.made.setup.slots history.made.mtu (is_joined link history.calls_made) (acts_of history.made.setup history.made.mtu link history.calls_made) (writes_waiting link (call ∷ history.calls_made))
    (link_at next link)) → HasStepped call history new next
has_stepped step call history old new links next quiet is_step by are its stood settings terms each =
    let setup : Setup = history.made.setup in
    let taken : List machine.Call = its.took.taken in
    let earlier : List Step = machine.steps_of taken in
    let own : untold (step ∷ earlier) ≡ steps_of (call ∷ history.calls_made) =
    no_asking step (untold earlier) quiet ∙ ap (λ ss. step ∷ ss) its.took.own ∙ ap (λ s. calls.with_step s (steps_of history.calls_made)) (sym by) in
    let before : snapshot_of setup earlier ≡ snapshot_in history.made history.calls_made = its_snapshot history old links its.took in
    let now : snapshot_of setup (step ∷ earlier) ≡ snapshot_in history.made (call ∷ history.calls_made) = same_snapshot setup (step ∷ earlier) ∙ ap (snapshot_of setup) own in
    record {
      took = grind (arith, with_step, step_joined);
      is_step = is_step;
      waiting = grind (arith, waiting_is, waiting_goes_on, drop, is_told, changes, snapshot_of);
      each = each;
    }

-- that comes over no link
pub steps : (step : Step) (history : SinkHistory) (old new : Halves) (links : Links) → is_told step ≡ 0 → IsWritten step → (its : Stands history old links)
    → StandsFor history.made.setup (machine.control step ∷ its.took.taken) new → settings_of new ≡ settings_of old → HasStepped (stepped step) history new links
steps step history old new links quiet are its stood settings =
    has_stepped step (stepped step) history old new links links quiet tt refl are its stood settings (refl, refl) its.each

-- that changes no value
pub no_notices : (setup : Setup) (step : Step) (steps : List Step)
    → ((i : ℕ) → value_at (snapshot_of setup steps) i ≡ value_at (after (done_by setup (snapshot_of setup steps) step) (snapshot_of setup steps)) i)
    → changes setup.slots (snapshot_of setup steps) (snapshot_of setup (step ∷ steps)) ≡ []
no_notices setup step steps same =
    ap (changes setup.slots (snapshot_of setup steps)) (snapshot_goes_on setup step steps)
    ∙ none_change setup.slots (snapshot_of setup steps) (after (done_by setup (snapshot_of setup steps) step) (snapshot_of setup steps)) same

pub sets : Tells → (step : Step) (history : SinkHistory) (old new : Halves) (links : Links) → is_told step ≡ 0 → IsWritten step
    → ((snapshot : Snapshot) (i : ℕ) → value_at snapshot i ≡ value_at (after (done_by history.made.setup snapshot step) snapshot) i) → (its : Stands history old links)
    → StandsFor history.made.setup (machine.control step ∷ its.took.taken) new → settings_of new ≡ settings_of old → Stands (after_call (stepped step) history) new links
sets tells step history old new links quiet are same its stood settings =
    let so : HasStepped (stepped step) history new links = steps step history old new links quiet are its stood settings in
    settled tells (stepped step) history new links so (so.waiting ∙ no_notices history.made.setup step (steps_of history.calls_made) (same (snapshot_in history.made history.calls_made)))

-- ---- what its receivers take

pub receives : (its_call : machine.Call) (call : sinks.Call) (history : SinkHistory) (old new : Halves) (links : Links)
    → ((taken : List machine.Call) → machine.steps_of (its_call ∷ taken) ≡ machine.steps_of taken)
    → ((taken : List machine.Call) → group_calls history.made.setup (its_call ∷ taken) ≡ call ∷ group_calls history.made.setup taken)
    → (its : Stands history old links) → StandsFor history.made.setup (its_call ∷ its.took.taken) new → settings_of new ≡ settings_of old → Stands (receiving call history) new links
receives its_call call history old new links quiet takes its stood settings = grind (arith, untold, waiting_is, waiting)

receives_more : (more : List machine.Call) (received : List sinks.Call) (history : SinkHistory) (old new : Halves) (links : Links)
    → (its : Stands history old links) → machine.steps_of more ≡ machine.steps_of its.took.taken → group_calls history.made.setup more ≡ received
    → StandsFor history.made.setup more new → settings_of new ≡ settings_of old
    → Stands (record { made = history.made; source = history.source; calls_made = history.calls_made; received = received }) new links
receives_more more received history old new links its quiet takes stood settings = record {
  took = record {
    taken = more;
    stands = stood;
    own = ap untold quiet ∙ its.took.own;
    received_is = takes;
    settings_is = settings ∙ its.took.settings_is;
    links_slots = its.took.links_slots;
    links_mtu = its.took.links_mtu;
    octets = its.took.octets;
    first = its.took.first;
  };
  none_waits = waiting_is history.made.setup more new stood ∙ ap (waiting history.made.setup) quiet
      ∙ sym (waiting_is history.made.setup its.took.taken old its.took.stands) ∙ its.none_waits;
  each = its.each;
}

pub receives_event : (event bis : ℕ) (pdus : List (Option (List ℕ))) (history : SinkHistory) (old new : Halves) (links : Links)
    → (its : Stands history old links) → StandsFor history.made.setup (machine.heard_calls event bis pdus its.took.taken) new
    → settings_of new ≡ settings_of old → Stands (hearing_event event bis pdus history) new links
receives_event event bis pdus history old new links its stood settings =
    receives_more (machine.heard_calls event bis pdus its.took.taken) (sinks.heard_calls event bis pdus history.received) history old new links its
    (steps_heard event bis pdus its.took.taken)
    (groups_heard history.made.setup event bis pdus its.took.taken ∙ ap (sinks.heard_calls event bis pdus) its.took.received_is)
    stood settings

-- ---- a call of one link

left_link : Leaves → (link : ℕ) (call : Call) (history : SinkHistory) (on new : Option Linked) → IsApart link call → new ≡ on → LinkIs link history on → LinkIs link (after_call call history) new
left_link leaves link call history on new apart same its = grind (arith, on_as, apart_joined)

-- a call that is no step of the delegator
same_received : (call : Call) (history : SinkHistory) → step_by call history.calls_made ≡ None → (after_call call history).received ≡ history.received
same_received call history none = grind (arith, snapshot_in, with_step, snapshot_of, steps_of, stays, has_group)

pub one_link : Leaves → (call : Call) (at : ℕ) (history : SinkHistory) (d : Halves) (links new : Links) → ((link : ℕ) → link ≢ at → IsApart link call) → IsAsked call
    → step_by call history.calls_made ≡ None → is_joined 0 (call ∷ history.calls_made) ≡ true → Stands history d links → SameTerms new links
    → ((link : ℕ) → link ≢ at → link_at new link ≡ link_at links link) → LinkIs at (after_call call history) (link_at new at) → Stands (after_call call history) d new
one_link leaves call at history d links new apart are none first its terms others here = record {
  took = grind (arith, steps_of, same_received);
  none_waits = its.none_waits;
  each = λ link. elim (cases_eq link at) [
    | inl e ↦ subst (λ n. LinkIs n (after_call call history) (link_at new n)) (sym e) here
    | inr other ↦ left_link leaves link call history (link_at links link) (link_at new link) (apart link other) (others link other) (its.each link)
  ];
}

-- the links are as they were
pub unchanged : (history : SinkHistory) (d : Halves) (links new : Links) → Stands history d links → SameTerms new links → ((link : ℕ) → link_at new link ≡ link_at links link) → Stands history d new
unchanged history d links new its terms same = record {
  took = grind arith;
  none_waits = its.none_waits;
  each = λ link. subst (LinkIs link history) (sym (same link)) (its.each link);
}
