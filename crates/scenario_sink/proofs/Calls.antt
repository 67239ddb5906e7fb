-- A sink whose links took a call.
use Rattle.scenario_sink.proofs.Prelude.{ℕ, suc, ◌≡◌, ◌≢◌, ◌<◌, ◌≤◌, true, false, List, [], ◌∷◌, length, map, drop, slice_get, slice_set, Option, Some, None, refl, sym, ap, ◌∙◌, subst, arith, inl, inr, is_some, option_map, slice_index_or, cases_eq, IsOctets, value_of, waits_of, Assistant, IsLowest, NoneWaits, Halves, StandsFor, settings_of, Notice, written, Setup, value, Call, asked, forged, joined, parted, read, served, notified, is_joined, step_by, writes_waiting, IsApart, Told, acts_of, delivered, language, notices_waiting, reads_waiting, state, AreOctets, IsAsked, writes_one, link_at, linked, mtu_of, slots_of, with_assistant_on, Linked, asking, assistant_in, first_of, without_first, Links, SinkHistory, LinkHolds, OnLink, HasStepped, LinkIs, Stands, after_call, Takes}
use Rattle.assistant_machine.specs.Answers.{answer_of}
use Rattle.assistant_machine.specs.Calls as assistants
use Rattle.assistant_machine.specs.Views as known
use Rattle.delegator_machine.specs.Calls as machine
use Rattle.scenario_sink.proofs.Acts.{acts_joined, acts_read, acts_told, apart_joined, joins, parts, lowest_read, lowest_within, none_read, writes_asked, writes_joined, writes_kept}
use Rattle.scenario_sink.proofs.Assistants.{first_notice, forged_holds, holds_as, put_holds, read_holds, sent_holds, told_holds, waiting_writes}
use Rattle.scenario_sink.proofs.Fresh.{anew_holds}
use Rattle.scenario_sink.proofs.Places.{at_it, at_other, lent, lent_elsewhere, lent_same, lent_terms, one_of_four}
use Rattle.scenario_sink.proofs.Stands.{Leaves, SameTerms, has_stepped, on_as, on_none, on_some, one_link, unchanged}

-- ---- a link that is joined

pub record Here (link : ℕ) (history : SinkHistory) (links : Links) : Type 0 where
  pub on : Linked
  pub there : link_at links link ≡ Some on
  pub holds : LinkHolds history.made.setup.slots history.made.mtu (acts_of history.made.setup history.made.mtu link history.calls_made) (writes_waiting link history.calls_made) on

pub here : (link : ℕ) (history : SinkHistory) (d : Halves) (links : Links) → Stands history d links → is_joined link history.calls_made ≡ true → Here link history links
here link history d links its is_on = by (link_at links link) refl
  where
    by : (on : Option Linked) → link_at links link ≡ on → Here link history links
    by None is = absurd (let no : false ≡ true = sym (ap is_some is) ∙ (its.each link).joined_is ∙ is_on in cc)
    by (Some on) is = record { on = on; there = is; holds = (its.each link).holds on is }

pub its_assistant : (link : ℕ) (history : SinkHistory) (links : Links) → (h : Here link history links) → assistant_in (link_at links link) ≡ Some h.on.assistant
its_assistant link history links h = ap assistant_in h.there

-- what stands there now
set_on : (link : ℕ) (history : SinkHistory) (links : Links) (on : Linked) → link_at links link ≡ Some on → is_joined link history.calls_made ≡ true
    → LinkHolds history.made.setup.slots history.made.mtu (acts_of history.made.setup history.made.mtu link history.calls_made) (writes_waiting link history.calls_made) on → LinkIs link history (link_at links link)
set_on link history links on there is holds = subst (LinkIs link history) (sym there) (on_some is holds)

taken_there : (calls : List assistants.Call) (link : ℕ) (on : Linked) (old new : Links) → link_at old link ≡ Some on → (t : Takes calls link on.assistant old new)
    → link_at new link ≡ Some (record on { assistant = t.after })
taken_there calls link on old new there t = ap (λ (ls : Links). link_at ls link) t.links ∙ lent old link on t.after there

taken_others : (calls : List assistants.Call) (link : ℕ) (on : Linked) (old new : Links) → link_at old link ≡ Some on → (t : Takes calls link on.assistant old new)
    → (other : ℕ) → other ≢ link → link_at new other ≡ link_at old other
taken_others calls link on old new there t other apart = ap (λ (ls : Links). link_at ls other) t.links ∙ lent_elsewhere old link other on t.after there apart

taken_terms : (calls : List assistants.Call) (link : ℕ) (on : Linked) (old new : Links) → link_at old link ≡ Some on → (t : Takes calls link on.assistant old new) → SameTerms new old
taken_terms calls link on old new there t =
    let same = lent_terms old link on t.after there in
    (ap slots_of t.links ∙ same.0, ap mtu_of t.links ∙ same.1)

-- its assistant took calls
takes_one : Leaves → (call : Call) (link : ℕ) (history : SinkHistory) (d : Halves) (old new : Links) (on : Linked) (took : List assistants.Call)
    → ((other : ℕ) → other ≢ link → IsApart other call) → IsAsked call → step_by call history.calls_made ≡ None → is_joined 0 (call ∷ history.calls_made) ≡ true
    → Stands history d old → link_at old link ≡ Some on → (t : Takes took link on.assistant old new) → is_joined link (call ∷ history.calls_made) ≡ true
    → LinkHolds history.made.setup.slots history.made.mtu (acts_of history.made.setup history.made.mtu link (call ∷ history.calls_made)) (writes_waiting link (call ∷ history.calls_made)) (record on { assistant = t.after })
    → Stands (after_call call history) d new
takes_one leaves call link history d old new on took apart are none first its there t is_on holds =
    one_link leaves call link history d old new apart are none first its (taken_terms took link on old new there t) (taken_others took link on old new there t)
    (set_on link (after_call call history) new (record on { assistant = t.after }) (taken_there took link on old new there t) is_on holds)

-- its assistant was lent, and left as it was
pub kept : (link : ℕ) (history : SinkHistory) (d : Halves) (old new : Links) (its : Stands history d old) (is_on : is_joined link history.calls_made ≡ true)
    → new ≡ with_assistant_on old link (here link history d old its is_on).on.assistant → Stands history d new
kept link history d old new its is_on links = grind (arith, here, lent_terms, unchanged, slots_of, mtu_of, link_at, lent_same)

-- ---- a write that is put

pub asks : Leaves → (link : ℕ) (octets : List ℕ) (history : SinkHistory) (d : Halves) (old new : Links) (its : Stands history d old) (is_on : is_joined link history.calls_made ≡ true) → IsOctets octets
    → Takes (assistants.put octets ∷ []) link (here link history d old its is_on).on.assistant old new → Stands (after_call (asked link octets) history) d new
asks leaves link octets history d old new its is_on are t =
    let h : Here link history old = here link history d old its is_on in
    takes_one leaves (asked link octets) link history d old new h.on (assistants.put octets ∷ []) (λ other apart e. apart (sym e)) are refl its.took.first its h.there t is_on
    (grind (arith, acts_of, writes_asked, put_holds, writes_waiting))

-- ---- a write that is served

pub first_write : (link : ℕ) (history : SinkHistory) (links : Links) (h : Here link history links) (write : List ℕ) → h.on.assistant.writes ≡ write ∷ drop 1 h.on.assistant.writes
    → slice_get (writes_waiting link history.calls_made) 0 ≡ Some write
first_write link history links h write is = grind (arith, slice_get, waiting_writes, acts_of, writes_waiting)

pub no_write : (link : ℕ) (history : SinkHistory) (links : Links) (h : Here link history links) → h.on.assistant.writes ≡ [] → writes_waiting link history.calls_made ≡ []
no_write link history links h is = grind (arith, waiting_writes, acts_of, writes_waiting)

-- the write is off its link, and the delegator served it
pub serves : (link : ℕ) (write : List ℕ) (history : SinkHistory) (d served_by : Halves) (old new : Links) (its : Stands history d old) (is_on : is_joined link history.calls_made ≡ true)
    → (here link history d old its is_on).on.assistant.writes ≡ write ∷ drop 1 (here link history d old its is_on).on.assistant.writes
    → Takes (assistants.sent ∷ []) link (here link history d old its is_on).on.assistant old new
    → StandsFor history.made.setup (machine.control (written write) ∷ its.took.taken) served_by → settings_of served_by ≡ settings_of d
    → HasStepped (served link) history served_by new
serves link write history d served_by old new its is_on first t stood settings =
    let h : Here link history old = here link history d old its is_on in
    has_stepped (written write) (served link) history d served_by old new refl tt
    (ap (option_map written) (first_write link history old h write first)) tt its stood settings
    (taken_terms (assistants.sent ∷ []) link h.on old new h.there t) (λ other. elim (cases_eq other link) [
      | inl e ↦ subst (λ n. Left n (link_at new n)) (sym e) (subst (Left link) (sym (taken_there (assistants.sent ∷ []) link h.on old new h.there t)) (on_some is_on
          (subst (λ writes. LinkHolds history.made.setup.slots history.made.mtu (acts_of history.made.setup history.made.mtu link history.calls_made) writes (record h.on { assistant = t.after }))
          (sym (writes_one link history.calls_made))
          (sent_holds history.made.setup.slots history.made.mtu (acts_of history.made.setup history.made.mtu link history.calls_made) (writes_waiting link history.calls_made) h.on t.after t.stands h.holds))))
      | inr apart ↦ on_as refl refl (writes_kept other link history.calls_made apart) (taken_others (assistants.sent ∷ []) link h.on old new h.there t other apart) (its.each other)
    ])
  where
    Left : ℕ → Option Linked → Type 0
    Left n on = OnLink history.made.setup.slots history.made.mtu (is_joined n history.calls_made) (acts_of history.made.setup history.made.mtu n history.calls_made) (writes_waiting n (served link ∷ history.calls_made)) on

-- ---- a notice that is delivered

pub tells_of : (link : ℕ) (history : SinkHistory) (links : Links) (h : Here link history links)
    → first_of (link_at links link) ≡ option_map (delivered history.made.mtu) (slice_get (notices_waiting history.made.setup history.made.mtu link history.calls_made) 0)
tells_of link history links h =
    ap first_of h.there ∙ first_notice history.made.setup.slots history.made.mtu (acts_of history.made.setup history.made.mtu link history.calls_made) (writes_waiting link history.calls_made) h.on h.holds
    ∙ first_mapped (notices_waiting history.made.setup history.made.mtu link history.calls_made)
  where
    first_mapped : (ns : List Told) → slice_get (map (delivered history.made.mtu) ns) 0 ≡ option_map (delivered history.made.mtu) (slice_get ns 0)
    first_mapped [] = refl
    first_mapped (n ∷ ns) = refl

-- the first one that waits
record First (mtu : Option ℕ) (notice : Notice) (waiting : List Told) : Type 0 where
  first : Told
  rest : List Told
  is : waiting ≡ first ∷ rest
  same : notice ≡ delivered mtu first

first_notified : (mtu : Option ℕ) (notice : Notice) (waiting : List Told) → Some notice ≡ option_map (delivered mtu) (slice_get waiting 0) → First mtu notice waiting
first_notified mtu notice [] is = absurd cc
first_notified mtu notice (first ∷ rest) is = record { first = first; rest = rest; is = refl; same = cc }

pub delivers : Leaves → (link : ℕ) (history : SinkHistory) (d : Halves) (old mid new : Links) (notice : Notice) (its : Stands history d old) (is_on : is_joined link history.calls_made ≡ true)
    → Some notice ≡ first_of (link_at old link) → linked mid ≡ slice_set (linked old) link (without_first (link_at old link)) → SameTerms mid old
    → ((before : Assistant) → assistant_in (link_at mid link) ≡ Some before → Takes (assistants.notified notice.slot notice.value ∷ []) link before mid new)
    → Stands (after_call (notified link) history) d new
delivers leaves link history d old mid new notice its is_on handed links terms takes =
    let h : Here link history old = here link history d old its is_on in
    let slots : ℕ = history.made.setup.slots in
    let waiting : List Told = notices_waiting history.made.setup history.made.mtu link history.calls_made in
    let left : Linked = record h.on { waiting = drop 1 h.on.waiting } in
    let there : link_at mid link ≡ Some left = at_it old mid link (without_first (link_at old link)) links (one_of_four old link h.on h.there) ∙ ap without_first h.there in
    let took : List assistants.Call = assistants.notified notice.slot notice.value ∷ [] in
    let t : Takes took link h.on.assistant mid new = takes h.on.assistant (ap assistant_in there) in
    let first : First history.made.mtu notice waiting = first_notified history.made.mtu notice waiting (handed ∙ tells_of link history old h) in
    let more = taken_terms took link left mid new there t in
    one_link leaves (notified link) link history d old new (λ other apart e. apart (sym e)) tt refl its.took.first its (more.0 ∙ terms.0, more.1 ∙ terms.1)
    (λ other apart. taken_others took link left mid new there t other apart ∙ at_other old mid link (without_first (link_at old link)) links other apart)
    (set_on link (after_call (notified link) history) new (record left { assistant = t.after }) (taken_there took link left mid new there t) is_on
    (subst (λ acts. LinkHolds slots history.made.mtu acts (writes_waiting link history.calls_made) (record left { assistant = t.after }))
    (sym (acts_told history.made.setup history.made.mtu link history.calls_made first.first first.rest first.is))
    (search (told_holds, acts_of, writes_waiting))))

-- none waits
pub none_taken : (link : ℕ) (history : SinkHistory) (d : Halves) (old new : Links) (its : Stands history d old) (is_on : is_joined link history.calls_made ≡ true) → None ≡ first_of (link_at old link)
    → linked new ≡ slice_set (linked old) link (without_first (link_at old link)) → SameTerms new old → Stands history d new
none_taken link history d old new its is_on handed links terms =
    let h : Here link history old = here link history d old its is_on in
    unchanged history d old new its terms (grind (arith, cases_eq, link_at, at_other, without_first))

-- ---- a notice that is forged

pub forges : Leaves → (slot : ℕ) (octets : List ℕ) (history : SinkHistory) (d : Halves) (old new : Links) (its : Stands history d old)
    → Takes (assistants.notified slot octets ∷ []) 0 (here 0 history d old its its.took.first).on.assistant old new → Stands (after_call (forged slot octets) history) d new
forges leaves slot octets history d old new its t =
    let h : Here 0 history old = here 0 history d old its its.took.first in
    takes_one leaves (forged slot octets) 0 history d old new h.on (assistants.notified slot octets ∷ []) (λ other apart e. apart (sym e)) tt refl its.took.first its h.there t its.took.first
    (forged_holds history.made.setup.slots history.made.mtu (acts_of history.made.setup history.made.mtu 0 history.calls_made) (writes_waiting 0 history.calls_made) h.on slot octets t.after t.heard.0 t.stands h.holds)

-- ---- a read that is served

pub which_read : (link : ℕ) (history : SinkHistory) (links : Links) (h : Here link history links) (slot : ℕ) → IsLowest h.on.assistant.reads slot
    → slice_get (reads_waiting history.made.setup history.made.mtu link history.calls_made) 0 ≡ Some slot
which_read link history links h slot lowest = grind (arith, lowest_read, waits_of, language, acts_of)

pub slot_there : (link : ℕ) (history : SinkHistory) (links : Links) (h : Here link history links) (slot : ℕ) → IsLowest h.on.assistant.reads slot → slot < history.made.setup.slots
slot_there link history links h slot lowest = lowest_within h.on.assistant.reads history.made.setup.slots slot h.holds.assistant.reads_count lowest

pub no_read : (link : ℕ) (history : SinkHistory) (links : Links) (h : Here link history links) → NoneWaits h.on.assistant.reads → reads_waiting history.made.setup history.made.mtu link history.calls_made ≡ []
no_read link history links h none = grind (arith, none_read, waits_of, language, acts_of)

abbrev pub GivesState : Type 0
GivesState = (setup : Setup) (mtu : Option ℕ) (link slot : ℕ) (calls : List Call) → setup.slots < 256 → slot < setup.slots → AreOctets calls
    → value_of (language mtu) slot (acts_of setup mtu link calls) ≡ state setup slot calls

pub reads_one : Leaves → GivesState → (link slot : ℕ) (octets : List ℕ) (history : SinkHistory) (d : Halves) (old mid new : Links) (its : Stands history d old)
    (is_on : is_joined link history.calls_made ≡ true) → history.made.setup.slots < 256 → IsLowest (here link history d old its is_on).on.assistant.reads slot
    → octets ≡ value (state history.made.setup slot history.calls_made) → Takes (assistants.asked slot ∷ []) link (here link history d old its is_on).on.assistant old mid
    → ((before : Assistant) → assistant_in (link_at mid link) ≡ Some before → Takes (assistants.read slot octets ∷ []) link before mid new)
    → Stands (after_call (read link) history) d new
reads_one leaves gives link slot octets history d old mid new its is_on few lowest is wanted takes =
    let h : Here link history old = here link history d old its is_on in
    let took : List assistants.Call = assistants.read slot octets ∷ [] in
    let left : Linked = record h.on { assistant = wanted.after } in
    let there : link_at mid link ≡ Some left = taken_there (assistants.asked slot ∷ []) link h.on old mid h.there wanted in
    let t : Takes took link wanted.after mid new = takes wanted.after (ap assistant_in there) in
    let terms = taken_terms (assistants.asked slot ∷ []) link h.on old mid h.there wanted in
    let more = taken_terms took link left mid new there t in
    let given : value_of (language history.made.mtu) slot (acts_of history.made.setup history.made.mtu link history.calls_made) ≡ state history.made.setup slot history.calls_made =
    gives history.made.setup history.made.mtu link slot history.calls_made few (slot_there link history old h slot lowest) its.took.octets in
    one_link leaves (read link) link history d old new (λ other apart e. apart (sym e)) tt refl its.took.first its (more.0 ∙ terms.0, more.1 ∙ terms.1)
    (λ other apart. taken_others took link left mid new there t other apart ∙ taken_others (assistants.asked slot ∷ []) link h.on old mid h.there wanted other apart)
    (set_on link (after_call (read link) history) new (record left { assistant = t.after }) (taken_there took link left mid new there t) is_on
    (subst (λ acts. LinkHolds history.made.setup.slots history.made.mtu acts (writes_waiting link history.calls_made) (record left { assistant = t.after }))
    (sym (acts_read history.made.setup history.made.mtu link history.calls_made slot (which_read link history old h slot lowest)))
    (read_holds history.made.setup.slots history.made.mtu (acts_of history.made.setup history.made.mtu link history.calls_made) (writes_waiting link history.calls_made) h.on slot octets wanted.after t.after
    (is ∙ ap value (sym given)) t.heard.0 wanted.stands t.stands h.holds)))

-- ---- who is there

pub joins_one : Leaves → (link : ℕ) (history : SinkHistory) (d : Halves) (old new : Links) (its : Stands history d old) → link ≤ 3 → SameTerms new old
    → linked new ≡ slice_set (linked old) link (Some (asking (slots_of old) (mtu_of old))) → Stands (after_call (joined link) history) d new
joins_one leaves link history d old new its least terms links =
    let on : Linked = asking history.made.setup.slots history.made.mtu in
    one_link leaves (joined link) link history d old new (λ other apart e. apart (sym e)) tt refl (grind (arith, cases_eq, is_joined, joined, joins, apart_joined)) its terms (at_other old new link (Some (asking (slots_of old) (mtu_of old))) links)
    (grind (arith, set_on, after_call, joined, joins, holds_as, acts_of, writes_waiting, acts_joined, writes_joined, anew_holds))

pub parts_one : Leaves → (link : ℕ) (history : SinkHistory) (d : Halves) (old new : Links) (its : Stands history d old) → 1 ≤ link → link ≤ 3 → SameTerms new old
    → linked new ≡ slice_set (linked old) link None → Stands (after_call (parted link) history) d new
parts_one leaves link history d old new its some least terms links =
    one_link leaves (parted link) link history d old new (λ other apart e. apart (sym e)) tt refl (apart_joined 0 (parted link) history.calls_made (λ e. omega (arith, e, some)) ∙ its.took.first)
    its terms (at_other old new link None links)
    (subst (LinkIs link (after_call (parted link) history)) (sym (at_it old new link None links least)) (on_none (parts link history.calls_made)))

-- ---- what is answered

by_get : {A : Type 0} (xs : List (Option A)) (i : ℕ) (x : Option A) → slice_get xs i ≡ Some x → slice_index_or xs i None ≡ x
by_get (y ∷ xs) (suc i) x is = by_get xs i x is
by_get xs i x is = search

pub its_view : (link : ℕ) (history : SinkHistory) (links : Links) (h : Here link history links) (slot : ℕ) → slot < history.made.setup.slots
    → slice_index_or h.on.assistant.views slot None ≡ known.view_of slot h.holds.taken
its_view link history links h slot below = by_get h.on.assistant.views slot (known.view_of slot h.holds.taken) (h.holds.assistant.views slot below)

pub its_answer : (link : ℕ) (history : SinkHistory) (links : Links) (h : Here link history links) (slot : ℕ) (octets : List ℕ)
    → answer_of (length h.on.assistant.views) h.on.assistant.mtu slot octets ≡ answer_of history.made.setup.slots history.made.mtu slot octets
its_answer link history links h slot octets = grind arith

-- a sink has its slots
pub slots_there : (history : SinkHistory) (d : Halves) (links : Links) (slots : ℕ) → Stands history d links → d.scan.setup.slots ≡ slots → history.made.setup.slots ≡ slots
slots_there history d links slots its fits = sym (ap (λ (s : Setup). s.slots) its.took.stands.setup_is) ∙ fits
