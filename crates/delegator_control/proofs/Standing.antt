-- A machine stands for its steps.
use Rattle.delegator_control.proofs.Prelude.{ℕ, zero, suc, ◌≡◌, ◌+◌, Bool, true, false, map, replicate, List, [], ◌∷◌, ◌++◌, drop, Option, None, refl, sym, ap, ◌∙◌, subst, if◌then◌else◌, range_with_len, append-nil, PacRecord, control_heard, done_heard, done_by_control, Setup, Notice, changes, is_told, mtu_by, mtu_in, waiting, Entry, idle, value_at, Step, notified, mtu_set, done_by, entry_in, snapshot_of, Done, nothing, left, after, snapshot_goes_on, waiting_goes_on, none_change, Machine, StandsFor, moved, step_on, arith, option_or}
use Rattle.delegator_history.specs.declared.train_heard.ControlHeard.{ControlHeard}
use Rattle.delegator_history.specs.declared.train_heard.ControlHeard.TheVariants as controls
use Rattle.delegator_history.specs.States.{answered}

pub moved_nothing : (m : Machine) → moved nothing m ≡ m
moved_nothing m = grind (arith, changes, none_change, waiting, append-nil)

-- a step that is done
pub stands_done : (step : Step) (steps : List Step) (m now : Machine) → is_told step ≡ 0 → mtu_by step ≡ None
    → now ≡ moved (done_by m.setup m.snapshot step) m → StandsFor steps m → StandsFor (step ∷ steps) now
stands_done step steps m now quiet silent is h =
    let snapshot : after (done_by m.setup m.snapshot step) m.snapshot ≡ snapshot_of m.setup (step ∷ steps) =
    ap (λ s. after (done_by m.setup s step) s) h.snapshot ∙ sym (snapshot_goes_on m.setup step steps) in
    let more : changes m.setup.slots m.snapshot (after (done_by m.setup m.snapshot step) m.snapshot) ≡ changes m.setup.slots (snapshot_of m.setup steps) (snapshot_of m.setup (step ∷ steps)) =
    λ i. changes m.setup.slots (h.snapshot i) (snapshot i) in
    let waits : m.waiting ++ changes m.setup.slots m.snapshot (after (done_by m.setup m.snapshot step) m.snapshot) ≡ waiting m.setup (step ∷ steps) = grind (arith, drop, waiting, changes, snapshot_of, waiting_goes_on) in
    let mtu : m.mtu ≡ mtu_in (step ∷ steps) = h.mtu ∙ ap (λ o. option_or o (mtu_in steps)) (sym silent) in
    subst (StandsFor (step ∷ steps)) (sym is) (record { snapshot = snapshot; waiting = waits; mtu = mtu })

-- a step that changes nothing of what the sink has
no_more : (step : Step) (steps : List Step) (m : Machine) → after (done_by m.setup (snapshot_of m.setup steps) step) (snapshot_of m.setup steps) ≡ snapshot_of m.setup steps
    → changes m.setup.slots (snapshot_of m.setup steps) (snapshot_of m.setup (step ∷ steps)) ≡ []
no_more step steps m same =
    ap (changes m.setup.slots (snapshot_of m.setup steps)) (snapshot_goes_on m.setup step steps ∙ same)
    ∙ none_change m.setup.slots (snapshot_of m.setup steps) (snapshot_of m.setup steps) (λ i. refl)

pub stands_told : (steps : List Step) (m : Machine) → StandsFor steps m → StandsFor (notified ∷ steps) (step_on notified m)
stands_told steps m h = record {
  snapshot = h.snapshot ∙ sym (snapshot_goes_on m.setup notified steps);
  waiting = grind (arith, h.waiting, append-nil (drop 1 (waiting m.setup steps)), no_more notified steps m refl, waiting_goes_on m.setup notified steps);
  mtu = h.mtu;
}

pub stands_mtu : (mtu : ℕ) (steps : List Step) (m : Machine) → StandsFor steps m → StandsFor (mtu_set mtu ∷ steps) (step_on (mtu_set mtu) m)
stands_mtu mtu steps m h = record {
  snapshot = h.snapshot ∙ sym (snapshot_goes_on m.setup (mtu_set mtu) steps);
  waiting = grind (arith, h.waiting, append-nil (waiting m.setup steps), no_more (mtu_set mtu) steps m refl, waiting_goes_on m.setup (mtu_set mtu) steps);
  mtu = refl;
}

-- a step that changes no value gives no notice
pub moved_setting : (m : Machine) (done : Done) → ((i : ℕ) → value_at m.snapshot i ≡ value_at (after done m.snapshot) i) → record m { snapshot = after done m.snapshot } ≡ moved done m
moved_setting m done same = grind (arith, after, waiting, append-nil, none_change)

-- ---- a control PDU

pub control_leaves : (m : Machine) (octets : List ℕ) (heard : ControlHeard) (leaves : Bool) → heard ≡ control_heard m.snapshot.place octets → done_heard heard ≡ (if leaves then left else nothing)
    → leaves ≡ true → done_by_control m.snapshot.place octets ≡ left
control_leaves m octets heard leaves is done so = ap done_heard (sym is) ∙ done ∙ ap (λ b. if b then left else nothing) so

pub control_stays : (m : Machine) (octets : List ℕ) (heard : ControlHeard) (leaves : Bool) → heard ≡ control_heard m.snapshot.place octets → done_heard heard ≡ (if leaves then left else nothing)
    → leaves ≡ false → m ≡ moved (done_by_control m.snapshot.place octets) m
control_stays m octets heard leaves is done so = grind (arith, moved_nothing, moved, done_heard, left, nothing)

pub control_left : (m : Machine) (octets : List ℕ) (heard : ControlHeard) (leaves : Bool) → heard ≡ control_heard m.snapshot.place octets → done_heard heard ≡ (if leaves then left else nothing)
    → leaves ≡ true → control_heard m.snapshot.place octets ≡ controls.Left
control_left m octets heard leaves is done so = grind (arith, control_heard, control_leaves)

-- ---- a new machine

none_at : (start n : ℕ) → replicate n None ≡ map (entry_in []) (range_with_len start n)
none_at start zero = refl
none_at start (suc n) = ap (λ slots. None ∷ slots) (none_at (start + 1) n)

pub stands_new : (setup : Setup) (n : ℕ) (slots : List (Option Entry)) (entries : List PacRecord) (waits : List Notice) → setup.slots ≡ n → slots ≡ replicate n None → entries ≡ [] → waits ≡ []
    → StandsFor [] (record {
      setup = setup;
      snapshot = record { slots = slots; place = idle; encrypted = false; taken = []; capability = record { entries = entries; locations = 0; contexts = 0xFFFF } };
      waiting = waits;
      mtu = None;
    })
unfolding answered
stands_new setup n slots entries waits count none empty quiet = grind (arith, map, entry_in, range_with_len, none_at, idle, waiting)
