-- The place looked back for, and what goes with it, as one more step is answered.
use Rattle.delegator_history.proofs.Prelude.{ℕ, ◌≡◌, Bool, true, false, List, [], ◌∷◌, Option, Some, None, refl, sym, ap, ◌∙◌, ◌==◌, ◌&&◌, not, unwrap_or, if◌then◌else◌, option_or, eqb-true, eq-eqb, last_given, Place, Snapshot, idle, on_train, on_group, slot_of, is_slot, is_on, is_on_group, entry_at, Done, nothing, added, modified, removed, tuned, followed, joined, lost, left, recorded, located, opened, same_streams, wishes_at, place_left, place_given, place_after, encryption_given, encrypted_on, taken_given, taken_on, placed, Setup, Answered, Step, done_by, snapshot_in, place_in, encryption_by, encrypted_in, encrypted_where, taken_in, arith}
use Rattle.delegator_history.specs.States.{answered}

-- ---- what is given with a place

-- no place, no encryption and no streams
pub none_given : (snapshot : Snapshot) (done : Done) → place_given snapshot done ≡ None → (encryption_given done ≡ None) × (taken_given done ≡ None)
none_given snapshot nothing e = (refl, refl)
none_given snapshot (added slot entry) e = (refl, refl)
none_given snapshot (modified slot wanted) e = (refl, refl)
none_given snapshot (removed slot) e = (refl, refl)
none_given snapshot tuned e = absurd cc
none_given snapshot (followed slot encrypted) e = absurd cc
none_given snapshot (joined slot encrypted taken) e = absurd cc
none_given snapshot lost e = absurd cc
none_given snapshot left e = (refl, refl)
none_given snapshot (recorded entry) e = (refl, refl)
none_given snapshot (located locations) e = (refl, refl)
none_given snapshot (opened contexts) e = (refl, refl)

-- the group of a slot comes with streams
wanted_group : (a b c : Bool) (slot other : ℕ) → (if a then (if b then Some idle else (if c then Some (on_train slot) else None)) else None) ≡ Some (on_group (Some other)) → ⊥
wanted_group a b c slot other e = grind arith

left_group : (place : Place) (other : ℕ) → place_left place ≡ Some (on_group (Some other)) → ⊥
left_group idle other e = cc
left_group (on_train slot) other e = cc
left_group (on_group None) other e = cc
left_group (on_group (Some slot)) other e = cc

pub group_given : (snapshot : Snapshot) (done : Done) (slot : ℕ) → place_given snapshot done ≡ Some (on_group (Some slot)) → (taken : List ℕ) × (taken_given done ≡ Some taken)
group_given snapshot nothing slot e = absurd cc
group_given snapshot (added other entry) slot e = absurd cc
group_given snapshot (modified other wanted) slot e =
    absurd (wanted_group (is_on snapshot.place other) (wanted.pa_sync == 0) (is_on_group snapshot.place other && not (same_streams wanted.wishes (wishes_at (entry_at snapshot.slots other)))) other slot e)
group_given snapshot (removed other) slot e = absurd cc
group_given snapshot tuned slot e = absurd cc
group_given snapshot (followed other encrypted) slot e = absurd cc
group_given snapshot (joined other encrypted taken) slot e = (taken, refl)
group_given snapshot lost slot e = absurd cc
group_given snapshot left slot e = absurd (left_group snapshot.place slot e)
group_given snapshot (recorded entry) slot e = absurd cc
group_given snapshot (located locations) slot e = absurd cc
group_given snapshot (opened contexts) slot e = absurd cc

-- ---- the place

pub place_goes_on : (n : ℕ) (steps : List Answered) (done : Done)
    → place_in (record { before = snapshot_in n steps; done = done } ∷ steps) ≡ place_after (snapshot_in n steps) done
place_goes_on n steps done = grind (arith, place_given, snapshot_in, last_given, idle)

-- ---- encryption

pub on_itself : (slot : ℕ) (place : Place) → slot_of place ≡ Some slot → is_on place slot ≡ true
on_itself slot place is = ap (λ s. is_slot s slot) is ∙ eq-eqb slot slot refl

pub choose : {A : Type 0} (b : Bool) (x y : A) → b ≡ true → (if b then x else y) ≡ x
choose b x y e = grind arith

pub refuse : {A : Type 0} (b : Bool) (x y : A) → b ≡ false → (if b then x else y) ≡ y
refuse b x y e = grind arith

-- where the sink is neither on the train nor on the group of the slot none is required
pub not_on : (setup : Setup) (steps : List Step) (slot : ℕ) → is_on (place_in (answered setup steps)) slot ≡ false → encrypted_in (answered setup steps) slot ≡ false
unfolding answered
not_on setup [] slot off = refl
not_on setup (step ∷ earlier) slot off = grind (arith, snapshot_in, done_by, is_on, place_after, place_goes_on, unwrap_or, option_or, last_given, encryption_by, refuse, encryption_given)

-- what was found before, of a slot that the sink may have been on
kept : (steps : List Answered) (slot : ℕ) (before : Option ℕ) (b : Bool) → is_slot before slot ≡ b
    → (b ≡ false → encrypted_in steps slot ≡ false) → encrypted_in steps slot ≡ (b && encrypted_where steps before)
kept steps slot before b is off = grind (arith, encrypted_in, eqb-true)

encryption_on : (n : ℕ) (steps : List Answered) (done : Done) (place : Place) (slot : Option ℕ) → slot_of place ≡ slot
    → place_after (snapshot_in n steps) done ≡ place → ((s : ℕ) → is_on (place_in steps) s ≡ false → encrypted_in steps s ≡ false)
    → encrypted_where (record { before = snapshot_in n steps; done = done } ∷ steps) slot
    ≡ encrypted_on slot (place_in steps) (encryption_given done) (encrypted_where steps (slot_of (place_in steps)))
encryption_on n steps done place slot is there off =
    grind (
      arith,
      is_on,
      place_after,
      snapshot_in,
      on_itself,
      unwrap_or,
      option_or,
      last_given,
      encryption_by,
      choose,
      encryption_given,
      kept,
      slot_of,
      place_in,
    )

-- a place that stays keeps it
encryption_stays : (steps : List Answered) (slot : Option ℕ) (before : Place) → slot_of before ≡ slot → (old : Bool) → (slot ≡ None → old ≡ false)
    → encrypted_on slot before None old ≡ old
encryption_stays steps slot before is old none = grind (arith, on_itself)

where_none : (steps : List Answered) (slot : Option ℕ) → slot ≡ None → encrypted_where steps slot ≡ false
where_none steps slot e = grind arith

pub encryption_goes_on : (n : ℕ) (steps : List Answered) (done : Done) (given : Option Place) → place_given (snapshot_in n steps) done ≡ given
    → ((s : ℕ) → is_on (place_in steps) s ≡ false → encrypted_in steps s ≡ false) → (snapshot : Snapshot)
    → snapshot.place ≡ place_in steps → snapshot.encrypted ≡ encrypted_where steps (slot_of (place_in steps))
    → encrypted_where (record { before = snapshot_in n steps; done = done } ∷ steps) (slot_of (place_in (record { before = snapshot_in n steps; done = done } ∷ steps)))
    ≡ (placed given (encryption_given done) (taken_given done) snapshot).encrypted
encryption_goes_on n steps done None is off snapshot p e = grind (arith, place_in, place_after, snapshot_in, unwrap_or, encrypted_where, slot_of, place_goes_on, encryption_on, encrypted_on, none_given, encryption_stays, where_none)
encryption_goes_on n steps done (Some place) is off snapshot p e = grind (arith, place_in, place_after, snapshot_in, unwrap_or, encrypted_where, slot_of, place_goes_on, encryption_on, encrypted_on, encryption_given)

-- ---- streams

taken_stays : (steps : List Answered) (a : Answered) (place : Place) → taken_given a.done ≡ None → taken_in (a ∷ steps) place ≡ taken_in steps place
taken_stays steps a idle none = refl
taken_stays steps a (on_train slot) none = refl
taken_stays steps a (on_group None) none = refl
taken_stays steps a (on_group (Some slot)) none =
    ap (λ o. unwrap_or (option_or o (last_given (λ step. taken_given step.done) steps)) []) none

taken_there : (steps : List Answered) (a : Answered) (place : Place) (old : List ℕ)
    → ((slot : ℕ) → place ≡ on_group (Some slot) → (taken : List ℕ) × (taken_given a.done ≡ Some taken))
    → taken_in (a ∷ steps) place ≡ taken_on place (taken_given a.done) old
taken_there steps a idle old some = refl
taken_there steps a (on_train slot) old some = refl
taken_there steps a (on_group None) old some = refl
taken_there steps a (on_group (Some slot)) old some =
    let t = some slot refl in
    ap (λ o. unwrap_or (option_or o (last_given (λ step. taken_given step.done) steps)) []) t.1 ∙ ap (λ o. unwrap_or o old) (sym t.1)

pub taken_goes_on : (n : ℕ) (steps : List Answered) (done : Done) (given : Option Place) → place_given (snapshot_in n steps) done ≡ given → (snapshot : Snapshot)
    → snapshot.taken ≡ taken_in steps (place_in steps)
    → taken_in (record { before = snapshot_in n steps; done = done } ∷ steps) (place_in (record { before = snapshot_in n steps; done = done } ∷ steps))
    ≡ (placed given (encryption_given done) (taken_given done) snapshot).taken
taken_goes_on n steps done None is snapshot t = grind (arith, place_in, snapshot_in, place_after, unwrap_or, taken_in, place_goes_on, taken_stays, none_given)
taken_goes_on n steps done (Some place) is snapshot t =
    let P : Place = place_in steps in
    let a : Answered = record { before = snapshot_in n steps; done = done } in
    let after : place_after (snapshot_in n steps) done ≡ place = ap (λ o. unwrap_or o P) is in
    ap (taken_in (a ∷ steps)) (place_goes_on n steps done ∙ after)
    ∙ taken_there steps a place snapshot.taken (λ slot on. group_given (snapshot_in n steps) done slot (is ∙ ap (λ p. Some p) on))
