-- What is looked back for goes on by what each step does.
use Rattle.delegator_history.proofs.Prelude.{ℕ, ◌≡◌, ◌≢◌, ◌+◌, Bool, true, false, List, [], ◌∷◌, ◌++◌, map, Option, Some, None, refl, sym, ap, ◌∙◌, arith, ◌==◌, unwrap_or, option_or, range_with_len, eqb-true, eq-eqb, append-nil, Capability, last_given, Wanted, Entry, Place, Snapshot, slot_of, is_on, entry_at, Done, nothing, added, modified, removed, tuned, followed, joined, lost, left, recorded, located, opened, place_given, encryption_given, taken_given, wanting, slots_after, capability_after, placed, after, Setup, Answered, Step, done_by, snapshot_in, snapshot_of, place_in, encrypted_in, encrypted_where, taken_in, source_by, wanted_by, entry_from, unwanted, source_in, wanted_in, entry_in, records_in, capability_in}
use Rattle.delegator_history.specs.States.{answered}
use Rattle.delegator_history.proofs.Lists.{map_changes_first, map_at}
use Rattle.delegator_history.proofs.Places.{place_goes_on, encryption_goes_on, taken_goes_on, not_on, refuse, choose}

-- ---- a slot

not_eq : (a b : ℕ) → a ≢ b → (a == b) ≡ false
not_eq a b not = go (a == b) refl
  where
    go : (t : Bool) → (a == b) ≡ t → t ≡ false
    go true is = absurd (not (eqb-true a b is))
    go false is = refl

-- an entry of which the step says nothing
same_entry : (steps : List Answered) (before : Snapshot) (done : Done) (slot : ℕ) → source_by slot done ≡ None → wanted_by slot done ≡ None
    → entry_in (record { before = before; done = done } ∷ steps) slot ≡ entry_in steps slot
same_entry steps before done slot s w = grind (arith, entry_from, unwrap_or, option_or, last_given, source_by, wanted_by, unwanted)

added_here : (steps : List Answered) (before : Snapshot) (slot : ℕ) (entry : Entry) → entry_in (record { before = before; done = added slot entry } ∷ steps) slot ≡ Some entry
added_here steps before slot entry =
    grind (arith, entry_from, unwrap_or, option_or, choose, eq-eqb, last_given, source_by, wanted_by, unwanted)

removed_here : (steps : List Answered) (before : Snapshot) (slot : ℕ) → entry_in (record { before = before; done = removed slot } ∷ steps) slot ≡ None
removed_here steps before slot = grind (arith, entry_from, unwrap_or, option_or, choose, eq-eqb, last_given, source_by, wanted_in)

modified_here : (steps : List Answered) (before : Snapshot) (slot : ℕ) (wanted : Wanted)
    → entry_in (record { before = before; done = modified slot wanted } ∷ steps) slot ≡ wanting wanted (entry_in steps slot)
modified_here steps before slot wanted =
    grind (arith, entry_from, source_in, unwrap_or, option_or, choose, eq-eqb, last_given, wanted_by, unwanted, wanted_in)

zero_more : (slot : ℕ) → 0 + slot ≡ slot
zero_more slot = omega arith

slots_go_on : (n : ℕ) (steps : List Answered) (before : Snapshot) (done : Done)
    → map (entry_in (record { before = before; done = done } ∷ steps)) (range_with_len 0 n) ≡ slots_after done (map (entry_in steps) (range_with_len 0 n))
slots_go_on n steps before nothing = refl
slots_go_on n steps before (added slot entry) =
    map_changes_first (entry_in steps) (entry_in (record { before = before; done = added slot entry } ∷ steps)) n slot (Some entry)
    (λ i other. same_entry steps before (added slot entry) i
    (refuse (slot == i) (Some (Some entry.source)) None (not_eq slot i (λ is. other (sym is))))
    (refuse (slot == i) (Some entry.wanted) None (not_eq slot i (λ is. other (sym is))))) (λ below. added_here steps before slot entry)
slots_go_on n steps before (modified slot wanted) =
    map_changes_first (entry_in steps) (entry_in (record { before = before; done = modified slot wanted } ∷ steps)) n slot
    (wanting wanted (entry_at (map (entry_in steps) (range_with_len 0 n)) slot))
    (λ i other. same_entry steps before (modified slot wanted) i refl (refuse (slot == i) (Some wanted) None (not_eq slot i (λ is. other (sym is)))))
    (λ below. modified_here steps before slot wanted ∙ ap (wanting wanted) (sym (map_at (entry_in steps) 0 n slot None below ∙ ap (entry_in steps) (zero_more slot))))
slots_go_on n steps before (removed slot) =
    map_changes_first (entry_in steps) (entry_in (record { before = before; done = removed slot } ∷ steps)) n slot None
    (λ i other. same_entry steps before (removed slot) i (refuse (slot == i) (Some None) None (not_eq slot i (λ is. other (sym is)))) refl)
    (λ below. removed_here steps before slot)
slots_go_on n steps before tuned = refl
slots_go_on n steps before (followed slot encrypted) = refl
slots_go_on n steps before (joined slot encrypted taken) = refl
slots_go_on n steps before lost = refl
slots_go_on n steps before left = refl
slots_go_on n steps before (recorded entry) = refl
slots_go_on n steps before (located locations) = refl
slots_go_on n steps before (opened contexts) = refl

-- ---- the capability

no_record : (steps : List Answered) (locations contexts : ℕ)
    → ◌≡◌ {A = Capability} (record { entries = records_in steps ++ []; locations = locations; contexts = contexts }) (record { entries = records_in steps; locations = locations; contexts = contexts })
no_record steps locations contexts = λ i. record { entries = append-nil (records_in steps) i; locations = locations; contexts = contexts }

capability_goes_on : (steps : List Answered) (before : Snapshot) (done : Done)
    → capability_in (record { before = before; done = done } ∷ steps) ≡ capability_after done (capability_in steps)
capability_goes_on steps before nothing = no_record steps (capability_in steps).locations (capability_in steps).contexts
capability_goes_on steps before (added slot entry) = no_record steps (capability_in steps).locations (capability_in steps).contexts
capability_goes_on steps before (modified slot wanted) = no_record steps (capability_in steps).locations (capability_in steps).contexts
capability_goes_on steps before (removed slot) = no_record steps (capability_in steps).locations (capability_in steps).contexts
capability_goes_on steps before tuned = no_record steps (capability_in steps).locations (capability_in steps).contexts
capability_goes_on steps before (followed slot encrypted) = no_record steps (capability_in steps).locations (capability_in steps).contexts
capability_goes_on steps before (joined slot encrypted taken) = no_record steps (capability_in steps).locations (capability_in steps).contexts
capability_goes_on steps before lost = no_record steps (capability_in steps).locations (capability_in steps).contexts
capability_goes_on steps before left = no_record steps (capability_in steps).locations (capability_in steps).contexts
capability_goes_on steps before (recorded entry) = refl
capability_goes_on steps before (located locations) = no_record steps locations (capability_in steps).contexts
capability_goes_on steps before (opened contexts) = no_record steps (capability_in steps).locations contexts

-- ---- all of it

placed_place : (before : Snapshot) (given : Option Place) (encryption : Option Bool) (taken : Option (List ℕ)) (snapshot : Snapshot) → snapshot.place ≡ before.place
    → unwrap_or given before.place ≡ (placed given encryption taken snapshot).place
placed_place before given encryption taken snapshot same = grind arith

placed_slots : (given : Option Place) (encryption : Option Bool) (taken : Option (List ℕ)) (snapshot : Snapshot) → snapshot.slots ≡ (placed given encryption taken snapshot).slots
placed_slots given encryption taken snapshot = grind arith

placed_capability : (given : Option Place) (encryption : Option Bool) (taken : Option (List ℕ)) (snapshot : Snapshot) → snapshot.capability ≡ (placed given encryption taken snapshot).capability
placed_capability given encryption taken snapshot = grind arith

in_goes_on : (n : ℕ) (steps : List Answered) (done : Done) → ((s : ℕ) → is_on (place_in steps) s ≡ false → encrypted_in steps s ≡ false)
    → snapshot_in n (record { before = snapshot_in n steps; done = done } ∷ steps) ≡ after done (snapshot_in n steps)
in_goes_on n steps done off =
    let S : Snapshot = snapshot_in n steps in
    let given : Option Place = place_given S done in
    let changed : Snapshot = record S { slots = slots_after done S.slots; capability = capability_after done S.capability } in
    let a : Answered = record { before = S; done = done } in
    let end : Snapshot = placed given (encryption_given done) (taken_given done) changed in
    let slots : map (entry_in (a ∷ steps)) (range_with_len 0 n) ≡ end.slots =
    slots_go_on n steps S done ∙ placed_slots given (encryption_given done) (taken_given done) changed in
    let place : place_in (a ∷ steps) ≡ end.place =
    place_goes_on n steps done ∙ placed_place S given (encryption_given done) (taken_given done) changed refl in
    let encrypted : encrypted_where (a ∷ steps) (slot_of (place_in (a ∷ steps))) ≡ end.encrypted =
    encryption_goes_on n steps done given refl off changed refl refl in
    let taken : taken_in (a ∷ steps) (place_in (a ∷ steps)) ≡ end.taken = taken_goes_on n steps done given refl changed refl in
    let capability : capability_in (a ∷ steps) ≡ end.capability =
    capability_goes_on steps S done ∙ placed_capability given (encryption_given done) (taken_given done) changed in
    λ i. record { slots = slots i; place = place i; encrypted = encrypted i; taken = taken i; capability = capability i }

pub snapshot_goes_on : (setup : Setup) (step : Step) (steps : List Step) → snapshot_of setup (step ∷ steps) ≡ after (done_by setup (snapshot_of setup steps) step) (snapshot_of setup steps)
unfolding answered
snapshot_goes_on setup step steps = in_goes_on setup.slots (answered setup steps) (done_by setup (snapshot_of setup steps) step) (not_on setup steps)
