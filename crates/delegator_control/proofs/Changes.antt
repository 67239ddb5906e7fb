-- Which values a step changes, and so its notices.
use Rattle.delegator_control.proofs.Prelude.{ℕ, ◌≡◌, ◌≢◌, ◌<◌, Bool, true, false, List, [], ◌++◌, length, get_or, set, Option, Some, None, refl, sym, ap, ◌∙◌, subst, option_map, flat_map, range_with_len, eqb-true, ne_eqb, get_or-set_same, get_or-set_other, get_or_default, Notice, change, changes, Entry, Place, Snapshot, idle, on_train, on_group, slot_of, is_slot, is_on, entry_at, place_left, placed, Status, received, status_of, value, value_at, none_change, one_changes, Move, Stay, Off, OffGroup, place_by, arith}
use Rattle.delegator_control.proofs.Encoded.{off_group}

pub away : Status
away = record { is_synced = false; is_encrypted = false; bits = [] }

off_status : (place : Place) (encrypted : Bool) (taken : List ℕ) (slot : ℕ) → is_on place slot ≡ false → status_of place encrypted taken slot ≡ away
unfolding away
off_status place encrypted taken slot off = grind (arith, off_group)

-- a slot that the sink is on neither before nor after
pub elsewhere : (before after : Snapshot) (slot : ℕ) → is_on before.place slot ≡ false → is_on after.place slot ≡ false
    → entry_at before.slots slot ≡ entry_at after.slots slot → value_at before slot ≡ value_at after slot
elsewhere before after slot off off_now same = grind (arith, status_of, off_status, value, option_map, received)

pub no_slot : (place : Place) (i : ℕ) → slot_of place ≡ None → is_on place i ≡ false
no_slot place i is = ap (λ s. is_slot s i) is

-- a place on the slot is on no other
pub on_one : (place : Place) (slot i : ℕ) → is_on place slot ≡ true → i ≢ slot → is_on place i ≡ false
on_one place slot i on other = slot_one (slot_of place) slot i on other
  where
    slot_one : (o : Option ℕ) (slot i : ℕ) → is_slot o slot ≡ true → i ≢ slot → is_slot o i ≡ false
    slot_one None slot i on other = refl
    slot_one (Some s) slot i on other = ne_eqb s i (λ same. other (sym same ∙ eqb-true s slot on))

-- ---- a change of the place

pub moves_within : (place now : Place) (moves : Move) (i : ℕ) → place_by place moves ≡ Some now → is_on place i ≡ false → is_on now i ≡ false
moves_within place now moves i e off = grind (arith, idle, is_on, on_train, on_group)

placed_elsewhere : (snapshot : Snapshot) (given : Option Place) (i : ℕ) → is_on snapshot.place i ≡ false
    → ((now : Place) → given ≡ Some now → is_on now i ≡ false) → value_at snapshot i ≡ value_at (placed given None None snapshot) i
placed_elsewhere snapshot given i off within = grind (arith, elsewhere, placed)

-- the notices of a change of the place alone
pub moved_none : (n : ℕ) (snapshot : Snapshot) (moves : Move) → slot_of snapshot.place ≡ None → changes n snapshot (placed (place_by snapshot.place moves) None None snapshot) ≡ []
moved_none n snapshot moves is = grind (arith, none_change, placed, place_by, placed_elsewhere, no_slot, moves_within)

pub moved_one : (n slot : ℕ) (snapshot : Snapshot) (moves : Move) → slot_of snapshot.place ≡ Some slot → slot < n
    → changes n snapshot (placed (place_by snapshot.place moves) None None snapshot)
    ≡ change slot (value_at snapshot slot) (value_at (placed (place_by snapshot.place moves) None None snapshot) slot)
moved_one n slot snapshot moves is within = grind (arith, one_changes, placed, place_by, placed_elsewhere, is_slot, ne_eqb, moves_within)

-- ---- a slot that is changed, and a change of the place of a sink that is on it

abbrev filled : Snapshot → ℕ → Option Entry → Snapshot
filled snapshot slot entry = record snapshot { slots = set snapshot.slots slot entry }

filled_elsewhere : (snapshot : Snapshot) (slot i : ℕ) (entry : Option Entry) (given : Option Place) → i ≢ slot
    → ((now : Place) → given ≡ Some now → (is_on snapshot.place i ≡ false) × (is_on now i ≡ false))
    → value_at snapshot i ≡ value_at (placed given None None (filled snapshot slot entry)) i
filled_elsewhere snapshot slot i entry given other within =
    grind (arith, value, option_map, received, status_of, get_or-set_other, elsewhere, placed)

pub filled_one : (n slot : ℕ) (snapshot : Snapshot) (entry : Option Entry) (moves : Move) → slot < n
    → ((now : Place) → place_by snapshot.place moves ≡ Some now → is_on snapshot.place slot ≡ true)
    → changes n snapshot (placed (place_by snapshot.place moves) None None (filled snapshot slot entry))
    ≡ change slot (value_at snapshot slot) (value_at (placed (place_by snapshot.place moves) None None (filled snapshot slot entry)) slot)
filled_one n slot snapshot entry moves within on = grind (arith, one_changes, placed, place_by, filled_elsewhere, on_one, moves_within)

-- the value of the slot then
pub filled_value : (slot : ℕ) (snapshot : Snapshot) (entry : Option Entry) (given : Option Place) → slot < length snapshot.slots
    → value_at (placed given None None (filled snapshot slot entry)) slot
    ≡ value (option_map (received (status_of (placed given None None snapshot).place (placed given None None snapshot).encrypted (placed given None None snapshot).taken slot)) entry)
filled_value slot snapshot entry given within = grind (arith, value, option_map, received, status_of, get_or-set_same, placed)

-- ---- the notice of a change of the place

slots_stay : (given : Option Place) (snapshot : Snapshot) → (placed given None None snapshot).slots ≡ snapshot.slots
slots_stay given snapshot = grind arith

pub note_done : (n slot place : ℕ) (snapshot : Snapshot) (waiting : List Notice) (moves : Move) (held : Option Entry) (before now : Status)
    → slot_of snapshot.place ≡ Some slot → slot < n → slot < length snapshot.slots → place ≡ slot
    → held ≡ get_or snapshot.slots place held → before ≡ status_of snapshot.place snapshot.encrypted snapshot.taken slot
    → now ≡ status_of (placed (place_by snapshot.place moves) None None snapshot).place (placed (place_by snapshot.place moves) None None snapshot).encrypted
    (placed (place_by snapshot.place moves) None None snapshot).taken slot
    → waiting ++ change slot (value (option_map (received before) held)) (value (option_map (received now) held))
    ≡ waiting ++ changes n snapshot (placed (place_by snapshot.place moves) None None snapshot)
note_done n slot place snapshot waiting moves held before now is within there at read was stands =
    let after : Snapshot = placed (place_by snapshot.place moves) None None snapshot in
    let entry : held ≡ entry_at snapshot.slots slot =
    read ∙ get_or_default snapshot.slots place held None (subst (λ k. k < length snapshot.slots) (sym at) there) ∙ ap (λ k. get_or snapshot.slots k None) at in
    let entry_now : held ≡ entry_at after.slots slot = entry ∙ ap (λ slots. entry_at slots slot) (sym (slots_stay (place_by snapshot.place moves) snapshot)) in
    ap (λ more. waiting ++ more) (grind (arith, change, value, option_map, received, moved_one))

-- ---- a place stays within the slots

pub none_some : {A : Type 0} (x : A) → ◌≡◌ {A = Option A} None (Some x) → ⊥
none_some x e = cc

left_below : (place : Place) (n : ℕ) (now : Place) → place_left place ≡ Some now → ((s : ℕ) → slot_of place ≡ Some s → s < n) → (s : ℕ) → slot_of now ≡ Some s → s < n
left_below idle n now e within s is = absurd cc
left_below (on_train slot) n now e within s is = absurd cc
left_below (on_group None) n now e within s is = let same : idle ≡ now = cc in absurd (none_some s (ap slot_of same ∙ is))
left_below (on_group (Some slot)) n now e within s is = let same : on_train slot ≡ now = cc in within s (ap slot_of same ∙ is)

pub moves_below : (snapshot : Snapshot) (moves : Move) (n : ℕ) → ((s : ℕ) → slot_of snapshot.place ≡ Some s → s < n)
    → (s : ℕ) → slot_of (placed (place_by snapshot.place moves) None None snapshot).place ≡ Some s → s < n
moves_below snapshot Stay n within s is = within s is
moves_below snapshot Off n within s is = absurd cc
moves_below snapshot OffGroup n within s is = go (place_left snapshot.place) refl is
  where
    go : (given : Option Place) → place_left snapshot.place ≡ given → slot_of (placed given None None snapshot).place ≡ Some s → s < n
    go None e is = within s is
    go (Some now) e is = left_below snapshot.place n now e within s is

-- ---- what is synchronized to a BIG of no slot has the values of one that is idle

pub tuned_changes : (n : ℕ) (snapshot : Snapshot) → changes n snapshot (placed (Some idle) None None snapshot) ≡ changes n snapshot (placed (Some (on_group None)) None None snapshot)
tuned_changes n snapshot = grind (arith, value_at, placed, idle, on_group, elsewhere, flat_map, change, range_with_len)
