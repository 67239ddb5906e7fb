-- What several streams hand, one after the other, in a loop over them.
use Rattle.group_sink.proofs.Prelude.{ℕ, ◌≡◌, ◌+◌, ◌<◌, List, [], ◌∷◌, ◌++◌, length, map, take, drop, set, get_or, Result, Ok, Err, sym, subst, arith, take_more, append_assoc, append-nil, take-append-le, get_or-append_right, get_or-drop, length-append, length-map, length-take-le, flat_map, Handed, Counts, Caused, HandsOver}
use Rattle.std.proofs.lemmas.List.Edits.{map_over_more}
use Rattle.std.proofs.lemmas.Grind.{flat_map-append}
use Rattle.std.proofs.Math.Seq.{take-append-add}
use Rattle.unit_outlets.specs.declared.fault.TakerFault.{TakerFault}

-- all of the first were handed
pub hands_more : (first second old between new : List Handed) (r : Result (Unit {0}) TakerFault)
    → between ≡ old ++ first → HandsOver second between new r → HandsOver (first ++ second) old new r
hands_more first second old between new (Ok x) is hands = grind (arith, append_assoc)
hands_more first second old between new (Err fault) is hands = (
  length first + hands.0,
  omega (arith, length-append first second),
  grind (arith, take, append_assoc, take-append-add),
)

-- one of the first was refused
pub hands_past : (first second old new : List Handed) (fault : TakerFault)
    → HandsOver first old new (Err fault) → HandsOver (first ++ second) old new (Err fault)
hands_past first second old new fault hands = grind (arith, length, length-append, take-append-le)

-- the item that a loop comes to is as before the loop
pub item_is : {X : Type 0} (f : X → X) (xs ys : List X) (i : ℕ) (x : X) → i < length xs
    → ys ≡ map f (take i xs) ++ drop i xs → x ≡ get_or ys i x → x ≡ get_or xs i x
item_is f xs ys i x below step is =
    grind (arith, length, map, take, length-map, length-take-le, get_or, get_or-append_right, drop, get_or-drop)

-- what one stream more hands
pub owed_more : {X : Type 0} (f : X → List Handed) (xs : List X) (i : ℕ) (x : X) → i < length xs → x ≡ get_or xs i x
    → flat_map f (take (i + 1) xs) ≡ flat_map f (take i xs) ++ f x
owed_more f xs i x below is =
    grind (arith, take_more xs i x below, flat_map-append f (take i xs) (get_or xs i x ∷ []), append-nil (f (get_or xs i x)))

-- the items after one turn more of a loop that writes each of them
pub written_more : {X : Type 0} (f : X → X) (xs ys zs : List X) (i : ℕ) (x new : X) → i < length xs → ys ≡ map f (take i xs) ++ drop i xs
    → x ≡ get_or ys i x → new ≡ f (get_or ys i x) → zs ≡ set ys i new → zs ≡ map f (take (i + 1) xs) ++ drop (i + 1) xs
written_more f xs ys zs i x new below step is made written = grind (arith, set, map_over_more)

-- what is handed after one turn more, while nothing was refused
pub handed_more : {X : Type 0} (f : X → X) (g : X → List Handed) (xs ys : List X) (i : ℕ) (x : X) (old between new now : List Handed)
    (before result after : Result (Unit {0}) TakerFault) → i < length xs → ys ≡ map f (take i xs) ++ drop i xs → x ≡ get_or ys i x
    → (u : Unit {0}) → before ≡ Ok u → HandsOver (flat_map g (take i xs)) old between before
    → HandsOver (g (get_or ys i x)) between new result → now ≡ new → after ≡ result → HandsOver (flat_map g (take (i + 1) xs)) old now after
handed_more f g xs ys i x old between new now before result after below step is u ok first second same ends =
    rw (owed_more g xs i x below (item_is f xs ys i x below step is), same, ends)
    (hands_more (flat_map g (take i xs)) (g x) old between new result (subst (HandsOver (flat_map g (take i xs)) old between) ok first) (subst (λ y. HandsOver (g y) between new result) (sym is) second))

-- and after a refusal
pub handed_past : {X : Type 0} (f : X → X) (g : X → List Handed) (xs ys : List X) (i : ℕ) (x : X) (old between now : List Handed)
    (before after : Result (Unit {0}) TakerFault) → i < length xs → ys ≡ map f (take i xs) ++ drop i xs → x ≡ get_or ys i x
    → (fault : TakerFault) → before ≡ Err fault → HandsOver (flat_map g (take i xs)) old between before
    → now ≡ between → after ≡ before → HandsOver (flat_map g (take (i + 1) xs)) old now after
handed_past f g xs ys i x old between now before after below step is fault err first same ends =
    rw (owed_more g xs i x below (item_is f xs ys i x below step is), same, ends, err)
    (hands_past (flat_map g (take i xs)) (g x) old between fault (subst (HandsOver (flat_map g (take i xs)) old between) err first))

-- the counts after one turn more
pub caused_more : (old between new now : Counts) (before result after : Result (Unit {0}) TakerFault) (u : Unit {0}) → before ≡ Ok u
    → Caused old between before → Caused between new result → now ≡ new → after ≡ result → Caused old now after
caused_more old between new now before result after u ok first second same ends = grind arith

pub caused_past : (old between now : Counts) (before after : Result (Unit {0}) TakerFault) → Caused old between before
    → now ≡ between → after ≡ before → Caused old now after
caused_past old between now before after first same ends = grind arith
