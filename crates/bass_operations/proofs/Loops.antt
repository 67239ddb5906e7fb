-- Subgroups looked through one after the other, as a loop does.
use Rattle.bass_operations.proofs.Prelude.{◌≡◌, ℕ, zero, suc, ◌+◌, ◌-◌, ◌<◌, ◌≤◌, Bool, true, false, cond, eqb, ltb, List, [], ◌∷◌, ◌++◌, length, map, Option, Some, None, is_some, refl, sym, ap, subst, ◌∙◌, append_assoc, arith, lt-ltb, le-ltb, append-nil, ◌>>=◌, whole, Subgroup, subgroup_in, bind_some, some_is, Wish, wish_of, has_bit, times_named}
use Rattle.std.proofs.Math.Dec.{eqb-suc-zero}
use Rattle.std.proofs.lemmas.List.Sums.{sum_by-cons}
use Rattle.bcast_base.specs.Subgroups.{subgroups_in}
use Rattle.bass_operations.specs.Reading.{wishes_in}
use Rattle.bass_operations.specs.Scanning.{named_in, twice_in}
use Rattle.bass_operations.specs.Twice.{twice_from}

-- ---- wishes

pub ends_empty : (n : ℕ) (rest : List ℕ) → n ≡ 0 → is_some (wishes_in n rest) ≡ eqb (length rest) 0
unfolding wishes_in subgroups_in
ends_empty n rest e = grind (arith, eqb-suc-zero, length)

joined : (group : Subgroup) (read : Option (List Subgroup × List ℕ)) → (whole (read >>= λ others. Some (group ∷ others.0, others.1)) >>= λ groups. Some (map wish_of groups))
    ≡ ((whole read >>= λ groups. Some (map wish_of groups)) >>= λ wishes. Some (wish_of group ∷ wishes))
joined group read = grind arith

subgroups_suc : (n : ℕ) (from : List ℕ) (group : Subgroup) (after : List ℕ) → subgroup_in from ≡ Some (group, after)
    → subgroups_in (suc n) from ≡ (subgroups_in n after >>= λ others. Some (group ∷ others.0, others.1))
unfolding subgroups_in
subgroups_suc n from group after e = rw e refl

subgroups_none : (n : ℕ) (from : List ℕ) → subgroup_in from ≡ None → subgroups_in (suc n) from ≡ None
unfolding subgroups_in
subgroups_none n from e = rw e refl

pub wishes_suc : (n : ℕ) (from : List ℕ) (group : Subgroup) (after : List ℕ) → subgroup_in from ≡ Some (group, after)
    → wishes_in (suc n) from ≡ (wishes_in n after >>= λ wishes. Some (wish_of group ∷ wishes))
unfolding wishes_in
wishes_suc n from group after e = grind (arith, subgroups_suc n from group after e, joined group (subgroups_in n after))

pub wishes_none : (n : ℕ) (from : List ℕ) → subgroup_in from ≡ None → wishes_in (suc n) from ≡ None
unfolding wishes_in
wishes_none n from e = ap (λ (r : Option (List Subgroup × List ℕ)). whole r >>= λ groups. Some (map wish_of groups)) (subgroups_none n from e)

one_left : (count i : ℕ) → i < count → count - i ≡ suc (count - (i + 1))
one_left count i lt = omega arith

some_behind : (wish : Wish) (read : Option (List Wish)) → is_some (read >>= λ wishes. Some (wish ∷ wishes)) ≡ is_some read
some_behind wish read = grind arith

pub are_next : (count i : ℕ) (from : List ℕ) (group : Subgroup) (after : List ℕ) (total : Bool) → i < count → subgroup_in from ≡ Some (group, after)
    → is_some (wishes_in (count - i) from) ≡ total → is_some (wishes_in (count - (i + 1)) after) ≡ total
are_next count i from group after total lt e so_far =
    grind (
      arith,
      one_left count i lt,
      wishes_suc (count - (i + 1)) from group after e,
      some_behind (wish_of group) (wishes_in (count - (i + 1)) after),
    )

pub are_short : (count i : ℕ) (from : List ℕ) (total : Bool) → i < count → subgroup_in from ≡ None → is_some (wishes_in (count - i) from) ≡ total → false ≡ total
are_short count i from total lt e so_far = grind (arith, is_some, one_left, wishes_none)

pub are_end : (count i : ℕ) (rest : List ℕ) (total : Bool) → count ≤ i → is_some (wishes_in (count - i) rest) ≡ total → eqb (length rest) 0 ≡ total
are_end count i rest total le so_far = grind (arith, ends_empty)

-- the wishes so far, and those that are read behind them
abbrev pub with_prefix : List Wish → Option (List Wish) → Option (List Wish)
with_prefix prefix read = read >>= λ wishes. Some (prefix ++ wishes)

regroup : (prefix : List Wish) (wish : Wish) (read : Option (List Wish)) → with_prefix prefix (read >>= λ wishes. Some (wish ∷ wishes)) ≡ with_prefix (prefix ++ wish ∷ []) read
regroup prefix wish read = grind (arith, append_assoc)

pub read_next : (prefix : List Wish) (count i : ℕ) (from : List ℕ) (group : Subgroup) (after : List ℕ) (total : Option (List Wish)) → i < count → subgroup_in from ≡ Some (group, after)
    → with_prefix prefix (wishes_in (count - i) from) ≡ total → with_prefix (prefix ++ wish_of group ∷ []) (wishes_in (count - (i + 1)) after) ≡ total
read_next prefix count i from group after total lt e so_far =
    grind (
      arith,
      one_left count i lt,
      wishes_suc (count - (i + 1)) from group after e,
      regroup prefix (wish_of group) (wishes_in (count - (i + 1)) after),
    )

pub read_never : (prefix : List Wish) (count i : ℕ) (from : List ℕ) (total : Option (List Wish)) → i < count → subgroup_in from ≡ None
    → with_prefix prefix (wishes_in (count - i) from) ≡ total → is_some total ≡ true → ⊥
read_never prefix count i from total lt e so_far some = grind (arith, one_left, wishes_none, is_some)

nothing_left : (prefix : List Wish) (read total : Option (List Wish)) (rest : List ℕ) → is_some read ≡ eqb (length rest) 0 → with_prefix prefix read ≡ total → is_some total ≡ true
    → read ≡ wishes_in 0 rest → total ≡ Some prefix
unfolding wishes_in subgroups_in
nothing_left prefix read total rest e so_far some same = grind (arith, append-nil, is_some)

pub read_end : (prefix : List Wish) (count i : ℕ) (rest : List ℕ) (total : Option (List Wish)) → count ≤ i → with_prefix prefix (wishes_in (count - i) rest) ≡ total → is_some total ≡ true
    → total ≡ Some prefix
read_end prefix count i rest total le so_far some =
    let none_left : count - i ≡ 0 = omega arith in
    nothing_left prefix (wishes_in (count - i) rest) total rest (ends_empty (count - i) rest none_left) so_far some (ap (λ (n : ℕ). wishes_in n rest) none_left)

-- ---- streams

named_suc : (bis n : ℕ) (from : List ℕ) (group : Subgroup) (after : List ℕ) → subgroup_in from ≡ Some (group, after)
    → named_in bis (suc n) from ≡ cond (has_bit bis group.bits) 1 0 + named_in bis n after
unfolding named_in
named_suc bis n from group after e = rw e refl

named_none : (bis n : ℕ) (from : List ℕ) → subgroup_in from ≡ None → named_in bis (suc n) from ≡ 0
unfolding named_in
named_none bis n from e = rw e refl

pub named_next : (bis times count i : ℕ) (from : List ℕ) (group : Subgroup) (after : List ℕ) (total : ℕ) (b : Bool) → i < count → subgroup_in from ≡ Some (group, after) → has_bit bis group.bits ≡ b
    → times + named_in bis (count - i) from ≡ total → times + cond b 1 0 + named_in bis (count - (i + 1)) after ≡ total
named_next bis times count i from group after total b lt e named so_far = grind (arith, cond, one_left, named_suc)

pub named_short : (bis times count i : ℕ) (from : List ℕ) (total : ℕ) → i < count → subgroup_in from ≡ None → times + named_in bis (count - i) from ≡ total → times ≡ total
named_short bis times count i from total lt e so_far = grind (arith, one_left, named_none)

named_zero : (bis n : ℕ) (rest : List ℕ) → n ≡ 0 → named_in bis n rest ≡ 0
unfolding named_in
named_zero bis n rest e = rw e refl

pub named_end : (bis times count i : ℕ) (rest : List ℕ) (total : ℕ) → count ≤ i → times + named_in bis (count - i) rest ≡ total → times ≡ total
named_end bis times count i rest total le so_far = grind (arith, named_zero)

one_at_most : (b : Bool) → cond b 1 0 ≤ 1
one_at_most b = grind arith

one_group : (bis n : ℕ) (from : List ℕ) (first : Option (Subgroup × List ℕ)) → n ≡ 0 → subgroup_in from ≡ first → named_in bis (suc n) from ≤ 1
one_group bis n from None none e = omega (arith, named_none bis n from e)
one_group bis n from (Some x) none e = omega (arith, named_suc bis n from x.0 x.1 e, named_zero bis n x.1 none, one_at_most (has_bit bis x.0.bits))

-- of one subgroup at most none is another
named_once : (bis count : ℕ) (from : List ℕ) → count < 2 → named_in bis count from ≤ 1
named_once bis zero from few = omega (arith, named_zero bis 0 from refl)
named_once bis (suc n) from few = one_group bis n from (subgroup_in from) (omega arith) refl

pub twice_few : (others bis count : ℕ) (octets : List ℕ) → count < 2 → None ≡ twice_in others bis count octets
unfolding twice_in
twice_few zero bis count octets few = refl
twice_few (suc others) bis count octets few =
    let no : ltb 1 (named_in bis count octets) ≡ false = le-ltb 1 (named_in bis count octets) (named_once bis count octets few) in
    let step : twice_in (suc others) bis count octets ≡ twice_in others (bis + 1) count octets = rw no refl in
    twice_few others (bis + 1) count octets few ∙ sym step

pub twice_here : (others bis count : ℕ) (octets : List ℕ) (total : Option ℕ) → 0 < others → 1 < named_in bis count octets → twice_in others bis count octets ≡ total → Some bis ≡ total
unfolding twice_in
twice_here others bis count octets total some more so_far = grind (arith, ltb, lt-ltb)

pub twice_next : (others left bis count : ℕ) (octets : List ℕ) (total : Option ℕ) → left + 1 ≡ others → named_in bis count octets ≤ 1 → twice_in others bis count octets ≡ total
    → twice_in left (bis + 1) count octets ≡ total
unfolding twice_in
twice_next zero left bis count octets total one few so_far = absurd (omega arith)
twice_next (suc others) left bis count octets total one few so_far = grind (arith, ltb, le-ltb)

pub twice_end : (others bis count : ℕ) (octets : List ℕ) (total : Option ℕ) → others ≡ 0 → twice_in others bis count octets ≡ total → None ≡ total
unfolding twice_in
twice_end others bis count octets total none so_far = grind arith

-- ---- what is found where the subgroups lie is what is found in the wishes

pub named_found : (bis count : ℕ) (from : List ℕ) (x : List Subgroup × List ℕ) → subgroups_in count from ≡ Some x → named_in bis count from ≡ times_named bis (map wish_of x.0)
unfolding named_in subgroups_in
named_found bis zero from x e = grind (arith, times_named, map, wish_of, some_is)
named_found bis (suc count) from x e =
    let a = bind_some (subgroup_in from) _ x e in
    let b = bind_some (subgroups_in count a.0.1) _ x a.2 in
    let rest = named_found bis count a.0.1 b.0 b.1 in
    let read : List Subgroup × List ℕ = (a.0.0 ∷ b.0.0, b.0.1) in
    subst (λ (y : List Subgroup × List ℕ). named_in bis (suc count) from ≡ times_named bis (map wish_of y.0)) (some_is read x b.2)
    (named_suc bis count from a.0.0 a.0.1 a.1 ∙ (grind (arith, sum_by-cons (λ (wish : Wish). cond (has_bit bis wish.bis_sync) 1 0) (wish_of a.0.0) (map wish_of b.0.0))))

pub twice_found : (others bis count : ℕ) (from : List ℕ) (x : List Subgroup × List ℕ) → subgroups_in count from ≡ Some x → twice_in others bis count from ≡ twice_from others bis (map wish_of x.0)
unfolding twice_in twice_from
twice_found zero bis count from x e = refl
twice_found (suc others) bis count from x e = grind (arith, named_found bis count from x e, twice_found others (bis + 1) count from x e)
