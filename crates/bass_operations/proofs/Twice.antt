-- The lowest stream that stands in two subgroups, as it is found and as it is told.
use Rattle.bass_operations.proofs.Prelude.{◌≡◌, ℕ, zero, suc, ◌+◌, ◌<◌, ◌≤◌, Bool, true, false, cond, ltb, List, Some, None, refl, sym, ap, subst, ◌∙◌, arith, inl, inr, ltb-true, ltb-false, lt-ltb, le-ltb, cases_lt, Wish, times_named, IsLowestTwice, NoneTwice, twice_of}
use Rattle.bass_operations.specs.Twice.{twice_from}

-- of the streams from one on none below another stands in two subgroups
abbrev pub NoneFrom : ℕ → ℕ → List Wish → Type 0
NoneFrom bis end wishes = (other : ℕ) → bis ≤ other → other < end → times_named other wishes < 2

abbrev FirstFrom : ℕ → ℕ → ℕ → List Wish → Type 0
FirstFrom others bis found wishes = (bis ≤ found) × (found < bis + others) × (2 ≤ times_named found wishes) × NoneFrom bis found wishes

one_more : (bis end : ℕ) (wishes : List Wish) → times_named bis wishes < 2 → NoneFrom (bis + 1) end wishes → NoneFrom bis end wishes
one_more bis end wishes here above other from lt =
    elim (cases_lt bis other) [
      | inl more ↦ above other (omega arith) lt
      | inr le ↦ let same : other ≡ bis = omega arith in rw same here
    ]

step_found : (others bis found : ℕ) (wishes : List Wish) (b : Bool) → ltb 1 (times_named bis wishes) ≡ b → cond b (Some bis) (twice_from others (bis + 1) wishes) ≡ Some found
    → (twice_from others (bis + 1) wishes ≡ Some found → FirstFrom others (bis + 1) found wishes) → FirstFrom (suc others) bis found wishes
step_found others bis found wishes true t e rest = grind (arith, times_named, ltb-true)
step_found others bis found wishes false t e rest =
    let r = rest e in
    let few : times_named bis wishes < 2 = omega (arith, ltb-false 1 (times_named bis wishes) t) in
    (omega (arith, r.0), omega (arith, r.1), r.2, one_more bis found wishes few r.3)

pub first_found : (others bis found : ℕ) (wishes : List Wish) → twice_from others bis wishes ≡ Some found → FirstFrom others bis found wishes
unfolding twice_from
first_found zero bis found wishes e = absurd cc
first_found (suc others) bis found wishes e =
    step_found others bis found wishes (ltb 1 (times_named bis wishes)) refl e (first_found others (bis + 1) found wishes)

step_none : (others bis : ℕ) (wishes : List Wish) (b : Bool) → ltb 1 (times_named bis wishes) ≡ b → cond b (Some bis) (twice_from others (bis + 1) wishes) ≡ None
    → (twice_from others (bis + 1) wishes ≡ None → NoneFrom (bis + 1) (bis + 1 + others) wishes) → NoneFrom bis (bis + suc others) wishes
step_none others bis wishes true t e rest = absurd cc
step_none others bis wishes false t e rest =
    let few : times_named bis wishes < 2 = omega (arith, ltb-false 1 (times_named bis wishes) t) in
    let end : bis + 1 + others ≡ bis + suc others = omega arith in
    one_more bis (bis + suc others) wishes few (subst (λ (n : ℕ). NoneFrom (bis + 1) n wishes) end (rest e))

pub none_found : (others bis : ℕ) (wishes : List Wish) → twice_from others bis wishes ≡ None → NoneFrom bis (bis + others) wishes
unfolding twice_from
none_found zero bis wishes e other from lt = absurd (omega (arith, from, lt))
none_found (suc others) bis wishes e other from lt =
    step_none others bis wishes (ltb 1 (times_named bis wishes)) refl e (none_found others (bis + 1) wishes) other from lt

twice_suc_yes : (others bis : ℕ) (wishes : List Wish) → ltb 1 (times_named bis wishes) ≡ true → twice_from (suc others) bis wishes ≡ Some bis
unfolding twice_from
twice_suc_yes others bis wishes t = rw t refl

twice_suc_no : (others bis : ℕ) (wishes : List Wish) → ltb 1 (times_named bis wishes) ≡ false → twice_from (suc others) bis wishes ≡ twice_from others (bis + 1) wishes
unfolding twice_from
twice_suc_no others bis wishes t = rw t refl

pub first_told : (others bis found : ℕ) (wishes : List Wish) → FirstFrom others bis found wishes → twice_from others bis wishes ≡ Some found
first_told zero bis found wishes f = absurd (omega (arith, f.0, f.1))
first_told (suc others) bis found wishes f =
    elim (cases_lt bis found) [
      | inl lt ↦
          let few : ltb 1 (times_named bis wishes) ≡ false = le-ltb 1 (times_named bis wishes) (omega (arith, f.3 bis (omega arith) lt)) in
          twice_suc_no others bis wishes few ∙ first_told others (bis + 1) found wishes (omega arith, omega (arith, f.1), f.2, λ other from less. f.3 other (omega (arith, from)) less)
      | inr le ↦
          let same : found ≡ bis = omega (arith, f.0) in
          let more : ltb 1 (times_named bis wishes) ≡ true = lt-ltb 1 (times_named bis wishes) (subst (λ (n : ℕ). 2 ≤ times_named n wishes) same f.2) in
          twice_suc_yes others bis wishes more ∙ ap (λ (n : ℕ). Some n) (sym same)
    ]

pub none_told : (others bis : ℕ) (wishes : List Wish) → NoneFrom bis (bis + others) wishes → twice_from others bis wishes ≡ None
unfolding twice_from
none_told zero bis wishes h = refl
none_told (suc others) bis wishes h =
    let few : ltb 1 (times_named bis wishes) ≡ false = le-ltb 1 (times_named bis wishes) (omega (arith, h bis (omega arith) (omega arith))) in
    twice_suc_no others bis wishes few ∙ none_told others (bis + 1) wishes (λ other from less. h other (omega (arith, from)) (omega (arith, less)))

-- ---- of all streams

pub lowest_found : (bis : ℕ) (wishes : List Wish) → twice_of wishes ≡ Some bis → IsLowestTwice bis wishes
lowest_found bis wishes e =
    let f = first_found 31 1 bis wishes e in
    record { least = f.0; greatest = omega (arith, f.1); twice = f.2; lowest = f.3 }

pub lowest_told : (bis : ℕ) (wishes : List Wish) → IsLowestTwice bis wishes → twice_of wishes ≡ Some bis
lowest_told bis wishes l = first_told 31 1 bis wishes (l.least, omega (arith, l.greatest), l.twice, l.lowest)

pub none_twice : (wishes : List Wish) → twice_of wishes ≡ None → NoneTwice wishes
none_twice wishes e bis least greatest = none_found 31 1 wishes e bis least (omega (arith, greatest))

pub twice_none : (wishes : List Wish) → NoneTwice wishes → twice_of wishes ≡ None
twice_none wishes h = none_told 31 1 wishes (λ other from less. h other from (omega (arith, less)))
