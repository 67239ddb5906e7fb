-- The streams that are chosen, one by one.
use Rattle.delegator_choices.proofs.Prelude.{ℕ, zero, suc, ◌≡◌, ◌≢◌, ◌↔◌, ◌⊎◌, ◌+◌, ◌-◌, ◌<◌, ◌≤◌, ◌^◌, Bool, true, false, cond, List, [], ◌∷◌, ◌++◌, length, map, take, append_assoc, max, refl, sym, ap, ◌∙◌, subst, inl, inr, arith, ◌==◌, bit_or, filter, range_with_len, cases_eq, cond-true, cond-false, ne_eqb, or_lt, pow_below, set_with, sets_with, Leads, Takes, with_one}
use Rattle.std.specs.Int.{bit_at}
use Rattle.std.proofs.lemmas.Nat.Bits.{bit_at-lt, bit_at_or, bit_at-pow_same, bit_at-pow_other, same_from_bits}
use Rattle.bcast_base.specs.Bis.{Has}
use Rattle.delegator_choices.specs.declared.choosing.Taking.{Taking}

-- ---- a set with a stream more

one_bit : (a b : ℕ) → a < 2 → b < 2 → (a ≡ 1) ↔ (b ≡ 1) → a ≡ b
one_bit zero zero p q h = refl
one_bit zero (suc zero) p q h = h.1 refl
one_bit (suc zero) zero p q h = sym (h.0 refl)
one_bit (suc zero) (suc zero) p q h = refl
one_bit (suc (suc a)) b p q h = absurd (omega (arith, p))
one_bit zero (suc (suc b)) p q h = absurd (omega (arith, q))
one_bit (suc zero) (suc (suc b)) p q h = absurd (omega (arith, q))

-- the set that has this stream, and all others as they were
pub with_is : (set bis now : ℕ) → Has now bis → ((b : ℕ) → 1 ≤ b → b ≢ bis → (Has now b ↔ Has set b)) → now ≡ bit_or set (2 ^ (bis - 1))
with_is set bis now has others = same_from_bits now (bit_or set (2 ^ (bis - 1))) (λ i. at i (cases_eq i (bis - 1)))
  where
    at : (i : ℕ) → (i ≡ bis - 1) ⊎ (i ≡ bis - 1 → ⊥) → bit_at now i ≡ bit_at (bit_or set (2 ^ (bis - 1))) i
    at i (inl same) =
        let one : bit_at (2 ^ (bis - 1)) i ≡ 1 = ap (bit_at (2 ^ (bis - 1))) same ∙ bit_at-pow_same (bis - 1) in
        let top : max (bit_at set i) (bit_at (2 ^ (bis - 1)) i) ≡ 1 = omega (arith, one, bit_at-lt set i) in
        ap (bit_at now) same ∙ has ∙ sym (bit_at_or set (2 ^ (bis - 1)) i ∙ top)
    at i (inr other) =
        let none : bit_at (2 ^ (bis - 1)) i ≡ 0 = bit_at-pow_other (bis - 1) i other in
        let rest : max (bit_at set i) (bit_at (2 ^ (bis - 1)) i) ≡ bit_at set i = omega (arith, none) in
        let next : i + 1 - 1 ≡ i = omega arith in
        let both : (bit_at now i ≡ 1) ↔ (bit_at set i ≡ 1) =
        subst (λ k. (bit_at now k ≡ 1) ↔ (bit_at set k ≡ 1)) next (others (i + 1) (omega arith) (λ e. other (omega (arith, e)))) in
        one_bit (bit_at now i) (bit_at set i) (bit_at-lt now i) (bit_at-lt set i) both ∙ sym (bit_at_or set (2 ^ (bis - 1)) i ∙ rest)

-- ---- streams that are taken one by one

take_none : (n : ℕ) → ◌≡◌ {A = List ℕ} (take n []) []
take_none zero = refl
take_none (suc n) = refl

one_more : (room set bis room_now set_now : ℕ) (others : List ℕ) → room_now ≡ room - 1 → set_now ≡ with_one room bis set
    → set_with set_now (take room_now others) ≡ set_with set (take room (bis ∷ others))
one_more zero set bis room_now set_now others less is = λ i. set_with (is i) (take (less i) others)
one_more (suc room) set bis room_now set_now others less is =
    let left : room_now ≡ room = omega (arith, less) in
    let some : (suc room == 0) ≡ false = ne_eqb (suc room) 0 (λ e. omega (arith, e)) in
    λ i. set_with ((is ∙ cond-false (suc room == 0) set (bit_or set (2 ^ (bis - 1))) some) i) (take (left i) others)

pub leads_with : (all : List ℕ) (first now next : Taking) (bis : ℕ) (others : List ℕ)
    → next.room ≡ now.room - 1 → next.which ≡ with_one now.room bis now.which → next.bits ≡ with_one now.room bis now.bits
    → Leads all first (bis ∷ others) now → Leads all first others next
leads_with all first now next bis others room which bits h = record {
  room = (let less : next.room - length others ≡ now.room - suc (length others) = omega (arith, room) in less ∙ h.room);
  which = one_more now.room now.which bis next.room next.which others room which ∙ h.which;
  bits = one_more now.room now.bits bis next.room next.bits others room bits ∙ h.bits;
}

pub leads_end : (all : List ℕ) (first now : Taking) → Leads all first [] now → Takes all first now
leads_end all first now h = record {
  room = (let same : now.room - 0 ≡ now.room = omega arith in sym same ∙ h.room);
  which = ap (set_with now.which) (sym (take_none now.room)) ∙ h.which;
  bits = ap (set_with now.bits) (sym (take_none now.room)) ∙ h.bits;
}

-- ---- a range that is looked through

left_more : (test : ℕ → Bool) (i : ℕ) → i ≤ 31
    → filter test (range_with_len i (32 - i)) ≡ cond (test i) (i ∷ filter test (range_with_len (i + 1) (32 - (i + 1)))) (filter test (range_with_len (i + 1) (32 - (i + 1))))
left_more test i below =
    let more : 32 - i ≡ suc (32 - (i + 1)) = omega (arith, below) in
    ap (λ n. filter test (range_with_len i n)) more

pub left_yes : (test : ℕ → Bool) (i : ℕ) → i ≤ 31 → test i ≡ true → filter test (range_with_len i (32 - i)) ≡ i ∷ filter test (range_with_len (i + 1) (32 - (i + 1)))
left_yes test i below passes = left_more test i below ∙ cond-true (test i) _ _ passes

pub left_no : (test : ℕ → Bool) (i : ℕ) → i ≤ 31 → test i ≡ false → filter test (range_with_len i (32 - i)) ≡ filter test (range_with_len (i + 1) (32 - (i + 1)))
left_no test i below fails = left_more test i below ∙ cond-false (test i) _ _ fails

-- of each list those that are among the first so many of all
abbrev pub first_of_all : ℕ → List (List ℕ) → List (List ℕ)
first_of_all room [] = []
first_of_all room (streams ∷ others) = take room streams ∷ first_of_all (room - length streams) others

-- ---- sets are below a power of two where each stream is

abbrev pub below_all : ℕ → List ℕ → Type 0
below_all n [] = Unit {0}
below_all n (bis ∷ streams) = (1 ≤ bis) × (bis ≤ n) × below_all n streams

pub set_below : (n set : ℕ) (streams : List ℕ) → set < 2 ^ n → below_all n streams → set_with set streams < 2 ^ n
set_below n set [] small h = small
set_below n set (bis ∷ streams) small h =
    set_below n (bit_or set (2 ^ (bis - 1))) streams (or_lt n set (2 ^ (bis - 1)) small (pow_below (bis - 1) n (omega (arith, h.0, h.1)))) h.2

abbrev pub below_each : ℕ → List (List ℕ) → Type 0
below_each n [] = Unit {0}
below_each n (streams ∷ others) = below_all n streams × below_each n others

pub sets_below : (n set : ℕ) (lists : List (List ℕ)) → set < 2 ^ n → below_each n lists → sets_with set lists < 2 ^ n
sets_below n set [] small h = small
sets_below n set (streams ∷ others) small h = sets_below n (set_with set streams) others (set_below n set streams small h.0) h.1

pub taken_below : (n room : ℕ) (streams : List ℕ) → below_all n streams → below_all n (take room streams)
taken_below n zero streams h = tt
taken_below n (suc room) [] h = tt
taken_below n (suc room) (bis ∷ streams) h = (h.0, h.1, taken_below n room streams h.2)

pub first_below : (n room : ℕ) (lists : List (List ℕ)) → below_each n lists → below_each n (first_of_all room lists)
first_below n room [] h = tt
first_below n room (streams ∷ others) h = (taken_below n room streams h.0, first_below n (room - length streams) others h.1)

filter_below_one : (n i : ℕ) (b : Bool) (others : List ℕ) → 1 ≤ i → (b ≡ true → i ≤ n) → below_all n others → below_all n (cond b (i ∷ others) others)
filter_below_one n i true others least passes h = (least, passes refl, h)
filter_below_one n i false others least passes h = h

pub filter_below : (n : ℕ) (test : ℕ → Bool) → ((i : ℕ) → test i ≡ true → i ≤ n) → (start count : ℕ) → 1 ≤ start → below_all n (filter test (range_with_len start count))
filter_below n test passes start zero least = tt
filter_below n test passes start (suc count) least =
    filter_below_one n start (test start) (filter test (range_with_len (start + 1) count)) least (passes start) (filter_below n test passes (start + 1) count (omega arith))

-- ---- subgroup by subgroup

-- the streams that are still to be taken lead to what all lead to
pub record Chooses (all : List (List ℕ)) (streams : ℕ) (rest : List (List ℕ)) (room which : ℕ) (bits : List ℕ) : Type 0 where
  pub bits_lead : bits ++ map (set_with 0) (first_of_all room rest) ≡ map (set_with 0) (first_of_all streams all)
  pub which_leads : sets_with which (first_of_all room rest) ≡ sets_with 0 (first_of_all streams all)

pub chooses_next : (all : List (List ℕ)) (streams : ℕ) (rest others : List (List ℕ)) (room which : ℕ) (bits bits_now candidates : List ℕ) (first last : Taking)
    → rest ≡ candidates ∷ others → first.room ≡ room → first.which ≡ which → first.bits ≡ 0 → Takes candidates first last → bits_now ≡ bits ++ last.bits ∷ []
    → Chooses all streams rest room which bits → Chooses all streams others last.room last.which bits_now
chooses_next all streams rest others room which bits bits_now candidates first last parts is_room is_which fresh takes put h =
    let left : last.room ≡ room - length candidates = takes.room ∙ ap (λ n. n - length candidates) is_room in
    let one : last.bits ≡ set_with 0 (take room candidates) = takes.bits ∙ (λ i. set_with (fresh i) (take (is_room i) candidates)) in
    let sets : last.which ≡ set_with which (take room candidates) = takes.which ∙ (λ i. set_with (is_which i) (take (is_room i) candidates)) in
    record {
      bits_lead = (λ i. put i ++ map (set_with 0) (first_of_all (left i) others))
          ∙ append_assoc bits (last.bits ∷ []) (map (set_with 0) (first_of_all (room - length candidates) others))
          ∙ (λ i. bits ++ one i ∷ map (set_with 0) (first_of_all (room - length candidates) others))
          ∙ ap (λ lists. bits ++ map (set_with 0) (first_of_all room lists)) (sym parts) ∙ h.bits_lead;
      which_leads = (λ i. sets_with (sets i) (first_of_all (left i) others))
          ∙ ap (λ lists. sets_with which (first_of_all room lists)) (sym parts) ∙ h.which_leads;
    }

pub chooses_last : (all : List (List ℕ)) (streams : ℕ) (rest : List (List ℕ)) (room which : ℕ) (bits : List ℕ) → rest ≡ [] → Chooses all streams rest room which bits
    → (bits ≡ map (set_with 0) (first_of_all streams all)) × (which ≡ sets_with 0 (first_of_all streams all))
chooses_last all streams rest room which bits none h = (
  sym (append_none bits) ∙ ap (λ lists. bits ++ map (set_with 0) (first_of_all room lists)) (sym none) ∙ h.bits_lead,
  ap (λ lists. sets_with which (first_of_all room lists)) (sym none) ∙ h.which_leads,
)
  where
    append_none : (xs : List ℕ) → xs ++ [] ≡ xs
    append_none [] = refl
    append_none (x ∷ xs) = ap (λ ys. x ∷ ys) (append_none xs)
