-- A set of streams and its streams in rising order.
use Rattle.scenario_words.proofs.Prelude.{◌≡◌, ◌≢◌, ◌≤◌, ◌<◌, ◌+◌, ◌-◌, ◌^◌, ℕ, zero, suc, Bool, true, false, cond, nat_eq, max, List, [], ◌∷◌, refl, ap, sym, ◌∙◌, arith, eqb-true, subst, inl, inr, bit_or, bit_at, cases_eq, cases_lt, bit_at_or, bit_at-pow_same, bit_at-pow_other, bit_at-lt, bit_at-zero, bit_at_above, same_from_bits, with_stream, Rising, with_streams, streams_from, streams_in, or_lt}
use Rattle.std.proofs.Math.Pow.{pow-lt}

abbrev chosen : Bool → ℕ → List ℕ → List ℕ
chosen b index others = cond b (index ∷ others) others

rising_weaker : (least more : ℕ) (indices : List ℕ) → least ≤ more → Rising more indices → Rising least indices
rising_weaker least more [] h r = tt
rising_weaker least more (index ∷ indices) h r = (omega (arith, r.0), r.1, r.2)

rising_chosen : (b : Bool) (index : ℕ) (others : List ℕ) → index ≤ 31 → Rising (index + 1) others → Rising index (chosen b index others)
rising_chosen b index others small r = grind (arith, rising_weaker)

rising_from : (more set index : ℕ) → index + more ≤ 32 → Rising index (streams_from set index more)
rising_from zero set index h = tt
rising_from (suc more) set index h =
    rising_chosen (nat_eq (bit_at set (index - 1)) 1) index (streams_from set (index + 1) more) (omega arith) (rising_from more set (index + 1) (omega arith))

pub streams_rise : (set : ℕ) → Rising 1 (streams_in set)
streams_rise set = rising_from 31 set 1 (omega arith)

-- a set that has the first k bits of another, and no others
record Prefix (set part k : ℕ) : Type 0 where
  pub below : (i : ℕ) → i < k → bit_at part i ≡ bit_at set i
  pub above : (i : ℕ) → k ≤ i → bit_at part i ≡ 0

with_bit : (set k i : ℕ) → bit_at (bit_or set (2 ^ k)) i ≡ max (bit_at set i) (bit_at (2 ^ k) i)
with_bit set k i = bit_at_or set (2 ^ k) i

bit_taken : (set part k : ℕ) → bit_at set k ≡ 1 → Prefix set part k → Prefix set (bit_or part (2 ^ k)) (k + 1)
bit_taken set part k one prefix = grind (arith, cases_eq, with_bit, bit_at, bit_at-pow_same, bit_at-lt, bit_at-pow_other)

bit_left : (set part k : ℕ) → (bit_at set k ≡ 1 → ⊥) → Prefix set part k → Prefix set part (k + 1)
bit_left set part k none prefix = grind (arith, cases_eq, bit_at-lt, bit_at)

not_one : (n : ℕ) → nat_eq n 1 ≡ false → n ≡ 1 → ⊥
not_one n e same = let one : nat_eq 1 1 ≡ false = ap (λ (m : ℕ). nat_eq m 1) (sym same) ∙ e in cc one

prefix_chosen : (b : Bool) (set part index k last : ℕ) (others : List ℕ) → index - 1 ≡ k → nat_eq (bit_at set (index - 1)) 1 ≡ b
    → ((next : ℕ) → Prefix set next (k + 1) → Prefix set (with_streams next others) last) → Prefix set part k → Prefix set (with_streams part (chosen b index others)) last
prefix_chosen true set part index k last others place e rest prefix = grind (arith, bit_at, eqb-true, with_stream, bit_or, bit_taken)
prefix_chosen false set part index k last others place e rest prefix = grind (arith, bit_at, not_one, bit_left)

prefix_from : (more set part index k : ℕ) → index ≡ k + 1 → Prefix set part k → Prefix set (with_streams part (streams_from set index more)) (k + more)
prefix_from zero set part index k is prefix = subst (λ (m : ℕ). Prefix set part m) (omega arith) prefix
prefix_from (suc more) set part index k is prefix =
    prefix_chosen (nat_eq (bit_at set (index - 1)) 1) set part index k (k + suc more) (streams_from set (index + 1) more) (omega arith) refl
    (λ next so_far. subst (λ (m : ℕ). Prefix set (with_streams next (streams_from set (index + 1) more)) m) (omega arith) (prefix_from more set next (index + 1) (k + 1) (omega arith) so_far))
    prefix

nothing_yet : (set : ℕ) → Prefix set 0 0
nothing_yet set = record { below = λ i inside. absurd (omega arith); above = λ i past. bit_at-zero i }

pub all_streams : (set : ℕ) → set < 2 ^ 31 → set ≡ with_streams 0 (streams_in set)
all_streams set small =
    let all = prefix_from 31 set 0 1 0 refl (nothing_yet set) in
    sym (same_from_bits (with_streams 0 (streams_in set)) set (λ i. elim (cases_lt i 31) [
      | inl inside ↦ all.below i inside
      | inr past ↦ all.above i past ∙ sym (bit_at_above set 31 i small past)
    ]))

pub some_stream : (set : ℕ) (indices : List ℕ) → set ≢ 0 → set ≡ with_streams 0 indices → (first : ℕ) × (others : List ℕ) × (indices ≡ first ∷ others)
some_stream set [] some e = absurd (some e)
some_stream set (first ∷ others) some e = (first, others, refl)

-- ---- a set that indices make

one_small : (part index : ℕ) → part < 2 ^ 31 → index ≤ 31 → 1 ≤ index → with_stream part index < 2 ^ 31
one_small part index small high low = let place : index - 1 < 31 = omega arith in
    let bit : 2 ^ (index - 1) < 2 ^ 31 = pow-lt place in
    or_lt 31 part (2 ^ (index - 1)) small bit

pub streams_small : (indices : List ℕ) (part least : ℕ) → part < 2 ^ 31 → 1 ≤ least → Rising least indices → with_streams part indices < 2 ^ 31
streams_small [] part least small low r = small
streams_small (index ∷ indices) part least small low r =
    streams_small indices (with_stream part index) (index + 1) (one_small part index small r.1 (omega (arith, r.0))) (omega arith) r.2

stays : (indices : List ℕ) (part i : ℕ) → bit_at part i ≡ 1 → bit_at (with_streams part indices) i ≡ 1
stays [] part i one = one
stays (index ∷ indices) part i one = stays indices (with_stream part index) i (grind (arith, with_bit, bit_at-lt))

pub streams_some : (first : ℕ) (others : List ℕ) → with_streams 0 (first ∷ others) ≢ 0
streams_some first others none =
    let k = first - 1 in
    let here = with_bit 0 k k in
    let this = bit_at-pow_same k in
    let zero_there = bit_at-zero k in
    let one : bit_at (with_stream 0 first) k ≡ 1 = omega arith in
    let there : bit_at (with_streams 0 (first ∷ others)) k ≡ 1 = stays others (with_stream 0 first) k one in
    let nothing : bit_at (with_streams 0 (first ∷ others)) k ≡ 0 = ap (λ (n : ℕ). bit_at n k) none ∙ zero_there in
    omega arith
