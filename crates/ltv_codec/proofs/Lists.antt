-- What is read is encoded so, what is encoded so is read, and a fault is the one at the cut.
use Rattle.ltv_codec.proofs.Prelude.{◌≡◌, ℕ, zero, suc, ◌+◌, ◌<◌, ◌≤◌, ◌⊎◌, false, ltb, List, [], ◌∷◌, ◌++◌, length, get_or, take, drop, Some, None, Result, Ok, Err, refl, sym, ap, subst, ◌∙◌, append_assoc, arith, inl, inr, add-zero, AllByRecursion, take_at, drop_at, take-append-drop, length-append, length-take, append-nil, IsOctets, counted_in, LtvBad, ZeroLength, Short, Ltv, StandsZero, StandsShort, IsBad, Fits, structure, encoding, IsLtvList, before, ltvs_of, IsStructure, IsBadAt, cases_lt, lt-ltb, le-ltb, ltb-true}
use Rattle.std.proofs.lemmas.List.Concat.{flat_map-cons}
use Rattle.bcast_base.proofs.Citable.{IsOctets-drop, counted_takes}
use Rattle.ltv_codec.specs.Reading.{ltvs_from}

-- ---- the front of what is read

inside : (place count : ℕ) (octets : List ℕ) → count ≤ length octets → ltvs_from place count octets ≡ ltvs_from (place + count) zero (drop count octets)
unfolding ltvs_from
inside place (suc count) (octet ∷ octets) h =
    inside (place + 1) count octets (omega arith) ∙ ap (λ (p : ℕ). ltvs_from p zero (drop count octets)) (omega arith)
inside place count octets h = search add-zero

abbrev pub made : ℕ → List ℕ → Ltv
made kind value = record { kind = kind; value = value }

whole_read : (place kind : ℕ) (value others : List ℕ)
    → ltvs_from place zero (suc (length value) ∷ kind ∷ (value ++ others)) ≡ before (made kind value) (ltvs_from (place + (2 + length value)) zero others)
unfolding ltvs_from
whole_read place kind value others =
    let fits : ltb (length (kind ∷ (value ++ others))) (suc (length value)) ≡ false = le-ltb _ _ (omega (arith, length-append value others)) in
    let prefix : take (length value) (value ++ others) ≡ value = take_at value others (length value) refl in
    let back : drop (length value) (value ++ others) ≡ others = drop_at value others (length value) refl in
    let there : place + 1 + 1 + length value ≡ place + (2 + length value) = omega arith in
    rw (fits, inside (place + 1 + 1) (length value) (value ++ others) (omega (arith, length-append value others)), prefix, back, there) refl

pub structure_read : (place : ℕ) (octets : List ℕ) (kind : ℕ) (value others : List ℕ) → IsStructure octets kind value others
    → ltvs_from place zero octets ≡ before (made kind value) (ltvs_from (place + (2 + length value)) zero others)
structure_read place octets kind value others s =
    let count : 1 + length value ≡ suc (length value) = omega arith in
    ap (ltvs_from place zero) (s.parts ∙ ap (λ (n : ℕ). n ∷ kind ∷ (value ++ others)) count) ∙ whole_read place kind value others

zero_read : (place : ℕ) (octets : List ℕ) → StandsZero octets → ltvs_from place zero octets ≡ Err (ZeroLength place)
unfolding ltvs_from
zero_read place octets h = grind arith

short_read : (place : ℕ) (octets : List ℕ) → StandsShort octets → ltvs_from place zero octets ≡ Err (Short place)
unfolding ltvs_from
short_read place octets h = grind (arith, lt-ltb)

-- ---- the front of octets, and what the code met there

pub is_zero : (place : ℕ) (octets rest : List ℕ) → counted_in octets ≡ Some ([], rest) → IsBadAt place octets (ZeroLength place)
is_zero place octets rest e = rw ((counted_takes octets [] rest e).parts) (zero_read place (0 ∷ rest) refl)

pub is_short : (place : ℕ) (octets : List ℕ) → 0 < length octets → counted_in octets ≡ None → IsBadAt place octets (Short place)
is_short place octets h e = grind (arith, short_read, ltb-true)

pub is_structure : (octets : List ℕ) (kind : ℕ) (value rest : List ℕ) → IsOctets octets → counted_in octets ≡ Some (kind ∷ value, rest) → IsStructure octets kind value rest
is_structure octets kind value rest h e =
    let parts = (counted_takes octets (kind ∷ value) rest e).parts in
    let count : length (kind ∷ value) ≡ 1 + length value = omega arith in
    let first : length (kind ∷ value) < 256 = subst (λ (os : List ℕ). get_or os 0 0 < 256) parts (h 0) in
    record { parts = parts ∙ ap (λ (n : ℕ). n ∷ kind ∷ (value ++ rest)) count; fits = omega (arith, first) }

prefix_of : (octets : List ℕ) → IsOctets octets → (octets ≡ []) ⊎ StandsZero octets ⊎ StandsShort octets ⊎ ((kind : ℕ) × (value : List ℕ) × (others : List ℕ) × IsStructure octets kind value others)
prefix_of [] h = inl refl
prefix_of (zero ∷ octets) h = inr (inl refl)
prefix_of (suc count ∷ []) h = inr (inr (inl (omega arith)))
prefix_of (suc count ∷ kind ∷ octets) h =
    elim (cases_lt (length (kind ∷ octets)) (suc count)) [
      | inl lt ↦ inr (inr (inl lt))
      | inr le ↦
          let long : length (take count octets) ≡ count = omega (arith, length-take count octets, le) in
          let sized : suc count ≡ 1 + length (take count octets) = omega (arith, long) in
          let parts : suc count ∷ kind ∷ octets ≡ (1 + length (take count octets)) ∷ kind ∷ (take count octets ++ drop count octets) =
          ap (λ (n : ℕ). n ∷ kind ∷ octets) sized ∙ ap (λ (os : List ℕ). (1 + length (take count octets)) ∷ kind ∷ os) (sym (take-append-drop count octets)) in
          let small : suc count < 256 = h 0 in
          inr (inr (inr (kind, take count octets, drop count octets, record { parts = parts; fits = omega (arith, long, small) })))
    ]

others_fit : (octets : List ℕ) (kind : ℕ) (value others : List ℕ) → IsStructure octets kind value others → IsOctets octets → IsOctets others × (length others + (2 + length value) ≡ length octets)
others_fit octets kind value others s h =
    let all : IsOctets ((1 + length value) ∷ kind ∷ (value ++ others)) = subst IsOctets s.parts h in
    let body : IsOctets (value ++ others) = λ i. all (suc (suc i)) in
    let rest : IsOctets others = subst IsOctets (drop_at value others (length value) refl) (IsOctets-drop (length value) (value ++ others) body) in
    let long : length octets ≡ length ((1 + length value) ∷ kind ∷ (value ++ others)) = ap length s.parts in
    (rest, omega (arith, long, length-append value others))

-- ---- what is encoded so is read

-- structures, and what is read behind them
abbrev pub behind : List Ltv → Result (List Ltv) LtvBad → Result (List Ltv) LtvBad
behind prefix (Ok ltvs) = Ok (prefix ++ ltvs)
behind prefix (Err bad) = Err bad

behind-none : (read : Result (List Ltv) LtvBad) → behind [] read ≡ read
behind-none read = grind arith

behind-first : (ltv : Ltv) (prefix : List Ltv) (read : Result (List Ltv) LtvBad) → before ltv (behind prefix read) ≡ behind (ltv ∷ prefix) read
behind-first ltv prefix read = grind arith

pub behind-more : (prefix : List Ltv) (ltv : Ltv) (read : Result (List Ltv) LtvBad) → behind prefix (before ltv read) ≡ behind (prefix ++ ltv ∷ []) read
behind-more prefix ltv read = grind (arith, append_assoc)

encoded : (ltv : Ltv) (ltvs : List Ltv) (rest : List ℕ) → encoding (ltv ∷ ltvs) ++ rest ≡ (1 + length ltv.value) ∷ ltv.kind ∷ (ltv.value ++ (encoding ltvs ++ rest))
encoded ltv ltvs rest = ap (λ (os : List ℕ). os ++ rest) (flat_map-cons structure ltv ltvs) ∙ append_assoc (structure ltv) (encoding ltvs) rest

pub encoded_read : (place : ℕ) (ltvs : List Ltv) (rest : List ℕ) → AllByRecursion Fits ltvs
    → ltvs_from place zero (encoding ltvs ++ rest) ≡ behind ltvs (ltvs_from (place + length (encoding ltvs)) zero rest)
encoded_read place [] rest h = ap (λ (p : ℕ). ltvs_from p zero rest) (sym (add-zero place)) ∙ sym (behind-none (ltvs_from (place + 0) zero rest))
encoded_read place (ltv ∷ ltvs) rest h =
    let first = structure_read place (encoding (ltv ∷ ltvs) ++ rest) ltv.kind ltv.value (encoding ltvs ++ rest) (record { parts = encoded ltv ltvs rest; fits = h.0 }) in
    let others = encoded_read (place + (2 + length ltv.value)) ltvs rest h.1 in
    let len : length (encoding (ltv ∷ ltvs)) ≡ 2 + length ltv.value + length (encoding ltvs) =
    ap length (flat_map-cons structure ltv ltvs) ∙ length-append (structure ltv) (encoding ltvs) ∙ omega arith in
    let there : place + (2 + length ltv.value) + length (encoding ltvs) ≡ place + length (encoding (ltv ∷ ltvs)) = omega (arith, len) in
    first ∙ ap (before ltv) others ∙ behind-first ltv ltvs (ltvs_from (place + (2 + length ltv.value) + length (encoding ltvs)) zero rest)
    ∙ ap (λ (p : ℕ). behind (ltv ∷ ltvs) (ltvs_from p zero rest)) there

nothing_read : (place : ℕ) → ltvs_from place zero [] ≡ Ok []
unfolding ltvs_from
nothing_read place = refl

pub list_read : (ltvs : List Ltv) (octets : List ℕ) → IsLtvList ltvs octets → ltvs_of octets ≡ Ok ltvs
list_read ltvs octets l =
    ap ltvs_of (l.encoded ∙ sym (append-nil (encoding ltvs))) ∙ encoded_read 0 ltvs [] l.fit
    ∙ ap (behind ltvs) (nothing_read (0 + length (encoding ltvs))) ∙ ap (λ (ls : List Ltv). Ok ls) (append-nil ltvs)

-- ---- what is read is encoded so

ok_same : (xs ys : List Ltv) → (let r : List Ltv → Result (List Ltv) LtvBad = λ zs. Ok zs in r xs ≡ r ys) → xs ≡ ys
ok_same xs ys e = cc

before_ok : (ltv : Ltv) (read : Result (List Ltv) LtvBad) (ltvs : List Ltv) → before ltv read ≡ Ok ltvs → (others : List Ltv) × (read ≡ Ok others) × (ltv ∷ others ≡ ltvs)
before_ok ltv read ltvs e = grind arith

err_not_ok : (bad : LtvBad) (ltvs : List Ltv) → (let r : Result (List Ltv) LtvBad = Err bad in r ≡ Ok ltvs) → ⊥
err_not_ok bad ltvs e = cc

is_longer : (octets : List ℕ) (kind : ℕ) (value others : List ℕ) (ltvs : List Ltv) → IsStructure octets kind value others → IsLtvList ltvs others → IsLtvList (made kind value ∷ ltvs) octets
is_longer octets kind value others ltvs s l = grind (arith, encoded, flat_map-cons)

read_within : (n place : ℕ) (octets : List ℕ) (ltvs : List Ltv) → length octets ≤ n → IsOctets octets → ltvs_from place zero octets ≡ Ok ltvs → IsLtvList ltvs octets
read_within zero place [] ltvs h fits e = subst (λ (ls : List Ltv). IsLtvList ls []) (ok_same [] ltvs (sym (nothing_read place) ∙ e)) (record { fit = tt; encoded = refl })
read_within zero place (octet ∷ octets) ltvs h fits e = absurd (omega arith)
read_within (suc n) place octets ltvs h fits e =
    elim (prefix_of octets fits) [
      | inl none ↦ grind (arith, ok_same, nothing_read, encoded)
      | inr (inl stands) ↦ absurd (err_not_ok (ZeroLength place) ltvs (sym (zero_read place octets stands) ∙ e))
      | inr (inr (inl stands)) ↦ absurd (err_not_ok (Short place) ltvs (sym (short_read place octets stands) ∙ e))
      | inr (inr (inr (kind, value, others, s))) ↦
          let rest = others_fit octets kind value others s fits in
          let b = before_ok (made kind value) (ltvs_from (place + (2 + length value)) zero others) ltvs (sym (structure_read place octets kind value others s) ∙ e) in
          let l = read_within n (place + (2 + length value)) others b.0 (omega (arith, rest.1)) rest.0 b.1 in
          subst (λ (ls : List Ltv). IsLtvList ls octets) b.2 (is_longer octets kind value others b.0 s l)
    ]

pub read_list : (ltvs : List Ltv) (octets : List ℕ) → IsOctets octets → ltvs_of octets ≡ Ok ltvs → IsLtvList ltvs octets
read_list ltvs octets fits e = read_within (length octets) 0 octets ltvs (omega arith) fits e

-- ---- a fault is the one at the cut

-- whole structures, and behind them, from this place on, a Length that is wrong
record Cut (place : ℕ) (bad : LtvBad) (octets : List ℕ) : Type 0 where
  ltvs : List Ltv
  prefix : List ℕ
  rest : List ℕ
  list : IsLtvList ltvs prefix
  parts : octets ≡ prefix ++ rest
  what : ((bad ≡ ZeroLength (place + length prefix)) × StandsZero rest) ⊎ ((bad ≡ Short (place + length prefix)) × StandsShort rest)

bad_same : (a b : LtvBad) → (let r : LtvBad → Result (List Ltv) LtvBad = λ x. Err x in r a ≡ r b) → a ≡ b
bad_same a b e = cc

before_bad : (ltv : Ltv) (read : Result (List Ltv) LtvBad) (bad : LtvBad) → before ltv read ≡ Err bad → read ≡ Err bad
before_bad ltv read bad e = grind arith

empty_list : IsLtvList [] []
empty_list = record { fit = tt; encoded = refl }

further : (place : ℕ) (bad : LtvBad) (octets : List ℕ) (kind : ℕ) (value others : List ℕ) → IsStructure octets kind value others → Cut (place + (2 + length value)) bad others → Cut place bad octets
further place bad octets kind value others s c =
    let there : place + (2 + length value) + length c.prefix ≡ place + length ((1 + length value) ∷ kind ∷ (value ++ c.prefix)) = omega (arith, length-append value c.prefix) in
    record {
      ltvs = made kind value ∷ c.ltvs;
      prefix = (1 + length value) ∷ kind ∷ (value ++ c.prefix);
      rest = c.rest;
      list = is_longer ((1 + length value) ∷ kind ∷ (value ++ c.prefix)) kind value c.prefix c.ltvs (record { parts = refl; fits = s.fits }) c.list;
      parts = s.parts ∙ ap (λ (os : List ℕ). (1 + length value) ∷ kind ∷ (value ++ os)) c.parts ∙ ap (λ (os : List ℕ). (1 + length value) ∷ kind ∷ os) (sym (append_assoc value c.prefix c.rest));
      what = subst (λ (p : ℕ). ((bad ≡ ZeroLength p) × StandsZero c.rest) ⊎ ((bad ≡ Short p) × StandsShort c.rest)) there c.what;
    }

nothing_bad : (place : ℕ) (bad : LtvBad) → ltvs_from place zero [] ≡ Err bad → ⊥
unfolding ltvs_from
nothing_bad place bad e = cc

cut_within : (n place : ℕ) (octets : List ℕ) (bad : LtvBad) → length octets ≤ n → IsOctets octets → ltvs_from place zero octets ≡ Err bad → Cut place bad octets
cut_within zero place [] bad h fits e = absurd (nothing_bad place bad e)
cut_within zero place (octet ∷ octets) bad h fits e = absurd (omega arith)
cut_within (suc n) place octets bad h fits e =
    elim (prefix_of octets fits) [
      | inl none ↦ absurd (nothing_bad place bad (sym (ap (ltvs_from place zero) none) ∙ e))
      | inr (inl stands) ↦ grind (arith, bad_same, zero_read, empty_list, add-zero)
      | inr (inr (inl stands)) ↦ grind (arith, bad_same, short_read, empty_list, add-zero)
      | inr (inr (inr (kind, value, others, s))) ↦
          let rest = others_fit octets kind value others s fits in
          let b = before_bad (made kind value) (ltvs_from (place + (2 + length value)) zero others) bad (sym (structure_read place octets kind value others s) ∙ e) in
          further place bad octets kind value others s (cut_within n (place + (2 + length value)) others bad (omega (arith, rest.1)) rest.0 b)
    ]

is_bad : (bad : LtvBad) (octets : List ℕ) → Cut 0 bad octets → IsBad bad octets
is_bad bad octets c = grind arith

pub read_bad : (bad : LtvBad) (octets : List ℕ) → IsOctets octets → ltvs_of octets ≡ Err bad → IsBad bad octets
read_bad bad octets fits e = is_bad bad octets (cut_within (length octets) 0 octets bad (omega arith) fits e)

cut_read : (bad : ℕ → LtvBad) (octets : List ℕ) (ltvs : List Ltv) (prefix rest : List ℕ) → IsLtvList ltvs prefix → octets ≡ prefix ++ rest
    → ltvs_from (length prefix) zero rest ≡ Err (bad (length prefix)) → ltvs_of octets ≡ Err (bad (length prefix))
cut_read bad octets ltvs prefix rest l parts stands = grind (arith, encoded_read)

pub bad_read : (bad : LtvBad) (octets : List ℕ) → IsBad bad octets → ltvs_of octets ≡ Err bad
bad_read (ZeroLength place) octets (ltvs, prefix, rest, l, there, stands, parts) =
    cut_read (λ p. ZeroLength p) octets ltvs prefix rest l parts (zero_read (length prefix) rest stands) ∙ ap (λ (p : ℕ). Err (ZeroLength p)) there
bad_read (Short place) octets (ltvs, prefix, rest, l, there, stands, parts) =
    cut_read (λ p. Short p) octets ltvs prefix rest l parts (short_read (length prefix) rest stands) ∙ ap (λ (p : ℕ). Err (Short p)) there
