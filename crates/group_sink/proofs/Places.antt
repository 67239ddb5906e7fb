-- The place of the receiver of a stream among those of the streams that a sink takes.
use Rattle.group_sink.proofs.Prelude.{ℕ, zero, suc, ◌≡◌, ◌≢◌, ◌+◌, ◌-◌, ◌<◌, ◌≤◌, Bool, true, false, cond, List, [], ◌∷◌, ◌++◌, length, map, set, replicate, slice_get, Some, None, refl, sym, ap, ◌∙◌, inl, inr, arith, filter, range_with_len, eq-eqb, ne_eqb, cases_Bool, cases_eq, cond-true, cond-false, append_assoc, append-nil, length-map, map-append, set_at, filter-append, length-map-range_with_len, length-range_with_len, map-range_with_len_more, place_in, places_of, is_in, streams_of, bit_at, Has}

-- the indices below one and above it
range_split : (start n m : ℕ) → range_with_len start (n + m) ≡ range_with_len start n ++ range_with_len (start + n) m
range_split start zero m = grind (arith, range_with_len)
range_split start (suc n) m =
    let past : (start + 1) + n ≡ start + suc n = omega arith in
    ap (range_with_len start) (let more : suc n + m ≡ suc (n + m) = omega arith in more)
    ∙ ap (λ xs. start ∷ xs) (range_split (start + 1) n m) ∙ ap (λ a. start ∷ (range_with_len (start + 1) n ++ range_with_len a m)) past

indices_split : (bis : ℕ) → 1 ≤ bis → bis ≤ 31
    → range_with_len 1 31 ≡ range_with_len 1 (bis - 1) ++ bis ∷ range_with_len (bis + 1) (31 - bis)
indices_split bis least greatest =
    let parts : 31 ≡ (bis - 1) + suc (31 - bis) = omega arith in
    let first : 1 + (bis - 1) ≡ bis = omega arith in
    ap (range_with_len 1) parts ∙ range_split 1 (bis - 1) (suc (31 - bis))
    ∙ ap (λ a. range_with_len 1 (bis - 1) ++ range_with_len a (suc (31 - bis))) first

-- the streams of a set below an index and above it
abbrev pub below : ℕ → ℕ → List ℕ
below set bis = filter (is_in set) (range_with_len 1 (bis - 1))

abbrev above : ℕ → ℕ → List ℕ
above set bis = filter (is_in set) (range_with_len (bis + 1) (31 - bis))

streams_split : (set bis : ℕ) → 1 ≤ bis → bis ≤ 31 → is_in set bis ≡ true → streams_of set ≡ below set bis ++ bis ∷ above set bis
streams_split set bis least greatest taken =
    ap (filter (is_in set)) (indices_split bis least greatest)
    ∙ filter-append (is_in set) (range_with_len 1 (bis - 1)) (bis ∷ range_with_len (bis + 1) (31 - bis))
    ∙ ap (λ xs. below set bis ++ xs) (cond-true (is_in set bis) (bis ∷ above set bis) (above set bis) taken)

-- what stands at the place of a stream
there : {X : Type 0} (f : ℕ → X) (xs ys : List ℕ) (bis : ℕ) → slice_get (map f (xs ++ bis ∷ ys)) (length xs) ≡ Some (f bis)
there f [] ys bis = refl
there f (x ∷ xs) ys bis = there f xs ys bis

past : {X : Type 0} (xs : List X) (n : ℕ) → length xs ≤ n → slice_get xs n ≡ None
past [] n short = refl
past (x ∷ xs) zero short = absurd (omega (arith, short))
past (x ∷ xs) (suc n) short = past xs n (omega (arith, short))

kept_few : (taken : Bool) (x : ℕ) (xs : List ℕ) (n : ℕ) → length xs ≤ n → length (cond taken (x ∷ xs) xs) ≤ suc n
kept_few taken x xs n short = grind arith

few : (test : ℕ → Bool) (xs : List ℕ) → length (filter test xs) ≤ length xs
few test [] = omega arith
few test (x ∷ xs) = kept_few (test x) x (filter test xs) (length xs) (few test xs)

pub stream_at : {X : Type 0} (f : ℕ → X) (set bis : ℕ) → 1 ≤ bis → bis ≤ 31
    → slice_get (map f (streams_of set)) (place_in set bis) ≡ cond (is_in set bis) (Some (f bis)) None
stream_at f set bis least greatest = elim (cases_Bool (is_in set bis)) [
  | inl taken ↦
      ap (slice_get (map f (streams_of set))) (cond-true (is_in set bis) (length (below set bis)) 31 taken)
      ∙ ap (λ xs. slice_get (map f xs) (length (below set bis))) (streams_split set bis least greatest taken)
      ∙ there f (below set bis) (above set bis) bis ∙ sym (cond-true (is_in set bis) (Some (f bis)) None taken)
  | inr free ↦
      ap (slice_get (map f (streams_of set))) (cond-false (is_in set bis) (length (below set bis)) 31 free)
      ∙ past (map f (streams_of set)) 31
      (omega (arith, length-map (streams_of set) f, few (is_in set) (range_with_len 1 31), length-range_with_len 1 31))
      ∙ sym (cond-false (is_in set bis) (Some (f bis)) None free)
]

-- one stream is written, and no other
kept_same : {X : Type 0} (taken : Bool) (f g : ℕ → X) (x : ℕ) (xs : List ℕ) → f x ≡ g x → map f xs ≡ map g xs
    → map f (cond taken (x ∷ xs) xs) ≡ map g (cond taken (x ∷ xs) xs)
kept_same taken f g x xs one rest = grind (arith, map)

range_same : {X : Type 0} (f g : ℕ → X) (test : ℕ → Bool) (start n : ℕ) → ((c : ℕ) → start ≤ c → c < start + n → f c ≡ g c)
    → map f (filter test (range_with_len start n)) ≡ map g (filter test (range_with_len start n))
range_same f g test start zero same = refl
range_same f g test start (suc n) same =
    kept_same (test start) f g start (filter test (range_with_len (start + 1) n)) (same start (omega arith) (omega arith))
    (range_same f g test (start + 1) n (λ c least under. same c (omega (arith, least)) (omega (arith, under))))

pub stream_set : {X : Type 0} (f g : ℕ → X) (set_of bis : ℕ) → 1 ≤ bis → bis ≤ 31 → is_in set_of bis ≡ true
    → ((c : ℕ) → c ≢ bis → f c ≡ g c) → set (map f (streams_of set_of)) (place_in set_of bis) (g bis) ≡ map g (streams_of set_of)
stream_set f g set_of bis least greatest taken same =
    let parts = streams_split set_of bis least greatest taken in
    let first = range_same f g (is_in set_of) 1 (bis - 1) (λ c from under. same c (λ is. absurd (omega (arith, is, from, under, least)))) in
    let last = range_same f g (is_in set_of) (bis + 1) (31 - bis) (λ c from under. same c (λ is. absurd (omega (arith, is, from)))) in
    (λ i. set (map f (parts i)) (cond-true (is_in set_of bis) (length (below set_of bis)) 31 taken i) (g bis))
    ∙ ap (λ xs. set xs (length (below set_of bis)) (g bis)) (map-append f (below set_of bis) (bis ∷ above set_of bis))
    ∙ set_at (map f (below set_of bis)) (f bis) (map f (above set_of bis)) (g bis) (length (below set_of bis)) (length-map (below set_of bis) f)
    ∙ (λ i. first i ++ g bis ∷ last i) ∙ sym (map-append g (below set_of bis) (bis ∷ above set_of bis)) ∙ ap (map g) (sym parts)

pub streams_same : {X : Type 0} (f g : ℕ → X) (set bis : ℕ) → is_in set bis ≡ false → ((c : ℕ) → c ≢ bis → f c ≡ g c)
    → map f (streams_of set) ≡ map g (streams_of set)
streams_same f g set bis free same = others (range_with_len 1 31)
  where
    others : (xs : List ℕ) → map f (filter (is_in set) xs) ≡ map g (filter (is_in set) xs)
    others [] = refl
    others (x ∷ xs) = elim (cases_eq x bis) [
      | inr apart ↦ kept_same (is_in set x) f g x (filter (is_in set) xs) (same x apart) (others xs)
      | inl is ↦
          let out : is_in set x ≡ false = ap (is_in set) is ∙ free in
          ap (map f) (cond-false (is_in set x) (x ∷ filter (is_in set) xs) (filter (is_in set) xs) out) ∙ others xs
          ∙ ap (map g) (sym (cond-false (is_in set x) (x ∷ filter (is_in set) xs) (filter (is_in set) xs) out))
    ]

-- the streams before an index, and the places before it, in a loop over the indices
below_more : (set index : ℕ) → 1 ≤ index → below set (index + 1) ≡ below set index ++ cond (is_in set index) (index ∷ []) []
below_more set index least = grind (arith, filter, is_in, set, range_with_len, range_split, filter-append)

abbrev pub places_before : ℕ → ℕ → List ℕ
places_before set index = map (place_in set) (range_with_len 1 (index - 1)) ++ replicate (32 - index) 31

places_with : (set index : ℕ) → 1 ≤ index
    → map (place_in set) (range_with_len 1 (index - 1)) ++ place_in set index ∷ replicate (31 - index) 31 ≡ places_before set (index + 1)
places_with set index least =
    let last : 1 + (index - 1) ≡ index = omega arith in
    let parts : (index - 1) + 1 ≡ (index + 1) - 1 = omega arith in
    let rest : 31 - index ≡ 32 - (index + 1) = omega arith in
    sym (append_assoc (map (place_in set) (range_with_len 1 (index - 1))) (place_in set index ∷ []) (replicate (31 - index) 31))
    ∙ ap (λ xs. xs ++ replicate (31 - index) 31) (sym (map-range_with_len_more (place_in set) 1 (index - 1) index last))
    ∙ ap (λ n. map (place_in set) (range_with_len 1 n) ++ replicate (31 - index) 31) parts
    ∙ ap (λ n. map (place_in set) (range_with_len 1 ((index + 1) - 1)) ++ replicate n 31) rest

before_one : (set index : ℕ) → index ≤ 31
    → places_before set index ≡ map (place_in set) (range_with_len 1 (index - 1)) ++ 31 ∷ replicate (31 - index) 31
before_one set index greatest = grind (arith, map, place_in, set, range_with_len, replicate)

-- whether the stream of an index is taken
pub taken_is : (set bis index : ℕ) → bis ≡ index → Has set bis → is_in set index ≡ true
taken_is set bis index here has = rw (← here) (eq-eqb (bit_at set (bis - 1)) 1 has)

pub free_is : (set bis index : ℕ) → bis ≡ index → (Has set bis → ⊥) → is_in set index ≡ false
free_is set bis index here free = rw (← here) (ne_eqb (bit_at set (bis - 1)) 1 free)

-- of an index whose stream is taken
pub streams_more : {X : Type 0} (f : ℕ → X) (set index : ℕ) (streams more : List X) (stream : X) → 1 ≤ index
    → streams ≡ map f (below set index) → is_in set index ≡ true → stream ≡ f index → more ≡ streams ++ stream ∷ []
    → more ≡ map f (below set (index + 1))
streams_more f set index streams more stream least is taken fresh pushed = grind (arith, is_in, set, map, map-append, cond-true, below_more)

pub places_more : {X : Type 0} (f : ℕ → X) (set_of index : ℕ) (streams : List X) (places more : List ℕ) → 1 ≤ index → index ≤ 31
    → streams ≡ map f (below set_of index) → is_in set_of index ≡ true
    → places ≡ places_before set_of index → more ≡ set places (index - 1) (length streams) → more ≡ places_before set_of (index + 1)
places_more f set_of index streams places more least greatest is taken before written =
    let count : length streams ≡ place_in set_of index = ap length is ∙ length-map (below set_of index) f ∙ sym (cond-true (is_in set_of index) (length (below set_of index)) 31 taken) in
    written ∙ (λ i. set ((before ∙ before_one set_of index greatest) i) (index - 1) (count i))
    ∙ set_at (map (place_in set_of) (range_with_len 1 (index - 1))) 31 (replicate (31 - index) 31) (place_in set_of index) (index - 1) (length-map-range_with_len (place_in set_of) 1 (index - 1))
    ∙ places_with set_of index least

-- and of one whose stream isn't
pub streams_kept : {X : Type 0} (f : ℕ → X) (set index : ℕ) (streams : List X) → 1 ≤ index
    → streams ≡ map f (below set index) → is_in set index ≡ false → streams ≡ map f (below set (index + 1))
streams_kept f set index streams least is free = grind (arith, map, append-nil, set, cond-false, is_in, below_more)

pub places_kept : (set index : ℕ) (places : List ℕ) → 1 ≤ index → index ≤ 31
    → is_in set index ≡ false → places ≡ places_before set index → places ≡ places_before set (index + 1)
places_kept set index places least greatest free before =
    grind (arith, before_one, set, map, place_in, range_with_len, replicate, cond-false, is_in, length, places_with)

-- past the greatest index of the set
abbrev NoneFrom : (set index : ℕ) → Type 0
NoneFrom set index = (i : ℕ) → index - 1 ≤ i → i < 31 → bit_at set i ≡ 0

free_from : (set index : ℕ) → index ≤ 31 → NoneFrom set index → 1 ≤ index → is_in set index ≡ false
free_from set index inside none least =
    let zero_there : bit_at set (index - 1) ≡ 0 = none (index - 1) (omega arith) (omega arith) in
    ne_eqb (bit_at set (index - 1)) 1 (λ one. absurd (omega (arith, zero_there, one)))

rest_streams : {X : Type 0} (f : ℕ → X) (set index more : ℕ) → 1 ≤ index → index + more ≡ 32 → NoneFrom set index
    → map f (below set index) ≡ map f (streams_of set)
rest_streams f set index zero least all none = let last : index ≡ 32 = omega arith in ap (λ n. map f (below set n)) last
rest_streams f set index (suc more) least all none =
    streams_kept f set index (map f (below set index)) least refl (free_from set index (omega arith) none least)
    ∙ rest_streams f set (index + 1) more (omega arith) (omega arith) (λ i above inside. none i (omega arith) inside)

pub all_streams : {X : Type 0} (f : ℕ → X) (set index : ℕ) → 1 ≤ index → index ≤ 32 → ((i : ℕ) → index - 1 ≤ i → i < 31 → bit_at set i ≡ 0)
    → map f (below set index) ≡ map f (streams_of set)
all_streams f set index least greatest none = rest_streams f set index (32 - index) least (omega arith) none

rest_places : (set index more : ℕ) → 1 ≤ index → index + more ≡ 32 → NoneFrom set index → places_before set index ≡ places_of set
rest_places set index zero least all none = let last : index ≡ 32 = omega arith in ap (places_before set) last ∙ append-nil (places_of set)
rest_places set index (suc more) least all none =
    places_kept set index (places_before set index) least (omega arith) (free_from set index (omega arith) none least) refl
    ∙ rest_places set (index + 1) more (omega arith) (omega arith) (λ i above inside. none i (omega arith) inside)

pub all_places : (set index : ℕ) → 1 ≤ index → index ≤ 32 → ((i : ℕ) → index - 1 ≤ i → i < 31 → bit_at set i ≡ 0)
    → places_before set index ≡ places_of set
all_places set index least greatest none = rest_places set index (32 - index) least (omega arith) none
