-- The digits of sixteen octets at once, as lanes of a vector.
use Rattle.scenario_words.proofs.Prelude.{◌≡◌, ◌<◌, ◌/◌, ◌%◌, ◌+◌, ℕ, suc, zero, List, [], ◌∷◌, ◌++◌, length, map, refl, ap, ◌∙◌, sym, cond, arith, slice_index, lower_digits, ◌-◌, ◌≤◌, ◌*◌, take, drop, take_all, drop_all, length-drop, take-append-drop, append-nil, encode_lower, replicate, and_mask, take-put_mid, put_mid}
use Rattle.std.specs.Simd.Lanes.{Each1, zip2}
use lib.Lanes.{sel_l, put_chunk, pick_l, top}
use Rattle.std.proofs.lemmas.Simd.{zip2_splat, put_chunk_whole, map-map, length-zip2}
use Rattle.std.proofs.lemmas.List.{length-take-le, take-take, drop-take}
use Rattle.hex.specs.Hex.{encode_with}
use Rattle.scenario_words.proofs.Putting.{encode_append}
use borrow.Rule.Simd.Lanes.{act2}
use borrow.Table.Row.{s_int}
use mir.Syntax.{wrap_add, bit_and, shr, mask, lt, unsigned, w8}

-- a choice between two splats, by a comparison of a splat with each lane, on top of a splat that was added
chosen : (add is : ℕ → ℕ → ℕ) (xs : List ℕ) (n least figures more none : ℕ) → length xs ≡ n
    → zip2 add (zip2 add xs (replicate n figures)) (sel_l (map (top 7) (zip2 is (replicate n least) xs)) (replicate n more) (replicate n none))
    ≡ map (λ x. add (add x figures) (cond (top 7 (is least x)) more none)) xs
chosen add is [] zero least figures more none long = refl
chosen add is (x ∷ xs) (suc n) least figures more none long =
    ap (λ rest. add (add x figures) (cond (top 7 (is least x)) more none) ∷ rest) (chosen add is xs n least figures more none (omega arith))
chosen add is xs n least figures more none long = absurd (omega arith)

-- two functions that agree where P holds agree on a list of such
same_on_each : (P : ℕ → Type 0) (f g : ℕ → ℕ) → ((x : ℕ) → P x → f x ≡ g x) → (xs : List ℕ) → Each1 P xs → map f xs ≡ map g xs
same_on_each P f g same [] each = refl
same_on_each P f g same (x ∷ xs) each = rw (same x each.0, same_on_each P f g same xs each.1) refl

-- the digit of a value, as a lane has it
abbrev lane_digit : ℕ → ℕ
lane_digit x = act2 wrap_add (s_int w8) (s_int w8) (s_int w8) (act2 wrap_add (s_int w8) (s_int w8) (s_int w8) x 48) (cond (top 7 (act2 (mask (lt unsigned)) (s_int w8) (s_int w8) (s_int w8) 9 x)) 39 0)

lane : (x : ℕ) → x < 16 → lane_digit x ≡ slice_index lower_digits x
lane zero small = refl
lane (suc zero) small = refl
lane (suc (suc zero)) small = refl
lane (suc (suc (suc zero))) small = refl
lane (suc (suc (suc (suc zero)))) small = refl
lane (suc (suc (suc (suc (suc zero))))) small = refl
lane (suc (suc (suc (suc (suc (suc zero)))))) small = refl
lane (suc (suc (suc (suc (suc (suc (suc zero))))))) small = refl
lane (suc (suc (suc (suc (suc (suc (suc (suc zero)))))))) small = refl
lane (suc (suc (suc (suc (suc (suc (suc (suc (suc zero))))))))) small = refl
lane (suc (suc (suc (suc (suc (suc (suc (suc (suc (suc zero)))))))))) small = refl
lane (suc (suc (suc (suc (suc (suc (suc (suc (suc (suc (suc zero))))))))))) small = refl
lane (suc (suc (suc (suc (suc (suc (suc (suc (suc (suc (suc (suc zero)))))))))))) small = refl
lane (suc (suc (suc (suc (suc (suc (suc (suc (suc (suc (suc (suc (suc zero))))))))))))) small = refl
lane (suc (suc (suc (suc (suc (suc (suc (suc (suc (suc (suc (suc (suc (suc zero)))))))))))))) small = refl
lane (suc (suc (suc (suc (suc (suc (suc (suc (suc (suc (suc (suc (suc (suc (suc zero))))))))))))))) small = refl
lane (suc (suc (suc (suc (suc (suc (suc (suc (suc (suc (suc (suc (suc (suc (suc (suc n)))))))))))))))) small = absurd (omega arith)

pub digits_of_lanes : (xs : List ℕ) → length xs ≡ 16 → Each1 (λ x. x < 16) xs
    → zip2 (act2 wrap_add (s_int w8) (s_int w8) (s_int w8)) (zip2 (act2 wrap_add (s_int w8) (s_int w8) (s_int w8)) xs (replicate 16 48))
    (sel_l (map (top 7) (zip2 (act2 (mask (lt unsigned)) (s_int w8) (s_int w8) (s_int w8)) (replicate 16 9) xs)) (replicate 16 39) (replicate 16 0))
    ≡ map (slice_index lower_digits) xs
digits_of_lanes xs long low =
    chosen (act2 wrap_add (s_int w8) (s_int w8) (s_int w8)) (act2 (mask (lt unsigned)) (s_int w8) (s_int w8) (s_int w8)) xs 16 9 48 39 0 long ∙ same_on_each (λ x. x < 16) lane_digit (slice_index lower_digits) lane xs low

-- what two lanes say of each octet, one behind the other
abbrev pairs : (ℕ → ℕ) → (ℕ → ℕ) → List ℕ → List ℕ
pairs f g [] = []
pairs f g (x ∷ xs) = f x ∷ g x ∷ pairs f g xs

encode_pairs : (xs : List ℕ) → encode_lower xs ≡ pairs (λ x. slice_index lower_digits (x / 16)) (λ x. slice_index lower_digits (x % 16)) xs
unfolding encode_with
encode_pairs [] = refl
encode_pairs (x ∷ xs) = ap (λ rest. slice_index lower_digits (x / 16) ∷ slice_index lower_digits (x % 16) ∷ rest) (encode_pairs xs)

-- the lanes of the first half of two vectors that take turns, and those of the second
abbrev front : List ℕ → List ℕ
front xs = pick_l 0 xs (0 ∷ 16 ∷ 1 ∷ 17 ∷ 2 ∷ 18 ∷ 3 ∷ 19 ∷ 4 ∷ 20 ∷ 5 ∷ 21 ∷ 6 ∷ 22 ∷ 7 ∷ 23 ∷ [])

abbrev back : List ℕ → List ℕ
back xs = pick_l 0 xs (8 ∷ 24 ∷ 9 ∷ 25 ∷ 10 ∷ 26 ∷ 11 ∷ 27 ∷ 12 ∷ 28 ∷ 13 ∷ 29 ∷ 14 ∷ 30 ∷ 15 ∷ 31 ∷ [])

woven : (f g : ℕ → ℕ) (xs : List ℕ) → length xs ≡ 16 → front (map f xs ++ map g xs) ++ back (map f xs ++ map g xs) ≡ pairs f g xs
woven f g (x0 ∷ x1 ∷ x2 ∷ x3 ∷ x4 ∷ x5 ∷ x6 ∷ x7 ∷ x8 ∷ x9 ∷ x10 ∷ x11 ∷ x12 ∷ x13 ∷ x14 ∷ x15 ∷ []) long = refl
woven f g xs long = absurd (omega arith)

put_behind : (xs ys rest : List ℕ) → length rest ≡ length ys → put_chunk (length xs) (xs ++ rest) ys ≡ xs ++ ys
put_behind [] ys rest long = put_chunk_whole rest ys long
put_behind (x ∷ xs) ys rest long = ap (λ more. x ∷ more) (put_behind xs ys rest long)

map_same : (xs : List ℕ) → map (λ x. act2 bit_and (s_int w8) (s_int w8) (s_int w8) x 15) xs ≡ map (λ x. x % 16) xs
map_same [] = refl
map_same (x ∷ xs) = rw (map_same xs) (ap (λ low. low ∷ map (λ x. x % 16) xs) (and_mask x 4))

shifted : (xs : List ℕ) → length xs ≡ 16 → zip2 (act2 (shr unsigned) (s_int w8) (s_int w8) (s_int w8)) xs (replicate 16 4) ≡ map (λ x. x / 16) xs
shifted xs long = zip2_splat (act2 (shr unsigned) (s_int w8) (s_int w8) (s_int w8)) xs 16 4 long

masked : (xs : List ℕ) → length xs ≡ 16 → zip2 (act2 bit_and (s_int w8) (s_int w8) (s_int w8)) xs (replicate 16 15) ≡ map (λ x. x % 16) xs
masked xs long = zip2_splat (act2 bit_and (s_int w8) (s_int w8) (s_int w8)) xs 16 15 long ∙ map_same xs

pub both_long : (xs : List ℕ) → length xs ≡ 16 → length (zip2 (act2 bit_and (s_int w8) (s_int w8) (s_int w8)) (take 16 xs) (replicate 16 15)) ≡ 16
both_long xs long =
    let all : length (take 16 xs) ≡ 16 = length-take-le 16 xs (omega arith) in
    length-zip2 (act2 bit_and (s_int w8) (s_int w8) (s_int w8)) (take 16 xs) (replicate 16 15) all ∙ all

pub sixteen_written : (octets digits first second : List ℕ) → length octets ≡ 16 → length digits ≡ 32
    → first ≡ map (slice_index lower_digits) (zip2 (act2 (shr unsigned) (s_int w8) (s_int w8) (s_int w8)) (take 16 octets) (replicate 16 4))
    → second ≡ map (slice_index lower_digits) (zip2 (act2 bit_and (s_int w8) (s_int w8) (s_int w8)) (take 16 octets) (replicate 16 15))
    → put_chunk 16 (put_chunk 0 (take 16 digits) (front (first ++ second)) ++ drop 16 digits) (back (first ++ second)) ≡ encode_lower octets
sixteen_written octets digits first second long room one two =
    let whole : take 16 octets ≡ octets = take_all 16 octets (omega arith) in
    let d : ℕ → ℕ = slice_index lower_digits in
    let f : ℕ → ℕ = λ x. d (x / 16) in
    let g : ℕ → ℕ = λ x. d (x % 16) in
    let high : first ≡ map f octets = one ∙ ap (map d) (rw whole (shifted octets long)) ∙ map-map d (λ x. x / 16) octets in
    let low : second ≡ map g octets = two ∙ ap (map d) (rw whole (masked octets long)) ∙ map-map d (λ x. x % 16) octets in
    let lanes : List ℕ = map f octets ++ map g octets in
    rw (high, low, put_chunk_whole (take 16 digits) (front lanes) (length-take-le 16 digits (omega arith)))
    (put_behind (front lanes) (back lanes) (drop 16 digits) (length-drop 16 digits ∙ (omega arith)) ∙ woven f g octets long ∙ sym (encode_pairs octets))

-- ---- sixteen octets after sixteen octets

take_encode : (n : ℕ) (xs : List ℕ) → take (2 * n) (encode_lower xs) ≡ encode_lower (take n xs)
unfolding encode_with
take_encode zero xs = refl
take_encode (suc n) [] = let two : 2 * suc n ≡ suc (suc (2 * n)) = omega arith in rw two refl
take_encode (suc n) (x ∷ xs) =
    let two : 2 * suc n ≡ suc (suc (2 * n)) = omega arith in
    rw two (ap (λ rest. slice_index lower_digits (x / 16) ∷ slice_index lower_digits (x % 16) ∷ rest) (take_encode n xs))

take_sum : (i n : ℕ) (xs : List ℕ) → take (i + n) xs ≡ take i xs ++ take n (drop i xs)
take_sum i n xs = sym (take-append-drop i (take (i + n) xs)) ∙ rw (take-take i (i + n) xs (omega arith), drop-take i n xs) refl

pub sixteen_more : (octets digits put : List ℕ) (i k n : ℕ) → n ≡ 16 → i + 16 ≤ length octets → length digits ≡ 2 * length octets
    → put ≡ encode_lower (take n (drop i octets)) → length put ≡ 32 → take (2 * i) digits ≡ encode_lower (take i octets)
    → take (2 * (i + 16)) (put_mid (2 * i) k digits put) ≡ encode_lower (take (i + 16) octets)
sixteen_more octets digits put i k n is within room written long before =
    rw (take-put_mid (2 * i) k digits put (2 * (i + 16)) (omega arith) (omega arith), before, written, is, take_sum i 16 octets)
    (sym (encode_append lower_digits (take i octets) (take 16 (drop i octets))))

pub last_written : (octets digits put : List ℕ) (last i k n : ℕ) → n ≡ length octets - last → length digits ≡ 2 * length octets → k ≡ length digits - 2 * last
    → i ≤ length octets → last ≤ i → put ≡ encode_lower (take n (drop last octets)) → take (2 * i) digits ≡ encode_lower (take i octets)
    → put_mid (2 * last) k digits put ≡ encode_lower octets
last_written octets digits put last i k n is room rest within more written before =
    let first : take (2 * last) digits ≡ encode_lower (take last octets) =
    sym (take-take (2 * last) (2 * i) digits (omega arith)) ∙ ap (take (2 * last)) before ∙ take_encode last (take i octets) ∙ ap encode_lower (take-take last i octets more) in
    let second : take n (drop last octets) ≡ drop last octets = take_all n (drop last octets) (omega (arith, length-drop last octets)) in
    let none : drop k (drop (2 * last) digits) ≡ [] = drop_all k (drop (2 * last) digits) (omega (arith, length-drop (2 * last) digits)) in
    rw (first, written, second, none, append-nil) (sym (encode_append lower_digits (take last octets) (drop last octets)) ∙ ap encode_lower (take-append-drop last octets))
