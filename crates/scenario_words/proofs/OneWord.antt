-- What one word spells, and the ranges that follow.
use Rattle.scenario_words.proofs.Prelude.{leb, nat_eq, eqb-true, ◌≡◌, ◌≤◌, ◌<◌, ℕ, ◌*◌, ◌/◌, ◌%◌, ◌^◌, Bool, true, false, cond, List, [], ◌∷◌, ◌++◌, take, length, Option, None, Some, Result, Ok, refl, ap, sym, ◌∙◌, arith, decimal, ◌&&◌, IsErr, is_none, bytes_eq, digits_value, digits_decimal, subst, IsInRange, bytes_eq-Decides, digits_value-decimal, decimal_injective, leb-true, le-leb, lt-leb, eq-eqb, list_all, decode_of, is_hex_digit, decode_of-ok, FromHexError, SpellsSome, within, exactly, sum_from, number_below, bad_of, take-append_seam, option_map}
use Rattle.scenario_words.proofs.DigitPairs.{spelled}
use Rattle.scenario_words.specs.Reading.{decimal_in, framing_in, time_in, octets_in, exact_in, list_in}
use Rattle.ltv_codec.specs.declared.fault.LtvBad.{LtvBad}
use Rattle.scenario_words.proofs.Decimals.{AreDigits, own}

-- ---- decimals

pub decimal_fits : (least greatest n : ℕ) (word : List ℕ) → n < 2 ^ 64 → word ≡ decimal n → least ≤ n → n ≤ greatest → decimal_in least greatest word ≡ Some n
unfolding decimal_in
decimal_fits least greatest n word small e low high =
    grind (arith, digits_value, digits_value-decimal, own, bytes_eq, decimal, bytes_eq-Decides, le-leb)

both : (a b c : Bool) → (a && (b && c)) ≡ true → (a ≡ true) × (b ≡ true) × (c ≡ true)
both a b c e = grind arith

not_chosen : {X : Type 0} (b : Bool) (x : X) → (b ≡ true → ⊥) → cond b (Some x) None ≡ None
not_chosen b x h = grind arith

pub decimal_misfits : (least greatest : ℕ) (word : List ℕ) → greatest < 2 ^ 64 → ((n : ℕ) → n < 2 ^ 64 → word ≡ decimal n → least ≤ n → n ≤ greatest → ⊥) → decimal_in least greatest word ≡ None
unfolding decimal_in
decimal_misfits least greatest word small fails = grind (arith, not_chosen, both, digits_value, leb-true, bytes_eq-Decides, decimal)

some_is : {X : Type 0} (b : Bool) (x y : X) → cond b (Some x) None ≡ Some y → (b ≡ true) × (x ≡ y)
some_is b x y e = grind arith

pub decimal_range : (least greatest n : ℕ) (word : List ℕ) → decimal_in least greatest word ≡ Some n → (least ≤ n) × (n ≤ greatest)
unfolding decimal_in
decimal_range least greatest n word e = grind (arith, some_is, both, leb-true, digits_value)

pub decimal_is : (least greatest n : ℕ) (word : List ℕ) → decimal_in least greatest word ≡ Some n → word ≡ decimal n
unfolding decimal_in
decimal_is least greatest n word e = grind (arith, digits_value, some_is, both, bytes_eq, decimal, leb, bytes_eq-Decides)

-- a number is no dash, so that it is a time
no_dash : (n : ℕ) (word : List ℕ) → n < 2 ^ 64 → word ≡ decimal n → word ≡ 45 ∷ [] → ⊥
no_dash n word small e dash =
    let digits : AreDigits (45 ∷ []) = subst AreDigits (sym e ∙ dash) (digits_decimal own n small) in
    let first : IsInRange 48 57 45 = digits 0 (omega arith) in
    omega (arith, first.0)

dash_or_not : (greatest n : ℕ) (word : List ℕ) (dash : Bool) → greatest < 2 ^ 64 → bytes_eq word (45 ∷ []) ≡ dash
    → decimal_in 0 greatest word ≡ Some n → cond dash (Some None) (option_map Some (decimal_in 0 greatest word)) ≡ Some (Some n)
dash_or_not greatest n word true small dash e =
    let high : n ≤ greatest = (decimal_range 0 greatest n word e).1 in
    absurd (no_dash n word (omega arith) (decimal_is 0 greatest n word e) ((bytes_eq-Decides word (45 ∷ [])).0 dash))
dash_or_not greatest n word false small dash e = ap (option_map Some) e

pub number_is_time : (greatest n : ℕ) (word : List ℕ) → greatest < 2 ^ 64 → decimal_in 0 greatest word ≡ Some n → time_in greatest word ≡ Some (Some n)
unfolding time_in
number_is_time greatest n word small e = dash_or_not greatest n word (bytes_eq word (45 ∷ [])) small refl e

framed_is : (a b : Bool) (n : ℕ) → cond a (Some 0) (cond b (Some 1) None) ≡ Some n → n ≤ 1
framed_is a b n e = grind arith

pub framing_range : (n : ℕ) (word : List ℕ) → framing_in word ≡ Some n → n ≤ 1
unfolding framing_in
framing_range n word e = framed_is _ _ n e

pub too_small : (least greatest n : ℕ) (word : List ℕ) → n < 2 ^ 64 → greatest < 2 ^ 64 → word ≡ decimal n → n < least → decimal_in least greatest word ≡ None
too_small least greatest n word small bound e low = grind (arith, decimal_misfits, decimal_injective)

pub too_great : (least greatest n : ℕ) (word : List ℕ) → n < 2 ^ 64 → greatest < 2 ^ 64 → word ≡ decimal n → greatest < n → decimal_in least greatest word ≡ None
too_great least greatest n word small bound e high = grind (arith, decimal_misfits, decimal_injective)

-- ---- octets

pub dash : (most : ℕ) (word : List ℕ) → word ≡ 45 ∷ [] → octets_in most word ≡ Some []
unfolding octets_in
dash most word e = rw e refl

pub empty_word : (most : ℕ) (word : List ℕ) → length word ≡ 0 → octets_in most word ≡ None
unfolding octets_in
empty_word most word e = grind arith

other_word : (most : ℕ) (word : List ℕ) → (length word ≡ 0 → ⊥) → bytes_eq word (45 ∷ []) ≡ false → octets_in most word ≡ within most (decode_of word)
unfolding octets_in
other_word most word some e = grind arith

pub no_digits : (most : ℕ) (word : List ℕ) → (length word ≡ 0 → ⊥) → bytes_eq word (45 ∷ []) ≡ false → IsErr (decode_of word) → octets_in most word ≡ None
no_digits most word some e err = grind (arith, other_word, decode_of)

pub too_long : (most : ℕ) (word : List ℕ) → (length word ≡ 0 → ⊥) → bytes_eq word (45 ∷ []) ≡ false → most < length word / 2 → octets_in most word ≡ None
too_long most word some e long = grind (arith, other_word, lt-leb, length, decode_of, decode_of-ok)

pub pairs : (most : ℕ) (word bytes : List ℕ) → (length word ≡ 0 → ⊥) → bytes_eq word (45 ∷ []) ≡ false → decode_of word ≡ Ok bytes → length word / 2 ≤ most → octets_in most word ≡ Some bytes
pairs most word bytes some e ok fits = grind (arith, decode_of-ok, length, other_word, le-leb)

pub spells_some : (most : ℕ) (word : List ℕ) → (length word ≡ 0 → ⊥) → bytes_eq word (45 ∷ []) ≡ false → length word % 2 ≡ 0
    → list_all is_hex_digit word ≡ true → length word / 2 ≤ most → SpellsSome (octets_in most word)
spells_some most word some e even all fits =
    let read = spelled word even all in
    let len = (decode_of-ok word read.0 read.1).2 in
    rw (pairs most word read.0 some e read.1 fits) (λ none. let no : length read.0 ≡ 0 = ap length none in some (omega (arith, len, no)))

-- ---- pairs of digits, one or more

dash_has_one : (word : List ℕ) (same : Bool) → bytes_eq word (45 ∷ []) ≡ same → length word % 2 ≡ 0 → bytes_eq word (45 ∷ []) ≡ false
dash_has_one word same e even = grind (arith, length, bytes_eq-Decides)

pub record ArePairs (most : ℕ) (word : List ℕ) : Type 0 where
  pub some : 0 < length word
  pub fit : length word / 2 ≤ most
  pub even : length word % 2 ≡ 0
  pub digits : list_all is_hex_digit word ≡ true

pub pairs_read : (most : ℕ) (word bytes : List ℕ) → ArePairs most word → decode_of word ≡ Ok bytes → octets_in most word ≡ Some bytes
pairs_read most word bytes are ok = pairs most word bytes (λ none. let some = are.some in omega (arith, none, some)) (dash_has_one word _ refl are.even) ok are.fit

pub pairs_spell : (most : ℕ) (word : List ℕ) → ArePairs most word → SpellsSome (octets_in most word)
pairs_spell most word are = grind (arith, spells_some, dash_has_one)

pub whole_prefix : (n : ℕ) (octets rest : List ℕ) → n ≡ length octets → take n (octets ++ rest) ≡ octets
whole_prefix n octets rest e = rw e (take-append_seam octets rest)

within_range : (most : ℕ) (read : Result (List ℕ) FromHexError) (bytes : List ℕ) → within most read ≡ Some bytes → length bytes ≤ most
within_range most read bytes e = grind (arith, some_is, leb-true, length)

pub octets_range : (most : ℕ) (word bytes : List ℕ) → octets_in most word ≡ Some bytes → length bytes ≤ most
unfolding octets_in
octets_range most word bytes e = grind (arith, within_range)

-- ---- a word that is compared with a text

pub same_text : (word known : List ℕ) (r : Bool) → r ≡ bytes_eq word known → r ≡ true → word ≡ known
same_text word known r e h = (bytes_eq-Decides word known).0 (sym e ∙ h)

pub within_is : (most : ℕ) (read : Result (List ℕ) FromHexError) (bytes : List ℕ) → within most read ≡ Some bytes → (read ≡ Ok bytes) × (length bytes ≤ most)
within_is most read bytes e = grind (arith, some_is, leb-true, length)

-- ---- exactly so many octets

pub no_array : (count : ℕ) (word : List ℕ) → IsErr (decode_of word) → exact_in count word ≡ None
unfolding exact_in
no_array count word err = grind (arith, decode_of)

pub other_count : (count : ℕ) (word : List ℕ) → (length word / 2 ≡ count → ⊥) → exact_in count word ≡ None
unfolding exact_in
other_count count word other = grind (arith, not_chosen, eqb-true, length, decode_of, decode_of-ok)

pub array_is : (count : ℕ) (word bytes : List ℕ) → decode_of word ≡ Ok bytes → length bytes ≡ count → exact_in count word ≡ Some bytes
unfolding exact_in
array_is count word bytes ok same = let is : nat_eq (length bytes) count ≡ true = eq-eqb (length bytes) count same in rw (ok, is) refl

pub array_read : (count : ℕ) (word bytes : List ℕ) → decode_of word ≡ Ok bytes → length word / 2 ≡ count → exact_in count word ≡ Some bytes
array_read count word bytes ok same = let len = (decode_of-ok word bytes ok).2 in array_is count word bytes ok (omega arith)

pub exactly_is : (count : ℕ) (read : Result (List ℕ) FromHexError) (bytes : List ℕ) → exactly count read ≡ Some bytes → (read ≡ Ok bytes) × (length bytes ≡ count)
exactly_is count read bytes e = grind (arith, some_is, eqb-true, length)

pub exact_length : (count : ℕ) (word bytes : List ℕ) → exact_in count word ≡ Some bytes → length bytes ≡ count
unfolding exact_in
exact_length count word bytes e = (exactly_is count (decode_of word) bytes e).1

pub array_length : (count : ℕ) (word bytes : List ℕ) → decode_of word ≡ Ok bytes → length word / 2 ≡ count → length bytes ≡ count
array_length count word bytes ok same = let len = (decode_of-ok word bytes ok).2 in omega arith

-- ---- a number in octets

pub number_below_width : (count n : ℕ) (word octets : List ℕ) → Some octets ≡ exact_in count word → n ≡ sum_from 0 octets → n < 2 ^ (8 * count)
unfolding exact_in
number_below_width count n word octets e is = grind (arith, exactly_is, decode_of, number_below, decode_of-ok)

-- ---- an LTV list

pub no_list : (most : ℕ) (word : List ℕ) → None ≡ octets_in most word → None ≡ list_in most word
unfolding list_in
no_list most word e = rw (← e) refl

pub bad_list : (most : ℕ) (word octets : List ℕ) (bad : LtvBad) → Some octets ≡ octets_in most word → Some bad ≡ bad_of octets → None ≡ list_in most word
unfolding list_in
bad_list most word octets bad e is = rw (← e, ← is) refl

pub a_list : (most : ℕ) (word octets : List ℕ) → Some octets ≡ octets_in most word → None ≡ bad_of octets → Some octets ≡ list_in most word
unfolding list_in
a_list most word octets e is = rw (← e, ← is) refl

checked_is : (bad : Option LtvBad) (bytes octets : List ℕ) → bad_of bytes ≡ bad → cond (is_none bad) (Some bytes) None ≡ Some octets → (Some bytes ≡ Some octets) × (bad_of octets ≡ None)
checked_is bad bytes octets is e = grind (arith, bad_of)

pub list_is : (most : ℕ) (word octets : List ℕ) → list_in most word ≡ Some octets → (octets_in most word ≡ Some octets) × (bad_of octets ≡ None)
unfolding list_in
list_is most word octets e = grind (arith, checked_is, bad_of)

pub list_range : (most : ℕ) (word octets : List ℕ) → list_in most word ≡ Some octets → length octets ≤ most
list_range most word octets e = octets_range most word octets (list_is most word octets e).0

pub list_ltvs : (most : ℕ) (word octets : List ℕ) → list_in most word ≡ Some octets → bad_of octets ≡ None
list_ltvs most word octets e = (list_is most word octets e).1
