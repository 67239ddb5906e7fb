-- A line that spells octets is one word: no digit is a space.
use Rattle.scenario_words.proofs.Prelude.{eqb-true, nat_eq, ◌≡◌, ◌+◌, ℕ, Bool, true, false, cond, List, [], ◌∷◌, Option, None, Some, Result, Ok, refl, sym, Bor, list_all, bytes_eq, list_all-from_AllPass, bytes_eq-Decides, decode_of, is_hex_digit, FromHexError, decode_of-ok, SpellsNext, SpellsSome, next, within, words_after, words_of, arith}
use Rattle.scenario_words.proofs.DigitPairs.{both_digits}
use Rattle.scenario_words.specs.Reading.{octets_in}

pub no_space_at : (octet : ℕ) (b : Bool) → nat_eq octet 32 ≡ b → is_hex_digit octet ≡ true → b ≡ false
no_space_at octet b e digit = grind (arith, eqb-true)

pub digits_one : (line : List ℕ) → list_all is_hex_digit line ≡ true → words_of line ≡ line ∷ []
digits_one [] all = refl
digits_one (x ∷ line) all =
    let both = both_digits (is_hex_digit x) (list_all is_hex_digit line) all in
    let other : nat_eq x 32 ≡ false = no_space_at x (nat_eq x 32) refl both.0 in
    let rest : words_of line ≡ line ∷ [] = digits_one line both.1 in
    rw (other, rest) refl

within_digits : (most : ℕ) (line octets : List ℕ) (read : Result (List ℕ) FromHexError) → decode_of line ≡ read → within most read ≡ Some octets → list_all is_hex_digit line ≡ true
within_digits most line octets read e some = grind (arith, list_all-from_AllPass, is_hex_digit, decode_of-ok)

chosen_one : (b : Bool) (most : ℕ) (line octets : List ℕ) → bytes_eq line (45 ∷ []) ≡ b → cond b (Some []) (within most (decode_of line)) ≡ Some octets → words_of line ≡ line ∷ []
chosen_one b most line octets same e = grind (arith, bytes_eq-Decides, digits_one, within_digits, decode_of)

one_word : (most : ℕ) (line octets : List ℕ) → octets_in most line ≡ Some octets → words_of line ≡ line ∷ []
unfolding octets_in
one_word most line octets e = grind (arith, chosen_one, bytes_eq)

-- all that is left of the line is the next word
pub last_fits : (most read : ℕ) (rest : Option (Bor (List ℕ))) (line : Bor (List ℕ)) (octets : List ℕ) → rest ≡ Some line → Some octets ≡ octets_in most line.now
    → next (octets_in most) (record { words = words_after rest; read = read }) ≡ Ok (octets, record { words = []; read = read + 1 })
last_fits most read rest line octets is e = rw (is, one_word most line.now octets (sym e), ← e) refl

spells_of : (most read : ℕ) (line : Bor (List ℕ)) (found : Option (List ℕ)) → found ≡ octets_in most line.now → SpellsSome found
    → SpellsNext (next (octets_in most) (record { words = words_after (Some line); read = read }))
spells_of most read line None e some = absurd some
spells_of most read line (Some octets) e some = rw (last_fits most read (Some line) line octets refl e) some

pub last_spells : (most read : ℕ) (rest : Option (Bor (List ℕ))) (line : Bor (List ℕ)) → rest ≡ Some line → SpellsSome (octets_in most line.now)
    → SpellsNext (next (octets_in most) (record { words = words_after rest; read = read }))
last_spells most read rest line is some = rw is (spells_of most read line (octets_in most line.now) refl some)
