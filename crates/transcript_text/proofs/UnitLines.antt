-- The lines of a unit and of a value that have octets: they are put as their digits.
use Rattle.std.proofs.Common.{◌≡◌, ◌<◌, ℕ, List, [], ◌∷◌, ◌++◌, length, decimal, refl, append_assoc, append-nil, arith}
use Rattle.hex.specs.Hex.{encode_lower}
use Rattle.scenario_words.specs.Digits.{digits}
use Rattle.scenario_words.specs.Joined.{joined}
use Rattle.transcript_text.specs.Lines.{line_of}
use Rattle.transcript_text.proofs.Putting.{behind_more}

pub some_digits : (octets : List ℕ) → 0 < length octets → encode_lower octets ≡ digits octets
some_digits [] some = absurd (omega arith)
some_digits (octet ∷ octets) some = refl

-- the first word and the numbers of the link, then the slot, then the digits, then the end of the line
pub value_put : (first : List ℕ) (numbers : List (List ℕ)) (slot : ℕ) (value : List ℕ) → 0 < length value
    → (((((joined first numbers) ++ 32 ∷ []) ++ decimal slot) ++ 32 ∷ []) ++ encode_lower value) ++ 10 ∷ []
    ≡ line_of first (numbers ++ decimal slot ∷ digits value ∷ [])
value_put first numbers slot value some =
    rw (behind_more numbers (decimal slot ∷ digits value ∷ []), some_digits value some) (simp (append_assoc, append-nil))
