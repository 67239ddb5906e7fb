-- Octets as a word: pairs of lower-case hexadecimal digits, or `-` for none. The words of lines are this project's own.
use Rattle.std.specs.Prelude.{ℕ, List, [], ◌∷◌, codes}
use Rattle.hex.specs.Hex.{encode_lower}

abbrev pub digits : List ℕ → List ℕ
digits [] = codes "-"
digits (octet ∷ octets) = encode_lower (octet ∷ octets)
