-- The words that the texts and the integers of a document stand for. The form is this project's own.
use Rattle.std.specs.Prelude.{ℕ, ◌==◌, ◌&&◌, not, nat_le, Bool, ℤ, List, [], ◌∷◌, length}
use Rattle.std.specs.Prelude.{Option, None, Some, if◌then◌else◌}
use Rattle.std.specs.Fmt.{signed_decimal}
use Rattle.std.specs.List.{list_all}
use Rattle.std.specs.Option.{option_map, option_and_then}
use Rattle.scenario_words.specs.Joined.{space}
use Rattle.toml.specs.Data.{Data, as_str, as_integer, Members, get_member}
use Rattle.scenario_toml.specs.Parts.{after, both, required}

abbrev pub is_printed : ℕ → Bool
is_printed octet = nat_le 0x21 octet && nat_le octet 0x7E

abbrev pub is_word : List ℕ → Bool
is_word octets = not (length octets == 0) && list_all is_printed octets

abbrev pub text_word : Option (List ℕ) → Option (List ℕ)
text_word word = option_and_then (λ octets. if is_word octets then Some octets else None) word

abbrev pub number_word : Option ℤ → Option (List ℕ)
number_word integer = option_map signed_decimal integer

abbrev pub spaced_text : Data → Option (List ℕ)
spaced_text value = after (space ∷ []) (text_word (as_str value))

abbrev pub spaced_number : Data → Option (List ℕ)
spaced_number value = after (space ∷ []) (number_word (as_integer value))

pub data Field : Type 0 where
  text : List ℕ → Field
  number : List ℕ → Field

abbrev pub key_of : Field → List ℕ
key_of (text key) = key
key_of (number key) = key

-- the word of a key, which has to be there, behind a space
abbrev pub field : Field → Members → Option (List ℕ)
field (text key) table = required spaced_text (get_member key table)
field (number key) table = required spaced_number (get_member key table)

abbrev pub words : List Field → Members → Option (List ℕ)
words [] table = Some []
words (first ∷ others) table = both (field first table) (words others table)
