-- The octets of a word of a line. Lines are this project's own.
use Rattle.std.specs.Prelude.{ℕ, List, ◌++◌, decimal, codes}
use Rattle.hex.specs.Hex.{encode_lower}
use Rattle.scenario_words.specs.Digits.{digits}
use Rattle.scenario_words.specs.declared.printed_word.Word.{Word}
use Rattle.scenario_words.specs.declared.printed_word.Word.TheVariants.{Text, Number, Label, Octets, Digits}

abbrev pub spelled : Word → List ℕ
spelled (Text octets) = octets.now
spelled (Number n) = decimal n
spelled (Label n) = decimal n ++ codes ":"
spelled (Octets octets) = digits octets.now
spelled (Digits octets) = encode_lower octets.now
