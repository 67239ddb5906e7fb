-- The words of a command line behind its first.
use Rattle.std.proofs.Common.{◌≡◌, List, [], ◌++◌, drop, refl, sym, ap, ◌∙◌, Option, None, Some}
use Rattle.std.specs.Option.{option_to_list}

pub behind_first : {A : Type 0} (first : Option A) (all rest : List A) → all ≡ option_to_list first ++ rest → (first ≡ None → rest ≡ []) → rest ≡ drop 1 all
behind_first (Some x) all rest is none = sym (ap (drop 1) is)
behind_first None all rest is none = none refl ∙ sym (ap (drop 1) (is ∙ none refl))
