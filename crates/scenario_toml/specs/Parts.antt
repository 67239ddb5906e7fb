-- Octets that a value of a document stands for, or none where the value has not the form for them. A value of several parts
-- stands for the octets of its parts in order, and for none where one part has none. The form is this project's own.
use Rattle.std.specs.Prelude.{ℕ, List, [], ◌++◌, Option, None, Some}
use Rattle.std.specs.Option.{option_map, option_and_then}
use Rattle.toml.specs.Data.{Data, Items, no_items, item}

abbrev pub after : List ℕ → Option (List ℕ) → Option (List ℕ)
after prefix back = option_map (λ octets. prefix ++ octets) back

abbrev pub both : Option (List ℕ) → Option (List ℕ) → Option (List ℕ)
both None back = None
both (Some prefix) back = after prefix back

abbrev pub each : (Data → Option (List ℕ)) → Items → Option (List ℕ)
each part no_items = Some []
each part (item value items) = both (part value) (each part items)

abbrev pub required : (Data → Option (List ℕ)) → Option Data → Option (List ℕ)
required part value = option_and_then part value

abbrev pub where_given : (Data → Option (List ℕ)) → Option Data → Option (List ℕ)
where_given part None = Some []
where_given part (Some value) = part value

abbrev pub items_of : (Data → Option (List ℕ)) → Option Items → Option (List ℕ)
items_of part items = option_and_then (each part) items
