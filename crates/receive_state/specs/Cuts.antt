-- What a notification carries of a value (Core 5.2, volume 3 part F, section 3.4.7.1): the whole value, or on a link with an
-- MTU its first MTU - 3 octets.
use Rattle.std.specs.Prelude.{ℕ, ◌-◌, List, take, Option, Some, None}

abbrev pub cut : Option ℕ → List ℕ → List ℕ
cut None octets = octets
cut (Some mtu) octets = take (mtu - 3) octets
