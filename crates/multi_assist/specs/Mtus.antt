-- The MTU of a link, where it has one (Core 5.2, volume 3 part F, section 3.2.8): 23 is the least; 517 octets carry the longest
-- value of an attribute.
use Rattle.std.specs.Prelude.{ℕ, ◌≤◌, Option}
use Rattle.std.specs.Option.{ForSome}

abbrev pub IsMtu : Option ℕ → Type 0
IsMtu mtu = ForSome mtu (λ octets. (23 ≤ octets) × (octets ≤ 517))
