-- How a field is encoded: one octet, a number of k octets with the least octet first (Core 5.2, volume 6 part B,
-- section 1.2), octets as they are, or octets behind one octet that counts them (as in the Basic Audio Profile 1.0,
-- section 3.7.2.2, and the Broadcast Audio Scan Service 1.0, section 3).
use Rattle.std.specs.Prelude.{ℕ, zero, suc, ◌<◌, ◌/◌, ◌%◌, List, [], ◌∷◌, length, get_or}

-- each is an octet
abbrev pub IsOctets : List ℕ → Type 0
IsOctets octets = (i : ℕ) → get_or octets i 0 < 256

abbrev pub octet : ℕ → List ℕ
octet value = value ∷ []

-- the k octets of a number, the least first
unfoldable pub number : ℕ → ℕ → List ℕ
number zero value = []
number (suc k) value = (value % 256) ∷ number k (value / 256)

abbrev pub counted : List ℕ → List ℕ
counted octets = length octets ∷ octets
