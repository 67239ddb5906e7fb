-- Where octets stop to be an LTV list (Basic Audio Profile 1.0, section 4.3): behind the longest run of whole
-- structures from the left stands a Length that is wrong.
use Rattle.std.specs.Prelude.{ℕ, ◌<◌, ◌≡◌, List, [], ◌∷◌, ◌++◌, length}
use Rattle.ltv_codec.specs.declared.fault.LtvBad.{LtvBad}
use Rattle.ltv_codec.specs.declared.fault.LtvBad.TheVariants.{ZeroLength, Short}
use Rattle.ltv_codec.specs.declared.fault.LtvFault.{LtvFault}
use Rattle.ltv_codec.specs.declared.fault.LtvFault.TheVariants.{Bad, Memory}
use Rattle.ltv_codec.specs.declared.ltvs.Ltv.{Ltv}
use Rattle.ltv_codec.specs.Layout.{IsLtvList, AreLtvs}

-- a Length of 0
abbrev pub StandsZero : List ℕ → Type 0
StandsZero [] = ⊥
StandsZero (count ∷ octets) = count ≡ 0

-- a Length that passes the end
abbrev pub StandsShort : List ℕ → Type 0
StandsShort [] = ⊥
StandsShort (count ∷ octets) = length octets < count

-- whole structures up to the place, and there what P says
abbrev pub AtCut : (List ℕ → Type 0) → ℕ → List ℕ → Type 0
AtCut P place octets =
    (ltvs : List Ltv) × (prefix : List ℕ) × (rest : List ℕ) × IsLtvList ltvs prefix × (length prefix ≡ place) × P rest × (octets ≡ prefix ++ rest)

-- this is what is wrong with the octets
abbrev pub IsBad : LtvBad → List ℕ → Type 0
IsBad (ZeroLength place) octets = AtCut StandsZero place octets
IsBad (Short place) octets = AtCut StandsShort place octets

-- why they were not decoded; only a list that has octets is refused for want of memory
abbrev pub IsFault : LtvFault → List ℕ → Type 0
IsFault (Bad bad) octets = IsBad bad octets
IsFault Memory octets = AreLtvs octets × (0 < length octets)
