-- LTV lists, as codec configurations, codec capabilities and metadata are encoded (Basic Audio Profile 1.0,
-- section 4.3): each structure is one octet of Length, which counts Type and Value, then Type, then Value.
use Rattle.std.specs.Prelude.{ℕ, ◌+◌, ◌≤◌, ◌≡◌, List, ◌∷◌, length}
use Rattle.std.specs.List.{flat_map, AllByRecursion}
use Rattle.ltv_codec.specs.declared.ltvs.Ltv.{Ltv}

abbrev pub structure : Ltv → List ℕ
structure ltv = (1 + length ltv.value) ∷ ltv.kind ∷ ltv.value

-- Length is one octet
abbrev pub Fits : Ltv → Type 0
Fits ltv = length ltv.value ≤ 254

abbrev pub encoding : List Ltv → List ℕ
encoding ltvs = flat_map structure ltvs

pub record IsLtvList (ltvs : List Ltv) (octets : List ℕ) : Type 0 where
  pub fit : AllByRecursion Fits ltvs
  pub encoded : octets ≡ encoding ltvs

pub record AreLtvs (octets : List ℕ) : Type 0 where
  pub ltvs : List Ltv
  pub list : IsLtvList ltvs octets
