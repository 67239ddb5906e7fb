-- Reading an LTV list (Basic Audio Profile 1.0, section 4.3) from left to right, with the first fault that is met.
use Rattle.std.specs.Prelude.{ℕ, zero, suc, ◌≡◌, ◌+◌, ◌≤◌, List, [], ◌∷◌, ◌++◌, length, get_or, take, drop, Option, Some, None, Result, Ok, Err, nat_lt, if◌then◌else◌}
use Rattle.std.specs.Result.{result_unwrap_or, result_err}
use Rattle.ltv_codec.specs.declared.fault.LtvBad.{LtvBad}
use Rattle.ltv_codec.specs.declared.fault.LtvBad.TheVariants.{ZeroLength, Short}
use Rattle.ltv_codec.specs.declared.fault.LtvFault.{LtvFault}
use Rattle.ltv_codec.specs.declared.fault.LtvFault.TheVariants as faults
use Rattle.ltv_codec.specs.declared.ltvs.Ltv.{Ltv}

abbrev pub before : Ltv → Result (List Ltv) LtvBad → Result (List Ltv) LtvBad
before ltv (Ok ltvs) = Ok (ltv ∷ ltvs)
before ltv (Err bad) = Err bad

-- the structure behind a Length of one more than this
abbrev pub ltv_at : ℕ → List ℕ → Ltv
ltv_at count octets = record { kind = get_or octets 0 0; value = take count (drop 1 octets) }

-- the structures of the octets from this place on, of which the first so many are of a structure that was read
unfoldable pub ltvs_from : ℕ → ℕ → List ℕ → Result (List Ltv) LtvBad
ltvs_from place (suc inside) (octet ∷ octets) = ltvs_from (place + 1) inside octets
ltvs_from place (suc inside) [] = Ok []
ltvs_from place zero [] = Ok []
ltvs_from place zero (zero ∷ octets) = Err (ZeroLength place)
ltvs_from place zero (suc count ∷ octets) = if nat_lt (length octets) (suc count) then Err (Short place)
    else before (ltv_at count octets) (ltvs_from (place + 1) (suc count) octets)

abbrev pub ltvs_of : List ℕ → Result (List Ltv) LtvBad
ltvs_of octets = ltvs_from 0 0 octets

abbrev pub ltvs_in : List ℕ → List Ltv
ltvs_in octets = result_unwrap_or (ltvs_of octets) []

abbrev pub bad_of : List ℕ → Option LtvBad
bad_of octets = result_err (ltvs_of octets)

-- what a fault says of the octets: nothing, where memory ran out for a list
abbrev pub told : LtvFault → Option LtvBad
told (faults.Bad bad) = Some bad
told faults.Memory = None

-- a whole structure of this type and value stands in front of the others
pub record IsStructure (octets : List ℕ) (kind : ℕ) (value others : List ℕ) : Type 0 where
  pub parts : octets ≡ (1 + length value) ∷ kind ∷ (value ++ others)
  pub fits : length value ≤ 254

-- this is wrong with the front, which is at this place
abbrev pub IsBadAt : ℕ → List ℕ → LtvBad → Type 0
IsBadAt place octets bad = ltvs_from place 0 octets ≡ Err bad
