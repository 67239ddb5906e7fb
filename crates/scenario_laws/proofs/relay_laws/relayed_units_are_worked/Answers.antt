use Rattle.scenario_laws.proofs.Known.Sources.Steps.Prelude.{ℕ, ◌≡◌, ◌+◌, List, [], ◌∷◌, map, Some, refl, arith, slice_get, AllZip, IsStrictlyIncreasing, none-some, same_Some, Handed, lost, valid, equal_units, handed_both, its_setup, IsOfFirst, UnitPlace, Unit as AudioUnit}
use Rattle.scenario_laws.proofs.relay_laws.relayed_units_are_worked.Goals as goal

abbrev octets_of : Handed → List ℕ
octets_of (valid stream time octets) = octets
octets_of (lost stream time) = []

first_two : IsStrictlyIncreasing (0 ∷ 1 ∷ [])
first_two x1 within = grind arith

-- only the first was handed up at this time
first_place : (k : ℕ) (unit : AudioUnit) → slice_get handed_both k ≡ Some unit → unit.time ≡ 61460 → k ≡ 0
first_place k unit is time = grind (arith, same_Some, none-some)

its_place : (at : UnitPlace) → IsOfFirst equal_units handed_both its_setup 2 at (valid 2 122544 (0xa0 ∷ [])) → at.place ≡ 0
its_place at is = first_place at.place is.unit is.is_handed (omega (arith, is.time_is))

-- so no unit stands before it
none_before : (first : Handed) (units : List UnitPlace)
    → AllZip (IsOfFirst equal_units handed_both its_setup 2) units (first ∷ valid 2 122544 (0xa0 ∷ []) ∷ [])
    → IsStrictlyIncreasing (map (λ (at : UnitPlace). at.place) units) → ⊥
none_before first (one ∷ other ∷ []) all rising = let rises = rising 0 (omega arith) in omega (arith, rises, its_place other all.1.0)
none_before first x2 all rising = search its_place

of_unit : (k time : ℕ) → slice_get handed_both k ≡ Some (record { time = time; octets = 0xa0 ∷ [] })
    → slice_get equal_units k ≡ Some (0xa0 ∷ [])
    → IsOfFirst equal_units handed_both its_setup 2 (record { number = k; place = k }) (valid 2 (time + 61084) (0xa0 ∷ []))
of_unit k time handed given = search arith

pub returns : goal.returns
returns c = record {
  both = record {
    units = record { number = 0; place = 0 } ∷ record { number = 1; place = 1 } ∷ [];
    numbers_rise = first_two;
    places_rise = first_two;
    each = (of_unit 0 61460 refl refl, (of_unit 1 71460 refl refl, tt));
  };
  one_twice = λ order. none_before _ order.units order.each order.places_rise;
  turned = λ order. none_before _ order.units order.each order.places_rise;
  others_injected = refl;
  injected = refl;
}
