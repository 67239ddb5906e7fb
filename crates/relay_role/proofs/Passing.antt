-- What isn't dropped passes, and the stream that it goes to takes it.
use Rattle.std.proofs.Common.{ℕ, ◌≡◌, ◌≢◌, ◌<◌, suc, false, Option, Some, None, List, [], ◌∷◌, ◌++◌, arith, ◌∙◌, ap, sym, refl, append_assoc}
use Rattle.std.proofs.lemmas.Bool.{eq-eqb, ne_eqb}
use Rattle.std.proofs.lemmas.List.{append-nil}
use Rattle.std.proofs.lemmas.Option.{none-some}
use Rattle.bcast_base.specs.declared.unit.Unit.{Unit as AudioUnit}
use Rattle.relay_role.specs.Passing.{is_told, taken_on, undropped}
use Rattle.source_machine.specs.Airs.{Airs}
use Rattle.relay_role.specs.Relayed.{Second, stopped, streaming, after_offer, after_offers, drop_name, dropped_from, passed, passed_unless, taken_unless, told}
use Rattle.relay_role.specs.declared.dropped.DropName.{DropName}
use Rattle.relay_role.specs.declared.dropped.DroppedUnit.{DroppedUnit}

-- no unit before these is told with them
untold_with : (number start : ℕ) (name : Option DropName) (rest : List DroppedUnit) → number < start → is_told number rest ≡ false
    → is_told number (told start name ++ rest) ≡ false
untold_with number start None rest before untold = untold
untold_with number start (Some name) rest before untold = rw (ne_eqb start number (λ same. omega (arith, same, before))) untold

untold : (airs : Airs) (to number start : ℕ) (units : List AudioUnit) (second : Second) → number < start
    → is_told number (dropped_from airs to start units second) ≡ false
untold airs to number start [] second before = refl
untold airs to number start (unit ∷ units) second before =
    untold_with number start (drop_name airs to unit second) (dropped_from airs to (suc start) units (after_offer airs to unit second)) before
    (untold airs to number (suc start) units (after_offer airs to unit second) (omega (arith, before)))

-- what is told of a unit before these says nothing of them
told_before : (number start : ℕ) (name : DropName) (rest : List DroppedUnit) (units : List AudioUnit) → number < start
    → undropped start (record { number = number; name = name } ∷ rest) units ≡ undropped start rest units
told_before number start name rest [] before = refl
told_before number start name rest (unit ∷ units) before =
    rw (ne_eqb number start (λ same. omega (arith, same, before)), told_before number (suc start) name rest units (omega (arith, before))) refl

one_passes : (start : ℕ) (name : Option DropName) (unit : AudioUnit) (units later : List AudioUnit) (rest : List DroppedUnit)
    → is_told start rest ≡ false → later ≡ undropped (suc start) rest units
    → passed_unless name unit ++ later ≡ undropped start (told start name ++ rest) (unit ∷ units)
one_passes start None unit units later rest none is = rw none (ap (λ l. unit ∷ l) is)
one_passes start (Some name) unit units later rest none is =
    rw (eq-eqb start start refl) (is ∙ sym (told_before start (suc start) name rest units (omega arith)))

pub undropped_pass : (airs : Airs) (to start : ℕ) (units : List AudioUnit) (second : Second)
    → passed airs to units second ≡ undropped start (dropped_from airs to start units second) units
undropped_pass airs to start [] second = refl
undropped_pass airs to start (unit ∷ units) second =
    let next = after_offer airs to unit second in
    one_passes start (drop_name airs to unit second) unit units (passed airs to units next) (dropped_from airs to (suc start) units next)
    (untold airs to start (suc start) units next (omega arith)) (undropped_pass airs to (suc start) units next)

taken_one : (airs : Airs) (to : ℕ) (unit : AudioUnit) (second : Second) (name : Option DropName) → drop_name airs to unit second ≡ name
    → taken_on to (taken_unless name to unit second) ≡ taken_on to second ++ passed_unless name unit
taken_one airs to unit stopped None is = absurd (none-some _ (sym is))
taken_one airs to unit (streaming setup calls) None is = rw (eq-eqb to to refl) refl
taken_one airs to unit second (Some name) is = sym (append-nil (taken_on to second))

pub taken_behind : (airs : Airs) (to : ℕ) (units : List AudioUnit) (second : Second)
    → taken_on to (after_offers airs to units second) ≡ taken_on to second ++ passed airs to units second
taken_behind airs to [] second = sym (append-nil (taken_on to second))
taken_behind airs to (unit ∷ units) second =
    let next = after_offer airs to unit second in
    let name = drop_name airs to unit second in
    taken_behind airs to units next ∙ ap (λ l. l ++ passed airs to units next) (taken_one airs to unit second name refl)
    ∙ append_assoc (taken_on to second) (passed_unless name unit) (passed airs to units next)

other_one : (to stream : ℕ) (name : Option DropName) (unit : AudioUnit) (second : Second) → stream ≢ to
    → taken_on stream (taken_unless name to unit second) ≡ taken_on stream second
other_one to stream None unit stopped other = refl
other_one to stream None unit (streaming setup calls) other = rw (ne_eqb to stream (λ same. other (sym same))) refl
other_one to stream (Some name) unit second other = refl

pub others_stay : (airs : Airs) (to stream : ℕ) (units : List AudioUnit) (second : Second) → stream ≢ to
    → taken_on stream (after_offers airs to units second) ≡ taken_on stream second
others_stay airs to stream [] second other = refl
others_stay airs to stream (unit ∷ units) second other =
    others_stay airs to stream units (after_offer airs to unit second) other ∙ other_one to stream (drop_name airs to unit second) unit second other
