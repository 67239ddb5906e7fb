-- The counts of faults of boxes that take units.
use Rattle.std.proofs.Common.{arith}
use Rattle.scenario_sinks.proofs.Prelude.{ℕ, List, ◌∙◌, slice_get, Account, SinkUnit, Took, accounts_after, valid_for, took_all, get_set_other, BoxFails}
use Rattle.scenario_sinks.specs.Faults.{CountsStay, OneCounts}

-- boxes that took their units

pub took_stay : (starts ends : List Account) (units : List SinkUnit) → Took starts ends units → CountsStay starts ends
took_stay starts ends units took box = grind (arith, valid_for, slice_get)

-- and then one of them failed
pub failed_one : (units : List SinkUnit) (text told : List ℕ) (before after : List Account) → BoxFails units text told before after → OneCounts before after
failed_one units text told before after fails = record {
  place = fails.unit.box;
  others = grind (arith, get_set_other, accounts_after, took_stay, took_all);
}

pub one_then : (first mid last : List Account) → CountsStay first mid → OneCounts mid last → OneCounts first last
one_then first mid last stay one = record { place = one.place; others = λ box apart. one.others box apart ∙ stay box }

pub none_counts : (old new : List Account) → CountsStay old new → OneCounts old new
none_counts old new stay = record { place = 0; others = λ box apart. stay box }
