-- A close that a box stops. Boxes and relays are this project's own; the units are SDUs of Core 5.2, volume 6 part G, section 1.
use Rattle.std.specs.Prelude.{ℕ, ◌≡◌, ◌==◌, nat_lt, List, ◌∷◌, ◌++◌, Err, if◌then◌else◌}
use Rattle.std.specs.List.{filter}
use Rattle.unit_outlets.specs.Account.{Account}
use Rattle.unit_outlets.specs.Handed.{valid}
use Rattle.unit_outlets.specs.Took.{TookAt}
use Rattle.unit_outlets.specs.declared.fault.OutletFault.TheVariants.{Failed}
use Rattle.scenario_history.specs.Boxes.{SinkUnit, accounts_after}
use Rattle.scenario_history.specs.RelayedUnits.{Answered}
use Rattle.scenario_history.specs.Output.{first_lines, unit_lines}

-- what became of the units that relays offered before a unit of a close: those of the sinks below, and all once source 1 is closed
abbrev pub answered_before : SinkUnit → List Answered → List Answered
answered_before unit answers = if unit.source == 0 then filter (λ answer. nat_lt answer.offer.sink unit.sink) answers else answers

-- what is printed of a close before the line of a unit: the lines of the units before it, and sink by sink those of what relays offered
abbrev pub printed_before : List Answered → List SinkUnit → SinkUnit → List ℕ
printed_before answers done unit = first_lines done (answered_before unit answers) ++ unit_lines (filter (λ other. other.source == 1) done)

-- The units before one went to their boxes, what the close prints before its line was printed, and its box failed and counted it.
pub record CloseFails (units : List SinkUnit) (answers : List Answered) (output text told : List ℕ) (old new : List Account) : Type 0 where
  pub done : List SinkUnit
  pub unit : SinkUnit
  pub rest : List SinkUnit
  pub split : units ≡ done ++ unit ∷ rest
  pub bis : ℕ
  pub time : ℕ
  pub octets : List ℕ
  pub is_valid : unit.unit ≡ valid bis time octets
  pub lines : told ≡ text ++ printed_before answers done unit
  pub behind : List ℕ
  pub prefix : output ≡ printed_before answers done unit ++ behind
  pub box : TookAt unit.box octets (accounts_after old done) new (Err Failed)
