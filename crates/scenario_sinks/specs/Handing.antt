-- Units that go to their boxes, each before its line (the units are the SDUs of Core 5.2, volume 6 part G, section 1).
use Rattle.std.specs.Prelude.{ℕ, ◌≡◌, List, ◌∷◌, ◌++◌, slice_set, Result, Ok, Err}
use Rattle.unit_outlets.specs.Account.{Account, with_unit}
use Rattle.unit_outlets.specs.Handed.{valid}
use Rattle.unit_outlets.specs.Took.{TookAt}
use Rattle.unit_outlets.specs.declared.fault.OutletFault.TheVariants.{Failed}
use Rattle.scenario_history.specs.Boxes.{SinkUnit, account_at, accounts_after}
use Rattle.scenario_history.specs.Output.{unit_lines}
use Rattle.transcript_text.specs.declared.stop.Stop.{Stop}
use Rattle.transcript_text.specs.declared.stop.Stop.TheVariants.{Refused, OutletFault, Memory}

-- The units before one went to their boxes and have their lines, and the box of that one failed and counted it.
pub record BoxFails (units : List SinkUnit) (text told : List ℕ) (old new : List Account) : Type 0 where
  pub done : List SinkUnit
  pub unit : SinkUnit
  pub rest : List SinkUnit
  pub split : units ≡ done ++ unit ∷ rest
  pub bis : ℕ
  pub time : ℕ
  pub octets : List ℕ
  pub is_valid : unit.unit ≡ valid bis time octets
  pub lines : told ≡ text ++ unit_lines done
  pub box : TookAt unit.box octets (accounts_after old done) new (Err Failed)

-- what the box at a place made of a unit; where there is no box nothing happens
abbrev pub BoxTakes : ℕ → List ℕ → List Account → List Account → Result (Unit {0}) Stop → Type 0
BoxTakes place octets old new (Ok _) = new ≡ slice_set old place (with_unit octets (account_at old place))
BoxTakes place octets old new (Err (Refused reason)) = ⊥
BoxTakes place octets old new (Err OutletFault) = TookAt place octets old new (Err Failed)
BoxTakes place octets old new (Err Memory) = new ≡ old

pub record CutShort (units : List SinkUnit) (old new : List Account) : Type 0 where
  pub done : List SinkUnit
  pub rest : List SinkUnit
  pub split : units ≡ done ++ rest
  pub boxes : new ≡ accounts_after old done

-- What became of units that were to be handed: a text that ended in `text` ends in `told`, and the accounts of the boxes
-- were `old` and are `new`.
abbrev pub Hands : List SinkUnit → List ℕ → List ℕ → List Account → List Account → Result (Unit {0}) Stop → Type 0
Hands units text told old new (Ok _) = (told ≡ text ++ unit_lines units) × (new ≡ accounts_after old units)
Hands units text told old new (Err (Refused reason)) = ⊥
Hands units text told old new (Err OutletFault) = BoxFails units text told old new
Hands units text told old new (Err Memory) = CutShort units old new
