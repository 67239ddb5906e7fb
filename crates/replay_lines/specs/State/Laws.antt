-- What holds of every scenario, whatever is run of it. Scenarios are this project's own.
use Rattle.std.specs.Prelude.{◌≡◌, List, ◌∷◌}
use Rattle.bcast_io.specs.TextLines.{TextLine}
use Rattle.unit_outlets.specs.Account.{Account}
use Rattle.source_machine.specs.Airs.{airs_of, Airs}
use Rattle.scenario_history.specs.Runs.{Accepted}
use Rattle.scenario_history.specs.Airs.{MeetAirs}
use Rattle.scenario_history.specs.Lines.{handed_on, rules_of}
use Rattle.scenario_history.specs.Transcript.{end_after, out_of, transcript_end, transcript_of, units_of}
use Rattle.scenario_laws.specs.Isolation.{IsolationLaw}
use Rattle.scenario_laws.specs.Versions.{MigrationLaw}
use Rattle.scenario_laws.specs.Relayed.{RelayLinesLaw, RelayedUnitsLaw}
use Rattle.replay_steps.specs.LineMeets.{answered_on}
use Rattle.scenario_laws.specs.InTime.{InTimeLaw}
use Rattle.scenario_laws.specs.HearingLaw.{AllHearingLaw}
use Rattle.scenario_laws.specs.Laws.{UnitsLaw, OrderLaw}
use Rattle.scenario_laws.specs.Links.{AgreementLaw, LinksLaw}
use Rattle.scenario_laws.specs.Moments.{MomentLaw}

-- both airs give the same
pub record Same (airs others : Airs) : Type 0 where
  pub octets : (starts : List Account) → (lines : List TextLine) → transcript_of airs starts lines ≡ transcript_of others starts lines
  pub end : (starts : List Account) → (lines : List TextLine) → transcript_end airs starts lines ≡ transcript_end others starts lines
  pub units : (starts : List Account) → (lines : List TextLine) → units_of airs starts lines ≡ units_of others starts lines
  pub out : (starts : List Account) → (lines : List TextLine) → out_of airs starts lines ≡ out_of others starts lines
  pub lines_end : (starts : List Account) → (lines : List TextLine) → end_after airs starts lines ≡ end_after others starts lines
  pub accepted : (starts : List Account) → (lines : List TextLine) → Accepted (rules_of airs starts) lines
      → Accepted (rules_of others starts) lines
  pub handed : (starts : List Account) → (lines : List TextLine) → (line : TextLine) → Accepted (rules_of airs starts) lines
      → handed_on airs lines line ≡ handed_on others lines line
  pub output : (starts : List Account) → (lines : List TextLine) → (line : TextLine) → Accepted (rules_of airs starts) (line ∷ lines)
      → (rules_of airs starts).output lines line ≡ (rules_of others starts).output lines line
  pub answered : (starts : List Account) → (lines : List TextLine) → (line : TextLine) → Accepted (rules_of airs starts) (line ∷ lines)
      → answered_on airs lines line ≡ answered_on others lines line

-- any airs that meet their relation give the same transcripts
abbrev pub AllSame : Type 0
AllSame = (airs : Airs) → MeetAirs airs → Same airs_of airs

-- what holds of every scenario
pub record Laws (boxes : List Account) : Type 0 where
  pub same : AllSame
  pub meet : MeetAirs airs_of
  pub units : UnitsLaw boxes
  pub order : OrderLaw boxes
  pub moment : MomentLaw boxes
  pub in_time : InTimeLaw boxes
  pub hearing : AllHearingLaw boxes
  pub agreement : AgreementLaw
  pub links : LinksLaw
  pub isolation : IsolationLaw boxes
  pub migration : MigrationLaw boxes
  pub relay : RelayLinesLaw boxes
  pub relayed_units : RelayedUnitsLaw boxes
