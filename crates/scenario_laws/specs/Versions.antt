-- What a text brings that is written in version 2 of the scenario language, which is this project's own, where version 1 ran
-- it. Version 2 bounds less: the greatest horizon of a group (Core 5.2, volume 6 part B, section 4.4.6), how far ahead
-- of its event the time of a framed unit may be (part G, section 2), and what a line may be. Histories have the newest line
-- first.
use Rattle.std.specs.Prelude.{ℕ, ◌≡◌, true, List, [], ◌∷◌, ◌++◌, reverse, codes, decimal}
use Rattle.bcast_io.specs.TextLines.{TextLine, lines_of}
use Rattle.unit_outlets.specs.Account.{Account}
use Rattle.big_info.specs.declared.fault.GroupFault.TheVariants.{Horizon}
use Rattle.scenario_text.specs.Migrated.{migrated}
use Rattle.transcript_text.specs.declared.refusal.Refusal.{Refusal}
use Rattle.transcript_text.specs.declared.refusal.Refusal.TheVariants.{BadLine, BadGroup, TimeOrder}
use Rattle.scenario_history.specs.Runs.{Accepted, End, through, refused}
use Rattle.scenario_text.specs.declared.step.Step.TheVariants.{Train}
use Rattle.transcript_text.specs.SinkLines.{sink_line}
use Rattle.scenario_history.specs.Airs.{MeetAirs}
use Rattle.scenario_history.specs.Lines.{a_step, rules_of, said_after}
use Rattle.source_machine.specs.Airs.{Airs}
use Rattle.scenario_history.specs.Transcript.{transcript_end, transcript_of, units_of}

-- ---- trains that version 2 may take otherwise

-- the line `sink N BadGroup 11`: the group of a train that was heard has too great a horizon
abbrev pub horizon_line : ℕ → List ℕ
horizon_line sink = sink_line sink (codes "BadGroup" ∷ decimal 11 ∷ [])

-- the line after these says a `train` step, and prints that line
pub record PrintsHorizon (airs : Airs) (starts : List Account) (earlier : List TextLine) (line : TextLine) : Type 0 where
  pub sink : ℕ
  pub time : ℕ
  pub ext : List ℕ
  pub adv : List ℕ
  pub acad : List ℕ
  pub says : said_after earlier line ≡ a_step (Train sink time ext adv acad)
  pub prints : (rules_of airs starts).output earlier line ≡ horizon_line sink

-- no `train` step prints it, of those among these lines that are run: neither their line nor one before it is refused
abbrev pub NonePrintsHorizon : Airs → List Account → List TextLine → Type 0
NonePrintsHorizon airs starts lines = (earlier : List TextLine) → (line : TextLine) → (later : List TextLine)
    → lines ≡ reverse earlier ++ line ∷ later
    → Accepted (rules_of airs starts) (line ∷ earlier) → PrintsHorizon airs starts earlier line → ⊥

-- ---- refusals that version 2 may not have

-- a refusal other than BadLine, `BadGroup 11` and TimeOrder
abbrev pub IsLasting : Refusal → Type 0
IsLasting (BadLine word) = ⊥
IsLasting (BadGroup Horizon) = ⊥
IsLasting TimeOrder = ⊥
IsLasting _ = Unit {0}

abbrev pub EndsLasting : End Refusal → Type 0
EndsLasting through = Unit {0}
EndsLasting (refused line reason) = IsLasting reason

-- ---- the law

-- a text in which no `train` step prints `BadGroup 11`, and whose transcript has no refusal or a lasting one
pub record IsLastingText (airs : Airs) (starts : List Account) (text : List ℕ) : Type 0 where
  pub trains : NonePrintsHorizon airs starts (lines_of true text)
  pub end : EndsLasting (transcript_end airs starts (lines_of true text))

-- one text brings what another brings: the same transcript, with the same end, and to the boxes the same units
pub record BringsTheSame (airs others : Airs) (starts : List Account) (text other : List ℕ) : Type 0 where
  pub octets : transcript_of others starts (lines_of true other) ≡ transcript_of airs starts (lines_of true text)
  pub end : transcript_end others starts (lines_of true other) ≡ transcript_end airs starts (lines_of true text)
  pub units : units_of others starts (lines_of true other) ≡ units_of airs starts (lines_of true text)

-- The migration law: a lasting text brings the same in version 2. Each of the two may be taken over airs of its own.
abbrev pub MigrationLaw : List Account → Type 0
MigrationLaw starts = (airs : Airs) → (others : Airs) → MeetAirs airs → MeetAirs others → (text : List ℕ) → IsLastingText airs starts text
    → BringsTheSame airs others starts text (migrated text)
