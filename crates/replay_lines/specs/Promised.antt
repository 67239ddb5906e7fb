-- What a run of a text promises of the outside before it and after it, by its ending. The program is this project's own.
use Rattle.std.specs.Prelude.{ℕ, ◌≡◌, ◌≢◌, ◌⊎◌, true, List, Some}
use Rattle.bcast_base.specs.Counts.{Rose}
use Rattle.bcast_io.specs.TextLines.{TextLine, lines_of}
use Rattle.transcript_text.specs.declared.refusal.Refusal.{Refusal}
use Rattle.scenario_history.specs.Airs.{MeetAirs}
use Rattle.scenario_history.specs.Boxes.{Took}
use Rattle.source_machine.specs.Airs.{Airs}
use Rattle.scenario_history.specs.Transcript.{transcript_of, units_of}
use Rattle.scenario_sinks.specs.Faults.{CountsStay, OneCounts}
use Rattle.replay_lines.specs.declared.ending.Ending.{Ending}
use Rattle.replay_lines.specs.declared.ending.Ending.TheVariants as endings
use Rattle.replay_lines.specs.Ended.{AheadOf, Complete, Ended, IsCut, IsWhole}
use Rattle.replay_lines.specs.Replayed.{FaultCut, ReadsAtMost, read_limit}
use Rattle.scenario_laws.specs.InTime.{InTimeLaw}
use Rattle.scenario_laws.specs.HearingLaw.{AllHearingLaw}
use Rattle.scenario_laws.specs.Isolation.{IsolationLaw}
use Rattle.scenario_laws.specs.Laws.{UnitsLaw, OrderLaw}
use Rattle.scenario_laws.specs.Links.{AgreementLaw, LinksLaw}
use Rattle.scenario_laws.specs.Moments.{MomentLaw}
use Rattle.scenario_laws.specs.Versions.{MigrationLaw}
use Rattle.scenario_laws.specs.Relayed.{RelayLinesLaw, RelayedUnitsLaw}
use Rattle.replay_lines.specs.World.{World}

abbrev pub DidOver : Airs → Ending → World → World → Type 0
DidOver airs ending old new = Ended airs ending old.boxes new.boxes old.left new.left old.taken new.taken

-- whichever airs of the sources that meet the relation of their framing the scenario is taken over
abbrev pub Did : Ending → World → World → Type 0
Did ending old new = (airs : Airs) → MeetAirs airs → DidOver airs ending old new

pub record Promised (old new : World) (ending : Ending) : Type 0 where
  -- Done: the text was read to its end, no line of it is refused, and its transcript was written.
  pub done : ending ≡ endings.Done → Did endings.Done old new
  -- Refused: the transcript ends with this refusal of this line, whatever follows what was read, and was written.
  pub refused : (line : ℕ) (reason : Refusal) → ending ≡ endings.Refused line reason → Did (endings.Refused line reason) old new
  -- ReadFault: the source counted a fault, and what the whole lines read bring was written; none of them is refused.
  pub read_fault : ending ≡ endings.ReadFault → Rose old.reads new.reads × Did endings.ReadFault old new
  -- WriteFault: the sink counted a fault, and a prefix of what the lines read bring was written.
  pub write_fault : ending ≡ endings.WriteFault → Rose old.writes new.writes × Did endings.WriteFault old new
  -- OutletFault: the box of a unit counted a fault, and what comes before the line of that unit was written.
  pub outlet_fault : ending ≡ endings.OutletFault → Did endings.OutletFault old new
  -- Memory: a prefix of what the lines read bring was written.
  pub memory : ending ≡ endings.Memory → Did endings.Memory old new
  pub no_read_fault : ending ≢ endings.ReadFault → new.reads ≡ old.reads
  pub no_write_fault : ending ≢ endings.WriteFault → new.writes ≡ old.writes
  -- Each box's count stays with each ending but OutletFault; or the ending is WriteFault or Memory, and what comes before the
  -- unit that a box refused wasn't written whole. The count of at most one box changes.
  pub no_outlet_fault : (airs : Airs) → MeetAirs airs → ending ≢ endings.OutletFault
      → CountsStay old.boxes new.boxes ⊎ (IsCut ending × FaultCut airs old.boxes new.boxes old.left new.left old.taken new.taken)
  pub one_outlet_fault : OneCounts old.boxes new.boxes
  -- The boxes took the units of the whole text, where the transcript was written to its end or to its refusal.
  pub boxes : (airs : Airs) → MeetAirs airs → (text : List ℕ) → old.left ≡ Some text → IsWhole ending
      → Took old.boxes new.boxes (units_of airs old.boxes (lines_of true text))
  -- What the outside does decides which endings can come.
  pub complete : (airs : Airs) → MeetAirs airs → (text : List ℕ) → old.left ≡ Some text
      → Complete airs text old.boxes new.boxes old.reads new.reads old.writes new.writes ending
  -- At most 65,536 octets were read past the line of the ending.
  pub reading_ahead : (airs : Airs) → MeetAirs airs → AheadOf airs ending old.boxes new.boxes old.left new.left old.taken new.taken
  -- No more is read than the longest text and the one read behind it that shows it too long.
  pub reads_at_most : ReadsAtMost old.left new.left read_limit
  -- Some airs of the sources meet the relation of their framing, and any two that do give the same transcript.
  pub some_airs : (airs : Airs) × MeetAirs airs
  pub one_transcript : (airs : Airs) → (others : Airs) → MeetAirs airs → MeetAirs others → (lines : List TextLine)
      → transcript_of airs old.boxes lines ≡ transcript_of others old.boxes lines
  -- In a stay without injected PDUs, and without trains that are given by their octets, each closed slot, and each framed unit
  -- whose start was heard, hands what the source's PDUs that were heard make of it, at its time by the source's own anchors.
  pub units_law : UnitsLaw old.boxes
  -- The units of a sink to which no train was given by its octets are in the order of the source, and each comes at most once.
  pub order_law : OrderLaw old.boxes
  -- What two sinks, to which no train was given by its octets, hand up of one source for one slot of one event, or, without injected
  -- PDUs, of framed units with one time, is rendered at the same µs on all streams (Core 5.2, volume 6 part G, section 3.2).
  pub moment_law : MomentLaw old.boxes
  -- Such a sink hands up each unit no later than it is rendered, where the delays are long enough.
  pub in_time_law : InTimeLaw old.boxes
  -- In a text with further `hear` and `air` lines, or with an `air` line that loses nothing in the place of one that loses some, such a
  -- sink, into which no PDU was injected, hands up each valid unit of its streams too, with its octets and its time.
  pub hearing_law : AllHearingLaw old.boxes
  -- On each link of a living sink over which no notice was forged since it was joined, the assistant's views agree with the states of the
  -- slots (Broadcast Audio Scan Service 1.0, section 3.2).
  pub agreement_law : AgreementLaw
  -- On each link but 0 the same holds whatever the other links do: they change nothing of it but through the states of the slots,
  -- and a link that is joined begins anew.
  pub links_law : LinksLaw
  -- A text of which no `train` prints `BadGroup 11`, and that isn't refused by it, by BadLine or by TimeOrder, is the same in version 2.
  pub migration_law : MigrationLaw old.boxes
  -- Where no step under the other source synchronizes a sink to a train or a BIG, and no line is `relay`, all of the sink and of its
  -- assistants is what it would be without the other sinks and without the lines of the other source.
  pub isolation_law : IsolationLaw old.boxes
  -- Where a line is `relay N B B2`, what source 1 accepted on B2 is what sink N handed up of B, valid, at closes of source 0 behind this
  -- line and before its `drop`, without exactly the units that have a `dropped` line, in order and with octets and times.
  pub relay_law : RelayLinesLaw old.boxes
  -- So what a sink M of source 1 handed up of B2 is, in order, of units that source 0 accepted on B and that N handed up, at most one of
  -- each, where nothing was injected into N or M; a valid one has the unit's octets, and each is rendered later by the delays of source 1
  -- (Core 5.2, volume 6 part G, section 3.2).
  pub relayed_units_law : RelayedUnitsLaw old.boxes
