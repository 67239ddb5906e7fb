-- What becomes of the entry of one sink, with this box, which was made so, is of this source, has this history, and whose receivers
-- took these calls.
use Rattle.std.specs.Prelude.{ℕ, ◌≡◌, ◌∷◌, ◌++◌, true, is_some, List, Option, None, Some, Result, Ok, Err, if◌then◌else◌}
use Rattle.std.specs.List.{concat}
use Rattle.delegator_machine.specs.Groups.{by_numbers}
use Rattle.delegator_history.specs.States.{sync_to_group}
use Rattle.delegator_history.specs.Trains.{Settings}
use Rattle.sync_reference.specs.BigSync.{BigSync}
use Rattle.group_sink.specs.Calls.{Call, tune, hear}
use Rattle.isoal_base.specs.declared.hearing.Hearing.{Hearing}
use Rattle.sink_history.specs.Calls as links
use Rattle.sink_history.specs.Calls.{stepped}
use Rattle.scenario_history.specs.Sinks.{is_of}
use Rattle.scenario_sinks.specs.declared.sink.Sink.{Sink}
use Rattle.scenario_text.specs.declared.step.Step.{Step}
use Rattle.sink_history.specs.History.{Source, calls_by}
use Rattle.sink_history.specs.Moves.{received_by, source_by}
use Rattle.sink_history.specs.Output.{printed_where}
use Rattle.sink_history.specs.Refusals.{refused_where}
use Rattle.scenario_sink.specs.Making.{Takes}
use Rattle.transcript_text.specs.declared.stop.Stop.{Stop}
use Rattle.transcript_text.specs.declared.stop.Stop.TheVariants.{Refused, OutletFault, Memory}
use Rattle.scenario_sinks.specs.Hearing.{hearing_by}
use Rattle.scenario_sinks.specs.Refusals.{not_tuned}
use Rattle.scenario_sinks.specs.State.Standing.{EntryIs}

-- it is synchronized to a BIG of a source
abbrev pub EntryTunes : Option ℕ → Option Settings → Option ℕ → List links.Call → List Call → ℕ → BigSync → Option Sink
    → Result (Unit {0}) Stop → Type 0
EntryTunes box made own calls_made received source big_sync entry (Ok _) =
    (not_tuned box big_sync.info.num_bis big_sync.which ≡ None)
    × EntryIs box made (Some source) (stepped (sync_to_group big_sync) ∷ calls_made) (tune (by_numbers big_sync) ∷ received) (Some entry)
EntryTunes box made own calls_made received source big_sync entry (Err (Refused reason)) =
    (not_tuned box big_sync.info.num_bis big_sync.which ≡ Some reason) × EntryIs box made own calls_made received (Some entry)
EntryTunes box made own calls_made received source big_sync entry (Err OutletFault) = ⊥
EntryTunes box made own calls_made received source big_sync entry (Err Memory) = Unit {0}

-- octets come to it in the place of a PDU of a source
abbrev pub EntryHears : Option ℕ → Option Settings → Option ℕ → List links.Call → List Call → (source event bis subevent : ℕ) → List ℕ
    → Option Sink → Option Hearing → Type 0
EntryHears box made own calls_made received source event bis subevent octets entry None = box ≡ None
EntryHears box made own calls_made received source event bis subevent octets entry (Some hearing) =
    (is_some box ≡ true) × (hearing ≡ hearing_by own received source event bis subevent octets)
    × EntryIs box made own calls_made (if is_of source own then hear event bis subevent octets ∷ received else received) (Some entry)

-- a line names it, which means this source: it is refused and the entry is as before, or else it prints its lines behind a text, or
-- memory ran out, of a line that isn't refused and takes some
abbrev pub EntryRuns : Option ℕ → Option Settings → Option ℕ → List links.Call → List Call → Source → Step → Option Sink
    → (text told : List ℕ) → Result (Unit {0}) Stop → Type 0
EntryRuns box made own calls_made received source line entry text told (Ok _) =
    (refused_where line made calls_made ≡ None)
    × EntryIs box made (source_by source line made calls_made own) (calls_by source line made calls_made)
    (received_by source line made calls_made (calls_by source line made calls_made) received) (Some entry)
    × (told ≡ text ++ concat (printed_where source line made calls_made))
EntryRuns box made own calls_made received source line entry text told (Err (Refused reason)) =
    (refused_where line made calls_made ≡ Some reason) × EntryIs box made own calls_made received (Some entry) × (told ≡ text)
EntryRuns box made own calls_made received source line entry text told (Err OutletFault) = ⊥
EntryRuns box made own calls_made received source line entry text told (Err Memory) = (refused_where line made calls_made ≡ None) × Takes line (printed_where source line made calls_made)
