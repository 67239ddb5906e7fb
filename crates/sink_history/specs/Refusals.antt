-- Why a step is refused by what the sink that it names and its links are: the first reason that holds, in the order of test.
-- The refusals are the scenario language's own; the room of the records is that of their value (Published Audio Capabilities
-- Service 1.0, section 3.1).
use Rattle.std.specs.Prelude.{ℕ, nat_lt, not, Bool, true, false, List, [], ◌∷◌, ◌++◌, length, Option, Some, None, is_none, slice_get}
use Rattle.std.specs.Option.{option_or}
use Rattle.pacs_records.specs.Layout.{greatest_value, value}
use Rattle.sink_history.specs.Calls.{Call, is_joined, writes_waiting}
use Rattle.sink_history.specs.Links.{notices_waiting, reads_waiting}
use Rattle.scenario_text.specs.declared.step.Step.{Step}
use Rattle.scenario_text.specs.declared.step.Step.TheVariants as steps
use Rattle.transcript_text.specs.declared.refusal.Refusal.{Refusal}
use Rattle.transcript_text.specs.declared.refusal.Refusal.TheVariants.{NoSuchSink, NoSuchLink, LinkTwice, NothingWaiting, RecordsTooLong}
use Rattle.delegator_history.specs.Trains.{Settings}
use Rattle.sink_history.specs.History.{World, history_of, made_of, named_by, record_of}
use Rattle.sink_history.specs.Output.{snapshot_in}

abbrev pub refuse_if : Bool → Refusal → Option Refusal
refuse_if true reason = Some reason
refuse_if false reason = None

-- ---- one reason

-- the link that a step names as a joined one
abbrev pub link_named : Step → Option ℕ
link_named (steps.Apart sink link) = Some link
link_named (steps.AWrite sink link octets) = Some link
link_named (steps.AServe sink link) = Some link
link_named (steps.ATell sink link) = Some link
link_named (steps.ARead sink link) = Some link
link_named (steps.ADrain sink link) = Some link
link_named (steps.AShow sink link) = Some link
link_named _ = None

abbrev pub no_link : List Call → Option ℕ → Option Refusal
no_link calls None = None
no_link calls (Some link) = refuse_if (not (is_joined link calls)) NoSuchLink

abbrev pub link_twice : List Call → Step → Option Refusal
link_twice calls (steps.Assist sink link) = refuse_if (is_joined link calls) LinkTwice
link_twice calls _ = None

abbrev pub no_write : ℕ → List Call → Option Refusal
no_write link calls = refuse_if (is_none (slice_get (writes_waiting link calls) 0)) NothingWaiting

abbrev pub no_notice : Settings → ℕ → List Call → Option Refusal
no_notice made link calls = refuse_if (is_none (slice_get (notices_waiting made.setup made.mtu link calls) 0)) NothingWaiting

abbrev pub no_read : Settings → ℕ → List Call → Option Refusal
no_read made link calls = refuse_if (is_none (slice_get (reads_waiting made.setup made.mtu link calls) 0)) NothingWaiting

abbrev pub nothing_waits : Settings → List Call → Step → Option Refusal
nothing_waits made calls (steps.Serve sink) = no_write 0 calls
nothing_waits made calls (steps.Tell sink) = no_notice made 0 calls
nothing_waits made calls (steps.Read sink) = no_read made 0 calls
nothing_waits made calls (steps.AServe sink link) = no_write link calls
nothing_waits made calls (steps.ATell sink link) = no_notice made link calls
nothing_waits made calls (steps.ARead sink link) = no_read made link calls
nothing_waits made calls _ = None

abbrev pub no_record_room : Settings → List Call → Step → Option Refusal
no_record_room made calls (steps.Pac sink codec caps metadata) =
    refuse_if (nat_lt greatest_value (length (value ((snapshot_in made calls).capability.entries ++ record_of codec caps metadata ∷ [])))) RecordsTooLong
no_record_room made calls _ = None

-- ---- the first that holds

abbrev pub refused_by : Step → Settings → List Call → Option Refusal
refused_by step made calls = option_or (no_link calls (link_named step))
    (option_or (link_twice calls step) (option_or (nothing_waits made calls step) (no_record_room made calls step)))

abbrev pub refused_where : Step → Option Settings → List Call → Option Refusal
refused_where line None calls = Some NoSuchSink
refused_where line (Some made) calls = refused_by line made calls

abbrev pub refused_at : World → List Step → Step → Option ℕ → Option Refusal
refused_at world earlier line None = None
refused_at world earlier line (Some n) = refused_where line (made_of n earlier) (history_of world n earlier)

abbrev pub refusal_of : World → List Step → Step → Option Refusal
refusal_of world earlier step = refused_at world earlier step (named_by step)

-- no step is refused
abbrev pub first_refusal : World → List Step → Option Refusal
first_refusal world [] = None
first_refusal world (step ∷ earlier) = option_or (first_refusal world earlier) (refusal_of world earlier step)
