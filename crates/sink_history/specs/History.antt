-- The history of a sink of a scenario, and of the assistants on its links, of what the lines say that name it (Basic Audio
-- Profile 1.0, section 6.5; Broadcast Audio Scan Service 1.0, section 3). The scenario language is this project's own. Lists
-- of steps and of calls have the newest first. Plain lines act on link 0.
use Rattle.std.specs.Prelude.{ℕ, ◌==◌, List, [], ◌∷◌, Option, Some, None, unwrap_or, if◌then◌else◌}
use Rattle.pacs_records.specs.declared.record.PacRecord.{PacRecord}
use Rattle.bass_operations.specs.declared.operation.Operation.TheVariants as operations
use Rattle.bass_operations.specs.Layout.{encoding}
use Rattle.announcement_train.specs.declared.train.Train.{Train as Announced}
use Rattle.delegator_history.specs.Announced.{heard_as}
use Rattle.delegator_history.specs.LastGiven.{last_given}
use Rattle.delegator_history.specs.States.{record_added, locations_set, contexts_set, sync_to_group, train_heard, train_lost, control_heard}
use Rattle.delegator_history.specs.Trains.{Settings, Train}
use Rattle.sync_reference.specs.BigSync.{BigSync}
use Rattle.sink_history.specs.Calls as links
use Rattle.sink_history.specs.Calls.{Call, stepped, born}
use Rattle.sink_history.specs.Drains.{drained}
use Rattle.scenario_text.specs.declared.step.Step.{Step}
use Rattle.scenario_text.specs.declared.step.Step.TheVariants as steps

-- ---- what lies outside of the sinks

-- the source that a line means, the train for its next event, and its group from that event on for a sink on these streams
pub record Source : Type 0 where
  pub number : ℕ
  pub address_type : ℕ
  pub sid : ℕ
  pub announced : Announced
  pub big_sync : ℕ → BigSync

pub record World : Type 0 where
  pub source : List Step → Source

-- ---- the sink

abbrev pub version_given : Step → Option ℕ
version_given (steps.Scenario version) = Some version
version_given _ = None

abbrev pub horizon_in : ℕ → ℕ
horizon_in version = if version == 2 then 31 else 15

abbrev pub horizon_of : List Step → ℕ
horizon_of earlier = horizon_in (unwrap_or (last_given version_given earlier) 1)

-- what the `sink` line of a living sink says
abbrev pub made_by : ℕ → Step → List Step → Option Settings → Option Settings
made_by n (steps.Sink sink streams slots mtu) earlier made =
    if sink == n then Some (record { setup = record { streams = streams; slots = slots; horizon = horizon_of earlier }; mtu = mtu }) else made
made_by n (steps.Drop sink) earlier made = if sink == n then None else made
made_by n _ earlier made = made

-- the sink of this number, where it lives
abbrev pub made_of : ℕ → List Step → Option Settings
made_of n [] = None
made_of n (step ∷ earlier) = made_by n step earlier (made_of n earlier)

-- ---- the lines that name it

abbrev pub given_train : Source → (time : ℕ) → (ext adv acad : List ℕ) → Train
given_train source time ext adv acad =
    record { address_type = source.address_type; sid = source.sid; ext = ext; adv = adv; acad = acad; now = time }

abbrev pub own_train : Source → Train
own_train source = heard_as source.address_type source.sid source.announced

abbrev pub record_of : (codec caps metadata : List ℕ) → PacRecord
record_of codec caps metadata = record { codec = codec; caps = caps; metadata = metadata }

abbrev pub with_drain : Option Settings → ℕ → List Call → List Call
with_drain None link calls = calls
with_drain (Some made) link calls = drained made.setup made.mtu link calls

-- the calls of the sink that a line names, before which it had these; the line means this source
abbrev pub calls_by : Source → Step → Option Settings → List Call → List Call
calls_by source (steps.Drop sink) made calls = []
calls_by source (steps.Pac sink codec caps metadata) made calls = stepped (record_added (record_of codec caps metadata)) ∷ calls
calls_by source (steps.Locate sink bits) made calls = stepped (locations_set bits) ∷ calls
calls_by source (steps.Context sink sink_bits source_bits) made calls = stepped (contexts_set sink_bits) ∷ calls
calls_by source (steps.Tuned sink which) made calls = stepped (sync_to_group (source.big_sync which)) ∷ calls
calls_by source (steps.Announce sink) made calls = stepped (train_heard (own_train source)) ∷ calls
calls_by source (steps.Train sink time ext adv acad) made calls = stepped (train_heard (given_train source time ext adv acad)) ∷ calls
calls_by source (steps.Lose sink) made calls = stepped train_lost ∷ calls
calls_by source (steps.Control sink octets) made calls = stepped (control_heard octets) ∷ calls
calls_by source (steps.Write sink octets) made calls = links.asked 0 octets ∷ calls
calls_by source (steps.Add sink op) made calls = links.asked 0 (encoding (operations.Add op)) ∷ calls
calls_by source (steps.Modify sink op) made calls = links.asked 0 (encoding (operations.Modify op)) ∷ calls
calls_by source (steps.Remove sink source_id) made calls = links.asked 0 (encoding (operations.Remove source_id)) ∷ calls
calls_by source (steps.Code sink source_id code) made calls = links.asked 0 (encoding (operations.Code source_id code)) ∷ calls
calls_by source (steps.Serve sink) made calls = links.served 0 ∷ calls
calls_by source (steps.Tell sink) made calls = links.notified 0 ∷ calls
calls_by source (steps.Read sink) made calls = links.read 0 ∷ calls
calls_by source (steps.Drain sink) made calls = with_drain made 0 calls
calls_by source (steps.Forge sink slot octets) made calls = links.forged slot octets ∷ calls
calls_by source (steps.Assist sink link) made calls = links.joined link ∷ calls
calls_by source (steps.Apart sink link) made calls = links.parted link ∷ calls
calls_by source (steps.AWrite sink link octets) made calls = links.asked link octets ∷ calls
calls_by source (steps.AServe sink link) made calls = links.served link ∷ calls
calls_by source (steps.ATell sink link) made calls = links.notified link ∷ calls
calls_by source (steps.ARead sink link) made calls = links.read link ∷ calls
calls_by source (steps.ADrain sink link) made calls = with_drain made link calls
calls_by source _ made calls = calls

-- the sink that a step names as a living one
abbrev pub named_by : Step → Option ℕ
named_by (steps.Pac sink codec caps metadata) = Some sink
named_by (steps.Locate sink bits) = Some sink
named_by (steps.Context sink sink_bits source_bits) = Some sink
named_by (steps.Tuned sink which) = Some sink
named_by (steps.Hear sink back bis subevent) = Some sink
named_by (steps.Air sink lose) = Some sink
named_by (steps.Inject sink back bis subevent octets) = Some sink
named_by (steps.Announce sink) = Some sink
named_by (steps.Train sink time ext adv acad) = Some sink
named_by (steps.Write sink octets) = Some sink
named_by (steps.Add sink op) = Some sink
named_by (steps.Modify sink op) = Some sink
named_by (steps.Remove sink source_id) = Some sink
named_by (steps.Code sink source_id code) = Some sink
named_by (steps.Serve sink) = Some sink
named_by (steps.Tell sink) = Some sink
named_by (steps.Read sink) = Some sink
named_by (steps.Drain sink) = Some sink
named_by (steps.Show sink) = Some sink
named_by (steps.Lose sink) = Some sink
named_by (steps.Drop sink) = Some sink
named_by (steps.Control sink octets) = Some sink
named_by (steps.Forge sink slot octets) = Some sink
named_by (steps.Assist sink link) = Some sink
named_by (steps.Apart sink link) = Some sink
named_by (steps.AWrite sink link octets) = Some sink
named_by (steps.AServe sink link) = Some sink
named_by (steps.ATell sink link) = Some sink
named_by (steps.ARead sink link) = Some sink
named_by (steps.ADrain sink link) = Some sink
named_by (steps.AShow sink link) = Some sink
named_by (steps.Relay sink bis to) = Some sink
named_by _ = None

-- ---- its history, but for what it hears on the air and for the events that it closes

abbrev pub calls_at : World → ℕ → Option ℕ → Step → List Step → Option Settings → List Call → List Call
calls_at world n None line earlier made calls = calls
calls_at world n (Some sink) line earlier made calls = if sink == n then calls_by (world.source earlier) line made calls else calls

abbrev pub calls_after : World → ℕ → Step → List Step → Option Settings → List Call → List Call
calls_after world n (steps.Sink sink streams slots mtu) earlier made calls = if sink == n then born mtu else calls
calls_after world n line earlier made calls = calls_at world n (named_by line) line earlier made calls

-- the calls of the sink of this number since it was made
abbrev pub history_of : World → ℕ → List Step → List Call
history_of world n [] = []
history_of world n (step ∷ earlier) = calls_after world n step earlier (made_of n earlier) (history_of world n earlier)
