-- What a step prints of a sink and of its assistants, by the history of the sink before it (Basic Audio Profile 1.0, section 6.5;
-- Broadcast Audio Scan Service 1.0, section 3). The lines are this project's own.
use Rattle.std.specs.Prelude.{ℕ, zero, suc, List, [], ◌∷◌, ◌++◌, length, map, slice_get, Option, Some, None, option_map, codes, decimal, if◌then◌else◌, nat_lt}
use Rattle.std.specs.List.{flat_map, range_with_len}
use Rattle.assistant_machine.specs.Answers.{answer_of as forged_answer}
use Rattle.delegator_history.specs.declared.notice.Notice.{Notice}
use Rattle.delegator_history.specs.declared.replies.Reply.{Reply}
use Rattle.delegator_history.specs.Controls as controls
use Rattle.delegator_history.specs.Snapshots.{Snapshot}
use Rattle.delegator_history.specs.States.{snapshot_of}
use Rattle.delegator_history.specs.Trains.{Settings, Train, answer_of, outcome_by}
use Rattle.delegator_history.specs.Values.{value}
use Rattle.delegator_history.specs.Writes.{reply_of}
use Rattle.sink_history.specs.Calls as links
use Rattle.sink_history.specs.Calls.{Call, steps_of, writes_waiting}
use Rattle.sink_history.specs.Drains.{repeated, served_out, notified_out}
use Rattle.sink_history.specs.Links.{delivered, notices_waiting, reads_waiting, state, view}
use Rattle.scenario_text.specs.declared.step.Step.{Step}
use Rattle.scenario_text.specs.declared.step.Step.TheVariants as steps
use Rattle.transcript_text.specs.SinkLines.{Label, control_words, forged_line, on_link, plain, reply_line, sink_line, train_line, train_words, value_line}
use Rattle.sink_history.specs.History.{Source, World, given_train, history_of, made_of, named_by, own_train}

abbrev pub snapshot_in : Settings → List Call → Snapshot
snapshot_in made calls = snapshot_of made.setup (steps_of calls)

-- ---- one call on a link

abbrev pub replied : Settings → ℕ → List Call → Option Reply
replied made link calls = option_map (reply_of (snapshot_in made calls)) (slice_get (writes_waiting link calls) 0)

abbrev pub notice_delivered : Settings → ℕ → List Call → Option Notice
notice_delivered made link calls = option_map (delivered made.mtu) (slice_get (notices_waiting made.setup made.mtu link calls) 0)

abbrev pub stated : Settings → List Call → ℕ → Notice
stated made calls slot = record { slot = slot; value = value (state made.setup slot calls) }

-- the octets of the state of a slot that a sink has, where it lives
abbrev pub state_where : Option Settings → List Call → ℕ → Option (List ℕ)
state_where None calls slot = None
state_where (Some made) calls slot = if nat_lt slot made.setup.slots then Some (stated made calls slot).value else None

-- the read that waits of the lowest slot, with the octets of its state
abbrev pub was_read : Settings → ℕ → List Call → Option Notice
was_read made link calls = option_map (stated made calls) (slice_get (reads_waiting made.setup made.mtu link calls) 0)

abbrev pub Lines : Type 0
Lines = List (List ℕ)

abbrev pub if_there : {A : Type 0} → (A → List ℕ) → Option A → Lines
if_there line None = []
if_there line (Some what) = line what ∷ []

abbrev pub serve_line : Label → Settings → ℕ → List Call → Lines
serve_line label made link calls = if_there (reply_line label) (replied made link calls)

abbrev pub tell_line : Label → Settings → ℕ → List Call → Lines
tell_line label made link calls = if_there (value_line label.notice label.numbers) (notice_delivered made link calls)

abbrev pub read_line : Label → Settings → ℕ → List Call → Lines
read_line label made link calls = if_there (value_line label.read label.numbers) (was_read made link calls)

-- ---- a drain: all writes, then all notices, then all reads

abbrev pub serve_lines : Label → Settings → (link count : ℕ) → List Call → Lines
serve_lines label made link zero calls = []
serve_lines label made link (suc count) calls =
    serve_lines label made link count calls ++ serve_line label made link (repeated count (links.served link) calls)

abbrev pub tell_lines : Label → Settings → (link count : ℕ) → List Call → Lines
tell_lines label made link zero calls = []
tell_lines label made link (suc count) calls =
    tell_lines label made link count calls ++ tell_line label made link (repeated count (links.notified link) calls)

abbrev pub read_lines : Label → Settings → (link count : ℕ) → List Call → Lines
read_lines label made link zero calls = []
read_lines label made link (suc count) calls =
    read_lines label made link count calls ++ read_line label made link (repeated count (links.read link) calls)

abbrev pub drain_lines : Label → Settings → ℕ → List Call → Lines
drain_lines label made link calls =
    let served : List Call = served_out link calls in
    let notified : List Call = notified_out made.setup made.mtu link served in
    serve_lines label made link (length (writes_waiting link calls)) calls
    ++ tell_lines label made link (length (notices_waiting made.setup made.mtu link served)) served
    ++ read_lines label made link (length (reads_waiting made.setup made.mtu link notified)) notified

-- ---- states and views, by rising slot

abbrev pub viewed : Settings → ℕ → List Call → ℕ → Notice
viewed made link calls slot = record { slot = slot; value = value (view made.setup made.mtu link slot calls) }

abbrev pub show_lines : ℕ → Settings → List Call → Lines
show_lines sink made calls = flat_map (λ slot. value_line (codes "state") (decimal sink ∷ []) (stated made calls slot)
    ∷ value_line (codes "view") (decimal sink ∷ []) (viewed made 0 calls slot) ∷ []) (range_with_len 0 made.setup.slots)

abbrev pub view_lines : (sink link : ℕ) → Settings → List Call → Lines
view_lines sink link made calls =
    map (λ slot. value_line (codes "aview") (decimal sink ∷ decimal link ∷ []) (viewed made link calls slot)) (range_with_len 0 made.setup.slots)

-- ---- trains

abbrev pub heard_line : ℕ → Settings → List Call → Train → List ℕ
heard_line sink made calls train = sink_line sink (train_words (answer_of (outcome_by made.setup (snapshot_in made calls) train)))

-- ---- all of it

-- what a step prints that names a living sink with this history
abbrev pub printed_of : Source → Step → Settings → List Call → Lines
printed_of source (steps.Serve sink) made calls = serve_line (plain sink) made 0 calls
printed_of source (steps.Tell sink) made calls = tell_line (plain sink) made 0 calls
printed_of source (steps.Read sink) made calls = read_line (plain sink) made 0 calls
printed_of source (steps.Drain sink) made calls = drain_lines (plain sink) made 0 calls
printed_of source (steps.Show sink) made calls = show_lines sink made calls
printed_of source (steps.Forge sink slot octets) made calls = forged_line sink (forged_answer made.setup.slots made.mtu slot octets) ∷ []
printed_of source (steps.Lose sink) made calls = sink_line sink (codes "Idle" ∷ []) ∷ []
printed_of source (steps.Control sink octets) made calls =
    sink_line sink (control_words (controls.control_heard (snapshot_in made calls).place octets)) ∷ []
printed_of source (steps.Announce sink) made calls = train_line sink source.announced ∷ heard_line sink made calls (own_train source) ∷ []
printed_of source (steps.Train sink time ext adv acad) made calls = heard_line sink made calls (given_train source time ext adv acad) ∷ []
printed_of source (steps.AServe sink link) made calls = serve_line (on_link sink link) made link calls
printed_of source (steps.ATell sink link) made calls = tell_line (on_link sink link) made link calls
printed_of source (steps.ARead sink link) made calls = read_line (on_link sink link) made link calls
printed_of source (steps.ADrain sink link) made calls = drain_lines (on_link sink link) made link calls
printed_of source (steps.AShow sink link) made calls = view_lines sink link made calls
printed_of source _ made calls = []

abbrev pub printed_where : Source → Step → Option Settings → List Call → Lines
printed_where source line None calls = []
printed_where source line (Some made) calls = printed_of source line made calls

abbrev pub printed_at : World → List Step → Step → Option ℕ → Lines
printed_at world earlier line None = []
printed_at world earlier line (Some n) = printed_where (world.source earlier) line (made_of n earlier) (history_of world n earlier)

abbrev pub printed : World → List Step → Step → Lines
printed world earlier step = printed_at world earlier step (named_by step)

-- what all steps print so, in order
abbrev pub out_of : World → List Step → Lines
out_of world [] = []
out_of world (step ∷ earlier) = out_of world earlier ++ printed world earlier step
