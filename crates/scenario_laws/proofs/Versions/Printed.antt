-- What a sink prints whose groups may have a greater horizon, and why a step that names it is refused: the same, where no
-- train was answered `BadGroup 11` (Basic Audio Profile 1.0, section 6.5; Broadcast Audio Scan Service 1.0, section 3). Lists
-- of calls have the newest first.
use Rattle.scenario_laws.proofs.Known.Sources.Steps.Prelude.{ℕ, zero, suc, ◌≡◌, ◌≤◌, List, [], ◌∷◌, ◌++◌, length, Option, None, Some, refl, ◌∙◌, ap, codes, decimal, map, nat_lt, option_map, slice_get, flat_map, range_with_len, option_or, Snapshot, Settings, Train, outcome_by, state_at, value, writes_waiting, repeated, served_out, notified_out, Acts, acts_of, delivered, language, notices_waiting, reads_waiting, reads_of, view_of, waiting_of, Step, NothingWaiting, RecordsTooLong, Label, control_words, reply_line, sink_line, value_line, Source, record_of, train_by, drain_lines, heard_line, if_there, printed_of, read_line, read_lines, serve_line, serve_lines, show_lines, snapshot_in, tell_line, tell_lines, view_lines, link_named, link_twice, no_link, no_notice, no_read, no_record_room, nothing_waits, refuse_if, refused_by, is_none, LinkCall as Call, link_steps_of as steps_of}
use Rattle.pacs_records.specs.Layout.{greatest_value, value as records_value}
use Rattle.delegator_history.specs.Writes.{reply_of}
use Rattle.delegator_history.specs.declared.notice.Notice.{Notice}
use Rattle.scenario_laws.proofs.Versions.Histories.{AreQuietCalls, acts_same, quiet_reads, quiet_serves, quiet_tells, snapshot_same, told_same}
use Rattle.scenario_laws.proofs.Versions.Trains.{BringsNear, brought_same, with_horizon}
use Rattle.delegator_history.specs.Controls as controls

-- the sink, but for the greatest horizon of a group
abbrev pub made_with_horizon : ℕ → Settings → Settings
made_with_horizon wider made = record { setup = with_horizon wider made.setup; mtu = made.mtu }

-- the history of a sink, in which no train was answered `BadGroup 11`, and the greatest horizon of a group is as great at least
pub record IsQuietHistory (wider : ℕ) (made : Settings) (calls : List Call) : Type 0 where
  pub within : made.setup.horizon ≤ wider
  pub quiet : AreQuietCalls made.setup calls

-- what is said of such a sink and its history is the same
abbrev pub Same : {A : Type 0} → (Settings → List Call → A) → Type 0
Same f = (wider : ℕ) (made : Settings) (calls : List Call) → IsQuietHistory wider made calls → f (made_with_horizon wider made) calls ≡ f made calls

pub its_snapshot : Same snapshot_in
its_snapshot wider made calls is = snapshot_same wider made.setup (steps_of calls) is.within is.quiet

its_acts : (link : ℕ) → Same (λ made. acts_of made.setup made.mtu link)
its_acts link wider made calls is = acts_same wider made.setup made.mtu link calls is.within is.quiet

its_notices : (link : ℕ) → Same (λ made. notices_waiting made.setup made.mtu link)
its_notices link wider made calls is i = waiting_of (its_acts link wider made calls is i)

its_reads : (link : ℕ) → Same (λ made. reads_waiting made.setup made.mtu link)
its_reads link wider made calls is i = reads_of (language made.mtu) made.setup.slots (its_acts link wider made calls is i)

-- ---- one line

served_same : (label : Label) (link : ℕ) → Same (λ made. serve_line label made link)
served_same label link wider made calls is i =
    if_there (reply_line label) (option_map (reply_of (its_snapshot wider made calls is i)) (slice_get (writes_waiting link calls) 0))

told_line_same : (label : Label) (link : ℕ) → Same (λ made. tell_line label made link)
told_line_same label link wider made calls is i =
    if_there (value_line label.notice label.numbers) (option_map (delivered made.mtu) (slice_get (its_notices link wider made calls is i) 0))

-- a slot with the octets of its state, of what the sink has
abbrev stated_in : Snapshot → ℕ → Notice
stated_in snapshot slot = record { slot = slot; value = value (state_at snapshot slot) }

read_line_same : (label : Label) (link : ℕ) → Same (λ made. read_line label made link)
read_line_same label link wider made calls is i =
    if_there (value_line label.read label.numbers)
    (option_map (stated_in (its_snapshot wider made calls is i)) (slice_get (its_reads link wider made calls is i) 0))

-- ---- drains

serves_same : (label : Label) (link count : ℕ) → Same (λ made. serve_lines label made link count)
serves_same label link zero wider made calls is = refl
serves_same label link (suc count) wider made calls is = λ i. serves_same label link count wider made calls is i
    ++ served_same label link wider made (repeated count (Call.served link) calls)
    (record { within = is.within; quiet = quiet_serves made.setup link count calls is.quiet }) i

tells_same : (label : Label) (link count : ℕ) → Same (λ made. tell_lines label made link count)
tells_same label link zero wider made calls is = refl
tells_same label link (suc count) wider made calls is = λ i. tells_same label link count wider made calls is i
    ++ told_line_same label link wider made (repeated count (Call.notified link) calls)
    (record { within = is.within; quiet = quiet_tells made.setup link count calls is.quiet }) i

reads_lines_same : (label : Label) (link count : ℕ) → Same (λ made. read_lines label made link count)
reads_lines_same label link zero wider made calls is = refl
reads_lines_same label link (suc count) wider made calls is = λ i. reads_lines_same label link count wider made calls is i
    ++ read_line_same label link wider made (repeated count (Call.read link) calls)
    (record { within = is.within; quiet = quiet_reads made.setup link count calls is.quiet }) i

drains_same : (label : Label) (link : ℕ) → Same (λ made. drain_lines label made link)
drains_same label link wider made calls is =
    let it : Settings = made_with_horizon wider made in
    let count : ℕ = length (writes_waiting link calls) in
    let served : List Call = served_out link calls in
    let notified : List Call = notified_out made.setup made.mtu link served in
    let is_served : IsQuietHistory wider made served = record { within = is.within; quiet = quiet_serves made.setup link count calls is.quiet } in
    let heard : notices_waiting it.setup made.mtu link served ≡ notices_waiting made.setup made.mtu link served =
    its_notices link wider made served is_served in
    let notices : ℕ = length (notices_waiting made.setup made.mtu link served) in
    let is_told : IsQuietHistory wider made notified =
    record { within = is.within; quiet = quiet_tells made.setup link notices served is_served.quiet } in
    let now : notified_out it.setup made.mtu link served ≡ notified = told_same wider made.setup made.mtu link served is.within is_served.quiet in
    let reads : reads_waiting it.setup made.mtu link (notified_out it.setup made.mtu link served) ≡ reads_waiting made.setup made.mtu link notified =
    ap (reads_waiting it.setup made.mtu link) now ∙ its_reads link wider made notified is_told in
    (λ i. serve_lines label it link count calls ++ tell_lines label it link (length (heard i)) served
    ++ read_lines label it link (length (reads i)) (now i)) ∙ (search (serves_same, tells_same, reads_lines_same, length, reads_waiting))

-- ---- states and views

-- a slot with the octets of a view, of what happened on its link
abbrev viewed_in : Option ℕ → Acts → ℕ → Notice
viewed_in mtu acts slot = record { slot = slot; value = value (view_of (language mtu) slot acts) }

shows_same : (sink : ℕ) → Same (show_lines sink)
shows_same sink wider made calls is i = flat_map
    (λ slot. value_line (codes "state") (decimal sink ∷ []) (stated_in (its_snapshot wider made calls is i) slot)
    ∷ value_line (codes "view") (decimal sink ∷ []) (viewed_in made.mtu (its_acts 0 wider made calls is i) slot) ∷ [])
    (range_with_len 0 made.setup.slots)

views_same : (sink link : ℕ) → Same (view_lines sink link)
views_same sink link wider made calls is i =
    map (λ slot. value_line (codes "aview") (decimal sink ∷ decimal link ∷ []) (viewed_in made.mtu (its_acts link wider made calls is i) slot))
    (range_with_len 0 made.setup.slots)

-- ---- trains

-- the train, where one is heard, isn't answered `BadGroup 11`
abbrev pub HearsNear : Settings → List Call → Option Train → Type 0
HearsNear made calls None = Unit {0}
HearsNear made calls (Some train) = BringsNear (outcome_by made.setup (snapshot_in made calls) train)

pub brings_same : (wider : ℕ) (made : Settings) (calls : List Call) (train : Train) → IsQuietHistory wider made calls
    → HearsNear made calls (Some train) → outcome_by (with_horizon wider made.setup) (snapshot_in (made_with_horizon wider made) calls) train
    ≡ outcome_by made.setup (snapshot_in made calls) train
brings_same wider made calls train is near = cc (its_snapshot wider made calls is, brought_same wider made.setup (snapshot_in made calls) train is.within near)

hears_same : (wider sink : ℕ) (made : Settings) (calls : List Call) (train : Train) → IsQuietHistory wider made calls
    → HearsNear made calls (Some train) → heard_line sink (made_with_horizon wider made) calls train ≡ heard_line sink made calls train
hears_same wider sink made calls train is near = cc (brings_same wider made calls train is near)

-- ---- all of it

pub printed_same : (wider : ℕ) (source : Source) (step : Step) (made : Settings) (calls : List Call) → IsQuietHistory wider made calls
    → HearsNear made calls (train_by source step)
    → printed_of source step (made_with_horizon wider made) calls ≡ printed_of source step made calls
printed_same wider source (Step.Control sink octets) made calls is near = λ i.
    sink_line sink (control_words (controls.control_heard (its_snapshot wider made calls is i).place octets)) ∷ []
printed_same wider source this made calls is near =
    search (served_same, told_line_same, read_line_same, drains_same, shows_same, hears_same, views_same)

-- ---- why a step is refused

notice_same : (link : ℕ) → Same (λ made. no_notice made link)
notice_same link wider made calls is i = refuse_if (is_none (slice_get (its_notices link wider made calls is i) 0)) NothingWaiting

read_same : (link : ℕ) → Same (λ made. no_read made link)
read_same link wider made calls is i = refuse_if (is_none (slice_get (its_reads link wider made calls is i) 0)) NothingWaiting

waits_same : (step : Step) → Same (λ made calls. nothing_waits made calls step)
waits_same (Step.Tell sink) = notice_same 0
waits_same this = search (notice_same, read_same)

room_same : (step : Step) → Same (λ made calls. no_record_room made calls step)
room_same (Step.Pac sink codec caps metadata) = λ wider made calls is i.
    refuse_if (nat_lt greatest_value (length (records_value ((its_snapshot wider made calls is i).capability.entries
    ++ record_of codec caps metadata ∷ [])))) RecordsTooLong
room_same _ = λ wider made calls is. refl

pub refused_same : (step : Step) → Same (refused_by step)
refused_same step wider made calls is i =
    option_or (no_link calls (link_named step)) (option_or (link_twice calls step)
    (option_or (waits_same step wider made calls is i) (room_same step wider made calls is i)))
