-- What the sinks of a scenario took so far, by their numbers: the box of the sink of a number, where one lives; what its
-- `sink` line says; the source that it is of; its history, and the calls of its receivers, the newest first; and how many sinks
-- were made, each with the next box. A sink is of the source that put it where it is, takes the PDUs of that source alone, and
-- closes the events of that source alone (Core 5.2, volume 6 part B, section 4.4.6).
use Rattle.std.specs.Prelude.{ℕ, ◌+◌, ◌==◌, ◌&&◌, List, [], ◌∷◌, Option, None, Some, if◌then◌else◌}
use Rattle.delegator_machine.specs.Groups.{by_numbers}
use Rattle.delegator_history.specs.States.{sync_to_group}
use Rattle.delegator_history.specs.Trains.{Settings, Train}
use Rattle.sync_reference.specs.BigSync.{BigSync}
use Rattle.group_sink.specs.Calls.{Call, tune, hear, heard_calls}
use Rattle.sink_history.specs.Calls as links
use Rattle.sink_history.specs.Calls.{stepped, born}
use Rattle.scenario_history.specs.Sinks.{is_of, ticked_if}
use Rattle.scenario_text.specs.declared.step.Step.{Step}
use Rattle.sink_history.specs.History.{Source, calls_by}
use Rattle.sink_history.specs.Moves.{received_by, source_by, train_by}

pub record Histories : Type 0 where
  pub boxes : ℕ → Option ℕ
  pub mades : ℕ → Option Settings
  pub sources : ℕ → Option ℕ
  pub lives : ℕ → List links.Call
  pub received : ℕ → List Call
  pub made : ℕ

abbrev pub nothing : Histories
nothing = record { boxes = λ m. None; mades = λ m. None; sources = λ m. None; lives = λ m. []; received = λ m. []; made = 0 }

-- a sink of this number is made so, with the next box
abbrev pub with_sink : ℕ → Settings → Histories → Histories
with_sink n made past = record {
  boxes = λ m. if n == m then Some past.made else past.boxes m;
  mades = λ m. if n == m then Some made else past.mades m;
  sources = λ m. if n == m then None else past.sources m;
  lives = λ m. if n == m then born made.mtu else past.lives m;
  received = λ m. if n == m then [] else past.received m;
  made = past.made + 1;
}

-- the sink of this number ends
abbrev pub without : ℕ → Histories → Histories
without n past = record {
  boxes = λ m. if n == m then None else past.boxes m;
  mades = λ m. if n == m then None else past.mades m;
  sources = λ m. if n == m then None else past.sources m;
  lives = λ m. if n == m then [] else past.lives m;
  received = λ m. if n == m then [] else past.received m;
  made = past.made;
}

-- a source synchronizes the sink of this number to its BIG
abbrev pub with_tuning : ℕ → ℕ → BigSync → Histories → Histories
with_tuning n source big_sync past = record {
  boxes = past.boxes;
  mades = past.mades;
  sources = λ m. if n == m then Some source else past.sources m;
  lives = λ m. if n == m then stepped (sync_to_group big_sync) ∷ past.lives m else past.lives m;
  received = λ m. if n == m then tune (by_numbers big_sync) ∷ past.received m else past.received m;
  made = past.made;
}

-- octets come to the sink of this number in the place of a PDU of a source
abbrev pub with_hearing : (n source event bis subevent : ℕ) → List ℕ → Histories → Histories
with_hearing n source event bis subevent octets past = record {
  boxes = past.boxes;
  mades = past.mades;
  sources = past.sources;
  lives = past.lives;
  received = λ m. if (n == m) && is_of source (past.sources m) then hear event bis subevent octets ∷ past.received m else past.received m;
  made = past.made;
}

-- the sink of this number hears what the subevents of an event of a stream of a source bring
abbrev pub with_heard : (n source event bis : ℕ) → List (Option (List ℕ)) → Histories → Histories
with_heard n source event bis pdus past = record {
  boxes = past.boxes;
  mades = past.mades;
  sources = past.sources;
  lives = past.lives;
  received = λ m. if (n == m) && is_of source (past.sources m) then heard_calls event bis pdus (past.received m) else past.received m;
  made = past.made;
}

-- the event of a source that is open, where one is, is closed
abbrev pub with_close : ℕ → Option ℕ → Histories → Histories
with_close source closed past = record {
  boxes = past.boxes;
  mades = past.mades;
  sources = past.sources;
  lives = past.lives;
  received = λ m. ticked_if (is_of source (past.sources m)) closed (past.received m);
  made = past.made;
}

-- the sink of this number closes an event of a source, where it is of it
abbrev pub with_close_at : (n source event : ℕ) → Histories → Histories
with_close_at n source event past = record {
  boxes = past.boxes;
  mades = past.mades;
  sources = past.sources;
  lives = past.lives;
  received = λ m. if n == m then ticked_if (is_of source (past.sources m)) (Some event) (past.received m) else past.received m;
  made = past.made;
}

-- ---- a line of the control or of the links of the sink of this number, which means this source

-- only a train may bring the sink to another source
abbrev pub sourced_by : ℕ → Source → Step → Option Train → Histories → ℕ → Option ℕ
sourced_by n source line None past m = past.sources m
sourced_by n source line (Some train) past m =
    if n == m then source_by source line (past.mades m) (past.lives m) (past.sources m) else past.sources m

abbrev pub calls_with : ℕ → Source → Step → Histories → ℕ → List links.Call
calls_with n source step past m = if n == m then calls_by source step (past.mades m) (past.lives m) else past.lives m

abbrev pub with_line : ℕ → Source → Step → Histories → Histories
with_line n source step past = record {
  boxes = past.boxes;
  mades = past.mades;
  sources = λ m. sourced_by n source step (train_by source step) past m;
  lives = λ m. calls_with n source step past m;
  received = λ m.
      if n == m then received_by source step (past.mades m) (past.lives m) (calls_with n source step past m) (past.received m)
      else past.received m;
  made = past.made;
}
