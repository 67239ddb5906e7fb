-- What became of a line that names a sink. The refusals are the scenario language's own.
use Rattle.std.specs.Prelude.{ℕ, ◌≡◌, ◌<◌, Bool, true, false, List, length, ◌++◌, ◌∷◌, [], Option, None, Some, Result, Ok, Err, codes, decimal, is_none}
use Rattle.std.specs.List.{concat}
use Rattle.std.specs.Option.{option_or}
use Rattle.bcast_base.specs.declared.memory.Memory.{Memory as NoMemory}
use Rattle.delegator_machine.specs.Groups.{with_step}
use Rattle.sink_history.specs.Calls.{Call}
use Rattle.scenario_text.specs.declared.step.Step.{Step}
use Rattle.scenario_text.specs.declared.step.Step.TheVariants.{ADrain, Apart, Context, Drain, Locate}
use Rattle.sink_history.specs.History.{Source}
use Rattle.sink_history.specs.Output.{Lines, printed_of, snapshot_in, stated, viewed}
use Rattle.sink_history.specs.Refusals.{no_link, refused_by}
use Rattle.transcript_text.specs.SinkLines.{value_line}
use Rattle.scenario_sink.specs.declared.sink.LinkedSink.{LinkedSink}
use Rattle.scenario_sink.specs.SinkHistory.{SinkHistory, after_line}
use Rattle.scenario_sink.specs.State.Stands.{IsSink}
use Rattle.transcript_text.specs.declared.refusal.Refusal.{Refusal}
use Rattle.transcript_text.specs.declared.refusal.Refusal.TheVariants.{NothingWaiting}
use Rattle.transcript_text.specs.declared.stop.Stop.{Stop}
use Rattle.transcript_text.specs.declared.stop.Stop.TheVariants.{Refused, OutletFault, Memory}

-- a line that prints these lines may take memory: it prints some, keeps octets, or puts an assistant on a link
abbrev pub Takes : Step → Lines → Type 0
Takes (Locate sink bits) lines = ⊥
Takes (Context sink sink_bits source_bits) lines = ⊥
Takes (Apart sink link) lines = ⊥
Takes (Drain sink) lines = 0 < length lines
Takes (ADrain sink link) lines = 0 < length lines
Takes _ lines = Unit {0}

-- it is refused for this reason, and the sink and the text are as before; or else it prints these lines behind the text, and the
-- sink has the past `next`; or memory ran out, of a line that isn't refused and `takes` some
abbrev pub Makes : Option Refusal → (takes : Type 0) → Lines → (history next : SinkHistory) → List ℕ → List ℕ → LinkedSink → Result (Unit {0}) Stop → Type 0
Makes refusal takes lines history next text told new (Ok _) = (refusal ≡ None) × IsSink next new × (told ≡ text ++ concat lines)
Makes refusal takes lines history next text told new (Err (Refused reason)) = (refusal ≡ Some reason) × IsSink history new × (told ≡ text)
Makes refusal takes lines history next text told new (Err OutletFault) = ⊥
Makes refusal takes lines history next text told new (Err Memory) = (refusal ≡ None) × takes

-- a line that means this source does to a sink, and prints, what is said of it
abbrev pub LineMakes : Source → Step → SinkHistory → (text told : List ℕ) → LinkedSink → Result (Unit {0}) Stop → Type 0
LineMakes source step history text told new result =
    Makes (refused_by step history.made history.calls_made) (Takes step (printed_of source step history.made history.calls_made)) (printed_of source step history.made history.calls_made)
    history (after_line source step history) text told new result

-- the same of a line that prints nothing, without a text
abbrev pub Quietly : Option Refusal → (takes : Type 0) → (history next : SinkHistory) → LinkedSink → Result (Unit {0}) Stop → Type 0
Quietly refusal takes history next new (Ok _) = (refusal ≡ None) × IsSink next new
Quietly refusal takes history next new (Err (Refused reason)) = (refusal ≡ Some reason) × IsSink history new
Quietly refusal takes history next new (Err OutletFault) = ⊥
Quietly refusal takes history next new (Err Memory) = (refusal ≡ None) × takes

abbrev pub Does : Source → Step → SinkHistory → LinkedSink → Result (Unit {0}) Stop → Type 0
Does source step history new result = Quietly (refused_by step history.made history.calls_made) (Takes step []) history (after_line source step history) new result

-- ---- calls on a link

-- calls that synchronized the sink to no BIG gave it this history
abbrev pub stayed : List Call → SinkHistory → SinkHistory
stayed calls_made history = record {
  made = history.made;
  source = history.source;
  calls_made = calls_made;
  received = with_step None (snapshot_in history.made history.calls_made) (snapshot_in history.made calls_made) history.received;
}

-- the sink has this history now, and these lines stand behind the text
abbrev pub Goes : SinkHistory → List Call → Lines → List ℕ → List ℕ → LinkedSink → Type 0
Goes history calls_made lines text told new = IsSink (stayed calls_made history) new × (told ≡ text ++ concat lines)

-- the sink and the text are as before
abbrev pub Stays : SinkHistory → List ℕ → List ℕ → LinkedSink → Type 0
Stays history text told new = IsSink history new × (told ≡ text)

-- the first that waited was taken, or none waited and nothing changed, or memory ran out for the first that waited
abbrev pub Turns : {A : Type 0} → Option A → (List ℕ → LinkedSink → Type 0) → (List ℕ → LinkedSink → Type 0) → List ℕ → LinkedSink → Result Bool NoMemory → Type 0
Turns first next same told new (Ok true) = (is_none first ≡ false) × next told new
Turns first next same told new (Ok false) = (is_none first ≡ true) × same told new
Turns first next same told new (Err memory) = is_none first ≡ false

-- a line on a link: it is refused where the link isn't joined, else for the other reason, or gives the sink this history
abbrev pub LinkMakes : ℕ → (other : Option Refusal) → (takes : Type 0) → Lines → List Call → SinkHistory → (text told : List ℕ) → LinkedSink → Result (Unit {0}) Stop → Type 0
LinkMakes link other takes lines calls_made history text told new result =
    Makes (option_or (no_link history.calls_made (Some link)) other) takes lines history (stayed calls_made history) text told new result

-- what a line answers that takes the first that waits: it is refused where none does
abbrev pub answer_if : Bool → Result (Unit {0}) Stop
answer_if true = Ok tt
answer_if false = Err (Refused NothingWaiting)

-- ---- a slot

-- the lines of its state, and of what the assistant on link 0 knows of it
abbrev pub slot_lines : ℕ → SinkHistory → ℕ → Lines
slot_lines sink history slot =
    value_line (codes "state") (decimal sink ∷ []) (stated history.made history.calls_made slot)
    ∷ value_line (codes "view") (decimal sink ∷ []) (viewed history.made 0 history.calls_made slot) ∷ []
