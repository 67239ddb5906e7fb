-- A train that a line hands a sink.
use Rattle.scenario_sink.proofs.Prelude.{ℕ, ◌≡◌, List, ◌∷◌, Some, if◌then◌else◌, train_heard, TrainOutcome, Train, outcome_by, big_sync_in, with_step, Call, stepped, Source, given_train, own_train, follows, snapshot_in, SinkHistory, arith}
use Rattle.announcement_train.specs.declared.train.Train.{Train as Announced}
use Rattle.scenario_sink.specs.declared.origin.Origin.{Origin}
use Rattle.scenario_sink.specs.Origins.{IsFrom}

abbrev train_of : ℕ → ℕ → (ext adv acad : List ℕ) → ℕ → Train
train_of address_type sid ext adv acad now = record { address_type = address_type; sid = sid; ext = ext; adv = adv; acad = acad; now = now }

pub its_train : (origin : Origin) (source : Source) (ext adv acad : List ℕ) (now : ℕ) → IsFrom origin source
    → train_of origin.address_type origin.sid ext adv acad now ≡ given_train source now ext adv acad
its_train origin source ext adv acad now from = grind arith

-- what it announces
pub announced_train : (source : Source) (train : Announced) (ext adv acad : List ℕ) → source.announced ≡ train → ext ≡ train.ext → adv ≡ train.adv → acad ≡ train.acad
    → given_train source train.time ext adv acad ≡ own_train source
announced_train source train ext adv acad is exts advs acads = grind arith

-- what it makes of the past of a sink
abbrev pub after_train : Source → Train → SinkHistory → SinkHistory
after_train source train history =
    let outcome : TrainOutcome = outcome_by history.made.setup (snapshot_in history.made history.calls_made) train in
    let calls_made : List Call = stepped (train_heard train) ∷ history.calls_made in
    record {
      made = history.made;
      source = if follows outcome then Some source.number else history.source;
      calls_made = calls_made;
      received = with_step (big_sync_in outcome) (snapshot_in history.made history.calls_made) (snapshot_in history.made calls_made) history.received;
    }
