-- The history of a sink whose groups may have a greater horizon: what it has, what its links bring and what it prints are the
-- same, where no train was answered `BadGroup 11` (Basic Audio Profile 1.0, section 6.5; Broadcast Audio Scan Service 1.0,
-- section 3). Lists of steps and of calls have the newest first.
use Rattle.scenario_laws.proofs.Known.Sources.Steps.Prelude.{ℕ, zero, suc, ◌≡◌, ◌≤◌, List, [], ◌∷◌, length, Option, refl, ◌∙◌, ap, arith, slice_get, Snapshot, done_by, snapshot_of, train_heard, outcome_by, writes_waiting, drained, repeated, notified_and_read, notified_out, Acts, acts_by, acts_of, notices_waiting, reads_waiting, waiting_of, DelegatorAnswered as Answered, DelegatorStep as Step, delegator_answered as answered, delegator_snapshot_in as snapshot_in, Done, SinkSetup as Setup, LinkCall as Call, link_steps_of as steps_of}
use Rattle.scenario_laws.proofs.Versions.Trains.{BringsNear, brought_same, with_horizon}

-- ---- what it has

-- the step is no train that was answered `BadGroup 11`
abbrev pub IsQuiet : Setup → List Step → Step → Type 0
IsQuiet setup earlier (train_heard train) = BringsNear (outcome_by setup (snapshot_of setup earlier) train)
IsQuiet setup earlier _ = Unit {0}

abbrev pub AreQuiet : Setup → List Step → Type 0
AreQuiet setup [] = Unit {0}
AreQuiet setup (step ∷ earlier) = AreQuiet setup earlier × IsQuiet setup earlier step

done_same : (wider : ℕ) (setup : Setup) (earlier : List Step) (step : Step) → setup.horizon ≤ wider → IsQuiet setup earlier step
    → done_by (with_horizon wider setup) (snapshot_of setup earlier) step ≡ done_by setup (snapshot_of setup earlier) step
done_same wider setup earlier step within quiet = grind (arith, brought_same)

answer_with : Snapshot → Done → List Answered → List Answered
answer_with before done earlier = record { before = before; done = done } ∷ earlier

answered_same : (wider : ℕ) (setup : Setup) (steps : List Step) → setup.horizon ≤ wider → AreQuiet setup steps
    → answered (with_horizon wider setup) steps ≡ answered setup steps
unfolding answered answer_with
answered_same wider setup [] within quiet = refl
answered_same wider setup (step ∷ earlier) within quiet =
    cc (answered_same wider setup earlier within quiet.0, done_same wider setup earlier step within quiet.1)

pub snapshot_same : (wider : ℕ) (setup : Setup) (steps : List Step) → setup.horizon ≤ wider → AreQuiet setup steps
    → snapshot_of (with_horizon wider setup) steps ≡ snapshot_of setup steps
snapshot_same wider setup steps within quiet = ap (snapshot_in setup.slots) (answered_same wider setup steps within quiet)

-- ---- what its links bring

abbrev pub AreQuietCalls : Setup → List Call → Type 0
AreQuietCalls setup calls = AreQuiet setup (steps_of calls)

by_same : (wider : ℕ) (setup : Setup) (mtu : Option ℕ) (link : ℕ) (call : Call) (before now : List Step) (acts : Acts)
    → snapshot_of (with_horizon wider setup) before ≡ snapshot_of setup before → snapshot_of (with_horizon wider setup) now ≡ snapshot_of setup now
    → acts_by (with_horizon wider setup) mtu link call before now acts ≡ acts_by setup mtu link call before now acts
by_same wider setup mtu link call before now acts same same_now = grind (arith, same_now, same)

pub acts_same : (wider : ℕ) (setup : Setup) (mtu : Option ℕ) (link : ℕ) (calls : List Call) → setup.horizon ≤ wider → AreQuietCalls setup calls
    → acts_of (with_horizon wider setup) mtu link calls ≡ acts_of setup mtu link calls
acts_same wider setup mtu link [] within quiet = refl
acts_same wider setup mtu link (call ∷ earlier) within quiet =
    let quiet_earlier : AreQuietCalls setup earlier = grind arith in
    ap (acts_by (with_horizon wider setup) mtu link call (steps_of earlier) (steps_of (call ∷ earlier)))
    (acts_same wider setup mtu link earlier within quiet_earlier)
    ∙ by_same wider setup mtu link call (steps_of earlier) (steps_of (call ∷ earlier)) (acts_of setup mtu link earlier)
    (snapshot_same wider setup (steps_of earlier) within quiet_earlier) (snapshot_same wider setup (steps_of (call ∷ earlier)) within quiet)

pub notices_same : (wider : ℕ) (setup : Setup) (mtu : Option ℕ) (link : ℕ) (calls : List Call) → setup.horizon ≤ wider
    → AreQuietCalls setup calls → notices_waiting (with_horizon wider setup) mtu link calls ≡ notices_waiting setup mtu link calls
notices_same wider setup mtu link calls within quiet = ap waiting_of (acts_same wider setup mtu link calls within quiet)

pub reads_same : (wider : ℕ) (setup : Setup) (mtu : Option ℕ) (link : ℕ) (calls : List Call) → setup.horizon ≤ wider → AreQuietCalls setup calls
    → reads_waiting (with_horizon wider setup) mtu link calls ≡ reads_waiting setup mtu link calls
reads_same wider setup mtu link calls within quiet = cc (acts_same wider setup mtu link calls within quiet)

-- ---- drains

pub quiet_served : (setup : Setup) (link : ℕ) (calls : List Call) → AreQuietCalls setup calls
    → AreQuietCalls setup (Call.served link ∷ calls)
quiet_served setup link calls quiet = grind (arith, slice_get, writes_waiting)

pub quiet_serves : (setup : Setup) (link count : ℕ) (calls : List Call) → AreQuietCalls setup calls
    → AreQuietCalls setup (repeated count (Call.served link) calls)
quiet_serves setup link zero calls quiet = quiet
quiet_serves setup link (suc count) calls quiet = search (quiet_served, quiet_serves setup link count calls quiet)

pub quiet_tells : (setup : Setup) (link count : ℕ) (calls : List Call) → AreQuietCalls setup calls
    → AreQuietCalls setup (repeated count (Call.notified link) calls)
quiet_tells setup link zero calls quiet = quiet
quiet_tells setup link (suc count) calls quiet = quiet_tells setup link count calls quiet

pub quiet_reads : (setup : Setup) (link count : ℕ) (calls : List Call) → AreQuietCalls setup calls
    → AreQuietCalls setup (repeated count (Call.read link) calls)
quiet_reads setup link zero calls quiet = quiet
quiet_reads setup link (suc count) calls quiet = quiet_reads setup link count calls quiet

pub quiet_drained : (setup : Setup) (mtu : Option ℕ) (link : ℕ) (calls : List Call) → AreQuietCalls setup calls
    → AreQuietCalls setup (drained setup mtu link calls)
quiet_drained setup mtu link calls quiet = search (quiet_reads, quiet_tells, quiet_serves)

pub told_same : (wider : ℕ) (setup : Setup) (mtu : Option ℕ) (link : ℕ) (calls : List Call) → setup.horizon ≤ wider → AreQuietCalls setup calls
    → notified_out (with_horizon wider setup) mtu link calls ≡ notified_out setup mtu link calls
told_same wider setup mtu link calls within quiet = cc (notices_same wider setup mtu link calls within quiet)

told_and_read_same : (wider : ℕ) (setup : Setup) (mtu : Option ℕ) (link : ℕ) (calls : List Call) → setup.horizon ≤ wider
    → AreQuietCalls setup calls → notified_and_read (with_horizon wider setup) mtu link calls ≡ notified_and_read setup mtu link calls
told_and_read_same wider setup mtu link calls within quiet =
    grind (
      arith,
      notified_out setup mtu link calls,
      told_same wider setup mtu link calls within quiet,
      reads_same wider setup mtu link (notified_out setup mtu link calls) within (quiet_tells setup link (length (notices_waiting setup mtu link calls)) calls quiet),
    )

pub drained_same : (wider : ℕ) (setup : Setup) (mtu : Option ℕ) (link : ℕ) (calls : List Call) → setup.horizon ≤ wider
    → AreQuietCalls setup calls → drained (with_horizon wider setup) mtu link calls ≡ drained setup mtu link calls
drained_same wider setup mtu link calls within quiet = search (told_and_read_same, quiet_serves)
