-- The group check where a group may have a greater horizon: but for the row of the horizon it finds the same.
use Rattle.scenario_laws.proofs.Known.Sources.Steps.Prelude.{ℕ, ◌≡◌, ◌⊎◌, ◌≤◌, ltb, cond, Bool, true, List, [], ◌∷◌, Option, None, Some, refl, arith, find, false≢true, le-ltb, ltb-true, lt-ltb, GroupFault, BigInfo, faults, has_fault, horizon_of, Result, Ok, Err, Endpoint, Horizon, info_of, TrainHeard, Snapshot, TrainOutcome, Train, answer_of, big_info_in, outcome_by, by_base, by_big_info, by_group, by_info, by_slot, first_fault, SinkSetup as Setup}
use Rattle.bass_operations.specs.declared.wishes.Wish.{Wish}
use Rattle.big_info.specs.declared.big_fault.BigFault.{BigFault}
use Rattle.pacs_records.specs.declared.capability.Capability.{Capability}
use Rattle.delegator_history.specs.declared.train_heard.TrainHeard.TheVariants as answers

-- the fault isn't the horizon of the group
abbrev pub IsNear : GroupFault → Type 0
IsNear GroupFault.Horizon = ⊥
IsNear _ = Unit {0}

-- no such fault was found
abbrev pub FoundNear : Option GroupFault → Type 0
FoundNear None = Unit {0}
FoundNear (Some fault) = IsNear fault

-- ---- it finds the same

past : (holds : Bool) (fault : GroupFault) (one other : Option GroupFault) → FoundNear (cond holds (Some fault) one)
    → (FoundNear one → other ≡ one) → cond holds (Some fault) other ≡ cond holds (Some fault) one
past holds fault one other is same = grind arith

past_horizon : (close wide : Bool) (one other : Option GroupFault) → (wide ≡ true → close ≡ true)
    → FoundNear (cond close (Some GroupFault.Horizon) one)
    → (FoundNear one → other ≡ one) → cond wide (Some GroupFault.Horizon) other ≡ cond close (Some GroupFault.Horizon) one
past_horizon close wide one other more is same = grind (arith, false≢true)

-- what lies past the greater horizon lies past the smaller one
past_both : (near wider reach : ℕ) → near ≤ wider → ltb wider reach ≡ true → ltb near reach ≡ true
past_both near wider reach within past_far = let below = ltb-true wider reach past_far in lt-ltb near reach (omega (arith, below))

found : (near wider : ℕ) (info : BigInfo) (all : List GroupFault) → near ≤ wider → FoundNear (find (has_fault near info) all)
    → find (has_fault wider info) all ≡ find (has_fault near info) all
found near wider info [] within is = refl
found near wider info (GroupFault.Horizon ∷ all) within is = search (past_horizon, ltb, past_both, found near wider info all within)
found near wider info (fault ∷ all) within is = search (past, found near wider info all within)

pub first_same : (near wider : ℕ) (info : BigInfo) → near ≤ wider → FoundNear (first_fault near info)
    → first_fault wider info ≡ first_fault near info
unfolding first_fault
first_same near wider info within is = found near wider info faults within is

-- ---- where the row of the horizon doesn't hold

not_past : (holds : Bool) (fault : GroupFault) (rest : Option GroupFault) → IsNear fault → FoundNear rest
    → FoundNear (cond holds (Some fault) rest)
not_past holds fault rest here later = grind arith

pub within_near : (near : ℕ) (info : BigInfo) → horizon_of info ≤ near → FoundNear (first_fault near info)
unfolding first_fault
within_near near info within = grind (arith, ltb, le-ltb, not_past, faults, false≢true)

-- ---- either way

pub near_or_horizon : (found : Option GroupFault) → FoundNear found ⊎ (found ≡ Some GroupFault.Horizon)
near_or_horizon found = grind arith

-- ---- the outcome of a train at a sink whose groups may have a greater horizon: what it brought, where it wasn't answered
-- `BadGroup 11` (Basic Audio Profile 1.0, section 6.5).

-- the limits of a sink, but for the greatest horizon of a group
abbrev pub with_horizon : ℕ → Setup → Setup
with_horizon horizon setup = record { streams = setup.streams; slots = setup.slots; horizon = horizon }

-- the answer isn't `BadGroup 11`
abbrev pub AnswersNear : TrainHeard → Type 0
AnswersNear (answers.BadGroup fault) = IsNear fault
AnswersNear _ = Unit {0}

abbrev pub BringsNear : TrainOutcome → Type 0
BringsNear brought = AnswersNear (answer_of brought)

-- ---- it brings the same

fault_same : (wider : ℕ) (setup : Setup) (capability : Capability) (wishes : List Wish) (slot : ℕ) (train : Train) (base : Endpoint)
    (info : BigInfo) (encrypted : Bool) (fault : Option GroupFault)
    → by_group (with_horizon wider setup) capability wishes slot train base info encrypted fault
    ≡ by_group setup capability wishes slot train base info encrypted fault
fault_same wider setup capability wishes slot train base info encrypted fault = cc

info_same : (wider : ℕ) (setup : Setup) (capability : Capability) (wishes : List Wish) (slot : ℕ) (train : Train) (base : Endpoint)
    (encrypted : Bool)
    (read : Result BigInfo BigFault) → setup.horizon ≤ wider → BringsNear (by_info setup capability wishes slot train base encrypted read)
    → by_info (with_horizon wider setup) capability wishes slot train base encrypted read
    ≡ by_info setup capability wishes slot train base encrypted read
info_same wider setup capability wishes slot train base encrypted (Err fault) within is = refl
info_same wider setup capability wishes slot train base encrypted (Ok info) within is =
    cc (
      first_same setup.horizon wider info within (grind arith),
      fault_same wider setup capability wishes slot train base info encrypted (first_fault setup.horizon info),
    )

big_info_same : (wider : ℕ) (setup : Setup) (capability : Capability) (wishes : List Wish) (slot : ℕ) (train : Train) (base : Endpoint)
    (found : Option (List ℕ)) → setup.horizon ≤ wider → BringsNear (by_big_info setup capability wishes slot train base found)
    → by_big_info (with_horizon wider setup) capability wishes slot train base found ≡ by_big_info setup capability wishes slot train base found
big_info_same wider setup capability wishes slot train base found within is = grind (arith, info_same)

base_same : (wider : ℕ) (setup : Setup) (capability : Capability) (wishes : List Wish) (slot : ℕ) (train : Train) (found : Option (List ℕ))
    → setup.horizon ≤ wider → BringsNear (by_base setup capability wishes slot train found)
    → by_base (with_horizon wider setup) capability wishes slot train found ≡ by_base setup capability wishes slot train found
base_same wider setup capability wishes slot train found within is = grind (arith, big_info_same)

slot_same : (wider : ℕ) (setup : Setup) (snapshot : Snapshot) (train : Train) (found : Option ℕ) → setup.horizon ≤ wider
    → BringsNear (by_slot setup snapshot train found) → by_slot (with_horizon wider setup) snapshot train found ≡ by_slot setup snapshot train found
slot_same wider setup snapshot train found within is = grind (arith, base_same)

pub brought_same : (wider : ℕ) (setup : Setup) (snapshot : Snapshot) (train : Train) → setup.horizon ≤ wider
    → BringsNear (outcome_by setup snapshot train) → outcome_by (with_horizon wider setup) snapshot train ≡ outcome_by setup snapshot train
brought_same wider setup snapshot train within is = grind (arith, slot_same)

-- ---- a train whose group is near

-- each BIGInfo that is read of the train is of a group within the horizon
abbrev pub ReadsNear : Setup → Train → Type 0
ReadsNear setup train = (octets : List ℕ) → (info : BigInfo) → big_info_in train.acad ≡ Some octets → info_of octets ≡ Ok info
    → FoundNear (first_fault setup.horizon info)

near_if : (b : Bool) (one other : TrainOutcome) → BringsNear one → BringsNear other → BringsNear (cond b one other)
near_if b one other is also = grind arith

pub outcome_near : (setup : Setup) (snapshot : Snapshot) (train : Train) → ReadsNear setup train → BringsNear (outcome_by setup snapshot train)
outcome_near setup snapshot train near = grind (arith, near_if)

-- ---- either way

pub answer_near : (answer : TrainHeard) → AnswersNear answer ⊎ (answer ≡ answers.BadGroup Horizon)
answer_near _ = grind arith
