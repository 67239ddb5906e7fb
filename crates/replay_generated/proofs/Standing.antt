-- What stands between the steps of two lines of a generated scenario, and when such a step isn't refused.
use Rattle.std.proofs.Common.{arith}
use Rattle.replay_generated.proofs.Prelude.{◌≡◌, ℕ, true, false, nat_eq, List, ◌∷◌, ap, Option, None, Some, is_some, option_map, airs_of, Setup, Call, events, give_fault, event_fault, Step, Stage, running, chosen_given, is_common, is_source_line, last_given, stage_after, stage_of, steps_of_source, version_at, version_of, box_after, box_of, counter_ends, give_refusal, refusal_of}
use Rattle.big_info.specs.declared.info.BigInfo.{BigInfo}
use Rattle.scenario_text.specs.declared.step.Step.TheVariants as kinds
use Rattle.scenario_history.specs.Source.{GroupLine, sending, cipher_given, group_given, info_with, phase_given, setup_from}
use Rattle.scenario_history.specs.Source.{source_calls, start_given, with_source_call}

-- the group that the lines say, and what fixes its source
abbrev pub group_said : GroupLine
group_said = record { info = info_with 0 8 10000 100 100 2 1 3 2 1 600 1800 1; origin = 20000; delay = 40000 }

abbrev pub setup_said : Setup
setup_said = setup_from group_said 0 false

abbrev pub info_said : BigInfo
info_said = group_said.info

-- ---- what stands between the steps of two lines

pub record At (steps : List Step) (calls : List Call) : Type 0 where
  pub stage : stage_of steps ≡ running 1
  pub chosen : last_given chosen_given steps ≡ None
  pub own_stage : stage_of (steps_of_source 0 steps) ≡ running 1
  pub phase : last_given phase_given (steps_of_source 0 steps) ≡ Some sending
  pub cipher : last_given cipher_given (steps_of_source 0 steps) ≡ None
  pub group : last_given group_given (steps_of_source 0 steps) ≡ Some group_said
  pub start : last_given start_given (steps_of_source 0 steps) ≡ Some 0
  pub calls_are : source_calls (steps_of_source 0 steps) ≡ calls
  pub first_box : is_some (box_of 0 steps) ≡ true
  pub second_box : is_some (box_of 1 steps) ≡ true

-- a line of the source that says nothing of the scenario, of the group or of a box
pub record IsPlain (next : Step) : Type 0 where
  pub of_source : is_source_line next ≡ true
  pub own : is_common next ≡ false
  pub stage : (at : Stage) → stage_after next at ≡ at
  pub chosen : chosen_given next ≡ None
  pub phase : phase_given next ≡ None
  pub cipher : cipher_given next ≡ None
  pub group : group_given next ≡ None
  pub start : start_given next ≡ None
  pub box : (n : ℕ) → (earlier : List Step) → (box : Option ℕ) → box_after n next earlier box ≡ box

pub unit_plain : (bis : ℕ) (time : Option ℕ) (octets : List ℕ) → IsPlain (kinds.Unit bis time octets)
unit_plain bis time octets = grind arith

pub event_plain : IsPlain kinds.Event
event_plain = grind arith

pub air_plain : (sink lose : ℕ) → IsPlain (kinds.Air sink lose)
air_plain sink lose = grind arith

pub at_next : (steps : List Step) (calls : List Call) (next : Step) → At steps calls → IsPlain next → At (next ∷ steps) (with_source_call next calls)
at_next steps calls next a p = grind arith

module _ (boxes : ℕ) (steps : List Step) (calls : List Call) (a : At steps calls) where
  pub version_is : version_of steps ≡ 1
  version_is = ap version_at a.stage

  -- a unit of a stream on which fewer than 16 wait
  pub unit_fine : (bis : ℕ) (octets : List ℕ)
      → (option_map give_refusal (give_fault setup_said calls (airs_of setup_said calls) bis None octets) ≡ None)
      → refusal_of airs_of boxes steps (kinds.Unit bis None octets) ≡ None
  unit_fine bis octets none = simp (a.stage, a.chosen, a.phase, a.cipher, a.group, a.start, a.own_stage, a.calls_are, none)

  pub event_fine : counter_ends (event_fault setup_said calls) ≡ None → refusal_of airs_of boxes steps kinds.Event ≡ None
  event_fine none = simp (a.stage, a.chosen, a.phase, a.cipher, a.group, a.start, a.own_stage, a.calls_are, none)

  pub air_fine : (sink lose : ℕ) → is_some (box_of sink steps) ≡ true → nat_eq (events calls) 0 ≡ false
      → refusal_of airs_of boxes steps (kinds.Air sink lose) ≡ None
  air_fine sink lose lives some = simp (a.stage, a.chosen, a.phase, a.cipher, a.calls_are, lives, some)

  pub end_fine : refusal_of airs_of boxes steps kinds.End ≡ None
  end_fine = rw a.stage
