-- What the steps of a scenario say of its version, of its sinks and of the source that each step means. Lists of steps have
-- the newest first. The scenario language is this project's own.
use Rattle.std.specs.Prelude.{ℕ, ◌+◌, ◌-◌, ◌==◌, ◌&&◌, ◌||◌, Bool, true, false, List, [], ◌∷◌, Option, None, Some, unwrap_or, if◌then◌else◌}
use Rattle.std.specs.Option.{option_or}
use Rattle.scenario_text.specs.declared.step.Step.{Step}
use Rattle.scenario_text.specs.declared.step.Step.TheVariants.{Scenario, Group, Ident, Subgroup, Meta, Bis, Cipher, Start, Sink, Tuned, Unit, Event, Hear, Air}
use Rattle.scenario_text.specs.declared.step.Step.TheVariants.{Inject, Sniff, Announce, Train, Source, Stop, Terminate, End}

abbrev pub last_given : {A : Type 0} → (Step → Option A) → List Step → Option A
last_given gives [] = None
last_given gives (step ∷ earlier) = option_or (gives step) (last_given gives earlier)

-- ---- the scenario

-- where a scenario stands: before its first step, under way in a version, or behind `end`
pub data Stage : Type 0 where
  unbegun : Stage
  running : (version : ℕ) → Stage
  over : (version : ℕ) → Stage

abbrev pub version_at : Stage → ℕ
version_at unbegun = 1
version_at (running version) = version
version_at (over version) = version

abbrev pub stage_after : Step → Stage → Stage
stage_after (Scenario version) stage = running version
stage_after End stage = over (version_at stage)
stage_after _ stage = stage

abbrev pub stage_of : List Step → Stage
stage_of [] = unbegun
stage_of (step ∷ earlier) = stage_after step (stage_of earlier)

abbrev pub version_of : List Step → ℕ
version_of steps = version_at (stage_of steps)

abbrev pub is_unbegun_at : Stage → Bool
is_unbegun_at unbegun = true
is_unbegun_at _ = false

-- no `scenario` step was made
abbrev pub is_unbegun : List Step → Bool
is_unbegun steps = is_unbegun_at (stage_of steps)

abbrev pub is_over_at : Stage → Bool
is_over_at (over version) = true
is_over_at _ = false

abbrev pub is_over : List Step → Bool
is_over steps = is_over_at (stage_of steps)

-- ---- the sources, 0 and 1

abbrev pub chosen_given : Step → Option ℕ
chosen_given (Source source) = Some source
chosen_given _ = None

-- the source that a source line means after these steps
abbrev pub chosen_of : List Step → ℕ
chosen_of steps = unwrap_or (last_given chosen_given steps) 0

abbrev pub other_of : ℕ → ℕ
other_of s = 1 - s

-- the step is one of the whole scenario
abbrev pub is_common : Step → Bool
is_common (Scenario version) = true
is_common End = true
is_common _ = false

-- the step is a source line: it means the chosen source
abbrev pub is_source_line : Step → Bool
is_source_line (Group framing origin delay iso sdu max_sdu max_pdu num_bis bn nse irc pto sub spacing phy) = true
is_source_line (Ident address_type address sid broadcast_id) = true
is_source_line (Subgroup codec config) = true
is_source_line (Meta metadata) = true
is_source_line (Bis bis config) = true
is_source_line (Cipher giv gskd) = true
is_source_line (Start first) = true
is_source_line (Tuned sink which) = true
is_source_line (Unit bis time octets) = true
is_source_line Event = true
is_source_line (Hear sink back bis subevent) = true
is_source_line (Air sink lose) = true
is_source_line (Inject sink back bis subevent octets) = true
is_source_line (Sniff back bis subevent) = true
is_source_line (Announce sink) = true
is_source_line (Train sink time ext adv acad) = true
is_source_line Stop = true
is_source_line (Terminate reason) = true
is_source_line _ = false

abbrev pub is_of_source : ℕ → List Step → Step → Bool
is_of_source s earlier step = is_common step || (is_source_line step && (chosen_of earlier == s))

-- the steps that say something of a source: all that is said of a source is taken of these
abbrev pub steps_of_source : ℕ → List Step → List Step
steps_of_source s [] = []
steps_of_source s (step ∷ earlier) = if is_of_source s earlier step then step ∷ steps_of_source s earlier else steps_of_source s earlier

abbrev pub chosen_steps : List Step → List Step
chosen_steps steps = steps_of_source (chosen_of steps) steps

-- ---- the sinks

abbrev pub sinks_made_by : Step → ℕ → ℕ
sinks_made_by (Sink sink streams slots mtu) count = count + 1
sinks_made_by _ count = count

-- how many sinks were made, each with the next box
abbrev pub sinks_made : List Step → ℕ
sinks_made [] = 0
sinks_made (step ∷ earlier) = sinks_made_by step (sinks_made earlier)
