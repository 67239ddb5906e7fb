-- Why a step is refused by the source that it means. The refusals are those of the scenario language, which is this
-- project's own.
use Rattle.std.specs.Prelude.{ℕ, List, Option, Some}
use Rattle.std.specs.Option.{option_or}
use Rattle.source_machine.specs.Airs.{airs_of}
use Rattle.source_machine.specs.declared.fault.GiveFault.{GiveFault}
use Rattle.source_machine.specs.declared.fault.GiveFault.TheVariants as gives
use Rattle.transcript_text.specs.declared.refusal.Refusal.{Refusal}
use Rattle.transcript_text.specs.declared.refusal.Refusal.TheVariants.{NoSuchBis, Order, Relayed, TimeOrder, UnitTooLong}
use Rattle.scenario_text.specs.declared.step.Step.{Step}
use Rattle.scenario_history.specs.Steps.{chosen_steps}
use Rattle.scenario_history.specs.Refusals.{is_out_of_phase, source_refusal, twin_refusal}
use Rattle.sink_history.specs.Refusals.{refuse_if}

-- why a step is refused by the source that it means, whose steps these are, in a scenario of this version
abbrev pub fault_in : ℕ → List Step → Step → Option Refusal
fault_in version own made =
    option_or (refuse_if (is_out_of_phase own made) Order) (source_refusal airs_of version own made)

-- and by what both sources are
abbrev pub fault_of : ℕ → List Step → Step → Option Refusal
fault_of version steps made = option_or (fault_in version (chosen_steps steps) made) (twin_refusal steps made)

-- what a unit of a stream that has had a relay is refused for, by why it doesn't fit its source, where it doesn't
abbrev pub misfit_refusal_of : Option GiveFault → Refusal
misfit_refusal_of (Some gives.NoSuchBis) = NoSuchBis
misfit_refusal_of (Some gives.UnitTooLong) = UnitTooLong
misfit_refusal_of (Some gives.TimeOrder) = TimeOrder
misfit_refusal_of _ = Relayed
