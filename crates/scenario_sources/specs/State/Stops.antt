-- What the refusals of a source mean to a scenario, whose language is this project's own.
use Rattle.std.specs.Prelude.{ℕ, ◌≡◌, ◌∷◌, List, Option, None, Some, Result, Ok, Err}
use Rattle.std.specs.Option.{option_map}
use Rattle.base_grammar.specs.Draft.{finish_fault}
use Rattle.base_grammar.specs.Layout.{Endpoint}
use Rattle.base_grammar.specs.declared.fault.DraftFault.{DraftFault}
use Rattle.source_machine.specs.declared.fault.GiveFault.{GiveFault}
use Rattle.source_machine.specs.Airs.{airs_of}
use Rattle.source_machine.specs.Calls.{Call, give}
use Rattle.source_machine.specs.Faults.{give_fault, refused_unit}
use Rattle.source_machine.specs.State.Sources.{Source, StandsFor}
use Rattle.source_machine.specs.declared.fault.ConfigureFault.{ConfigureFault}
use Rattle.source_machine.specs.declared.fault.ConfigureFault.TheVariants.{BadGroup, Memory as NoMemory}
use Rattle.transcript_text.specs.declared.refusal.Refusal.TheVariants.{BadGroup as BadGroupHere}
use Rattle.transcript_text.specs.declared.stop.Stop.{Stop}
use Rattle.transcript_text.specs.declared.stop.Stop.TheVariants.{Refused, OutletFault, Memory}
use Rattle.scenario_history.specs.Refusals.{give_refusal}
use Rattle.scenario_sources.specs.Bases.{stop_of}

-- a refused unit is a refused step, and want of memory stays so
abbrev pub GiveStops : GiveFault → Stop → Type 0
GiveStops fault (Refused reason) = option_map give_refusal (refused_unit fault) ≡ Some reason
GiveStops fault OutletFault = ⊥
GiveStops fault Memory = Unit {0}

-- a refused group is a refused step, and want of memory stays so
abbrev pub StartStops : ConfigureFault → Stop → Type 0
StartStops (BadGroup fault) (Refused reason) = BadGroupHere fault ≡ reason
StartStops fault (Refused reason) = ⊥
StartStops fault OutletFault = ⊥
StartStops (BadGroup fault) Memory = ⊥
StartStops NoMemory Memory = Unit {0}

-- what became of a source that was given a unit
abbrev pub GivesTo : Source → ℕ → Option ℕ → List ℕ → Source → Result (Unit {0}) Stop → Type 0
GivesTo old bis time octets new (Ok _) =
    (new.setup ≡ old.setup) × ((calls : List Call) → StandsFor calls old
    → (give_fault old.setup calls (airs_of old.setup calls) bis time octets ≡ None) × StandsFor (give bis time octets ∷ calls) new)
GivesTo old bis time octets new (Err (Refused reason)) =
    (new ≡ old) × ((calls : List Call) → StandsFor calls old
    → option_map give_refusal (give_fault old.setup calls (airs_of old.setup calls) bis time octets) ≡ Some reason)
GivesTo old bis time octets new (Err OutletFault) = ⊥
GivesTo old bis time octets new (Err Memory) = Unit {0}

-- a BASE is made of what the lines said, or is the one that no line said where it is given
abbrev pub Finishes : Endpoint → Option Endpoint → Endpoint → Type 0
Finishes said None base = (base ≡ said) × (finish_fault said ≡ None)
Finishes said (Some plain) base = base ≡ plain

abbrev pub FinishStops : Endpoint → Option Endpoint → Stop → Type 0
FinishStops said None stop = (fault : DraftFault) × (finish_fault said ≡ Some fault) × (stop ≡ stop_of fault)
FinishStops said (Some plain) stop = ⊥
