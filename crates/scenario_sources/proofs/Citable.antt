-- What upper crates may cite: a step that says nothing of the sources leaves them.
use Rattle.std.proofs.Common.{◌≡◌, ℕ, Bool, true, false, List, ◌∷◌, if◌then◌else◌, refl, sym, ◌∙◌, slice_get, Option, None, Some, arith}
use Rattle.source_machine.specs.State.Sources.{Source}
use Rattle.scenario_text.specs.declared.step.Step.{Step}
use Rattle.scenario_text.specs.declared.step.Step.TheVariants as steps
use Rattle.scenario_text.specs.declared.step.Step.TheVariants.{Scenario, Sink, Tuned, Hear, Air, Inject, Sniff, Drop, End}
use Rattle.scenario_history.specs.Steps.{chosen_given, is_of_source, is_unbegun, stage_of, steps_of_source, unbegun}
use Rattle.scenario_history.specs.Bases.{base_lines, base_of}
use Rattle.scenario_history.specs.Source.{cipher_of, group_of, ident_of, phase_of, setup_of, source_calls}
use Rattle.std.proofs.lemmas.Bool.{false≢true}
use Rattle.std.proofs.lemmas.Option.{none-some}
use Rattle.sink_history.specs.History.{named_by}
use Rattle.scenario_history.proofs.Citable.{stage_same}
use Rattle.scenario_sources.specs.declared.phase.Phase.{Phase}
use Rattle.scenario_sources.specs.declared.phase.Phase.TheVariants as phases
use Rattle.scenario_sources.specs.declared.sources.Sources.{Sources}
use Rattle.scenario_sources.specs.State.Phases.{PhaseAt, PhaseIs, StartedIs}
use Rattle.scenario_sources.specs.State.Standing.{SourcesStand}

-- the step says nothing of a source
pub record SaysNothing (made : Step) : Type 0 where
  pub chosen : chosen_given made ≡ None
  pub phase : (own : List Step) → phase_of (made ∷ own) ≡ phase_of own
  pub group : (own : List Step) → group_of (made ∷ own) ≡ group_of own
  pub ident : (own : List Step) → ident_of (made ∷ own) ≡ ident_of own
  pub cipher : (own : List Step) → cipher_of (made ∷ own) ≡ cipher_of own
  pub lines : (own : List Step) → base_lines (made ∷ own) ≡ base_lines own
  pub setup : (own : List Step) → is_unbegun own ≡ false → setup_of (made ∷ own) ≡ setup_of own
  pub under_way : (own : List Step) → is_unbegun own ≡ false → is_unbegun (made ∷ own) ≡ false
  pub calls : (own : List Step) → source_calls (made ∷ own) ≡ source_calls own

-- so its BASE stays
base_stays : (made : Step) (own : List Step) → SaysNothing made → base_of (made ∷ own) ≡ base_of own
base_stays made own nothing = rw (nothing.group own, nothing.lines own)

started_stays : (made : Step) (own : List Step) (started : Source) → SaysNothing made → StartedIs own started → StartedIs (made ∷ own) started
started_stays made own started nothing is = grind (arith, base_stays, nothing.ident own, nothing.setup own is.under_way, nothing.calls own)

phase_stays : (made : Step) (own : List Step) (phase : Phase) → SaysNothing made → PhaseIs own phase → PhaseIs (made ∷ own) phase
phase_stays made own phases.Absent nothing is = grind arith
phase_stays made own (phases.Described said) nothing is = grind arith
phase_stays made own (phases.Sending started) nothing is = (nothing.phase own ∙ is.0, started_stays made own started nothing is.1)
phase_stays made own (phases.Stopped started) nothing is = (nothing.phase own ∙ is.0, started_stays made own started nothing is.1)

at_stays : (b : Bool) (made : Step) (own : List Step) (o : Option Phase) → SaysNothing made → PhaseAt own o → PhaseAt (if b then made ∷ own else own) o
at_stays true made own None nothing is = is
at_stays true made own (Some phase) nothing is = phase_stays made own phase nothing is
at_stays false made own o nothing is = is

-- the sources are left as they are
pub sources_stay : (made : Step) (steps : List Step) (sources : Sources) → SaysNothing made → SourcesStand steps sources → SourcesStand (made ∷ steps) sources
sources_stay made steps sources nothing stands = record {
  chosen = stands.chosen ∙ sym (rw nothing.chosen refl);
  phases = λ s below. at_stays (is_of_source s steps made) made (steps_of_source s steps) (slice_get sources.phases.items s) nothing (stands.phases s below);
}

-- the first step of a scenario comes before any start, and leaves the sources as they are
phase_begins : (version : ℕ) (own : List Step) (phase : Phase) → stage_of own ≡ unbegun → PhaseIs own phase → PhaseIs (Scenario version ∷ own) phase
phase_begins version own phases.Absent stage is = grind arith
phase_begins version own phase stage is = grind (arith, false≢true)

at_begins : (version : ℕ) (own : List Step) (o : Option Phase) → stage_of own ≡ unbegun → PhaseAt own o → PhaseAt (Scenario version ∷ own) o
at_begins version own None stage is = is
at_begins version own (Some phase) stage is = phase_begins version own phase stage is

pub scenario_begins : (version : ℕ) (steps : List Step) (sources : Sources) → stage_of steps ≡ unbegun → SourcesStand steps sources → SourcesStand (Scenario version ∷ steps) sources
scenario_begins version steps sources stage stands = record {
  chosen = stands.chosen;
  phases = λ s below. at_begins version (steps_of_source s steps) (slice_get sources.phases.items s) (stage_same s steps ∙ stage) (stands.phases s below);
}

pub sink_says : (sink streams slots : ℕ) (mtu : Option ℕ) → SaysNothing (Sink sink streams slots mtu)
sink_says sink streams slots mtu = grind arith

-- a line that names a sink which lives says nothing of a source
pub named_says : (n : ℕ) (made : Step) → named_by made ≡ Some n → SaysNothing made
named_says n (steps.Scenario version) e = absurd (none-some n e)
named_says n made e = grind (arith, none-some)

pub drop_says : (sink : ℕ) → SaysNothing (Drop sink)
drop_says sink = named_says sink (Drop sink) refl

pub tuned_says : (sink which : ℕ) → SaysNothing (Tuned sink which)
tuned_says sink which = named_says sink (Tuned sink which) refl

pub hear_says : (sink back bis subevent : ℕ) → SaysNothing (Hear sink back bis subevent)
hear_says sink back bis subevent = named_says sink (Hear sink back bis subevent) refl

pub air_says : (sink lose : ℕ) → SaysNothing (Air sink lose)
air_says sink lose = named_says sink (Air sink lose) refl

pub inject_says : (sink back bis subevent : ℕ) (octets : List ℕ) → SaysNothing (Inject sink back bis subevent octets)
inject_says sink back bis subevent octets = named_says sink (Inject sink back bis subevent octets) refl

pub sniff_says : (back bis subevent : ℕ) → SaysNothing (Sniff back bis subevent)
sniff_says back bis subevent = grind arith

pub end_says : SaysNothing End
end_says = grind arith
