-- Where a source stands, and the steps of this source that it stands for, the newest first.
use Rattle.std.specs.Prelude.{ℕ, ◌≡◌, ◌∷◌, Bool, true, false, List, [], Option, None, Some, Result, Ok, Err}
use Rattle.base_grammar.specs.Layout.{Endpoint, endpoint}
use Rattle.source_machine.specs.Airs.{airs_of}
use Rattle.source_machine.specs.Ciphers.{without_cipher}
use Rattle.source_machine.specs.State.Sources.{Source, StandsFor}
use Rattle.transcript_text.specs.declared.stop.Stop.{Stop}
use Rattle.transcript_text.specs.declared.stop.Stop.TheVariants.{Refused, OutletFault, Memory}
use Rattle.scenario_text.specs.declared.step.Step.{Step}
use Rattle.scenario_text.specs.declared.step.Step.TheVariants.{Event, Start, Terminate}
use Rattle.scenario_history.specs.Steps.{is_over, is_unbegun}
use Rattle.scenario_history.specs.Source.{GroupLine, absent, described, sending, stopped, cipher_of, end_pdu, group_of, ident_of, identity_of, open_event, phase_of, setup_of, source_calls, stale_in}
use Rattle.scenario_history.specs.Bases.{base_lines, base_of, has_subgroup, subgroups_of}
use Rattle.scenario_sources.specs.declared.performed.Performed.{Performed}
use Rattle.scenario_sources.specs.declared.starting.Ready.{Ready}
use Rattle.scenario_sources.specs.declared.terminated.Terminated.{Terminated}
use Rattle.scenario_sources.specs.declared.phase.Described.{Described}
use Rattle.scenario_sources.specs.declared.phase.Phase.{Phase}
use Rattle.scenario_sources.specs.declared.phase.Phase.TheVariants as phases
use Rattle.scenario_sources.specs.Faults.{fault_in}

abbrev pub line_of : Described → GroupLine
line_of said = record { info = without_cipher said.info; origin = said.origin; delay = said.delay }

-- a source that was started is as its steps leave it
pub record StartedIs (own : List Step) (started : Source) : Type 0 where
  pub identity : started.identity ≡ identity_of own
  pub setup : started.setup ≡ setup_of own
  pub under_way : is_unbegun own ≡ false
  pub base : started.base ≡ base_of own
  pub cipher : started.cipher ≡ cipher_of own
  pub calls : StandsFor (source_calls own) started

-- a source that was not is described by its steps
pub record DescribedIs (own : List Step) (said : Described) : Type 0 where
  pub group : group_of own ≡ Some (line_of said)
  pub ident : said.identity ≡ ident_of own
  pub cipher : said.info.cipher ≡ cipher_of own
  pub base : said.base ≡ endpoint said.delay (subgroups_of own)
  pub calls : source_calls own ≡ []

pub record AbsentIs (own : List Step) : Type 0 where
  pub ident : ident_of own ≡ None
  pub cipher : cipher_of own ≡ None
  pub lines : base_lines own ≡ []
  pub calls : source_calls own ≡ []

abbrev pub PhaseIs : List Step → Phase → Type 0
PhaseIs own phases.Absent = (phase_of own ≡ absent) × AbsentIs own
PhaseIs own (phases.Described said) = (phase_of own ≡ described) × DescribedIs own said
PhaseIs own (phases.Sending started) = (phase_of own ≡ sending) × StartedIs own started
PhaseIs own (phases.Stopped started) = (phase_of own ≡ stopped) × StartedIs own started

-- it has a group, and was never started
abbrev pub is_described : Phase → Bool
is_described (phases.Described said) = true
is_described _ = false

-- what became of a source at a step that means it, in a scenario of this version
abbrev pub Becomes : ℕ → List Step → Step → Phase → Result (Unit {0}) Stop → Type 0
Becomes version own made new (Ok _) = (fault_in version own made ≡ None) × PhaseIs (made ∷ own) new
Becomes version own made new (Err (Refused reason)) = (fault_in version own made ≡ Some reason) × PhaseIs own new
Becomes version own made new (Err OutletFault) = ⊥
Becomes version own made new (Err Memory) = Unit {0}

-- the same of a step that closes its open event
abbrev pub Closes : ℕ → List Step → Step → Phase → Result (Option ℕ) Stop → Type 0
Closes version own made new (Ok closed) =
    (fault_in version own made ≡ None) × PhaseIs (made ∷ own) new × (is_over own ≡ false → closed ≡ open_event own)
Closes version own made new (Err (Refused reason)) = (fault_in version own made ≡ Some reason) × PhaseIs own new
Closes version own made new (Err OutletFault) = ⊥
Closes version own made new (Err Memory) = Unit {0}

-- the same of `terminate`, which also tells the PDU that ends the group
abbrev pub Terminates : ℕ → List Step → ℕ → Phase → Result Terminated Stop → Type 0
Terminates version own reason new (Ok ended) =
    (fault_in version own (Terminate reason) ≡ None) × PhaseIs (Terminate reason ∷ own) new × (is_over own ≡ false → ended.closed ≡ open_event own)
    × (ended.pdu ≡ end_pdu own reason)
Terminates version own reason new (Err (Refused cause)) = (fault_in version own (Terminate reason) ≡ Some cause) × PhaseIs own new
Terminates version own reason new (Err OutletFault) = ⊥
Terminates version own reason new (Err Memory) = Unit {0}

-- the same of `event`, which also tells the units that were left out
abbrev pub Performs : ℕ → List Step → Phase → Result Performed Stop → Type 0
Performs version own new (Ok performed) =
    (fault_in version own Event ≡ None) × PhaseIs (Event ∷ own) new × (is_over own ≡ false → performed.closed ≡ open_event own)
    × (performed.stale ≡ stale_in airs_of own)
Performs version own new (Err (Refused reason)) = (fault_in version own Event ≡ Some reason) × PhaseIs own new
Performs version own new (Err OutletFault) = ⊥
Performs version own new (Err Memory) = Unit {0}

-- the BASE where no line said one
abbrev pub PlainIs : List Step → Option Endpoint → Type 0
PlainIs own None = has_subgroup own ≡ true
PlainIs own (Some base) = base ≡ base_of own

-- it may be started with this BASE or with the one that its lines said, as far as it is not for its identity
abbrev pub MayStart : ℕ → ℕ → List Step → Option Endpoint → Type 0
MayStart version first own plain = (fault_in version own (Start first) ≡ None) × PlainIs own plain

abbrev pub IsReady : ℕ → ℕ → List Step → Result Ready Stop → Type 0
IsReady version first own (Ok ready) = MayStart version first own ready.plain × (ready.identity ≡ identity_of own)
IsReady version first own (Err (Refused reason)) = fault_in version own (Start first) ≡ Some reason
IsReady version first own (Err OutletFault) = ⊥
IsReady version first own (Err Memory) = Unit {0}

-- it is started
abbrev pub Begins : ℕ → List Step → Result Source Stop → Type 0
Begins first own (Ok started) = StartedIs (Start first ∷ own) started
Begins first own (Err (Refused reason)) = ⊥
Begins first own (Err OutletFault) = ⊥
Begins first own (Err Memory) = Unit {0}

-- the place of a source in a list
abbrev pub PhaseAt : List Step → Option Phase → Type 0
PhaseAt own None = ⊥
PhaseAt own (Some phase) = PhaseIs own phase
