-- What became of the sources of a scenario, which is this project's own, at a step, and what they answer.
use Rattle.std.specs.Prelude.{ℕ, ◌≡◌, ◌≢◌, ◌<◌, ◌∷◌, not, true, false, List, map, Option, None, Some, Result, Ok, Err}
use Rattle.std.specs.List.{range_with_len}
use Rattle.std.specs.Option.{option_or}
use Rattle.announcement_train.specs.declared.train.Train.{Train}
use Rattle.big_info.specs.declared.group.Group.{Group}
use Rattle.source_machine.specs.Airs.{airs_of}
use Rattle.source_machine.specs.Faults.{announce_fault}
use Rattle.transcript_text.specs.declared.refusal.Refusal.TheVariants.{Order}
use Rattle.transcript_text.specs.declared.stop.Stop.{Stop}
use Rattle.transcript_text.specs.declared.stop.Stop.TheVariants.{Refused, OutletFault, Memory}
use Rattle.scenario_text.specs.declared.step.Step.{Step}
use Rattle.scenario_text.specs.declared.step.Step.TheVariants.{Event, Terminate}
use Rattle.scenario_history.specs.Steps.{chosen_steps, is_over}
use Rattle.scenario_history.specs.Source.{end_pdu, event_back, is_heard, is_sending, open_event, pdu_in, performed, setup_of, source_calls, stale_in, takes_units}
use Rattle.scenario_history.specs.Refusals.{no_place, train_ends}
use Rattle.sink_history.specs.Refusals.{refuse_if}
use Rattle.scenario_history.specs.Worlds.{announced_of, big_sync_on}
use Rattle.scenario_sources.specs.declared.performed.Performed.{Performed}
use Rattle.sync_reference.specs.BigSync.{BigSync}
use Rattle.scenario_sources.specs.declared.terminated.Terminated.{Terminated}
use Rattle.scenario_sources.specs.declared.sources.Sources.{Sources}
use Rattle.scenario_sources.specs.Faults.{fault_of}
use Rattle.scenario_sources.specs.State.Standing.{SourcesStand}

-- in a scenario of this version; after a refusal they are as before
abbrev pub Answers : ℕ → List Step → Step → Sources → Result (Unit {0}) Stop → Type 0
Answers version steps made new (Ok _) = (fault_of version steps made ≡ None) × SourcesStand (made ∷ steps) new
Answers version steps made new (Err (Refused reason)) = (fault_of version steps made ≡ Some reason) × SourcesStand steps new
Answers version steps made new (Err OutletFault) = ⊥
Answers version steps made new (Err Memory) = Unit {0}

-- the same of a step that closes the open event of its source, and answers it
abbrev pub Closes : ℕ → List Step → Step → Sources → Result (Option ℕ) Stop → Type 0
Closes version steps made new (Ok closed) =
    (fault_of version steps made ≡ None) × SourcesStand (made ∷ steps) new
    × (is_over (chosen_steps steps) ≡ false → closed ≡ open_event (chosen_steps steps))
Closes version steps made new (Err (Refused reason)) = (fault_of version steps made ≡ Some reason) × SourcesStand steps new
Closes version steps made new (Err OutletFault) = ⊥
Closes version steps made new (Err Memory) = Unit {0}

-- the same of `event`, which also tells the units that were left out
abbrev pub Performs : ℕ → List Step → Sources → Result Performed Stop → Type 0
Performs version steps new (Ok performed) =
    (fault_of version steps Event ≡ None) × SourcesStand (Event ∷ steps) new
    × (is_over (chosen_steps steps) ≡ false → performed.closed ≡ open_event (chosen_steps steps))
    × (performed.stale ≡ stale_in airs_of (chosen_steps steps))
Performs version steps new (Err (Refused reason)) = (fault_of version steps Event ≡ Some reason) × SourcesStand steps new
Performs version steps new (Err OutletFault) = ⊥
Performs version steps new (Err Memory) = Unit {0}

-- the same of `terminate`, which also tells the PDU that ends the group
abbrev pub Terminates : ℕ → List Step → ℕ → Sources → Result Terminated Stop → Type 0
Terminates version steps reason new (Ok ended) =
    (fault_of version steps (Terminate reason) ≡ None) × SourcesStand (Terminate reason ∷ steps) new
    × (is_over (chosen_steps steps) ≡ false → ended.closed ≡ open_event (chosen_steps steps))
    × (ended.pdu ≡ end_pdu (chosen_steps steps) reason)
Terminates version steps reason new (Err (Refused cause)) = (fault_of version steps (Terminate reason) ≡ Some cause) × SourcesStand steps new
Terminates version steps reason new (Err OutletFault) = ⊥
Terminates version steps reason new (Err Memory) = Unit {0}

-- the train of a source for its next event, or why there is none; these are its steps
abbrev pub AnnouncesAs : List Step → Result Train Stop → Type 0
AnnouncesAs own (Ok train) =
    (is_sending own ≡ true) × (announce_fault (setup_of own) (source_calls own) ≡ None) × (train ≡ announced_of own)
AnnouncesAs own (Err (Refused reason)) =
    option_or (refuse_if (not (is_sending own)) Order) (train_ends (announce_fault (setup_of own) (source_calls own))) ≡ Some reason
AnnouncesAs own (Err OutletFault) = ⊥
AnnouncesAs own (Err Memory) = Unit {0}

-- how a source puts a sink on these streams of its group, where it takes units; these are its steps
abbrev pub JoinsAs : List Step → ℕ → Option BigSync → Type 0
JoinsAs own which None = takes_units own ≡ false
JoinsAs own which (Some big_sync) = (takes_units own ≡ true) × (big_sync ≡ big_sync_on own which)

-- the group of a source that takes units
abbrev pub TakesAs : List Step → Option Group → Type 0
TakesAs own None = takes_units own ≡ false
TakesAs own (Some group) = (takes_units own ≡ true) × (group.info ≡ (setup_of own).info)

-- the group of a source that may be heard
abbrev pub GroupIs : List Step → Option Group → Type 0
GroupIs own None = is_heard own ≡ false
GroupIs own (Some group) = (is_heard own ≡ true) × (group.info ≡ (setup_of own).info)

-- the last event of a source that was started
abbrev pub LastIs : List Step → Option ℕ → Type 0
LastIs own None = performed own ≡ 0
LastIs own (Some event) = (0 < performed own) × (event ≡ event_back own 0)

-- the PDUs that a stream of a source that was started sent in the last event, by rising subevent
abbrev pub SentIs : List Step → (bis : ℕ) → Option (List (List ℕ)) → Type 0
SentIs own bis None = (subevent : ℕ) → no_place own 0 bis subevent ≢ None
SentIs own bis (Some sent) =
    ((subevent : ℕ) → subevent < (setup_of own).info.nse → no_place own 0 bis subevent ≡ None)
    × (sent ≡ map (pdu_in airs_of own (event_back own 0) bis) (range_with_len 0 (setup_of own).info.nse))

-- a place on the air is none
abbrev pub NoPlace : List Step → (back bis subevent : ℕ) → Stop → Type 0
NoPlace own back bis subevent (Refused reason) = no_place own back bis subevent ≡ Some reason
NoPlace own back bis subevent OutletFault = ⊥
NoPlace own back bis subevent Memory = ⊥
