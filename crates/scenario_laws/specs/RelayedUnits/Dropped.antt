-- Why source 1 doesn't take a unit that is offered to it (a unit is an SDU of Core 5.2, volume 6 part G, section 1), by the reasons
-- that relays have for themselves. Relays are this project's own. Lists of steps have the newest first.
use Rattle.std.specs.Prelude.{◌≡◌, Bool, true, false, List, [], ◌∷◌}
use Rattle.std.specs.Option.{option_map}
use Rattle.relay_role.specs.Relayed.{Second, drop_name, stopped, streaming}
use Rattle.relay_role.specs.declared.dropped.DropName.{DropName}
use Rattle.relay_role.specs.declared.dropped.DropName.TheVariants as drops
use Rattle.transcript_text.specs.declared.refusal.Refusal.{Refusal}
use Rattle.transcript_text.specs.declared.refusal.Refusal.TheVariants as refusals
use Rattle.scenario_text.specs.declared.step.Step.{Step}
use Rattle.scenario_history.specs.Source.{setup_of, source_calls, takes_units}
use Rattle.source_machine.specs.Airs.{Airs}
use Rattle.scenario_history.specs.Steps.{steps_of_source}
use Rattle.scenario_history.specs.RelayedUnits.{Offer, after_offer, dropped_for}

-- the refusal of a `unit` line for this reason: one that names no source that streams is Order
abbrev pub refusal_named : DropName → Refusal
refusal_named drops.NotStreaming = refusals.Order
refusal_named drops.UnitTooLong = refusals.UnitTooLong
refusal_named drops.TimeOrder = refusals.TimeOrder
refusal_named drops.Backlog = refusals.Backlog

abbrev pub second_at : Bool → List Step → Second
second_at true own = streaming (setup_of own) (source_calls own)
second_at false own = stopped

-- source 1 as relays see it: it has stopped, or it streams and took these calls
abbrev pub second_of : List Step → Second
second_of steps = second_at (takes_units (steps_of_source 1 steps)) (steps_of_source 1 steps)

-- Of these units, offered one behind the other, each is dropped exactly where one of four reasons holds as it is offered, and for the
-- first that holds: source 1 has stopped; the unit has more octets than Max_SDU of source 1; its time isn't above the last accepted
-- one of the stream; 16 units of the stream wait.
abbrev pub AreDroppedByName : Airs → List Offer → List Step → Type 0
AreDroppedByName airs [] steps = Unit {0}
AreDroppedByName airs (offer ∷ offers) steps =
    (dropped_for airs offer steps ≡ option_map refusal_named (drop_name airs offer.route.to offer.unit (second_of steps)))
    × AreDroppedByName airs offers (after_offer airs offer steps)
