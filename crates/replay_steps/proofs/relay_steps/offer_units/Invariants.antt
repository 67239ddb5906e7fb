use Rattle.replay_steps.proofs.Prelude.{◌≡◌, List, map, take, Some, Ok, Step, offered_of, Route, RelaysStand, handed_of, SourcesStand, lent, relay_histories, OffersMeet}
use Rattle.replay_steps.proofs.relay_steps.offer_units.Given as goal

abbrev pub invariant-units : goal.invariant-units
invariant-units l = record {
  offered : (steps : List Step) (own : Route) → l.route ≡ lent own → SourcesStand steps l.initial.sources → RelaysStand (relay_histories steps) l.initial.relays
      → OffersMeet steps (offered_of l.sink (Some own) (map handed_of (take l.unit-index l.units))) l.sources l.relays l.initial.text l.text (Ok tt);
}
