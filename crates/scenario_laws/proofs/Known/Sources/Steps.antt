-- What is known of steps and lines, and of relayed units, by one import; and all of the prelude.
pub mod Prelude
unfoldable pub use Prelude.*
pub use Rattle.scenario_laws.proofs.Isolating.Said.{said_grows, said_of as source_said_of, said_stays, source_same, Said as SourceSaid, said_after as source_said_after}
pub use Rattle.scenario_laws.proofs.RelayedUnits.Routes.{nothing_else, Stands, offers_stand, route_had, had_happened, none_now, none_offered, no_offers, SaidNever, none_relayed, plain_after, says_no_relay}
pub use Rattle.scenario_laws.proofs.Moves.{Brings, PutBy, StaysBy, announced, given_stays, plain_stays, same_if, made_alike, given_is_injected}
pub use Rattle.scenario_laws.proofs.Isolating.Histories.{Alike, notices_same, waiting_same, alike_itself, ignores, reads_same, repeats, served_grow, told_grow}
pub use Rattle.scenario_laws.proofs.RelayedUnits.Left.{left_by_offers, left_by_relayed_units, all_pass, none_taken, passed_append, step_takes}
pub use Rattle.scenario_laws.proofs.RelayedUnits.Legal.{second_false, happens_legally, Runs, runs_at, runs_still, unless_legal}
pub use Rattle.scenario_laws.proofs.Isolating.Same.{Same, HistoriesAlike, chosen_alike, horizon_alike, source_alike}
pub use Rattle.scenario_laws.proofs.Places.{air_place, same_place, tick_if_place}
pub use Rattle.scenario_laws.proofs.RelayedUnits.One.{line_passes, is_free, gives_none, OneStands, contains_cases, first_free, one_stands, has_had}
pub use Rattle.scenario_laws.proofs.Versions.Trains.{within_near, ReadsNear, outcome_near, first_same, near_or_horizon, answer_near}
pub use Rattle.scenario_laws.proofs.Versions.Histories.{AreQuietCalls, drained_same, quiet_drained, quiet_served}
pub use Rattle.scenario_laws.proofs.Versions.Printed.{HearsNear, IsQuietHistory, made_with_horizon, printed_same, brings_same, its_snapshot, refused_same}
pub use Rattle.scenario_laws.proofs.HearingMore.{filter_append, opened_same, framed_hearing, unframed_hearing}
pub use Rattle.scenario_laws.proofs.Isolating.Moves.{cond_same, Sourced, history_grows, sourced_same}
pub use Rattle.scenario_laws.proofs.Relaying.Numbered.{Numbered, at_map, in_relay_order, zip_map, numbered_slots, numbered_units}
pub use Rattle.scenario_laws.proofs.RelayedUnits.Histories.{history_happened, made_happened, stage_happened, chosen_happened}
pub use Rattle.scenario_laws.proofs.Isolating.Sums.{kept_took, left_took}
pub use Rattle.scenario_laws.proofs.StartGroups.{may_be_sent}
