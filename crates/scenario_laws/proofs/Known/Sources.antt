-- What is known of sources, by one import; and all that is known of steps.
pub mod Steps
unfoldable pub use Steps.*
pub use Rattle.scenario_laws.proofs.Wholes.{Lawful, Settled, bounds_in, lawful, sends, settled, true_not_false, group_in, are_accepted, checked, takes, hears, no_end, next_in, next_rises, events_more, Within, within_itself, Extends, within_before, goes}
pub use Rattle.scenario_laws.proofs.Legals.{Legal, LinesInRange, legal, said_legally, end_ticks, event_ticks, is_its, chosen_within}
pub use Rattle.scenario_laws.proofs.Versions.Seconds.{sink_horizon, at_second, same, second, seconds, sink_grows, has_relay_same, stale_same, chosen_same, over_same, IsLater, relays_same, ahead_stays, calls_same, horizon_grows, is_later, unbegun_same, airs_same, is_ahead, setup_same, with_ahead}
pub use Rattle.scenario_laws.proofs.Closings.{handed_open, shown_by, shown_if, step_shown, shown_with}
pub use Rattle.scenario_laws.proofs.FramedCalls.{events_in, laid_some, unit_short, laid_by, all_append, one_of}
pub use Rattle.scenario_laws.proofs.Isolating.Units.{both_alike, closing_alike, units_append, closing_none}
pub use Rattle.scenario_laws.proofs.RelayedUnits.Printed.{flat_same, plain_close, plain_end}
pub use Rattle.scenario_laws.proofs.Announcers.{may_announce, tellable}
pub use Rattle.scenario_laws.proofs.Moments.{moment_law_holds}
pub use Rattle.scenario_laws.proofs.Linked.{links_agree, apart_agree}
pub use Rattle.scenario_laws.proofs.RelayedUnits.Offered.{handed_append}
