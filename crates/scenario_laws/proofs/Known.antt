-- What is known of sinks and their stays, by one import; and all that is known of sources.
pub mod Sources
unfoldable pub use Sources.*
pub use Rattle.scenario_laws.proofs.Stays.{IsOn, begins_next, last_not, on_before, rest_not, OnSource, TunedTo, on_source, none_given, on_since_made, BeginsBy, not_in_stay, begins_to, IsThere, first_next}
pub use Rattle.scenario_laws.proofs.Closes.{stay_within, Climb, climb_on, made_nothing, mine_in, stay_if, climbs, event_of, prefix, prefix_of, its_prefix, open_before, stay_prefix, climb_from, closes_rise, climb_up}
pub use Rattle.scenario_laws.proofs.Announced.{Announcing}
pub use Rattle.scenario_laws.proofs.Below.{Below}
pub use Rattle.scenario_laws.proofs.Hears.{WholeSends, its_airs, all_own, Own, SendsOwn}
pub use Rattle.scenario_laws.proofs.Shown.{shown_on, on_whole, tick_hands, tick_others, step_zip, slot_time_is, slots_are_shown, render_same}
pub use Rattle.scenario_laws.proofs.Becoming.{becomes, puts_first, PutsBy}
