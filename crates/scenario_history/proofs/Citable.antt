-- What crates above may cite: what the boxes took of the units of a scenario, which boxes its sinks have, where the steps of a
-- source stand, what holds of a step that is refused by no reason, what an accepted line leaves to the lines behind it,
-- and a place of a list that was set.
pub use Rattle.scenario_history.proofs.BoxLaws.{get_set_here, get_set_other, took_all, valid_append}
pub use Rattle.scenario_history.proofs.Permitted.{Permitted, fails_not, maps_none, neither, permitted}
pub use Rattle.scenario_history.proofs.RunLaws.{accepted_accepted, end_accepted, out_accepted, reverse_onto}
pub use Rattle.scenario_history.proofs.Stages.{stage_same}
pub use Rattle.scenario_history.proofs.Sums.{box_was_made, boxes_stay, octets_add_up, units_add_up}
