-- What crates above may cite: what relayed units leave and hand up, that without a `relay` line nothing else happens, and how the units
-- of one sink are picked out of all.
pub use Rattle.scenario_laws.proofs.RelayedUnits.Routes.{SaidNever, plain_after, says_no_relay, none_relayed, nothing_else}
pub use Rattle.scenario_laws.proofs.RelayedUnits.Histories.{handed_happened, hands_alike, sinks_happened, stage_happened}
pub use Rattle.scenario_laws.proofs.RelayedUnits.Left.{left_by_relayed_units, left_by_offers}
pub use Rattle.scenario_laws.proofs.RelayedUnits.Offered.{flat_one, handed_append}
pub use Rattle.scenario_laws.proofs.RelayedUnits.One.{passes_both}
pub use Rattle.scenario_laws.proofs.RelayedUnits.Printed.{flat_same, flat_within, handed_flat, lines_map, other_in, own_handed}
