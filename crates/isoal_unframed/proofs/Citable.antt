-- What upper crates may cite: what a close owes is the units of the open event, what is accepted as events are laid, and facts of
-- lists made over a range or item by item.
pub use Rattle.isoal_unframed.proofs.Airs.{begun_within, lays_accepted}
pub use Rattle.isoal_unframed.proofs.Stands.{owed_is}
pub use Rattle.isoal_unframed.proofs.Struck.{get-range, all_zip_append}
