-- What crates above this one cite.
pub use Rattle.replay_generated.proofs.Short.{none_written}
