-- What crates above may cite: what is promised of a document that was read, or was not.
pub use Rattle.replay_lines.proofs.DocumentPromises.{read_at}
pub use Rattle.replay_lines.proofs.Reading.{document_told, prefix_read, whole_is}
pub use Rattle.replay_lines.proofs.Running.{ending_is, ran_toml}
pub use Rattle.replay_lines.proofs.Unread.{failed_toml, wanting_toml, refused_toml}
