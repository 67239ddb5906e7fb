-- What the proofs of this crate use of `std` and of the crates below it, by one import.
pub use Rattle.std.proofs.Common.{◌≡◌, ℕ, ◌+◌, true, List, Option, Some, Ok, Err, refl, ap, subst, [], ◌∷◌, ◌++◌, None, sym, ◌∙◌, arith, map, replicate, inl, inr}
pub use Rattle.std.proofs.lemmas.List.{map-append, replicate_more}
pub use Rattle.std.specs.Io.KnownBytes.{Keeps}
pub use Rattle.bcast_io.specs.Writing.{AppendsPrefix, AppendsShort}
pub use Rattle.explained_rows.specs.Rows.{lines_at, told_at}
pub use Rattle.explain_command.specs.Told.{told_world, EndsSo, Told}
pub use Rattle.explain_command.specs.ToldIn.{ToldIn}
pub use Rattle.replay_lines.specs.Documents.{DocumentIs}
pub use Rattle.unit_outlets.specs.Account.{Account, fresh}
pub use Rattle.replay_lines.specs.Standing.{refused_for, stands_for, cause_line, lines_over, standing_by}
pub use Rattle.replay_lines.proofs.Citable.{ending_is, failed_toml, ran_toml, refused_toml, wanting_toml, document_told, prefix_read, read_at, whole_is}
pub use Rattle.explained_rows.proofs.Citable.{keeps_itself, keeps_then, prefix_none}
