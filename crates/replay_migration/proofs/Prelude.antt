-- What the proofs of this crate use of `std` and of the crates below it, by one import.
pub use Rattle.std.proofs.Common.{◌≡◌, ℕ, ◌+◌, ◌≤◌, List, [], ◌++◌, length, take, drop, Option, None, Some, Result, Ok, Err, refl, sym, subst, ◌∙◌, inl, inr, arith, length-append, length-drop, length-take-le, suc, ◌<◌, Bool, true, false, cond, eqb, ◌∷◌, count_by, ap, append_assoc, take-append-drop, ◌-◌}
pub use Rattle.std.proofs.lemmas.List.{append-nil, take_rest}
pub use Rattle.std.specs.Io.KnownBytes.{Consumes, IsAtEnd, Keeps, Appends}
pub use Rattle.bcast_io.proofs.Citable.{AppendsPrefix-nothing, Consumes-nothing, Consumes-then, lines-past_all, Appends-then}
pub use Rattle.bcast_io.specs.TextLines.{text_limit, newline}
pub use Rattle.bcast_io.specs.Writing.{AppendsPrefix, AppendsShort}
pub use Rattle.memchr.specs.Find.{is_byte}
pub use Rattle.replay_migration.specs.TextRead.{ReadWhole, ReadPast, ReadPart, piece_limit, LastIsPast, IsTooLong}
