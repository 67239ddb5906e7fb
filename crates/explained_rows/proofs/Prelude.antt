-- What the proofs of this crate use of `std` and of the crates below it, by one import.
pub use Rattle.std.proofs.Common.{◌≡◌, ℕ, ◌+◌, true, List, Option, Some, Ok, Err, refl, ap, subst, ◌≤◌, [], ◌∷◌, ◌++◌, None, length, take, drop, sym, ◌∙◌, arith, ◌-◌, suc, zero, ◌≢◌, ◌<◌, ◌==◌, Bool, false, Result, MatchResult, get_or, min, append-nil, take-append-drop, if◌then◌else◌, eq-eqb, rules}
pub use Rattle.std.proofs.lemmas.List.{length-drop, take_rest, drop-drop, get_or-take, length-take, take-append-le, take_all}
pub use Rattle.std.proofs.lemmas.Result.{err_from_is_err_and}
pub use Rattle.std.specs.Io.KnownBytes.{Keeps, Appends, WriteAppends}
pub use Rattle.bcast_io.specs.Writing.{AppendsPrefix, AppendsShort}
pub use Rattle.explained_rows.specs.Rows.{lines_at, lines_told, place_after, told, told_at, next, next_in_row, number_of, picked, picked_at, takes, tells_line}
pub use Rattle.explained_rows.specs.declared.place.Place.TheVariants.{Start, Blank, Blanks, Mark, Within, Beside, Line}
