-- What the proofs of this crate use of `std` and of the crates below it, by one import.
pub use Rattle.std.proofs.Common.{◌≡◌, ◌≢◌, ℕ, ◌+◌, ◌<◌, ◌≤◌, Bool, cond, List, [], ◌∷◌, ◌++◌, length, take, drop, refl, sym, ap, ◌∙◌, arith, append_assoc, append-nil, length-append, length-drop, length-take-le, take-append-drop, inl, inr, le-leb, Option, None, Some, subst, ◌-◌, true, false, rules, length-take, map, get_or, Result, Err, min, suc, eqb, leb, Ok}
pub use Rattle.std.proofs.lemmas.Bool.{lt-leb, cases_lt, cases_eq, false≢true, ne_eqb, eqb-false}
pub use Rattle.std.proofs.lemmas.List.{take_all, drop-drop, nil_from_length, drop_more, drop-take, take_min, take_rest, take-take, take-append-le}
pub use Rattle.std.proofs.lemmas.List.Elements.{All-head, All-tail, All-nil, All-cons}
pub use Rattle.std.specs.Io.KnownBytes.{Appends, Consumes, Keeps}
pub use Rattle.bcast_io.specs.Documents.{document_limit, ReadsDocument}
pub use Rattle.bcast_io.specs.State.Answering.{GoesOn, Answers, Names, Finds, Ends}
pub use Rattle.bcast_io.specs.State.Reading.{Took, Reading, lines_after, Reads, IsPast, BreaksOff, lines_left}
pub use Rattle.bcast_io.specs.TextLines.{TextLine, NoNewline, last_line, line_of, newline, past, text_limit, line_limit, plain, too_long, AreLines, line_behind, lines_of, with_end}
pub use Rattle.std.specs.List.{concat, slice_range}
pub use Rattle.std.proofs.Math.Seq.{take-add, take-append-add}
pub use Rattle.std.proofs.lemmas.Result.{err_from_is_err_and, IfOk-weaker, on_err_weaker}
