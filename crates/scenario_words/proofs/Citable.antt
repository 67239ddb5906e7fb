-- What upper crates may cite: what is spelled is read again, which words fit, and that a decimal is digits.
pub use Rattle.scenario_words.proofs.Decimals.{own}
pub use Rattle.scenario_words.proofs.Spelling.{IsLast, bounded_is, is_small, place_again, place_spelled, word_spelled}
pub use Rattle.scenario_words.proofs.Fitting.{Stops, bad_is, indices_all, indices_first, indices_stop, misfit, pairs_end, pairs_stop}
