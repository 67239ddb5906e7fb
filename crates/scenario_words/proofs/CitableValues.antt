-- What upper crates may cite: the words of a value spell it, and a value that words spell has words; a line splits into its words;
-- values as they are given have words exactly where they have at their places.
pub use Rattle.scenario_words.proofs.Given.{all_have, all_words_given, next_item}
pub use Rattle.scenario_words.proofs.Places.{EndsAt, words_fit, words_spelled, words_unspaced}
pub use Rattle.scenario_words.proofs.Spaces.{NoSpace, NoSpaces, is_unspaced, joined_split, more_unspaced, unspaced}
