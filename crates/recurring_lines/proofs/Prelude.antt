-- What the proofs of this crate use of `std` and of the crates below it, by one import.
pub use Rattle.std.proofs.Common.{◌≡◌, ◌≢◌, ◌≤◌, ◌+◌, ◌-◌, ℕ, zero, suc, Bool, true, false, List, [], ◌∷◌, ◌++◌, drop, length, get_or, None, Some, Result, Ok, Err, refl, ap, sym, ◌∙◌, subst, arith, codes, ap₂, add-one, inl, inr}
pub use Rattle.scenario_text.proofs.Citable.{is_in_range}
pub use Rattle.scenario_text.specs.Table.{unit_row, air_row}
pub use Rattle.scenario_text.specs.declared.step.Step.{Step}
pub use Rattle.scenario_text.specs.declared.step.Step.TheVariants.{Event, Announce, Serve, Tell, Drain, Lose, Add, Modify, Remove, Train}
pub use Rattle.std.specs.Prelude.{◌↔◌, Option, bytes_eq, take, IfOk, IfSome, IsTrue}
pub use Rattle.std.proofs.lemmas.List.{take-append-drop, take_rest, drop_all}
pub use Rattle.std.proofs.lemmas.Slice.Eq.{bytes_eq-Decides}
pub use Rattle.scenario_words.specs.Reading.{Left}
pub use Rattle.scenario_words.specs.Words.{words_of}
pub use Rattle.recurring_lines.specs.Frequent.{frequent_step}
pub use Rattle.scenario_lines.specs.Taking.{LineTakes, some_takes}
pub use Rattle.recurring_lines.specs.declared.frequent.Frequent.{Frequent}
pub use Rattle.scenario_text.specs.Ranges.{IsInRange}
