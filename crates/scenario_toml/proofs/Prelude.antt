-- What the proofs of this crate use of `std` and of the crates below it, by one import.
pub use Rattle.std.proofs.Common.{◌≡◌, drop, map, sym, ◌∙◌, ℕ, ◌+◌, ◌<◌, true, false, cond, List, [], ◌∷◌, ◌++◌, length, get_or, Option, None, Some, Result, Ok, Err, refl, ap, append_assoc, IfOk, subst, ◌==◌}
pub use Rattle.scenario_toml.specs.Parts.{after, both, each}
pub use Rattle.scenario_toml.specs.State.Fields.{field_of, texts_of}
pub use Rattle.scenario_toml.specs.Words.{words, field, is_printed}
pub use Rattle.toml.specs.View.{items_view, members_view, table_view}
pub use Rattle.scenario_toml.specs.Tables.{only_has, is_field, is_among}
pub use Rattle.scenario_toml.specs.Document.{lines}
pub use Rattle.std.specs.List.{list_any, list_all}
