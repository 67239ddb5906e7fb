-- What the proofs of this crate use of `std` and of the crates below it, by one import.
pub use Rattle.std.proofs.Common.{ℕ, zero, suc, ◌≡◌, ◌+◌, ◌-◌, ◌<◌, ◌≤◌, ◌^◌, Bool, true, false, List, [], ◌∷◌, length, map, take, refl, sym, ap, ◌∙◌, subst, inl, inr, arith, drop, Some, ◌≢◌, ◌↔◌, ◌⊎◌, cond, ◌++◌, append_assoc, max, get_or, Option, None}
pub use Rattle.std.proofs.lemmas.Bool.{cond-false, cases_eq, cond-true, ne_eqb, and_parts, cases_Bool, le-leb, leb-true, or_left, or_right, eq-eqb, eqb-true}
pub use Rattle.std.proofs.lemmas.Nat.{pow_pos, or_lt, pow_below}
pub use Rattle.std.specs.List.{filter, range_with_len, list_any}
pub use Rattle.std.specs.Prelude.{◌==◌, slice_get, bit_or, ◌||◌, ◌&&◌, nat_le, is_some, if◌then◌else◌}
pub use Rattle.delegator_choices.specs.State.Choices.{Leads, with_one, is_chosen, left_of, chosen_of, Takes}
pub use Rattle.delegator_history.specs.Trains.{set_with, sets_with, candidates, first_candidates, is_candidate}
pub use Rattle.delegator_history.specs.Writes.{slot_where, has_id, slot_with, least_unused}
