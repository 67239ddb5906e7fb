-- What the proofs of this crate use of `std` and of the crates below it, by one import.
pub use Rattle.std.proofs.Common.{◌≡◌, ℕ, zero, suc, ◌+◌, ◌-◌, ◌<◌, ◌≤◌, Bool, true, false, cond, ltb, List, [], ◌∷◌, ◌++◌, length, take, drop, Option, Some, None, refl, sym, ap, subst, ◌∙◌, append_assoc, arith, ◌*◌, ◌/◌, ◌%◌, ◌^◌, bit_and, inl, inr, add-zero, zero-add, ◌≢◌, ◌↔◌, IsTrue, nat_eq, bit_or, get_or, drop-cons, length-take-le, ◌⊎◌, Result, Ok, Err}
pub use Rattle.std.proofs.lemmas.List.{length-append, append-nil, length-drop, take_more_set, take_at, drop_at, take-append-drop, length-take, get_or-drop, get_or-take, get_or_past}
pub use Rattle.std.proofs.lemmas.Nat.{pow-add, one_shl, or_lt, and_le_l, pow_below, pow_pos, mul-le, and_mask, div-add-mod', shr_below}
pub use Rattle.bcast_base.specs.Encoding.{IsOctets, counted, octet}
pub use Rattle.bcast_base.specs.Layout.{laid, reserved_from, Field, NoneReserved, FirstReserved}
pub use Rattle.bcast_base.specs.Numbers.{sum_from}
pub use Rattle.bcast_base.specs.Reading.{number_in, counted_in, Takes, place_in, octet_in, octets_in}
pub use Rattle.bcast_base.specs.Steps.{◌>>=◌}
pub use Rattle.bcast_base.specs.Subgroups.{Subgroup, Fits, subgroup, subgroup_fields, is_reserved}
pub use Rattle.std.specs.Int.{w32, bit_at, w64, to_le_bytes}
pub use Rattle.std.proofs.lemmas.Bool.{eqb-true, eq-eqb, cases_lt, ltb-false, le-ltb}
