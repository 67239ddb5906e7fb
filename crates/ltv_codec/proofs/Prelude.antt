-- What the proofs of this crate use of `std` and of the crates below it, by one import.
pub use Rattle.std.proofs.Common.{◌≡◌, ℕ, zero, suc, ◌+◌, ◌<◌, ◌≤◌, false, List, [], ◌∷◌, ◌++◌, length, get_or, take, drop, Some, None, Result, Ok, Err, refl, sym, ap, ◌∙◌, arith, subst, ◌-◌, Bool, true, cond, eqb, ◌⊎◌, ltb, append_assoc, inl, inr, add-zero}
pub use Rattle.std.proofs.lemmas.List.{length-append, append-nil, take_at, drop_at, take-append-drop, length-take}
pub use Rattle.std.specs.List.{AllByRecursion}
pub use Rattle.bcast_base.specs.Encoding.{IsOctets}
pub use Rattle.bcast_base.specs.Reading.{counted_in, place_in}
pub use Rattle.bcast_base.specs.Tries.{Answers}
pub use Rattle.ltv_codec.specs.Faults.{IsBad, IsFault, StandsZero, StandsShort}
pub use Rattle.ltv_codec.specs.Layout.{Fits, encoding, IsLtvList, AreLtvs, structure}
pub use Rattle.ltv_codec.specs.Reading.{before, ltvs_of, told, IsStructure, IsBadAt, ltvs_in, bad_of}
pub use Rattle.ltv_codec.specs.declared.fault.LtvBad.{LtvBad}
pub use Rattle.ltv_codec.specs.declared.fault.LtvBad.TheVariants.{ZeroLength, Short}
pub use Rattle.ltv_codec.specs.declared.ltvs.Ltv.{Ltv}
pub use Rattle.std.proofs.lemmas.Bool.{eqb-true, cases_lt, lt-ltb, le-ltb, ltb-true, eq-eqb, ne_eqb}
