-- What the proofs of this crate use of `std` and of the crates below it, by one import.
pub use Rattle.std.proofs.Common.{◌≡◌, ◌≤◌, ◌<◌, ℕ, suc, ◌+◌, ◌*◌, ◌^◌, List, [], ◌∷◌, ◌++◌, length, take, drop, get_or, sym, ◌∙◌, ap, arith, length-take-le, length-take, length-drop, subst, ◌/◌, ◌%◌, ◌-◌, Bool, refl, Option, Some, None, length-append, zero, zero-add, ◌≢◌, false, cond, eqb, Result, Ok, Err, lit<, IsTrue, IsFalse, append_assoc, take-append-drop, slice_index}
pub use Rattle.std.proofs.lemmas.Bool.Decides.{nat_tests}
pub use Rattle.std.proofs.lemmas.List.{get_or-take, get_or-drop, take_at, drop_at, drop_all, drop-drop, take_all, take_more, append-nil}
pub use Rattle.std.proofs.lemmas.Nat.{mod-mul-add, div-mul-add, pow-add}
pub use Rattle.std.proofs.lemmas.Slice.{take-put_mid, drop-put_mid, take-put_mid_below}
pub use Rattle.bcast_base.proofs.Citable.{sum_from-cons, sum_from-append, sum_from-suc, small_read}
pub use Rattle.bcast_base.specs.Numbers.{sum_from, Le}
pub use Rattle.big_info.specs.Faults.{faults}
pub use Rattle.big_info.specs.Layout.{CipherIs, Encodes, number_of, BigIs, AreOctets, SameButRfu}
pub use Rattle.big_info.specs.Rows.{NoFault, has_fault, IsFirstFault}
pub use Rattle.big_info.specs.Widths.{FitsWidths}
pub use Rattle.big_info.specs.declared.fault.GroupFault.TheVariants.{RangeIso, RangeSdu, RangePdu, Bn, NseNotMultiple, Irc, PhyNotSupported, FramedPduSmall, UnframedMultiple, UnframedBn, Horizon, SubInterval, SyncDelay, Encrypted}
pub use Rattle.big_info.specs.declared.info.BigInfo.{BigInfo}
pub use Rattle.big_info.specs.declared.info.Cipher.{Cipher}
pub use borrow.Rule.Slice.PartMut.{put_mid}
pub use Rattle.std.proofs.Math.Nat.{pow-suc, mod-add-div'}
