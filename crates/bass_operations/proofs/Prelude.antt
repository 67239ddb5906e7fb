-- What the proofs of this crate use of `std` and of the crates below it, by one import.
pub use Rattle.std.proofs.Common.{◌≡◌, ℕ, zero, suc, ◌<◌, ◌≤◌, Bool, true, false, cond, ltb, List, [], ◌∷◌, ◌++◌, length, Option, Some, None, Result, Ok, Err, refl, sym, ap, subst, ◌∙◌, arith, ◌+◌, ◌-◌, eqb, map, is_some, ◌^◌, take, append_assoc, get_or, drop, inl, inr}
pub use Rattle.std.proofs.lemmas.Bool.{le-ltb, lt-ltb, ltb-false, ltb-true, eqb-true, cases_lt}
pub use Rattle.std.proofs.lemmas.List.{append-nil, length-append, take_all, nil_from_length}
pub use Rattle.std.proofs.lemmas.Result.{err_from_is_err_and, on_ok_weaker}
pub use Rattle.std.specs.List.{flat_map, AllByRecursion}
pub use Rattle.std.specs.Prelude.{IsOk, IfOk, IfErr, if◌then◌else◌, ◌*◌}
pub use Rattle.bass_operations.specs.Layout.{fields, wishes_of, IsLaid, OpIs, FitsWidths, WishFits, encoding, MetadataFits, group_of}
pub use Rattle.bass_operations.specs.Reading.{op_of, judged, answered, fault_of, first_fault, wish_of, told, alone, WantsFor, add_reserved}
pub use Rattle.bass_operations.specs.Twice.{twice_of, times_named, has_bit, IsLowestTwice, NoneTwice}
pub use Rattle.bass_operations.specs.declared.fault.OpFault.{OpFault}
pub use Rattle.bass_operations.specs.declared.fault.OpFault.TheVariants.{Opcode, Length, Rfu, BisTwice, Empty, Memory}
pub use Rattle.bass_operations.specs.declared.operation.AddSource.{AddSource}
pub use Rattle.bass_operations.specs.declared.operation.ModifySource.{ModifySource}
pub use Rattle.bass_operations.specs.declared.operation.Operation.{Operation}
pub use Rattle.bass_operations.specs.declared.operation.Operation.TheVariants.{ScanStopped, ScanStarted, Add, Modify, Code, Remove}
pub use Rattle.bass_operations.specs.declared.wishes.Wish.{Wish}
pub use Rattle.bcast_base.proofs.Citable.{IsOctets-rest, octet_takes, octets_take, bind_some, some_is, reserved_none, none_reserved, number-length, octets_again, number_takes, number_again, reserved_first, first_reserved, reserved_found, subgroup_laid, subgroups_take, subgroups_again}
pub use Rattle.bcast_base.specs.Encoding.{IsOctets, octet, number}
pub use Rattle.bcast_base.specs.Layout.{laid, reserved_from, Field}
pub use Rattle.bcast_base.specs.Reading.{octet_in, octets_in, number_in, place_in}
pub use Rattle.bcast_base.specs.Steps.{◌>>=◌, whole}
pub use Rattle.bcast_base.specs.Subgroups.{Subgroup, subgroup_fields, subgroup_in, reserved_in, Fits, subgroup}
pub use Rattle.bcast_base.specs.Tries.{Answers, Finds}
pub use Rattle.std.specs.Option.{option_or, ok_or}
pub use Rattle.bcast_base.specs.Numbers.{sum_from}
