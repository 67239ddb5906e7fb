-- What the proofs of this crate use of `std` and of the crates below it, by one import.
pub use Rattle.std.proofs.Common.{◌≡◌, ℕ, zero, suc, ◌<◌, ◌≤◌, List, [], ◌∷◌, ◌++◌, length, map, Option, Some, None, Result, Ok, Err, refl, sym, ap, subst, ◌∙◌, append_assoc, arith, ◌^◌, Bool, true, false, cond, ltb, ◌+◌, ◌-◌, take, drop, is_some, inl, inr, add-zero, leb, eqb, zero-add, ◌*◌}
pub use Rattle.std.proofs.lemmas.List.{append-nil, nil_from_length, length-append, length-map, take_all, length-take}
pub use Rattle.std.proofs.lemmas.Result.{err_from_is_err_and}
pub use Rattle.std.specs.List.{flat_map, AllByRecursion, list_all}
pub use Rattle.std.specs.Prelude.{◌⊎◌, nat_lt, IfOk, ◌&&◌, ◌||◌, not, IsOk, IfErr}
pub use Rattle.bcast_base.proofs.Citable.{subgroups_take, reserved_none, none_reserved, some_is, bind_ok, needed_ok, ok_is, octet_takes, octets_take, subgroup_laid, subgroups_again, octets_again, bind_some, reserved_first, first_reserved, IsOctets-prefix, number-length, number_below, number_once}
pub use Rattle.bcast_base.specs.Encoding.{IsOctets, octet, number}
pub use Rattle.bcast_base.specs.Layout.{Field, laid, reserved_from, NoneReserved, free, unless}
pub use Rattle.bcast_base.specs.Numbers.{sum_from}
pub use Rattle.bcast_base.specs.Reading.{place_in, octet_in, octets_in, number_in, counted_in}
pub use Rattle.bcast_base.specs.Subgroups.{Subgroup, subgroup_fields, Fits, is_reserved, subgroup, reserved_in}
pub use Rattle.bcast_base.specs.Tries.{Answers, ◌>>=◌, needed}
pub use Rattle.receive_state.specs.Faults.{IsFollowed, EndsIn, IsReserved, IsTrailing, IsShort, IsFault}
pub use Rattle.receive_state.specs.Layout.{StateFields, fields, FieldsFit, code_width, number_of, group_of, fields_of, encoding, StateIs, code_of, IsEncoded, group_is_encoded, is_encoded, HasEncoding, HasTypes}
pub use Rattle.receive_state.specs.Reading.{subgroups_of, state_of_group, state_from, first_fault, answered, behind, judged, judged_of, lifted, state_of, groups_of, states_of, encryption_of, group_end_in, reserved_head}
pub use Rattle.receive_state.specs.Steps.{field_in}
pub use Rattle.receive_state.specs.declared.fault.StateFault.{StateFault}
pub use Rattle.receive_state.specs.declared.fault.StateFault.TheVariants.{Short, Rfu, Trailing, Memory}
pub use Rattle.receive_state.specs.declared.state.Encryption.{Encryption}
pub use Rattle.receive_state.specs.declared.state.GroupState.{GroupState}
pub use Rattle.receive_state.specs.declared.state.ReceiveState.{ReceiveState}
pub use Rattle.std.proofs.lemmas.Bool.{ltb-false, leb-true, le-leb, lt-ltb, ltb-true, eqb-true, le-ltb}
