-- What upper crates may cite: sums over the octets of a number.
pub use Rattle.bcast_base.proofs.Places.{small_read, sum_from-append, sum_from-cons, sum_from-suc}
pub use Rattle.bcast_base.proofs.Fields.{IsOctets-drop, IsOctets-prefix, IsOctets-rest, Takes-then, counted_again, counted_takes}
pub use Rattle.bcast_base.proofs.Fields.{number-length, number_again, number_below, number_once, number_takes, octet_takes}
pub use Rattle.bcast_base.proofs.Fields.{octets_again, octets_take}
pub use Rattle.bcast_base.proofs.Groups.{bind_some, reserved_found, some_is, subgroup_laid, subgroups_again, subgroups_take}
pub use Rattle.bcast_base.proofs.Layouts.{first_reserved, none_reserved, reserved_first, reserved_none}
pub use Rattle.bcast_base.proofs.Tries.{bind_err, bind_ok, err_is, needed_err, needed_ok, ok_is, ok_no}
