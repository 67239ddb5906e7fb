-- What the proofs of this crate use of `std` and of the crates below it, by one import.
pub use Rattle.std.proofs.Common.{ℕ, ◌≡◌, List, [], ◌∷◌, ◌++◌, Option, None, Some, refl, sym, ap, ◌∙◌, zero, suc, ◌+◌, ◌*◌, ◌≤◌, ◌||◌, false, eqb, ltb, map, length, Err, subst, arith, length-append, ◌/◌, take, drop, Ok}
pub use Rattle.std.proofs.lemmas.Bool.{cond-false, le-ltb, ne_eqb}
pub use Rattle.std.proofs.lemmas.List.{append-nil, append_assoc, length-drop, take_all}
pub use Rattle.announcement_train.specs.Layout.{IsTrain, announced, basic_audio_announcement, info_ad, service_ad}
pub use Rattle.announcement_train.specs.PlainBase.{plain_entry, plain_entries, plain_subgroup, plain_base_of}
pub use Rattle.base_grammar.specs.Draft.{with_last, Refuses, entry_fault, finish_fault, size_fault, with_entry}
pub use Rattle.base_grammar.specs.Layout.{Endpoint, endpoint, lc3, bis_of, entry, indices, encoding, stands_in, subgroup, BaseIs}
pub use Rattle.bcast_base.proofs.Citable.{number-length}
pub use Rattle.ltv_codec.specs.Layout.{structure}
