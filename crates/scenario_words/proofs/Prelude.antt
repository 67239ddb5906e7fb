-- What the proofs of this crate use of `std` and of the crates below it, by one import.
pub use Rattle.std.proofs.Common.{◌≡◌, ◌≤◌, ◌<◌, ℕ, zero, suc, ◌+◌, true, List, [], ◌∷◌, ◌++◌, length, take, Option, None, Some, Result, Ok, Err, refl, ap, sym, subst, ◌∙◌, arith, ◌-◌, nat_eq, eqb-true, ◌*◌, ◌/◌, ◌%◌, ◌^◌, Bool, false, cond, decimal, ◌&&◌, get_or, slice_index, map, drop, append_assoc, ◌≢◌, ◌↔◌, slice_get, max, inl, inr, bit_or, codes, nat_lt, ◌⊎◌, add-one, leb, IsTrue, not, slice_set, nat_le, below_more, w32, rules}
pub use Rattle.std.proofs.lemmas.Bool.{leb-true, le-leb, eq-eqb, cases_eq, ltb-true, cases_lt, eqb-false, lt-leb, le-ltb}
pub use Rattle.std.proofs.lemmas.Fmt.{digits_value-decimal, decimal_digit, digits_decimal, decimal_nonempty, decimal_injective, first_decimal, decimal-digits_value, decimal_step, length-decimal-le}
pub use Rattle.std.proofs.lemmas.List.{take-append-drop, append-nil, take_rest, take_all, length-append, drop_more, drop_all, drop-drop, take_more, nil_from_length, get_or-drop, length-drop}
pub use Rattle.std.proofs.lemmas.List.Folds.{list_all-append}
pub use Rattle.std.proofs.lemmas.List.Sums.{list_all-from_AllPass, AllPass-from_list_all}
pub use Rattle.std.proofs.lemmas.Nat.Bits.{bit_at_or, bit_at-pow_same, bit_at-pow_other, bit_at-lt, same_from_bits, bit_at-zero, bit_at_above}
pub use Rattle.std.proofs.lemmas.Result.{err_from_is_err_and}
pub use Rattle.std.proofs.lemmas.Slice.Eq.{bytes_eq-Decides}
pub use Rattle.std.specs.Borrow.{Bor}
pub use Rattle.std.specs.Int.{bit_at, IsInRange, to_le_bytes}
pub use Rattle.std.specs.List.{list_all, AllByRecursion, flat_map}
pub use Rattle.std.specs.Option.{is_some, unwrap_or, option_map}
pub use Rattle.std.specs.Prelude.{IsErr, ⊤, is_none, OnErr, replicate}
pub use Rattle.std.specs.Str.{bytes_eq}
pub use Rattle.std.specs.Str.Parse.{digits_value}
pub use Rattle.bass_operations.specs.Layout.{MetadataFits, group_of}
pub use Rattle.bass_operations.specs.declared.wishes.Wish.{Wish}
pub use Rattle.bcast_base.proofs.Citable.{bind_ok, ok_is, number_below, number-length, IsOctets-rest, err_is, subgroup_laid}
pub use Rattle.bcast_base.specs.Encoding.{IsOctets}
pub use Rattle.bcast_base.specs.Numbers.{sum_from}
pub use Rattle.bcast_base.specs.Tries.{◌>>=◌, FindsOrWants}
pub use Rattle.hex.proofs.HexLemmas.{decode_of-ok, decode_of-even, decode_of-encode_lower}
pub use Rattle.hex.proofs.Pairs.{cons_byte, decode_pairs-ok_pair, prepend, encode_with-drop, decode_done, decode_step, drop-pair, encode_done}
pub use Rattle.hex.specs.Hex.{decode_of, is_hex_digit, encode_lower, lower_digits, hex_digit_value, digit_or_error, pair_value}
pub use Rattle.hex.specs.declared.error.FromHexError.{FromHexError}
pub use Rattle.ltv_codec.specs.Reading.{bad_of}
pub use Rattle.scenario_words.specs.Digits.{digits}
pub use Rattle.scenario_words.specs.Joined.{joined, space, onto_first}
pub use Rattle.scenario_words.specs.Places.{WordPlace, between, octets_up_to, number_in_octets, one, wishes_octets, framing_word, time_up_to, octets_exactly, list_up_to, Place, perhaps, rising, wishes, WordValue, PlaceValue}
pub use Rattle.scenario_words.specs.Prefixes.{PutUpTo, APrefix}
pub use Rattle.scenario_words.specs.Reading.{Left, next_of, taken, word_in, with_stream, wish_of, SpellsNext, SpellsSome, told, next, within, bounded, all_wishes_of, rising_of, at_place, any_word, exactly, ended, timed, numbered, perhaps_of}
pub use Rattle.scenario_words.specs.Rests.{words_after}
pub use Rattle.scenario_words.specs.Spelling.{SpellsWord, SpellsOctets, Rising, with_streams, SpellsWishes, Spells}
pub use Rattle.scenario_words.specs.ValueFitting.{HasWishWords, HasWords, LiesBetween, HasWord}
pub use Rattle.scenario_words.specs.ValueWords.{words_for, streams_in, word_for, wish_words, framing_name, time_name, perhaps_words, streams_from}
pub use Rattle.scenario_words.specs.Words.{words_of}
pub use Rattle.scenario_words.specs.declared.fault.LineFault.{LineFault}
pub use Rattle.scenario_words.specs.declared.fault.LineFault.TheVariants.{BadLine}
pub use Rattle.std.proofs.Math.Seq.{take-append_seam, drop-cons}
pub use Rattle.std.proofs.lemmas.Slice.{take-put_mid}
pub use borrow.Rule.Slice.PartMut.{put_mid}
pub use Rattle.std.proofs.lemmas.Nat.{and_mask, or_lt}
