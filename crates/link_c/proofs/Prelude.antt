-- What the proofs of this crate use of `std` and of the crates below it, by one import.
pub use Rattle.std.proofs.Common.{◌≡◌, ℕ, suc, arith, List, [], ◌∷◌, ◌++◌, length, Option, Some, None, refl, ap, sym, ◌∙◌, ◌==◌, true, false, Bool, not, subst, ◌≤◌, append_assoc, inl, inr, map, zero, ◌<◌, ◌+◌, get_or, length-append}
pub use Rattle.std.proofs.lemmas.Bool.{le-ltb, eqb-true, and_parts}
pub use Rattle.std.proofs.raw_atomic.Walks.{proved_at, leaves, proved}
pub use Rattle.std.specs.Prelude.{IsSome, Result, Ok, Err, ◌&&◌, unwrap_or, slice_get}
pub use Rattle.std_heap.specs.contracts.GlobalAllocator.TheImpl.{ghosts}
pub use Rattle.std_heap.specs.declared.Global.{Global}
pub use Rattle.assistant_machine.specs.declared.fault.NoticeFault.{NoticeFault}
pub use Rattle.bass_operations.specs.Layout.{MetadataFits, group_of}
pub use Rattle.bass_operations.specs.declared.wishes.Wish.{Wish}
pub use Rattle.bcast_base.specs.Reading.{counted_in}
pub use Rattle.bcast_base.specs.Steps.{◌>>=◌}
pub use Rattle.c_handles.proofs.Apart.{beside, beside_fits, opened, closed}
pub use Rattle.core.proofs.alloc.Calls.{Goes-blank, Al, handle_tells}
pub use Rattle.link_c.specs.Agreement.{Acts, calls_of, language, begun, first_given, encoded, reads_kept, views_kept}
pub use Rattle.link_c.specs.Links.{LinkStandsIn}
pub use Rattle.link_c.specs.Owned.{boxed, owned}
pub use Rattle.link_c.specs.Wishes.{wish, are_free}
pub use Rattle.link_c.specs.contracts.handle.VmLink.of.{ended, clauses}
pub use Rattle.link_c.specs.declared.machine.LinkMachine.{LinkMachine}
pub use base.Fml.{Fml, ftrue, fex, GName, fsep, flft}
pub use base.Logic.{ent, emp, SProp, id⊢, fst∗, never, sep}
pub use contract.Monad.{fact, fact_i}
pub use contract.Running.{tables}
pub use denote.Memory.{lone, cell_at, part_at, mem}
pub use denote.RattleType.{RattleType, owns}
pub use denote.RawPtr.{Ptr, block_ptr, null_ptr, in_a_block, RawPtr, ptr_val}
pub use denote.Signature.{plain, types_at, Slot, mut_ref_to}
pub use denote.Steps.{nothing, heard, opens, peeks}
pub use denote.Struct.Struct.{Struct}
pub use denote.Triple.Entry.{alive}
pub use denote.Triple.Walked.{Stays, stay_dropped, walk_of, says, Goes-spent_ref, ends_at}
pub use mir.Syntax.{Fn, impl, tnil, dnil, named}
pub use mir.Val.{Val, vstruct, vcons, vnil, of_list, vptr}
pub use prog.Wp.{WpFn}
pub use seplogic.Ra.Ura.{Ura}
pub use types.ByLocal.{alloc_all, pass_all, free_all, look_at, get, get_in, sets, through, sets_last, env}
pub use types.Kit.{‵, raw, ◌⊛◌, ◌$◌, ◌∵◌, !, qed, by, move, drop, use0, split, fsplit, fjoin, fpack, suffices, fpick, Goal, Seq, Item, prop, regoal, some, later, at_ret, done, keep, use1, split3, join, fsplit3, pick, await, rewrite, frame, group}
pub use types.Logic.{Logic, sem}
pub use types.Part.{agg, sub, whole, look_in}
pub use types.Run.{stop, fld, of_opd, no_more, and_then, enter, addr, load, first, blocks, exec}
