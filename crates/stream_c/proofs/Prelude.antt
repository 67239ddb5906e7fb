-- What the proofs of this crate use of `std` and of the crates below it, by one import.
pub use Rattle.std.proofs.Common.{◌≡◌, ◌≤◌, ◌*◌, ℕ, List, [], ◌∷◌, ◌++◌, refl, subst, ◌∙◌, Bool, None, sym, ap, arith, zero, suc, replicate, Result, length, map, take}
pub use Rattle.std.proofs.raw_atomic.Walks.{proved_at, leaves, proved}
pub use Rattle.std.specs.List.{range_with_len}
pub use Rattle.std.specs.Prelude.{Some, IsSome, true, false, Option, ◌==◌, if◌then◌else◌}
pub use Rattle.std_heap.specs.contracts.GlobalAllocator.TheImpl.{ghosts}
pub use Rattle.std_heap.specs.declared.Global.{Global}
pub use Rattle.c_handles.proofs.Apart.{beside, beside_fits, closed}
pub use Rattle.c_values.specs.Kept.{Brought, Kept, begun, calls_of, counts_of, HasRoom}
pub use Rattle.core.proofs.alloc.Calls.{Goes-blank, Al, handle_tells}
pub use Rattle.group_sink.specs.Handing.{units_at_close}
pub use Rattle.isoal_base.specs.Stays.{Stay, opened, Call, window_of}
pub use Rattle.stream_c.specs.Owned.{boxed, owned}
pub use Rattle.stream_c.specs.Streams.{FramedStands, PlainStands, KeptStands, StandsBy, heard_of_window, held_by, most_held, room_kept, units_kept}
pub use Rattle.stream_c.specs.contracts.handle.VmStream.of.{ended, clauses}
pub use Rattle.stream_c.specs.declared.machine.StreamMachine.{StreamMachine}
pub use Rattle.unit_outlets.specs.Handed.{Handed, HandsOver, Caused}
pub use base.Fml.{Fml, ftrue, fex, GName, fsep, flft}
pub use base.Logic.{ent, emp, SProp, id⊢, fst∗, never, sep}
pub use contract.Monad.{fact, fact_i}
pub use contract.Running.{tables}
pub use denote.Memory.{lone, cell_at, part_at, mem}
pub use denote.RattleType.{RattleType, owns}
pub use denote.RawPtr.{Ptr, block_ptr, null_ptr, in_a_block, RawPtr, ptr_val}
pub use denote.Signature.{plain, types_at, Slot, mut_ref_to}
pub use denote.Steps.{nothing, heard, opens, peeks}
pub use denote.Struct.Struct.{Struct}
pub use denote.Triple.Entry.{alive}
pub use denote.Triple.Walked.{Stays, stay_dropped, walk_of, says, Goes-spent_ref, ends_at}
pub use mir.Syntax.{Fn, impl, tnil, dnil, named}
pub use mir.Val.{Val, vstruct, vcons, vnil, of_list, vptr}
pub use prog.Wp.{WpFn}
pub use seplogic.Ra.Ura.{Ura}
pub use types.ByLocal.{alloc_all, pass_all, free_all, look_at, get, get_in, sets, through, sets_last, env}
pub use types.Kit.{‵, raw, ◌⊛◌, ◌$◌, ◌∵◌, !, qed, by, move, drop, use0, split, fsplit, fjoin, fpack, suffices, fpick, Goal, Seq, Item, prop, regoal, some, later, at_ret, done, keep, use1, split3, join, fsplit3, pick, await, rewrite, frame, group}
pub use types.Logic.{Logic, sem}
pub use types.Part.{agg, sub, whole, look_in}
pub use types.Run.{stop, fld, of_opd, no_more, and_then, enter, addr, load, first, blocks, exec}
