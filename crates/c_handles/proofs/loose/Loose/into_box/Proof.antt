-- `into_box` hands the two fields to the heap, which makes the box again. Assumes `Logic`.
use Rattle.std.proofs.Common.{◌≡◌, List, [], ◌∷◌, ◌++◌, refl, sym, ap, subst}
use mir.Syntax.{a_type, dcons, dnil}
use mir.Val.{Val, vptr}
use mir.MapTy.{inst_fn}
use base.Logic.{SProp, ent, id⊢}
use base.Fml.{ftrue, flft}
use prog.Wp.{WpFn}
use types.Kit.{Item, ‵, raw, ◌⊛◌, some, later, at_ret, ◌$◌, ◌∵◌, !, qed, by, move, keep, drop, split, split3, join, fsplit, fjoin, pick, suffices, use1, await, rewrite, feq_i}
use types.Run.{stop, fld, of_opd, no_more, and_then, first, blocks, exec, returns, enter}
use types.ByLocal.{alloc_all, pass_all, free_all, look_at, get, get_in, sets, lands_last, env}
use types.Part.{sub, whole}
use contract.Monad.{fact}
use contract.BorrowLft.{◌⊑◌}
use contract.Running.{tables}
use denote.Exit.{no}
use denote.RattleType.{RattleType, owns}
use denote.Signature.{types_at, plain}
use denote.RawPtr.{block_ptr}
use denote.Steps.{nothing, only}
use denote.Param.{param, layout, bounded}
use denote.Param.Laws.{param_laws}
use denote.Triple.Clauses.{Lasts, lasts}
use denote.Triple.Spec.{triple_of}
use denote.Triple.Call.{calls_at_last}
use denote.Triple.Walked.{Stays, stay_dropped, walk_of}
use Rattle.core.proofs.alloc.Calls.{Goes-blank}
use Rattle.core.proofs.alloc.Shapes.{after as rest_after}
use Rattle.core.proofs.atomic.Steps.{fm}
use Rattle.core.proofs.cell.Inside.{Good}
use Rattle.std_alloc.proofs.BoxSteps.Form as form
use Rattle.std_alloc.proofs.BoxSteps.Steps.{box_out, box_in}
use Rattle.std.proofs.raw_atomic.Walks.{proved_at, leaves}
use Rattle.std_alloc.specs.contracts.boxed.Box.from_raw as asked
use Rattle.std_alloc.proofs.boxed.Box.from_raw.Met.{met}
use Rattle.c_handles.proofs.Apart.{Apart, beside, beside_fits, opened}
use Rattle.c_handles.specs.contracts.loose.Loose.into_box.{ended, clauses}
use Rattle.c_handles.specs.contracts.loose.Loose.into_box.Key.{name as #self}
use Rattle.c_handles.proofs.loose.Loose.into_box.Statement.{statement}
use Rattle.c_handles.proofs.loose.Loose.into_box.Code as code

pub into_box_spec : {M : Type 1} → statement M
into_box_spec 𝓤 𝓛 𝓜 𝓡 wired Held Heap held_laws heap_laws ghosts d dx dd is_allocator glue glued =
    -- the types: what is held, its allocator, and the box of both
    let Held_row : RattleType = param 0 Held in
    let Heap_row : RattleType = param 1 Heap in
    let laws = param_laws 1 Heap heap_laws in
    let boxed : form.Bx = record { row = Held; laws = held_laws; al = record { row = Heap; laws = heap_laws; g = ghosts; d = d; drops = dd } } in
    let Box_row : RattleType = form.B boxed in
    let generics = bounded (a_type ∷ a_type ∷ []) (Held, (Heap, tt)) (dcons d (dcons dx (dcons dd dnil))) in
    -- the function, its contract, and the tables of what it calls
    let fn = inst_fn generics code.function in
    let ends = ended Held Heap ghosts d dx dd in
    let contract = clauses Held Heap ghosts d dx dd 𝓛 𝓜.mem 𝓡.returns in
    let run = tables 𝓤 𝓛.H 𝓜 𝓡 𝓡.env in
    let gone : Stays ends.signature.params ends.kept = (stay_dropped (plain (λ _. Apart Held_row Heap_row laws ghosts)) no, tt) in
    let call = triple_of 𝓛 (asked.signature Held Heap ghosts d dd) (asked.spec Held Heap ghosts d dd 𝓛 𝓜.mem 𝓡.returns) in
    let call_met = met 𝓤 𝓛 𝓜 𝓡 (code.calls-std_alloc::boxed::Box::from_raw 𝓡.env wired) Held Heap held_laws heap_laws ghosts d dd is_allocator glued in
    proved_at 𝓛 ends gone contract 𝓜 𝓡 (Goes-blank 𝓛 2 (plain (λ _. Apart Held_row Heap_row laws ghosts)) no (λ lifetimes x fits. tt), tt)
    (#self generics) fn (code.unfolded 𝓤 𝓛.H 𝓜 𝓡 wired (Held, (Heap, tt)) d dx dd) (λ at are.
    let lifetimes = at.0.0 in
    let shares = at.0.1 in
    let loose = at.0.3.0 in
    let heap = loose.alloc in
    let alive : Item 𝓤 = ‵ (flft lifetimes.0 shares.0) ⊛ ‵ (flft lifetimes.1.0 shares.1.0) ⊛ ‵ ftrue in
    let after : Val → SProp 𝓤 = (walk_of 𝓛 ends gone contract).post at in
    let runs : List Val → SProp 𝓤 = λ words. WpFn 𝓤 𝓛.H run.C run.Λ fn words after in
    qed 𝓛 ((alive ⊛ ‵ (owns (types_at ends.signature.params lifetimes) at.0.3 at.0.4)) ∷ raw ((contract lifetimes at.0.3).requires at.1) ∷ []) ∵
    split ! $ move ! (1 ∷ []) $ fsplit ! $
    -- what the struct owns, and its two words
    opened Held_row Heap_row laws ghosts ! loose at.0.4.0 (λ block offset handle lies words fits.
    let word : Val = beside block offset handle in
    let typed = beside_fits Held_row Heap_row laws ghosts block offset handle fits in
    let asks : call.Ghost = ((lifetimes, shares, tt, (heap, (block_ptr block offset, tt)), (handle ∷ [], (vptr block offset ∷ [], tt))), loose.value) in
    move ! (4 ∷ []) $ use1 𝓛 (raw (fact 𝓤 (lifetimes.0 ⊑ Held.lives)) ⊛ raw (fact 𝓤 (lifetimes.1.0 ⊑ Heap.lives)) ⊛ ‵ ftrue) (id⊢ 𝓤 _) $
    split3 ! $ move ! (2 ∷ []) $ drop ! $ move ! (1 ∷ 2 ∷ []) $ join ! $ move ! (1 ∷ 0 ∷ []) $ join ! $
    move ! (2 ∷ []) $ feq_i ! (List Val) (vptr block offset ∷ []) (vptr block offset ∷ []) refl $ fjoin ! $ move ! (2 ∷ 0 ∷ []) $ fjoin ! $
    move ! (2 ∷ 0 ∷ []) $ join ! $ join ! $ use1 𝓛 (raw (call.pre asks)) (id⊢ 𝓤 _) $
    suffices ! (runs (word ∷ [])) (subst (λ (us : List Val). ent 𝓤 (runs (word ∷ [])) (runs us)) (sym (λ i. words i ++ [])) (id⊢ 𝓤 (runs (word ∷ [])))) $
    enter ! run.C run.Λ fn (word ∷ []) after $ alloc_all ! (λ locals. pass_all ! refl (typed, tt) $
    let frame = env fn.locals locals in
    sets ! (of_opd ! (get_in ! (fld ! refl (stop !)) (sub ! 0 refl (whole !)))) refl (tt, tt) $
    sets ! (of_opd ! (get_in ! (fld ! refl (stop !)) (sub ! 1 refl (whole !)))) refl fits $
    -- the unsafe block: the call, with the right to free the memory
    first ! $ blocks ! $ sets ! (of_opd ! (get ! refl)) refl fits $
    calls_at_last ! (fm 𝓛 𝓜 𝓡) call call_met asks (and_then ! (get ! refl) (and_then ! (get ! refl) (no_more !))) (λ given.
    use1 𝓛 (later (some (λ (box : Box_row.Denot). (alive ⊛ ‵ (Box_row.own_val box (given ∷ [])))
    ⊛ some (λ (spent : Lasts (asked.ended Held Heap ghosts d dd) lifetimes asks.0.3). ‵ (lasts (asked.ended Held Heap ghosts d dd) lifetimes asks.0.3 spent)
    ⊛ (raw (fact 𝓤 (box.value ≡ loose.value)) ⊛ raw (fact 𝓤 (box.alloc ≡ heap))))))) (id⊢ 𝓤 (call.post asks given)) $
    await ! tt $ pick ! (λ box. split ! $ move ! (1 ∷ []) $ pick ! (λ _. split3 ! $ drop ! $ move ! (2 ∷ []) $ split ! $ move ! (1 ∷ []) $
    box_out boxed ! box (given ∷ []) (λ to from kept lies_there words_there kept_fits. box_in boxed ! box to from box.value lies_there refl $
    rewrite ! 0 (λ (ws : List Val). ‵ (Box_row.own_val box ws)) (sym words_there) refl $
    let good : Good (layout Box_row) given =
    subst (Good (layout Box_row)) (sym (ap only words_there)) (beside_fits Held_row Heap_row laws ghosts to from kept kept_fits) in
    lands_last ! refl good $ exec ! run.C run.Λ frame (rest_after 3 fn.body) (at_ret frame after) $
    sets ! (of_opd ! (get ! refl)) refl good $ nothing ! $ nothing ! $ fjoin ! $
    returns ! (look_at ! 0 refl) $ free_all ! refl $ keep ! (2 ∷ 0 ∷ 1 ∷ 3 ∷ []) $
    by ! (leaves 𝓛 ends gone contract at given box ((tt, (tt, tt)), tt) (tt, tt)))))))))
