-- `of` asks the box for its pointer and its allocator, and puts both into the struct. Assumes `Logic`.
use Rattle.std.proofs.Common.{◌≡◌, List, [], ◌∷◌, ◌++◌, refl, sym, ap, ◌∙◌, subst}
use mir.Syntax.{a_type, dcons, dnil}
use mir.Raw.{raw as bare}
use mir.Val.{Val, vstruct, of_list}
use mir.MapTy.{inst_fn}
use base.Logic.{SProp, ent, emp, never, id⊢, fst∗}
use base.Fml.{ftrue, fsep, flft}
use prog.Wp.{WpFn}
use types.Logic.{sem}
use types.Kit.{Item, ‵, raw, ◌⊛◌, some, later, ◌$◌, ◌∵◌, !, qed, by, move, keep, drop, split, split3, join, fsplit, fjoin, fpick, pick, suffices, use0, use1, await, rewrite, feq_l}
use types.Run.{stop, fld, of_opd, no_more, and_then, returns, enter}
use types.ByLocal.{alloc_all, pass_all, free_all, look_at, get, get_in, sets, lands_as}
use types.Part.{agg, sub, whole}
use contract.Monad.{fact, fact_i}
use contract.Running.{tables}
use denote.Exit.{no}
use denote.RattleType.{RattleType, owns}
use denote.Signature.{types_at, plain}
use denote.Builtin.{RawPtr}
use denote.RawPtr.{Ptr, block_ptr, null_ptr, ptr_val, in_a_block}
use denote.Steps.{nothing, only, heard}
use denote.Param.{param, layout, bounded}
use denote.Param.Laws.{param_laws}
use denote.Struct.Tuple.{Tuple}
use denote.Triple.Spec.{triple_of}
use denote.Triple.Call.{calls_at}
use denote.Triple.Walked.{Stays, stay_dropped, walk_of}
use Rattle.core.proofs.alloc.Calls.{Goes-blank, handle_tells}
use Rattle.core.proofs.atomic.Steps.{fm}
use Rattle.std_alloc.specs.Box.Ownership.{box_owns}
use Rattle.std_alloc.proofs.BoxSteps.Form as form
use Rattle.std_alloc.proofs.BoxSteps.Steps.{box_out, box_in}
use Rattle.std.proofs.raw_atomic.Walks.{proved_at, leaves}
use Rattle.std_alloc.specs.contracts.boxed.Box.into_raw_with_allocator as asked
use Rattle.std_alloc.proofs.boxed.Box.into_raw_with_allocator.Met.{met}
use Rattle.c_handles.proofs.Apart.{beside, beside_fits, closed}
use Rattle.c_handles.specs.contracts.loose.Loose.of.{ended, clauses}
use Rattle.c_handles.specs.contracts.loose.Loose.of.Key.{name as #self}
use Rattle.c_handles.proofs.loose.Loose.of.Statement.{statement}
use Rattle.c_handles.proofs.loose.Loose.of.Code as code

pub of_spec : {M : Type 1} → statement M
of_spec 𝓤 𝓛 𝓜 𝓡 wired Held Heap held_laws heap_laws ghosts d dx dd is_allocator glue glued =
    -- the types: what is held, its allocator, and the box of both
    let Held_row : RattleType = param 0 Held in
    let Heap_row : RattleType = param 1 Heap in
    let laws = param_laws 1 Heap heap_laws in
    let boxed : form.Bx = record { row = Held; laws = held_laws; al = record { row = Heap; laws = heap_laws; g = ghosts; d = d; drops = dd } } in
    let generics = bounded (a_type ∷ a_type ∷ []) (Held, (Heap, tt)) (dcons d (dcons dx (dcons dd dnil))) in
    -- the function, its contract, and the tables of what it calls
    let fn = inst_fn generics code.function in
    let ends = ended Held Heap ghosts d dx dd in
    let contract = clauses Held Heap ghosts d dx dd 𝓛 𝓜.mem 𝓡.returns in
    let run = tables 𝓤 𝓛.H 𝓜 𝓡 𝓡.env in
    let gone : Stays ends.signature.params ends.kept = (stay_dropped (plain (λ _. form.B boxed)) no, tt) in
    let call = triple_of 𝓛 (asked.signature Held Heap ghosts d dd dx) (asked.spec Held Heap ghosts d dd dx 𝓛 𝓜.mem 𝓡.returns) in
    let call_met = met 𝓤 𝓛 𝓜 𝓡 (code.calls-std_alloc::boxed::Box::into_raw_with_allocator 𝓡.env wired) Held Heap held_laws heap_laws ghosts d dd dx is_allocator glued glue in
    proved_at 𝓛 ends gone contract 𝓜 𝓡 (Goes-blank 𝓛 2 (plain (λ _. form.B boxed)) no (λ lifetimes x fits. tt), tt)
    (#self generics) fn (code.unfolded 𝓤 𝓛.H 𝓜 𝓡 wired (Held, (Heap, tt)) d dx dd) (λ at are.
    let lifetimes = at.0.0 in
    let shares = at.0.1 in
    let box = at.0.3.0 in
    let heap = box.alloc in
    let alive : Item 𝓤 = ‵ (flft lifetimes.0 shares.0) ⊛ ‵ (flft lifetimes.1.0 shares.1.0) ⊛ ‵ ftrue in
    let after : Val → SProp 𝓤 = (walk_of 𝓛 ends gone contract).post at in
    let runs : List Val → SProp 𝓤 = λ words. WpFn 𝓤 𝓛.H run.C run.Λ fn words after in
    qed 𝓛 ((alive ⊛ ‵ (owns (types_at ends.signature.params lifetimes) at.0.3 at.0.4)) ∷ raw ((contract lifetimes at.0.3).requires at.1) ∷ []) ∵
    split ! $ move ! (1 ∷ []) $ fsplit ! $
    -- the box is one word beside another: the walk may begin
    box_out boxed ! box at.0.4.0 (λ block offset handle lies words fits. box_in boxed ! box block offset box.value lies refl $
    let word : Val = form.word boxed handle block offset in
    let typed = beside_fits Held_row Heap_row laws ghosts block offset handle fits in
    let asks : call.Ghost = ((lifetimes, shares, tt, (box, tt), (word ∷ [], tt)), tt) in
    fjoin ! $ move ! (1 ∷ 0 ∷ []) $ join ! $ join ! $ use1 𝓛 (raw (call.pre asks)) (id⊢ 𝓤 _) $
    suffices ! (runs (word ∷ [])) (subst (λ (us : List Val). ent 𝓤 (runs (word ∷ [])) (runs us)) (sym (λ i. words i ++ [])) (id⊢ 𝓤 (runs (word ∷ [])))) $
    enter ! run.C run.Λ fn (word ∷ []) after $ alloc_all ! (λ locals. pass_all ! refl (typed, tt) $
    sets ! (of_opd ! (get ! refl)) refl typed $
    -- the call: it gives a pair, whose second part is the allocator of the box
    calls_at ! (fm 𝓛 𝓜 𝓡) call call_met asks (and_then ! (get ! refl) (no_more !)) (λ given.
    let pair : RattleType = Tuple (RawPtr ∷ Heap_row ∷ []) in
    use1 𝓛 (later (some (λ (got : Ptr × Heap.Denot). (alive ⊛ ‵ (pair.own_val got (given ∷ [])))
    ⊛ some (λ (_ : (Unit {0} × (Unit {0} × Unit {0})) × Unit {0}). ‵ (fsep (fsep ftrue (fsep ftrue ftrue)) ftrue)
    ⊛ (raw (fact 𝓤 (got.1 ≡ heap)) ⊛ ‵ (box_owns (ghosts.dealloc_token heap) Held_row got.0 box.value)))))) (id⊢ 𝓤 _) $
    await ! tt $ pick ! (λ got. split ! $ move ! (1 ∷ []) $ pick ! (λ _. split3 ! $ drop ! $ heard ! (got.1 ≡ heap) (λ same_heap.
    -- the pointer is no null, since a token for null is none
    in_a_block ! got.0 (λ p. box_owns (ghosts.dealloc_token heap) Held_row p box.value)
    (fst∗ 𝓤 (never 𝓤) (sem 𝓛 (ghosts.dealloc_token heap (bare (layout Held)) null_ptr))) (λ to from where_it_lies.
    move ! (1 ∷ []) $ split ! $ move ! (1 ∷ []) $ fpick ! (λ parts. fsplit ! $ feq_l ! (λ whole_is. fsplit ! $ feq_l ! (λ pointer_is. fsplit ! $
    rewrite ! 0 (λ (h : Heap.Denot). ‵ (Heap.own_val h parts.1.0)) same_heap refl $
    handle_tells boxed.al ! heap parts.1.0 (λ kept handle_is kept_fits.
    let made = beside_fits Held_row Heap_row laws ghosts to from kept kept_fits in
    let pointer_at = pointer_is ∙ ap (λ (p : Ptr). ptr_val p ∷ []) where_it_lies in
    lands_as ! (ap only (whole_is ∙ (λ j. vstruct (of_list (pointer_at j ++ (handle_is j ++ []))) ∷ []))) refl made $
    -- the two fields go into the struct
    sets ! (of_opd ! (get_in ! (fld ! refl (stop !)) (sub ! 0 refl (whole !)))) refl (tt, tt) $
    sets ! (of_opd ! (get_in ! (fld ! refl (stop !)) (sub ! 1 refl (whole !)))) refl kept_fits $
    sets ! (of_opd ! (get ! refl)) refl kept_fits $
    sets ! (agg ! (and_then ! (get ! refl) (and_then ! (get ! refl) (no_more !)))) refl made $
    move ! (3 ∷ 0 ∷ []) $ closed Held_row Heap_row laws ghosts ! to from kept heap box.value $
    use0 𝓛 (raw (fact 𝓤 (box.value ≡ box.value))) (fact_i 𝓤 (box.value ≡ box.value) (emp 𝓤) refl) $ nothing ! $ nothing ! $ fjoin ! $
    returns ! (look_at ! 0 refl) $ free_all ! refl $ keep ! (4 ∷ 0 ∷ 2 ∷ 1 ∷ []) $
    by ! (leaves 𝓛 ends gone contract at (beside to from kept) (record { at = block_ptr to from; alloc = heap; value = box.value }) ((tt, (tt, tt)), tt) (tt, tt))))))))))))))
