-- `into_loose` hands over what the handle owns. Assumes `Logic`.
use Rattle.sink_c.proofs.Prelude.{◌≡◌, List, [], ◌∷◌, ◌++◌, refl, ap, ◌∙◌, Some, IsSome, Fn, impl, tnil, dnil, Val, SProp, emp, fst∗, never, WpFn, fact, fact_i, tables, sem, ‵, raw, ◌⊛◌, prop, ◌$◌, ◌∵◌, !, qed, by, move, drop, use0, split, fsplit, fjoin, fpick, regoal, agg, sub, whole, stop, fld, of_opd, no_more, and_then, returns, enter, alloc_all, pass_all, free_all, look_at, get, get_in, sets, lone, RattleType, owns, Ptr, block_ptr, null_ptr, in_a_block, types_at, nothing, heard, alive, Stays, stay_dropped, walk_of, Al, handle_tells, Goes-blank, proved_at, leaves, ghosts, beside, beside_fits, closed, boxed}
use mir.Raw.{raw as bare}
use Rattle.std_heap.specs.contracts.Global as heap
use Rattle.std_heap.proofs.Global.TheLaws as heap_laws
use Rattle.sink_c.specs.contracts.machine.SinkMachine.{the_row as R}
use Rattle.sink_c.specs.contracts.handle.VmSink.into_loose.{ended, clauses}
use Rattle.sink_c.specs.contracts.handle.VmSink.into_loose.Key.{name as #self}
use Rattle.sink_c.proofs.handle.VmSink.into_loose.Statement.{statement}
use Rattle.sink_c.proofs.handle.VmSink.into_loose.Code as code
use Rattle.sink_c.proofs.Kept.{slot_at, kept_out, word, word_told}

pub into_loose_spec : {M : Type 1} → statement M
into_loose_spec 𝓤 𝓛 𝓜 𝓡 wired =
    let H = 𝓛.H in let En = ended in let c = clauses 𝓛 𝓜.mem 𝓡.returns in let fn : Fn = code.function in
    let C = (tables 𝓤 H 𝓜 𝓡 𝓡.env).C in let Λ = (tables 𝓤 H 𝓜 𝓡 𝓡.env).Λ in
    let Z : RattleType = heap.the_row in let LZ = heap_laws.the_row_laws in
    let al : Al = record { row = Z; laws = LZ; g = ghosts; d = impl [] tnil dnil; drops = impl [] tnil dnil } in
    let hs : Stays En.signature.params En.kept = (stay_dropped (slot_at 0 En.signature.params) En.kept.0, (stay_dropped (slot_at 1 En.signature.params) En.kept.1.0, tt)) in
    proved_at 𝓛 En hs c 𝓜 𝓡 (Goes-blank 𝓛 0 (slot_at 0 En.signature.params) En.kept.0 (λ κs x f. tt), (Goes-blank 𝓛 0 (slot_at 1 En.signature.params) En.kept.1.0 (λ κs x f. tt), tt)) #self fn (code.unfolded 𝓤 H 𝓜 𝓡 wired) (λ z are.
    let v = z.0.3.0 in let a = z.0.3.1.0 in let Post : Val → SProp 𝓤 = (walk_of 𝓛 En hs c).post z in
    qed 𝓛 ((raw (alive 𝓛 En.signature z.0.0 z.0.1) ⊛ ‵ (owns (types_at En.signature.params z.0.0) z.0.3 z.0.4)) ∷ raw (fact 𝓤 (IsSome v.kept)) ∷ []) ∵ move ! (1 ∷ []) $ heard ! (IsSome v.kept) (λ has.
    split ! $ move ! (1 ∷ []) $ fsplit ! $ fsplit ! $ drop ! $
    kept_out v.at v.kept has (λ x keeps. fpick ! (λ alloc.
    in_a_block ! v.at (λ p. boxed alloc p x) (fst∗ 𝓤 (never 𝓤) (sem 𝓛 (ghosts.dealloc_token alloc (bare (lone R.mir)) null_ptr))) (λ b o at_b.
    move ! (1 ∷ []) $ fsplit ! $ move ! (1 ∷ []) $ drop ! $ handle_tells al ! a z.0.4.1.0 (λ h ea fits.
    -- [the handle of the heap; the box; the tokens]
    let told : z.0.4.0 ≡ word (block_ptr b o) ∷ [] = word_told v.at z.0.4.0 are.0.0 ∙ ap (λ (p : Ptr). word p ∷ []) at_b in
    regoal ! (λ (us : List Val). prop (WpFn 𝓤 H C Λ fn us Post)) (λ i. told i ++ (ea i ++ [])) refl $
    enter ! C Λ fn (word (block_ptr b o) ∷ h ∷ []) Post $ alloc_all ! (λ l. pass_all ! refl ((tt, (tt, tt)), (fits, tt)) $
    sets ! (of_opd ! (get_in ! (fld ! refl (stop !)) (sub ! 0 refl (whole !)))) refl (tt, tt) $
    sets ! (of_opd ! (get ! refl)) refl (tt, tt) $
    sets ! (agg ! (and_then ! (get ! refl) (and_then ! (get ! refl) (no_more !)))) refl (beside_fits R Z LZ ghosts b o h fits) $
    returns ! (look_at ! 0 refl) $ free_all ! refl $ move ! (1 ∷ 0 ∷ []) $ closed R Z LZ ghosts ! b o h a x $
    use0 𝓛 (raw (fact 𝓤 (v.kept ≡ Some x))) (fact_i 𝓤 (v.kept ≡ Some x) (emp 𝓤) keeps) $ nothing ! $ nothing ! $ fjoin ! $ nothing ! $ fjoin ! $ move ! (3 ∷ 0 ∷ 2 ∷ 1 ∷ []) $
    by ! (leaves 𝓛 En hs c z (beside b o h) (record { at = block_ptr b o; alloc = a; value = x }) (tt, (tt, tt)) (tt, (tt, tt))))))))))
