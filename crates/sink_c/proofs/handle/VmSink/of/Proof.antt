-- `of` takes over what the loose box owns. Assumes `Logic`.
use Rattle.sink_c.proofs.Prelude.{◌≡◌, List, [], ◌∷◌, ◌++◌, refl, sym, subst, Some, Fn, Val, SProp, ent, emp, id⊢, ftrue, WpFn, fact, fact_i, tables, ‵, raw, ◌⊛◌, ◌$◌, ◌∵◌, !, qed, by, move, drop, use0, split, fsplit, fjoin, fpack, suffices, agg, sub, whole, stop, fld, of_opd, no_more, and_then, returns, enter, alloc_all, pass_all, free_all, look_at, get, get_in, sets, RattleType, owns, block_ptr, types_at, nothing, alive, Stays, stay_dropped, walk_of, Goes-blank, proved_at, leaves, ghosts, Global, boxed, beside, beside_fits, opened, ended, clauses}
use Rattle.std_heap.specs.contracts.Global as heap
use Rattle.std_heap.proofs.Global.TheLaws as heap_laws
use Rattle.sink_c.specs.contracts.machine.SinkMachine.{the_row as R}
use Rattle.sink_c.specs.contracts.handle.VmSink.of.Key.{name as #self}
use Rattle.sink_c.proofs.handle.VmSink.of.Statement.{statement}
use Rattle.sink_c.proofs.handle.VmSink.of.Code as code
use Rattle.sink_c.proofs.Kept.{slot_at, word, word_own, word_made}

pub of_spec : {M : Type 1} → statement M
of_spec 𝓤 𝓛 𝓜 𝓡 wired =
    let H = 𝓛.H in let En = ended in let c = clauses 𝓛 𝓜.mem 𝓡.returns in let fn : Fn = code.function in
    let C = (tables 𝓤 H 𝓜 𝓡 𝓡.env).C in let Λ = (tables 𝓤 H 𝓜 𝓡 𝓡.env).Λ in
    let Z : RattleType = heap.the_row in let LZ = heap_laws.the_row_laws in
    let hs : Stays En.signature.params En.kept = (stay_dropped (slot_at 0 En.signature.params) En.kept.0, tt) in
    proved_at 𝓛 En hs c 𝓜 𝓡 (Goes-blank 𝓛 0 (slot_at 0 En.signature.params) En.kept.0 (λ κs x f. tt), tt) #self fn (code.unfolded 𝓤 H 𝓜 𝓡 wired) (λ z are.
    let v = z.0.3.0 in let Post : Val → SProp 𝓤 = (walk_of 𝓛 En hs c).post z in let Run : List Val → SProp 𝓤 = λ ws. WpFn 𝓤 H C Λ fn ws Post in
    qed 𝓛 ((raw (alive 𝓛 En.signature z.0.0 z.0.1) ⊛ ‵ (owns (types_at En.signature.params z.0.0) z.0.3 z.0.4)) ∷ ‵ ftrue ∷ []) ∵ move ! (1 ∷ []) $ drop ! $ split ! $ move ! (1 ∷ []) $ fsplit ! $
    opened R Z LZ ghosts ! v z.0.4.0 (λ b o h e ws fits. let w : Val = beside b o h in
    -- [the box; the handle of the heap; nothing; the tokens]
    move ! (1 ∷ 2 ∷ []) $ drop ! $ drop ! $
    suffices ! (Run (w ∷ [])) (subst (λ (us : List Val). ent 𝓤 (Run (w ∷ [])) (Run us)) (sym (λ i. ws i ++ [])) (id⊢ 𝓤 (Run (w ∷ [])))) $
    enter ! C Λ fn (w ∷ []) Post $ alloc_all ! (λ l. pass_all ! refl (beside_fits R Z LZ ghosts b o h fits, tt) $
    sets ! (of_opd ! (get_in ! (fld ! refl (stop !)) (sub ! 0 refl (whole !)))) refl (tt, tt) $
    sets ! (of_opd ! (get ! refl)) refl (tt, tt) $
    sets ! (agg ! (and_then ! (get ! refl) (no_more !))) refl (tt, (tt, tt)) $
    returns ! (look_at ! 0 refl) $ free_all ! refl $
    fpack ! Global (λ it. boxed it (block_ptr b o) v.value) v.alloc $ use0 𝓛 (‵ (word_own (block_ptr b o) (word (block_ptr b o) ∷ []))) (word_made 𝓛 (block_ptr b o)) $ fjoin ! $
    use0 𝓛 (raw (fact 𝓤 (Some v.value ≡ Some v.value))) (fact_i 𝓤 (Some v.value ≡ Some v.value) (emp 𝓤) refl) $ nothing ! $ nothing ! $ fjoin ! $ move ! (3 ∷ 0 ∷ 2 ∷ 1 ∷ []) $
    by ! (leaves 𝓛 En hs c z (word (block_ptr b o)) (record { at = block_ptr b o; kept = Some v.value }) (tt, tt) (tt, tt)))))
