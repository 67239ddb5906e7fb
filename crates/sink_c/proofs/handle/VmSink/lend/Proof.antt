-- `lend` lends what lies in the block, and the handle follows it. Assumes `Logic`.
use Rattle.sink_c.proofs.Prelude.{◌≡◌, ℕ, List, [], ◌∷◌, refl, sym, ap, ◌∙◌, IsSome, proved, Ura, ent, sep, id⊢, fst∗, never, GName, Fml, ftrue, fsep, flft, named, Val, vptr, fact, tables, Logic, sem, ‵, raw, ◌⊛◌, some, later, at_ret, ◌$◌, ◌∵◌, !, qed, done, move, keep, use1, split, split3, join, fsplit, fsplit3, fjoin, fpack, fpick, pick, await, rewrite, suffices, frame, group, enter, of_opd, addr, load, stop, fld, first, blocks, exec, returns, alloc_all, pass_all, free_all, look_at, get, through, sets, sets_last, env, whole, sub, look_in, cell_at, part_at, mem, lone, Ptr, block_ptr, null_ptr, in_a_block, plain, mut_ref_to, nothing, opens, peeks, heard, no, Struct, Stays, walk_of, says, stay_dropped, Goes-spent_ref, ends_at, Global, ghosts, boxed, SinkMachine}
use denote.Memory.{part_of}
use Rattle.std.proofs.VecSteps.Shapes.{after}
use base.Fraction.{full_share}
use mir.Raw.{raw as bare}
use denote.Follow.{follows, Part, lends_Part}
use denote.Laws.{shows}
use denote.Ref.{MutRef, mut_vals, mut_Tells}
use denote.Struct.Owning.{shape}
use Rattle.sink_c.specs.Lending.{with_kept}
use Rattle.sink_c.specs.contracts.machine.SinkMachine.{the_row as R}
use Rattle.sink_c.specs.contracts.handle.VmSink.{the_row as B, the_type}
use Rattle.sink_c.proofs.handle.VmSink.TheLaws.{lowers}
use Rattle.sink_c.specs.contracts.handle.VmSink.lend as f
use Rattle.sink_c.proofs.handle.VmSink.lend.Statement.{statement}
use Rattle.sink_c.proofs.handle.VmSink.lend.Code as code
use Rattle.sink_c.proofs.Kept.{kept_out}

module _ {M : Type 1} {𝓤 : Ura M} (𝓛 : Logic 𝓤) (h : B.Denot) (alloc : Global) (b o rb ro : ℕ) (at_b : h.at ≡ block_ptr b o) (us : List Val) where
  abbrev Rest : Fml
  Rest = fsep (fsep (ghosts.dealloc_token alloc (bare (lone R.mir)) (block_ptr b o)) ((Struct (shape the_type)).own_val (h.at, tt) us)) (cell_at full_share B.mir us rb ro)

  returned : (w : SinkMachine) → ent 𝓤 (sep 𝓤 (sem 𝓛 ((mem R).own_at w b o)) (sem 𝓛 Rest)) (sem 𝓛 ((mem B).own_at (with_kept h w) rb ro))
  unfolding part_of
  returned w =
      qed 𝓛 (‵ (part_at R full_share w b o) ∷ ‵ Rest ∷ []) ∵ move ! (1 ∷ []) $ fsplit ! $ fsplit ! $ move ! (3 ∷ 0 ∷ []) $ fjoin ! $
      rewrite ! 0 (λ (p : Ptr). ‵ (boxed alloc p w)) (sym at_b) refl $ fpack ! Global (λ it. boxed it h.at w) alloc $ move ! (1 ∷ 0 ∷ []) $ fjoin ! $ move ! (1 ∷ 0 ∷ []) $ fjoin ! $
      fpack ! (List Val) (λ ws. fsep (cell_at full_share B.mir ws rb ro) (B.own_val (with_kept h w) ws)) us $ done !

abbrev stayed : Stays f.ended.signature.params f.ended.kept
stayed = (stay_dropped (mut_ref_to (0 ∷ []) tt (plain (λ _. B))) no, tt)

pub lend_spec : {M : Type 1} → statement M
lend_spec 𝓤 𝓛 𝓜 𝓡 wired =
    let c = f.clauses 𝓛 𝓜.mem 𝓡.returns in let W = walk_of 𝓛 f.ended stayed c in let 𝓣 = tables 𝓤 𝓛.H 𝓜 𝓡 𝓡.env in
    proved 𝓛 f.ended stayed c 𝓜 𝓡 (Goes-spent_ref 𝓛 1 (0 ∷ []) tt (plain (λ _. B)), tt)
    f.Key.name code.function (code.unfolded 𝓤 𝓛.H 𝓜 𝓡 wired)
    (λ κs. (mut_vals, tt)) (λ κs. (mut_Tells (named 0) κs.0 B, tt)) (λ κs qs bounds a _ are.
    let rb = a.0.ref_ptr.0 in let ro = a.0.ref_ptr.1 in let γ = a.0.ghost_name in let h = a.0.now in let vs = mut_vals a.0 in
    let y : W.Ghost = ((κs, qs, bounds, a, (vs, tt)), tt) in
    qed 𝓛 (((‵ (flft κs.0 qs.0) ⊛ ‵ ftrue) ⊛ ‵ ((MutRef (named 0) κs.0 B).own_val a.0 vs) ⊛ ‵ ftrue) ∷ raw (fact 𝓤 (IsSome h.kept)) ∷ []) ∵
    move ! (1 ∷ []) $ heard ! (IsSome h.kept) (λ has.
    split ! $ split ! $ move ! (2 ∷ []) $ split ! $ keep ! (0 ∷ 2 ∷ []) $
    enter ! _ _ _ _ _ $ alloc_all ! (λ l. pass_all ! refl ((tt, tt), tt) $
    fsplit3 ! $ move ! (1 ∷ 2 ∷ 3 ∷ []) $ opens ! tt B rb ro (λ us.
    move ! (1 ∷ []) $ peeks ! B _ (shows 𝓛 B) h us (λ is. fsplit ! $ move ! (1 ∷ []) $
    kept_out h.at h.kept has (λ x keeps. fpick ! (λ alloc.
    in_a_block ! h.at (λ p. boxed alloc p x) (fst∗ 𝓤 (never 𝓤) (sem 𝓛 (ghosts.dealloc_token alloc (bare (lone R.mir)) null_ptr))) (λ b o at_b.
    let is_word = lowers.val_is h us is ∙ ap (λ (p : Ptr). lowers.lowered (record h { at = p }) ∷ []) at_b in
    let Cell = λ (ws : List Val). ‵ (cell_at full_share B.mir ws rb ro) in
    rewrite ! 2 Cell is_word refl $ fsplit ! $
    first ! $ blocks ! $
    sets ! (of_opd ! (load ! (through ! refl (fld ! refl (stop !))) (look_in ! 3 (sub ! 0 refl (whole !))))) refl (tt, tt) $
    sets ! (of_opd ! (get ! refl)) refl (tt, tt) $
    sets_last ! (addr ! (through ! refl (stop !))) refl (tt, tt) $
    exec ! 𝓣.C 𝓣.Λ (env code.Mir.locals l) (after 1 (code.function).body) (at_ret _ (W.post y)) $
    sets ! (of_opd ! (get ! refl)) refl (tt, tt) $
    rewrite ! 3 Cell (sym is_word) refl $
    let fields = (Struct (shape the_type)).own_val (h.at, tt) us in
    let rest = fsep (fsep (ghosts.dealloc_token alloc (bare (lone R.mir)) (block_ptr b o)) fields) (cell_at full_share B.mir us rb ro) in
    let back = returned 𝓛 h alloc b o rb ro at_b us in
    move ! (1 ∷ 2 ∷ []) $ fjoin ! $ move ! (0 ∷ 2 ∷ []) $ fjoin ! $ move ! (2 ∷ 3 ∷ 4 ∷ 1 ∷ 0 ∷ []) $ group ! 5 $
    use1 𝓛 (later (some (λ (γ' : GName). raw (Part 𝓛 B R (with_kept h) (named 0) κs.0 qs.0 rb ro b o γ (sem 𝓛 rest) back x γ'))))
    (lends_Part 𝓛 B R (with_kept h) (named 0) κs.0 qs.0 rb ro b o γ (sem 𝓛 rest) back (B.coded.code h) (B.coded.code h) x) $ await ! tt $ pick ! (λ γ'.
    returns ! (look_at ! 0 refl) $ free_all ! refl $ keep ! (0 ∷ []) $
    use1 𝓛 (‵ ((MutRef (named 0) κs.0 R).own_val (record { ref_ptr = (b, o); ghost_name = γ'; now = x }) (vptr b o ∷ [])) ⊛ ‵ (flft κs.0 qs.0) ⊛ ‵ (follows B R γ γ' (with_kept h))) (id⊢ 𝓤 _) $ split3 ! $
    suffices ! _ (ends_at 𝓛 f.ended stayed c y (vptr b o) (record { ref_ptr = (b, o); ghost_name = γ'; now = x }) (tt, tt) (tt, tt)) $
    nothing ! $ nothing ! $ fjoin ! $ join ! $ nothing ! $ move ! (2 ∷ 0 ∷ []) $ join ! $ join ! $ frame ! $ says ! keeps $ done !)))))))))
