-- The machine value of a box that is taken apart, and what it owns. Assumes `Logic`.
use Rattle.std.proofs.Common.{◌≡◌, ℕ, List, [], ◌∷◌, ◌++◌, refl, subst}
use mathlib.Core.Bool.{true, ◌&&◌}
use lib.Dec.{T}
use seplogic.Ra.Ura.{Ura}
use mir.Syntax.{impl, tnil, dnil}
use mir.Raw.{raw as bare}
use mir.Val.{Val, vptr, vstruct, vcons, vnil, of_list, has_ty, WT}
use base.Logic.{never, fst∗}
use types.Logic.{Logic, sem}
use types.Kit.{Item, Goal, Seq, Step, step, ‵, ◌$◌, move, drop, fsplit, fjoin, fpick, fpack, feq_i, feq_l}
use denote.RattleType.{RattleType, Valss}
use denote.Builtin.{RawPtr}
use denote.Memory.{lone}
use denote.RawPtr.{Ptr, block_ptr, null_ptr, ptr_val, in_a_block}
use denote.Steps.{nothing}
use denote.Param.{layout}
use denote.Param.Laws.{Laws}
use denote.Struct.Struct.{within}
use denote.Struct.Owning.{shape}
use Rattle.core.specs.declared.alloc.Allocator.{Ghosts}
use Rattle.core.proofs.alloc.Calls.{Al, handle_tells}
use Rattle.core.proofs.cell.Inside.{Good}
use Rattle.std_alloc.specs.Box.Ownership.{box_owns}
use Rattle.std_alloc.proofs.ResultValues.{and_tt}
use Rattle.c_handles.specs.contracts.loose.Loose as loose

-- a pointer beside the value of its allocator
abbrev pub beside : (block offset : ℕ) → Val → Val
beside block offset handle = vstruct (vcons (vptr block offset) (vcons handle vnil))

module _ (Behind Heap : RattleType) (laws : Laws Heap) (ghosts : Ghosts Heap.Denot) where
  abbrev pub Apart : RattleType
  Apart = loose.the_row Behind Heap ghosts

  abbrev allocator : Al
  allocator = record { row = Heap; laws = laws; g = ghosts; d = impl [] tnil dnil; drops = impl [] tnil dnil }

  pub beside_fits : (block offset : ℕ) (handle : Val) → Good (layout Heap) handle
      → T (has_ty (layout Heap) handle && true) × WT (beside block offset handle)
  beside_fits block offset handle fits = (and_tt (has_ty (layout Heap) handle) fits.0, (tt, (fits.1, tt)))

  module _ {M : Type 1} {𝓤 : Ura M} {𝓛 : Logic 𝓤} {K : Type 0} {Γ : List (Item 𝓤)} {G : Goal 𝓤 𝓛.H} where
    -- what a box that was taken apart owns, on the way out of its struct
    pub opened : K → (box : Apart.Denot) (words : List Val)
        → ((block offset : ℕ) (handle : Val) → box.at ≡ block_ptr block offset → words ≡ beside block offset handle ∷ [] → Good (layout Heap) handle
        → Seq K 𝓛 (‵ (box_owns (ghosts.dealloc_token box.alloc) Behind (block_ptr block offset) box.value) ∷ ‵ (Heap.own_val box.alloc (handle ∷ [])) ∷ Γ) G)
        → Seq K 𝓛 (‵ (Apart.own_val box words) ∷ Γ) G
    opened k box words go =
        fsplit k $ fpick k (λ parts. fsplit k $ feq_l k (λ whole. fsplit k $ feq_l k (λ pointer. fsplit k $
        handle_tells allocator k box.alloc parts.1.0 (λ handle told fits. move k (1 ∷ []) $ drop k $ move k (1 ∷ []) $
        in_a_block k box.at (λ p. box_owns (ghosts.dealloc_token box.alloc) Behind p box.value)
        (fst∗ 𝓤 (never 𝓤) (sem 𝓛 (ghosts.dealloc_token box.alloc (bare (lone Behind.mir)) null_ptr)))
        (λ block offset lies.
        let by_pointer = subst (λ (ps : List Val). words ≡ vstruct (of_list (ps ++ (parts.1.0 ++ []))) ∷ []) pointer whole in
        let by_handle = subst (λ (hs : List Val). words ≡ vstruct (of_list (ptr_val box.at ∷ (hs ++ []))) ∷ []) told by_pointer in
        go block offset handle lies (subst (λ (p : Ptr). words ≡ vstruct (of_list (ptr_val p ∷ handle ∷ [])) ∷ []) lies by_handle) fits)))))

    -- and back into it
    pub closed : K → (block offset : ℕ) (handle : Val) (heap : Heap.Denot) (value : Behind.Denot)
        → Step K 𝓛 (‵ (Apart.own_val (record { at = block_ptr block offset; alloc = heap; value = value }) (beside block offset handle ∷ [])) ∷ Γ) G
        (‵ (box_owns (ghosts.dealloc_token heap) Behind (block_ptr block offset) value) ∷ ‵ (Heap.own_val heap (handle ∷ [])) ∷ Γ) G
    closed k block offset handle heap value = step (λ rest.
        nothing k $ move k (2 ∷ 0 ∷ []) $ fjoin k $ feq_i k (List Val) (vptr block offset ∷ []) (vptr block offset ∷ []) refl $ fjoin k $
        feq_i k (List Val) (beside block offset handle ∷ []) (beside block offset handle ∷ []) refl $ fjoin k $
        fpack k (Valss (RawPtr ∷ Heap ∷ [])) (within (shape (loose.the_type Behind Heap ghosts)) (block_ptr block offset, (heap, tt)) (beside block offset handle ∷ []))
        (vptr block offset ∷ [], (handle ∷ [], tt)) $
        fjoin k $ rest)
