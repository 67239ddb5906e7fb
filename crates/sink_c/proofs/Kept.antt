-- What a handle owns, by what it keeps, and its machine value. Assumes `Logic`.
use Rattle.sink_c.proofs.Prelude.{◌≡◌, ℕ, zero, suc, List, [], ◌∷◌, ◌++◌, refl, subst, ◌∙◌, Bool, true, false, Option, Some, None, IsSome, Ura, Val, vstruct, vcons, vnil, of_list, ent, emp, Fml, fex, Logic, sem, Goal, Seq, Item, ‵, Ptr, RawPtr, ptr_val, Slot, plain, Struct, Global, boxed, owned, SinkMachine}
use denote.Builtin.{unit}
use denote.Shadow.{shadow, makes_shadow}

abbrev pub slot_at : {n : ℕ} → ℕ → List (Slot n) → Slot n
slot_at k [] = plain (λ _. unit)
slot_at zero (s ∷ ss) = s
slot_at (suc k) (s ∷ ss) = slot_at k ss

abbrev off : Bool → Type 0
off true = ⊥
off false = Unit {0}

module _ {M : Type 1} {𝓤 : Ura M} {𝓛 : Logic 𝓤} {K : Type 0} {Γ : List (Item 𝓤)} {G : Goal 𝓤 𝓛.H} where
  -- a handle that keeps a machine owns its box
  pub kept_out : (p : Ptr) (k : Option SinkMachine) → IsSome k → ((x : SinkMachine) → k ≡ Some x → Seq K 𝓛 (‵ (fex Global (λ alloc. boxed alloc p x)) ∷ Γ) G) → Seq K 𝓛 (‵ (owned p k) ∷ Γ) G
  kept_out p None some go = absurd (subst off some tt)
  kept_out p (Some x) some go = go x refl

-- a struct of one pointer, by value
abbrev pub word : Ptr → Val
word p = vstruct (vcons (ptr_val p) vnil)

abbrev pub word_own : Ptr → List Val → Fml
word_own p = (Struct (record { name = []; args = []; types = []; fields = RawPtr ∷ [] })).own_val (p, tt)

pub word_told : (p : Ptr) (vs : List Val) → shadow (word_own p vs) → vs ≡ word p ∷ []
word_told p vs s = s.1.0 ∙ (λ i. vstruct (of_list (s.1.1.0 i ++ [])) ∷ [])

pub word_made : {M : Type 1} {𝓤 : Ura M} (𝓛 : Logic 𝓤) (p : Ptr) → ent 𝓤 (emp 𝓤) (sem 𝓛 (word_own p (word p ∷ [])))
word_made 𝓛 p = makes_shadow 𝓛 (word_own p (word p ∷ [])) (λ _. (tt, (tt, tt))) ((ptr_val p ∷ [], tt), (refl, (refl, tt)))
