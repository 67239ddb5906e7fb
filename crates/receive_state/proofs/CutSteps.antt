-- One step of reading: the octets end within a field, or reading goes on behind it.
use Rattle.receive_state.proofs.Prelude.{◌≡◌, ℕ, ◌+◌, ◌<◌, ◌≤◌, List, [], ◌∷◌, ◌++◌, length, Option, Some, None, Result, Err, sym, ap, subst, ◌∙◌, inl, inr, arith, add-zero, ◌⊎◌, length-append, Field, octet_in, octets_in, place_in, octet, octet_takes, octets_take, EndsIn, ◌>>=◌, needed, field_in}
use Rattle.receive_state.proofs.Cuts.{ends_split, no_octet, no_octets, octet_short, octets_short}
use Rattle.receive_state.proofs.Heads.{octets_again_at}

-- ---- one step of reading

pub step_none : {A B : Type 0} (place : ℕ) (read : Option A) (f : A → Result B ℕ) → read ≡ None → (needed place read >>= f) ≡ Err place
step_none place read f e = grind arith

pub step_some : {A B : Type 0} (place : ℕ) (read : Option A) (f : A → Result B ℕ) (x : A) → read ≡ Some x → (needed place read >>= f) ≡ f x
step_some place read f x e = grind arith

pub step_err : {A B : Type 0} (place p : ℕ) (read : Option A) (f : A → Result B ℕ) → (needed place read >>= f) ≡ Err p → ((read ≡ None) × (p ≡ place)) ⊎ ((x : A) × (read ≡ Some x) × (f x ≡ Err p))
step_err place p read f e = grind arith

-- ---- told: the octets end in one of these fields

pub told_octet : {B : Type 0} (C : Result B ℕ → Type 0) (whole rest : List ℕ) (value : ℕ) (first : Field) (others : List Field) (p q : ℕ) (f : ℕ × List ℕ → Result B ℕ) → first.octets ≡ octet value
    → length rest ≤ length whole → p ≡ place_in whole rest + q → EndsIn q (first ∷ others) rest → C (Err p)
    → ((after : List ℕ) (n : ℕ) → length after ≤ length whole → p ≡ place_in whole after + n → EndsIn n others after → C (f (value, after))) → C (field_in whole octet_in rest >>= f)
told_octet C whole rest value first others p q f o le at ends short next =
    elim (ends_split first others q rest ends) [
      | inl here ↦ grind (arith, length, place_in, add-zero, step_none, octet_in, no_octet)
      | inr more ↦
          let parts : rest ≡ octet value ++ more.1 = more.3 ∙ ap (λ (x : List ℕ). x ++ more.1) o in
          let read : octet_in rest ≡ Some (value, more.1) = ap octet_in parts in
          let len : length rest ≡ 1 + length more.1 = omega (arith, ap length parts) in
          let wide : length first.octets ≡ 1 = ap length o in
          subst C (sym (step_some (place_in whole rest) (octet_in rest) f (value, more.1) read)) (next more.1 more.0 (omega arith) (omega (arith, more.2)) more.4)
    ]

pub told_octets : {B : Type 0} (C : Result B ℕ → Type 0) (whole rest : List ℕ) (k : ℕ) (value : List ℕ) (first : Field) (others : List Field) (p q : ℕ) (f : List ℕ × List ℕ → Result B ℕ)
    → length value ≡ k → first.octets ≡ value
    → length rest ≤ length whole → p ≡ place_in whole rest + q → EndsIn q (first ∷ others) rest → C (Err p)
    → ((after : List ℕ) (n : ℕ) → length after ≤ length whole → p ≡ place_in whole after + n → EndsIn n others after → C (f (value, after))) → C (field_in whole (octets_in k) rest >>= f)
told_octets C whole rest k value first others p q f width o le at ends short next =
    elim (ends_split first others q rest ends) [
      | inl here ↦ grind (arith, length, place_in, add-zero, step_none, octets_in, no_octets)
      | inr more ↦
          let parts : rest ≡ value ++ more.1 = more.3 ∙ ap (λ (x : List ℕ). x ++ more.1) o in
          let read : octets_in k rest ≡ Some (value, more.1) = ap (octets_in k) parts ∙ octets_again_at k value more.1 width in
          let len : length rest ≡ length value + length more.1 = ap length parts ∙ length-append value more.1 in
          let wide : length first.octets ≡ length value = ap length o in
          subst C (sym (step_some (place_in whole rest) (octets_in k rest) f (value, more.1) read)) (next more.1 more.0 (omega arith) (omega (arith, more.2)) more.4)
    ]

-- ---- found: reading ended at one of these fields

pub find_octet : {B G : Type 0} (whole rest : List ℕ) (p : ℕ) (f : ℕ × List ℕ → Result B ℕ) → (field_in whole octet_in rest >>= f) ≡ Err p
    → (rest ≡ [] → p ≡ place_in whole rest → G) → ((value : ℕ) (after : List ℕ) → rest ≡ octet value ++ after → f (value, after) ≡ Err p → G) → G
find_octet whole rest p f e here next = grind (arith, step_err, place_in, octet_in, octet_short, octet_takes)

pub find_octets : {B G : Type 0} (whole rest : List ℕ) (k p : ℕ) (f : List ℕ × List ℕ → Result B ℕ) → (field_in whole (octets_in k) rest >>= f) ≡ Err p
    → (length rest < k → p ≡ place_in whole rest → G) → ((value after : List ℕ) → rest ≡ value ++ after → length value ≡ k → f (value, after) ≡ Err p → G) → G
find_octets whole rest k p f e here next = grind (arith, step_err, place_in, octets_in, octets_short, octets_take)
