-- The calls of a program say what the acts on its link say.
use Rattle.link_c.proofs.Prelude.{◌≡◌, ℕ, inl, inr, Bool, true, false, List, [], ◌∷◌, Option, Some, None, refl, ap, sym, ◌∙◌, ◌==◌, ◌&&◌, not, unwrap_or, Acts, begun, calls_of, first_given, language, encoded}
use Rattle.std.proofs.lemmas.Bool.Decides.{eqb_tells}
use Rattle.assistant_machine.specs.Calls.{Call, mtu_of}
use Rattle.assistant_machine.specs.Cuts.{asks}
use Rattle.assistant_machine.specs.Links as links
use Rattle.assistant_machine.specs.Links.{if_its, waiting_of}
use Rattle.assistant_machine.specs.Views as views
use Rattle.assistant_machine.specs.Views.{if_slot, reading_of}
use Rattle.receive_state.specs.Cuts.{cut}
use Rattle.receive_state.specs.declared.state.ReceiveState.{ReceiveState}

same_if : {A : Type 0} (is : Bool) (given : Option A) → if_slot is given ≡ if_its is given
same_if true given = refl
same_if false given = refl

begun_mtu : (mtu : Option ℕ) → mtu_of (begun mtu) ≡ mtu
begun_mtu None = refl
begun_mtu (Some mtu) = refl

given_mtu : (mtu : Option ℕ) (waiting : List (links.Notice (Option ReceiveState))) (calls : List Call) → mtu_of (first_given mtu waiting calls) ≡ mtu_of calls
given_mtu mtu [] calls = refl
given_mtu mtu (notice ∷ rest) calls = refl

same_mtu : (mtu : Option ℕ) (acts : Acts) → mtu_of (calls_of mtu acts) ≡ mtu
same_mtu mtu [] = begun_mtu mtu
same_mtu mtu (links.made slot value ∷ earlier) = same_mtu mtu earlier
same_mtu mtu (links.notified ∷ earlier) = given_mtu mtu (waiting_of earlier) (calls_of mtu earlier) ∙ same_mtu mtu earlier
same_mtu mtu (links.served slot ∷ earlier) = same_mtu mtu earlier
same_mtu mtu (links.joined ∷ earlier) = begun_mtu mtu
same_mtu mtu (links.forged slot octets ∷ earlier) = same_mtu mtu earlier

-- ---- the views

begun_view : (mtu : Option ℕ) (slot : ℕ) → views.view_of slot (begun mtu) ≡ None
begun_view None slot = refl
begun_view (Some mtu) slot = refl

told_view : (mtu known : Option ℕ) (slot at : ℕ) (octets : List ℕ) (view other : Option ReceiveState) → known ≡ mtu → view ≡ other
    → unwrap_or (if_slot ((at == slot) && not (asks known octets)) (reading_of octets)) view
    ≡ unwrap_or (if_its ((at == slot) && not (asks mtu octets)) (reading_of octets)) other
told_view mtu known slot at octets view other is same =
    ap (λ (n : Option ℕ). unwrap_or (if_slot ((at == slot) && not (asks n octets)) (reading_of octets)) view) is
    ∙ ap (λ (given : Option (Option ReceiveState)). unwrap_or given view) (same_if ((at == slot) && not (asks mtu octets)) (reading_of octets))
    ∙ ap (unwrap_or (if_its ((at == slot) && not (asks mtu octets)) (reading_of octets))) same

given_view : (mtu : Option ℕ) (slot : ℕ) (waiting : List (links.Notice (Option ReceiveState))) (calls : List Call) (other : Option ReceiveState)
    → mtu_of calls ≡ mtu → views.view_of slot calls ≡ other
    → views.view_of slot (first_given mtu waiting calls) ≡ unwrap_or (links.first_notified (language mtu) slot waiting) other
given_view mtu slot [] calls other is same = same
given_view mtu slot (notice ∷ rest) calls other is same =
    told_view mtu (mtu_of calls) slot notice.slot (cut mtu (encoded notice.value)) (views.view_of slot calls) other is same

read_view : (is : Bool) (given : Option (Option ReceiveState)) (view other : Option ReceiveState) → view ≡ other
    → unwrap_or (if_slot is given) view ≡ unwrap_or (if_its is given) other
read_view is given view other same =
    ap (λ (read : Option (Option ReceiveState)). unwrap_or read view) (same_if is given) ∙ ap (unwrap_or (if_its is given)) same

-- what a slot gave, told as what this one gave, where it is the same
served_same : {A : Type 0} (at slot : ℕ) (given : ℕ → Option A) → if_its (at == slot) (given at) ≡ if_its (at == slot) (given slot)
served_same at slot given = elim (eqb_tells at slot) [
  | inl is ↦ ap (λ n. if_its (at == slot) (given n)) is.1
  | inr other ↦ ap (λ b. if_its b (given at)) other.0 ∙ sym (ap (λ b. if_its b (given slot)) other.0)
]

pub same_view : (mtu : Option ℕ) (slot : ℕ) (acts : Acts) → views.view_of slot (calls_of mtu acts) ≡ links.view_of (language mtu) slot acts
same_view mtu slot [] = begun_view mtu slot
same_view mtu slot (links.made at value ∷ earlier) = same_view mtu slot earlier
same_view mtu slot (links.notified ∷ earlier) =
    given_view mtu slot (waiting_of earlier) (calls_of mtu earlier) (links.view_of (language mtu) slot earlier) (same_mtu mtu earlier) (same_view mtu slot earlier)
same_view mtu slot (links.served at ∷ earlier) =
    read_view (at == slot) (reading_of (encoded (links.value_of (language mtu) at earlier))) (views.view_of slot (calls_of mtu earlier))
    (links.view_of (language mtu) slot earlier) (same_view mtu slot earlier)
    ∙ ap (λ (read : Option (Option ReceiveState)). unwrap_or read (links.view_of (language mtu) slot earlier))
    (served_same at slot (λ n. reading_of (encoded (links.value_of (language mtu) n earlier))))
same_view mtu slot (links.joined ∷ earlier) = begun_view mtu slot
same_view mtu slot (links.forged at octets ∷ earlier) =
    told_view mtu (mtu_of (calls_of mtu earlier)) slot at octets (views.view_of slot (calls_of mtu earlier)) (links.view_of (language mtu) slot earlier)
    (same_mtu mtu earlier) (same_view mtu slot earlier)

-- ---- the reads that wait

begun_wait : (mtu : Option ℕ) (slot : ℕ) → views.waits_of slot (begun mtu) ≡ false
begun_wait None slot = refl
begun_wait (Some mtu) slot = refl

asked_wait : (is : Bool) (given : Option Bool) (waits other : Bool) → waits ≡ other → unwrap_or (if_slot is given) waits ≡ unwrap_or (if_its is given) other
asked_wait is given waits other same =
    ap (λ (want : Option Bool). unwrap_or want waits) (same_if is given) ∙ ap (unwrap_or (if_its is given)) same

told_wait : (mtu known : Option ℕ) (slot at : ℕ) (octets : List ℕ) (waits other : Bool) → known ≡ mtu → waits ≡ other
    → unwrap_or (if_slot ((at == slot) && asks known octets) (Some true)) waits ≡ unwrap_or (if_its ((at == slot) && asks mtu octets) (Some true)) other
told_wait mtu known slot at octets waits other is same =
    ap (λ (n : Option ℕ). unwrap_or (if_slot ((at == slot) && asks n octets) (Some true)) waits) is
    ∙ asked_wait ((at == slot) && asks mtu octets) (Some true) waits other same

given_wait : (mtu : Option ℕ) (slot : ℕ) (waiting : List (links.Notice (Option ReceiveState))) (calls : List Call) (other : Bool)
    → mtu_of calls ≡ mtu → views.waits_of slot calls ≡ other
    → views.waits_of slot (first_given mtu waiting calls) ≡ unwrap_or (links.first_asked (language mtu) slot waiting) other
given_wait mtu slot [] calls other is same = same
given_wait mtu slot (notice ∷ rest) calls other is same =
    told_wait mtu (mtu_of calls) slot notice.slot (cut mtu (encoded notice.value)) (views.waits_of slot calls) other is same

pub same_wait : (mtu : Option ℕ) (slot : ℕ) (acts : Acts) → views.waits_of slot (calls_of mtu acts) ≡ links.waits_of (language mtu) slot acts
same_wait mtu slot [] = begun_wait mtu slot
same_wait mtu slot (links.made at value ∷ earlier) = same_wait mtu slot earlier
same_wait mtu slot (links.notified ∷ earlier) =
    given_wait mtu slot (waiting_of earlier) (calls_of mtu earlier) (links.waits_of (language mtu) slot earlier) (same_mtu mtu earlier) (same_wait mtu slot earlier)
same_wait mtu slot (links.served at ∷ earlier) =
    asked_wait (at == slot) (Some false) (views.waits_of slot (calls_of mtu earlier)) (links.waits_of (language mtu) slot earlier) (same_wait mtu slot earlier)
same_wait mtu slot (links.joined ∷ earlier) = refl
same_wait mtu slot (links.forged at octets ∷ earlier) =
    told_wait mtu (mtu_of (calls_of mtu earlier)) slot at octets (views.waits_of slot (calls_of mtu earlier)) (links.waits_of (language mtu) slot earlier)
    (same_mtu mtu earlier) (same_wait mtu slot earlier)
