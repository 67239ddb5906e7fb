-- A link on which all that waits is delivered and all reads that wait are served.
use Rattle.std.proofs.Common.{◌≡◌, ℕ, zero, suc, ◌+◌, ◌-◌, ◌<◌, ◌≤◌, inl, inr, Bool, true, false, cond, List, [], ◌∷◌, length, drop, length-drop, refl, sym, ◌∙◌, ap, subst, Some, arith}
use Rattle.std.specs.Prelude.{◌==◌, unwrap_or}
use Rattle.std.specs.List.{AllByRecursion, filter, range_with_len}
use Rattle.std.proofs.lemmas.Bool.{cases_eq, eq-eqb}
use Rattle.assistant_machine.specs.Links.{Act, served, Language, Notice, AreFounded, AreReadBack}
use Rattle.assistant_machine.specs.Links.{delivered_of, drained, if_its, is_forged, notices_of, reads_of, serve_all, tell_all, notified_out, value_of, view_of, waiting_of, waits_of}
use Rattle.assistant_machine.proofs.Agreement.{agrees, delivered_within}

-- ---- notices

told_notices : {V : Type 0} (n : ℕ) (acts : List (Act V)) → notices_of (tell_all n acts) ≡ notices_of acts
told_notices zero acts = refl
told_notices (suc n) acts = told_notices n acts

told_delivered : {V : Type 0} (n : ℕ) (acts : List (Act V)) → delivered_of (tell_all n acts) ≡ n + delivered_of acts
told_delivered zero acts = omega arith
told_delivered (suc n) acts =
    let h : delivered_of (tell_all n acts) ≡ n + delivered_of acts = told_delivered n acts in ap suc h ∙ omega arith

told_founded : {V : Type 0} (n : ℕ) (acts : List (Act V)) → AreFounded acts → n + delivered_of acts ≤ length (notices_of acts) → AreFounded (tell_all n acts)
told_founded zero acts founded within = founded
told_founded (suc n) acts founded within = (
  told_founded n acts founded (omega (arith, within)),
  let d : delivered_of (tell_all n acts) ≡ n + delivered_of acts = told_delivered n acts in
      let e : length (notices_of (tell_all n acts)) ≡ length (notices_of acts) = ap length (told_notices n acts) in omega (arith, within, d, e),
)

told_value : {V : Type 0} (language : Language V) (slot n : ℕ) (acts : List (Act V)) → value_of language slot (tell_all n acts) ≡ value_of language slot acts
told_value language slot zero acts = refl
told_value language slot (suc n) acts = told_value language slot n acts

told_back : {V : Type 0} (language : Language V) (n : ℕ) (acts : List (Act V)) → AreReadBack language acts → AreReadBack language (tell_all n acts)
told_back language zero acts back = back
told_back language (suc n) acts back = told_back language n acts back

told_plain : {V : Type 0} (n : ℕ) (acts : List (Act V)) → is_forged (tell_all n acts) ≡ is_forged acts
told_plain zero acts = refl
told_plain (suc n) acts = told_plain n acts

drop_all : {A : Type 0} (n : ℕ) (xs : List A) → length xs ≤ n → drop n xs ≡ []
drop_all zero [] h = refl
drop_all zero (x ∷ xs) h = absurd (omega arith)
drop_all (suc n) [] h = refl
drop_all (suc n) (x ∷ xs) h = drop_all n xs (omega arith)

none_waits_then : {V : Type 0} (acts : List (Act V)) → AreFounded acts → waiting_of (notified_out acts) ≡ []
none_waits_then acts founded =
    let n : ℕ = length (waiting_of acts) in
    let l : n ≡ length (notices_of acts) - delivered_of acts = length-drop (delivered_of acts) (notices_of acts) in
    let h : delivered_of acts ≤ length (notices_of acts) = delivered_within acts founded in
    ap (λ xs. drop (delivered_of (tell_all n acts)) xs) (told_notices n acts) ∙ ap (λ k. drop k (notices_of acts)) (told_delivered n acts)
    ∙ drop_all (n + delivered_of acts) (notices_of acts) (omega (arith, l, h))

-- ---- reads

served_waiting : {V : Type 0} (slots : List ℕ) (acts : List (Act V)) → waiting_of (serve_all slots acts) ≡ waiting_of acts
served_waiting [] acts = refl
served_waiting (slot ∷ slots) acts = served_waiting slots (served slot ∷ acts)

served_founded : {V : Type 0} (slots : List ℕ) (acts : List (Act V)) → AreFounded acts → AreFounded (serve_all slots acts)
served_founded [] acts founded = founded
served_founded (slot ∷ slots) acts founded = served_founded slots (served slot ∷ acts) founded

served_value : {V : Type 0} (language : Language V) (slot : ℕ) (slots : List ℕ) (acts : List (Act V))
    → value_of language slot (serve_all slots acts) ≡ value_of language slot acts
served_value language slot [] acts = refl
served_value language slot (at ∷ slots) acts = served_value language slot slots (served at ∷ acts)

served_back : {V : Type 0} (language : Language V) (slots : List ℕ) (acts : List (Act V)) → AreReadBack language acts → AreReadBack language (serve_all slots acts)
served_back language [] acts back = back
served_back language (slot ∷ slots) acts back = served_back language slots (served slot ∷ acts) back

served_plain : {V : Type 0} (slots : List ℕ) (acts : List (Act V)) → is_forged (serve_all slots acts) ≡ is_forged acts
served_plain [] acts = refl
served_plain (slot ∷ slots) acts = served_plain slots (served slot ∷ acts)

still_quiet : (b waits : Bool) → waits ≡ false → unwrap_or (if_its b (Some false)) waits ≡ false
still_quiet true waits e = refl
still_quiet false waits e = e

served_quiet : {V : Type 0} (language : Language V) (slot : ℕ) (slots : List ℕ) (acts : List (Act V)) → waits_of language slot acts ≡ false
    → waits_of language slot (serve_all slots acts) ≡ false
served_quiet language slot [] acts e = e
served_quiet language slot (at ∷ slots) acts e =
    served_quiet language slot slots (served at ∷ acts) (still_quiet (at == slot) (waits_of language slot acts) e)

-- the reads of a range that are picked are served, that of the slot among them
served_range : {V : Type 0} (language : Language V) (picked : ℕ → Bool) (slot start n : ℕ) (acts : List (Act V)) → start ≤ slot → slot < start + n
    → picked slot ≡ true → waits_of language slot (serve_all (filter picked (range_with_len start n)) acts) ≡ false
served_range language picked slot start zero acts least below picks = absurd (omega arith)
served_range language picked slot start (suc n) acts least below picks =
    let rest : List ℕ = filter picked (range_with_len (start + 1) n) in
    let P : List ℕ → Type 0 = λ slots. waits_of language slot (serve_all slots acts) ≡ false in
    elim (cases_eq start slot) [
      | inl e ↦ subst P (ap (λ (b : Bool). cond b (start ∷ rest) rest) (sym (ap picked e ∙ picks)))
          (served_quiet language slot rest (served start ∷ acts)
          (ap (λ (b : Bool). unwrap_or (if_its b (Some false)) (waits_of language slot acts)) (eq-eqb start slot e)))
      | inr other ↦ elim (picked start) as (λ b. P (cond b (start ∷ rest) rest)) [
        | true ↦ served_range language picked slot (start + 1) n (served start ∷ acts) (omega arith) (omega arith) picks
        | false ↦ served_range language picked slot (start + 1) n acts (omega arith) (omega arith) picks
      ]
    ]

quiet_then : {V : Type 0} (language : Language V) (slots slot : ℕ) (acts : List (Act V)) (waits : Bool) → slot < slots → waits_of language slot acts ≡ waits
    → waits_of language slot (serve_all (reads_of language slots acts) acts) ≡ false
quiet_then language slots slot acts true below is = served_range language (λ slot. waits_of language slot acts) slot 0 slots acts (omega arith) (omega arith) is
quiet_then language slots slot acts false below is = served_quiet language slot (reads_of language slots acts) acts is

pub drained_agrees : {V : Type 0} (language : Language V) (slots slot : ℕ) (acts : List (Act V)) → slot < slots → AreFounded acts
    → AreReadBack language acts → is_forged acts ≡ false → view_of language slot (drained language slots acts) ≡ value_of language slot acts
drained_agrees language slots slot acts below founded back plain =
    let n : ℕ = length (waiting_of acts) in
    let l : n ≡ length (notices_of acts) - delivered_of acts = length-drop (delivered_of acts) (notices_of acts) in
    let h : delivered_of acts ≤ length (notices_of acts) = delivered_within acts founded in
    let out = notified_out acts in
    let reads : List ℕ = reads_of language slots out in
    let P : List (Notice _) → Type 0 = λ waiting. AllByRecursion (λ notice. (notice.slot == slot) ≡ false) waiting in
    agrees language slot (serve_all reads out) (served_founded reads out (told_founded n acts founded (omega (arith, l, h))))
    (served_back language reads out (told_back language n acts back)) (served_plain reads out ∙ told_plain n acts ∙ plain)
    (subst P (sym (served_waiting reads out ∙ none_waits_then acts founded)) tt)
    (quiet_then language slots slot out (waits_of language slot out) below refl)
    ∙ served_value language slot reads out ∙ told_value language slot n acts
