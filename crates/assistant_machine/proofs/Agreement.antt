-- The agreement law: what waits last for a slot carries its value, and where nothing waits the view is the value.
use Rattle.std.proofs.Common.{◌≡◌, ℕ, zero, suc, ◌<◌, ◌≤◌, Bool, true, false, List, [], ◌∷◌, ◌++◌, length, drop, take, length-append, ◌≢◌, refl, sym, ◌∙◌, ap, subst, Option, Some, None, arith}
use Rattle.std.specs.Prelude.{◌&&◌, ◌==◌, ◌-◌, not, if◌then◌else◌, unwrap_or, is_some}
use Rattle.std.specs.Option.{option_or}
use Rattle.std.specs.List.{AllByRecursion}
use Rattle.std.proofs.lemmas.Bool.{false≢true, leb-false}
use Rattle.assistant_machine.proofs.Standing.{drop_more}
use Rattle.assistant_machine.specs.Cuts.{asks}
use Rattle.receive_state.specs.Cuts.{cut}
use Rattle.assistant_machine.specs.Links.{Act, made, notified, served, joined, forged, Language, Notice, Agrees, AreFounded, AreReadBack, IsReadBack}
use Rattle.assistant_machine.specs.Links.{delivered_of, first_asked, first_notified, if_its, is_forged, notices_of, value_of, view_of, waiting_of, waits_of}

-- the value that the last notice of a slot carries
abbrev last_for : {V : Type 0} → ℕ → List (Notice V) → Option V
last_for slot [] = None
last_for slot (notice ∷ rest) = option_or (last_for slot rest) (if notice.slot == slot then Some notice.value else None)

or_of_choice : {A : Type 0} (b : Bool) (value : A) (other behind : Option A)
    → option_or (if b then Some value else other) behind ≡ (if b then Some value else option_or other behind)
or_of_choice true value other behind = refl
or_of_choice false value other behind = refl

last_behind : {V : Type 0} (slot : ℕ) (xs : List (Notice V)) (notice : Notice V)
    → last_for slot (xs ++ notice ∷ []) ≡ (if notice.slot == slot then Some notice.value else last_for slot xs)
last_behind slot [] notice = refl
last_behind slot (x ∷ xs) notice =
    ap (λ o. option_or o (if x.slot == slot then Some x.value else None)) (last_behind slot xs notice)
    ∙ or_of_choice (notice.slot == slot) notice.value (last_for slot xs) (if x.slot == slot then Some x.value else None)

none_for : {V : Type 0} (slot : ℕ) (xs : List (Notice V)) → AllByRecursion (λ (notice : Notice V). (notice.slot == slot) ≡ false) xs
    → last_for slot xs ≡ None
none_for slot [] all = refl
none_for slot (x ∷ xs) all = ap (λ o. option_or o (if x.slot == slot then Some x.value else None)) (none_for slot xs all.1)
    ∙ ap (λ (b : Bool). if b then Some x.value else None) all.0

some_is : {A : Type 0} (a b : A) → Some a ≡ Some b → a ≡ b
some_is a b e = ap (λ o. unwrap_or o a) e

no_some : {A : Type 0} (a : A) → Some a ≢ None
no_some a e = false≢true (sym (ap is_some e))

-- ---- what was delivered

pub delivered_within : {V : Type 0} (acts : List (Act V)) → AreFounded acts → delivered_of acts ≤ length (notices_of acts)
delivered_within [] founded = omega arith
delivered_within (made slot value ∷ earlier) founded =
    let h : delivered_of earlier ≤ length (notices_of earlier) = delivered_within earlier founded in
    subst (λ n. delivered_of earlier ≤ n) (sym (length-append (notices_of earlier) (record { slot = slot; value = value } ∷ []))) (omega (arith, h))
delivered_within (notified ∷ earlier) founded = founded.1
delivered_within (served slot ∷ earlier) founded = delivered_within earlier founded
delivered_within (joined ∷ earlier) founded = omega arith
delivered_within (forged slot octets ∷ earlier) founded = delivered_within earlier founded

-- the first of those that wait, and the rest
record Prefix {A : Type 0} (n : ℕ) (xs : List A) : Type 0 where
  first : A
  rest : List A
  is : drop n xs ≡ first ∷ rest
  behind : drop (suc n) xs ≡ rest

prefix : {A : Type 0} (n : ℕ) (xs : List A) → n < length xs → Prefix n xs
prefix n [] h = absurd (omega arith)
prefix zero (x ∷ xs) h = record { first = x; rest = xs; is = refl; behind = refl }
prefix (suc n) (x ∷ xs) h = let f : Prefix n xs = prefix n xs (omega arith) in record { first = f.first; rest = f.rest; is = f.is; behind = f.behind }

-- ---- values that are read back

chosen_back : {V : Type 0} (language : Language V) (b : Bool) (value old : V) → IsReadBack language value → IsReadBack language old
    → IsReadBack language (unwrap_or (if b then Some value else None) old)
chosen_back language true value old new_back old_back = new_back
chosen_back language false value old new_back old_back = old_back

value_back : {V : Type 0} (language : Language V) (slot : ℕ) (acts : List (Act V)) → AreReadBack language acts
    → IsReadBack language (value_of language slot acts)
value_back language slot [] back = back
value_back language slot (made at value ∷ earlier) back =
    chosen_back language (at == slot) value (value_of language slot earlier) back.0 (value_back language slot earlier back.1)
value_back language slot (notified ∷ earlier) back = value_back language slot earlier back
value_back language slot (served at ∷ earlier) back = value_back language slot earlier back
value_back language slot (joined ∷ earlier) back = value_back language slot earlier back
value_back language slot (forged at octets ∷ earlier) back = value_back language slot earlier back

-- octets that were not cut
take_all : {A : Type 0} (n : ℕ) (xs : List A) → length (take n xs) < n → take n xs ≡ xs
take_all zero xs h = absurd (omega arith)
take_all (suc n) [] h = refl
take_all (suc n) (x ∷ xs) h = ap (λ ys. x ∷ ys) (take_all n xs (omega arith))

uncut : (mtu : Option ℕ) (octets : List ℕ) → asks mtu (cut mtu octets) ≡ false → cut mtu octets ≡ octets
uncut None octets e = refl
uncut (Some mtu) octets e = take_all (mtu - 3) octets (leb-false (mtu - 3) (length (take (mtu - 3) octets)) e)

-- ---- the induction

-- the last notice of the slot that waits carries its value; where none waits, and no read, the view is the value
record IsSettled {V : Type 0} (slot : ℕ) (waiting : List (Notice V)) (waits : Bool) (view value : V) : Type 0 where
  last : (carried : V) → last_for slot waiting ≡ Some carried → carried ≡ value
  settled : last_for slot waiting ≡ None → waits ≡ false → view ≡ value

made_last : {V : Type 0} (b : Bool) (new old carried : V) (before : Option V) → ((carried : V) → before ≡ Some carried → carried ≡ old)
    → (if b then Some new else before) ≡ Some carried → carried ≡ unwrap_or (if b then Some new else None) old
made_last true new old carried before is e = sym (some_is new carried e)
made_last false new old carried before is e = is carried e

made_settled : {V : Type 0} (b waits : Bool) (new old view : V) (before : Option V) → (before ≡ None → waits ≡ false → view ≡ old)
    → (if b then Some new else before) ≡ None → waits ≡ false → view ≡ unwrap_or (if b then Some new else None) old
made_settled true waits new old view before is e f = absurd (no_some new e)
made_settled false waits new old view before is e f = is e f

told_settled : {V : Type 0} (language : Language V) (slot : ℕ) (notice : Notice V) (b q waits : Bool) (view value : V)
    → (asks language.mtu (cut language.mtu (language.encode notice.value)) ≡ q) → IsReadBack language value
    → ((if b then Some notice.value else None) ≡ Some notice.value → notice.value ≡ value)
    → ((if b then Some notice.value else None) ≡ None → waits ≡ false → view ≡ value)
    → unwrap_or (if_its (b && q) (Some true)) waits ≡ false
    → unwrap_or (if_its (b && not q) (language.reading (cut language.mtu (language.encode notice.value)))) view ≡ value
told_settled language slot notice false q waits view value is back carries none quiet = none refl quiet
told_settled language slot notice true true waits view value is back carries none quiet = absurd (false≢true (sym quiet))
told_settled language slot notice true false waits view value is back carries none quiet =
    let whole : cut language.mtu (language.encode notice.value) ≡ language.encode notice.value = uncut language.mtu (language.encode notice.value) is in
    let same : notice.value ≡ value = carries refl in
    ap (λ o. unwrap_or o view) (ap language.reading whole ∙ ap (λ v. language.reading (language.encode v)) same ∙ back)

served_settled : {V : Type 0} (language : Language V) (b waits : Bool) (view value : V) (before : Option V) → IsReadBack language value
    → (before ≡ None → waits ≡ false → view ≡ value) → before ≡ None → unwrap_or (if_its b (Some false)) waits ≡ false
    → unwrap_or (if_its b (language.reading (language.encode value))) view ≡ value
served_settled language true waits view value before back is none quiet = ap (λ o. unwrap_or o view) back
served_settled language false waits view value before back is none quiet = is none quiet

told_is : {V : Type 0} (language : Language V) (slot : ℕ) (notice : Notice V) (rest waiting : List (Notice V)) (waits : Bool) (view value : V)
    → waiting ≡ notice ∷ rest → IsReadBack language value → IsSettled slot (notice ∷ rest) waits view value
    → IsSettled slot rest (unwrap_or (first_asked language slot waiting) waits) (unwrap_or (first_notified language slot waiting) view) value
told_is language slot notice rest waiting waits view value is back s =
    let P : List (Notice _) → Type 0 = λ waiting. IsSettled slot rest (unwrap_or (first_asked language slot waiting) waits) (unwrap_or (first_notified language slot waiting) view) value in
    let here : Option _ = if notice.slot == slot then Some notice.value else None in
    subst P (sym is) (record {
      last = λ carried e. s.last carried (ap (λ o. option_or o here) e);
      settled = λ none quiet.
          told_settled language slot notice (notice.slot == slot) (asks language.mtu (cut language.mtu (language.encode notice.value))) waits view value refl back
          (λ e. s.last notice.value (ap (λ o. option_or o here) none ∙ e)) (λ e. s.settled (ap (λ o. option_or o here) none ∙ e)) quiet;
    })

settles : {V : Type 0} (language : Language V) (slot : ℕ) (acts : List (Act V)) → AreFounded acts → AreReadBack language acts
    → is_forged acts ≡ false
    → IsSettled slot (waiting_of acts) (waits_of language slot acts) (view_of language slot acts) (value_of language slot acts)
settles language slot [] founded back plain = record { last = λ carried e. absurd (no_some carried (sym e)); settled = λ none quiet. refl }
settles language slot (made at value ∷ earlier) founded back plain =
    let s = settles language slot earlier founded back.1 plain in
    let notice : Notice _ = record { slot = at; value = value } in
    let grown : waiting_of (made at value ∷ earlier) ≡ waiting_of earlier ++ notice ∷ [] =
    drop_more (delivered_of earlier) (notices_of earlier) notice (delivered_within earlier founded) in
    let is : last_for slot (waiting_of (made at value ∷ earlier)) ≡ (if at == slot then Some value else last_for slot (waiting_of earlier)) =
    ap (last_for slot) grown ∙ last_behind slot (waiting_of earlier) notice in record {
      last = λ carried e. made_last (at == slot) value (value_of language slot earlier) carried (last_for slot (waiting_of earlier)) s.last (sym is ∙ e);
      settled = λ none quiet. made_settled (at == slot) (waits_of language slot earlier) value (value_of language slot earlier) (view_of language slot earlier)
          (last_for slot (waiting_of earlier)) s.settled (sym is ∙ none) quiet;
    }
settles language slot (notified ∷ earlier) founded back plain =
    let f : Prefix (delivered_of earlier) (notices_of earlier) = prefix (delivered_of earlier) (notices_of earlier) founded.1 in
    let s = settles language slot earlier founded.0 back plain in
    let waits : Bool = waits_of language slot earlier in
    let view = view_of language slot earlier in
    let value = value_of language slot earlier in
    let S : List (Notice _) → Type 0 = λ waiting. IsSettled slot waiting waits view value in
    let R : List (Notice _) → Type 0 = λ rest.
    IsSettled slot rest (unwrap_or (first_asked language slot (waiting_of earlier)) waits) (unwrap_or (first_notified language slot (waiting_of earlier)) view) value in
    subst R (sym f.behind)
    (told_is language slot f.first f.rest (waiting_of earlier) waits view value f.is (value_back language slot earlier back) (subst S f.is s))
settles language slot (served at ∷ earlier) founded back plain =
    let s = settles language slot earlier founded back plain in record {
      last = s.last;
      settled = λ none quiet. served_settled language (at == slot) (waits_of language slot earlier) (view_of language slot earlier) (value_of language slot earlier)
          (last_for slot (waiting_of earlier)) (value_back language slot earlier back) s.settled none quiet;
    }
settles language slot (joined ∷ earlier) founded back plain = record {
  last = λ carried e. absurd (no_some carried (sym e));
  settled = λ none quiet. absurd (false≢true (sym quiet));
}
settles language slot (forged at octets ∷ earlier) founded back plain = absurd (false≢true (sym plain))

pub agrees : {V : Type 0} (language : Language V) (slot : ℕ) (acts : List (Act V)) → AreFounded acts → AreReadBack language acts
    → is_forged acts ≡ false → Agrees language slot acts
agrees language slot acts founded back plain = λ none quiet.
    (settles language slot acts founded back plain).settled (none_for slot (waiting_of acts) none) quiet
