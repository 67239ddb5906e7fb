-- Laws of what a stay heard.
use Rattle.std.proofs.Common.{ℕ, ◌≡◌, ◌≢◌, ◌+◌, ◌/◌, ◌≤◌, true, ◌⊎◌, List, [], ◌∷◌, ◌++◌, Option, Some, None, refl, sym, ap, ◌∙◌, subst, inl, inr, arith}
use Rattle.std.specs.Option.{option_or}
use Rattle.std.proofs.lemmas.Bool.{cases_Bool, cond-true, cond-false, and_parts, and_from, and_left, and_right, eqb-true, eq-eqb, ne_eqb, leb-true, le-leb}
use Rattle.std.proofs.lemmas.Option.{none-some}
use Rattle.big_info.specs.Schedule.{horizon_of}
use Rattle.isoal_base.specs.Stays.{Stay, Call, hear, close, opened, InWindow, is_in_window, entry_of, heard, NoneEnters, FirstHeard}

-- the tests of a window and of a hear decide
pub window_from : (stay : Stay) (event number : ℕ) → is_in_window stay event number ≡ true → InWindow stay event number
window_from stay event number is = grind (arith, and_parts, leb-true)

pub entry_some : {A : Type 0} (read : List ℕ → Option A) (stay : Stay) (event number given : ℕ) (octets : List ℕ) (part : A)
    → entry_of read stay event number (hear given octets) ≡ Some part
    → (given ≡ number) × InWindow stay event number × (read octets ≡ Some part)
entry_some read stay event number given octets part is =
    grind (arith, cases_Bool, and_parts, eqb-true, window_from, cond-true, none-some, cond-false)

pub entry_here : {A : Type 0} (read : List ℕ → Option A) (stay : Stay) (event number : ℕ) (octets : List ℕ)
    → InWindow stay event number → entry_of read stay event number (hear number octets) ≡ read octets
entry_here read stay event number octets within = grind (arith, cond-true, and_from, eq-eqb, le-leb)

pub entry_other : {A : Type 0} (read : List ℕ → Option A) (stay : Stay) (event number given : ℕ) (octets : List ℕ)
    → number ≢ given → entry_of read stay event number (hear given octets) ≡ None
entry_other read stay event number given octets other = grind (arith, cond-false, and_left, ne_eqb)

pub entry_outside : {A : Type 0} (read : List ℕ → Option A) (stay : Stay) (event number given : ℕ) (octets : List ℕ)
    → ¬ InWindow stay event number → entry_of read stay event number (hear given octets) ≡ None
entry_outside read stay event number given octets outside = grind (arith, cases_Bool, window_from, cond-false, and_right)

-- a PDU that is read as nothing enters nothing
pub entry_unread : {A : Type 0} (read : List ℕ → Option A) (stay : Stay) (event number given : ℕ) (octets : List ℕ)
    → read octets ≡ None → entry_of read stay event number (hear given octets) ≡ None
entry_unread read stay event number given octets unread = grind (arith, cases_Bool, cond-true, cond-false)

or_none : {A : Type 0} (o : Option A) → option_or o None ≡ o
or_none o = grind arith

pub cases_option : {A : Type 0} (o : Option A) → (o ≡ None) ⊎ ((x : A) × (o ≡ Some x))
cases_option None = inl refl
cases_option (Some x) = inr (x, refl)

-- a call that enters nothing for the number changes nothing of it
pub heard_same : {A : Type 0} (read : List ℕ → Option A) (stay : Stay) (call : Call) (calls : List Call) (number : ℕ)
    → entry_of read stay (opened stay calls) number call ≡ None → heard read stay (call ∷ calls) number ≡ heard read stay calls number
heard_same read stay call calls number nothing = grind (arith, or_none)

-- what is kept stays
pub heard_kept : {A : Type 0} (read : List ℕ → Option A) (stay : Stay) (call : Call) (calls : List Call) (number : ℕ) (part : A)
    → heard read stay calls number ≡ Some part → heard read stay (call ∷ calls) number ≡ Some part
heard_kept read stay call calls number part is = grind arith

-- where nothing is kept, a call enters what it gives
pub heard_new : {A : Type 0} (read : List ℕ → Option A) (stay : Stay) (call : Call) (calls : List Call) (number : ℕ)
    → heard read stay calls number ≡ None → heard read stay (call ∷ calls) number ≡ entry_of read stay (opened stay calls) number call
heard_new read stay call calls number nothing = grind arith

-- what is kept was kept already, or this call entered it
pub heard_cases : {A : Type 0} (read : List ℕ → Option A) (stay : Stay) (call : Call) (calls : List Call) (number : ℕ) (part : A)
    → heard read stay (call ∷ calls) number ≡ Some part
    → (heard read stay calls number ≡ Some part) ⊎ ((heard read stay calls number ≡ None) × (entry_of read stay (opened stay calls) number call ≡ Some part))
heard_cases read stay call calls number part is = grind (arith, cases_option, heard_new, heard_kept)

-- nothing is kept past the window
pub heard_within : {A : Type 0} (read : List ℕ → Option A) (stay : Stay) (calls : List Call) (number : ℕ) (part : A)
    → heard read stay calls number ≡ Some part → number / stay.info.bn ≤ opened stay calls + horizon_of stay.info
heard_within read stay [] number part is = absurd (none-some part is)
heard_within read stay (close ∷ calls) number part is =
    elim (heard_cases read stay close calls number part is) [
      | inl before ↦
          let within : number / stay.info.bn ≤ opened stay calls + horizon_of stay.info = heard_within read stay calls number part before in
          omega arith
      | inr new ↦ absurd (none-some part new.1)
    ]
heard_within read stay (hear given octets ∷ calls) number part is =
    elim (heard_cases read stay (hear given octets) calls number part is) [
      | inl before ↦ heard_within read stay calls number part before
      | inr new ↦ (entry_some read stay (opened stay calls) number given octets part new.1).1.1
    ]

-- where something is kept of calls, a call puts nothing in its place
none_first : {A : Type 0} (read : List ℕ → Option A) (stay : Stay) (call : Call) (calls : List Call) (number : ℕ)
    → heard read stay (call ∷ calls) number ≡ None → heard read stay calls number ≡ None
none_first read stay call calls number nothing = grind (arith, cases_option, none-some, heard_kept)

-- what is kept of the later calls' end is kept
pub heard_later : {A : Type 0} (read : List ℕ → Option A) (stay : Stay) (later calls : List Call) (number : ℕ) (part : A)
    → heard read stay calls number ≡ Some part → heard read stay (later ++ calls) number ≡ Some part
heard_later read stay [] calls number part is = is
heard_later read stay (call ∷ later) calls number part is =
    heard_kept read stay call (later ++ calls) number part (heard_later read stay later calls number part is)

none_later : {A : Type 0} (read : List ℕ → Option A) (stay : Stay) (later calls : List Call) (number : ℕ)
    → heard read stay (later ++ calls) number ≡ None → heard read stay calls number ≡ None
none_later read stay [] calls number is = is
none_later read stay (call ∷ later) calls number is =
    none_later read stay later calls number (none_first read stay call (later ++ calls) number is)

-- where nothing is kept of a number, no hear of it met all conditions
pub heard_none : {A : Type 0} (read : List ℕ → Option A) (stay : Stay) (number : ℕ) (calls : List Call)
    → heard read stay calls number ≡ None → NoneEnters read stay number calls
heard_none read stay number calls nothing later octets earlier part is_split enters =
    grind (arith, none_later, none-some, heard_new, none_first, entry_here)

-- where no hear of a number met all conditions, nothing is kept of it
pub none_heard : {A : Type 0} (read : List ℕ → Option A) (stay : Stay) (number : ℕ) (calls : List Call)
    → NoneEnters read stay number calls → heard read stay calls number ≡ None
none_heard read stay number [] none = refl
none_heard read stay number (close ∷ calls) none = grind (arith, heard_new read stay close calls number (none_heard read stay number calls (λ later octets earlier part is_split. none (close ∷ later) octets earlier part (ap (λ all. close ∷ all) is_split))))
none_heard read stay number (hear given octets ∷ calls) none =
    let before : heard read stay calls number ≡ None = none_heard read stay number calls
    (λ later other earlier part is_split. none (hear given octets ∷ later) other earlier part (ap (λ all. hear given octets ∷ all) is_split)) in
    heard_new read stay (hear given octets) calls number before
    ∙ elim (cases_option (entry_of read stay (opened stay calls) number (hear given octets))) [
      | inl nothing ↦ nothing
      | inr some ↦
          let enters : (given ≡ number) × InWindow stay (opened stay calls) number × (read octets ≡ Some some.0) =
          entry_some read stay (opened stay calls) number given octets some.0 some.1 in
          absurd (none [] octets calls some.0 (ap (λ n. hear n octets ∷ calls) enters.0) (record { window = enters.1; reads = enters.2 }))
    ]

first_more : {A : Type 0} (read : List ℕ → Option A) (stay : Stay) (number : ℕ) (part : A) (call : Call) (calls : List Call)
    → FirstHeard read stay number part calls → FirstHeard read stay number part (call ∷ calls)
first_more read stay number part call calls first = record {
  later = call ∷ first.later;
  octets = first.octets;
  earlier = first.earlier;
  is_split = ap (λ all. call ∷ all) first.is_split;
  enters = first.enters;
  none_before = first.none_before;
}

first_here : {A : Type 0} (read : List ℕ → Option A) (stay : Stay) (number : ℕ) (part : A) (given : ℕ) (octets : List ℕ) (calls : List Call)
    → heard read stay calls number ≡ None → (given ≡ number) × InWindow stay (opened stay calls) number × (read octets ≡ Some part)
    → FirstHeard read stay number part (hear given octets ∷ calls)
first_here read stay number part given octets calls nothing enters = record {
  later = [];
  octets = octets;
  earlier = calls;
  is_split = ap (λ n. hear n octets ∷ calls) enters.0;
  enters = record { window = enters.1; reads = enters.2 };
  none_before = heard_none read stay number calls nothing;
}

-- the first hear that meets all conditions, where something is kept
pub heard_first : {A : Type 0} (read : List ℕ → Option A) (stay : Stay) (number : ℕ) (part : A) (calls : List Call)
    → heard read stay calls number ≡ Some part → FirstHeard read stay number part calls
heard_first read stay number part [] is = absurd (none-some part is)
heard_first read stay number part (close ∷ calls) is =
    elim (heard_cases read stay close calls number part is) [
      | inl before ↦ first_more read stay number part close calls (heard_first read stay number part calls before)
      | inr new ↦ absurd (none-some part new.1)
    ]
heard_first read stay number part (hear given octets ∷ calls) is =
    elim (heard_cases read stay (hear given octets) calls number part is) [
      | inl before ↦ first_more read stay number part (hear given octets) calls (heard_first read stay number part calls before)
      | inr new ↦ grind (arith, first_here, entry_some)
    ]

pub first_heard : {A : Type 0} (read : List ℕ → Option A) (stay : Stay) (number : ℕ) (part : A) (calls : List Call)
    → FirstHeard read stay number part calls → heard read stay calls number ≡ Some part
first_heard read stay number part calls first =
    subst (λ all. heard read stay all number ≡ Some part) (sym first.is_split)
    (heard_later read stay first.later (hear number first.octets ∷ first.earlier) number part
    (grind (arith, heard_new, none_heard, entry_here)))
