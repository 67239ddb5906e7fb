-- The first requirement that is not met, found in the order of the list.
use Rattle.pacs_records.proofs.Prelude.{◌≡◌, ℕ, zero, suc, ◌<◌, ◌⊎◌, Bool, true, false, cond, List, [], ◌∷◌, Option, Some, None, refl, sym, ap, subst, ◌∙◌, arith, inl, inr, not, ◌||◌, find, bytes_eq, cases_lt, same_Some, Effective, Capability, NotTaken, Codec, Frequency, Duration, FrameOctets, Channels, FramesPerSdu, Location, Context, PacRecord, is_lc3, number, FitsStream, IsReason, caps_in, lc3_met, lc3_reasons, reason_of}
use Rattle.pacs_records.proofs.Meanings.{met, met_means}

-- ---- lists of reasons

-- the first of these whose test fails
abbrev failing : (NotTaken → Bool) → List NotTaken → Option NotTaken
failing test reasons = find (λ reason. not (test reason)) reasons

-- in the order of their numbers, all above this one
abbrev Rising : ℕ → List NotTaken → Type 0
Rising n [] = Unit {0}
Rising n (reason ∷ reasons) = (n < number reason) × Rising (number reason) reasons

abbrev StandsIn : NotTaken → List NotTaken → Type 0
StandsIn reason [] = ⊥
StandsIn reason (first ∷ reasons) = (first ≡ reason) ⊎ StandsIn reason reasons

above : (n : ℕ) (reasons : List NotTaken) (reason : NotTaken) → Rising n reasons → StandsIn reason reasons → n < number reason
above n [] reason r s = absurd s
above n (first ∷ reasons) reason r (inl same) = subst (λ (x : NotTaken). n < number x) same r.0
above n (first ∷ reasons) reason r (inr s) = omega (arith, above (number first) reasons reason r.1 s, r.0)

-- what stands in front of the first that fails passes
record First (test : NotTaken → Bool) (reasons : List NotTaken) (reason : NotTaken) : Type 0 where
  stands : StandsIn reason reasons
  fails : test reason ≡ false
  passes : (earlier : NotTaken) → StandsIn earlier reasons → number earlier < number reason → test earlier ≡ true

none_fails : (test : NotTaken → Bool) (reasons : List NotTaken) → failing test reasons ≡ None → (reason : NotTaken) → StandsIn reason reasons → test reason ≡ true
none_fails test [] e reason s = absurd s
none_fails test (first ∷ reasons) e reason s = by_test (test first) refl e (λ rest within. none_fails test reasons rest reason within)
  where
    by_test : (b : Bool) → test first ≡ b → cond (not b) (Some first) (failing test reasons) ≡ None → (failing test reasons ≡ None → StandsIn reason reasons → test reason ≡ true) → test reason ≡ true
    by_test true t rest others = elim s [ inl same ↦ sym (ap test same) ∙ t | inr within ↦ others rest within ]
    by_test false t rest others = absurd cc

first_fails : (n : ℕ) (test : NotTaken → Bool) (reasons : List NotTaken) (reason : NotTaken) → Rising n reasons → failing test reasons ≡ Some reason → First test reasons reason
first_fails n test [] reason r e = absurd cc
first_fails n test (first ∷ reasons) reason r e = by_test (test first) refl e (λ rest. first_fails (number first) test reasons reason r.1 rest)
  where
    go_on : test first ≡ true → First test reasons reason → First test (first ∷ reasons) reason
    go_on t f = record {
      stands = inr f.stands;
      fails = f.fails;
      passes = λ earlier s lt. elim s [ inl same ↦ sym (ap test same) ∙ t | inr within ↦ f.passes earlier within lt ];
    }

    here : test first ≡ false → first ≡ reason → First test (first ∷ reasons) reason
    here t same = record {
      stands = inl same;
      fails = sym (ap test same) ∙ t;
      passes = λ earlier s lt. elim s [
        | inl as_first ↦ absurd (omega (arith, lt, ap number as_first, ap number same))
        | inr within ↦ absurd (omega (arith, lt, ap number same, above (number first) reasons earlier r.1 within))
      ];
    }

    by_test : (b : Bool) → test first ≡ b → cond (not b) (Some first) (failing test reasons) ≡ Some reason → (failing test reasons ≡ Some reason → First test reasons reason)
        → First test (first ∷ reasons) reason
    by_test true t rest others = go_on t (others rest)
    by_test false t rest others = here t (same_Some first reason rest)

-- ---- all reasons, in order

abbrev all : List NotTaken
all = Codec ∷ lc3_reasons

all_rise : Rising 0 all
all_rise = (omega arith, (omega arith, (omega arith, (omega arith, (omega arith, (omega arith, (omega arith, (omega arith, tt))))))))

stands : (reason : NotTaken) → StandsIn reason all
stands reason = grind arith

-- the tests, of which those behind the first count where lc3 is true
abbrev tests : Bool → Bool → (NotTaken → Bool) → NotTaken → Bool
tests same lc3 rest Codec = same
tests same lc3 rest Frequency = not lc3 || rest Frequency
tests same lc3 rest Duration = not lc3 || rest Duration
tests same lc3 rest FrameOctets = not lc3 || rest FrameOctets
tests same lc3 rest Channels = not lc3 || rest Channels
tests same lc3 rest FramesPerSdu = not lc3 || rest FramesPerSdu
tests same lc3 rest Location = not lc3 || rest Location
tests same lc3 rest Context = not lc3 || rest Context

-- the reason of a record is the first of all whose test fails
reason_is : (entry : PacRecord) (capability : Capability) (effective : Effective) → reason_of entry capability effective ≡ failing (met entry capability effective) all
reason_is entry capability effective = by_tests (bytes_eq entry.codec effective.codec) (is_lc3 effective.codec) (lc3_met (caps_in entry.caps) capability effective)
  where
    by_tests : (same lc3 : Bool) (rest : NotTaken → Bool) → cond same (cond lc3 (failing rest lc3_reasons) None) (Some Codec) ≡ failing (tests same lc3 rest) all
    by_tests true true rest = refl
    by_tests true false rest = refl
    by_tests false lc3 rest = refl

-- ---- what they mean

true_or_false : (b : Bool) → b ≡ true → b ≡ false → ⊥
true_or_false b t f = cc

pub none_is_fit : (entry : PacRecord) (capability : Capability) (effective : Effective) → reason_of entry capability effective ≡ None → FitsStream entry capability effective
none_is_fit entry capability effective e reason =
    (met_means entry capability effective reason).0 (none_fails (met entry capability effective) all (sym (reason_is entry capability effective) ∙ e) reason (stands reason))

pub some_is_reason : (entry : PacRecord) (capability : Capability) (effective : Effective) (reason : NotTaken) → reason_of entry capability effective ≡ Some reason
    → IsReason reason entry capability effective
some_is_reason entry capability effective reason e =
    let f = first_fails 0 (met entry capability effective) all reason all_rise (sym (reason_is entry capability effective) ∙ e) in
    record {
      fails = λ m. true_or_false (met entry capability effective reason) ((met_means entry capability effective reason).1 m) f.fails;
      first = λ earlier lt. (met_means entry capability effective earlier).0 (f.passes earlier (stands earlier) lt);
    }

pub fit_is_none : (entry : PacRecord) (capability : Capability) (effective : Effective) → FitsStream entry capability effective → reason_of entry capability effective ≡ None
fit_is_none entry capability effective fits = by_reason (reason_of entry capability effective) refl
  where
    by_reason : (found : Option NotTaken) → reason_of entry capability effective ≡ found → found ≡ None
    by_reason None e = refl
    by_reason (Some reason) e = absurd ((some_is_reason entry capability effective reason e).fails (fits reason))

abbrev reason_at : ℕ → NotTaken
reason_at (suc (suc zero)) = Frequency
reason_at (suc (suc (suc zero))) = Duration
reason_at (suc (suc (suc (suc zero)))) = FrameOctets
reason_at (suc (suc (suc (suc (suc zero))))) = Channels
reason_at (suc (suc (suc (suc (suc (suc zero)))))) = FramesPerSdu
reason_at (suc (suc (suc (suc (suc (suc (suc zero))))))) = Location
reason_at (suc (suc (suc (suc (suc (suc (suc (suc zero)))))))) = Context
reason_at _ = Codec

-- of two reasons that are first neither is before the other
same_reason : (a b : NotTaken) → number a ≡ number b → a ≡ b
same_reason a b e = sym (back a) ∙ ap reason_at e ∙ back b
  where
    back : (reason : NotTaken) → reason_at (number reason) ≡ reason
    back Codec = refl
    back Frequency = refl
    back Duration = refl
    back FrameOctets = refl
    back Channels = refl
    back FramesPerSdu = refl
    back Location = refl
    back Context = refl

pub reason_is_some : (entry : PacRecord) (capability : Capability) (effective : Effective) (reason : NotTaken) → IsReason reason entry capability effective
    → reason_of entry capability effective ≡ Some reason
reason_is_some entry capability effective reason is = by_reason (reason_of entry capability effective) refl
  where
    one : (other : NotTaken) → IsReason other entry capability effective → other ≡ reason
    one other o =
        elim (cases_lt (number other) (number reason)) [
          | inl before ↦ absurd (o.fails (is.first other before))
          | inr le ↦
              elim (cases_lt (number reason) (number other)) [
                | inl behind ↦ absurd (is.fails (o.first reason behind))
                | inr ge ↦ same_reason other reason (omega (arith, le, ge))
              ]
        ]

    by_reason : (found : Option NotTaken) → reason_of entry capability effective ≡ found → found ≡ Some reason
    by_reason None e = absurd (is.fails (none_is_fit entry capability effective e reason))
    by_reason (Some other) e = ap (λ (x : NotTaken). Some x) (one other (some_is_reason entry capability effective other e))
