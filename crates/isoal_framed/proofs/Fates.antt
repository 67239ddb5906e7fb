-- The fate of a run from left to right is what the run and what follows it say.
use Rattle.isoal_framed.proofs.Prelude.{ℕ, ◌≡◌, ◌≤◌, ◌<◌, ◌⊎◌, inl, inr, true, false, leb, cond, Bool, List, [], ◌∷◌, ◌++◌, length, refl, sym, ap, ◌∙◌, subst, arith, append_assoc, length-append, cases_Bool, cond-true, cond-false, leb-true, leb-false, le-leb, lt-leb, append-nil, Piece, Fate, whole, broken, undecided, NoneComplete, joined, IsWhole, IsTooLong, IsCut, FateIs, fate_after, fate_of}

-- a piece that fits and doesn't complete, and what follows
goes : (max_sdu : ℕ) (prefix : List ℕ) (piece : Piece) (run : List Piece) (followed : Bool) → piece.complete ≡ false
    → length (prefix ++ piece.octets) ≤ max_sdu
    → fate_after max_sdu prefix (piece ∷ run) followed ≡ fate_after max_sdu (prefix ++ piece.octets) run followed
goes max_sdu prefix piece run followed goes_on fits = search (cond-true, le-leb, cond-false)

stops : (max_sdu : ℕ) (prefix : List ℕ) (piece : Piece) (run : List Piece) (followed : Bool) → leb (length (prefix ++ piece.octets)) max_sdu ≡ false
    → fate_after max_sdu prefix (piece ∷ run) followed ≡ broken
stops max_sdu prefix piece run followed passes = search cond-false

behind : (prefix part rest last : List ℕ) → (prefix ++ part) ++ (rest ++ last) ≡ prefix ++ ((part ++ rest) ++ last)
behind prefix part rest last = append_assoc prefix part (rest ++ last) ∙ ap (λ xs. prefix ++ xs) (sym (append_assoc part rest last))

prefix_fits : (max_sdu : ℕ) (prefix rest : List ℕ) → length (prefix ++ rest) ≤ max_sdu → length prefix ≤ max_sdu
prefix_fits max_sdu prefix rest fits = omega (arith, length-append prefix rest)

whole_after : (max_sdu : ℕ) (prefix : List ℕ) (before : List Piece) (last : List ℕ) (others : List Piece) (followed : Bool)
    → NoneComplete before → length (prefix ++ (joined before ++ last)) ≤ max_sdu
    → fate_after max_sdu prefix (before ++ record { complete = true; octets = last } ∷ others) followed ≡ whole (prefix ++ (joined before ++ last))
whole_after max_sdu prefix [] last others followed first fits = search (cond-true, le-leb)
whole_after max_sdu prefix (piece ∷ before) last others followed first fits =
    let same : (prefix ++ piece.octets) ++ (joined before ++ last) ≡ prefix ++ ((piece.octets ++ joined before) ++ last) =
    behind prefix piece.octets (joined before) last in
    let room : length ((prefix ++ piece.octets) ++ (joined before ++ last)) ≤ max_sdu = subst (λ xs. length xs ≤ max_sdu) (sym same) fits in
    goes max_sdu prefix piece (before ++ record { complete = true; octets = last } ∷ others) followed first.0
    (prefix_fits max_sdu (prefix ++ piece.octets) (joined before ++ last) room)
    ∙ whole_after max_sdu (prefix ++ piece.octets) before last others followed first.1 room ∙ ap whole same

long_after : (max_sdu : ℕ) (prefix : List ℕ) (before : List Piece) (last : Piece) (others : List Piece) (followed : Bool)
    → NoneComplete before → max_sdu < length (prefix ++ (joined before ++ last.octets))
    → fate_after max_sdu prefix (before ++ last ∷ others) followed ≡ broken
long_after max_sdu prefix [] last others followed first passes = cc (stops max_sdu prefix last others followed (lt-leb (length (prefix ++ last.octets)) max_sdu passes))
long_after max_sdu prefix (piece ∷ before) last others followed first passes =
    elim (cases_Bool (leb (length (prefix ++ piece.octets)) max_sdu)) [
      | inl fits ↦
          goes max_sdu prefix piece (before ++ last ∷ others) followed first.0 (leb-true (length (prefix ++ piece.octets)) max_sdu fits)
          ∙ long_after max_sdu (prefix ++ piece.octets) before last others followed first.1
          (subst (λ xs. max_sdu < length xs) (sym (behind prefix piece.octets (joined before) last.octets)) passes)
      | inr over ↦ stops max_sdu prefix piece (before ++ last ∷ others) followed over
    ]

cut_after : (max_sdu : ℕ) (prefix : List ℕ) (run : List Piece) → NoneComplete run → fate_after max_sdu prefix run true ≡ broken
cut_after max_sdu prefix [] first = refl
cut_after max_sdu prefix (piece ∷ run) first = elim (cases_Bool (leb (length (prefix ++ piece.octets)) max_sdu)) [
  | inl fits ↦ goes max_sdu prefix piece run true first.0 (leb-true (length (prefix ++ piece.octets)) max_sdu fits)
      ∙ cut_after max_sdu (prefix ++ piece.octets) run first.1
  | inr over ↦ stops max_sdu prefix piece run true over
]

-- what the fate tells, behind a prefix
abbrev WholeAfter : ℕ → List ℕ → List Piece → List ℕ → Type 0
WholeAfter max_sdu prefix run octets =
    (before : List Piece) × (last : List ℕ) × (others : List Piece) × (run ≡ before ++ record { complete = true; octets = last } ∷ others)
    × NoneComplete before × (octets ≡ prefix ++ (joined before ++ last)) × (length octets ≤ max_sdu)

abbrev LongAfter : ℕ → List ℕ → List Piece → Type 0
LongAfter max_sdu prefix run =
    (before : List Piece) × (last : Piece) × (others : List Piece) × (run ≡ before ++ last ∷ others)
    × NoneComplete before × (max_sdu < length (prefix ++ (joined before ++ last.octets)))

abbrev Tells : ℕ → List ℕ → List Piece → Bool → Fate → Type 0
Tells max_sdu prefix run followed (whole octets) = WholeAfter max_sdu prefix run octets
Tells max_sdu prefix run followed broken = LongAfter max_sdu prefix run ⊎ IsCut run followed
Tells max_sdu prefix run followed (undecided octets) = (octets ≡ prefix ++ joined run) × (followed ≡ false)

more_told : (max_sdu : ℕ) (prefix : List ℕ) (piece : Piece) (run : List Piece) (followed : Bool) (fate : Fate) → piece.complete ≡ false
    → Tells max_sdu (prefix ++ piece.octets) run followed fate → Tells max_sdu prefix (piece ∷ run) followed fate
more_told max_sdu prefix piece run followed (whole octets) goes_on (before, last, others, run_is, first, is, fits) =
    (piece ∷ before, last, others, ap (λ xs. piece ∷ xs) run_is, (goes_on, first), is ∙ behind prefix piece.octets (joined before) last, fits)
more_told max_sdu prefix piece run followed broken goes_on (inl (before, last, others, run_is, first, passes)) =
    let over : max_sdu < length (prefix ++ ((piece.octets ++ joined before) ++ last.octets)) =
    subst (λ xs. max_sdu < length xs) (behind prefix piece.octets (joined before) last.octets) passes in
    inl (piece ∷ before, last, others, ap (λ xs. piece ∷ xs) run_is, (goes_on, first), over)
more_told max_sdu prefix piece run followed broken goes_on (inr cut) = inr ((goes_on, cut.0), cut.1)
more_told max_sdu prefix piece run followed (undecided octets) goes_on told = grind (arith, append_assoc)

whole_first : (max_sdu : ℕ) (prefix : List ℕ) (piece : Piece) (run : List Piece) → piece.complete ≡ true → length (prefix ++ piece.octets) ≤ max_sdu
    → WholeAfter max_sdu prefix (piece ∷ run) (prefix ++ piece.octets)
whole_first max_sdu prefix piece run complete fits =
    ([], piece.octets, run, ap (λ flag. record { complete = flag; octets = piece.octets } ∷ run) complete, tt, refl, fits)

tells : (max_sdu : ℕ) (prefix : List ℕ) (run : List Piece) (followed : Bool) → Tells max_sdu prefix run followed (fate_after max_sdu prefix run followed)
tells max_sdu prefix [] true = inr (tt, refl)
tells max_sdu prefix [] false = (sym (append-nil prefix), refl)
tells max_sdu prefix (piece ∷ run) followed = elim (cases_Bool (leb (length (prefix ++ piece.octets)) max_sdu)) [
  | inr over ↦ subst (Tells max_sdu prefix (piece ∷ run) followed) (sym (stops max_sdu prefix piece run followed over))
      (inl ([], piece, run, refl, tt, leb-false (length (prefix ++ piece.octets)) max_sdu over))
  | inl fits ↦ elim (cases_Bool piece.complete) [
    | inl complete ↦ subst (Tells max_sdu prefix (piece ∷ run) followed) (sym (cond-true (leb (length (prefix ++ piece.octets)) max_sdu)
        (cond piece.complete (whole (prefix ++ piece.octets)) (fate_after max_sdu (prefix ++ piece.octets) run followed)) broken fits
        ∙ cond-true piece.complete (whole (prefix ++ piece.octets)) (fate_after max_sdu (prefix ++ piece.octets) run followed) complete))
        (whole_first max_sdu prefix piece run complete (leb-true (length (prefix ++ piece.octets)) max_sdu fits))
    | inr goes_on ↦ subst (Tells max_sdu prefix (piece ∷ run) followed)
        (sym (goes max_sdu prefix piece run followed goes_on (leb-true (length (prefix ++ piece.octets)) max_sdu fits)))
        (more_told max_sdu prefix piece run followed (fate_after max_sdu (prefix ++ piece.octets) run followed) goes_on
        (tells max_sdu (prefix ++ piece.octets) run followed))
  ]
]

is_whole : (max_sdu : ℕ) (run : List Piece) (followed : Bool) (octets : List ℕ) → IsWhole max_sdu run octets → fate_of max_sdu run followed ≡ whole octets
is_whole max_sdu run followed octets is = grind (arith, whole_after)

is_long : (max_sdu : ℕ) (run : List Piece) (followed : Bool) → IsTooLong max_sdu run → fate_of max_sdu run followed ≡ broken
is_long max_sdu run followed is = cc (is.run_is, long_after max_sdu [] is.before is.last is.others followed is.first is.passes)

is_cut : (max_sdu : ℕ) (run : List Piece) (followed : Bool) → IsCut run followed → fate_of max_sdu run followed ≡ broken
is_cut max_sdu run followed is = ap (fate_of max_sdu run) is.1 ∙ cut_after max_sdu [] run is.0

apart_whole : (unit octets : List ℕ) → whole unit ≡ undecided octets → ⊥
apart_whole unit octets is = cc

apart_broken : (octets : List ℕ) → broken ≡ undecided octets → ⊥
apart_broken octets is = cc

told_is : (max_sdu : ℕ) (run : List Piece) (followed : Bool) (fate : Fate) → fate_of max_sdu run followed ≡ fate
    → Tells max_sdu [] run followed fate → FateIs max_sdu run followed fate
told_is max_sdu run followed (whole octets) is told = search
told_is max_sdu run followed broken is (inl long) = inl search
told_is max_sdu run followed broken is (inr cut) = inr cut
told_is max_sdu run followed (undecided octets) is told = (
  λ unit other. apart_whole unit octets (sym (is_whole max_sdu run followed unit other) ∙ is),
  λ long. apart_broken octets (sym (is_long max_sdu run followed long) ∙ is),
  λ cut. apart_broken octets (sym (is_cut max_sdu run followed cut) ∙ is),
  told.0,
)

pub fate_is : (max_sdu : ℕ) (run : List Piece) (followed : Bool) (fate : Fate) → fate_of max_sdu run followed ≡ fate → FateIs max_sdu run followed fate
fate_is max_sdu run followed fate is = grind (arith, told_is, tells)

undecided_else : (max_sdu : ℕ) (run : List Piece) (followed : Bool) (octets : List ℕ) (fate : Fate) → FateIs max_sdu run followed (undecided octets)
    → FateIs max_sdu run followed fate → fate ≡ undecided octets
undecided_else max_sdu run followed octets (whole unit) is other = absurd (is.0 unit other)
undecided_else max_sdu run followed octets broken is (inl long) = absurd (is.1 long)
undecided_else max_sdu run followed octets broken is (inr cut) = absurd (is.2 cut)
undecided_else max_sdu run followed octets (undecided others) is other = ap undecided (other.3 ∙ sym is.3)

pub is_fate : (max_sdu : ℕ) (run : List Piece) (followed : Bool) (fate : Fate) → FateIs max_sdu run followed fate → fate_of max_sdu run followed ≡ fate
is_fate max_sdu run followed (whole octets) is = is_whole max_sdu run followed octets is
is_fate max_sdu run followed broken (inl long) = is_long max_sdu run followed long
is_fate max_sdu run followed broken (inr cut) = is_cut max_sdu run followed cut
is_fate max_sdu run followed (undecided octets) is = search (undecided_else, fate_is)
