-- A bad line has one number: words that fit have prefixes that fit.
use Rattle.scenario_text.proofs.Prelude.{◌≡◌, ◌<◌, ◌+◌, ℕ, zero, suc, List, [], ◌∷◌, take, subst, arith, inl, inr, cases_lt, words_of, Place, one, perhaps, rising, wishes, FitsIndices, FitsPairs, FitsPrefix, FitsLine, IsMisfit, take-take}

indices_prefix : (least : ℕ) (words : List (List ℕ)) (j : ℕ) → FitsIndices least words → FitsIndices least (take j words)
indices_prefix least [] zero fits = tt
indices_prefix least [] (suc j) fits = tt
indices_prefix least (word ∷ words) zero fits = tt
indices_prefix least (word ∷ words) (suc j) fits = (fits.0, fits.1, indices_prefix (fits.0 + 1) words j fits.2)

pairs_prefix : (more : ℕ) (words : List (List ℕ)) (j : ℕ) → FitsPairs more words → FitsPairs more (take j words)
pairs_prefix more [] zero fits = tt
pairs_prefix more [] (suc j) fits = tt
pairs_prefix more (word ∷ words) zero fits = tt
pairs_prefix zero (word ∷ words) (suc j) fits = absurd fits
pairs_prefix (suc more) (bits ∷ []) (suc zero) fits = fits
pairs_prefix (suc more) (bits ∷ []) (suc (suc j)) fits = fits
pairs_prefix (suc more) (bits ∷ metadata ∷ words) (suc zero) fits = fits.0
pairs_prefix (suc more) (bits ∷ metadata ∷ words) (suc (suc j)) fits = (fits.0, fits.1, pairs_prefix more words j fits.2)

fits_prefix : (places : List Place) (words : List (List ℕ)) (j : ℕ) → FitsPrefix places words → FitsPrefix places (take j words)
fits_prefix places [] zero fits = tt
fits_prefix places [] (suc j) fits = tt
fits_prefix places (word ∷ words) zero fits = tt
fits_prefix [] (word ∷ words) (suc j) fits = absurd fits
fits_prefix (one place ∷ places) (word ∷ words) (suc j) fits = (fits.0, fits_prefix places words j fits.1)
fits_prefix (perhaps least greatest ∷ places) (word ∷ words) (suc j) fits = (fits.0, fits_prefix places words j fits.1)
fits_prefix (rising ∷ places) (word ∷ words) (suc j) fits = indices_prefix 1 (word ∷ words) (suc j) fits
fits_prefix (wishes most ∷ places) (word ∷ words) (suc j) fits = pairs_prefix 31 (word ∷ words) (suc j) fits

line_prefix : (version : ℕ) (words : List (List ℕ)) (j : ℕ) → FitsLine version words → FitsLine version (take j words)
line_prefix version [] zero fits = tt
line_prefix version [] (suc j) fits = tt
line_prefix version (word ∷ words) zero fits = tt
line_prefix version (word ∷ words) (suc j) fits = (fits.0, fits.1, fits_prefix fits.0.places words j fits.2)

not_less : (version j k : ℕ) (line : List ℕ) → IsMisfit version line j → IsMisfit version line k → j < k → ⊥
not_less version j k line first second less =
    let prefix = line_prefix version (take k (words_of line)) (suc j) second.fits in
    first.no_more (omega (arith, second.within)) (subst (FitsLine version) (take-take (suc j) k (words_of line) (omega arith)) prefix)

pub one_number : (version j k : ℕ) (line : List ℕ) → IsMisfit version line j → IsMisfit version line k → j ≡ k
one_number version j k line first second = elim (cases_lt j k) [
  | inl less ↦ absurd (not_less version j k line first second less)
  | inr other ↦ elim (cases_lt k j) [ inl more ↦ absurd (not_less version k j line second first more) | inr same ↦ omega arith ]
]
