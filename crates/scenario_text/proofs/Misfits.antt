-- The number of a fault is the number of the words that fit, and no other number is.
use Rattle.scenario_text.proofs.Prelude.{◌≡◌, ◌≤◌, ◌<◌, ◌+◌, ℕ, suc, Bool, true, cond, ◌||◌, List, [], ◌∷◌, length, take, Option, None, Some, Result, Ok, Err, refl, ap, sym, subst, ◌∙◌, arith, same_Some, and_parts, Wish, LineFault, words_of, WordPlace, between, Place, one, perhaps, rising, wishes, WordValue, ◌>>=◌, bind_ok, Left, Gives, any_word, next_of, taken, word_in, decimal_in, with_stream, streams_of, rising_of, perhaps_of, wishes_of, bounded, all_wishes_of, ended, FitsIndices, FitsPairs, FitsPrefix, word_spelled, is_small, bounded_is, Stops, misfit, bad_is, indices_first, indices_stop, indices_all, pairs_stop, pairs_end, Step, Build, Row, built_at, at_known, whole, line_after, FitsLine, IsMisfit, take_all}
use Rattle.scenario_words.specs.declared.fault.LineFault.TheVariants.{BadLine}
use Rattle.scenario_text.specs.Table.{row_of}
use Rattle.scenario_text.specs.Steps.{step_of, read_of}
use Rattle.scenario_text.proofs.Rows.{all_small, none_more, takes_all_last, is_word, of_table}
use Rattle.scenario_text.proofs.Steps.{left_of, done, ok_is, says_so, blank_is_none}

abbrev perhaps_bad : ℕ → Result (Option ℕ × Left) LineFault
perhaps_bad k = Err (BadLine k)

abbrev wishes_bad : ℕ → Result (List Wish × Left) LineFault
wishes_bad k = Err (BadLine k)

abbrev failed : (A : Type 0) → LineFault → Result A LineFault
failed A fault = Err fault

-- the fault k has the number of the words that fit
abbrev Halts : List Place → List (List ℕ) → ℕ → ℕ → Type 0
Halts places words read k = (j : ℕ) × (k ≡ read + j) × Stops (FitsPrefix places) words j

none_fit : (places : List Place) (read k : ℕ) → read ≡ k → Halts places [] read k
none_fit places read k e = (0, omega arith, record { within = omega arith; prefix = tt; no_more = λ inside fits. absurd (omega (arith, inside)) })

-- ---- a place of one word

abbrev go_on : (place : WordPlace) (places : List Place) → (WordValue place → Build places) → WordValue place × Left → Result (Step × Left) LineFault
go_on place places build value = built_at places (build value.0) value.1

word_halts : (place : WordPlace) (places : List Place) (build : WordValue place → Build places) (read k : ℕ) (word : List ℕ) (words : List (List ℕ)) (found : Option (WordValue place))
    → is_small (one place) ≡ true → word_in place word ≡ found → (taken read words found >>= go_on place places build) ≡ Err (BadLine k)
    → ((value : WordValue place) → built_at places (build value) (left_of words (read + 1)) ≡ Err (BadLine k) → Halts places words (read + 1) k)
    → Halts (one place ∷ places) (word ∷ words) read k
word_halts place places build read k word words None small is e rest = grind (arith, bad_is, misfit)
word_halts place places build read k word words (Some value) small is e rest =
    let it = rest value e in (
      suc it.0,
      omega (arith, it.1),
      record {
        within = omega (arith, it.2.within);
        prefix = ((value, word_spelled place value word is), it.2.prefix);
        no_more = λ inside fits. it.2.no_more (omega (arith, inside)) fits.1;
      },
    )

word_ends : (place : WordPlace) (places : List Place) (build : WordValue place → Build places) (read : ℕ) (word : List ℕ) (words : List (List ℕ))
    (found : Option (WordValue place)) (made : Step) (left : Left)
    → word_in place word ≡ found → (taken read words found >>= go_on place places build) ≡ Ok (made, left)
    → ((value : WordValue place) → built_at places (build value) (left_of words (read + 1)) ≡ Ok (made, left) → Halts places words (read + 1) left.read)
    → Halts (one place ∷ places) (word ∷ words) read left.read
word_ends place places build read word words None made left is e rest = absurd cc
word_ends place places build read word words (Some value) made left is e rest =
    let it = rest value e in (
      suc it.0,
      omega (arith, it.1),
      record {
        within = omega (arith, it.2.within);
        prefix = ((value, word_spelled place value word is), it.2.prefix);
        no_more = λ inside fits. it.2.no_more (omega (arith, inside)) fits.1;
      },
    )

-- ---- the last places

-- no word may follow
no_place : (words : List (List ℕ)) → 0 < length words → FitsPrefix [] (take 1 words) → ⊥
no_place words inside fits = grind arith

err_is : (A : Type 0) (f g : LineFault) → failed (A × Left) f ≡ failed (A × Left) g → f ≡ g
err_is A f g e = cc

abbrev with_built : {A : Type 0} → (A → Step) → A × Left → Result (Step × Left) LineFault
with_built build value = Ok (build value.0, value.1)

abbrev as_some : ℕ × Left → Result (Option ℕ × Left) LineFault
as_some n = Ok (Some n.0, n.1)

build_bad : {A : Type 0} (r : Result (A × Left) LineFault) (build : A → Step) (k : ℕ) → (r >>= with_built build) ≡ Err (BadLine k) → r ≡ Err (BadLine k)
build_bad (Ok x) build k e = absurd cc
build_bad {A = A} (Err f) build k e = ap (failed (A × Left)) (err_is Step f (BadLine k) e)

perhaps_halts : (least greatest read k : ℕ) (word : List ℕ) (words : List (List ℕ)) (found : Option ℕ) → is_small (one (between least greatest)) ≡ true → decimal_in least greatest word ≡ found
    → (taken read words found >>= as_some) ≡ perhaps_bad k → Halts (perhaps least greatest ∷ []) (word ∷ words) read k
perhaps_halts least greatest read k word words None small is e =
    let same : read ≡ k = bad_is (Option ℕ × Left) read k e in
    (0, omega arith, record { within = omega arith; prefix = tt; no_more = λ inside fits. misfit (between least greatest) word small is fits.0 })
perhaps_halts least greatest read k word words (Some n) small is e = absurd cc

perhaps_ends : (least greatest read : ℕ) (word : List ℕ) (words : List (List ℕ)) (found : Option ℕ) (value : Option ℕ) (left : Left) → decimal_in least greatest word ≡ found
    → (taken read words found >>= as_some) ≡ done (value, left) → Halts (perhaps least greatest ∷ []) (word ∷ words) read left.read
perhaps_ends least greatest read word words None value left is e = absurd cc
perhaps_ends least greatest read word words (Some n) value left is e =
    let both = ok_is (Some n, left_of words (read + 1)) (value, left) e in
    let same : read + 1 ≡ left.read = ap (λ (p : Option ℕ × Left). p.1.read) both in (
      1,
      omega arith,
      record {
        within = omega arith;
        prefix = ((n, word_spelled (between least greatest) n word is), tt);
        no_more = λ inside fits. no_place words (omega (arith, inside)) fits.1;
      },
    )

from_indices : (words : List (List ℕ)) (read k : ℕ) → (j : ℕ) × (k ≡ read + j) × Stops (FitsIndices 1) words j → Halts (rising ∷ []) words read k
from_indices words read k it = grind (arith, take)

from_pairs : (most : ℕ) (words : List (List ℕ)) (read k : ℕ) → (j : ℕ) × (k ≡ read + j) × Stops (FitsPairs 31) words j → Halts (wishes most ∷ []) words read k
from_pairs most words read k it = grind (arith, take)

abbrev streams_on : List (List ℕ) → ℕ × Left → Result (ℕ × Left) LineFault
streams_on words n = streams_of (with_stream 0 n.0) (n.0 + 1) n.1.read n.1.words

rising_halts : (read k : ℕ) (word : List ℕ) (words : List (List ℕ)) (found : Option ℕ) → decimal_in 1 31 word ≡ found → (taken read words found >>= streams_on words) ≡ Err (BadLine k)
    → (j : ℕ) × (k ≡ read + j) × Stops (FitsIndices 1) (word ∷ words) j
rising_halts read k word words None is e =
    indices_first 1 read k word words None is (λ n some. absurd cc) (λ none. sym (bad_is (ℕ × Left) read k e))
rising_halts read k word words (Some n) is e =
    indices_first 1 read k word words (Some n) is (grind (arith, same_Some, indices_stop, with_stream, streams_of)) (λ none. absurd cc)

rising_ends : (read : ℕ) (word : List ℕ) (words : List (List ℕ)) (found : Option ℕ) (set : ℕ) (left : Left)
    → decimal_in 1 31 word ≡ found → (taken read words found >>= streams_on words) ≡ Ok (set, left)
    → (j : ℕ) × (left.read ≡ read + j) × Stops (FitsIndices 1) (word ∷ words) j
rising_ends read word words None set left is e = absurd cc
rising_ends read word words (Some n) set left is e =
    let all = indices_all words (with_stream 0 n) (n + 1) (read + 1) set left e in (
      suc (length words),
      omega (arith, all.0),
      record {
        within = omega arith;
        prefix = (n, word_spelled (between 1 31) n word is, subst (λ (ws : List (List ℕ)). FitsIndices (n + 1) ws) (sym (take_all (length words) words (omega arith))) all.1);
        no_more = λ inside fits. absurd (omega (arith, inside));
      },
    )

bound_bad : (b : Bool) (all : List Wish × Left) (k : ℕ) → cond b (Ok all) (Err (BadLine all.1.read)) ≡ wishes_bad k → all.1.read ≡ k
bound_bad b all k e = grind (arith, bad_is)

wishes_halt : (most : ℕ) (words : List (List ℕ)) (read k : ℕ) (r : Result (List Wish × Left) LineFault) → wishes_of [] 31 read words ≡ r → (r >>= bounded most) ≡ Err (BadLine k)
    → (j : ℕ) × (k ≡ read + j) × Stops (FitsPairs 31) words j
wishes_halt most words read k (Ok all) is e =
    let same : all.1.read ≡ k = bound_bad _ all k e in
    let it = pairs_end 31 [] read words all.0 all.1 is in
    (it.0, sym same ∙ it.1, it.2)
wishes_halt most words read k (Err fault) is e = grind (arith, pairs_stop, err_is)

-- ---- the places of a row

built_halts : (places : List Place) (build : Build places) (words : List (List ℕ)) (read k : ℕ) → all_small places ≡ true → takes_all_last places ≡ true
    → built_at places build (left_of words read) ≡ Err (BadLine k) → Halts places words read k
built_halts [] build words read k small last e = absurd cc
built_halts (one place ∷ places) build [] read k small last e = none_fit (one place ∷ places) read k (bad_is (Step × Left) read k e)
built_halts (one place ∷ places) build (word ∷ words) read k small last e =
    let smalls = and_parts _ (all_small places) small in
    let lasts = and_parts (none_more places || true) (takes_all_last places) last in
    word_halts place places build read k word words (word_in place word) smalls.0 refl e (λ value next. built_halts places (build value) words (read + 1) k smalls.1 lasts.1 next)
built_halts (perhaps least greatest ∷ []) build [] read k small last e = absurd cc
built_halts (perhaps least greatest ∷ []) build (word ∷ words) read k small last e = grind (arith, and_parts, perhaps_halts, decimal_in, build_bad, perhaps_of)
built_halts (rising ∷ []) build [] read k small last e = grind (arith, none_fit, rising, bad_is, build_bad, rising_of, left_of)
built_halts (rising ∷ []) build (word ∷ words) read k small last e = grind (arith, build_bad, rising_of, left_of, from_indices, rising_halts, decimal_in)
built_halts (wishes most ∷ []) build words read k small last e =
    from_pairs most words read k (wishes_halt most words read k (wishes_of [] 31 read words) refl (build_bad (all_wishes_of most (left_of words read)) build k e))
built_halts (perhaps least greatest ∷ place ∷ places) build words read k small last e = absurd cc
built_halts (rising ∷ place ∷ places) build words read k small last e = absurd cc
built_halts (wishes most ∷ place ∷ places) build words read k small last e = absurd cc

end_here : (words : List (List ℕ)) (read : ℕ) (left : Left) → read ≡ left.read → Halts [] words read left.read
end_here words read left e = (0, omega arith, record { within = omega arith; prefix = tt; no_more = λ inside fits. no_place words inside fits })

built_ok : {A : Type 0} (r : Result (A × Left) LineFault) (build : A → Step) (made : Step) (left : Left) → (r >>= with_built build) ≡ Ok (made, left) → (value : A) × (r ≡ Ok (value, left))
built_ok (Ok x) build made left e =
    let both = ok_is (build x.0, x.1) (made, left) e in
    (x.0, ap (λ (l : Left). done (x.0, l)) (ap (λ (p : Step × Left). p.1) both))
built_ok (Err f) build made left e = absurd cc

built_ends : (places : List Place) (build : Build places) (words : List (List ℕ)) (read : ℕ) (made : Step) (left : Left) → takes_all_last places ≡ true
    → built_at places build (left_of words read) ≡ Ok (made, left) → Halts places words read left.read
built_ends [] build words read made left last e = grind (arith, ok_is, left_of, end_here)
built_ends (one place ∷ places) build [] read made left last e = absurd cc
built_ends (one place ∷ places) build (word ∷ words) read made left last e =
    let lasts = and_parts (none_more places || true) (takes_all_last places) last in
    word_ends place places build read word words (word_in place word) made left refl e (λ value next. built_ends places (build value) words (read + 1) made left lasts.1 next)
built_ends (perhaps least greatest ∷ []) build [] read made left last e = grind (arith, ok_is, left_of, none_fit, perhaps)
built_ends (perhaps least greatest ∷ []) build (word ∷ words) read made left last e = grind (arith, built_ok, perhaps_of, perhaps_ends, decimal_in)
built_ends (rising ∷ []) build [] read made left last e = absurd cc
built_ends (rising ∷ []) build (word ∷ words) read made left last e =
    let t = built_ok (rising_of (left_of (word ∷ words) read)) build made left e in
    from_indices (word ∷ words) read left.read (rising_ends read word words (decimal_in 1 31 word) t.0 left refl t.1)
built_ends (wishes most ∷ []) build words read made left last e = grind (arith, built_ok, all_wishes_of, left_of, bind_ok, wishes_of, bounded, bounded_is, pairs_end, from_pairs)
built_ends (perhaps least greatest ∷ place ∷ places) build words read made left last e = absurd cc
built_ends (rising ∷ place ∷ places) build words read made left last e = absurd cc
built_ends (wishes most ∷ place ∷ places) build words read made left last e = absurd cc

-- ---- a line

record LineHalts (version : ℕ) (words : List (List ℕ)) (k : ℕ) : Type 0 where
  pub within : k ≤ length words
  pub fits : FitsLine version (take k words)
  pub no_more : k < length words → FitsLine version (take (suc k) words) → ⊥

in_line : (version k : ℕ) (first : List ℕ) (words : List (List ℕ)) (row : Row) → row_of version first ≡ Some row → Halts row.places words 1 k → LineHalts version (first ∷ words) k
in_line version k first words row is it =
    let count : k ≡ suc it.0 = omega (arith, it.1) in
    rw count (record { within = omega (arith, it.2.within); fits = (row, is, it.2.prefix); no_more = grind (arith, take, same_Some) })

abbrev step_bad : ℕ → Result Step LineFault
step_bad k = Err (BadLine k)

step_bad_is : (j k : ℕ) → step_bad j ≡ step_bad k → j ≡ k
step_bad_is j k e = cc

abbrev step_failed : LineFault → Result Step LineFault
step_failed fault = Err fault

step_err_is : (f g : LineFault) → step_failed f ≡ step_failed g → f ≡ g
step_err_is f g e = cc

ended_bad : (read : ℕ) (words : List (List ℕ)) (made : Step) (k : ℕ) → (ended read words >>= λ none. Ok made) ≡ Err (BadLine k) → read ≡ k
ended_bad read words made k e = grind (arith, step_bad_is)

row_halts : (version k : ℕ) (first : List ℕ) (words : List (List ℕ)) (row : Row) → row_of version first ≡ Some row → all_small row.places ≡ true → takes_all_last row.places ≡ true
    → (r : Result (Step × Left) LineFault) → built_at row.places row.build (left_of words 1) ≡ r → (r >>= whole) ≡ step_bad k → LineHalts version (first ∷ words) k
row_halts version k first words row is small last (Ok built) read e =
    let same : built.1.read ≡ k = ended_bad built.1.read built.1.words built.0 k e in
    in_line version k first words row is (subst (Halts row.places words 1) same (built_ends row.places row.build words 1 built.0 built.1 last read))
row_halts version k first words row is small last (Err fault) read e =
    let same : fault ≡ BadLine k = step_err_is fault (BadLine k) e in
    in_line version k first words row is (built_halts row.places row.build words 1 k small last (read ∙ ap (failed (Step × Left)) same))

known_halts : (version k : ℕ) (first : List ℕ) (words : List (List ℕ)) (known : Option Row) → row_of version first ≡ known → (at_known known (left_of words 1) >>= whole) ≡ step_bad k
    → LineHalts version (first ∷ words) k
known_halts version k first words None is e = grind (arith, step_bad_is)
known_halts version k first words (Some row) is e =
    let fine = of_table version first row is in
    let parts = and_parts (is_word row.first) _ fine.fine in
    let places = and_parts (all_small row.places) (takes_all_last row.places) parts.1 in
    row_halts version k first words row is places.0 places.1 (built_at row.places row.build (left_of words 1)) refl e

words_halt : (version k : ℕ) (words : List (List ℕ)) → (next_of any_word 0 words >>= line_after version) ≡ step_bad k → LineHalts version words k
words_halt version k [] e = grind (arith, step_bad_is)
words_halt version k (first ∷ words) e = known_halts version k first words (row_of version first) refl e

abbrev read_bad : ℕ → Result (Option Step) LineFault
read_bad k = Err (BadLine k)

abbrev read_failed : LineFault → Result (Option Step) LineFault
read_failed fault = Err fault

read_err_is : (f g : LineFault) → read_failed f ≡ read_failed g → f ≡ g
read_err_is f g e = cc

chosen_bad : (b : Bool) (r : Result Step LineFault) (k : ℕ) → cond b (Ok None) (r >>= λ s. Ok (Some s)) ≡ read_bad k → r ≡ step_bad k
chosen_bad b r k e = grind (arith, read_err_is)

line_halts : (version k : ℕ) (line : List ℕ) → read_of version line ≡ Err (BadLine k) → LineHalts version (words_of line) k
unfolding read_of step_of
line_halts version k [] e = absurd cc
line_halts version k (octet ∷ line) e = words_halt version k (words_of (octet ∷ line)) (chosen_bad _ (next_of any_word 0 (words_of (octet ∷ line)) >>= line_after version) k e)

pub is_misfit : (version k : ℕ) (line : List ℕ) → read_of version line ≡ Err (BadLine k) → IsMisfit version line k
is_misfit version k line e =
    let halts = line_halts version k line e in
    record {
      not_blank = λ blank. let none = sym (blank_is_none version line blank) ∙ e in absurd (cc none);
      no_step = λ made is. let some = sym (says_so version line made is) ∙ e in absurd (cc some);
      within = halts.within;
      fits = halts.fits;
      no_more = halts.no_more;
    }

pub result_misfit : (version k : ℕ) (line : List ℕ) (r : Result (Option Step) LineFault) → Gives (λ read. read) r (read_of version line) → r ≡ Err (BadLine k) → IsMisfit version line k
result_misfit version k line r given e = is_misfit version k line (subst (λ (x : Result (Option Step) LineFault). Gives (λ read. read) x (read_of version line)) e given)
