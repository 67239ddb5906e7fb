-- Steps and their lines: what is read is the step that the line says, and what a line says is read.
use Rattle.scenario_text.proofs.Prelude.{◌≡◌, ◌+◌, ℕ, Bool, true, false, cond, nat_eq, ◌||◌, not, List, [], ◌∷◌, Option, None, Some, Result, Ok, refl, ap, sym, subst, ◌∙◌, eqb-true, IfOk, IfSome, IfNone, and_parts, not-true, same_Some, LineFault, onto_first, words_of, Place, one, perhaps, rising, wishes, ◌>>=◌, bind_ok, Left, Gives, any_word, next_of, at_place, ended, place_again, place_spelled, IsLast, Step, IsInRange, Build, Row, Says, LineIs, IsBlank, built_at, at_known, whole, line_after, arith}
use Rattle.scenario_text.specs.Table.{row_of}
use Rattle.scenario_text.specs.Steps.{step_of, read_of}
use Rattle.scenario_text.proofs.Rows.{all_small, takes_all, none_more, takes_all_last, is_word, of_table}
use Rattle.scenario_text.proofs.Within.{row_within, says_within}

abbrev pub left_of : List (List ℕ) → ℕ → Left
left_of words read = record { words = words; read = read }

abbrev pub done : {A : Type 0} → A → Result A LineFault
done x = Ok x

pub ok_is : {A : Type 0} (x y : A) → done x ≡ done y → x ≡ y
ok_is x y e = cc

-- ---- the words at the places of a row

built_again : (places : List Place) (build : Build places) (made : Step) (words : List (List ℕ)) (read : ℕ) → all_small places ≡ true → Says places build made words
    → (k : ℕ) × (built_at places build (left_of words read) ≡ Ok (made, left_of [] k))
built_again [] built made words read small e = (read, rw (e.0, e.1) refl)
built_again (place ∷ places) build made words read small e =
    let parts = and_parts _ (all_small places) small in
    let first = place_again place e.0 words e.1 read parts.0 e.2 in
    let others = built_again places (build e.0) made e.1 first.0 parts.1 e.3 in
    (others.0, rw first.1 others.1)

last_place : (place : Place) (places : List Place) (built : Build places) (made : Step) (words : List (List ℕ)) (read : ℕ) (left : Left) → (none_more places || not (takes_all place)) ≡ true
    → built_at places built (left_of words read) ≡ Ok (made, left) → left.words ≡ [] → IsLast place words
last_place (one place) places built made words read left last e none = tt
last_place (perhaps least greatest) places built made words read left last e none = tt
last_place rising places built made words read left last e none = tt
last_place (wishes most) [] built made words read left last e none =
    let both = ok_is (built, left_of words read) (made, left) e in
    ap (λ (p : Step × Left). p.1.words) both ∙ none
last_place (wishes most) (place ∷ places) built made words read left last e none = absurd cc

built_says : (places : List Place) (build : Build places) (made : Step) (words : List (List ℕ)) (read : ℕ) (left : Left) → takes_all_last places ≡ true
    → built_at places build (left_of words read) ≡ Ok (made, left) → left.words ≡ [] → Says places build made words
built_says [] built made words read left last e none = grind (arith, ok_is)
built_says (place ∷ places) build made words read left last e none =
    let parts = and_parts (none_more places || not (takes_all place)) (takes_all_last places) last in
    let a = bind_ok (at_place place (left_of words read)) (λ value. built_at places (build value.0) value.1) (made, left) e in
    let here = last_place place places (build a.0.0) made a.0.1.words a.0.1.read left parts.0 a.2 none in
    (a.0.0, a.0.1.words, place_spelled place words read a.0.0 a.0.1 a.1 here, built_says places (build a.0.0) made a.0.1.words a.0.1.read left parts.1 a.2 none)

-- ---- a line

ended_is : (read : ℕ) (words : List (List ℕ)) (u : Unit {0}) → ended read words ≡ Ok u → words ≡ []
ended_is read words u e = grind arith

-- a line that was read has a row, and its words spell the values of the step
record Found (version : ℕ) (made : Step) (words : List (List ℕ)) : Type 0 where
  pub first : List ℕ
  pub others : List (List ℕ)
  pub split : words ≡ first ∷ others
  pub row : Row
  pub known : row_of version first ≡ Some row
  pub said : Says row.places row.build made others

found_at : (version : ℕ) (first : List ℕ) (words : List (List ℕ)) (read : ℕ) (known : Option Row) (made : Step) (left : Left) → row_of version first ≡ known
    → at_known known (left_of words read) ≡ Ok (made, left) → left.words ≡ [] → Found version made (first ∷ words)
found_at version first words read None made left is e none = absurd cc
found_at version first words read (Some row) made left is e none =
    let fine = of_table version first row is in
    let parts = and_parts (is_word row.first) _ fine.fine in
    let places = and_parts (all_small row.places) (takes_all_last row.places) parts.1 in
    record { first = first; others = words; split = refl; row = row; known = is; said = built_says row.places row.build made words read left places.1 e none }

abbrev stepped : ℕ → ℕ → List (List ℕ) → Result Step LineFault
stepped version read words = next_of any_word read words >>= line_after version

found_by : (version read : ℕ) (words : List (List ℕ)) (made : Step) → stepped version read words ≡ Ok made → Found version made words
found_by version read [] made e = absurd cc
found_by version read (first ∷ words) made e =
    let a = bind_ok (at_known (row_of version first) (left_of words (read + 1))) whole made e in
    let b = bind_ok (ended a.0.1.read a.0.1.words) (λ none. Ok a.0.0) made a.2 in
    let same : a.0.0 ≡ made = ok_is a.0.0 made b.2 in
    let found = found_at version first words (read + 1) (row_of version first) a.0.0 a.0.1 refl a.1 (ended_is a.0.1.read a.0.1.words b.0 b.1) in
    subst (λ (s : Step). Found version s (first ∷ words)) same found

found_again : (version read : ℕ) (words : List (List ℕ)) (made : Step) → Found version made words → stepped version read words ≡ Ok made
found_again version read words made found =
    let fine = of_table version found.first found.row found.known in
    let parts = and_parts (is_word found.row.first) _ fine.fine in
    let places = and_parts (all_small found.row.places) (takes_all_last found.row.places) parts.1 in
    let again = built_again found.row.places found.row.build made found.others (read + 1) places.0 found.said in
    rw (found.split, found.known, again.1) refl

-- ---- no step's line is blank

head_word : List (List ℕ) → List ℕ
head_word [] = []
head_word (word ∷ words) = word

onto_head : (octet : ℕ) (words : List (List ℕ)) → is_word (head_word (onto_first octet words)) ≡ not (nat_eq octet 35)
unfolding head_word
onto_head octet words = grind arith

first_word : (version : ℕ) (first : List ℕ) (row : Row) → row_of version first ≡ Some row → is_word first ≡ true
first_word version first row e = let fine = of_table version first row e in rw fine.same (and_parts (is_word row.first) _ fine.fine).0

not_other : (comment space : Bool) (octet : ℕ) (line : List ℕ) → nat_eq octet 35 ≡ comment → nat_eq octet 32 ≡ space
    → is_word (head_word (cond space ([] ∷ words_of line) (onto_first octet (words_of line)))) ≡ true → comment ≡ false
unfolding head_word
not_other comment space octet line is sp e = grind (arith, not, onto_head, words_of, not-true)

no_comment : (octet : ℕ) (line : List ℕ) → is_word (head_word (words_of (octet ∷ line))) ≡ true → nat_eq octet 35 ≡ false
unfolding head_word
no_comment octet line e = not_other (nat_eq octet 35) (nat_eq octet 32) octet line refl refl e

pub says_so : (version : ℕ) (line : List ℕ) (made : Step) → LineIs version made line → read_of version line ≡ Ok (Some made)
unfolding read_of step_of head_word
says_so version [] made is = grind (arith, first_word, head_word)
says_so version (octet ∷ line) made is =
    let word = first_word version is.first is.row is.known in
    let head : is_word (head_word (words_of (octet ∷ line))) ≡ true = ap (λ (ws : List (List ℕ)). is_word (head_word ws)) is.split ∙ word in
    let other = no_comment octet line head in
    let read = found_again version 0 (words_of (octet ∷ line)) made (record { first = is.first; others = is.words; split = is.split; row = is.row; known = is.known; said = is.spelled }) in
    rw (other, read) refl

step_in : (r : Result Step LineFault) (made : Step) → (r >>= λ s. Ok (Some s)) ≡ Ok (Some made) → r ≡ Ok made
step_in r made e = grind (arith, same_Some, ok_is)

chosen_in : (b : Bool) (r : Result Step LineFault) (made : Step) → cond b (Ok None) (r >>= λ s. Ok (Some s)) ≡ Ok (Some made) → r ≡ Ok made
chosen_in b r made e = grind (arith, step_in)

pub so_says : (version : ℕ) (line : List ℕ) (made : Step) → read_of version line ≡ Ok (Some made) → LineIs version made line
unfolding read_of step_of
so_says version [] made e = absurd cc
so_says version (octet ∷ line) made e =
    let found = found_by version 0 (words_of (octet ∷ line)) made (chosen_in _ (stepped version 0 (words_of (octet ∷ line))) made e) in
    record { first = found.first; words = found.others; split = found.split; row = found.row; known = found.known; spelled = found.said }

-- ---- the clauses

pub one_said : (version : ℕ) (line : List ℕ) (this that : Step) → LineIs version this line → LineIs version that line → this ≡ that
one_said version line this that is other =
    same_Some this that (ok_is (Some this) (Some that) (sym (says_so version line this is) ∙ says_so version line that other))

pub said_in_range : (version : ℕ) (line : List ℕ) (made : Step) → read_of version line ≡ Ok (Some made) → IsInRange made
said_in_range version line made e =
    let is = so_says version line made e in
    says_within is.row.places is.row.build made is.words is.spelled (row_within version is.first is.row is.known)

pub is_in_range : (version : ℕ) (line : List ℕ) (r : Result (Option Step) LineFault) → Gives (λ read. read) r (read_of version line) → IfOk r (λ read. IfSome read IsInRange)
is_in_range version line r given = grind (arith, said_in_range)

pub is_found : (version : ℕ) (line : List ℕ) (r : Result (Option Step) LineFault) → Gives (λ read. read) r (read_of version line) → IfOk r (λ read. IfSome read (λ made. LineIs version made line))
is_found version line r given = grind (arith, so_says)

pub is_read : (version : ℕ) (line : List ℕ) (r : Result (Option Step) LineFault) → Gives (λ read. read) r (read_of version line)
    → (made : Step) → LineIs version made line → Gives (λ read. read) r (Ok (Some made))
is_read version line r given made is = subst (λ (read : Result (Option Step) LineFault). Gives (λ x. x) r read) (says_so version line made is) given

pub none_is_blank : (version : ℕ) (line : List ℕ) → read_of version line ≡ Ok None → IsBlank line
unfolding read_of
none_is_blank version line e = grind (arith, eqb-true)

pub blank_is_none : (version : ℕ) (line : List ℕ) → IsBlank line → read_of version line ≡ Ok None
unfolding read_of
blank_is_none version line blank = grind arith

pub is_blank : (version : ℕ) (line : List ℕ) (r : Result (Option Step) LineFault) → Gives (λ read. read) r (read_of version line) → IfOk r (λ read. IfNone read (IsBlank line))
is_blank version line r given = grind (arith, none_is_blank)
