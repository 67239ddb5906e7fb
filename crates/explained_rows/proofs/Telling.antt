-- What is told as octets are written one after the other.
use Rattle.explained_rows.proofs.Prelude.{ℕ, suc, zero, ◌≡◌, ◌≢◌, ◌+◌, ◌<◌, ◌≤◌, ◌==◌, Bool, true, false, List, [], ◌∷◌, ◌++◌, Option, None, Some, Result, Ok, Err, MatchResult, length, get_or, take, drop, min, refl, sym, ap, subst, ◌∙◌, append-nil, arith, take-append-drop, if◌then◌else◌, eq-eqb, drop-drop, get_or-take, length-drop, length-take, take-append-le, Appends, Keeps, AppendsPrefix, AppendsShort, Start, Blank, Blanks, Mark, Within, Beside, Line, lines_at, lines_told, next, next_in_row, number_of, picked, picked_at, place_after, takes, tells_line, told, told_at, WriteAppends}
use Rattle.std.proofs.lemmas.Bool.{eqb-true, ne_eqb}
use Rattle.std.proofs.Math.Seq.{take-add}
use Rattle.bcast_io.proofs.Citable.{Appends-nothing, Appends-then}
use Rattle.explained_rows.specs.declared.place.Place.{Place}

-- ---- octets behind octets

after_append : (place : Place) (xs ys : List ℕ) → place_after place (xs ++ ys) ≡ place_after (place_after place xs) ys
after_append place [] ys = refl
after_append place (x ∷ xs) ys = after_append (next place x) xs ys

module _ (picks : Place → ℕ → Bool) where
  picked_over : (b : Bool) (x : ℕ) (xs ys zs : List ℕ) → xs ≡ ys ++ zs → (if b then x ∷ xs else xs) ≡ (if b then x ∷ ys else ys) ++ zs
  picked_over true x xs ys zs is = ap (λ l. x ∷ l) is
  picked_over false x xs ys zs is = is

  pub picked_append : (place : Place) (xs ys : List ℕ) → picked picks place (xs ++ ys) ≡ picked picks place xs ++ picked picks (place_after place xs) ys
  picked_append place [] ys = refl
  picked_append place (x ∷ xs) ys =
      picked_over (picks place x) x (picked picks (next place x) (xs ++ ys)) (picked picks (next place x) xs)
      (picked picks (place_after (next place x) xs) ys) (picked_append (next place x) xs ys)

-- a prefix of octets that tell nothing tells nothing
prefix_nothing : (xs ys : List ℕ) → xs ++ ys ≡ [] → xs ≡ []
prefix_nothing [] ys is = refl
prefix_nothing (x ∷ xs) ys is = absurd cc

rest_nothing : (xs ys : List ℕ) → xs ++ ys ≡ [] → ys ≡ []
rest_nothing [] ys is = is
rest_nothing (x ∷ xs) ys is = absurd cc

silent_prefix : (place : Place) (xs ys : List ℕ) → told place (xs ++ ys) ≡ [] → told place xs ≡ []
silent_prefix place xs ys is = prefix_nothing (told place xs) (told (place_after place xs) ys) (sym (picked_append takes place xs ys) ∙ is)

silent_rest : (place : Place) (xs ys : List ℕ) → told place (xs ++ ys) ≡ [] → told (place_after place xs) ys ≡ []
silent_rest place xs ys is = rest_nothing (told place xs) (told (place_after place xs) ys) (sym (picked_append takes place xs ys) ∙ is)

-- ---- octets of one kind are of no other

longest_picked : (picks : Place → ℕ → Bool) (place : Place) (xs : List ℕ) → length (picked picks place xs) ≤ length xs
longest_picked picks place [] = omega arith
longest_picked picks place (x ∷ xs) = by (picks place x) (longest_picked picks (next place x) xs)
  where
    by : (b : Bool) → length (picked picks (next place x) xs) ≤ length xs
        → length (if b then x ∷ picked picks (next place x) xs else picked picks (next place x) xs) ≤ suc (length xs)
    by true least = omega (arith, least)
    by false least = omega (arith, least)

tail_is : (x : ℕ) (xs ys : List ℕ) → x ∷ xs ≡ x ∷ ys → xs ≡ ys
tail_is x xs ys is = cc

module _ (picks other : Place → ℕ → Bool) (apart : (place : Place) (x : ℕ) → picks place x ≡ true → other place x ≡ false) where
  pub none_other : (place : Place) (xs : List ℕ) → picked picks place xs ≡ xs → picked other place xs ≡ []
  none_other place [] is = refl
  none_other place (x ∷ xs) is = by (picks place x) refl is (none_other (next place x) xs)
    where
      by : (b : Bool) → picks place x ≡ b → (if b then x ∷ picked picks (next place x) xs else picked picks (next place x) xs) ≡ x ∷ xs
          → (picked picks (next place x) xs ≡ xs → picked other (next place x) xs ≡ [])
          → (if other place x then x ∷ picked other (next place x) xs else picked other (next place x) xs) ≡ []
      by true here same rest =
          let no : other place x ≡ false = apart place x here in
          rw no (rest (tail_is x (picked picks (next place x) xs) xs same))
      by false here same rest =
          let long : length (picked picks (next place x) xs) ≡ length (x ∷ xs) = ap length same in
          absurd (omega (arith, longest_picked picks (next place x) xs, long))

taken_apart : (place : Place) (x : ℕ) → takes place x ≡ true → tells_line place x ≡ false
taken_apart Start x is = absurd cc
taken_apart Blank x is = refl
taken_apart Blanks x is = refl
taken_apart Mark x is = refl
taken_apart Within x is = refl
taken_apart Beside x is = refl
taken_apart Line x is = absurd cc

line_apart : (place : Place) (x : ℕ) → tells_line place x ≡ true → takes place x ≡ false
line_apart Start x is = refl
line_apart Blank x is = absurd cc
line_apart Blanks x is = absurd cc
line_apart Mark x is = absurd cc
line_apart Within x is = absurd cc
line_apart Beside x is = absurd cc
line_apart Line x is = refl

-- a row that tells a line tells nothing of the transcript
pub row_silent : (row : List ℕ) → lines_told Start row ≡ row → told Start row ≡ []
row_silent row is = none_other tells_line takes line_apart Start row is

-- octets that tell nothing of either kind stand before a row that tells a line
pub before_row : (place : Place) (beside row : List ℕ) → told place beside ≡ [] → lines_told place beside ≡ [] → place_after place beside ≡ Start
    → lines_told Start row ≡ row → (told place (beside ++ row) ≡ []) × (lines_told place (beside ++ row) ≡ row)
before_row place beside row silent none at is = (
  picked_append takes place beside row ∙ ap (λ l. l ++ told (place_after place beside) row) silent ∙ ap (λ p. told p row) at ∙ row_silent row is,
  picked_append tells_line place beside row ∙ ap (λ l. l ++ lines_told (place_after place beside) row) none ∙ ap (λ p. lines_told p row) at ∙ is,
)

-- A prefix of what is left of octets that tell nothing was written. `initial` is the place of the first of all octets, `place` that of
-- the first that is left, and `now` that behind the front.
pub record PassedOn (initial place now : Place) (octets rest : List ℕ) (done count : ℕ) : Type 0 where
  pub at : now ≡ place_after initial (take (done + count) octets)
  pub prefix : told place (take count rest) ≡ []
  pub left : told now (drop (done + count) octets) ≡ []

pub passed_on : (initial place now : Place) (octets rest : List ℕ) (done count : ℕ) → rest ≡ drop done octets
    → place ≡ place_after initial (take done octets) → told place (drop done octets) ≡ [] → now ≡ place_after place (take count rest)
    → PassedOn initial place now octets rest done count
passed_on initial place now octets rest done count is came none at =
    let parts : told place (take count rest ++ drop count rest) ≡ [] = ap (told place) (take-append-drop count rest ∙ is) ∙ none in
    let left : drop count rest ≡ drop (done + count) octets = ap (drop count) is ∙ drop-drop count done octets in
    record {
      at = at ∙ ap (λ p. place_after p (take count rest)) came ∙ sym (after_append initial (take done octets) (take count rest))
          ∙ ap (place_after initial) (ap (λ l. take done octets ++ take count l) is ∙ sym (take-add done count octets));
      prefix = silent_prefix place (take count rest) (drop count rest) parts;
      left = ap (λ p. told p (drop (done + count) octets)) at ∙ ap (told (place_after place (take count rest))) (sym left)
          ∙ silent_rest place (take count rest) (drop count rest) parts;
    }

-- ---- a row of the transcript

after_taken : (place : Place) (x : ℕ) → takes place x ≡ true → next_in_row place x ≡ Within
after_taken Start x is = absurd cc
after_taken Blank x is = absurd cc
after_taken Blanks x is = by_mark (x == 35) refl is
  where
    by_mark : (b : Bool) → (x == 35) ≡ b → takes Blanks x ≡ true → next_in_row Blanks x ≡ Within
    by_mark true mark taken = absurd (let no : takes Blanks x ≡ false = rw mark refl in cc)
    by_mark false mark taken = rw mark refl
after_taken Mark x is = rw is refl
after_taken Within x is = refl
after_taken Beside x is = absurd cc
after_taken Line x is = absurd cc

next_within : (place : Place) (x : ℕ) → takes place x ≡ true → x ≢ 10 → next place x ≡ Within
next_within place x taken other = let no : (x == 10) ≡ false = ne_eqb x 10 other in rw no (after_taken place x taken)

-- these octets have no newline but at their end
abbrev pub IsRow : List ℕ → Type 0
IsRow xs = (k : ℕ) → k + 1 < length xs → get_or xs k 0 ≢ 10

rest_row : (x : ℕ) (xs : List ℕ) → IsRow (x ∷ xs) → IsRow xs
rest_row x xs row k less = row (suc k) (omega arith)

told_row : (place : Place) (x : ℕ) (xs : List ℕ) → takes place x ≡ true → IsRow (x ∷ xs) → told place (x ∷ xs) ≡ x ∷ xs
told_row place x [] taken row = rw taken refl
told_row place x (y ∷ ys) taken row =
    let within : next place x ≡ Within = next_within place x taken (row 0 (omega arith)) in
    let rest : told Within (y ∷ ys) ≡ y ∷ ys = told_row Within y ys refl (rest_row x (y ∷ ys) row) in
    let same : told (next place x) (y ∷ ys) ≡ y ∷ ys = ap (λ p. told p (y ∷ ys)) within ∙ rest in
    let P : Bool → Type 0 = λ b. (if b then x ∷ told (next place x) (y ∷ ys) else told (next place x) (y ∷ ys)) ≡ x ∷ y ∷ ys in
    subst P (sym taken) (ap (λ l. x ∷ l) same)

prefix_row : (n : ℕ) (xs : List ℕ) → IsRow xs → IsRow (take n xs)
prefix_row n xs row k less =
    let count : length (take n xs) ≡ min n (length xs) = length-take n xs in
    let same : get_or (take n xs) k 0 ≡ get_or xs k 0 = get_or-take n xs k 0 (omega arith) in
    λ is. row k (omega arith) (sym same ∙ is)

told_prefix : (place : Place) (n : ℕ) (row : List ℕ) → 0 < length row → takes place (get_or row 0 0) ≡ true → IsRow row
    → told place (take n row) ≡ take n row
told_prefix place n [] some taken is = absurd (omega arith)
told_prefix place zero (x ∷ xs) some taken is = refl
told_prefix place (suc n) (x ∷ xs) some taken is = told_row place x (take n xs) taken (prefix_row (suc n) (x ∷ xs) is)

-- ---- what a sink that tells its octets is seen to have taken

place_of : ℕ → Place
place_of zero = Start
place_of (suc zero) = Blank
place_of (suc (suc zero)) = Blanks
place_of (suc (suc (suc zero))) = Mark
place_of (suc (suc (suc (suc zero)))) = Within
place_of (suc (suc (suc (suc (suc zero))))) = Beside
place_of (suc (suc (suc (suc (suc (suc n)))))) = Line

numbered : (place : Place) → place_of (number_of place) ≡ place
unfolding place_of
numbered Start = refl
numbered Blank = refl
numbered Blanks = refl
numbered Mark = refl
numbered Within = refl
numbered Beside = refl
numbered Line = refl

same_place : (place other : Place) → number_of place ≡ number_of other → place ≡ other
same_place place other is = sym (numbered place) ∙ ap place_of is ∙ numbered other

appends_known : (old : List ℕ) (new : Option (List ℕ)) (xs now : List ℕ) → new ≡ Some now → now ≡ old ++ xs → Appends (Some old) new xs
appends_known old new xs now is grown = subst (λ n. Appends (Some old) n xs) (sym is) grown

pub keeps_itself : (kept : Option (List ℕ)) → Keeps kept kept
keeps_itself None = tt
keeps_itself (Some t) = refl

module _ (picks : Place → ℕ → Bool) where
  picked_here : (place : Place) (octets : List ℕ) → place_after Start octets ≡ place → picked_at picks place (Some octets) ≡ Some (picked picks Start octets)
  picked_here place octets is =
      let here : (number_of (place_after Start octets) == number_of place) ≡ true =
      eq-eqb (number_of (place_after Start octets)) (number_of place) (ap number_of is) in
      rw here refl

  -- octets were written
  pub appended : (place : Place) (kept kept' : Option (List ℕ)) (xs : List ℕ) → Appends kept kept' xs
      → Appends (picked_at picks place kept) (picked_at picks (place_after place xs) kept') (picked picks place xs)
  appended place None kept' xs a = tt
  appended place (Some t) None xs a = absurd a
  appended place (Some t) (Some t') xs a = grown (number_of (place_after Start t) == number_of place) refl
    where
      grown : (b : Bool) → (number_of (place_after Start t) == number_of place) ≡ b
          → Appends (if b then Some (picked picks Start t) else None) (picked_at picks (place_after place xs) (Some t')) (picked picks place xs)
      grown false is = tt
      grown true is =
          let here : place_after Start t ≡ place =
          same_place (place_after Start t) place (eqb-true (number_of (place_after Start t)) (number_of place) is) in
          let there : place_after Start t' ≡ place_after place xs =
          ap (place_after Start) a ∙ after_append Start t xs ∙ ap (λ p. place_after p xs) here in
          appends_known (picked picks Start t) (picked_at picks (place_after place xs) (Some t')) (picked picks place xs) (picked picks Start t')
          (picked_here (place_after place xs) t' there)
          (ap (picked picks Start) a ∙ picked_append picks Start t xs ∙ ap (λ p. picked picks Start t ++ picked picks p xs) here)

  -- none was written
  pub unwritten_of : (place : Place) (kept kept' : Option (List ℕ)) → Keeps kept kept' → Keeps (picked_at picks place kept) (picked_at picks place kept')
  unwritten_of place None kept' k = tt
  unwritten_of place (Some t) None k = absurd k
  unwritten_of place (Some t) (Some t') k =
      subst (λ o. Keeps (picked_at picks place (Some t)) (picked_at picks place (Some o))) (sym k) (keeps_itself (picked_at picks place (Some t)))

keeps_nothing : (a b : Option (List ℕ)) (xs : List ℕ) → xs ≡ [] → Appends a b xs → Keeps a b
keeps_nothing None b xs is p = tt
keeps_nothing (Some t) None xs is p = absurd p
keeps_nothing (Some t) (Some u) xs is p = p ∙ ap (λ l. t ++ l) is ∙ append-nil t

pub keeps_then : (a b c : Option (List ℕ)) → Keeps a b → Keeps b c → Keeps a c
keeps_then None b c p q = tt
keeps_then (Some t) None c p q = absurd p
keeps_then (Some t) (Some u) None p q = absurd q
keeps_then (Some t) (Some u) (Some v) p q = q ∙ p

pub keeps_appends : (a b c : Option (List ℕ)) (xs : List ℕ) → Keeps a b → Appends b c xs → Appends a c xs
keeps_appends None b c xs p q = tt
keeps_appends (Some t) None c xs p q = absurd p
keeps_appends (Some t) (Some u) None xs p q = absurd q
keeps_appends (Some t) (Some u) (Some v) xs p q = q ∙ ap (λ l. l ++ xs) p

-- octets were written that tell nothing
pub silent : (place : Place) (kept kept' : Option (List ℕ)) (xs : List ℕ) → told place xs ≡ [] → Appends kept kept' xs
    → Keeps (told_at place kept) (told_at (place_after place xs) kept')
silent place kept kept' xs is a =
    keeps_nothing (told_at place kept) (told_at (place_after place xs) kept') (told place xs) is (appended takes place kept kept' xs a)

pub lines_unwritten : (place : Place) (kept kept' : Option (List ℕ)) → Keeps kept kept' → Keeps (lines_at place kept) (lines_at place kept')
lines_unwritten place kept kept' k = unwritten_of tells_line place kept kept' k

-- a prefix of a row of the transcript was written, which begins with the octets that are to be written
pub row_written : (place after : Place) (kept kept' : Option (List ℕ)) (count : ℕ) (from row : List ℕ) → row ≡ take (length row) from
    → count ≤ length row → 1 ≤ length row → takes place (get_or from 0 0) ≡ true → IsRow row
    → Appends kept kept' (take count row) → after ≡ place_after place (take count row)
    → Appends (told_at place kept) (told_at after kept') (take count from)
row_written place after kept kept' count from row prefix within some taken is a at =
    let first : get_or row 0 0 ≡ get_or from 0 0 = ap (λ l. get_or l 0 0) prefix ∙ get_or-take (length row) from 0 0 (omega arith) in
    let tells : told place (take count row) ≡ take count row = told_prefix place count row (omega arith) (ap (takes place) first ∙ taken) is in
    let parts : row ++ drop (length row) from ≡ from = ap (λ l. l ++ drop (length row) from) prefix ∙ take-append-drop (length row) from in
    let same : take count row ≡ take count from = sym (take-append-le count row (drop (length row) from) within) ∙ ap (take count) parts in
    subst (λ xs. Appends (told_at place kept) (told_at after kept') xs) (tells ∙ same)
    (subst (λ p. Appends (told_at place kept) (told_at p kept') (told place (take count row))) (sym at) (appended takes place kept kept' (take count row) a))

-- the same prefix leaves the rows that tell lines
pub row_beside : (place after : Place) (kept kept' : Option (List ℕ)) (count : ℕ) (from row : List ℕ) → row ≡ take (length row) from
    → 1 ≤ length row → takes place (get_or from 0 0) ≡ true → IsRow row
    → Appends kept kept' (take count row) → after ≡ place_after place (take count row) → Keeps (lines_at place kept) (lines_at after kept')
row_beside place after kept kept' count from row prefix some taken is a at =
    let first : get_or row 0 0 ≡ get_or from 0 0 = ap (λ l. get_or l 0 0) prefix ∙ get_or-take (length row) from 0 0 (omega arith) in
    let tells : told place (take count row) ≡ take count row = told_prefix place count row (omega arith) (ap (takes place) first ∙ taken) is in
    let none : lines_told place (take count row) ≡ [] = none_other takes tells_line taken_apart place (take count row) tells in
    keeps_nothing (lines_at place kept) (lines_at after kept') (lines_told place (take count row)) none
    (subst (λ p. Appends (lines_at place kept) (lines_at p kept') (lines_told place (take count row))) (sym at)
    (appended tells_line place kept kept' (take count row) a))

pub appends_kept : (a b c : Option (List ℕ)) (xs : List ℕ) → Appends a b xs → Keeps b c → Appends a c xs
appends_kept None b c xs p q = tt
appends_kept (Some t) None c xs p q = absurd p
appends_kept (Some t) (Some u) None xs p q = absurd q
appends_kept (Some t) (Some u) (Some v) xs p q = q ∙ p

module _ (initial place : Place) (octets : List ℕ) (done : ℕ) (came : place ≡ place_after initial (take done octets))
    (first kept : Option (List ℕ))
    (so_far : Appends (lines_at initial first) (lines_at place kept) (lines_told initial (take done octets))) where
  -- rows that tell lines, as octets go on
  pub lines_on : (now : Place) (kept' : Option (List ℕ)) (rest : List ℕ) (count : ℕ) → rest ≡ drop done octets → now ≡ place_after place (take count rest)
      → Appends kept kept' (take count rest) → Appends (lines_at initial first) (lines_at now kept') (lines_told initial (take (done + count) octets))
  lines_on now kept' rest count is at wrote =
      let step : Appends (lines_at place kept) (lines_at now kept') (lines_told place (take count rest)) =
      subst (λ p. Appends (lines_at place kept) (lines_at p kept') (lines_told place (take count rest))) (sym at)
      (appended tells_line place kept kept' (take count rest) wrote) in
      let same : lines_told initial (take done octets) ++ lines_told place (take count rest) ≡ lines_told initial (take (done + count) octets) =
      ap (λ p. lines_told initial (take done octets) ++ lines_told p (take count rest)) came
      ∙ sym (picked_append tells_line initial (take done octets) (take count rest))
      ∙ ap (λ l. lines_told initial (take done octets ++ take count l)) is ∙ ap (lines_told initial) (sym (take-add done count octets)) in
      subst (λ l. Appends (lines_at initial first) (lines_at now kept') l) same
      (Appends-then (lines_at initial first) (lines_at place kept) (lines_at now kept') (lines_told initial (take done octets))
      (lines_told place (take count rest)) so_far step)

  -- the sink failed at the rest
  pub lines_cut : (kept' : Option (List ℕ)) → Keeps kept kept' → AppendsPrefix (lines_at initial first) (lines_at place kept') (lines_told initial octets)
  lines_cut kept' keeps = record {
    prefix = lines_told initial (take done octets);
    rest = lines_told place (drop done octets);
    whole = ap (lines_told initial) (sym (take-append-drop done octets)) ∙ picked_append tells_line initial (take done octets) (drop done octets)
        ∙ ap (λ p. lines_told initial (take done octets) ++ lines_told p (drop done octets)) (sym came);
    appended = appends_kept (lines_at initial first) (lines_at place kept) (lines_at place kept') (lines_told initial (take done octets)) so_far
        (lines_unwritten place kept kept' keeps);
  }

-- nothing of a row was put
pub prefix_none : (a : Option (List ℕ)) (row : List ℕ) → AppendsPrefix a a row
prefix_none a row = record { prefix = []; rest = row; whole = refl; appended = Appends-nothing a }

-- octets were written of which none is of a row that tells a line
pub keeps_either : {T E : Type 0} (result : Result T E) (a b : Option (List ℕ)) (xs : List ℕ) → xs ≡ []
    → MatchResult result (λ _. Appends a b xs) (λ _. AppendsPrefix a b xs) → Keeps a b
keeps_either (Ok x) a b xs is p = keeps_nothing a b xs is p
keeps_either (Err e) a b xs is p = keeps_nothing a b p.prefix (prefix_nothing p.prefix p.rest (sym p.whole ∙ is)) p.appended

-- the rows behind the first octets tell a line, and these tell nothing of either kind
pub row_behind : (place : Place) (rows : List ℕ) (n : ℕ) → told place (take n rows) ≡ [] → lines_told place (take n rows) ≡ []
    → place_after place (take n rows) ≡ Start → lines_told Start (drop n rows) ≡ drop n rows
    → (told place rows ≡ []) × (lines_told place rows ≡ drop n rows)
row_behind place rows n silent none at is =
    let both = before_row place (take n rows) (drop n rows) silent none at is in
    let whole : rows ≡ take n rows ++ drop n rows = sym (take-append-drop n rows) in
    (ap (told place) whole ∙ both.0, ap (lines_told place) whole ∙ both.1)

-- octets of the transcript were written, and then a prefix of the rest
pub written_more : (a b c : Option (List ℕ)) (n k : ℕ) (xs : List ℕ) → Appends a b (take n xs) → Appends b c (take k (drop n xs)) → Appends a c (take (n + k) xs)
written_more a b c n k xs p q = subst (Appends a c) (sym (take-add n k xs)) (Appends-then a b c (take n xs) (take k (drop n xs)) p q)

pub written_short : (a b c : Option (List ℕ)) (n : ℕ) (xs : List ℕ) → n < length xs → Appends a b (take n xs) → Keeps b c → AppendsShort a c xs
written_short a b c n xs some p keeps = record {
  prefix = take n xs;
  rest = drop n xs;
  whole = sym (take-append-drop n xs);
  appended = appends_kept a b c (take n xs) p keeps;
  some = omega (arith, length-drop n xs, some);
}

-- the same octets, or a prefix of them, were written
pub either_is : {T E : Type 0} (result : Result T E) (a b : Option (List ℕ)) (xs ys : List ℕ) → xs ≡ ys
    → MatchResult result (λ _. Appends a b xs) (λ _. AppendsPrefix a b xs) → MatchResult result (λ _. Appends a b ys) (λ _. AppendsPrefix a b ys)
either_is (Ok x) a b xs ys is p = subst (Appends a b) is p
either_is (Err e) a b xs ys is p = subst (AppendsPrefix a b) is p

-- octets were written behind what was kept, or none
pub keeps_write : {E : Type 0} (result : Result ℕ E) (a b c : Option (List ℕ)) (from : List ℕ) → Keeps a b → WriteAppends b c result from → WriteAppends a c result from
keeps_write (Ok n) a b c from p q = keeps_appends a b c (take n from) p q
keeps_write (Err e) a b c from p q = keeps_then a b c p q
