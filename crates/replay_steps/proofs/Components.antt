-- A box that fails has no room for the valid units of its sink.
use Rattle.replay_steps.proofs.Prelude.{◌≡◌, ℕ, ◌+◌, ◌<◌, ◌^◌, eq-eqb, List, [], ◌∷◌, ◌++◌, length, map, sym, ap, subst, ◌∙◌, append_assoc, length-append, arith, Option, Some, slice_get, slice_set, suc, IsTrue, option_map, map-append, Account, valid, Holds, RoomFor, SinkUnit, Took, accounts_after, onto_valid, valid_for, with_units, took_all, valid_append, Answered, unit_lines, BoxFails, CloseFails, sum}
use Rattle.std.proofs.lemmas.List.Sums.{sum_by-append, sum_by-cons}
use Rattle.bcast_base.specs.Counts.{Rose}

map_some : {A : Type 0} (f : A → A) (o : Option A) (b : A) → option_map f o ≡ Some b → (a : A) × (o ≡ Some a) × (f a ≡ b)
map_some f o b e = grind arith

set_here : {A : Type 0} (xs : List A) (i : ℕ) (b x : A) → slice_get xs i ≡ Some b → slice_get (slice_set xs i x) i ≡ Some x
set_here (y ∷ ys) (suc i) b x e = set_here ys i b x e
set_here xs i b x e = search

-- the box that failed: what it was at the start, what is left of it, and the units of its sink
pub record Failure (starts ends : List Account) (units : List SinkUnit) : Type 0 where
  pub place : ℕ
  pub first : Account
  pub after : Account
  pub was : slice_get starts place ≡ Some first
  pub is : slice_get ends place ≡ Some after
  pub rose : Rose first.faults after.faults
  pub octets : List ℕ
  pub taken : List (List ℕ)
  pub rest : List (List ℕ)
  pub split : valid_for place units ≡ taken ++ octets ∷ rest
  pub no_room : IsTrue first.is_sound → ¬ ((first.units + length taken + 1 < 2 ^ 64) × (first.octets + sum (map length taken) + length octets < 2 ^ 64))

sum-append : (us vs : List (List ℕ)) → sum (map length (us ++ vs)) ≡ sum (map length us) + sum (map length vs)
sum-append us vs = ap sum (map-append length us vs) ∙ sum_by-append (λ x. x) (map length us) (map length vs)

valid_here : (unit : SinkUnit) (bis time : ℕ) (octets : List ℕ) (rest : List SinkUnit) → unit.unit ≡ valid bis time octets
    → valid_for unit.box (unit ∷ rest) ≡ octets ∷ valid_for unit.box rest
valid_here unit bis time octets rest is = grind (arith, onto_valid, valid_for, eq-eqb)

-- the boxes took these units, and then one failed at a unit of those that were handed
pub failure : (starts ends accounts : List Account) (us handed behind all : List SinkUnit) (text told : List ℕ) → Took starts accounts us
    → (f : BoxFails handed text told accounts ends) → all ≡ us ++ (f.done ++ (f.unit ∷ behind)) → Failure starts ends all
failure starts ends accounts us handed behind all text told before f split =
    let place : ℕ = f.unit.box in
    let old : List Account = accounts_after accounts f.done in
    let mid = map_some (λ account. with_units account (valid_for place f.done)) (slice_get accounts place) f.box.before (sym (took_all accounts f.done place) ∙ f.box.here) in
    let start = map_some (λ account. with_units account (valid_for place us)) (slice_get starts place) mid.0 (sym (before place) ∙ mid.1) in
    let same : with_units (with_units start.0 (valid_for place us)) (valid_for place f.done) ≡ f.box.before =
    ap (λ account. with_units account (valid_for place f.done)) start.2 ∙ mid.2 in
    let taken : List (List ℕ) = valid_for place us ++ valid_for place f.done in
    record {
      place = place;
      first = start.0;
      after = f.box.after;
      was = start.1;
      is = ap (λ accounts. slice_get accounts place) f.box.others ∙ set_here old place f.box.before f.box.after f.box.here;
      rose = let P : Account → Type 0 = λ a. Rose a.faults f.box.after.faults in subst P (sym same) f.box.took.0;
      octets = f.octets;
      taken = taken;
      rest = valid_for place behind;
      split = grind (arith, valid_for, valid_append, valid_here, append_assoc);
      no_room = grind (arith, with_units, valid_for, length-append, sum-append);
    }

pub no_room_for : (starts ends : List Account) (units : List SinkUnit) → Failure starts ends units → RoomFor starts units → ⊥
no_room_for starts ends units f room =
    let here = room f.place f.first f.was in
    let P : List (List ℕ) → Type 0 = λ us. Holds (with_units f.first us) in
    let holds : Holds (with_units f.first (f.taken ++ f.octets ∷ f.rest)) = subst P f.split here.1 in
    f.no_room here.0 (
      omega (arith, holds.0, length-append f.taken (f.octets ∷ f.rest)),
      omega (arith, holds.1, sum-append f.taken (f.octets ∷ f.rest), sum_by-cons (λ x. x) (length f.octets) (map length f.rest)),
    )

-- whatever is printed before its unit, the units before that one went to their boxes
pub box_fails : (units : List SinkUnit) (answers : List Answered) (output text told : List ℕ) (old new : List Account)
    → CloseFails units answers output text told old new → (lines : List ℕ) × BoxFails units [] lines old new
box_fails units answers output text told old new f = (unit_lines f.done, grind arith)
