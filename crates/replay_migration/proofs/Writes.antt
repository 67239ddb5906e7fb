-- A text that is written in three pieces, of which one is cut short.
use Rattle.replay_migration.proofs.Prelude.{◌≡◌, ℕ, List, ◌++◌, Option, ap, sym, subst, ◌∙◌, append_assoc, arith, length-append, Appends, AppendsShort, Appends-then}

-- more was to be written than the piece that was cut short
cut_before : (a b : Option (List ℕ)) (xs ys : List ℕ) → AppendsShort a b xs → AppendsShort a b (xs ++ ys)
cut_before a b xs ys short = record {
  prefix = short.prefix;
  rest = short.rest ++ ys;
  whole = ap (λ l. l ++ ys) short.whole ∙ append_assoc short.prefix short.rest ys;
  appended = short.appended;
  some = omega (arith, short.some, length-append short.rest ys);
}

-- another piece was written before it
cut_behind : (a b c : Option (List ℕ)) (xs ys : List ℕ) → Appends a b xs → AppendsShort b c ys → AppendsShort a c (xs ++ ys)
cut_behind a b c xs ys written short = record {
  prefix = xs ++ short.prefix;
  rest = short.rest;
  whole = ap (λ l. xs ++ l) short.whole ∙ sym (append_assoc xs short.prefix short.rest);
  appended = Appends-then a b c xs short.prefix written short.appended;
  some = short.some;
}

module _ (whole first second third : List ℕ) (are : whole ≡ first ++ (second ++ third)) where
  pub first_short : (a b : Option (List ℕ)) → AppendsShort a b first → AppendsShort a b whole
  first_short a b short = subst (AppendsShort a b) (sym are) (cut_before a b first (second ++ third) short)

  pub second_short : (a b c : Option (List ℕ)) → Appends a b first → AppendsShort b c second → AppendsShort a c whole
  second_short a b c written short =
      subst (AppendsShort a c) (sym are) (cut_behind a b c first (second ++ third) written (cut_before b c second third short))

  pub third_short : (a b c d : Option (List ℕ)) → Appends a b first → Appends b c second → AppendsShort c d third → AppendsShort a d whole
  third_short a b c d written next short =
      subst (AppendsShort a d) (sym are) (cut_behind a b d first (second ++ third) written (cut_behind b c d second third next short))
