-- One call after another, on what a source has left and what a sink took.
use Rattle.bcast_io.proofs.Prelude.{ℕ, ◌+◌, ◌<◌, List, [], ◌++◌, Option, length, take, drop, refl, sym, subst, append_assoc, append-nil, take-append-drop, length-drop, arith, Appends, Consumes, Keeps, take-add}
use Rattle.bcast_io.specs.Writing.{AppendsPrefix, AppendsShort}

-- nothing was taken, and nothing written
pub Consumes-nothing : (a : Option (List ℕ)) → Consumes a a []
Consumes-nothing a = grind arith

pub Appends-nothing : (a : Option (List ℕ)) → Appends a a []
Appends-nothing a = grind (arith, append-nil)

-- one read after another
pub Consumes-then : (a b c : Option (List ℕ)) (xs ys : List ℕ) → Consumes a b xs → Consumes b c ys → Consumes a c (xs ++ ys)
Consumes-then a b c xs ys p q = grind (arith, append_assoc)

-- one write after another
pub Appends-then : (a b c : Option (List ℕ)) (xs ys : List ℕ) → Appends a b xs → Appends b c ys → Appends a c (xs ++ ys)
Appends-then a b c xs ys p q = grind (arith, append_assoc)

-- a refused write after others
pub Appends-kept : (a b c : Option (List ℕ)) (xs : List ℕ) → Appends a b xs → Keeps b c → Appends a c xs
Appends-kept a b c xs p q = grind arith

-- nothing is a prefix of anything
pub AppendsPrefix-nothing : (a b : Option (List ℕ)) (xs : List ℕ) → Keeps a b → AppendsPrefix a b xs
AppendsPrefix-nothing a b xs p = record { prefix = []; rest = xs; whole = refl; appended = Appends-kept a a b [] (Appends-nothing a) p }

-- whole writes, and then one that was cut short
pub AppendsPrefix-then : (a b c : Option (List ℕ)) (xs ys : List ℕ) → Appends a b xs → AppendsPrefix b c ys → AppendsPrefix a c (xs ++ ys)
AppendsPrefix-then a b c xs ys p q = grind (arith, append_assoc, Appends-then)

-- more was to be written than what was cut short
pub AppendsPrefix-of_more : (a b : Option (List ℕ)) (xs ys : List ℕ) → AppendsPrefix a b xs → AppendsPrefix a b (xs ++ ys)
AppendsPrefix-of_more a b xs ys p = grind (arith, append_assoc)

-- a prefix of a list, cut at a number
pub AppendsPrefix-cut : (a b : Option (List ℕ)) (n : ℕ) (xs : List ℕ) → Appends a b (take n xs) → AppendsPrefix a b xs
AppendsPrefix-cut a b n xs p = record { prefix = take n xs; rest = drop n xs; whole = sym (take-append-drop n xs); appended = p }

-- a list, cut before its end
pub AppendsShort-cut : (a b : Option (List ℕ)) (n : ℕ) (xs : List ℕ) → n < length xs → Appends a b (take n xs) → AppendsShort a b xs
AppendsShort-cut a b n xs some p =
    record { prefix = take n xs; rest = drop n xs; whole = sym (take-append-drop n xs); appended = p; some = omega (arith, length-drop n xs) }

-- a prefix of a list was written, and then a prefix of the rest
pub Appends-more : (a b c : Option (List ℕ)) (n k : ℕ) (xs : List ℕ) → Appends a b (take n xs) → Appends b c (take k (drop n xs)) → Appends a c (take (n + k) xs)
Appends-more a b c n k xs p q = subst (Appends a c) (sym (take-add n k xs)) (Appends-then a b c _ _ p q)
