-- Reading records one after the other, as a loop does.
use Rattle.pacs_records.proofs.Prelude.{◌≡◌, ℕ, suc, ◌-◌, ◌+◌, ◌≤◌, ◌<◌, List, [], ◌∷◌, ◌++◌, length, Result, Ok, Err, sym, ap, ◌∙◌, append_assoc, arith, IsOk, append-nil, PacFault, PacRecord, ◌>>=◌, list_of, rest_of}
use Rattle.pacs_records.specs.Reading.{record_in, records_in}

-- what was read before, and what is still read
abbrev pub with_prefix : List PacRecord → Result (List PacRecord × List ℕ) PacFault → Result (List PacRecord × List ℕ) PacFault
with_prefix prefix read = read >>= λ x. Ok (prefix ++ x.0, x.1)

-- the records so far and those of the rest are those of all, and the rest is within the octets
pub record SoFar (whole : List ℕ) (prefix : List PacRecord) (left : ℕ) (rest : List ℕ) (total : Result (List PacRecord × List ℕ) PacFault) : Type 0 where
  pub same : with_prefix prefix (records_in whole left rest) ≡ total
  pub within : length rest ≤ length whole

regroup : (prefix : List PacRecord) (entry : PacRecord) (read : Result (List PacRecord × List ℕ) PacFault)
    → with_prefix prefix (read >>= λ x. Ok (entry ∷ x.0, x.1)) ≡ with_prefix (prefix ++ entry ∷ []) read
regroup prefix entry read = grind (arith, append_assoc)

pub goes_on : (whole : List ℕ) (prefix : List PacRecord) (count i : ℕ) (rest : List ℕ) (entry : PacRecord) (after : List ℕ) (total : Result (List PacRecord × List ℕ) PacFault) → i < count
    → record_in whole rest ≡ Ok (entry, after) → length after ≤ length whole
    → SoFar whole prefix (count - i) rest total → SoFar whole (prefix ++ entry ∷ []) (count - (i + 1)) after total
unfolding records_in
goes_on whole prefix count i rest entry after total lt h within so_far =
    let k : count - i ≡ suc (count - (i + 1)) = omega arith in
    let one : with_prefix prefix (records_in whole (count - i) rest) ≡ with_prefix (prefix ++ entry ∷ []) (records_in whole (count - (i + 1)) after) =
    rw (k, h) (regroup prefix entry (records_in whole (count - (i + 1)) after)) in
    record { same = sym one ∙ so_far.same; within = within }

pub err_read : (whole : List ℕ) (prefix : List PacRecord) (count i : ℕ) (rest : List ℕ) (fault : PacFault) (total : Result (List PacRecord × List ℕ) PacFault) → i < count
    → record_in whole rest ≡ Err fault → SoFar whole prefix (count - i) rest total → total ≡ Err fault
unfolding records_in
err_read whole prefix count i rest fault total lt h so_far = grind arith

-- where all are read, no record fails
pub never_fails : (whole : List ℕ) (prefix : List PacRecord) (count i : ℕ) (rest : List ℕ) (fault : PacFault) (total : Result (List PacRecord × List ℕ) PacFault)
    → i < count → record_in whole rest ≡ Err fault → SoFar whole prefix (count - i) rest total → IsOk total → ⊥
never_fails whole prefix count i rest fault total lt h so_far ok = grind (arith, err_read)

pub is_done : (whole : List ℕ) (prefix : List PacRecord) (count i : ℕ) (rest : List ℕ) (total : Result (List PacRecord × List ℕ) PacFault) → count ≤ i
    → SoFar whole prefix (count - i) rest total → total ≡ Ok (prefix, rest)
unfolding records_in
is_done whole prefix count i rest total le so_far = grind (arith, append-nil)

pub list_done : (whole : List ℕ) (prefix : List PacRecord) (count i : ℕ) (rest : List ℕ) (total : Result (List PacRecord × List ℕ) PacFault)
    → count ≤ i → SoFar whole prefix (count - i) rest total → list_of total ≡ Ok prefix
list_done whole prefix count i rest total le so_far = ap list_of (is_done whole prefix count i rest total le so_far)

-- ---- looking through the records

-- what is left behind the rest is left behind all, and the rest is within the octets
pub record Left (whole : List ℕ) (left : ℕ) (rest : List ℕ) (total : Result (List ℕ) PacFault) : Type 0 where
  pub same : rest_of (records_in whole left rest) ≡ total
  pub within : length rest ≤ length whole

one_of : (entry : PacRecord) (read : Result (List PacRecord × List ℕ) PacFault) → rest_of (read >>= λ x. Ok (entry ∷ x.0, x.1)) ≡ rest_of read
one_of entry read = grind arith

pub left_next : (whole : List ℕ) (count i : ℕ) (rest : List ℕ) (entry : PacRecord) (after : List ℕ) (total : Result (List ℕ) PacFault)
    → i < count → record_in whole rest ≡ Ok (entry, after) → length after ≤ length whole → Left whole (count - i) rest total → Left whole (count - (i + 1)) after total
unfolding records_in
left_next whole count i rest entry after total lt h within l =
    let k : count - i ≡ suc (count - (i + 1)) = omega arith in
    let one : rest_of (records_in whole (count - i) rest) ≡ rest_of (records_in whole (count - (i + 1)) after) = rw (k, h) (one_of entry (records_in whole (count - (i + 1)) after)) in
    record { same = sym one ∙ l.same; within = within }

pub left_failed : (whole : List ℕ) (count i : ℕ) (rest : List ℕ) (fault : PacFault) (total : Result (List ℕ) PacFault)
    → i < count → record_in whole rest ≡ Err fault → Left whole (count - i) rest total → total ≡ Err fault
unfolding records_in
left_failed whole count i rest fault total lt h l = grind (arith, rest_of)

pub left_done : (whole : List ℕ) (count i : ℕ) (rest : List ℕ) (total : Result (List ℕ) PacFault) → count ≤ i → Left whole (count - i) rest total → total ≡ Ok rest
unfolding records_in
left_done whole count i rest total le l = grind (arith, rest_of)
