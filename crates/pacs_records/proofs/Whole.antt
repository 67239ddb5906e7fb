-- The whole value: what is left behind the records, and the records in memory of their own.
use Rattle.pacs_records.proofs.Prelude.{◌≡◌, ℕ, Bool, true, false, cond, eqb, ltb, List, length, Option, Some, None, Result, Ok, Err, refl, sym, ap, subst, ◌∙◌, IsOk, IfOk, result_err, octet_in, place_in, IsOctets, PacFault, TooLong, Trailing, Memory, PacRecord, greatest_value, ◌>>=◌, Finds, told, field_at, list_of, arith}
use Rattle.pacs_records.specs.Reading.{records_in, value_in}
use Rattle.pacs_records.proofs.Fields.{value_again}
use Rattle.pacs_records.proofs.Stops.{value_stops}

-- the records, where no octet is left behind them
abbrev pub ending : List ℕ → List PacRecord × List ℕ → Result (List PacRecord) PacFault
ending octets x = cond (eqb (length x.1) 0) (Ok x.0) (Err (Trailing (place_in octets x.1)))

-- what the value is behind the count
pub behind_count : (octets : List ℕ) (count : ℕ) (from : List ℕ) → ltb greatest_value (length octets) ≡ false → octet_in octets ≡ Some (count, from)
    → value_in octets ≡ (records_in octets count from >>= ending octets)
unfolding value_in
behind_count octets count from small first = rw (small, first) refl

-- ---- octets that are a value

not_long : (b : Bool) (read : Result (List PacRecord) PacFault) → IsOk (cond b (Err TooLong) read) → b ≡ false
not_long b read ok = grind arith

pub is_short : (octets : List ℕ) → IsOk (value_in octets) → ltb greatest_value (length octets) ≡ false
unfolding value_in
is_short octets ok = not_long (ltb greatest_value (length octets)) (field_at 0 (octet_in octets) >>= λ count. records_in octets count.0 count.1 >>= ending octets) ok

pub has_count : (octets : List ℕ) → IsOk (value_in octets) → octet_in octets ≡ None → ⊥
unfolding value_in
has_count octets ok none = grind arith

read_ok : (octets : List ℕ) (read : Result (List PacRecord × List ℕ) PacFault) → IsOk (read >>= ending octets) → IsOk read
read_ok octets read ok = grind arith

pub records_ok : (octets : List ℕ) (count : ℕ) (from : List ℕ) → octet_in octets ≡ Some (count, from) → IsOk (value_in octets) → IsOk (records_in octets count from)
records_ok octets count from first ok =
    read_ok octets (records_in octets count from) (subst (λ (r : Result (List PacRecord) PacFault). IsOk r) (behind_count octets count from (is_short octets ok) first) ok)

list_is : (octets : List ℕ) (read : Result (List PacRecord × List ℕ) PacFault) (records : List PacRecord) → IsOk (read >>= ending octets) → list_of read ≡ Ok records
    → (read >>= ending octets) ≡ Ok records
list_is octets (Ok x) records ok e = by_test (eqb (length x.1) 0) (Trailing (place_in octets x.1)) ok
  where
    by_test : (b : Bool) (fault : PacFault) → IsOk (cond {A = Result (List PacRecord) PacFault} b (Ok x.0) (Err fault)) → cond b (Ok x.0) (Err fault) ≡ Ok records
    by_test true fault h = e
    by_test false fault h = absurd cc
list_is octets (Err fault) records ok e = absurd cc

pub value_is : (octets : List ℕ) (count : ℕ) (from : List ℕ) (records : List PacRecord) → octet_in octets ≡ Some (count, from) → IsOk (value_in octets)
    → list_of (records_in octets count from) ≡ Ok records → value_in octets ≡ Ok records
value_is octets count from records first ok e =
    let whole = behind_count octets count from (is_short octets ok) first in
    whole ∙ list_is octets (records_in octets count from) records (subst (λ (r : Result (List PacRecord) PacFault). IsOk r) whole ok) e

-- ---- what the call promises

err_by : (read : Result (List PacRecord) PacFault) (fault : PacFault) → Some fault ≡ result_err read → read ≡ Err fault
err_by (Ok records) fault e = absurd cc
err_by (Err other) fault e = ap (λ (f : PacFault). Err f) (some_same other fault (sym e))
  where
    some_same : (a b : PacFault) → (let r : PacFault → Option PacFault = λ z. Some z in r a ≡ r b) → a ≡ b
    some_same a b h = cc

-- reading gives no want of memory
no_wants : (octets : List ℕ) → IsOctets octets → value_in octets ≡ Err Memory → ⊥
no_wants octets fits e =
    let value = value_stops Memory octets fits e in
    ok_no value.0 (sym (value_again octets value.0 value.1) ∙ e)
  where
    ok_no : (records : List PacRecord) → (let r : Result (List PacRecord) PacFault = Ok records in r ≡ Err Memory) → ⊥
    ok_no records h = cc

refuses : (octets : List ℕ) (fault : PacFault) → IsOctets octets → value_in octets ≡ Err fault → Finds (told fault) (value_in octets)
refuses octets fault fits e = grind (arith, no_wants)

pub refused : (octets : List ℕ) (fault : PacFault) → IsOctets octets → Some fault ≡ result_err (value_in octets) → Finds (told fault) (value_in octets)
refused octets fault fits e = refuses octets fault fits (err_by (value_in octets) fault e)

-- what is wrong with the octets is no want of memory
pub not_wanting : {X : Type 0} (octets : List ℕ) (fault : PacFault) (result : Result X PacFault) → IsOctets octets → Some fault ≡ result_err (value_in octets) → result ≡ Err fault
    → result ≡ Err Memory → ⊥
not_wanting octets fault result fits e is wants = no_wants octets fits (err_by (value_in octets) Memory (ap (λ f. Some f) (sym (err_same (sym is ∙ wants))) ∙ e))
  where
    err_same : {X : Type 0} {a b : PacFault} → (let r : PacFault → Result X PacFault = λ z. Err z in r a ≡ r b) → a ≡ b
    err_same h = cc

pub owned : {M : Type 0} (octets : List ℕ) (count : ℕ) (from : List ℕ) (result : Result (List PacRecord) M) → octet_in octets ≡ Some (count, from) → IsOk (value_in octets)
    → IfOk result (λ records. list_of (records_in octets count from) ≡ Ok records) → IfOk result (λ records. value_in octets ≡ Ok records)
owned octets count from result first ok h = grind (arith, value_is)
