use Rattle.pacs_records.proofs.Prelude.{◌≡◌, ◌∙◌, ℕ, true, List, length, None, Result, Ok, Err, refl, sym, le-ltb, ◌==◌, if◌then◌else◌, result_err, place_in, ◌>>=◌, greatest_value, PacFault, Trailing, PacRecord}
use Rattle.pacs_records.specs.Reading.{rest_of, value_in}
use Rattle.pacs_records.proofs.reading.check_value.Goals as goal

none_left : (octets rest : List ℕ) (read : Result (List PacRecord × List ℕ) PacFault) → rest_of read ≡ Ok rest → true ≡ (length rest == 0)
    → None ≡ result_err (read >>= λ x. if length x.1 == 0 then Ok x.0 else Err (Trailing (place_in octets x.1)))
none_left octets rest (Ok x) is none = let same : x.1 ≡ rest = cc in rw (same, ← none) refl
none_left octets rest (Err fault) is none = absurd cc

pub returns : goal.returns
unfolding value_in
returns c =
    rw (le-ltb greatest_value _ c.if-from-gt-GREATEST_VALUE.false, c.in-Some.ensures)
    (none_left _ c.in_ok-rest.rest.now _ c.in_ok-rest.ensures.exact (sym c.if-not-is_empty.false ∙ c.is_empty.ensures))
