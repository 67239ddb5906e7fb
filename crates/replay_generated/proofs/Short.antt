-- Nothing of a summary was written, and there is something to be written.
use Rattle.replay_generated.proofs.Prelude.{ℕ, List, [], ◌∷◌, ◌++◌, Option, refl, arith, length-append, codes, decimal, AppendsShort, Appends-nothing, joined, newline, summary_of, Counts}

pub none_written : (kept : Option (List ℕ)) (events : ℕ) (counts : Counts) → AppendsShort kept kept (summary_of events counts)
none_written kept events counts =
    let first : List ℕ = joined (codes "events") (decimal events ∷ []) in
    let units : List ℕ = joined (codes "units") (decimal counts.valid ∷ codes "lost" ∷ decimal counts.lost ∷ []) in
    record {
      prefix = [];
      rest = summary_of events counts;
      whole = refl;
      appended = Appends-nothing kept;
      some = omega (arith, length-append first (newline ∷ (units ++ newline ∷ counts.sums)));
    }
