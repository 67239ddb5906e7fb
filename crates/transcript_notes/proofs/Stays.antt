-- What stands in a text stays where more is put behind it.
use Rattle.std.proofs.Common.{ℕ, ◌≡◌, List, ◌++◌, length, take, ap, ◌∙◌}
use Rattle.std.proofs.Math.Seq.{take-append_seam}

pub prefix_stays : (old more new : List ℕ) → new ≡ old ++ more → take (length old) new ≡ old
prefix_stays old more new h = ap (take (length old)) h ∙ take-append_seam old more
