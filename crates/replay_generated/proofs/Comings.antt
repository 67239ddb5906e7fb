-- What comes, where a line comes.
use Rattle.replay_generated.proofs.Prelude.{◌≡◌, ℕ, List, Option, Some, subst, IfSome, Comes, Coming}

pub one_comes : (next : Option Coming) (coming : Coming) (octets : List ℕ) (lines left : List (List ℕ)) → next ≡ Some coming
    → IfSome next (λ one. Comes one octets lines left) → Comes coming octets lines left
one_comes next coming octets lines left is comes = subst (λ (o : Option Coming). IfSome o (λ one. Comes one octets lines left)) is comes
