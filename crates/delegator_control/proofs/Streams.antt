-- Wishes one by one.
use Rattle.delegator_control.proofs.Prelude.{ℕ, ◌≡◌, ◌+◌, List, drop, Some, ◌==◌, ◌&&◌, slice_get, Wish, drop_get, same_streams}

pub same_next : (wishes others : List Wish) (place : ℕ) (wish other : Wish) → slice_get wishes place ≡ Some wish → slice_get others place ≡ Some other
    → same_streams (drop place wishes) (drop place others) ≡ ((wish.bis_sync == other.bis_sync) && same_streams (drop (place + 1) wishes) (drop (place + 1) others))
same_next wishes others place wish other e f = λ i. same_streams (drop_get wishes place wish e i) (drop_get others place other f i)
