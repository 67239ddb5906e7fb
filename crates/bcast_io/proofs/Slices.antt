-- Parts of buffers.
use Rattle.bcast_io.proofs.Prelude.{◌≡◌, ℕ, ◌+◌, ◌-◌, ◌≤◌, min, List, ◌++◌, length, take, drop, sym, ap, ◌∙◌, arith, drop-take, drop-drop, take_min, take-append-add}

-- a part without its first n elements
pub part-drop : (xs : List ℕ) (i n j : ℕ) → i + n ≤ j → take (j - (i + n)) (drop (i + n) xs) ≡ drop n (take (j - i) (drop i xs))
part-drop xs i n j h =
    let whole : j - i ≡ n + (j - (i + n)) = omega arith in
    ap (take (j - (i + n))) (sym (drop-drop n i xs)) ∙ sym (drop-take n (j - (i + n)) (drop i xs)) ∙ sym (ap (λ k. drop n (take k (drop i xs))) whole)

-- as much of more was put behind a list as it has room for
pub kept_prefix : (most : ℕ) (prefix more : List ℕ) (n : ℕ) → length prefix ≤ most → n ≡ min (length more) (most - length prefix)
    → prefix ++ take n more ≡ take most (prefix ++ more)
kept_prefix most prefix more n within count =
    let room = most - length prefix in
    let all : length prefix + room ≡ most = omega arith in
    let cut : take n more ≡ take room more = ap (λ m. take m more) (omega arith) ∙ take_min room more in
    ap (λ l. prefix ++ l) cut ∙ sym (take-append-add prefix more room) ∙ ap (λ m. take m (prefix ++ more)) all
