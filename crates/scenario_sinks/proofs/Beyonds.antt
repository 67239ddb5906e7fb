-- A set of streams against those of a group, index by index.
use Rattle.scenario_sinks.proofs.Prelude.{◌≡◌, ℕ, ◌+◌, ◌-◌, ◌≤◌, List, [], ◌∷◌, ◌++◌, Bool, true, false, ◌||◌, cond, nat_lt, refl, sym, ◌∙◌, ap, arith, filter, list_any, range_with_len}
use Rattle.std.proofs.Math.Bool.{or-false}
use Rattle.group_sink.specs.Streams.{is_in}
use Rattle.scenario_history.specs.Refusals.{has_beyond}
use Rattle.scenario_sinks.specs.State.Beyond.{beyond_at}
use Rattle.scenario_sinks.proofs.Ranges.{range_append}

-- some of the first indices is beyond
abbrev pub some_beyond : ℕ → ℕ → ℕ → Bool
some_beyond num_bis which k = list_any (λ bis. nat_lt num_bis bis) (filter (is_in which) (range_with_len 1 k))

or_assoc : (a b c : Bool) → ((a || b) || c) ≡ (a || (b || c))
or_assoc a b c = grind arith

-- ranges after another
any_append : (num_bis which : ℕ) (xs ys : List ℕ) → list_any (λ bis. nat_lt num_bis bis) (filter (is_in which) (xs ++ ys))
    ≡ (list_any (λ bis. nat_lt num_bis bis) (filter (is_in which) xs) || list_any (λ bis. nat_lt num_bis bis) (filter (is_in which) ys))
any_append num_bis which [] ys = refl
any_append num_bis which (x ∷ xs) ys =
    elim (is_in which x) as (λ b. list_any (λ bis. nat_lt num_bis bis) (cond b (x ∷ filter (is_in which) (xs ++ ys)) (filter (is_in which) (xs ++ ys)))
    ≡ (list_any (λ bis. nat_lt num_bis bis) (cond b (x ∷ filter (is_in which) xs) (filter (is_in which) xs)) || list_any (λ bis. nat_lt num_bis bis) (filter (is_in which) ys))) [
      | true ↦ ap (λ b. nat_lt num_bis x || b) (any_append num_bis which xs ys) ∙ sym (or_assoc (nat_lt num_bis x) _ _)
      | false ↦ any_append num_bis which xs ys
    ]

pub beyond_more : (num_bis which k : ℕ) → some_beyond num_bis which (k + 1) ≡ (some_beyond num_bis which k || beyond_at num_bis which (k + 1))
beyond_more num_bis which k = grind (arith, list_any, nat_lt, filter, range_append, any_append, range_with_len, cond, or-false)

pub beyond_next : (num_bis which k : ℕ) (here : Bool) → some_beyond num_bis which k ≡ false → here ≡ beyond_at num_bis which (k + 1) → here ≡ false
    → some_beyond num_bis which (k + 1) ≡ false
beyond_next num_bis which k here none is not_here = beyond_more num_bis which k ∙ rw none (sym is ∙ not_here)

pub beyond_found : (num_bis which k : ℕ) (here : Bool) → some_beyond num_bis which k ≡ false → here ≡ beyond_at num_bis which (k + 1) → here ≡ true → k + 1 ≤ 31
    → true ≡ has_beyond num_bis which
unfolding has_beyond
beyond_found num_bis which k here none is found_here within =
    let rest : ℕ = 31 - (k + 1) in
    let e : (k + 1) + rest ≡ 31 = omega arith in
    let found : some_beyond num_bis which (k + 1) ≡ true = beyond_more num_bis which k ∙ rw none (sym is ∙ found_here) in
    sym (grind (arith, range_append 1 (k + 1) rest, any_append num_bis which (range_with_len 1 (k + 1)) (range_with_len (1 + (k + 1)) rest)))

pub beyond_none : (num_bis which k : ℕ) → some_beyond num_bis which k ≡ false → k ≡ 31 → false ≡ has_beyond num_bis which
unfolding has_beyond
beyond_none num_bis which k none all = sym none ∙ ap (some_beyond num_bis which) all
