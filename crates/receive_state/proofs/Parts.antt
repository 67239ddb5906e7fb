-- The parts of subgroups that are read.
use Rattle.receive_state.proofs.Prelude.{◌≡◌, ℕ, suc, List, ◌∷◌, Option, Some, None, refl, ap, ◌∙◌, number_in, counted_in, Subgroup, bind_some, some_is, arith}
use Rattle.bcast_base.specs.Steps.{◌>>=◌}
use Rattle.bcast_base.specs.Subgroups.{subgroup_in, subgroups_in}

-- a subgroup before others
abbrev pub joined : Subgroup → Option (List Subgroup × List ℕ) → Option (List Subgroup × List ℕ)
joined group None = None
joined group (Some others) = Some (group ∷ others.0, others.1)

pub subgroups_suc : (n : ℕ) (from : List ℕ) (group : Subgroup) (after : List ℕ) → subgroup_in from ≡ Some (group, after) → subgroups_in (suc n) from ≡ joined group (subgroups_in n after)
unfolding subgroups_in
subgroups_suc n from group after e = grind arith

pub subgroups_none : (n : ℕ) (from : List ℕ) → subgroup_in from ≡ None → subgroups_in (suc n) from ≡ None
unfolding subgroups_in
subgroups_none n from e = rw e refl

pub subgroup_parts : (from : List ℕ) (group : Subgroup) (rest : List ℕ) → subgroup_in from ≡ Some (group, rest) → (after : List ℕ) × (number_in 4 from ≡ Some (group.bits, after))
    × (counted_in after ≡ Some (group.metadata, rest))
unfolding subgroup_in
subgroup_parts from group rest e = grind (arith, bind_some, number_in, counted_in, some_is)

pub subgroup_made : (from : List ℕ) (bits : ℕ) (after metadata rest : List ℕ) → number_in 4 from ≡ Some (bits, after) → counted_in after ≡ Some (metadata, rest)
    → subgroup_in from ≡ Some (record { bits = bits; metadata = metadata }, rest)
unfolding subgroup_in
subgroup_made from bits after metadata rest e f = grind (arith, counted_in)

pub subgroups_parts : (n : ℕ) (from : List ℕ) (groups : List Subgroup) (rest : List ℕ) → subgroups_in (suc n) from ≡ Some (groups, rest)
    → (group : Subgroup) × (after : List ℕ) × (others : List Subgroup) × (subgroup_in from ≡ Some (group, after)) × (subgroups_in n after ≡ Some (others, rest))
unfolding subgroups_in
subgroups_parts n from groups rest e =
    let a = bind_some (subgroup_in from) (λ first. subgroups_in n first.1 >>= λ others. Some (first.0 ∷ others.0, others.1)) (groups, rest) e in
    let b = bind_some (subgroups_in n a.0.1) (λ others. Some (a.0.0 ∷ others.0, others.1)) (groups, rest) a.2 in
    let read : List Subgroup × List ℕ = (a.0.0 ∷ b.0.0, b.0.1) in
    (a.0.0, a.0.1, b.0.0, a.1, b.1 ∙ ap (λ (p : List Subgroup × List ℕ). Some (b.0.0, p.1)) (some_is read (groups, rest) b.2))
