use Rattle.isoal_unframed.proofs.Prelude.{ℕ, zero, suc, ◌≡◌, ◌*◌, ◌≤◌, true, not, List, [], ◌∷◌, take, drop, get_or, Option, None, Some, is_some, refl, sym, ◌∙◌, subst, arith, Bounds, Content, per_unit_of, per_event_of, unit_of, kept_of, BigInfo}
use Rattle.isoal_unframed.proofs.ring.Ring.hand_slot.Goals as goal

some_factor : (k m : ℕ) → 1 ≤ k * m → 1 ≤ m
some_factor k zero some = absurd (omega arith)
some_factor k (suc m) some = omega arith

-- a slot has a place
some_place : (info : BigInfo) → Bounds info → info.framing ≡ 0 → 1 ≤ per_unit_of info
some_place info bounds unframed =
    some_factor (per_event_of info) (per_unit_of info) (subst (λ n. 1 ≤ n) (bounds.whole_slots unframed) bounds.bn)

is_none : (entry : Option Content) → not (is_some entry) ≡ true → entry ≡ None
is_none None empty = refl
is_none (Some content) empty = cc

-- a slot whose first place is empty has no unit
no_unit : (max_sdu m first : ℕ) (kept : List (Option Content)) → 1 ≤ m → get_or kept first None ≡ None → unit_of max_sdu (take m (drop first kept)) ≡ None
no_unit max_sdu zero first kept some empty = refl
no_unit max_sdu (suc m) zero [] some empty = refl
no_unit max_sdu (suc m) (suc first) [] some empty = refl
no_unit max_sdu (suc m) zero (None ∷ kept) some empty = refl
no_unit max_sdu (suc m) zero (Some content ∷ kept) some empty = cc
no_unit max_sdu (suc m) (suc first) (entry ∷ kept) some empty = no_unit max_sdu (suc m) first kept some empty

pub is_empty-requires : goal.is_empty-requires
is_empty-requires g c = let s = c.args.stream.now in let some = some_place s.group.info s.group.bounds s.unframed in omega arith

pub returns-then-is_empty-clause-hands : goal.returns-then-is_empty-clause-hands
returns-then-is_empty-clause-hands g c =
    let s = c.args.stream.now in
    rw (no_unit s.group.info.max_sdu (per_unit_of s.group.info) c.args.first (kept_of c.args.self.now) (some_place s.group.info s.group.bounds s.unframed)
    (is_none _ (sym c.is_empty.ensures ∙ c.if-is_empty.true))) c.hand.ensures.hands
