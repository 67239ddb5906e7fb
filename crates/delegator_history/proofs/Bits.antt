-- Where bits of streams stand.
use Rattle.delegator_history.proofs.Prelude.{◌≡◌, ◌<◌, ◌+◌, ℕ, zero, suc, Bool, false, List, [], ◌∷◌, length, Option, Some, None, option_map, get_or, refl, sym, ap, subst, arith, ◌==◌, ◌&&◌, if◌then◌else◌, Any, eqb-true, Wish, Entry, Place, idle, on_train, on_group, status_of, groups_from, received, HasBit}
use Rattle.receive_state.specs.declared.state.GroupState.{GroupState}
use Rattle.receive_state.specs.declared.state.ReceiveState.{ReceiveState}

-- no bit is set where none is taken
none_set : (place : ℕ) (wishes : List Wish) (k : ℕ) (group : GroupState) → k < length (groups_from place [] wishes)
    → get_or (groups_from place [] wishes) k group ≡ group → 0 < group.bis_sync_state → ⊥
none_set place [] k group below at set = absurd (omega arith)
none_set place (wish ∷ wishes) zero group below at set = grind arith
none_set place (wish ∷ wishes) (suc k) group below at set = none_set (place + 1) wishes k group (omega (arith, below)) at set

none_has : (place : ℕ) (wishes : List Wish) → Any (λ group. 0 < group.bis_sync_state) (groups_from place [] wishes) → ⊥
none_has place wishes h = none_set place wishes h.0 h.1 h.2 h.3 h.4

off_group : (is_synced is_encrypted : Bool) (entry : Option Entry) (state : ReceiveState)
    → option_map (received (record { is_synced = is_synced; is_encrypted = is_encrypted; bits = [] })) entry ≡ Some state → HasBit state → ⊥
off_group is_synced is_encrypted None state e h = absurd cc
off_group is_synced is_encrypted (Some entry) state e h =
    let same : received (record { is_synced = is_synced; is_encrypted = is_encrypted; bits = [] }) entry ≡ state = cc in
    none_has 0 entry.wanted.wishes (subst HasBit (sym same) h)

on_slot : (other slot : ℕ) (b : Bool) → (other == slot) ≡ b → (encrypted : Bool) (taken : List ℕ) (entry : Option Entry) (state : ReceiveState)
    → option_map (received (record { is_synced = b; is_encrypted = b && encrypted; bits = if b then taken else [] })) entry ≡ Some state → HasBit state → other ≡ slot
on_slot other slot b is encrypted taken entry state e h = grind (arith, eqb-true, off_group)

pub bits_on : (place : Place) (encrypted : Bool) (taken : List ℕ) (slot : ℕ) (entry : Option Entry) (state : ReceiveState)
    → option_map (received (status_of place encrypted taken slot)) entry ≡ Some state → HasBit state → place ≡ on_group (Some slot)
bits_on idle encrypted taken slot entry state e h = absurd (off_group false false entry state e h)
bits_on (on_train other) encrypted taken slot entry state e h =
    absurd (off_group (other == slot) ((other == slot) && encrypted) entry state e h)
bits_on (on_group None) encrypted taken slot entry state e h = absurd (off_group false false entry state e h)
bits_on (on_group (Some other)) encrypted taken slot entry state e h =
    ap (λ s. on_group (Some s)) (on_slot other slot (other == slot) refl encrypted taken entry state e h)
