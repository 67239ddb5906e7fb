-- Where the octets end in a field of the head, reading the head ends at its place.
use Rattle.receive_state.proofs.Prelude.{◌≡◌, ℕ, ◌+◌, ◌≤◌, List, [], ◌∷◌, length, Result, Ok, Err, refl, sym, subst, inl, inr, arith, nat_lt, ◌⊎◌, flat_map, Field, free, unless, octet_in, octets_in, place_in, octet, subgroup_fields, EndsIn, StateFields, fields, FieldsFit, code_width, ◌>>=◌}
use Rattle.receive_state.specs.Reading.{head_in}
use Rattle.receive_state.proofs.CutSteps.{told_octet, told_octets}
use Rattle.receive_state.proofs.HeadTails.{source_of, sourced, from_id, from_sid, from_address, from_kind, from_source, from_count, from_code, from_enc, from_sync, head_is, assoc}

-- reading the head ends at the place, or behind it the octets end in a subgroup
pub record EndsBehind (whole : List ℕ) (p : ℕ) (s : StateFields) (r : Result (StateFields × ℕ × List ℕ) ℕ) : Type 0 where
  pub tail : List ℕ
  pub n : ℕ
  pub read : r ≡ Ok (record s { groups = [] }, length s.groups, tail)
  pub within : length tail ≤ length whole
  pub at : p ≡ place_in whole tail + n
  pub ends : EndsIn n (flat_map subgroup_fields s.groups) tail

abbrev pub IsCut : List ℕ → ℕ → StateFields → Result (StateFields × ℕ × List ℕ) ℕ → Type 0
IsCut whole p s r = (r ≡ Err p) ⊎ EndsBehind whole p s r

abbrev source_only : StateFields → StateFields
source_only s = source_of s.source_id s.address_type s.address s.sid s.broadcast_id

-- the fields from PA_Sync_State on
abbrev sync_on : StateFields → List Field
sync_on s = unless (nat_lt 4 s.pa_sync_state) (octet s.pa_sync_state) ∷ unless (nat_lt 3 s.encryption) (octet s.encryption) ∷ free s.bad_code
    ∷ free (octet (length s.groups)) ∷ flat_map subgroup_fields s.groups

told_count : (whole : List ℕ) (s : StateFields) (p : ℕ) → FieldsFit s → (r : List ℕ) (q : ℕ) → length r ≤ length whole → p ≡ place_in whole r + q
    → EndsIn q (free (octet (length s.groups)) ∷ flat_map subgroup_fields s.groups) r
    → IsCut whole p s (from_count whole (source_only s) s.pa_sync_state s.encryption s.bad_code r)
told_count whole s p w r q le at ends =
    told_octet (IsCut whole p s) whole r (length s.groups) (free (octet (length s.groups))) _ p q _ refl le at ends (inl refl)
    (λ after n within there more. inr (record { tail = after; n = n; read = refl; within = within; at = there; ends = more }))

told_code : (whole : List ℕ) (s : StateFields) (p : ℕ) → FieldsFit s → (r : List ℕ) (q : ℕ) → length r ≤ length whole → p ≡ place_in whole r + q
    → EndsIn q (free s.bad_code ∷ free (octet (length s.groups)) ∷ flat_map subgroup_fields s.groups) r
    → IsCut whole p s (from_code whole (source_only s) s.pa_sync_state s.encryption r)
told_code whole s p w r q le at ends =
    told_octets (IsCut whole p s) whole r (code_width s.encryption) s.bad_code (free s.bad_code) _ p q _ w.bad_code refl le at ends (inl refl) (told_count whole s p w)

told_enc : (whole : List ℕ) (s : StateFields) (p : ℕ) → FieldsFit s → (r : List ℕ) (q : ℕ) → length r ≤ length whole → p ≡ place_in whole r + q
    → EndsIn q (unless (nat_lt 3 s.encryption) (octet s.encryption) ∷ free s.bad_code ∷ free (octet (length s.groups)) ∷ flat_map subgroup_fields s.groups) r
    → IsCut whole p s (from_enc whole (source_only s) s.pa_sync_state r)
told_enc whole s p w r q le at ends =
    told_octet (IsCut whole p s) whole r s.encryption (unless (nat_lt 3 s.encryption) (octet s.encryption)) _ p q _ refl le at ends (inl refl) (told_code whole s p w)

told_sync : (whole : List ℕ) (s : StateFields) (p : ℕ) → FieldsFit s → (r : List ℕ) (q : ℕ) → length r ≤ length whole → p ≡ place_in whole r + q
    → EndsIn q (sync_on s) r → IsCut whole p s (from_sync whole (source_only s) r)
told_sync whole s p w r q le at ends =
    told_octet (IsCut whole p s) whole r s.pa_sync_state (unless (nat_lt 4 s.pa_sync_state) (octet s.pa_sync_state)) _ p q _ refl le at ends (inl refl) (told_enc whole s p w)

told_id : (whole : List ℕ) (s : StateFields) (p : ℕ) → FieldsFit s → (r : List ℕ) (q : ℕ) → length r ≤ length whole → p ≡ place_in whole r + q
    → EndsIn q (free s.broadcast_id ∷ sync_on s) r
    → IsCut whole p s (from_id whole s.source_id s.address_type s.address s.sid r >>= λ who. from_sync whole who.0 who.1)
told_id whole s p w r q le at ends =
    subst (IsCut whole p s) (grind (arith, assoc, place_in, octets_in, sourced, from_sync))
    (told_octets (IsCut whole p s) whole r 3 s.broadcast_id (free s.broadcast_id) _ p q (λ x. sourced (source_of s.source_id s.address_type s.address s.sid x.0) x.1
    >>= λ y. from_sync whole y.0 y.1) w.broadcast_id refl le at ends (inl refl) (told_sync whole s p w))

told_sid : (whole : List ℕ) (s : StateFields) (p : ℕ) → FieldsFit s → (r : List ℕ) (q : ℕ) → length r ≤ length whole → p ≡ place_in whole r + q
    → EndsIn q (unless (nat_lt 15 s.sid) (octet s.sid) ∷ free s.broadcast_id ∷ sync_on s) r
    → IsCut whole p s (from_sid whole s.source_id s.address_type s.address r >>= λ who. from_sync whole who.0 who.1)
told_sid whole s p w r q le at ends =
    subst (IsCut whole p s) (grind (arith, assoc, place_in, octet_in, from_id, from_sync))
    (told_octet (IsCut whole p s) whole r s.sid (unless (nat_lt 15 s.sid) (octet s.sid)) _ p q (λ x. from_id whole s.source_id s.address_type s.address x.0 x.1
    >>= λ y. from_sync whole y.0 y.1) refl le at ends (inl refl) (told_id whole s p w))

told_address : (whole : List ℕ) (s : StateFields) (p : ℕ) → FieldsFit s → (r : List ℕ) (q : ℕ) → length r ≤ length whole → p ≡ place_in whole r + q
    → EndsIn q (free s.address ∷ unless (nat_lt 15 s.sid) (octet s.sid) ∷ free s.broadcast_id ∷ sync_on s) r
    → IsCut whole p s (from_address whole s.source_id s.address_type r >>= λ who. from_sync whole who.0 who.1)
told_address whole s p w r q le at ends =
    subst (IsCut whole p s) (grind (arith, assoc, place_in, octets_in, from_sid, from_sync))
    (told_octets (IsCut whole p s) whole r 6 s.address (free s.address) _ p q (λ x. from_sid whole s.source_id s.address_type x.0 x.1 >>= λ y. from_sync whole y.0 y.1)
    w.address refl le at ends (inl refl) (told_sid whole s p w))

told_kind : (whole : List ℕ) (s : StateFields) (p : ℕ) → FieldsFit s → (r : List ℕ) (q : ℕ) → length r ≤ length whole → p ≡ place_in whole r + q
    → EndsIn q (unless (nat_lt 1 s.address_type) (octet s.address_type) ∷ free s.address ∷ unless (nat_lt 15 s.sid) (octet s.sid) ∷ free s.broadcast_id ∷ sync_on s) r
    → IsCut whole p s (from_kind whole s.source_id r >>= λ who. from_sync whole who.0 who.1)
told_kind whole s p w r q le at ends =
    subst (IsCut whole p s) (sym (assoc (place_in whole r) (octet_in r) (λ (x : ℕ × List ℕ). from_address whole s.source_id x.0 x.1) (λ (y : StateFields × List ℕ). from_sync whole y.0 y.1)))
    (told_octet (IsCut whole p s) whole r s.address_type (unless (nat_lt 1 s.address_type) (octet s.address_type)) _ p q (λ x. from_address whole s.source_id x.0 x.1
    >>= λ y. from_sync whole y.0 y.1) refl le at ends (inl refl) (told_address whole s p w))

told_source : (whole : List ℕ) (s : StateFields) (p : ℕ) → FieldsFit s → (r : List ℕ) (q : ℕ) → length r ≤ length whole → p ≡ place_in whole r + q
    → EndsIn q (free (octet s.source_id) ∷ unless (nat_lt 1 s.address_type) (octet s.address_type) ∷ free s.address ∷ unless (nat_lt 15 s.sid) (octet s.sid)
    ∷ free s.broadcast_id ∷ sync_on s) r → IsCut whole p s (from_source whole r >>= λ who. from_sync whole who.0 who.1)
told_source whole s p w r q le at ends =
    subst (IsCut whole p s) (sym (assoc (place_in whole r) (octet_in r) (λ (x : ℕ × List ℕ). from_kind whole x.0 x.1) (λ (y : StateFields × List ℕ). from_sync whole y.0 y.1)))
    (told_octet (IsCut whole p s) whole r s.source_id (free (octet s.source_id)) _ p q (λ x. from_kind whole x.0 x.1 >>= λ y. from_sync whole y.0 y.1)
    refl le at ends (inl refl) (told_kind whole s p w))

pub told_head : (whole : List ℕ) (s : StateFields) (p : ℕ) → FieldsFit s → EndsIn p (fields s) whole → IsCut whole p s (head_in whole)
told_head whole s p w ends =
    let start : p ≡ place_in whole whole + p = omega arith in
    let same : length whole ≤ length whole = omega arith in
    subst (IsCut whole p s) (sym (head_is whole)) (told_source whole s p w whole p same start ends)
