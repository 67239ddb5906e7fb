-- Octets are short at a place exactly where they end within the field at it.
use Rattle.receive_state.proofs.Prelude.{◌≡◌, ℕ, ◌+◌, ◌<◌, ◌≤◌, List, [], ◌∷◌, length, Option, Some, Result, Ok, Err, refl, sym, ap, subst, ◌∙◌, inl, inr, arith, nat_lt, IfErr, flat_map, free, unless, reserved_from, place_in, IsOctets, octet, subgroup_fields, StateFault, Short, Rfu, Trailing, Memory, ReceiveState, EndsIn, IsShort, IsFault, StateFields, fields, subgroups_of, state_from, first_fault, answered, behind, judged, judged_of, state_of, Answers}
use Rattle.bcast_base.specs.Subgroups.{subgroups_in}
use Rattle.receive_state.specs.Reading.{head_in, end_in, told}
use Rattle.receive_state.proofs.Causes.{lifted_err, reserved_found, reserved_told, trailing_found, trailing_told}
use Rattle.receive_state.proofs.CutGroups.{found_groups, told_groups}
use Rattle.receive_state.proofs.HeadsFound.{found_head}
use Rattle.receive_state.proofs.HeadsTold.{IsCut, told_head}
use Rattle.receive_state.proofs.Cuts.{ends_more}
use Rattle.receive_state.proofs.Judged.{read_is}
use Rattle.receive_state.proofs.Heads.{before, before-length, head_takes}

-- the fields before the subgroups lead to them
behind_head : (s : StateFields) (q : ℕ) (tail : List ℕ) → EndsIn q (flat_map subgroup_fields s.groups) tail
    → EndsIn (1 + (1 + (length s.address + (1 + (length s.broadcast_id + (1 + (1 + (length s.bad_code + (1 + (q)))))))))) (fields s) (before s (length s.groups) tail)
behind_head s q tail ends =
    ends_more (free (octet s.source_id)) _ _ _ (ends_more (unless (nat_lt 1 s.address_type) (octet s.address_type)) _ _ _
    (ends_more (free s.address) _ _ _ (ends_more (unless (nat_lt 15 s.sid) (octet s.sid)) _ _ _ (ends_more (free s.broadcast_id) _ _ _
    (ends_more (unless (nat_lt 4 s.pa_sync_state) (octet s.pa_sync_state)) _ _ _
    (ends_more (unless (nat_lt 3 s.encryption) (octet s.encryption)) _ _ _ (ends_more (free s.bad_code) _ _ _ (ends_more (free (octet (length s.groups))) _ q tail ends))))))))

in_groups : (whole : List ℕ) (s : StateFields) (count : ℕ) (tail : List ℕ) (p : ℕ) → IsOctets whole → 0 < length whole → head_in whole ≡ Ok (s, count, tail) → end_in whole count tail ≡ Err p
    → IsShort p whole
in_groups whole s count tail p h some e r =
    let t = head_takes whole (s, count, tail) h e in
    let len : length whole ≡ 15 + length s.bad_code + length tail = ap length t.parts ∙ before-length s count tail t.address t.broadcast_id in
    let g = found_groups whole count tail p t.octets (omega arith) r in
    let all : StateFields = record s { groups = g.groups } in
    let parts : before all (length g.groups) tail ≡ whole = ap (λ (n : ℕ). before s n tail) g.count ∙ sym t.parts in
    let there = g.at in
    let a = t.address in
    let b = t.broadcast_id in
    let place : 1 + (1 + (length all.address + (1 + (length all.broadcast_id + (1 + (1 + (length all.bad_code + (1 + (g.q))))))))) ≡ p = omega arith in
    let few : length g.groups ≤ 255 = let small = t.few in let same = g.count in omega arith in (
      some,
      (
        all,
        record { address = t.address; broadcast_id = t.broadcast_id; bad_code = t.bad_code; few = few; groups = g.fit },
        grind (arith, behind_head all g.q tail g.ends),
      ),
    )

abbrev refused : StateFault → Result ReceiveState StateFault
refused fault = Err fault

fault_of_err : (p place : ℕ) → refused (Short p) ≡ refused (Short place) → p ≡ place
fault_of_err p place e = cc

never_short : (state : ReceiveState) (place' : Option ℕ) (end : ℕ) (rest : List ℕ) (place : ℕ) → answered state (first_fault place' end rest) ≡ Err (Short place) → ⊥
never_short state place' end rest place e = grind arith

end_cases : (whole : List ℕ) (s : StateFields) (count : ℕ) (tail : List ℕ) (place : ℕ) (read : Result (List ℕ) ℕ) → IsOctets whole → 0 < length whole → head_in whole ≡ Ok (s, count, tail)
    → end_in whole count tail ≡ read
    → behind whole (record s { groups = subgroups_of (subgroups_in count tail) }) read ≡ Err (Short place) → IsShort place whole
end_cases whole s count tail place (Err p) h some e r j = subst (λ (n : ℕ). IsShort n whole) (fault_of_err p place j) (in_groups whole s count tail p h some e r)
end_cases whole s count tail place (Ok rest) h some e r j = grind (arith, never_short, state_from, subgroups_of, reserved_from, fields, place_in)

head_cases : (whole : List ℕ) (place : ℕ) (read : Result (StateFields × ℕ × List ℕ) ℕ) → IsOctets whole → 0 < length whole → head_in whole ≡ read → judged whole read ≡ Err (Short place)
    → IsShort place whole
head_cases whole place (Err p) h some e j =
    let f = found_head whole p e in
    subst (λ (n : ℕ). IsShort n whole) (fault_of_err p place j) (some, (f.s, f.widths, f.ends))
head_cases whole place (Ok x) h some e j = end_cases whole x.0 x.1 x.2 place (end_in whole x.1 x.2) h some e refl j

pub short_found : (place : ℕ) (octets : List ℕ) → IsOctets octets → state_of octets ≡ Err (Short place) → IsShort place octets
short_found place [] h e = absurd cc
short_found place (first ∷ rest) h e = head_cases (first ∷ rest) place (head_in (first ∷ rest)) h (omega arith) refl (lifted_err (judged_of (first ∷ rest)) (Short place) e)

cut_cases : (whole : List ℕ) (s : StateFields) (place : ℕ) → IsCut whole place s (head_in whole) → judged_of whole ≡ Err (Short place)
cut_cases whole s place cut =
    elim cut [
      | inl head ↦ ap (judged whole) head
      | inr b ↦ grind (arith, told_groups whole s.groups b.tail place b.n b.within b.at b.ends, b.read)
    ]

pub short_told : (place : ℕ) (octets : List ℕ) → IsShort place octets → state_of octets ≡ Err (Short place)
short_told place [] c = absurd (omega (arith, c.0))
short_told place (first ∷ rest) c = grind (arith, cut_cases (first ∷ rest) c.1.0 place (told_head (first ∷ rest) c.1.0 place c.1.1 c.1.2))

-- ---- all faults

pub fault_found : (fault : StateFault) (octets : List ℕ) → IsOctets octets → (fault ≡ Memory → ⊥) → state_of octets ≡ Err fault → IsFault fault octets
fault_found (Short place) octets h some e = short_found place octets h e
fault_found (Rfu place) octets h some e = reserved_found place octets h e
fault_found (Trailing place) octets h some e = trailing_found place octets h e
fault_found Memory octets h some e = absurd (some refl)

pub fault_told : (fault : StateFault) (octets : List ℕ) → (fault ≡ Memory → ⊥) → IsFault fault octets → state_of octets ≡ Err fault
fault_told (Short place) octets some f = short_told place octets f
fault_told (Rfu place) octets some f = reserved_told place octets f
fault_told (Trailing place) octets some f = trailing_told place octets f
fault_told Memory octets some f = absurd (some refl)

pub gave_fault : (result : Result (Option ReceiveState) StateFault) (octets : List ℕ) → IsOctets octets → Answers told result (state_of octets)
    → (result ≡ Err Memory → (state : ReceiveState) × (state_of octets ≡ Ok (Some state)) × (0 < length state.groups)) → IfErr result (λ fault. IsFault fault octets)
gave_fault (Err Memory) octets h g wants = let w = wants refl in (w.0, read_is (Some w.0) octets h w.1, w.2)
gave_fault result octets h g wants = search (short_found, reserved_found, trailing_found, read_is)
