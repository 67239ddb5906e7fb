-- What is wrong with octets that have all fields, as it is found and as it is told.
use Rattle.receive_state.proofs.Prelude.{◌≡◌, ℕ, ◌<◌, List, [], ◌∷◌, length, Option, Some, None, Result, Ok, Err, sym, ap, ◌∙◌, arith, length-append, laid, reserved_from, place_in, IsOctets, Subgroup, reserved_first, first_reserved, reserved_none, none_reserved, StateFault, Short, Rfu, Trailing, ReceiveState, IsFollowed, IsReserved, IsTrailing, StateFields, fields, subgroups_of, state_from, first_fault, answered, behind, judged, judged_of, lifted, state_of}
use Rattle.bcast_base.specs.Subgroups.{subgroups_in}
use Rattle.receive_state.specs.Reading.{head_in, end_in}
use Rattle.receive_state.proofs.Judged.{whole_of, whole_judged}
use Rattle.receive_state.proofs.Loops.{groups_read}

-- all fields were read, and their values and the octets that are left have this first fault
record HasFault (whole : List ℕ) (fault : StateFault) : Type 0 where
  pub s : StateFields
  pub rest : List ℕ
  pub followed : IsFollowed s whole rest
  pub first : first_fault (reserved_from 0 (fields s)) (place_in whole rest) rest ≡ Some fault

answered_err : (state : ReceiveState) (found : Option StateFault) (fault : StateFault) → answered state found ≡ Err fault → found ≡ Some fault
answered_err state found fault e = grind arith

end_cases : (whole : List ℕ) (s : StateFields) (count : ℕ) (tail : List ℕ) (fault : StateFault) (read : Result (List ℕ) ℕ) → IsOctets whole → ((place : ℕ) → fault ≡ Short place → ⊥)
    → head_in whole ≡ Ok (s, count, tail) → end_in whole count tail ≡ read
    → behind whole (record s { groups = subgroups_of (subgroups_in count tail) }) read ≡ Err fault → HasFault whole fault
end_cases whole s count tail fault (Err place) h later e r j = absurd (later place (let same : fault ≡ Short place = cc in same))
end_cases whole s count tail fault (Ok rest) h later e r j =
    let g = groups_read whole count tail rest r in
    let all : StateFields = record s { groups = g.0 } in
    let j' : behind whole all (Ok rest) ≡ Err fault = sym (ap (λ (o : Option (List Subgroup × List ℕ)). behind whole (record s { groups = subgroups_of o }) (Ok rest)) g.1) ∙ j in
    record {
      s = all;
      rest = rest;
      followed = whole_of whole s count tail g.0 rest h e g.1;
      first = answered_err (state_from all) (first_fault (reserved_from 0 (fields all)) (place_in whole rest) rest) fault j';
    }

head_cases : (whole : List ℕ) (fault : StateFault) (read : Result (StateFields × ℕ × List ℕ) ℕ) → IsOctets whole → ((place : ℕ) → fault ≡ Short place → ⊥) → head_in whole ≡ read
    → judged whole read ≡ Err fault → HasFault whole fault
head_cases whole fault read h later e j = grind (arith, end_cases)

pub lifted_err : (read : Result ReceiveState StateFault) (fault : StateFault) → lifted read ≡ Err fault → read ≡ Err fault
lifted_err read fault e = grind arith

has_fault : (fault : StateFault) (octets : List ℕ) → IsOctets octets → ((place : ℕ) → fault ≡ Short place → ⊥) → state_of octets ≡ Err fault → HasFault octets fault
has_fault fault octets h later e = grind (arith, head_cases, lifted_err, judged_of)

reserved_place : (place' : Option ℕ) (end : ℕ) (rest : List ℕ) (place : ℕ) → first_fault place' end rest ≡ Some (Rfu place) → place' ≡ Some place
reserved_place place' end rest place e = grind arith

pub reserved_found : (place : ℕ) (octets : List ℕ) → IsOctets octets → state_of octets ≡ Err (Rfu place) → IsReserved place octets
reserved_found place octets h e =
    let f = has_fault (Rfu place) octets h (λ other same. cc) e in
    (f.s, f.rest, f.followed, reserved_first place (fields f.s) (reserved_place (reserved_from 0 (fields f.s)) (place_in octets f.rest) f.rest place f.first))

trailing_place : (place' : Option ℕ) (end : ℕ) (rest : List ℕ) (place : ℕ) → first_fault place' end rest ≡ Some (Trailing place) → (place' ≡ None) × (0 < length rest) × (end ≡ place)
trailing_place place' end rest place e = grind arith

place_left : (s : StateFields) (whole rest : List ℕ) → IsFollowed s whole rest → place_in whole rest ≡ length (laid (fields s))
place_left s whole rest f = omega (arith, ap length f.parts, length-append (laid (fields s)) rest)

pub trailing_found : (place : ℕ) (octets : List ℕ) → IsOctets octets → state_of octets ≡ Err (Trailing place) → IsTrailing place octets
trailing_found place octets h e =
    let f = has_fault (Trailing place) octets h (λ other same. cc) e in
    let t = trailing_place (reserved_from 0 (fields f.s)) (place_in octets f.rest) f.rest place f.first in
    (f.s, f.rest, f.followed, reserved_none (fields f.s) t.0, t.1, sym t.2 ∙ place_left f.s octets f.rest f.followed)

told : (s : StateFields) (octets rest : List ℕ) (fault : StateFault) → IsFollowed s octets rest → first_fault (reserved_from 0 (fields s)) (place_in octets rest) rest ≡ Some fault
    → state_of octets ≡ Err fault
told s [] rest fault f e = absurd (let parts = f.parts in cc)
told s (octet ∷ octets) rest fault f e = grind (arith, whole_judged (octet ∷ octets) s rest f)

pub reserved_told : (place : ℕ) (octets : List ℕ) → IsReserved place octets → state_of octets ≡ Err (Rfu place)
reserved_told place octets r =
    told r.0 octets r.1 (Rfu place) r.2 (ap (λ (p : Option ℕ). first_fault p (place_in octets r.1) r.1) (first_reserved place (fields r.0) r.3))

left : (end : ℕ) (rest : List ℕ) → 0 < length rest → first_fault None end rest ≡ Some (Trailing end)
left end rest h = grind arith

pub trailing_told : (place : ℕ) (octets : List ℕ) → IsTrailing place octets → state_of octets ≡ Err (Trailing place)
trailing_told place octets t =
    let end : place_in octets t.1 ≡ place = place_left t.0 octets t.1 t.2 ∙ sym t.5 in
    told t.0 octets t.1 (Trailing place) t.2 (grind (arith, first_fault, place_in, none_reserved, fields, left))
