-- What a state is judged as, by the steps of reading.
use Rattle.receive_state.proofs.Prelude.{◌≡◌, ℕ, ◌+◌, ◌<◌, Bool, true, false, cond, ltb, eqb, List, [], length, map, Option, Some, None, is_some, Result, Ok, Err, sym, ap, ◌∙◌, arith, IsOk, flat_map, nil_from_length, length-map, reserved_from, place_in, IsOctets, Subgroup, subgroup_fields, reserved_in, subgroups_take, StateFault, Rfu, Trailing, GroupState, ReceiveState, StateFields, fields, groups_of, states_of, state_of_group, state_from, reserved_head, first_fault, answered, judged_of, eqb-true}
use Rattle.bcast_base.specs.Subgroups.{subgroups_in}
use Rattle.bcast_base.proofs.Citable.{reserved_found}
use Rattle.receive_state.specs.Reading.{head_in, end_in}
use Rattle.receive_state.proofs.Heads.{head_takes, before-length}
use Rattle.receive_state.proofs.Judged.{or_place, judged_as}
use Rattle.receive_state.proofs.Loops.{groups_read}

pub are_whole : (whole : List ℕ) (count : ℕ) (tail rest : List ℕ) → end_in whole count tail ≡ Ok rest → is_some (subgroups_in count tail) ≡ true
are_whole whole count tail rest e = ap (λ (r : Option (List Subgroup × List ℕ)). is_some r) (groups_read whole count tail rest e).1

four : (a b c d : Bool) (others : Option ℕ)
    → cond a (Some 1) (cond b (Some 8) (cond c (Some 12) (cond d (Some 13) others))) ≡ or_place (cond a (Some 1) (cond b (Some 8) (cond c (Some 12) (cond d (Some 13) None)))) others
four a b c d others = grind arith

abbrev head_of : StateFields → Option ℕ
head_of s = reserved_head s.address_type s.sid s.pa_sync_state s.encryption

places : (s : StateFields) → length s.address ≡ 6 → length s.broadcast_id ≡ 3
    → reserved_from 0 (fields s) ≡ or_place (head_of s) (reserved_from (14 + length s.bad_code + 1) (flat_map subgroup_fields s.groups))
places s address id = grind (arith, four, ltb, reserved_from, length, flat_map, subgroup_fields)

pub record IsRead (whole : List ℕ) (s : StateFields) (count : ℕ) (tail rest : List ℕ) : Type 0 where
  pub groups : List Subgroup
  pub read : subgroups_in count tail ≡ Some (groups, rest)
  pub judged : judged_of whole ≡ answered (state_from (record s { groups = groups })) (first_fault (or_place (head_of s) (reserved_in whole count tail)) (place_in whole rest) rest)

pub is_read : (whole : List ℕ) (s : StateFields) (count : ℕ) (tail rest : List ℕ) → IsOctets whole → head_in whole ≡ Ok (s, count, tail) → end_in whole count tail ≡ Ok rest
    → IsRead whole s count tail rest
is_read whole s count tail rest h e r =
    let g = groups_read whole count tail rest r in
    let t = head_takes whole (s, count, tail) h e in
    let len : length whole ≡ 15 + length s.bad_code + length tail = ap length t.parts ∙ before-length s count tail t.address t.broadcast_id in
    let there : place_in whole tail ≡ 14 + length s.bad_code + 1 = omega arith in
    let found = reserved_found whole count tail (g.0, rest) t.octets (omega arith) g.1 in
    let place : reserved_from 0 (fields (record s { groups = g.0 })) ≡ or_place (head_of s) (reserved_in whole count tail) =
    places (record s { groups = g.0 }) t.address t.broadcast_id ∙ ap (or_place (head_of s)) (sym (found ∙ ap (λ (p : ℕ). reserved_from p (flat_map subgroup_fields g.0)) there)) in
    record {
      groups = g.0;
      read = g.1;
      judged = judged_as whole s count tail g.0 rest e g.1 ∙ ap (λ (p : Option ℕ). answered (state_from (record s { groups = g.0 })) (first_fault p (place_in whole rest) rest)) place;
    }

pub reserved_group : (whole : List ℕ) (s : StateFields) (count : ℕ) (tail rest : List ℕ) (place : ℕ) → IsRead whole s count tail rest → None ≡ head_of s
    → Some place ≡ reserved_in whole count tail → judged_of whole ≡ Err (Rfu place)
reserved_group whole s count tail rest place r head found =
    grind (arith, answered, state_from, first_fault, or_place, reserved_in, place_in)

unreserved : (whole : List ℕ) (s : StateFields) (count : ℕ) (tail rest : List ℕ) (r : IsRead whole s count tail rest) → None ≡ head_of s → None ≡ reserved_in whole count tail
    → judged_of whole ≡ answered (state_from (record s { groups = r.groups })) (first_fault None (place_in whole rest) rest)
unreserved whole s count tail rest r head found = grind (arith, answered, state_from, first_fault, or_place, reserved_in, place_in)

left : (end : ℕ) (rest : List ℕ) → eqb (length rest) 0 ≡ false → first_fault None end rest ≡ Some (Trailing end)
left end rest e = grind arith

none_left : (end : ℕ) (rest : List ℕ) → eqb (length rest) 0 ≡ true → first_fault None end rest ≡ None
none_left end rest e = ap (first_fault None end) (nil_from_length rest (eqb-true (length rest) 0 e))

pub trailing : (whole : List ℕ) (s : StateFields) (count : ℕ) (tail rest : List ℕ) → IsRead whole s count tail rest → None ≡ head_of s
    → None ≡ reserved_in whole count tail → eqb (length rest) 0 ≡ false → judged_of whole ≡ Err (Trailing (place_in whole rest))
trailing whole s count tail rest r head found more = grind (arith, unreserved, answered, state_from, left, place_in)

ended : (whole : List ℕ) (s : StateFields) (count : ℕ) (tail rest : List ℕ) (r : IsRead whole s count tail rest) → None ≡ head_of s → None ≡ reserved_in whole count tail → eqb (length rest) 0 ≡ true
    → judged_of whole ≡ Ok (state_from (record s { groups = r.groups }))
ended whole s count tail rest r head found none = grind (arith, unreserved, answered, state_from, none_left, place_in)

is_ok : (read : Result ReceiveState StateFault) (state : ReceiveState) → read ≡ Ok state → IsOk read
is_ok read state e = grind arith

pub is_value : (whole : List ℕ) (s : StateFields) (count : ℕ) (tail rest : List ℕ) → IsRead whole s count tail rest → None ≡ head_of s → None ≡ reserved_in whole count tail
    → eqb (length rest) 0 ≡ true → IsOk (judged_of whole)
is_value whole s count tail rest r head found none = is_ok (judged_of whole) (state_from (record s { groups = r.groups })) (ended whole s count tail rest r head found none)

some_same : (x y : List GroupState) → Some x ≡ Some y → x ≡ y
some_same x y e = cc

pub is_done : (whole : List ℕ) (s : StateFields) (count : ℕ) (tail rest : List ℕ) (state : ReceiveState) → IsRead whole s count tail rest → None ≡ head_of s
    → None ≡ reserved_in whole count tail → eqb (length rest) 0 ≡ true
    → groups_of count tail ≡ Some state.groups → state ≡ record (state_from (record s { groups = [] })) { groups = state.groups } → judged_of whole ≡ Ok state
is_done whole s count tail rest state r head found none groups same =
    grind (arith, map, state_of_group, some_same, states_of, ended, state_from)

-- a state of at least one subgroup
pub has_group : (whole : List ℕ) (s : StateFields) (count : ℕ) (tail rest : List ℕ) → IsOctets whole → head_in whole ≡ Ok (s, count, tail) → IsRead whole s count tail rest → None ≡ head_of s → None ≡ reserved_in whole count tail
    → eqb (length rest) 0 ≡ true → 0 < count → (state : ReceiveState) × (judged_of whole ≡ Ok state) × (0 < length state.groups)
has_group whole s count tail rest h e r head found none some =
    let long : length r.groups ≡ count = (subgroups_take count tail (r.groups, rest) (head_takes whole (s, count, tail) h e).octets r.read).2 in
    (state_from (record s { groups = r.groups }), ended whole s count tail rest r head found none, omega (arith, length-map r.groups state_of_group, long, some))
