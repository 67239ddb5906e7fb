-- States that are read are encoded so, and their first fault is the one that is told.
use Rattle.receive_state.proofs.Prelude.{◌≡◌, ℕ, ◌<◌, ◌≤◌, List, [], ◌∷◌, ◌++◌, length, map, Option, Some, None, Result, Ok, Err, refl, sym, ap, subst, ◌∙◌, append_assoc, arith, IfOk, append-nil, nil_from_length, flat_map, Field, laid, reserved_from, NoneReserved, place_in, IsOctets, Subgroup, subgroup, subgroup_fields, subgroup_laid, subgroups_take, subgroups_again, reserved_none, none_reserved, StateFault, GroupState, ReceiveState, IsFollowed, StateFields, fields, code_width, number_of, code_of, group_of, fields_of, encoding, IsEncoded, StateIs, subgroups_of, state_of_group, encryption_of, state_from, first_fault, answered, behind, judged, judged_of, lifted, state_of, Answers, ltb-false}
use Rattle.std.proofs.lemmas.Grind.{flat_map-append}
use Rattle.bcast_base.specs.Subgroups.{subgroups_in}
use Rattle.receive_state.specs.Reading.{head_in, end_in, told}
use Rattle.receive_state.proofs.Heads.{before, head_takes, head_again}
use Rattle.receive_state.proofs.Loops.{groups_read, groups_told}

-- ---- the octets of the subgroups

pub groups_laid : (groups : List Subgroup) → laid (flat_map subgroup_fields groups) ≡ flat_map subgroup groups
groups_laid [] = refl
groups_laid (group ∷ groups) =
    flat_map-append (λ (field : Field). field.octets) (subgroup_fields group) (flat_map subgroup_fields groups)
    ∙ (ap (λ (x : List ℕ). x ++ laid (flat_map subgroup_fields groups)) (subgroup_laid group) ∙ ap (λ (x : List ℕ). subgroup group ++ x) (groups_laid groups))

groups_back : (groups : List Subgroup) → map group_of (map state_of_group groups) ≡ groups
groups_back [] = refl
groups_back (group ∷ groups) = ap (λ (x : List Subgroup). group ∷ x) (groups_back groups)

states_back : (states : List GroupState) → map state_of_group (map group_of states) ≡ states
states_back [] = refl
states_back (state ∷ states) = ap (λ (x : List GroupState). state ∷ x) (states_back states)

-- ---- BIG_Encryption and Bad_Code

number_back : (number : ℕ) (code : List ℕ) → number ≤ 3 → number_of (encryption_of number code) ≡ number
number_back number code h = grind arith

pub fields_back : (s : StateFields) → s.encryption ≤ 3 → length s.bad_code ≡ code_width s.encryption → fields_of (state_from s) ≡ s
fields_back s known width = grind (arith, code_of, encryption_of, map, group_of, state_of_group, number_back, nil_from_length, groups_back)

pub state_back : (state : ReceiveState) → state_from (fields_of state) ≡ state
state_back state = grind (arith, map, state_of_group, group_of, states_back)

-- ---- steps of reading

abbrev pub or_place : Option ℕ → Option ℕ → Option ℕ
or_place (Some place) other = Some place
or_place None other = other

fault_none : (place : Option ℕ) (end : ℕ) (rest : List ℕ) → first_fault place end rest ≡ None → (place ≡ None) × (rest ≡ [])
fault_none place end rest e = grind arith

answered_ok : (read state : ReceiveState) (fault : Option StateFault) → answered read fault ≡ Ok state → (read ≡ state) × (fault ≡ None)
answered_ok read state fault e = grind arith

known_encryption : (s : StateFields) → NoneReserved (fields s) → s.encryption ≤ 3
known_encryption s h = ltb-false 3 s.encryption h.1.1.1.1.1.1.0

few : (n : ℕ) → n < 256 → n ≤ 255
few n h = omega arith

nested : (s : StateFields) (count : ℕ) (tail rest : List ℕ) → before s count (tail ++ rest) ≡ before s count tail ++ rest
nested s count tail rest = simp append_assoc

pub whole_of : (whole : List ℕ) (s : StateFields) (count : ℕ) (tail : List ℕ) (groups : List Subgroup) (rest : List ℕ) → IsOctets whole → head_in whole ≡ Ok (s, count, tail)
    → subgroups_in count tail ≡ Some (groups, rest) → IsFollowed (record s { groups = groups }) whole rest
whole_of whole s count tail groups rest h e g =
    let t = head_takes whole (s, count, tail) h e in
    let u = subgroups_take count tail (groups, rest) t.octets g in
    let behind : tail ≡ laid (flat_map subgroup_fields groups) ++ rest = u.0.parts ∙ ap (λ (x : List ℕ). x ++ rest) (sym (groups_laid groups)) in
    let parts : whole ≡ before s (length groups) (laid (flat_map subgroup_fields groups) ++ rest) =
    t.parts ∙ (ap (before s count) behind ∙ ap (λ (n : ℕ). before s n (laid (flat_map subgroup_fields groups) ++ rest)) (sym u.2)) in
    record {
      widths = record { address = t.address; broadcast_id = t.broadcast_id; bad_code = t.bad_code; few = subst (λ (n : ℕ). n ≤ 255) (sym u.2) (few count t.few); groups = u.1 };
      parts = parts ∙ nested s (length groups) (laid (flat_map subgroup_fields groups)) rest;
    }

-- what octets that begin with all fields are judged as
pub judged_as : (whole : List ℕ) (s : StateFields) (count : ℕ) (tail : List ℕ) (groups : List Subgroup) (rest : List ℕ) → head_in whole ≡ Ok (s, count, tail)
    → subgroups_in count tail ≡ Some (groups, rest)
    → judged_of whole ≡ answered (state_from (record s { groups = groups })) (first_fault (reserved_from 0 (fields (record s { groups = groups }))) (place_in whole rest) rest)
judged_as whole s count tail groups rest e g = grind (arith, groups_told whole count tail groups rest g)

pub whole_judged : (whole : List ℕ) (s : StateFields) (rest : List ℕ) → IsFollowed s whole rest
    → judged_of whole ≡ answered (state_from s) (first_fault (reserved_from 0 (fields s)) (place_in whole rest) rest)
whole_judged whole s rest w =
    let tail = laid (flat_map subgroup_fields s.groups) ++ rest in
    let parts : whole ≡ before s (length s.groups) tail = w.parts ∙ sym (nested s (length s.groups) (laid (flat_map subgroup_fields s.groups)) rest) in
    let head : head_in whole ≡ Ok (record s { groups = [] }, length s.groups, tail) = ap head_in parts ∙ head_again s (length s.groups) tail w.widths.address w.widths.broadcast_id w.widths.bad_code in
    let groups : subgroups_in (length s.groups) tail ≡ Some (s.groups, rest) =
    ap (λ (x : List ℕ). subgroups_in (length s.groups) (x ++ rest)) (groups_laid s.groups) ∙ subgroups_again s.groups rest w.widths.groups in
    judged_as whole (record s { groups = [] }) (length s.groups) tail s.groups rest head groups

-- ---- laws

end_cases : (whole : List ℕ) (s : StateFields) (count : ℕ) (tail : List ℕ) (state : ReceiveState) (read : Result (List ℕ) ℕ) → IsOctets whole → head_in whole ≡ Ok (s, count, tail)
    → end_in whole count tail ≡ read
    → behind whole (record s { groups = subgroups_of (subgroups_in count tail) }) read ≡ Ok state → IsEncoded state whole
end_cases whole s count tail state (Err place) h e r j = absurd cc
end_cases whole s count tail state (Ok rest) h e r j =
    let g = groups_read whole count tail rest r in
    let all : StateFields = record s { groups = g.0 } in
    let w = whole_of whole s count tail g.0 rest h e g.1 in
    let j' : behind whole all (Ok rest) ≡ Ok state = sym (ap (λ (o : Option (List Subgroup × List ℕ)). behind whole (record s { groups = subgroups_of o }) (Ok rest)) g.1) ∙ j in
    let a = answered_ok (state_from all) state (first_fault (reserved_from 0 (fields all)) (place_in whole rest) rest) j' in
    let n = fault_none (reserved_from 0 (fields all)) (place_in whole rest) rest a.1 in
    let values = reserved_none (fields all) n.0 in
    let back : fields_of (state_from all) ≡ all = fields_back all (known_encryption all values) w.widths.bad_code in
    let parts : whole ≡ laid (fields all) = w.parts ∙ (ap (λ (x : List ℕ). laid (fields all) ++ x) n.1 ∙ append-nil (laid (fields all))) in
    subst (λ (x : ReceiveState). IsEncoded x whole) a.0 (grind (arith, fields, laid))

head_cases : (whole : List ℕ) (state : ReceiveState) (read : Result (StateFields × ℕ × List ℕ) ℕ) → IsOctets whole → head_in whole ≡ read → judged whole read ≡ Ok state → IsEncoded state whole
head_cases whole state (Err place) h e j = absurd cc
head_cases whole state (Ok x) h e j = end_cases whole x.0 x.1 x.2 state (end_in whole x.1 x.2) h e refl j

pub judged_is : (whole : List ℕ) (state : ReceiveState) → IsOctets whole → judged_of whole ≡ Ok state → IsEncoded state whole
judged_is whole state h j = head_cases whole state (head_in whole) h refl j

lifted_ok : (read : Result ReceiveState StateFault) (value : Option ReceiveState) → lifted read ≡ Ok value → (state : ReceiveState) × (read ≡ Ok state) × (Some state ≡ value)
lifted_ok read value e = grind arith

pub read_is : (value : Option ReceiveState) (octets : List ℕ) → IsOctets octets → state_of octets ≡ Ok value → StateIs value octets
read_is value [] h e = grind arith
read_is value (octet ∷ rest) h e = grind (arith, lifted_ok, judged_of, judged_is)

pub is_judged : (state : ReceiveState) (octets : List ℕ) → IsEncoded state octets → judged_of octets ≡ Ok state
is_judged state octets s =
    let w : IsFollowed (fields_of state) octets [] = record { widths = s.widths; parts = s.encoded ∙ sym (append-nil (encoding state)) } in
    let none : reserved_from 0 (fields (fields_of state)) ≡ None = none_reserved 0 (fields (fields_of state)) s.values in
    whole_judged octets (fields_of state) [] w
    ∙ (ap (λ (p : Option ℕ). answered (state_from (fields_of state)) (first_fault p (place_in octets []) [])) none ∙ ap (λ (x : ReceiveState). answered x None) (state_back state))

pub is_read : (value : Option ReceiveState) (octets : List ℕ) → StateIs value octets → state_of octets ≡ Ok value
is_read value octets e = grind (arith, state_of, lifted, is_judged)

pub gave_state : (result : Result (Option ReceiveState) StateFault) (octets : List ℕ) → IsOctets octets → Answers told result (state_of octets) → IfOk result (λ value. StateIs value octets)
gave_state result octets h g = grind (arith, read_is)
