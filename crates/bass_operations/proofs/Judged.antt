-- Operations that are read are laid so, and their first fault is the one that is told.
use Rattle.bass_operations.proofs.Prelude.{◌≡◌, ℕ, suc, ◌<◌, ◌≤◌, Bool, false, cond, ltb, List, [], ◌∷◌, ◌++◌, length, Option, Some, None, Result, Ok, Err, refl, sym, ap, subst, ◌∙◌, arith, le-ltb, flat_map, laid, reserved_from, octet_in, octets_in, IsOctets, ◌>>=◌, whole, IsOctets-rest, octet_takes, octets_take, bind_some, some_is, reserved_none, none_reserved, OpFault, Opcode, Operation, ScanStopped, ScanStarted, Add, Modify, Code, Remove, fields, encoding, wishes_of, IsLaid, OpIs, FitsWidths, alone, op_of, judged, answered, fault_of, first_fault, twice_of}
use Rattle.bass_operations.specs.Reading.{wishes_in, add_head_in, modify_head_in, add_in, modify_in, code_in, remove_in, op_in}
use Rattle.bass_operations.proofs.Heads.{add_before, add_head_takes, add_head_again, modify_before, modify_head_takes, modify_head_again, octets_again_at}
use Rattle.bass_operations.proofs.Encoded.{wish_fields, wishes_take, wishes_again, whole_some}
use Rattle.bass_operations.proofs.Twice.{none_twice, twice_none}

few : (n : ℕ) → n < 256 → n ≤ 255
few n h = omega arith

-- ---- what is read is laid so

pub add_laid : (rest : List ℕ) (op : Operation) → IsOctets rest → add_in rest ≡ Some op → IsLaid op (2 ∷ rest)
unfolding add_in
add_laid rest op h e =
    let a = bind_some (add_head_in rest) _ op e in
    let b = bind_some (wishes_in a.0.1 a.0.2) _ op a.2 in
    let t = add_head_takes rest a.0 h a.1 in
    let s = wishes_take a.0.1 a.0.2 b.0 t.octets b.1 in
    let parts : rest ≡ add_before a.0.0 (length b.0) (laid (flat_map wish_fields b.0)) =
    t.parts ∙ (ap (add_before a.0.0 a.0.1) s.encoded ∙ ap (λ (n : ℕ). add_before a.0.0 n (laid (flat_map wish_fields b.0))) (sym s.counted)) in
    let read : Operation = Add (record a.0.0 { wishes = b.0 }) in
    subst (λ (o : Operation). IsLaid o (2 ∷ rest)) (some_is read op b.2) (grind (arith, few))

pub modify_laid : (rest : List ℕ) (op : Operation) → IsOctets rest → modify_in rest ≡ Some op → IsLaid op (3 ∷ rest)
unfolding modify_in
modify_laid rest op h e =
    let a = bind_some (modify_head_in rest) _ op e in
    let b = bind_some (wishes_in a.0.1 a.0.2) _ op a.2 in
    let t = modify_head_takes rest a.0 h a.1 in
    let s = wishes_take a.0.1 a.0.2 b.0 t.octets b.1 in
    let parts : rest ≡ modify_before a.0.0 (length b.0) (laid (flat_map wish_fields b.0)) =
    t.parts ∙ (ap (modify_before a.0.0 a.0.1) s.encoded ∙ ap (λ (n : ℕ). modify_before a.0.0 n (laid (flat_map wish_fields b.0))) (sym s.counted)) in
    let read : Operation = Modify (record a.0.0 { wishes = b.0 }) in
    subst (λ (o : Operation). IsLaid o (3 ∷ rest)) (some_is read op b.2) (grind (arith, few))

pub code_laid : (rest : List ℕ) (op : Operation) → code_in rest ≡ Some op → IsLaid op (4 ∷ rest)
unfolding code_in
code_laid rest op e =
    let a = bind_some (octet_in rest) _ op e in
    let b = bind_some (whole (octets_in 16 a.0.1)) _ op a.2 in
    let t0 = octet_takes rest a.0.0 a.0.1 a.1 in
    let t1 = octets_take 16 a.0.1 b.0 [] (whole_some (octets_in 16 a.0.1) b.0 b.1) in
    let read : Operation = Code a.0.0 b.0 in
    subst (λ (o : Operation). IsLaid o (4 ∷ rest)) (some_is read op b.2)
    (record { widths = t1.1; encoded = ap (λ (x : List ℕ). 4 ∷ x) (t0.parts ∙ ap (λ (x : List ℕ). a.0.0 ∷ x) t1.0.parts) })

pub remove_laid : (rest : List ℕ) (op : Operation) → remove_in rest ≡ Some op → IsLaid op (5 ∷ rest)
unfolding remove_in
remove_laid rest op e = grind (arith, bind_some, whole, octet_in, octet_takes, whole_some, some_is)

alone_laid : (code : ℕ) (rest : List ℕ) (read op : Operation) → FitsWidths read → encoding read ≡ code ∷ [] → alone read rest ≡ Some op → IsLaid op (code ∷ rest)
alone_laid code rest read op w s e = grind (arith, some_is)

pub op_laid : (code : ℕ) (rest : List ℕ) (op : Operation) → IsOctets rest → op_in code rest ≡ Some op → IsLaid op (code ∷ rest)
unfolding op_in
op_laid (suc (suc (suc (suc (suc (suc code)))))) rest op h e = absurd cc
op_laid code rest op h e = search (alone_laid, add_laid, modify_laid, code_laid, remove_laid)

-- ---- what is laid is read

pub record IsRead (op : Operation) (octets : List ℕ) : Type 0 where
  pub opcode : ℕ
  pub rest : List ℕ
  pub parts : octets ≡ opcode ∷ rest
  pub known : opcode ≤ 5
  pub read : op_in opcode rest ≡ Some op

pub laid_read : (op : Operation) (octets : List ℕ) → IsLaid op octets → IsRead op octets
unfolding op_in add_in modify_in code_in remove_in
laid_read ScanStopped octets l = record { opcode = 0; rest = []; parts = l.encoded; known = omega arith; read = refl }
laid_read ScanStarted octets l = record { opcode = 1; rest = []; parts = l.encoded; known = omega arith; read = refl }
laid_read (Add add) octets l = grind (arith, laid, flat_map, wish_fields, add_head_again, length, wishes_again, add_before)
laid_read (Modify modify) octets l = grind (arith, laid, flat_map, wish_fields, modify_head_again, length, wishes_again, modify_before)
laid_read (Code source_id code) octets l =
    record { opcode = 4; rest = source_id ∷ (code ++ []); parts = l.encoded; known = omega arith; read = rw (octets_again_at 16 code [] l.widths) refl }
laid_read (Remove source_id) octets l = record { opcode = 5; rest = source_id ∷ []; parts = l.encoded; known = omega arith; read = refl }

-- ---- the first fault

answered_ok : (read op : Operation) (fault : Option OpFault) → answered read fault ≡ Ok op → (read ≡ op) × (fault ≡ None)
answered_ok read op fault e = grind arith

pub answered_err : (read : Operation) (fault : Option OpFault) (f : OpFault) → answered read fault ≡ Err f → fault ≡ Some f
answered_err read fault f e = grind arith

no_fault : (place twice : Option ℕ) → first_fault place twice ≡ None → (place ≡ None) × (twice ≡ None)
no_fault place twice e = grind arith

judged_ok : (read : Option Operation) (op : Operation) → judged read ≡ Ok op → (read ≡ Some op) × (fault_of op ≡ None)
judged_ok None op e = absurd cc
judged_ok (Some read) op e =
    let a = answered_ok read op (fault_of read) e in
    (ap (λ (o : Operation). Some o) a.0, subst (λ (o : Operation). fault_of o ≡ None) a.0 a.1)

pub judged_by : (op : Operation) (fault : Option OpFault) → fault_of op ≡ fault → judged (Some op) ≡ answered op fault
judged_by op fault e = ap (answered op) e

guard_known : (b : Bool) (read : Result Operation OpFault) (op : Operation) → cond b (Err Opcode) read ≡ Ok op → (b ≡ false) × (read ≡ Ok op)
guard_known b read op e = grind arith

pub read_is : (op : Operation) (octets : List ℕ) → IsOctets octets → op_of octets ≡ Ok op → OpIs op octets
read_is op [] h e = absurd cc
read_is op (code ∷ rest) h e =
    let g = guard_known (ltb 5 code) (judged (op_in code rest)) op e in
    let j = judged_ok (op_in code rest) op g.1 in
    let n = no_fault (reserved_from 0 (fields op)) (twice_of (wishes_of op)) j.1 in
    record { layout = op_laid code rest op (IsOctets-rest code rest h) j.0; values = reserved_none (fields op) n.0; streams = none_twice (wishes_of op) n.1 }

-- what is read of octets that are laid
pub laid_is_judged : (op : Operation) (octets : List ℕ) (fault : Option OpFault) → IsLaid op octets → fault_of op ≡ fault → op_of octets ≡ answered op fault
laid_is_judged op octets fault l f =
    let r = laid_read op octets l in
    let known : ltb 5 r.opcode ≡ false = le-ltb 5 r.opcode r.known in
    ap op_of r.parts ∙ (ap (λ (b : Bool). cond b (Err Opcode) (judged (op_in r.opcode r.rest))) known ∙ (ap judged r.read ∙ judged_by op fault f))

pub is_read : (op : Operation) (octets : List ℕ) → OpIs op octets → op_of octets ≡ Ok op
is_read op octets o =
    let place : reserved_from 0 (fields op) ≡ None = none_reserved 0 (fields op) o.values in
    let twice : twice_of (wishes_of op) ≡ None = twice_none (wishes_of op) o.streams in
    laid_is_judged op octets None o.layout (ap (λ (p : Option ℕ). first_fault p (twice_of (wishes_of op))) place ∙ ap (first_fault None) twice)
