-- Operations whose fields have no reserved value and no wish.
use Rattle.bass_operations.proofs.Prelude.{◌≡◌, ℕ, ◌-◌, ◌≤◌, true, eqb, List, [], ◌∷◌, length, get_or, take, drop, Option, Some, None, Result, Ok, refl, sym, ap, subst, ◌∙◌, arith, eqb-true, take_all, nil_from_length, octet_in, octets_in, ◌>>=◌, whole, bind_some, some_is, OpFault, Length, Operation, ScanStopped, ScanStarted, Code, Remove, op_of, judged, answered, fault_of, told, Answers, ok_or}
use Rattle.bass_operations.specs.Reading.{op_in, code_in, remove_in}
use Rattle.bass_operations.specs.Twice.{twice_from}

abbrev pub behind : List ℕ → List ℕ
behind from = take (length from - 1) (drop 1 from)

behind_is : (code : ℕ) (rest : List ℕ) → behind (code ∷ rest) ≡ rest
behind_is code rest = take_all (length (code ∷ rest) - 1) rest (omega arith)

none_behind : (code : ℕ) (rest : List ℕ) → true ≡ eqb (length (behind (code ∷ rest))) 0 → rest ≡ []
none_behind code rest e = nil_from_length rest (ap length (sym (behind_is code rest)) ∙ eqb-true (length (behind (code ∷ rest))) 0 (sym e))

is_alone : (code : ℕ) (rest : List ℕ) (opcode : ℕ) (op : Operation) → code ≡ opcode → rest ≡ [] → op_of (opcode ∷ []) ≡ Ok op → op_of (code ∷ rest) ≡ Ok op
is_alone code rest opcode op a b e = ap (λ (n : ℕ). op_of (n ∷ rest)) a ∙ (ap (λ (x : List ℕ). op_of (opcode ∷ x)) b ∙ e)

pub stopped : (from : List ℕ) → 1 ≤ length from → get_or from 0 0 ≡ 0 → true ≡ eqb (length (behind from)) 0 → op_of from ≡ Ok ScanStopped
unfolding op_in twice_from
stopped from h a e = grind (arith, is_alone, none_behind)

pub started : (from : List ℕ) → 1 ≤ length from → get_or from 0 0 ≡ 1 → true ≡ eqb (length (behind from)) 0 → op_of from ≡ Ok ScanStarted
unfolding op_in twice_from
started from h a e = grind (arith, is_alone, none_behind)

code_faultless : (rest : List ℕ) (op : Operation) → code_in rest ≡ Some op → fault_of op ≡ None
unfolding code_in twice_from
code_faultless rest op e =
    let a = bind_some (octet_in rest) _ op e in
    let b = bind_some (whole (octets_in 16 a.0.1)) _ op a.2 in
    let read : Operation = Code a.0.0 b.0 in
    subst (λ (o : Operation). fault_of o ≡ None) (some_is read op b.2) refl

remove_faultless : (rest : List ℕ) (op : Operation) → remove_in rest ≡ Some op → fault_of op ≡ None
unfolding remove_in twice_from
remove_faultless rest op e =
    let a = bind_some (whole (octet_in rest)) _ op e in
    let read : Operation = Remove a.0 in
    subst (λ (o : Operation). fault_of o ≡ None) (some_is read op a.2) refl

faultless : (read : Option Operation) (given : Result Operation OpFault) → ((op : Operation) → read ≡ Some op → fault_of op ≡ None) → given ≡ ok_or read Length → Answers told given (judged read)
faultless read given none e = grind (arith, told, judged, answered)

pub code_given : (from : List ℕ) (read : Option Operation) (given : Result Operation OpFault) → 1 ≤ length from → get_or from 0 0 ≡ 4 → read ≡ code_in (behind from)
    → given ≡ ok_or read Length → Answers told given (op_of from)
unfolding op_in
code_given [] read given h a e g = absurd (omega (arith, h))
code_given (code ∷ rest) read given h a e g = grind (arith, behind_is code rest, faultless read given (λ op some. code_faultless rest op ((ap code_in (sym (behind_is code rest)) ∙ sym e) ∙ some)) g)

pub remove_given : (from : List ℕ) (read : Option Operation) (given : Result Operation OpFault) → 1 ≤ length from → get_or from 0 0 ≡ 5 → read ≡ remove_in (behind from)
    → given ≡ ok_or read Length → Answers told given (op_of from)
unfolding op_in
remove_given [] read given h a e g = absurd (omega (arith, h))
remove_given (code ∷ rest) read given h a e g = grind (arith, behind_is code rest, faultless read given (λ op some. remove_faultless rest op ((ap remove_in (sym (behind_is code rest)) ∙ sym e) ∙ some)) g)
