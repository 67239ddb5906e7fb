-- What is wrong with octets, as it is found and as it is told.
use Rattle.bass_operations.proofs.Prelude.{◌≡◌, ℕ, ◌<◌, ◌≤◌, Bool, true, cond, ltb, List, [], ◌∷◌, length, Option, Some, None, Result, Ok, Err, refl, ap, subst, ◌∙◌, IsOk, IfOk, IfErr, ltb-false, ltb-true, lt-ltb, le-ltb, reserved_from, IsOctets, IsOctets-rest, reserved_first, first_reserved, reserved_none, none_reserved, OpFault, Empty, Opcode, Length, Rfu, BisTwice, Memory, Operation, Wish, AllByRecursion, fields, wishes_of, IsLaid, OpIs, FitsWidths, MetadataFits, WishFits, WantsFor, op_of, judged, fault_of, first_fault, told, Answers, Finds, twice_of, arith}
use Rattle.bass_operations.specs.Faults.{IsFault}
use Rattle.bass_operations.specs.Reading.{op_in}
use Rattle.bass_operations.proofs.Judged.{op_laid, laid_read, answered_err, laid_is_judged, read_is}
use Rattle.bass_operations.proofs.Twice.{lowest_found, lowest_told}

-- the opcode of octets that are laid is theirs
not_laid : (code : ℕ) (rest : List ℕ) → op_in code rest ≡ None → (op : Operation) → IsLaid op (code ∷ rest) → ⊥
not_laid code rest e op l =
    let r = laid_read op (code ∷ rest) l in
    let first : code ≡ r.opcode = let parts = r.parts in cc in
    let others : rest ≡ r.rest = cc in
    cc

value_fault : (op : Operation) (octets : List ℕ) (fault : OpFault) (place twice : Option ℕ) → IsLaid op octets → reserved_from 0 (fields op) ≡ place → twice_of (wishes_of op) ≡ twice
    → first_fault place twice ≡ Some fault → IsFault fault octets
value_fault op octets fault (Some place) twice l p t e = grind (arith, reserved_first, fields)
value_fault op octets fault None (Some bis) l p t e =
    let same : BisTwice bis ≡ fault = cc in
    subst (λ (f : OpFault). IsFault f octets) same (op, l, reserved_none (fields op) p, lowest_found bis (wishes_of op) t)
value_fault op octets fault None None l p t e = absurd cc

judged_fault : (code : ℕ) (rest : List ℕ) (fault : OpFault) (read : Option Operation) → code ≤ 5 → IsOctets rest → op_in code rest ≡ read → judged read ≡ Err fault → IsFault fault (code ∷ rest)
judged_fault code rest fault None known h r e =
    let same : Length ≡ fault = cc in
    subst (λ (f : OpFault). IsFault f (code ∷ rest)) same (known, not_laid code rest r)
judged_fault code rest fault (Some op) known h r e =
    value_fault op (code ∷ rest) fault (reserved_from 0 (fields op)) (twice_of (wishes_of op)) (op_laid code rest op h r) refl refl (answered_err op (fault_of op) fault e)

opcode_fault : (code : ℕ) (rest : List ℕ) (fault : OpFault) (b : Bool) → ltb 5 code ≡ b → IsOctets rest → cond b (Err Opcode) (judged (op_in code rest)) ≡ Err fault → IsFault fault (code ∷ rest)
opcode_fault code rest fault b t h e = grind (arith, ltb-true, judged_fault, ltb-false)

pub fault_found : (fault : OpFault) (octets : List ℕ) → IsOctets octets → op_of octets ≡ Err fault → IsFault fault octets
fault_found fault [] h e = grind arith
fault_found fault (code ∷ rest) h e = opcode_fault code rest fault (ltb 5 code) refl (IsOctets-rest code rest h) e

known_read : (code : ℕ) (rest : List ℕ) → code ≤ 5 → op_of (code ∷ rest) ≡ judged (op_in code rest)
known_read code rest known = grind (arith, ltb, le-ltb)

none_laid : (code : ℕ) (rest : List ℕ) (read : Option Operation) → IsOctets rest → op_in code rest ≡ read → ((op : Operation) → IsLaid op (code ∷ rest) → ⊥) → judged read ≡ Err Length
none_laid code rest read h r none = grind (arith, op_laid)

pub fault_told : (fault : OpFault) (octets : List ℕ) → (fault ≡ Memory → ⊥) → IsOctets octets → IsFault fault octets → op_of octets ≡ Err fault
fault_told Empty octets some h f = ap op_of f
fault_told Opcode [] some h f = absurd f
fault_told Opcode (code ∷ rest) some h f = let above : ltb 5 code ≡ true = lt-ltb 5 code f in rw above refl
fault_told Length [] some h f = absurd f.0
fault_told Length (code ∷ rest) some h f =
    known_read code rest f.0 ∙ none_laid code rest (op_in code rest) (IsOctets-rest code rest h) refl f.1
fault_told (Rfu place) octets some h f =
    laid_is_judged f.0 octets (Some (Rfu place)) f.1 (ap (λ (p : Option ℕ). first_fault p (twice_of (wishes_of f.0))) (first_reserved place (fields f.0) f.2))
fault_told (BisTwice bis) octets some h f =
    laid_is_judged f.0 octets (Some (BisTwice bis)) f.1
    (ap (λ (p : Option ℕ). first_fault p (twice_of (wishes_of f.0))) (none_reserved 0 (fields f.0) f.2) ∙ ap (first_fault None) (lowest_told bis (wishes_of f.0) f.3))
fault_told Memory octets some h f = absurd (some refl)

-- ---- of what a function gave

pub gave_operation : (result : Result Operation OpFault) (octets : List ℕ) → IsOctets octets → Answers told result (op_of octets) → IfOk result (λ op. OpIs op octets)
gave_operation result octets h g = grind (arith, read_is)

metadata_of : (wishes : List Wish) → AllByRecursion WishFits wishes → MetadataFits wishes
metadata_of [] h = tt
metadata_of (wish ∷ wishes) h = (h.0.metadata, metadata_of wishes h.1)

widths_metadata : (op : Operation) → FitsWidths op → MetadataFits (wishes_of op)
widths_metadata op h = grind (arith, metadata_of)

pub gave_metadata : (result : Result Operation OpFault) (octets : List ℕ) → IsOctets octets → Answers told result (op_of octets) → IfOk result (λ op. MetadataFits (wishes_of op))
gave_metadata result octets h g = grind (arith, widths_metadata, read_is)

an_operation : (octets : List ℕ) (read : Result Operation OpFault) → IsOctets octets → op_of octets ≡ read → IsOk read → IfOk read (λ op. 0 < length (wishes_of op))
    → (op : Operation) × OpIs op octets × (0 < length (wishes_of op))
an_operation octets (Ok op) h e some more = (op, read_is op octets h e, more)
an_operation octets (Err fault) h e some more = absurd cc

failed : (fault : OpFault) (octets : List ℕ) → IsOctets octets → Finds (told fault) (op_of octets) → WantsFor fault (op_of octets) → IsFault fault octets
failed Memory octets h g wants = an_operation octets (op_of octets) h refl g wants
failed fault octets h g wants = search (fault_found, an_operation, op_of)

pub gave_fault : (result : Result Operation OpFault) (octets : List ℕ) → IsOctets octets → Answers told result (op_of octets) → IfErr result (λ fault. WantsFor fault (op_of octets))
    → IfErr result (λ fault. IsFault fault octets)
gave_fault result octets h g wants = grind (arith, failed)
