-- There is one cut, so octets that are refused have one fault, and reading finds it.
use Rattle.base_grammar.proofs.Prelude.{◌≡◌, ℕ, ◌+◌, ◌<◌, ◌≤◌, Bool, true, cond, ltb, List, [], ◌∷◌, ◌++◌, length, take, Option, Some, None, Result, Ok, Err, refl, sym, ap, subst, ◌∙◌, append_assoc, arith, add-zero, zero-add, IfErr, IsOk, concat, lt-ltb, ltb-true, ltb-false, le-ltb, length-append, take_at, append_cancel_left, same_Some, bad_of, BaseFault, IsOctets, Endpoint, stands_in, BaseIs, run_fault, Answers, told, Row, presentation_delay, num_subgroups, num_bis, codec_id, config_length, config, metadata_length, metadata, bis_index, bis_config_length, bis_config, nothing, Due, first_due, width, number_of, row_fault, next_due, Meets, field_fault, ending_fault, cut_fault, AtCut, IsFault}
use Rattle.base_grammar.specs.declared.fault.BaseFault.TheVariants as faults
use Rattle.base_grammar.specs.Reading.{fields_of, base_of}
use Rattle.base_grammar.specs.Faults.{due_behind, AllMeet, IsBad}
use Rattle.base_grammar.proofs.Again.{base_takes}
use Rattle.base_grammar.proofs.Walk.{At, due_cut}
use Rattle.base_grammar.proofs.Cuts.{Ends, fields_end}

-- what stands behind some fields is this fault, or none and nothing is due
record Halts (place : ℕ) (due : Due) (rest : List ℕ) (fault : Option BaseFault) : Type 0 where
  stands : cut_fault due.row place due rest ≡ fault
  none : fault ≡ None → due.row ≡ nothing

-- a field that meets its row goes on

goes_on : (place : ℕ) (due : Due) (field after rest : List ℕ) (fault : Option BaseFault) → Meets place due field → rest ≡ field ++ after → Halts place due rest fault → ⊥
goes_on place due field after rest fault m e h =
    grind (arith, ltb, length, width, le-ltb, length-append, take, take_at, field_fault, due_cut)

-- two runs of whole fields in the same octets, behind which it halts
same_halt : (place : ℕ) (due : Due) (xs ys : List (List ℕ)) (r s : List ℕ) (f g : Option BaseFault) → AllMeet place due xs → AllMeet place due ys → concat xs ++ r ≡ concat ys ++ s
    → Halts (place + length (concat xs)) (due_behind due xs) r f → Halts (place + length (concat ys)) (due_behind due ys) s g → f ≡ g
unfolding AllMeet due_behind
same_halt place due [] [] r s f g mx my e hx hy = sym hx.stands ∙ ap (cut_fault due.row (place + 0) due) e ∙ hy.stands
same_halt place due [] (y ∷ ys) r s f g mx my e hx hy =
    absurd (goes_on place due y (concat ys ++ s) r f my.0 (e ∙ append_assoc y (concat ys) s) (subst (λ (p : ℕ). Halts p due r f) (add-zero place) hx))
same_halt place due (x ∷ xs) [] r s f g mx my e hx hy =
    absurd (goes_on place due x (concat xs ++ r) s g mx.0 (sym e ∙ append_assoc x (concat xs) r) (subst (λ (p : ℕ). Halts p due s g) (add-zero place) hy))
same_halt place due (x ∷ xs) (y ∷ ys) r s f g mx my e hx hy =
    let all : x ++ (concat xs ++ r) ≡ y ++ (concat ys ++ s) = sym (append_assoc x (concat xs) r) ∙ e ∙ append_assoc y (concat ys) s in
    let long : length y ≡ length x = my.0.whole ∙ sym mx.0.whole in
    let same : x ≡ y = sym (take_at x (concat xs ++ r) (length x) refl) ∙ ap (take (length x)) all ∙ take_at y (concat ys ++ s) (length x) long in
    let others : concat xs ++ r ≡ concat ys ++ s = append_cancel_left x (concat xs ++ r) (concat ys ++ s) (all ∙ ap (λ (z : List ℕ). z ++ (concat ys ++ s)) (sym same)) in
    let my_xs : AllMeet (place + length x) (next_due due.row due x) ys = subst (λ (z : List ℕ). AllMeet (place + length z) (next_due due.row due z) ys) (sym same) my.1 in
    let there_x : place + length (concat (x ∷ xs)) ≡ place + length x + length (concat xs) = omega (arith, length-append x (concat xs)) in
    let there_y : place + length (concat (y ∷ ys)) ≡ place + length x + length (concat ys) = omega (arith, length-append y (concat ys), long) in
    let hx' : Halts (place + length x + length (concat xs)) (due_behind (next_due due.row due x) xs) r f = subst (λ (p : ℕ). Halts p (due_behind (next_due due.row due x) xs) r f) there_x hx in
    let hy' : Halts (place + length x + length (concat ys)) (due_behind (next_due due.row due x) ys) s g = grind (arith, next_due, length, concat) in
    same_halt (place + length x) (next_due due.row due x) xs ys r s f g mx.1 my_xs others hx' hy'

cut_halts : (whole : List ℕ) (fault : BaseFault) (c : AtCut fault whole) → Halts (0 + length (concat c.fields)) (due_behind first_due c.fields) c.rest (Some fault)
cut_halts whole fault c = grind (arith, cut_fault, first_due, zero-add, length, concat)

end_halts : (whole : List ℕ) (due : Due) (a : At whole due []) → due.row ≡ nothing → Halts (0 + length (concat a.fields)) (due_behind first_due a.fields) [] None
end_halts whole due a e = grind (arith, first_due, nothing, length, concat)

-- the fault at a cut is the one that reading gives
cut_read : {A : Type 0} (whole : List ℕ) (fault : BaseFault) (read : Result A BaseFault) → AtCut fault whole → Ends whole read → read ≡ Err fault
cut_read whole fault (Ok v) c e = grind (arith, same_halt 0 first_due c.fields e.2.fields c.rest [] (Some fault) None c.meet e.2.meet (sym c.parts ∙ e.2.parts) (cut_halts whole fault c) (end_halts whole e.0 e.2 e.1))
cut_read whole fault (Err other) c e =
    let same : Some fault ≡ Some other =
    same_halt 0 first_due c.fields e.fields c.rest e.rest (Some fault) (Some other) c.meet e.meet (sym c.parts ∙ e.parts) (cut_halts whole fault c) (cut_halts whole other e) in
    ap (λ (f : BaseFault). Err f) (sym (same_Some fault other same))

-- ---- which faults stand at a cut

abbrev StandsThere : BaseFault → Type 0
StandsThere faults.TooLong = ⊥
StandsThere faults.Memory = ⊥
StandsThere fault = Unit {0}

given : (fault other : BaseFault) → StandsThere fault → Some fault ≡ Some other → StandsThere other
given fault other h e = subst StandsThere (same_Some fault other e) h

tested : (b : Bool) (fault : BaseFault) (others : Option BaseFault) (other : BaseFault) → StandsThere fault → (others ≡ Some other → StandsThere other)
    → cond b (Some fault) others ≡ Some other → StandsThere other
tested b fault others other h g e = grind (arith, given)

no_more : (other : BaseFault) → (let o : Option BaseFault = None in o ≡ Some other) → StandsThere other
no_more other e = absurd cc

run_stands : (place : ℕ) (is_list : Bool) (octets : List ℕ) (other : BaseFault) → run_fault place is_list octets ≡ Some other → StandsThere other
run_stands place is_list octets other e = grind (arith, given, bad_of)

row_stands : (row : Row) (place : ℕ) (due : Due) (field : List ℕ) (other : BaseFault) → row_fault row place due field ≡ Some other → StandsThere other
row_stands presentation_delay place due field other e = absurd cc
row_stands num_subgroups place due field other e = tested _ faults.NoSubgroup None other tt (no_more other) e
row_stands num_bis place due field other e = tested _ (faults.NoBis place) None other tt (no_more other) e
row_stands codec_id place due field other e = absurd cc
row_stands config_length place due field other e = absurd cc
row_stands (config count) place due field other e = run_stands place due.is_lc3 field other e
row_stands metadata_length place due field other e = absurd cc
row_stands (metadata count) place due field other e = run_stands place true field other e
row_stands bis_index place due field other e =
    tested _ (faults.BadIndex place) (cond (ltb 31 (number_of field)) (Some (faults.BadIndex place)) (cond (stands_in due.before (number_of field)) (Some (faults.IndexTwice place)) None)) other tt
    (tested _ (faults.BadIndex place) (cond (stands_in due.before (number_of field)) (Some (faults.IndexTwice place)) None) other tt
    (tested _ (faults.IndexTwice place) None other tt (no_more other))) e
row_stands bis_config_length place due field other e = absurd cc
row_stands (bis_config count) place due field other e = run_stands place due.is_lc3 field other e
row_stands nothing place due field other e = absurd cc

field_stands : (row : Row) (place : ℕ) (due : Due) (rest : List ℕ) (other : BaseFault) → field_fault row place due rest ≡ Some other → StandsThere other
field_stands row place due rest other e = tested _ (faults.Short place) (row_fault row place due (take (width row) rest)) other tt (row_stands row place due (take (width row) rest) other) e

end_stands : (place : ℕ) (rest : List ℕ) (other : BaseFault) → ending_fault place rest ≡ Some other → StandsThere other
end_stands place rest other e = grind (arith, given)

cut_stands : (row : Row) (place : ℕ) (due : Due) (rest : List ℕ) (other : BaseFault) → cut_fault row place due rest ≡ Some other → StandsThere other
cut_stands nothing place due rest other e = end_stands place rest other e
cut_stands presentation_delay place due rest other e = field_stands presentation_delay place due rest other e
cut_stands num_subgroups place due rest other e = field_stands num_subgroups place due rest other e
cut_stands num_bis place due rest other e = field_stands num_bis place due rest other e
cut_stands codec_id place due rest other e = field_stands codec_id place due rest other e
cut_stands config_length place due rest other e = field_stands config_length place due rest other e
cut_stands (config count) place due rest other e = field_stands (config count) place due rest other e
cut_stands metadata_length place due rest other e = field_stands metadata_length place due rest other e
cut_stands (metadata count) place due rest other e = field_stands (metadata count) place due rest other e
cut_stands bis_index place due rest other e = field_stands bis_index place due rest other e
cut_stands bis_config_length place due rest other e = field_stands bis_config_length place due rest other e
cut_stands (bis_config count) place due rest other e = field_stands (bis_config count) place due rest other e

is_bad : (fault : BaseFault) (octets : List ℕ) → StandsThere fault → length octets ≤ 252 → AtCut fault octets → IsBad fault octets
is_bad fault octets h short c = grind arith

-- ---- both ways

err_is : (a b : BaseFault) → (let r : BaseFault → Result Endpoint BaseFault = λ x. Err x in r a ≡ r b) → a ≡ b
err_is a b e = cc

bad_end : (octets : List ℕ) (fault : BaseFault) (read : Result Endpoint BaseFault) → length octets ≤ 252 → Ends octets read → read ≡ Err fault → IsBad fault octets
bad_end octets fault read short ends e = grind (arith, err_is, is_bad, cut_stands, first_due, length, concat)

pub read_bad : (fault : BaseFault) (octets : List ℕ) → base_of octets ≡ Err fault → IsBad fault octets
unfolding base_of
read_bad fault octets e = grind (arith, err_is, ltb-true, bad_end, ltb-false, ltb, length, fields_end)

cut_of : (fault : BaseFault) (octets : List ℕ) → length octets ≤ 252 → AtCut fault octets → base_of octets ≡ Err fault
unfolding base_of
cut_of fault octets short c = rw (le-ltb 252 (length octets) short) (cut_read octets fault (fields_of octets) c (fields_end octets))

too_long_read : (octets : List ℕ) → 252 < length octets → base_of octets ≡ Err faults.TooLong
unfolding base_of
too_long_read octets h = rw (lt-ltb 252 (length octets) h) refl

pub bad_read : (fault : BaseFault) (octets : List ℕ) → IsBad fault octets → base_of octets ≡ Err fault
bad_read faults.TooLong octets h = too_long_read octets h
bad_read faults.Memory octets h = absurd h
bad_read (faults.Short place) octets h = cut_of (faults.Short place) octets h.0 h.1
bad_read faults.NoSubgroup octets h = cut_of faults.NoSubgroup octets h.0 h.1
bad_read (faults.NoBis place) octets h = cut_of (faults.NoBis place) octets h.0 h.1
bad_read (faults.BadIndex place) octets h = cut_of (faults.BadIndex place) octets h.0 h.1
bad_read (faults.IndexTwice place) octets h = cut_of (faults.IndexTwice place) octets h.0 h.1
bad_read (faults.Ltv place bad) octets h = cut_of (faults.Ltv place bad) octets h.0 h.1
bad_read (faults.Trailing place) octets h = cut_of (faults.Trailing place) octets h.0 h.1

-- ---- what the decoder promises

a_base : (octets : List ℕ) (read : Result Endpoint BaseFault) → IsOctets octets → base_of octets ≡ read → IsOk read → (v : Endpoint) × BaseIs v octets
a_base octets (Ok v) fits e ok = (v, base_takes octets v fits e)
a_base octets (Err fault) fits e ok = absurd cc

pub found_fault : (octets : List ℕ) (result : Result Endpoint BaseFault) → IsOctets octets → Answers told result (base_of octets) → IfErr result (λ fault. IsFault fault octets)
found_fault octets (Err faults.Memory) fits h = a_base octets (base_of octets) fits refl h
found_fault octets result fits h = search (a_base, read_bad)
