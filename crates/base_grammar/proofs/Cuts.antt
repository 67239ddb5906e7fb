-- Reading a BASE takes whole fields that meet their rows, and stops at the cut.
use Rattle.base_grammar.proofs.Prelude.{◌≡◌, ℕ, zero, suc, ◌-◌, ◌≤◌, Bool, true, false, List, [], ◌∷◌, ◌++◌, map, Result, Ok, Err, refl, subst, append_assoc, arith, octets_in, number_in, place_in, BaseFault, Trailing, BaseEntry, Subgroup, endpoint, is_lc3, bis_of, subgroups_fault, streams_fault, index_fault, ◌>>=◌, field_at, ended, Row, num_subgroups, num_bis, codec_id, config_length, config, metadata_length, metadata, bis_index, bis_config_length, bis_config, nothing, Due, first_due, behind_entry, behind_subgroup, AtCut}
use Rattle.base_grammar.specs.Reading.{run_at, index_at, entry_at, entries_at, streams_at, subgroup_at, subgroups_at, count_at, fields_of}
use Rattle.base_grammar.proofs.Taken.{streams_take, count_takes}
use Rattle.base_grammar.proofs.Walk.{At, at_first, at_stop, Comes, comes_then, ruled_octet_comes, octets_come, run_comes, number_comes}

abbrev due_at : Row → Bool → ℕ → ℕ → List ℕ → Due
due_at row is_list streams subgroups before = record { row = row; is_lc3 = is_list; streams = streams; subgroups = subgroups; before = before }

behind_entry_row : (row other : Row) (is_list : Bool) (streams subgroups left : ℕ) (before : List ℕ)
    → behind_entry left (due_at row is_list streams subgroups before) ≡ behind_entry left (due_at other is_list streams subgroups before)
behind_entry_row row other is_list streams subgroups left before = grind arith

-- ---- entries

abbrev entered : Bool → ℕ → ℕ → List ℕ → Due
entered is_list streams subgroups before = behind_entry streams (due_at bis_config_length is_list streams subgroups before)

entry_comes : (whole : List ℕ) (is_list : Bool) (streams subgroups : ℕ) (before rest : List ℕ) → At whole (due_at bis_index is_list streams subgroups before) rest
    → Comes whole (λ (e : BaseEntry). entered is_list streams subgroups (before ++ e.bis ∷ [])) (entry_at whole is_list before rest)
unfolding entry_at index_at
entry_comes whole is_list streams subgroups before rest a =
    comes_then whole (λ bis. due_at bis_config_length is_list streams subgroups (before ++ bis ∷ [])) (λ (e : BaseEntry). entered is_list streams subgroups (before ++ e.bis ∷ []))
    (index_at whole before rest) _
    (ruled_octet_comes whole (due_at bis_index is_list streams subgroups before) rest (index_fault (place_in whole rest) before) a tt refl (λ x. refl))
    (λ bis _ a1.
    comes_then whole (λ (_ : List ℕ). entered is_list streams subgroups (before ++ bis.0 ∷ [])) (λ (e : BaseEntry). entered is_list streams subgroups (before ++ e.bis ∷ []))
    (run_at whole is_list bis.1) _
    (run_comes whole (due_at bis_config_length is_list streams subgroups (before ++ bis.0 ∷ [])) (λ x. due_at (bis_config x) is_list streams subgroups (before ++ bis.0 ∷ []))
    (entered is_list streams subgroups (before ++ bis.0 ∷ [])) is_list bis.1
    (grind (arith, behind_entry_row, bis_config, bis_config_length)) a1) (λ config _ a2. a2))

abbrev grouped : Bool → ℕ → List ℕ → Due
grouped is_list subgroups before = behind_subgroup subgroups (due_at bis_config_length is_list 1 subgroups before)

entries_come : (whole : List ℕ) (is_list : Bool) (n subgroups : ℕ) (before rest : List ℕ) → At whole (due_at bis_index is_list (suc n) subgroups before) rest
    → Comes whole (λ (es : List BaseEntry). grouped is_list subgroups (before ++ map bis_of es)) (entries_at whole is_list before (suc n) rest)
unfolding entries_at
entries_come whole is_list zero subgroups before rest a =
    comes_then whole (λ (e : BaseEntry). entered is_list 1 subgroups (before ++ e.bis ∷ [])) (λ (es : List BaseEntry). grouped is_list subgroups (before ++ map bis_of es))
    (entry_at whole is_list before rest) _ (entry_comes whole is_list 1 subgroups before rest a) (λ first _ a1. a1)
entries_come whole is_list (suc n) subgroups before rest a =
    comes_then whole (λ (e : BaseEntry). entered is_list (suc (suc n)) subgroups (before ++ e.bis ∷ [])) (λ (es : List BaseEntry). grouped is_list subgroups (before ++ map bis_of es))
    (entry_at whole is_list before rest) _ (entry_comes whole is_list (suc (suc n)) subgroups before rest a) (λ first _ a1.
    comes_then whole (λ (es : List BaseEntry). grouped is_list subgroups ((before ++ first.0.bis ∷ []) ++ map bis_of es)) (λ (es : List BaseEntry). grouped is_list subgroups (before ++ map bis_of es))
    (entries_at whole is_list (before ++ first.0.bis ∷ []) (suc n) first.1) _ (entries_come whole is_list n subgroups (before ++ first.0.bis ∷ []) first.1 a1)
    (λ others _ a2. subst (λ (bs : List ℕ). At whole (grouped is_list subgroups bs) others.1) (append_assoc before (first.0.bis ∷ []) (map bis_of others.0)) a2))

-- ---- subgroups

abbrev subgrouped : ℕ → List ℕ → Subgroup → Due
subgrouped subgroups before s = grouped (is_lc3 s.codec) subgroups (before ++ map bis_of s.entries)

more_than : (n : ℕ) → 1 ≤ n → n ≡ suc (n - 1)
more_than n h = omega arith

subgroup_comes : (whole : List ℕ) (is_list : Bool) (streams subgroups : ℕ) (before rest : List ℕ) → At whole (due_at num_bis is_list streams subgroups before) rest
    → Comes whole (subgrouped subgroups before) (subgroup_at whole before rest)
unfolding subgroup_at streams_at
subgroup_comes whole is_list streams subgroups before rest a =
    comes_then whole (λ n. due_at codec_id is_list n subgroups before) (subgrouped subgroups before) (streams_at whole rest) _
    (ruled_octet_comes whole (due_at num_bis is_list streams subgroups before) rest (streams_fault (place_in whole rest)) a tt refl (λ x. refl))
    (λ count read a1.
    comes_then whole (λ codec. due_at config_length (is_lc3 codec) count.0 subgroups before) (subgrouped subgroups before) (field_at whole count.1 (octets_in 5 count.1)) _
    (octets_come whole (due_at codec_id is_list count.0 subgroups before) 5 count.1 a1 tt refl (λ field. refl)) (λ codec _ a2.
    comes_then whole (λ (_ : List ℕ). due_at metadata_length (is_lc3 codec.0) count.0 subgroups before) (subgrouped subgroups before) (run_at whole (is_lc3 codec.0) codec.1) _
    (run_comes whole (due_at config_length (is_lc3 codec.0) count.0 subgroups before) (λ x. due_at (config x) (is_lc3 codec.0) count.0 subgroups before)
    (due_at metadata_length (is_lc3 codec.0) count.0 subgroups before) (is_lc3 codec.0) codec.1
    (record { is_due = tt; one = refl; sound = λ p x. refl; counted = λ x. refl; run_due = λ x. tt; long = λ x. refl; rule = λ x p field. refl; behind = λ x field. refl }) a2)
    (λ level2 _ a3.
    comes_then whole (λ (_ : List ℕ). due_at bis_index (is_lc3 codec.0) count.0 subgroups before) (subgrouped subgroups before) (run_at whole true level2.1) _
    (run_comes whole (due_at metadata_length (is_lc3 codec.0) count.0 subgroups before) (λ x. due_at (metadata x) (is_lc3 codec.0) count.0 subgroups before)
    (due_at bis_index (is_lc3 codec.0) count.0 subgroups before) true level2.1
    (record { is_due = tt; one = refl; sound = λ p x. refl; counted = λ x. refl; run_due = λ x. tt; long = λ x. refl; rule = λ x p field. refl; behind = λ x field. refl }) a3)
    (λ told _ a4.
    let n : count.0 ≡ suc (count.0 - 1) = more_than count.0 (streams_take whole rest count.0 count.1 read).1 in
    comes_then whole (λ (es : List BaseEntry). grouped (is_lc3 codec.0) subgroups (before ++ map bis_of es)) (subgrouped subgroups before) (entries_at whole (is_lc3 codec.0) before count.0 told.1) _
    (grind (arith, is_lc3, map, bis_of, entries_come, bis_index)) (λ entries _ a5. a5)))))

-- all of them were read, and nothing is due, or reading stopped at the cut
abbrev pub Finishes : {A : Type 0} → List ℕ → Result (A × List ℕ) BaseFault → Type 0
Finishes whole (Ok x) = (due : Due) × (due.row ≡ nothing) × At whole due x.1
Finishes whole (Err fault) = AtCut fault whole

finishes_then : {A B : Type 0} (whole : List ℕ) (due : A → Due) (read : Result (A × List ℕ) BaseFault) (others : A × List ℕ → Result (B × List ℕ) BaseFault)
    → Comes whole due read → ((x : A × List ℕ) → At whole (due x.0) x.1 → Finishes whole (others x)) → Finishes whole (read >>= others)
finishes_then whole due read others c f = grind arith

finishes_more : {A B : Type 0} (whole : List ℕ) (read : Result (A × List ℕ) BaseFault) (others : A → B) → Finishes whole read → Finishes whole (read >>= λ x. Ok (others x.0, x.1))
finishes_more whole read others f = grind arith

subgroups_finish : (whole : List ℕ) (is_list : Bool) (streams n : ℕ) (before rest : List ℕ) → At whole (due_at num_bis is_list streams (suc n) before) rest
    → Finishes whole (subgroups_at whole before (suc n) rest)
unfolding subgroups_at
subgroups_finish whole is_list streams zero before rest a =
    finishes_then whole (subgrouped 1 before) (subgroup_at whole before rest)
    (λ first. subgroups_at whole (before ++ map bis_of first.0.entries) zero first.1 >>= λ others. Ok (first.0 ∷ others.0, others.1))
    (subgroup_comes whole is_list streams 1 before rest a) (λ first a1. (subgrouped 1 before first.0, refl, a1))
subgroups_finish whole is_list streams (suc n) before rest a =
    finishes_then whole (subgrouped (suc (suc n)) before) (subgroup_at whole before rest)
    (λ first. subgroups_at whole (before ++ map bis_of first.0.entries) (suc n) first.1 >>= λ others. Ok (first.0 ∷ others.0, others.1))
    (subgroup_comes whole is_list streams (suc (suc n)) before rest a) (λ first a1.
    finishes_more whole (subgroups_at whole (before ++ map bis_of first.0.entries) (suc n) first.1) (λ (ss : List Subgroup). first.0 ∷ ss)
    (subgroups_finish whole (is_lc3 first.0.codec) 1 n (before ++ map bis_of first.0.entries) first.1 a1))

-- ---- the BASE

-- all octets were read, and nothing is due, or reading stopped at the cut
abbrev pub Ends : {A : Type 0} → List ℕ → Result A BaseFault → Type 0
Ends whole (Ok v) = (due : Due) × (due.row ≡ nothing) × At whole due []
Ends whole (Err fault) = AtCut fault whole

ends_then : {A B : Type 0} (whole : List ℕ) (due : A → Due) (read : Result (A × List ℕ) BaseFault) (others : A × List ℕ → Result B BaseFault)
    → Comes whole due read → ((x : A × List ℕ) → read ≡ Ok x → At whole (due x.0) x.1 → Ends whole (others x)) → Ends whole (read >>= others)
ends_then whole due read others c f = grind arith

trailing : {A : Type 0} (whole : List ℕ) (row : Row) (is_list : Bool) (streams subgroups : ℕ) (before rest : List ℕ) (v : A) → row ≡ nothing
    → At whole (due_at row is_list streams subgroups before) rest → Ends whole (ended whole rest v)
trailing whole row is_list streams subgroups before [] v e a = (due_at row is_list streams subgroups before, e, a)
trailing whole row is_list streams subgroups before (octet ∷ rest) v e a =
    at_stop whole (due_at nothing is_list streams subgroups before) (octet ∷ rest) (Trailing (place_in whole (octet ∷ rest)))
    (subst (λ (r : Row). At whole (due_at r is_list streams subgroups before) (octet ∷ rest)) e a) refl

all_ended : (whole : List ℕ) (delay : ℕ) (read : Result (List Subgroup × List ℕ) BaseFault) → Finishes whole read
    → Ends whole (read >>= λ subgroups. ended whole subgroups.1 (endpoint delay subgroups.0))
all_ended whole delay (Ok x) f = trailing whole f.0.row f.0.is_lc3 f.0.streams f.0.subgroups f.0.before x.1 (endpoint delay x.0) f.1 f.2
all_ended whole delay (Err fault) f = f

pub fields_end : (whole : List ℕ) → Ends whole (fields_of whole)
unfolding fields_of count_at
fields_end whole =
    ends_then whole (λ (_ : ℕ). due_at num_subgroups false 0 0 []) (field_at whole whole (number_in 3 whole))
    (λ delay. count_at whole delay.1 >>= λ count. subgroups_at whole [] count.0 count.1 >>= λ subgroups. ended whole subgroups.1 (endpoint delay.0 subgroups.0))
    (number_comes whole first_due (due_at num_subgroups false 0 0 []) 3 whole (at_first whole) tt refl (λ field. refl) (λ field. refl))
    (λ delay _ a1.
    ends_then whole (λ n. due_at num_bis false 0 n []) (count_at whole delay.1) (λ count. subgroups_at whole [] count.0 count.1 >>= λ subgroups. ended whole subgroups.1 (endpoint delay.0 subgroups.0))
    (ruled_octet_comes whole (due_at num_subgroups false 0 0 []) delay.1 subgroups_fault a1 tt refl (λ x. refl)) (λ count read a2.
    let n : count.0 ≡ suc (count.0 - 1) = more_than count.0 (count_takes whole delay.1 count.0 count.1 read).1 in
    all_ended whole delay.0 (subgroups_at whole [] count.0 count.1)
    (grind (arith, subgroups_finish whole false 0 (count.0 - 1) [] count.1 (subst (λ (m : ℕ). At whole (due_at num_bis false 0 m []) count.1) n a2)))))
