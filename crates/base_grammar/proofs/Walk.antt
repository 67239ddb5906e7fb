-- Fields that were taken, and what reading the next ones comes to.
use Rattle.base_grammar.proofs.Prelude.{◌≡◌, ℕ, ◌+◌, ◌<◌, ◌⊎◌, Bool, ltb, List, [], ◌∷◌, ◌++◌, length, take, drop, Option, Some, None, Result, Ok, Err, refl, sym, ap, subst, ◌∙◌, append_assoc, arith, inl, inr, add-zero, zero-add, concat, cases_lt, lt-ltb, le-ltb, append-nil, length-append, length-take, take-append-drop, take_at, concat-append, octet_in, octets_in, number_in, place_in, BaseFault, Short, Row, presentation_delay, num_subgroups, num_bis, codec_id, config_length, config, metadata_length, metadata, bis_index, bis_config_length, bis_config, nothing, Due, first_due, width, row_fault, next_due, IsDue, Meets, field_fault, cut_fault, AtCut, run_fault, ◌>>=◌, field_at, unless}
use Rattle.bcast_base.specs.Numbers.{sum_from}
use Rattle.base_grammar.specs.Faults.{due_behind, AllMeet}
use Rattle.base_grammar.specs.Reading.{run_at}

-- ---- one field more

due_behind-more : (due : Due) (fields : List (List ℕ)) (field : List ℕ) → due_behind due (fields ++ field ∷ []) ≡ next_due (due_behind due fields).row (due_behind due fields) field
unfolding due_behind
due_behind-more due [] field = refl
due_behind-more due (first ∷ fields) field = due_behind-more (next_due due.row due first) fields field

AllMeet-more : (place : ℕ) (due : Due) (fields : List (List ℕ)) (field : List ℕ) → AllMeet place due fields → Meets (place + length (concat fields)) (due_behind due fields) field
    → AllMeet place due (fields ++ field ∷ [])
unfolding due_behind AllMeet
AllMeet-more place due [] field h m = (subst (λ (p : ℕ). Meets p due field) (add-zero place) m, tt)
AllMeet-more place due (first ∷ fields) field h m =
    let there : place + length (concat (first ∷ fields)) ≡ place + length first + length (concat fields) = omega (arith, length-append first (concat fields)) in
    (h.0, AllMeet-more (place + length first) (next_due due.row due first) fields field h.1 (subst (λ (p : ℕ). Meets p (due_behind (next_due due.row due first) fields) field) there m))

concat-more : (fields : List (List ℕ)) (field : List ℕ) → concat (fields ++ field ∷ []) ≡ concat fields ++ field
concat-more fields field = concat-append fields (field ∷ []) ∙ ap (λ (x : List ℕ). concat fields ++ x) (append-nil field)

-- ---- where reading stands

-- whole fields stand before the rest, and this is due
pub record At (whole : List ℕ) (due : Due) (rest : List ℕ) : Type 0 where
  pub fields : List (List ℕ)
  pub meet : AllMeet 0 first_due fields
  pub parts : whole ≡ concat fields ++ rest
  pub is : due_behind first_due fields ≡ due

pub at_first : (whole : List ℕ) → At whole first_due whole
unfolding due_behind AllMeet
at_first whole = record { fields = []; meet = tt; parts = refl; is = refl }

place_there : (whole prefix rest : List ℕ) → whole ≡ prefix ++ rest → place_in whole rest ≡ length prefix
place_there whole prefix rest e = omega (arith, ap length e, length-append prefix rest)

-- a field that meets its row
pub at_next : (whole : List ℕ) (due : Due) (rest field after : List ℕ) → At whole due rest → IsDue due.row → rest ≡ field ++ after → length field ≡ width due.row
    → row_fault due.row (place_in whole rest) due field ≡ None → At whole (next_due due.row due field) after
at_next whole due rest field after a is_due e long sound =
    let there = place_there whole (concat a.fields) rest a.parts in
    let here : Meets (length (concat a.fields)) (due_behind first_due a.fields) field =
    subst (λ (d : Due). Meets (length (concat a.fields)) d field) (sym a.is) (record { is_due = is_due; whole = long; sound = subst (λ (p : ℕ). row_fault due.row p due field ≡ None) there sound }) in
    let meets : Meets (0 + length (concat a.fields)) (due_behind first_due a.fields) field =
    subst (λ (p : ℕ). Meets p (due_behind first_due a.fields) field) (sym (zero-add (length (concat a.fields)))) here in
    record {
      fields = a.fields ++ field ∷ [];
      meet = AllMeet-more 0 first_due a.fields field a.meet meets;
      parts = a.parts ∙ ap (λ (x : List ℕ). concat a.fields ++ x) e ∙ sym (append_assoc (concat a.fields) field after) ∙ ap (λ (x : List ℕ). x ++ after) (sym (concat-more a.fields field));
      is = due_behind-more first_due a.fields field ∙ ap (λ (d : Due). next_due d.row d field) a.is;
    }

pub at_stop : (whole : List ℕ) (due : Due) (rest : List ℕ) (fault : BaseFault) → At whole due rest → cut_fault due.row (place_in whole rest) due rest ≡ Some fault → AtCut fault whole
at_stop whole due rest fault a e = grind (arith, place_there, concat, cut_fault, length)

pub due_cut : (row : Row) (place : ℕ) (due : Due) (rest : List ℕ) → IsDue row → cut_fault row place due rest ≡ field_fault row place due rest
due_cut presentation_delay place due rest h = refl
due_cut num_subgroups place due rest h = refl
due_cut num_bis place due rest h = refl
due_cut codec_id place due rest h = refl
due_cut config_length place due rest h = refl
due_cut (config count) place due rest h = refl
due_cut metadata_length place due rest h = refl
due_cut (metadata count) place due rest h = refl
due_cut bis_index place due rest h = refl
due_cut bis_config_length place due rest h = refl
due_cut (bis_config count) place due rest h = refl
due_cut nothing place due rest h = absurd h

pub stop_short : (whole : List ℕ) (due : Due) (rest : List ℕ) → At whole due rest → IsDue due.row → length rest < width due.row → AtCut (Short (place_in whole rest)) whole
stop_short whole due rest a is_due lt =
    at_stop whole due rest (Short (place_in whole rest)) a (due_cut due.row (place_in whole rest) due rest is_due ∙ rw (lt-ltb (length rest) (width due.row) lt) refl)

pub stop_field : (whole : List ℕ) (due : Due) (rest field after : List ℕ) (fault : BaseFault) → At whole due rest → IsDue due.row → rest ≡ field ++ after → length field ≡ width due.row
    → row_fault due.row (place_in whole rest) due field ≡ Some fault → AtCut fault whole
stop_field whole due rest field after fault a is_due e long wrong =
    grind (arith, ltb, length, width, le-ltb, length-append, take, take_at, at_stop, due_cut, place_in)

-- ---- what reading comes to

-- it read something, behind which this is due, or it stopped at the cut
abbrev pub Comes : {A : Type 0} → List ℕ → (A → Due) → Result (A × List ℕ) BaseFault → Type 0
Comes whole due (Ok x) = At whole (due x.0) x.1
Comes whole due (Err fault) = AtCut fault whole

pub comes_then : {A B : Type 0} (whole : List ℕ) (due : A → Due) (then_due : B → Due) (read : Result (A × List ℕ) BaseFault) (others : A × List ℕ → Result (B × List ℕ) BaseFault)
    → Comes whole due read → ((x : A × List ℕ) → read ≡ Ok x → At whole (due x.0) x.1 → Comes whole then_due (others x)) → Comes whole then_due (read >>= others)
comes_then whole due then_due read others c f = grind arith

ruled : {A : Type 0} (whole : List ℕ) (due : A → Due) (fault : Option BaseFault) (x : A × List ℕ) → (fault ≡ None → At whole (due x.0) x.1)
    → ((f : BaseFault) → fault ≡ Some f → AtCut f whole) → Comes whole due (unless fault x)
ruled whole due fault x ok err = grind arith

-- one octet
pub octet_comes : (whole : List ℕ) (due : Due) (rest : List ℕ) → At whole due rest → IsDue due.row → width due.row ≡ 1 → ((x : ℕ) → row_fault due.row (place_in whole rest) due (x ∷ []) ≡ None)
    → Comes whole (λ x. next_due due.row due (x ∷ [])) (field_at whole rest (octet_in rest))
octet_comes whole due [] a is_due one sound = stop_short whole due [] a is_due (omega (arith, one))
octet_comes whole due (x ∷ rest) a is_due one sound = at_next whole due (x ∷ rest) (x ∷ []) rest a is_due refl (sym one) (sound x)

-- one octet under a rule
pub ruled_octet_comes : (whole : List ℕ) (due : Due) (rest : List ℕ) (rule : ℕ → Option BaseFault) → At whole due rest → IsDue due.row → width due.row ≡ 1
    → ((x : ℕ) → row_fault due.row (place_in whole rest) due (x ∷ []) ≡ rule x)
    → Comes whole (λ x. next_due due.row due (x ∷ [])) (field_at whole rest (octet_in rest) >>= λ x. unless (rule x.0) x)
ruled_octet_comes whole due [] rule a is_due one same = stop_short whole due [] a is_due (omega (arith, one))
ruled_octet_comes whole due (x ∷ rest) rule a is_due one same =
    ruled whole (λ y. next_due due.row due (y ∷ [])) (rule x) (x, rest)
    (λ e. at_next whole due (x ∷ rest) (x ∷ []) rest a is_due refl (sym one) (same x ∙ e))
    (λ f e. stop_field whole due (x ∷ rest) (x ∷ []) rest f a is_due refl (sym one) (same x ∙ e))

octets_cases : (k : ℕ) (from : List ℕ) → ((length from < k) × (octets_in k from ≡ None))
    ⊎ ((value : List ℕ) × (rest : List ℕ) × (from ≡ value ++ rest) × (length value ≡ k) × (octets_in k from ≡ Some (value, rest)))
octets_cases k from = grind (arith, cases_lt, length, lt-ltb, take, drop, take-append-drop, length-take, le-ltb)

-- octets under a rule
pub ruled_octets_come : (whole : List ℕ) (due : Due) (k : ℕ) (rest : List ℕ) (rule : List ℕ → Option BaseFault) → At whole due rest → IsDue due.row → width due.row ≡ k
    → ((field : List ℕ) → row_fault due.row (place_in whole rest) due field ≡ rule field)
    → Comes whole (λ field. next_due due.row due field) (field_at whole rest (octets_in k rest) >>= λ x. unless (rule x.0) x)
ruled_octets_come whole due k rest rule a is_due long same =
    elim (octets_cases k rest) [
      | inl (lt, none) ↦ rw none (stop_short whole due rest a is_due (omega (arith, lt, long)))
      | inr (field, after, parts, len, some) ↦
          rw some (ruled whole (λ x. next_due due.row due x) (rule field) (field, after)
          (λ e. at_next whole due rest field after a is_due parts (len ∙ sym long) (same field ∙ e))
          (λ f e. stop_field whole due rest field after f a is_due parts (len ∙ sym long) (same field ∙ e)))
    ]

pub octets_come : (whole : List ℕ) (due : Due) (k : ℕ) (rest : List ℕ) → At whole due rest → IsDue due.row → width due.row ≡ k
    → ((field : List ℕ) → row_fault due.row (place_in whole rest) due field ≡ None)
    → Comes whole (λ field. next_due due.row due field) (field_at whole rest (octets_in k rest))
octets_come whole due k rest a is_due long sound =
    elim (octets_cases k rest) [
      | inl (lt, none) ↦ rw none (stop_short whole due rest a is_due (omega (arith, lt, long)))
      | inr (field, after, parts, len, some) ↦ rw some (at_next whole due rest field after a is_due parts (len ∙ sym long) (sound field))
    ]

-- the same, with the due written otherwise
pub comes_same : {A : Type 0} (whole : List ℕ) (due other : A → Due) (read : Result (A × List ℕ) BaseFault) → ((x : A) → due x ≡ other x) → Comes whole due read → Comes whole other read
comes_same whole due other read same c = grind arith

-- octets behind one that counts them: two rows, one for the count and one for what it counts
pub record RunRows (due : Due) (middle : ℕ → Due) (last : Due) (is_list : Bool) : Type 0 where
  pub is_due : IsDue due.row
  pub one : width due.row ≡ 1
  pub sound : (p x : ℕ) → row_fault due.row p due (x ∷ []) ≡ None
  pub counted : (x : ℕ) → next_due due.row due (x ∷ []) ≡ middle x
  pub run_due : (x : ℕ) → IsDue (middle x).row
  pub long : (x : ℕ) → width (middle x).row ≡ x
  pub rule : (x p : ℕ) (field : List ℕ) → row_fault (middle x).row p (middle x) field ≡ run_fault p is_list field
  pub behind : (x : ℕ) (field : List ℕ) → next_due (middle x).row (middle x) field ≡ last

pub run_comes : (whole : List ℕ) (due : Due) (middle : ℕ → Due) (last : Due) (is_list : Bool) (rest : List ℕ) → RunRows due middle last is_list → At whole due rest
    → Comes whole (λ _. last) (run_at whole is_list rest)
unfolding run_at
run_comes whole due middle last is_list rest r a =
    comes_then whole (λ x. next_due due.row due (x ∷ [])) (λ _. last) (field_at whole rest (octet_in rest)) _
    (octet_comes whole due rest a r.is_due r.one (r.sound (place_in whole rest))) (λ count _ a1.
    comes_same whole (λ field. next_due (middle count.0).row (middle count.0) field) (λ _. last)
    (field_at whole count.1 (octets_in count.0 count.1) >>= λ run. unless (run_fault (place_in whole count.1) is_list run.0) run) (r.behind count.0)
    (ruled_octets_come whole (middle count.0) count.0 count.1 (run_fault (place_in whole count.1) is_list)
    (subst (λ (d : Due). At whole d count.1) (r.counted count.0) a1) (r.run_due count.0) (r.long count.0) (r.rule count.0 (place_in whole count.1))))

number_cases : (k : ℕ) (from : List ℕ) → ((length from < k) × (number_in k from ≡ None))
    ⊎ ((field : List ℕ) × (value : ℕ) × (rest : List ℕ) × (from ≡ field ++ rest) × (length field ≡ k) × (number_in k from ≡ Some (value, rest)))
number_cases k from =
    elim (cases_lt (length from) k) [
      | inl lt ↦ inl (lt, rw (lt-ltb (length from) k lt) refl)
      | inr le ↦ inr (take k from, sum_from 0 (take k from), drop k from, sym (take-append-drop k from), omega (arith, length-take k from, le), rw (le-ltb (length from) k le) refl)
    ]

-- a number, behind which the same is due whatever it is
pub number_comes : (whole : List ℕ) (due last : Due) (k : ℕ) (rest : List ℕ) → At whole due rest → IsDue due.row → width due.row ≡ k
    → ((field : List ℕ) → row_fault due.row (place_in whole rest) due field ≡ None) → ((field : List ℕ) → next_due due.row due field ≡ last)
    → Comes whole (λ _. last) (field_at whole rest (number_in k rest))
number_comes whole due last k rest a is_due long sound same =
    elim (number_cases k rest) [
      | inl (lt, none) ↦ rw none (stop_short whole due rest a is_due (omega (arith, lt, long)))
      | inr (field, value, after, parts, len, some) ↦
          rw some (subst (λ (d : Due). At whole d after) (same field) (at_next whole due rest field after a is_due parts (len ∙ sym long) (sound field)))
    ]
