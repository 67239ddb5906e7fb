-- What an Add Source and a Modify Source are judged as, by the steps of reading.
use Rattle.bass_operations.proofs.Prelude.{◌≡◌, ℕ, ◌+◌, ◌<◌, ◌≤◌, Bool, cond, ltb, List, [], ◌∷◌, length, Option, Some, None, is_some, Result, Ok, Err, refl, sym, ap, subst, ◌∙◌, arith, IfOk, flat_map, reserved_from, place_in, IsOctets, subgroup_fields, reserved_in, IsOctets-rest, number-length, reserved_found, OpFault, Length, AddSource, ModifySource, Operation, Add, Modify, Wish, fields, wishes_of, judged, answered, first_fault, add_reserved, told, Finds, twice_of, WantsFor, Memory, option_or, if◌then◌else◌}
use Rattle.bass_operations.specs.Reading.{wishes_in, add_head_in, modify_head_in, add_in, modify_in}
use Rattle.bass_operations.specs.Scanning.{twice_in}
use Rattle.bass_operations.specs.Twice.{twice_from}
use Rattle.bass_operations.proofs.Heads.{add_head_takes, add_before-length, modify_head_takes, modify_before-length}
use Rattle.bass_operations.proofs.Judged.{judged_by}
use Rattle.bass_operations.proofs.Loops.{twice_found}
use Rattle.bass_operations.proofs.Encoded.{wish_fields, fields_same, groups_of_wishes, wishes_take}

-- what is judged of a head and the subgroups behind it: the first fault of both, where there are subgroups
abbrev pub behind : Option (List Wish) → Option ℕ → Option ℕ → Option OpFault
behind read place twice = if is_some read then first_fault place twice else Some Length

pub record IsJudged (judge : Result Operation OpFault) (make : List Wish → Operation) (read : Option (List Wish)) (place twice : Option ℕ) : Type 0 where
  pub short : read ≡ None → judge ≡ Err Length
  pub long : (wishes : List Wish) → read ≡ Some wishes → judge ≡ answered (make wishes) (first_fault place twice)

answered_finds : (op : Operation) (fault : Option OpFault) → Finds fault (answered op fault)
answered_finds op None = refl
answered_finds op (Some fault) = refl

pub finds : (judge : Result Operation OpFault) (make : List Wish → Operation) (read : Option (List Wish)) (place twice : Option ℕ) (fault : OpFault) → IsJudged judge make read place twice
    → behind read place twice ≡ told fault → Finds (told fault) judge
finds judge make None place twice fault is e = subst (λ f. Finds f judge) e (is.short refl)
finds judge make (Some wishes) place twice fault is e = subst (λ f. Finds f judge) e (subst (Finds (first_fault place twice)) (sym (is.long wishes refl)) (answered_finds (make wishes) (first_fault place twice)))

pub done : (judge : Result Operation OpFault) (make : List Wish → Operation) (read : Option (List Wish)) (place twice : Option ℕ) (wishes : List Wish) → IsJudged judge make read place twice
    → read ≡ Some wishes → behind read place twice ≡ None → judge ≡ Ok (make wishes)
done judge make read place twice wishes is e none =
    is.long wishes e ∙ ap (answered (make wishes)) (ap (λ r. behind r place twice) (sym e) ∙ none)

-- it has a subgroup where the number of them says so
has_subgroup : (read : Result Operation OpFault) (op : Operation) (count : ℕ) (tail : List ℕ) (wishes : List Wish) → read ≡ Ok op → wishes_of op ≡ wishes → IsOctets tail
    → wishes_in count tail ≡ Some wishes → 0 < count → IfOk read (λ op. 0 < length (wishes_of op))
has_subgroup (Ok read) op count tail wishes e of h w some =
    let same : op ≡ read = cc in
    subst (λ (o : Operation). 0 < length (wishes_of o)) same (omega (arith, ap length of, (wishes_take count tail wishes h w).counted))
has_subgroup (Err fault) op count tail wishes e of h w some = tt

-- memory is wanted for an operation that is read
pub wants : (judge : Result Operation OpFault) (make : List Wish → Operation) (count : ℕ) (tail : List ℕ) (place twice : Option ℕ) (fault : OpFault) → ((wishes : List Wish) → wishes_of (make wishes) ≡ wishes)
    → IsOctets tail → IsJudged judge make (wishes_in count tail) place twice → behind (wishes_in count tail) place twice ≡ told fault → (fault ≡ Memory → 0 < count) → WantsFor fault judge
wants judge make count tail place twice Memory of h is e more = go (wishes_in count tail) refl
  where
    go : (read : Option (List Wish)) → wishes_in count tail ≡ read → IfOk judge (λ op. 0 < length (wishes_of op))
    go None w = absurd (let none : Some Length ≡ None = ap (λ r. behind r place twice) (sym w) ∙ e in cc)
    go (Some wishes) w = has_subgroup judge (make wishes) count tail wishes (done judge make (wishes_in count tail) place twice wishes is w e) (of wishes) h w (more refl)
wants judge make count tail place twice fault of h is e more = tt

-- the fields of the wishes are the subgroups that were looked through
wishes_place : (from : List ℕ) (place count : ℕ) (tail : List ℕ) (wishes : List Wish) → IsOctets tail → length from ≡ place + length tail → wishes_in count tail ≡ Some wishes
    → reserved_from place (flat_map wish_fields wishes) ≡ reserved_in from count tail
wishes_place from place count tail wishes h len e =
    let g = groups_of_wishes count tail wishes e in
    let there : place_in from tail ≡ place = omega arith in
    let found = reserved_found from count tail (g.0, []) h (omega arith) g.1 in
    sym (grind (arith, reserved_from, flat_map, subgroup_fields, fields_same, wish_fields))

wishes_twice : (count : ℕ) (tail : List ℕ) (wishes : List Wish) → wishes_in count tail ≡ Some wishes → twice_of wishes ≡ twice_in 31 1 count tail
wishes_twice count tail wishes e =
    let g = groups_of_wishes count tail wishes e in
    sym (twice_found 31 1 count tail (g.0, []) g.1 ∙ ap (λ (ws : List Wish). twice_from 31 1 ws) g.2)

-- ---- Add Source

three : (a b c : Bool) (others : Option ℕ) → cond a (Some 1) (cond b (Some 8) (cond c (Some 12) others)) ≡ option_or (cond a (Some 1) (cond b (Some 8) (cond c (Some 12) None))) others
three a b c others = grind arith

abbrev pub added : AddSource → List Wish → Operation
added add wishes = Add (record add { wishes = wishes })

add_places : (add : AddSource) (wishes : List Wish) → length add.address ≡ 6 → length add.broadcast_id ≡ 3
    → reserved_from 0 (fields (added add wishes)) ≡ option_or (add_reserved add) (reserved_from 16 (flat_map wish_fields wishes))
add_places add wishes address id = grind (arith, number-length, three, ltb, reserved_from, flat_map, wish_fields)

pub add_no_head : (rest : List ℕ) → add_head_in rest ≡ None → judged (add_in rest) ≡ Err Length
unfolding add_in
add_no_head rest e = rw e refl

add_read : (rest : List ℕ) (add : AddSource) (count : ℕ) (tail : List ℕ) (wishes : List Wish) → add_head_in rest ≡ Some (add, count, tail) → wishes_in count tail ≡ Some wishes
    → add_in rest ≡ Some (added add wishes)
unfolding add_in
add_read rest add count tail wishes e w = rw (e, w) refl

pub add_judged : (from rest : List ℕ) (add : AddSource) (count : ℕ) (tail : List ℕ) (wishes : List Wish) → IsOctets from → from ≡ 2 ∷ rest → add_head_in rest ≡ Some (add, count, tail)
    → wishes_in count tail ≡ Some wishes
    → judged (add_in rest) ≡ answered (added add wishes) (first_fault (option_or (add_reserved add) (reserved_in from count tail)) (twice_in 31 1 count tail))
add_judged from rest add count tail wishes h parts e w =
    let t = add_head_takes rest (add, count, tail) (IsOctets-rest 2 rest (subst IsOctets parts h)) e in
    let len : length from ≡ 16 + length tail = omega (arith, ap length parts, ap length t.parts, add_before-length add count tail t.address t.broadcast_id) in
    let places = add_places add wishes t.address t.broadcast_id ∙ ap (option_or (add_reserved add)) (wishes_place from 16 count tail wishes t.octets len w) in
    let twice = wishes_twice count tail wishes w in
    ap judged (add_read rest add count tail wishes e w)
    ∙ judged_by (added add wishes) (first_fault (option_or (add_reserved add) (reserved_in from count tail)) (twice_in 31 1 count tail))
    (ap (λ (p : Option ℕ). first_fault p (twice_of wishes)) places ∙ ap (first_fault (option_or (add_reserved add) (reserved_in from count tail))) twice)

pub add_is : (from rest : List ℕ) (add : AddSource) (count : ℕ) (tail : List ℕ) → IsOctets from → from ≡ 2 ∷ rest → add_head_in rest ≡ Some (add, count, tail)
    → IsJudged (judged (add_in rest)) (added add) (wishes_in count tail) (option_or (add_reserved add) (reserved_in from count tail)) (twice_in 31 1 count tail)
unfolding add_in
add_is from rest add count tail h parts e = record { short = λ none. rw (e, none) refl; long = λ wishes w. add_judged from rest add count tail wishes h parts e w }

pub add_wants : (from rest : List ℕ) (add : AddSource) (count : ℕ) (tail : List ℕ) (fault : OpFault) → IsOctets from → from ≡ 2 ∷ rest → add_head_in rest ≡ Some (add, count, tail)
    → behind (wishes_in count tail) (option_or (add_reserved add) (reserved_in from count tail)) (twice_in 31 1 count tail) ≡ told fault → (fault ≡ Memory → 0 < count) → WantsFor fault (judged (add_in rest))
add_wants from rest add count tail fault h parts e f more =
    let t = add_head_takes rest (add, count, tail) (IsOctets-rest 2 rest (subst IsOctets parts h)) e in
    wants (judged (add_in rest)) (added add) count tail _ _ fault (λ wishes. refl) t.octets (add_is from rest add count tail h parts e) f more

pub add_tail : (from rest : List ℕ) (add : AddSource) (count : ℕ) (tail : List ℕ) → IsOctets from → from ≡ 2 ∷ rest → add_head_in rest ≡ Some (add, count, tail) → length tail ≤ length from
add_tail from rest add count tail h parts e =
    let t = add_head_takes rest (add, count, tail) (IsOctets-rest 2 rest (subst IsOctets parts h)) e in
    omega (arith, ap length parts, ap length t.parts, add_before-length add count tail t.address t.broadcast_id)

-- ---- Modify Source

abbrev pub modify_reserved : ModifySource → Option ℕ
modify_reserved modify = cond (ltb 2 modify.pa_sync) (Some 2) None

one : (a : Bool) (others : Option ℕ) → cond a (Some 2) others ≡ option_or (cond a (Some 2) None) others
one a others = grind arith

abbrev pub modified : ModifySource → List Wish → Operation
modified modify wishes = Modify (record modify { wishes = wishes })

modify_places : (modify : ModifySource) (wishes : List Wish) → reserved_from 0 (fields (modified modify wishes)) ≡ option_or (modify_reserved modify) (reserved_from 6 (flat_map wish_fields wishes))
modify_places modify wishes = rw (number-length 2 modify.pa_interval) (one (ltb 2 modify.pa_sync) (reserved_from 6 (flat_map wish_fields wishes)))

pub modify_no_head : (rest : List ℕ) → modify_head_in rest ≡ None → judged (modify_in rest) ≡ Err Length
unfolding modify_in
modify_no_head rest e = rw e refl

modify_read : (rest : List ℕ) (modify : ModifySource) (count : ℕ) (tail : List ℕ) (wishes : List Wish) → modify_head_in rest ≡ Some (modify, count, tail) → wishes_in count tail ≡ Some wishes
    → modify_in rest ≡ Some (modified modify wishes)
unfolding modify_in
modify_read rest modify count tail wishes e w = rw (e, w) refl

pub modify_judged : (from rest : List ℕ) (modify : ModifySource) (count : ℕ) (tail : List ℕ) (wishes : List Wish) → IsOctets from → from ≡ 3 ∷ rest
    → modify_head_in rest ≡ Some (modify, count, tail) → wishes_in count tail ≡ Some wishes
    → judged (modify_in rest) ≡ answered (modified modify wishes) (first_fault (option_or (modify_reserved modify) (reserved_in from count tail)) (twice_in 31 1 count tail))
modify_judged from rest modify count tail wishes h parts e w =
    let t = modify_head_takes rest (modify, count, tail) (IsOctets-rest 3 rest (subst IsOctets parts h)) e in
    let len : length from ≡ 6 + length tail = omega (arith, ap length parts, ap length t.parts, modify_before-length modify count tail) in
    let places = modify_places modify wishes ∙ ap (option_or (modify_reserved modify)) (wishes_place from 6 count tail wishes t.octets len w) in
    let twice = wishes_twice count tail wishes w in
    ap judged (modify_read rest modify count tail wishes e w)
    ∙ judged_by (modified modify wishes) (first_fault (option_or (modify_reserved modify) (reserved_in from count tail)) (twice_in 31 1 count tail))
    (ap (λ (p : Option ℕ). first_fault p (twice_of wishes)) places ∙ ap (first_fault (option_or (modify_reserved modify) (reserved_in from count tail))) twice)

pub modify_is : (from rest : List ℕ) (modify : ModifySource) (count : ℕ) (tail : List ℕ) → IsOctets from → from ≡ 3 ∷ rest → modify_head_in rest ≡ Some (modify, count, tail)
    → IsJudged (judged (modify_in rest)) (modified modify) (wishes_in count tail) (option_or (modify_reserved modify) (reserved_in from count tail)) (twice_in 31 1 count tail)
unfolding modify_in
modify_is from rest modify count tail h parts e = record { short = λ none. rw (e, none) refl; long = λ wishes w. modify_judged from rest modify count tail wishes h parts e w }

pub modify_wants : (from rest : List ℕ) (modify : ModifySource) (count : ℕ) (tail : List ℕ) (fault : OpFault) → IsOctets from → from ≡ 3 ∷ rest → modify_head_in rest ≡ Some (modify, count, tail)
    → behind (wishes_in count tail) (option_or (modify_reserved modify) (reserved_in from count tail)) (twice_in 31 1 count tail) ≡ told fault → (fault ≡ Memory → 0 < count) → WantsFor fault (judged (modify_in rest))
modify_wants from rest modify count tail fault h parts e f more =
    let t = modify_head_takes rest (modify, count, tail) (IsOctets-rest 3 rest (subst IsOctets parts h)) e in
    wants (judged (modify_in rest)) (modified modify) count tail _ _ fault (λ wishes. refl) t.octets (modify_is from rest modify count tail h parts e) f more

pub modify_tail : (from rest : List ℕ) (modify : ModifySource) (count : ℕ) (tail : List ℕ) → IsOctets from → from ≡ 3 ∷ rest → modify_head_in rest ≡ Some (modify, count, tail)
    → length tail ≤ length from
modify_tail from rest modify count tail h parts e =
    let t = modify_head_takes rest (modify, count, tail) (IsOctets-rest 3 rest (subst IsOctets parts h)) e in
    omega (arith, ap length parts, ap length t.parts, modify_before-length modify count tail)
