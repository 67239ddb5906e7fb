-- A subgroup that is read is the one that is encoded, and so are many.
use Rattle.bcast_base.proofs.Prelude.{◌≡◌, ℕ, zero, suc, ◌+◌, ◌-◌, ◌<◌, ◌≤◌, Bool, true, false, cond, ltb, List, [], ◌∷◌, ◌++◌, length, take, drop, Option, Some, None, refl, sym, ap, subst, ◌∙◌, append_assoc, arith, append-nil, length-append, length-drop, sum_from, laid, reserved_from, number_in, counted_in, place_in, Takes, IsOctets, counted, ◌>>=◌, Subgroup, Fits, subgroup, subgroup_fields, is_reserved}
use Rattle.std.specs.List.{flat_map, AllByRecursion}
use Rattle.bcast_base.specs.Encoding.{number}
use Rattle.bcast_base.specs.Subgroups.{subgroup_in, subgroups_in, reserved_in}
use Rattle.bcast_base.proofs.Fields.{guard_some, Takes-then, number_takes, number_again, number-length, counted_takes, counted_again}

-- the value of a step that read something
pub bind_some : {A B : Type 0} (r : Option A) (f : A → Option B) (y : B) → (r >>= f) ≡ Some y → (x : A) × (r ≡ Some x) × (f x ≡ Some y)
bind_some r f y e = grind arith

pub some_is : {A : Type 0} (x y : A) → Some x ≡ Some y → x ≡ y
some_is x y e = cc

-- a length that is one octet
pub counted_fits : (from value rest : List ℕ) → IsOctets from → Takes from (counted value) rest → length value < 256
counted_fits from value rest h t = grind (arith, t.parts, (subst IsOctets t.parts h) 0)

pub subgroup_takes : (from : List ℕ) (x : Subgroup × List ℕ) → IsOctets from → subgroup_in from ≡ Some x → Takes from (subgroup x.0) x.1 × Fits x.0
unfolding subgroup_in
subgroup_takes from x h e =
    let a = bind_some (number_in 4 from) (λ bits. counted_in bits.1 >>= λ metadata. Some (record { bits = bits.0; metadata = metadata.0 }, metadata.1)) x e in
    let b = bind_some (counted_in a.0.1) (λ metadata. Some (record { bits = a.0.0; metadata = metadata.0 }, metadata.1)) x a.2 in
    let t0 = number_takes 4 from a.0.0 a.0.1 h a.1 in
    let h1 : IsOctets a.0.1 = t0.0.fits h in
    let t1 = counted_takes a.0.1 b.0.0 b.0.1 b.1 in
    let both = Takes-then from (number 4 a.0.0) a.0.1 (counted b.0.0) b.0.1 t0.0 t1 in
    let read : Subgroup × List ℕ = (record { bits = a.0.0; metadata = b.0.0 }, b.0.1) in
    subst (λ (y : Subgroup × List ℕ). Takes from (subgroup y.0) y.1 × Fits y.0) (some_is read x b.2) (both, record { bits = t0.1; metadata = counted_fits a.0.1 b.0.0 b.0.1 h1 t1 })

pub subgroup_again : (group : Subgroup) (rest : List ℕ) → Fits group → subgroup_in (subgroup group ++ rest) ≡ Some (group, rest)
unfolding subgroup_in
subgroup_again group rest fits =
    let regrouped : subgroup group ++ rest ≡ number 4 group.bits ++ (counted group.metadata ++ rest) = append_assoc (number 4 group.bits) (counted group.metadata) rest in
    ap subgroup_in regrouped ∙ rw (number_again 4 group.bits (counted group.metadata ++ rest) fits.bits, counted_again group.metadata rest) refl

pub subgroups_take : (count : ℕ) (from : List ℕ) (x : List Subgroup × List ℕ) → IsOctets from → subgroups_in count from ≡ Some x → Takes from (flat_map subgroup x.0) x.1
    × AllByRecursion Fits x.0 × (length x.0 ≡ count)
unfolding subgroups_in
subgroups_take zero from x h e = grind (arith, subgroup, length, some_is)
subgroups_take (suc count) from x h e =
    let a = bind_some (subgroup_in from) (λ first. subgroups_in count first.1 >>= λ others. Some (first.0 ∷ others.0, others.1)) x e in
    let b = bind_some (subgroups_in count a.0.1) (λ others. Some (a.0.0 ∷ others.0, others.1)) x a.2 in
    let t0 = subgroup_takes from a.0 h a.1 in
    let t1 = subgroups_take count a.0.1 b.0 (t0.0.fits h) b.1 in
    let both = Takes-then from (subgroup a.0.0) a.0.1 (flat_map subgroup b.0.0) b.0.1 t0.0 t1.0 in
    let read : List Subgroup × List ℕ = (a.0.0 ∷ b.0.0, b.0.1) in
    subst (λ (y : List Subgroup × List ℕ). Takes from (flat_map subgroup y.0) y.1 × AllByRecursion Fits y.0 × (length y.0 ≡ suc count)) (some_is read x b.2) (both, (t0.1, t1.1), ap suc t1.2)

pub subgroups_again : (groups : List Subgroup) (rest : List ℕ) → AllByRecursion Fits groups → subgroups_in (length groups) (flat_map subgroup groups ++ rest) ≡ Some (groups, rest)
unfolding subgroups_in
subgroups_again [] rest fits = refl
subgroups_again (group ∷ groups) rest fits =
    let regrouped : flat_map subgroup (group ∷ groups) ++ rest ≡ subgroup group ++ (flat_map subgroup groups ++ rest) = append_assoc (subgroup group) (flat_map subgroup groups) rest in
    ap (subgroups_in (suc (length groups))) regrouped ∙ rw (subgroup_again group (flat_map subgroup groups ++ rest) fits.0, subgroups_again groups rest fits.1) refl

-- the octets of a subgroup are those of its fields
pub subgroup_laid : (group : Subgroup) → laid (subgroup_fields group) ≡ subgroup group
subgroup_laid group = ap (λ (x : List ℕ). number 4 group.bits ++ (length group.metadata ∷ x)) (append-nil group.metadata)

-- a subgroup that was read leaves no more octets
pub subgroup_shorter : (from : List ℕ) (group : Subgroup) (rest : List ℕ) → subgroup_in from ≡ Some (group, rest) → length rest ≤ length from
unfolding subgroup_in
subgroup_shorter from group rest e =
    grind (
      arith,
      bind_some,
      number_in,
      counted_in,
      counted_takes,
      some_is,
      guard_some,
      ltb,
      length,
      sum_from,
      take,
      drop,
      length-drop,
      length-append,
      counted,
    )

-- its octets are the length of its fields
pub subgroup-length : (group : Subgroup) → length (subgroup group) ≡ 5 + length group.metadata
subgroup-length group = omega (arith, length-append (number 4 group.bits) (counted group.metadata), number-length 4 group.bits)

-- ---- the first reserved bit field

pub unreserved_next : (whole : List ℕ) (count i : ℕ) (from : List ℕ) (group : Subgroup) (after : List ℕ) (total : Option ℕ) → i < count → subgroup_in from ≡ Some (group, after)
    → is_reserved group.bits ≡ false → reserved_in whole (count - i) from ≡ total → reserved_in whole (count - (i + 1)) after ≡ total
unfolding reserved_in
unreserved_next whole count i from group after total lt h r so_far =
    let k : count - i ≡ suc (count - (i + 1)) = omega arith in
    let one : reserved_in whole (count - i) from ≡ reserved_in whole (count - (i + 1)) after = rw (k, h, r) refl in
    sym one ∙ so_far

pub reserved_here : (whole : List ℕ) (count i : ℕ) (from : List ℕ) (group : Subgroup) (after : List ℕ) (total : Option ℕ) → i < count → subgroup_in from ≡ Some (group, after)
    → is_reserved group.bits ≡ true → reserved_in whole (count - i) from ≡ total → Some (place_in whole from) ≡ total
unfolding reserved_in
reserved_here whole count i from group after total lt h r so_far = grind (arith, place_in)

pub unreserved_short : (whole : List ℕ) (count i : ℕ) (from : List ℕ) (total : Option ℕ) → i < count → subgroup_in from ≡ None → reserved_in whole (count - i) from ≡ total → None ≡ total
unfolding reserved_in
unreserved_short whole count i from total lt h so_far = grind arith

pub unreserved_end : (whole : List ℕ) (count i : ℕ) (from : List ℕ) (total : Option ℕ) → count ≤ i → reserved_in whole (count - i) from ≡ total → None ≡ total
unfolding reserved_in
unreserved_end whole count i from total le so_far = grind arith

choice : (b : Bool) (place : ℕ) (x y : Option ℕ) → x ≡ y → cond b (Some place) x ≡ cond b (Some place) y
choice b place x y e = grind arith

reserved_suc : (whole : List ℕ) (count : ℕ) (from : List ℕ) (group : Subgroup) (after : List ℕ) → subgroup_in from ≡ Some (group, after)
    → reserved_in whole (suc count) from ≡ cond (is_reserved group.bits) (Some (place_in whole from)) (reserved_in whole count after)
unfolding reserved_in
reserved_suc whole count from group after e = rw e refl

reserved_cons : (place : ℕ) (group : Subgroup) (groups : List Subgroup) → reserved_from place (flat_map subgroup_fields (group ∷ groups))
    ≡ cond (is_reserved group.bits) (Some place) (reserved_from (place + 4 + 1 + length group.metadata) (flat_map subgroup_fields groups))
reserved_cons place group groups = rw (number-length 4 group.bits) refl

-- the place that reading finds is that of the first reserved field
pub reserved_found : (whole : List ℕ) (count : ℕ) (from : List ℕ) (x : List Subgroup × List ℕ) → IsOctets from → length from ≤ length whole → subgroups_in count from ≡ Some x
    → reserved_in whole count from ≡ reserved_from (place_in whole from) (flat_map subgroup_fields x.0)
unfolding reserved_in subgroups_in
reserved_found whole zero from x h le e = grind (arith, reserved_from, place_in, subgroup_fields, some_is)
reserved_found whole (suc count) from x h le e =
    let a = bind_some (subgroup_in from) (λ first. subgroups_in count first.1 >>= λ others. Some (first.0 ∷ others.0, others.1)) x e in
    let b = bind_some (subgroups_in count a.0.1) (λ others. Some (a.0.0 ∷ others.0, others.1)) x a.2 in
    let t = subgroup_takes from a.0 h a.1 in
    let shorter : length from ≡ 5 + length a.0.0.metadata + length a.0.1 = omega (arith, ap length t.0.parts, length-append (subgroup a.0.0) a.0.1, subgroup-length a.0.0) in
    let rest = reserved_found whole count a.0.1 b.0 (t.0.fits h) (omega arith) b.1 in
    let there : place_in whole a.0.1 ≡ place_in whole from + 4 + 1 + length a.0.0.metadata = omega arith in
    let tail : reserved_in whole count a.0.1 ≡ reserved_from (place_in whole from + 4 + 1 + length a.0.0.metadata) (flat_map subgroup_fields b.0.0) =
    rest ∙ ap (λ (p : ℕ). reserved_from p (flat_map subgroup_fields b.0.0)) there in
    let read : List Subgroup × List ℕ = (a.0.0 ∷ b.0.0, b.0.1) in
    subst (λ (y : List Subgroup × List ℕ). reserved_in whole (suc count) from ≡ reserved_from (place_in whole from) (flat_map subgroup_fields y.0)) (some_is read x b.2)
    (grind (arith, reserved_suc, choice, is_reserved, place_in, reserved_from, length, subgroup_fields, reserved_cons))
