-- Octets that end within a subgroup are read up to it, and octets that are read up to a subgroup end within it.
use Rattle.receive_state.proofs.Prelude.{◌≡◌, ℕ, zero, suc, ◌+◌, ◌-◌, ◌*◌, ◌^◌, ◌<◌, ◌≤◌, List, [], ◌∷◌, ◌++◌, length, Result, Err, refl, sym, ap, subst, ◌∙◌, arith, add-zero, flat_map, AllByRecursion, length-append, sum_from, Field, free, unless, octet_in, octets_in, place_in, IsOctets, octet, number, Subgroup, Fits, subgroup_fields, is_reserved, IsOctets-prefix, number-length, number_below, number_once, EndsIn, ◌>>=◌, field_in}
use Rattle.receive_state.specs.Reading.{end_in}
use Rattle.receive_state.proofs.Cuts.{ends_here, ends_more, ends_nowhere, zeros, octets_with, filled, length-filled, more-zeros}
use Rattle.receive_state.proofs.CutSteps.{told_octet, told_octets, find_octet, find_octets}

-- ---- a subgroup and those behind it, field by field

abbrev end_metadata : List ℕ → ℕ → ℕ → List ℕ → Result (List ℕ) ℕ
end_metadata whole n count rest = field_in whole (octets_in count) rest >>= λ x. end_in whole n x.1

abbrev end_count : List ℕ → ℕ → List ℕ → Result (List ℕ) ℕ
end_count whole n rest = field_in whole octet_in rest >>= λ x. end_metadata whole n x.0 x.1

abbrev end_bits : List ℕ → ℕ → List ℕ → Result (List ℕ) ℕ
end_bits whole n rest = field_in whole (octets_in 4) rest >>= λ x. end_count whole n x.1

end_is : (whole : List ℕ) (n : ℕ) (rest : List ℕ) → end_in whole (suc n) rest ≡ end_bits whole n rest
unfolding end_in
end_is whole n rest = grind (arith, place_in, octets_in, field_in, octet_in)

-- ---- told

pub told_groups : (whole : List ℕ) (groups : List Subgroup) (rest : List ℕ) (p q : ℕ) → length rest ≤ length whole → p ≡ place_in whole rest + q → EndsIn q (flat_map subgroup_fields groups) rest
    → end_in whole (length groups) rest ≡ Err p
told_groups whole [] rest p q le at ends = absurd (ends_nowhere q rest ends)
told_groups whole (group ∷ groups) rest p q le at ends =
    end_is whole (length groups) rest
    ∙ told_octets (λ (r : Result (List ℕ) ℕ). r ≡ Err p) whole rest 4 (number 4 group.bits) (unless (is_reserved group.bits) (number 4 group.bits))
    (free (octet (length group.metadata)) ∷ free group.metadata ∷ flat_map subgroup_fields groups) p q (λ x. end_count whole (length groups) x.1) (number-length 4 group.bits) refl le at ends refl
    (λ after n within there more. told_octet (λ (r : Result (List ℕ) ℕ). r ≡ Err p) whole after (length group.metadata) (free (octet (length group.metadata)))
    (free group.metadata ∷ flat_map subgroup_fields groups) p n
    (λ x. end_metadata whole (length groups) x.0 x.1) refl within there more refl
    (λ after' n' within' there' more'. told_octets (λ (r : Result (List ℕ) ℕ). r ≡ Err p) whole after' (length group.metadata) group.metadata (free group.metadata)
    (flat_map subgroup_fields groups) p n' (λ x. end_in whole (length groups) x.1) refl refl within' there' more' refl
    (λ tail m inside at' last. told_groups whole groups tail p m inside at' last)))

-- ---- found

pub record GroupsEnd (whole : List ℕ) (n : ℕ) (rest : List ℕ) (p : ℕ) : Type 0 where
  pub groups : List Subgroup
  pub fit : AllByRecursion Fits groups
  pub count : length groups ≡ n
  pub q : ℕ
  pub at : p ≡ place_in whole rest + q
  pub ends : EndsIn q (flat_map subgroup_fields groups) rest

abbrev blank : Subgroup
blank = record { bits = 0; metadata = [] }

unfoldable pub blanks : ℕ → List Subgroup
blanks zero = []
blanks (suc n) = blank ∷ blanks n

blanks_fit : (n : ℕ) → AllByRecursion Fits (blanks n)
unfolding blanks
blanks_fit zero = tt
blanks_fit (suc n) = (record { bits = omega arith; metadata = omega arith }, blanks_fit n)

length-blanks : (n : ℕ) → length (blanks n) ≡ n
unfolding blanks
length-blanks zero = refl
length-blanks (suc n) = ap (λ m. suc m) (length-blanks n)

abbrev made : List ℕ → List ℕ → Subgroup
made bits metadata = record { bits = sum_from 0 bits; metadata = metadata }

four_octets : (bits : List ℕ) → IsOctets bits → length bits ≡ 4 → bits ≡ number 4 (sum_from 0 bits)
four_octets bits h len = number_once 4 (sum_from 0 bits) bits h len refl

four_fit : (bits : List ℕ) → IsOctets bits → length bits ≡ 4 → sum_from 0 bits < 2 ^ 32
four_fit bits h len = subst (λ (n : ℕ). sum_from 0 bits < 2 ^ (8 * n)) len (number_below bits h)

bits_end : (whole : List ℕ) (n : ℕ) (rest : List ℕ) (p : ℕ) → IsOctets rest → length rest < 4 → p ≡ place_in whole rest → GroupsEnd whole (suc n) rest p
bits_end whole n rest p h lt there =
    let bits = filled 4 rest in
    let octets = octets_with rest (4 - length rest) h in
    let len = length-filled 4 rest lt in
    let group : Subgroup = made bits [] in
    record {
      groups = group ∷ blanks n;
      fit = (record { bits = four_fit bits octets len; metadata = omega arith }, blanks_fit n);
      count = ap (λ m. suc m) (length-blanks n);
      q = 0;
      at = there ∙ sym (add-zero (place_in whole rest));
      ends = ends_here (unless (is_reserved group.bits) (number 4 group.bits)) (free (octet 0) ∷ free [] ∷ flat_map subgroup_fields (blanks n)) rest (zeros (4 - length rest))
          (sym (four_octets bits octets len)) (more-zeros 4 rest lt);
    }

-- the octets of the bits, and those behind them
behind_bits : (bits rest after : List ℕ) (q : ℕ) (others : List Field) → IsOctets bits → length bits ≡ 4 → rest ≡ bits ++ after
    → EndsIn q others after → EndsIn (4 + q) (unless (is_reserved (sum_from 0 bits)) (number 4 (sum_from 0 bits)) ∷ others) rest
behind_bits bits rest after q others h len parts ends =
    let first = unless (is_reserved (sum_from 0 bits)) (number 4 (sum_from 0 bits)) in
    let encoded : number 4 (sum_from 0 bits) ++ after ≡ rest = ap (λ (x : List ℕ). x ++ after) (sym (four_octets bits h len)) ∙ sym parts in
    let place : length (number 4 (sum_from 0 bits)) + q ≡ 4 + q = ap (λ (n : ℕ). n + q) (number-length 4 (sum_from 0 bits)) in
    subst (λ (n : ℕ). EndsIn n (first ∷ others) rest) place (subst (EndsIn (length (number 4 (sum_from 0 bits)) + q) (first ∷ others)) encoded (ends_more first others q after ends))

behind_count : (count : ℕ) (rest after : List ℕ) (q : ℕ) (others : List Field) → rest ≡ octet count ++ after → EndsIn q others after → EndsIn (1 + q) (free (octet count) ∷ others) rest
behind_count count rest after q others parts ends = subst (EndsIn (1 + q) (free (octet count) ∷ others)) (sym parts) (ends_more (free (octet count)) others q after ends)

behind_metadata : (metadata rest after : List ℕ) (q : ℕ) (others : List Field) → rest ≡ metadata ++ after → EndsIn q others after → EndsIn (length metadata + q) (free metadata ∷ others) rest
behind_metadata metadata rest after q others parts ends = subst (EndsIn (length metadata + q) (free metadata ∷ others)) (sym parts) (ends_more (free metadata) others q after ends)

count_end : (whole : List ℕ) (n : ℕ) (rest bits after : List ℕ) (p : ℕ) → IsOctets rest → length rest ≤ length whole → rest ≡ bits ++ after → length bits ≡ 4 → after ≡ []
    → p ≡ place_in whole after → GroupsEnd whole (suc n) rest p
count_end whole n rest bits after p h le parts len empty there =
    let octets : IsOctets bits = IsOctets-prefix bits after (subst IsOctets parts h) in
    let size : length rest ≡ length bits + length after = ap length parts ∙ length-append bits after in
    let others = free [] ∷ flat_map subgroup_fields (blanks n) in
    let here : EndsIn 0 (free (octet 0) ∷ others) after = ends_here (free (octet 0)) others after (octet 0) (ap (λ (x : List ℕ). x ++ octet 0) (sym empty)) (omega arith) in
    record {
      groups = made bits [] ∷ blanks n;
      fit = (record { bits = four_fit bits octets len; metadata = omega arith }, blanks_fit n);
      count = ap (λ m. suc m) (length-blanks n);
      q = 4 + 0;
      at = omega arith;
      ends = behind_bits bits rest after 0 (free (octet 0) ∷ others) octets len parts here;
    }

metadata_end : (whole : List ℕ) (n : ℕ) (rest bits after : List ℕ) (count : ℕ) (tail : List ℕ) (p : ℕ) → IsOctets rest → length rest ≤ length whole → rest ≡ bits ++ after → length bits ≡ 4
    → after ≡ octet count ++ tail → count < 256 → length tail < count → p ≡ place_in whole tail → GroupsEnd whole (suc n) rest p
metadata_end whole n rest bits after count tail p h le parts len parts' small lt there =
    let octets : IsOctets bits = IsOctets-prefix bits after (subst IsOctets parts h) in
    let size : length rest ≡ length bits + length after = ap length parts ∙ length-append bits after in
    let size' : length after ≡ 1 + length tail = omega (arith, ap length parts') in
    let metadata = filled count tail in
    let wide : length metadata ≡ count = length-filled count tail lt in
    let others = flat_map subgroup_fields (blanks n) in
    let here : EndsIn 0 (free metadata ∷ others) tail = ends_here (free metadata) others tail (zeros (count - length tail)) refl (more-zeros count tail lt) in
    let counted : EndsIn (1 + 0) (free (octet (length metadata)) ∷ free metadata ∷ others) after =
    subst (λ (c : ℕ). EndsIn (1 + 0) (free (octet c) ∷ free metadata ∷ others) after) (sym wide) (behind_count count after tail 0 (free metadata ∷ others) parts' here) in
    record {
      groups = made bits metadata ∷ blanks n;
      fit = (record { bits = four_fit bits octets len; metadata = subst (λ (c : ℕ). c < 256) (sym wide) small }, blanks_fit n);
      count = ap (λ m. suc m) (length-blanks n);
      q = 4 + (1 + 0);
      at = omega arith;
      ends = behind_bits bits rest after (1 + 0) (free (octet (length metadata)) ∷ free metadata ∷ others) octets len parts counted;
    }

others_end : (whole : List ℕ) (n : ℕ) (rest bits after : List ℕ) (count : ℕ) (tail metadata last : List ℕ) (p : ℕ) → IsOctets rest → length rest ≤ length whole → rest ≡ bits ++ after
    → length bits ≡ 4 → after ≡ octet count ++ tail
    → count < 256 → tail ≡ metadata ++ last → length metadata ≡ count → GroupsEnd whole n last p → GroupsEnd whole (suc n) rest p
others_end whole n rest bits after count tail metadata last p h le parts len parts' small parts'' wide g =
    let octets : IsOctets bits = IsOctets-prefix bits after (subst IsOctets parts h) in
    let size : length rest ≡ length bits + length after = ap length parts ∙ length-append bits after in
    let size' : length after ≡ 1 + length tail = omega (arith, ap length parts') in
    let size'' : length tail ≡ length metadata + length last = ap length parts'' ∙ length-append metadata last in
    let others = flat_map subgroup_fields g.groups in
    let there = g.at in
    let inner = behind_metadata metadata tail last g.q others parts'' g.ends in
    let counted : EndsIn (1 + (length metadata + g.q)) (free (octet (length metadata)) ∷ free metadata ∷ others) after = grind (arith, behind_count count after tail (length metadata + g.q) (free metadata ∷ others) parts' inner) in
    record {
      groups = made bits metadata ∷ g.groups;
      fit = (record { bits = four_fit bits octets len; metadata = subst (λ (c : ℕ). c < 256) (sym wide) small }, g.fit);
      count = ap (λ m. suc m) g.count;
      q = 4 + (1 + (length metadata + g.q));
      at = omega arith;
      ends = behind_bits bits rest after (1 + (length metadata + g.q)) (free (octet (length metadata)) ∷ free metadata ∷ others) octets len parts counted;
    }

octets_behind : (prefix back octets : List ℕ) → IsOctets octets → octets ≡ prefix ++ back → IsOctets back
octets_behind [] back octets h e = subst IsOctets e h
octets_behind (first ∷ prefix) back octets h e = grind (arith, octets_behind prefix back (prefix ++ back) (λ i. (subst IsOctets e h) (suc i)) refl)

small_count : (octets : List ℕ) (count : ℕ) (tail : List ℕ) → IsOctets octets → octets ≡ octet count ++ tail → count < 256
small_count octets count tail h e = grind (arith, (subst IsOctets e h) 0)

pub found_groups : (whole : List ℕ) (n : ℕ) (rest : List ℕ) (p : ℕ) → IsOctets rest → length rest ≤ length whole → end_in whole n rest ≡ Err p → GroupsEnd whole n rest p
unfolding end_in
found_groups whole zero rest p h le e = absurd cc
found_groups whole (suc n) rest p h le e =
    find_octets whole rest 4 p (λ x. end_count whole n x.1) (sym (end_is whole n rest) ∙ e) (λ lt there. bits_end whole n rest p h lt there)
    (λ bits after parts len e1. find_octet whole after p (λ x. end_metadata whole n x.0 x.1) e1
    (λ empty there. count_end whole n rest bits after p h le parts len empty there)
    (λ count tail parts' e2. find_octets whole tail count p (λ x. end_in whole n x.1) e2
    (λ lt there. metadata_end whole n rest bits after count tail p h le parts len parts' (small_count after count tail (octets_behind bits after rest h parts) parts') lt there)
    (λ metadata last parts'' wide e3.
    let octets1 = octets_behind bits after rest h parts in
    let octets2 = octets_behind (octet count) tail after octets1 parts' in
    let octets3 = octets_behind metadata last tail octets2 parts'' in
    let size : length rest ≡ length bits + length after = ap length parts ∙ length-append bits after in
    let size' : length after ≡ 1 + length tail = omega (arith, ap length parts') in
    let size'' : length tail ≡ length metadata + length last = ap length parts'' ∙ length-append metadata last in
    others_end whole n rest bits after count tail metadata last p h le parts len parts' (small_count after count tail octets1 parts') parts'' wide
    (found_groups whole n last p octets3 (omega arith) e3))))
