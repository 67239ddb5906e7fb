-- Whatever is read of octets that encode a BASE, it has the presentation delay of that BASE.
use Rattle.delegator_history.proofs.Prelude.{◌≡◌, ℕ, ◌∷◌, Bool, cond, ltb, List, [], length, Some, Result, Ok, Err, sym, ap, ◌∙◌, subst, flat_map, some_pair_parts, bind_ok, needed_ok, number_again, ok_is, BaseFault, Endpoint, BaseIs, endpoint, subgroup, arith}
use Rattle.bcast_base.specs.Reading.{number_in, place_in}
use Rattle.bcast_base.specs.Tries.{◌>>=◌}
use Rattle.base_grammar.specs.declared.fault.BaseFault.TheVariants.{Short, TooLong}
use Rattle.base_grammar.specs.Reading.{base_of, count_at, ended, field_at, fields_of, subgroups_at}

short_enough : {A : Type 0} (long : Bool) (read : Result A BaseFault) (x : A) → cond long (Err TooLong) read ≡ Ok x → read ≡ Ok x
short_enough long read x is = grind arith

ended_ok : {A : Type 0} (whole rest : List ℕ) (x y : A) → ended whole rest x ≡ Ok y → x ≡ y
ended_ok whole rest x y is = grind (arith, ok_is)

found_of : (octets rest : List ℕ) (made read : Endpoint) → number_in 3 octets ≡ Some (made.delay, rest) → made ≡ read → number_in 3 octets ≡ Some (read.delay, rest)
found_of octets rest made read found same = subst (λ (base : Endpoint). number_in 3 octets ≡ Some (base.delay, rest)) same found

-- the presentation delay is the first field
first_is : (octets : List ℕ) (read : Endpoint) → fields_of octets ≡ Ok read → (rest : List ℕ) × (number_in 3 octets ≡ Some (read.delay, rest))
unfolding fields_of
first_is octets read given =
    let first = bind_ok (field_at octets octets (number_in 3 octets))
    (λ delay. count_at octets delay.1 >>= λ count. subgroups_at octets [] count.0 count.1 >>= λ subgroups. ended octets subgroups.1 (endpoint delay.0 subgroups.0)) read given in
    let second = bind_ok (count_at octets first.0.1)
    (λ count. subgroups_at octets [] count.0 count.1 >>= λ subgroups. ended octets subgroups.1 (endpoint first.0.0 subgroups.0)) read first.2 in
    let third = bind_ok (subgroups_at octets [] second.0.0 second.0.1) (λ subgroups. ended octets subgroups.1 (endpoint first.0.0 subgroups.0)) read second.2 in
    let made : Endpoint = record { delay = first.0.0; subgroups = third.0.0 } in
    let last : made ≡ read = ended_ok octets third.0.1 made read third.2 in
    let found : number_in 3 octets ≡ Some first.0 = needed_ok (Short (place_in octets octets)) (number_in 3 octets) first.0 first.1 in
    (first.0.1, found_of octets first.0.1 made read found last)

pub delay_read : (base read : Endpoint) (octets : List ℕ) → BaseIs base octets → base_of octets ≡ Ok read → read.delay ≡ base.delay
unfolding base_of
delay_read base read octets is given =
    let first = first_is octets read (short_enough (ltb 252 (length octets)) (fields_of octets) read given) in
    let others : List ℕ = length base.subgroups ∷ flat_map subgroup base.subgroups in
    let encoded : number_in 3 octets ≡ Some (base.delay, others) = ap (number_in 3) is.encoded ∙ number_again 3 base.delay others is.base.delay in
    (some_pair_parts read.delay base.delay first.0 others (sym first.1 ∙ encoded)).0
