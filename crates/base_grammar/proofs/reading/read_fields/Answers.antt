use Rattle.base_grammar.proofs.Prelude.{◌≡◌, ℕ, List, [], ◌∷◌, Ok, length, sym, arith, number_in, eqb-true, endpoint, Subgroup}
use Rattle.base_grammar.specs.Reading.{fields_of, field_at, count_at, subgroups_at}
use Rattle.base_grammar.proofs.reading.read_fields.Goals as goal

all_read : (whole first then after : List ℕ) (delay count : ℕ) (subgroups : List Subgroup) → field_at whole whole (number_in 3 whole) ≡ Ok (delay, first) → count_at whole first ≡ Ok (count, then)
    → subgroups_at whole [] count then ≡ Ok (subgroups, after) → length after ≡ 0 → fields_of whole ≡ Ok (endpoint delay subgroups)
unfolding fields_of
all_read whole first then [] delay count subgroups a b d none = rw (a, b, d)
all_read whole first then (octet ∷ after) delay count subgroups a b d none = absurd (omega (arith, none))

pub returns : goal.returns
returns c =
    all_read c.args.whole.now _ _ c.in-Ok.field.1.now _ _ _ c.in_ok-delay.ensures.reads c.in_ok-count.ensures.reads c.in-Ok.ensures.gives
    (eqb-true (length c.in-Ok.field.1.now) 0 (sym c.if-not-is_empty.ensures))
