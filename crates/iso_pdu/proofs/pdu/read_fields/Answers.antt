use Rattle.iso_pdu.proofs.Prelude.{◌≡◌, ℕ, ◌%◌, ◌-◌, ◌≤◌, List, ◌∷◌, length, take, drop, get_or, Ok, control, eq-eqb, le-ltb, arith, take_all}
use Rattle.iso_pdu.specs.Reading.{read_of}
use Rattle.iso_pdu.proofs.pdu.read_fields.Goals as goal

is_control : (max_pdu : ℕ) (from : List ℕ) → 2 ≤ length from → get_or from 1 0 ≡ length from - 2 → get_or from 1 0 ≤ max_pdu → get_or from 0 0 % 4 ≡ 3
    → read_of max_pdu from ≡ Ok (control (take (length from - 2) (drop 2 from)))
unfolding read_of
is_control max_pdu (header ∷ count ∷ payload) long same most three =
    rw (take_all (length (header ∷ count ∷ payload) - 2) payload (omega arith), eq-eqb count (length payload) (omega arith), le-ltb max_pdu count most, three)
is_control max_pdu from long same most three = absurd (omega (arith, long))

pub returns : goal.returns
returns c = is_control c.args.max_pdu c.args.from.now c.in-len2-up.len_at_least (omega arith) c.if-max_pdu-count.false (omega arith)
