use Rattle.std.proofs.lemmas.Result.{on_ok_weaker}
use Rattle.bcast_base.proofs.Prelude.{◌≡◌, ℕ, List, [], ◌∷◌, ◌++◌, ◌∙◌, length, get_or, ap, append_assoc, arith, subgroup, w32, to_le_bytes}
use Rattle.bcast_base.proofs.Fields.{one_by_one}
use Rattle.bcast_base.proofs.subgroups.put_subgroup.Goals as goal

put : (old first new octets metadata : List ℕ) (bits : ℕ)
    → first ≡ old ++ get_or octets 0 0 ∷ get_or octets 1 0 ∷ get_or octets 2 0 ∷ get_or octets 3 0 ∷ length metadata ∷ []
    → octets ≡ to_le_bytes w32 bits → new ≡ first ++ metadata → new ≡ old ++ subgroup (record { bits = bits; metadata = metadata })
put old first new octets metadata bits five is all =
    all ∙ ap (λ (xs : List ℕ). xs ++ metadata) (five ∙ ap (λ (xs : List ℕ). old ++ xs) (one_by_one bits octets (length metadata ∷ []) is)) ∙ grind (arith, append_assoc)

pub returns-else-is_err-clause-ok : goal.returns-else-is_err-clause-ok
returns-else-is_err-clause-ok c =
    on_ok_weaker c.append-put.result (put c.args.out.now c.append.new.self c.append-put.new.self c.to_le_bytes.result c.args.metadata.now c.args.bits c.in_ok-append.ensures.ok
    c.to_le_bytes.ensures) c.append-put.ensures.ok
