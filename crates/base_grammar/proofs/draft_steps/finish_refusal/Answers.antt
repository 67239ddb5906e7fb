use Rattle.base_grammar.proofs.Prelude.{◌≡◌, ◌+◌, ◌≤◌, ℕ, List, [], ◌∷◌, None, false, length, flat_map, ◌==◌, arith, le-ltb, draft_fault, is_empty_last, last_of, subgroup, Subgroup}
use Rattle.base_grammar.proofs.draft_steps.finish_refusal.Goals as goal

finished : (subgroups : List Subgroup) (octets : ℕ) → false ≡ (length subgroups == 0) → false ≡ is_empty_last (last_of subgroups) → octets ≤ 252 → None ≡ draft_fault subgroups octets
finished [] octets some last most = cc
finished (s ∷ others) octets some last most = rw (← last, le-ltb 252 octets most)

pub returns : goal.returns
returns c =
    let most : 4 + length (flat_map subgroup c.args.subgroups.now) ≤ 252 = grind arith in
    finished c.args.subgroups.now _ c.if-is_empty.ensures c.if-is_last_empty.ensures most
