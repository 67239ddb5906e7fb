use Rattle.scenario_words.proofs.Prelude.{refl, arith, eq-eqb}
use Rattle.scenario_words.proofs.Splitting.{none_behind, some_behind, no_more}
use Rattle.scenario_words.proofs.first_word.first_space.Goals as goal

pub returns-in-None : goal.returns-in-None
returns-in-None c =
    none_behind c.args.line.now _ c.min-near.result (omega arith) refl (λ j low small. c.near.invariant j low (omega arith)) c.in-None.ensures

pub returns-in-Some : goal.returns-in-Some
returns-in-Some c =
    let found = some_behind c.args.line.now _ c.min-near.result c.in-Some.end (omega arith) refl (λ j low small. c.near.invariant j low (omega arith))
    c.in-Some.ensures.0.high c.in-Some.ensures.0.before c.in-Some.ensures.1 in
    (record { low = omega arith; high = found.0; before = found.1 }, found.2)

pub returns-then-near-line : goal.returns-then-near-line
returns-then-near-line c = λ k low small. c.near.invariant k low (omega arith)

pub returns-then-line-i-eq32 : goal.returns-then-line-i-eq32
returns-then-line-i-eq32 c = (record { low = omega arith; high = omega arith; before = c.near.invariant }, eq-eqb _ _ c.if-line-i-eq32.true)

pub near-preserved : goal.near-preserved
near-preserved c = no_more c.args.line.now c.near.i c.near.invariant c.if-line-i-eq32.false
