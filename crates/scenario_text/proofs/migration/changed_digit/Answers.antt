use Rattle.scenario_text.proofs.Prelude.{arith, not, sym, ◌∙◌, take_rest}
use Rattle.scenario_text.proofs.MigratedLines.{digit_after, digit_before, ends_blank, ends_same, goes_on, place_within}
use Rattle.scenario_text.proofs.migration.changed_digit.Goals as goal

pub returns-in-None-clause-none : goal.returns-in-None-clause-none
returns-in-None-clause-none c = grind (arith, ends_same, take_rest)

pub returns-in-Some-clause-within : goal.returns-in-Some-clause-within
returns-in-Some-clause-within c = grind (arith, place_within, take_rest)

pub returns-in-Some-clause-one : goal.returns-in-Some-clause-one
returns-in-Some-clause-one c =
    digit_before c.args.text.now c.blanks.start c.split_line.result.0.now c.blanks.invariant _ (rw take_rest at c.split_line.ensures)
    (sym c.is_blank.ensures ∙ c.if-not-is_blank.true) c.in-Some.at c.in-Some.ensures.within c.in-Some.ensures.one

pub returns-in-Some-clause-two : goal.returns-in-Some-clause-two
returns-in-Some-clause-two c =
    digit_after c.args.text.now c.blanks.start c.split_line.result.0.now c.blanks.invariant _ (rw take_rest at c.split_line.ensures)
    (sym c.is_blank.ensures ∙ c.if-not-is_blank.true) c.in-Some.at c.in-Some.ensures.within c.in-Some.ensures.two

pub returns-then-is_none-clause-none : goal.returns-then-is_none-clause-none
returns-then-is_none-clause-none c = grind (arith, ends_blank, take_rest, not)

pub blanks-preserved : goal.blanks-preserved
blanks-preserved c = grind (arith, goes_on, take_rest, not)

pub blanks-smaller : goal.blanks-smaller
blanks-smaller c = grind (arith, goes_on, take_rest, not)
