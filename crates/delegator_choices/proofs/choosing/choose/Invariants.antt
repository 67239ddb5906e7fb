use Rattle.delegator_choices.proofs.Candidates.{candidates_of, left_at}
use Rattle.delegator_choices.proofs.Taken.{Chooses}
use Rattle.delegator_choices.proofs.choosing.choose.Given as goal

abbrev pub invariant-subgroups : goal.invariant-subgroups
invariant-subgroups l =
    Chooses (candidates_of l.capability l.base l.num_bis l.wishes l.base.subgroups) l.streams (left_at l.capability l.base l.num_bis l.wishes l.place) l.room l.which l.bits
