use Rattle.std.proofs.lemmas.Grind.{common_steps}
use Rattle.scenario_text.proofs.Prelude.{arith}
use Rattle.scenario_text.proofs.step.Step.give_line.Goals as goal

pub returns-in-Group : goal.returns-in-Group
returns-in-Group g c = rw c.in-Group.is c.take.ensures

pub give_line_of_sink-requires : goal.give_line_of_sink-requires
give_line_of_sink-requires g c = grind (arith, common_steps)

pub give_line_of_client-requires : goal.give_line_of_client-requires
give_line_of_client-requires g c = grind (arith, common_steps)
