use Rattle.scenario_laws.proofs.Known.Sources.Steps.Prelude.{arith}
use Rattle.scenario_laws.proofs.OneTranscript.{accepted_same, answered_same, brought_same, end_after_same, handed_on_same, out_of_same, steps_same, transcript_end_same, transcript_same, units_same}
use Rattle.scenario_laws.proofs.history_laws.one_transcript.Goals as goal

pub returns-clause-octets : goal.returns-clause-octets
returns-clause-octets c = search (transcript_same)

pub returns-clause-end : goal.returns-clause-end
returns-clause-end c = search (transcript_end_same)

pub returns-clause-units : goal.returns-clause-units
returns-clause-units c = search (units_same)

pub returns-clause-out : goal.returns-clause-out
returns-clause-out c = search (out_of_same)

pub returns-clause-lines_end : goal.returns-clause-lines_end
returns-clause-lines_end c = search (end_after_same)

pub returns-clause-accepted : goal.returns-clause-accepted
returns-clause-accepted c = search (accepted_same)

pub returns-clause-handed : goal.returns-clause-handed
returns-clause-handed c = search (handed_on_same)

pub returns-clause-steps : goal.returns-clause-steps
returns-clause-steps c = search (steps_same)

pub returns-clause-output : goal.returns-clause-output
returns-clause-output c = grind (arith, brought_same)

pub returns-clause-answers : goal.returns-clause-answers
returns-clause-answers c = search (answered_same)
