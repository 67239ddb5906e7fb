use Rattle.replay_lines.proofs.Prelude.{List, ◌∷◌, Account, TextLine, Accepted, rules_of, length, airs_of, said_after, steps_of}
use Rattle.replay_lines.proofs.OtherAirs.{answered_alike}
use Rattle.replay_lines.proofs.text.laws_hold.Goals as goal

pub returns : goal.returns
returns c boxes = record {
  same = λ airs meets.
      let met = c.some_airs_meet.ensures in
      let law = c.one_transcript.ensures in
      let answered = λ (starts : List Account) (lines : List TextLine) (line : TextLine)
      (accepted : Accepted (rules_of airs_of starts) (line ∷ lines)).
      answered_alike airs_of airs (length starts) (steps_of airs_of lines) (steps_of airs lines) (said_after lines line)
      (λ step. law.answers airs_of airs starts lines step met meets accepted.0) accepted.1 in
      search (law.octets, law.end, law.units, law.out, law.lines_end, law.accepted, law.handed, law.output, answered);
  meet = c.some_airs_meet.ensures;
  units = c.units_law.ensures boxes;
  order = c.order_law.ensures boxes;
  moment = c.moment_law.ensures boxes;
  in_time = c.in_time_law.ensures boxes;
  hearing = c.all_hearing_law.ensures.happens boxes;
  agreement = c.agreement_law.ensures;
  links = c.links_law.ensures;
  isolation = c.isolation_law.ensures boxes;
  migration = c.migration_law.ensures boxes;
  relay = c.relay_lines_law.ensures boxes;
  relayed_units = c.relayed_units_law.ensures boxes;
}
