use Rattle.scenario_sink.proofs.Prelude.{Err, None, sym, ◌∙◌, ap, slice_index_or}
use Rattle.scenario_sink.proofs.Calls.{joins_one}
use Rattle.scenario_sink.proofs.Joins.{not_twice, twice_refusal, wants_not_twice}
use Rattle.scenario_sink.proofs.Stands.{unchanged}
use Rattle.scenario_sink.proofs.sink.LinkedSink.assist.Goals as goal

pub returns-in-Ok : goal.returns-in-Ok
returns-in-Ok c source sink history lives = (
  ap twice_refusal (sym (lives.stands.each c.args.link).joined_is ∙ not_twice _ c.assist.result c.assist.ensures.twice c.in-Ok.is),
  record {
    stands = joins_one c.links_law.ensures.apart c.args.link history _ c.args.self.now.links _ lives.stands c.requires c.assist.ensures.terms c.in-Ok.ensures.ok;
    source_is = lives.source_is;
  },
)

pub returns-in-Err-LinkTwice : goal.returns-in-Err-LinkTwice
returns-in-Err-LinkTwice c source sink history lives = (
  ap twice_refusal (sym (lives.stands.each c.args.link).joined_is ∙ c.assist.ensures.twice.0 (c.in-Err-LinkTwice.is ∙ ap Err c.in-Err-LinkTwice.field-0-is)),
  record {
    stands = unchanged history _ c.args.self.now.links _ lives.stands c.assist.ensures.terms (λ link. ap (λ ons. slice_index_or ons link None) c.in-Err-LinkTwice.ensures.err);
    source_is = lives.source_is;
  },
)

pub returns-in-Err-Memory : goal.returns-in-Err-Memory
returns-in-Err-Memory c source sink history lives = (
  ap twice_refusal (sym (lives.stands.each c.args.link).joined_is
      ∙ wants_not_twice _ c.assist.result c.assist.ensures.twice (c.in-Err-Memory.is ∙ ap Err c.in-Err-Memory.field-0-is)),
  tt,
)
