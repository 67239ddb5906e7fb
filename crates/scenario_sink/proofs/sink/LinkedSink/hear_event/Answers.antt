use Rattle.scenario_sink.proofs.Stands.{receives_event}
use Rattle.scenario_sink.proofs.sink.LinkedSink.hear_event.Goals as goal

pub returns-clause-lives : goal.returns-clause-lives
returns-clause-lives g c history lives = record {
  stands = receives_event c.args.event c.args.bis (g.E.StreamEvent.pdus c.args.sent.now) history c.args.self.now.delegator _ c.args.self.now.links lives.stands
      (c.hear_event.ensures.stands history.made.setup lives.stands.took.taken lives.stands.took.stands) c.hear_event.ensures.settings;
  source_is = lives.source_is;
}
