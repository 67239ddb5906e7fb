use Rattle.scenario_words.proofs.Streams.{one_more_stream}
use Rattle.scenario_words.proofs.cursor.with_stream.Goals as goal

pub returns : goal.returns
returns c = one_more_stream c.args.which c.args.bis c.with.result c.requires c.with.ensures.has c.with.ensures.others
