use Rattle.source_machine.proofs.Prelude.{pdu_of, arith}
use Rattle.source_machine.proofs.Framings.{airs_only}
use Rattle.source_machine.proofs.AirLaws.{is_checked}
use Rattle.source_machine.proofs.Payloads.{sent_stays}
use Rattle.source_machine.proofs.laws.what_was_sent_stays.Goals as goal

pub returns : goal.returns
returns c = grind (arith, pdu_of, airs_only, is_checked, sent_stays)
