use Rattle.iso_pdu.proofs.Prelude.{◌≡◌, ◌+◌, ◌≤◌, ℕ, List, length, Result, Ok, Err, MatchResult, IfOk, IfErr, PduFault, FaultIs, PduIs, HasAtMost, arith}
use Rattle.iso_pdu.specs.declared.pdu.Pdu.{Pdu}
use Rattle.iso_pdu.specs.Reading.{read_of}
use Rattle.iso_pdu.specs.State.Views.{content_of}
use Rattle.iso_pdu.proofs.PdusRead.{read_of-encoded, read_of-fault, pdu_long}
use Rattle.iso_pdu.proofs.pdu.read_pdu.Goals as goal

abbrev Answers : ℕ → List ℕ → Result Pdu PduFault → Type 0
Answers max_pdu octets read = MatchResult read (λ p. read_of max_pdu octets ≡ Ok (content_of p)) (λ fault. read_of max_pdu octets ≡ Err fault)

layout_of : (max_pdu : ℕ) (octets : List ℕ) (read : Result Pdu PduFault) → Answers max_pdu octets read → IfOk read (λ p. PduIs (content_of p) octets × (length octets ≤ max_pdu + 2))
layout_of max_pdu octets x3 e = grind (arith, read_of-encoded)

within_of : (max_pdu : ℕ) (octets : List ℕ) (read : Result Pdu PduFault) → Answers max_pdu octets read → IfOk read (λ p. HasAtMost max_pdu (content_of p))
within_of max_pdu octets x3 e = grind (arith, pdu_long, read_of-encoded)

cut_of : (max_pdu : ℕ) (octets : List ℕ) (read : Result Pdu PduFault) → Answers max_pdu octets read → IfErr read (λ fault. FaultIs max_pdu fault octets)
cut_of max_pdu octets x3 e = grind (arith, read_of-fault)

pub returns-clause-layout : goal.returns-clause-layout
returns-clause-layout c = layout_of c.args.max_pdu c.args.from.now c.read_fields.result c.read_fields.ensures

pub returns-clause-within : goal.returns-clause-within
returns-clause-within c = within_of c.args.max_pdu c.args.from.now c.read_fields.result c.read_fields.ensures

pub returns-clause-cut : goal.returns-clause-cut
returns-clause-cut c = cut_of c.args.max_pdu c.args.from.now c.read_fields.result c.read_fields.ensures
