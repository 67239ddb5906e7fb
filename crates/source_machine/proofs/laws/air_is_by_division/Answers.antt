use Rattle.source_machine.proofs.Prelude.{Some, ap, ◌∙◌, option_and_then, group_count, pdu_at, laid_u, unframed_air, payload_number, pdu_of, framed_calls, stream_calls, arith}
use Rattle.source_machine.proofs.Framings.{air_at, airs_only, plain_air}
use Rattle.source_machine.proofs.AirLaws.{is_checked}
use Rattle.source_machine.proofs.Payloads.{carried_is_laid, number_counted}
use Rattle.source_machine.proofs.laws.air_is_by_division.Goals as goal

pub returns-clause-laid : goal.returns-clause-laid
returns-clause-laid c =
    grind (
      arith,
      group_count,
      payload_number,
      stream_calls,
      pdu_at,
      unframed_air,
      laid_u,
      pdu_of,
      airs_only,
      is_checked,
      option_and_then,
      air_at,
      plain_air,
      framed_calls,
      carried_is_laid,
    )

pub returns-clause-counted : goal.returns-clause-counted
returns-clause-counted c = λ group setup calls airs event bis subevent of_group unframed are least past bis_least bis_within within.
    returns-clause-laid c group setup calls airs event bis subevent of_group unframed are least past bis_least bis_within within
    ∙ ap (λ pdu. Some pdu) (number_counted setup calls event bis subevent (rw of_group group.bounds.bn) least)
