use Rattle.source_machine.proofs.Prelude.{ℕ, ◌≡◌, ◌≤◌, ◌-◌, Some, length, arith, sym, subst, ap, ◌∙◌, slice_get, option_map, slice_get-map, BigInfo, Timed, IsFramedAir, air_of, place_of, framed_calls, stream_calls}
use Rattle.isoal_framed.specs.Calls.{accepted}
use Rattle.isoal_framed.specs.Sends.{Sends}
use Rattle.source_machine.proofs.AirLaws.{is_checked}
use Rattle.source_machine.proofs.FramedCalls.{timed_octets}
use Rattle.source_machine.proofs.Framings.{air_at, airs_only, framed_one}
use Rattle.source_machine.proofs.Histories.{accepted_are}
use Rattle.source_machine.proofs.Orders.{unit_is_accepted, units_in_order}
use Rattle.source_machine.proofs.laws.units_keep_their_order.Goals as goal

pub returns-clause-given : goal.returns-clause-given
returns-clause-given c = grind (arith, slice_get, place_of, accepted_are, unit_is_accepted, stream_calls)

pub returns-clause-order : goal.returns-clause-order
returns-clause-order c = grind (arith, units_in_order, stream_calls)

pub returns-clause-timed : goal.returns-clause-timed
returns-clause-timed c = λ setup calls bis. timed_octets setup bis calls

pub returns-clause-framed : goal.returns-clause-framed
returns-clause-framed c = λ group setup calls airs bis of_group framed are least within short.
    let checked = is_checked group setup.info of_group in
    let timed = framed_calls setup bis calls in
    let fits : (i : ℕ) (unit : Timed) → slice_get (accepted timed) i ≡ Some unit → length unit.octets ≤ group.info.max_sdu = λ i unit at.
    let given_at = ap (λ units. slice_get units i) (sym (timed_octets setup bis calls)) ∙ slice_get-map (λ (u : Timed). u.octets) (accepted timed) i
    ∙ ap (option_map (λ (u : Timed). u.octets)) at in
    let max : group.info.max_sdu ≡ setup.info.max_sdu = ap (λ (i : BigInfo). i.max_sdu) (sym of_group) in
    omega (arith, max, short i unit.octets given_at) in
    let air_is = framed_one setup calls bis checked framed in
    let is_air = subst (λ (i : BigInfo). IsFramedAir i timed (air_of setup calls bis)) of_group air_is in
    let sends = c.a_framed_air_sends_units.ensures group timed (air_of setup calls bis) (subst (λ (i : BigInfo). i.framing ≡ 1) of_group framed) fits is_air in (
      air_of setup calls bis,
      ap (λ list. slice_get list (bis - 1)) (airs_only setup calls airs checked are) ∙ air_at setup calls bis least within,
      sends.0,
      subst (λ (i : BigInfo). Sends i timed (air_of setup calls bis) sends.0) (sym of_group) sends.1,
    )
