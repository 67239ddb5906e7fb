use Rattle.isoal_unframed.proofs.Prelude.{ℕ, ◌≡◌, ◌+◌, ◌-◌, ◌*◌, ◌<◌, arith, mul-le, per_event_of, ◌^◌}
use Rattle.big_info.specs.Time.{iso_us_of, sync_delay_of}
use Rattle.isoal_unframed.specs.declared.stream.Stream.{Stream}
use Rattle.isoal_unframed.proofs.stream.Stream.time.Goals as goal

-- the time of a slot has room
time_fits : (s : Stream) (event slot iso_us : ℕ) → event < 2 ^ 39 → slot < per_event_of s.group.info → iso_us ≡ iso_us_of s.group.info
    → s.origin + (event - s.first) * iso_us + sync_delay_of s.group.info + slot * s.group.info.sdu_interval + s.delay < 2 ^ 63
time_fits s event slot iso_us below within is =
    let many = mul-le (event - s.first) iso_us (2 ^ 39) 4000000 (omega arith) (omega (arith, s.group.bounds.iso_greatest)) in
    let into = mul-le slot s.group.info.sdu_interval (per_event_of s.group.info) s.group.info.sdu_interval (omega arith) (omega arith) in
    omega (arith, many, into, s.group.bounds.iso_greatest, s.group.bounds.whole_units s.unframed, s.group.bounds.sync_delay, s.times, s.delays)

pub anchor-anchor-requires-clause-sum : goal.anchor-anchor-requires-clause-sum
anchor-anchor-requires-clause-sum c = omega (arith, time_fits c.args.self.now c.args.event c.args.slot c.iso_us.result c.requires.event c.requires.slot c.iso_us.ensures)

pub unframed_reference-requires : goal.unframed_reference-requires
unframed_reference-requires c = omega (arith, time_fits c.args.self.now c.args.event c.args.slot c.iso_us.result c.requires.event c.requires.slot c.iso_us.ensures, c.anchor-anchor.ensures)

pub render-requires : goal.render-requires
render-requires c = omega (arith, time_fits c.args.self.now c.args.event c.args.slot c.iso_us.result c.requires.event c.requires.slot c.iso_us.ensures, c.anchor-anchor.ensures, c.unframed_reference.ensures)
