use Rattle.scenario_words.proofs.Prelude.{arith, refl}
use Rattle.hex.specs.Hex.{encode_with}
use Rattle.scenario_words.proofs.DigitLanes.{sixteen_more, last_written}
use Rattle.scenario_words.proofs.printed_octets.write_digits.Goals as goal

pub octets-init : goal.octets-init
unfolding encode_with
octets-init c = (refl, omega arith)

pub octets-preserved : goal.octets-preserved
octets-preserved c = (
  sixteen_more c.args.octets.now c.octets.digits c.write_sixteen.new.digits c.octets.i _ _ (omega arith) (omega arith) (omega arith) c.write_sixteen.ensures (omega arith)
      c.octets.invariant.0,
  omega arith,
)

pub returns : goal.returns
returns c =
    last_written c.args.octets.now c.octets.digits c.write_sixteen-2.new.digits _ c.octets.i _ _ (omega arith) (omega arith) (omega arith) (omega arith) (omega arith)
    c.write_sixteen-2.ensures c.octets.invariant.0
