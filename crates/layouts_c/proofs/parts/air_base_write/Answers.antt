use Rattle.std.proofs.Common.{◌∙◌, sym}
use Rattle.base_grammar.specs.Layout.{encoding}
use Rattle.base_grammar.specs.Reading.{base_of, told}
use Rattle.layouts_c.specs.BaseParts.{base_in}
use Rattle.layouts_c.proofs.Parted.{no_fault_of, told_as}
use Rattle.layouts_c.proofs.parts.air_base_write.Goals as goal

pub returns-in-Some-clause-base : goal.returns-in-Some-clause-base
returns-in-Some-clause-base c =
    let v = base_in c.args.delay c.args.subgroups.now c.args.streams.now c.args.octets.now in
    λ base _. no_fault_of v c.in-Some.found base
    (told_as (told c.in-Err.found) (base_of (encoding v)) c.in-Some.found c.in-Err.ensures.fault (sym c.fault_in.ensures ∙ c.in-Some.is))
