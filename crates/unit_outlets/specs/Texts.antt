-- What the faults of takers and of boxes say. Takers and boxes are this project's own.
use Rattle.std.specs.Prelude.{ℕ, List, codes}
use Rattle.unit_outlets.specs.declared.fault.OutletFault as outlets
use Rattle.unit_outlets.specs.declared.fault.OutletFault.TheVariants as outlet_faults
use Rattle.unit_outlets.specs.declared.fault.TakerFault as takers
use Rattle.unit_outlets.specs.declared.fault.TakerFault.TheVariants as taker_faults

abbrev pub taker_text : takers.TakerFault → List ℕ
taker_text taker_faults.Failed = codes "the taker failed"
taker_text taker_faults.Memory = codes "no memory"

abbrev pub outlet_text : outlets.OutletFault → List ℕ
outlet_text outlet_faults.Failed = codes "the box failed"
outlet_text outlet_faults.Memory = codes "no memory"
