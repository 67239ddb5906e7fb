-- What a round brings that began as the units that waited.
use Rattle.sink_c.proofs.Prelude.{◌≡◌, Bool, List, Result, subst, Caused, Handed, HandsOver, Brought, Kept, begun, calls_of, counts_of}
use Rattle.unit_outlets.specs.declared.fault.TakerFault.{TakerFault}

pub brought_by : (before began between after : Kept) (units : List Handed) (handed : Result (Unit {0}) TakerFault) (all : Bool)
    → ((before : Kept) (units : List Handed) → HandsOver units (calls_of (begun before)) (calls_of between) handed
    → Caused (counts_of (begun before)) (counts_of between) handed → Brought before units after all)
    → began ≡ begun before → HandsOver units (calls_of began) (calls_of between) handed → Caused (counts_of began) (counts_of between) handed
    → Brought before units after all
brought_by before began between after units handed all ends is hands caused =
    ends before units (subst (λ kept. HandsOver units (calls_of kept) (calls_of between) handed) is hands)
    (subst (λ kept. Caused (counts_of kept) (counts_of between) handed) is caused)
