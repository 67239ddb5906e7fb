use Rattle.sink_c.proofs.Prelude.{◌∷◌, subst, control, StandsFor, KeptStands}
use Rattle.delegator_history.specs.States.{record_added}
use Rattle.pacs_records.specs.declared.record.PacRecord.{PacRecord}
use Rattle.sink_c.proofs.settings.vm_sink_add_pac.Goals as goal

-- the entry is the record of what was passed
pub returns-in-Ok-add_pac-clause-stands : goal.returns-in-Ok-add_pac-clause-stands
returns-in-Ok-add_pac-clause-stands c = λ setup calls stands ok.
    subst (λ (entry : PacRecord). StandsFor setup (control (record_added entry) ∷ calls) c.add_pac.new.self) c.in-Ok.ensures.record
    (c.in-Ok-add_pac.ensures.stands setup calls (subst (KeptStands setup calls) c.lend.ensures.value stands))
