use Rattle.delegator_control.proofs.Prelude.{◌≡◌, ◌++◌, ◌∷◌, [], ◌∙◌, List, refl, on_ok_weaker, PacRecord, record_added, recorded, Machine, machine, moved}
use Rattle.delegator_control.proofs.Standing.{moved_setting, stands_done}
use Rattle.delegator_control.proofs.scan_delegator.ScanDelegator.add_pac.Goals as goal

with_records : Machine → List PacRecord → Machine
with_records m entries = record m { snapshot = record m.snapshot { capability = record m.snapshot.capability { entries = entries } } }

recorded_so : (m : Machine) (entry : PacRecord) (entries : List PacRecord) → entries ≡ m.snapshot.capability.entries ++ entry ∷ [] → with_records m entries ≡ moved (recorded entry) m
unfolding with_records
recorded_so m entry entries is = (λ i. with_records m (is i)) ∙ moved_setting m (recorded entry) (λ i. refl)

pub returns-clause-step : goal.returns-clause-step
unfolding with_records
returns-clause-step c = on_ok_weaker c.push.result (recorded_so (machine c.args.self.now) c.args.entry c.push.new.self) c.push.ensures.ok

pub returns-clause-stands : goal.returns-clause-stands
unfolding with_records
returns-clause-stands c =
    on_ok_weaker c.push.result
    (λ is steps stands. stands_done (record_added c.args.entry) steps (machine c.args.self.now) _ refl refl (recorded_so (machine c.args.self.now) c.args.entry c.push.new.self is) stands)
    c.push.ensures.ok
