use Rattle.std.proofs.Common.{None, refl, sym}
use Rattle.std.proofs.lemmas.Bool.{ltb-true}
use Rattle.std.proofs.lemmas.List.{get_or_read}
use Rattle.assistant_machine.proofs.joined.AssistJoined.view.Goals as goal

pub returns-clause-view : goal.returns-clause-view
returns-clause-view c =
    let found = c.in_ok-get.ensures.lookup in
    rw (← c.self.view_is, c.as_ref.ensures.value, get_or_read _ _ _ (ltb-true _ _ (sym found.0)) found.1 None, c.deref.ensures.value, c.from.ensures) refl
