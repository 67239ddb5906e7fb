use Rattle.std.proofs.Common.{◌≡◌, List, [], ◌∷◌, ◌++◌, Option, None, Some, refl}
use Rattle.std.specs.Prelude.{option_map}
use Rattle.assistant_machine.specs.State.Assistants.{Assistant}
use Rattle.delegator_history.specs.declared.notice.Notice.{Notice}
use Rattle.multi_assist.specs.State.Places.{Linked, with_notice}
use Rattle.multi_assist.proofs.place.Place.put_own.Goals as goal

abbrev linked : List Notice → Assistant → Linked
linked waiting assistant = record { waiting = waiting; assistant = assistant }

behind : (notice : Notice) (place : Option Assistant) (old new : List Notice) → new ≡ old ++ notice ∷ [] → option_map (linked new) place ≡ with_notice notice (option_map (linked old) place)
behind notice None old new is = refl
behind notice (Some assistant) old new is = rw is refl

pub returns-clause-ok : goal.returns-clause-ok
returns-clause-ok c = behind c.args.notice c.args.self.now.assistant _ _ c.in_ok-push_back.ensures.items
