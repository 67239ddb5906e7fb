-- The steps of a delegator without those that asked for a notice: its notices all go to the links, and which of them were
-- asked for changes nothing of what it answers.
use Rattle.std.specs.Prelude.{ℕ, List, [], ◌∷◌, Option, Some, None}
use Rattle.delegator_history.specs.States.{Step, mtu_set, notified}
use Rattle.delegator_machine.specs.Calls as machine

abbrev pub unless_told : Step → List Step → List Step
unless_told notified steps = steps
unless_told step steps = step ∷ steps

abbrev pub untold : List Step → List Step
untold [] = []
untold (step ∷ steps) = unless_told step (untold steps)

-- what the delegator of a new sink took
abbrev pub its_mtu : Option ℕ → List machine.Call
its_mtu None = []
its_mtu (Some mtu) = machine.control (mtu_set mtu) ∷ []
