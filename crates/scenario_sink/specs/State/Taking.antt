-- What is done on one link.
use Rattle.std.specs.Prelude.{ℕ, ◌≡◌, ◌++◌, List}
use Rattle.assistant_machine.specs.Calls.{Call}
use Rattle.assistant_machine.specs.State.Assistants.{Assistant, StandsFor}
use Rattle.multi_assist.specs.State.Links.{with_assistant_on}
use Rattle.multi_assist.specs.declared.links.Links.{Links}
use Rattle.scenario_sink.specs.State.Links.{AreHeard}

-- the assistant of a link, which was this, took these calls, the newest first, and nothing else changed
pub record Takes (calls : List Call) (link : ℕ) (before : Assistant) (old new : Links) : Type 0 where
  pub heard : AreHeard calls
  pub after : Assistant
  pub links : new ≡ with_assistant_on old link after
  pub stands : (slots : ℕ) (taken : List Call) → StandsFor slots taken before → StandsFor slots (calls ++ taken) after
