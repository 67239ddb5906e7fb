-- Whether a sink is on a group: of a slot's source, or of no slot. The places are this project's own.
use Rattle.std.specs.Prelude.{Bool, true, false}
use Rattle.delegator_history.specs.Snapshots.{Place, on_group}

abbrev pub has_group : Place → Bool
has_group (on_group slot) = true
has_group _ = false
