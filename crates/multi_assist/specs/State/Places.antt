-- A link that is joined, and what calls make of it.
use Rattle.std.specs.Prelude.{ℕ, ◌++◌, ◌∷◌, [], List, drop, replicate, slice_get, true, Option, Some, None, option_map}
use Rattle.std.specs.Borrow.{LendsIf, MutBor, Fml}
use Rattle.assistant_machine.specs.State.Assistants.{Assistant}
use Rattle.assistant_machine.specs.contracts.joined.AssistJoined.{the_row as assistant_row}
use Rattle.delegator_history.specs.declared.notice.Notice.{Notice}
use Rattle.multi_assist.specs.contracts.place.Place.{the_row as place_row}
use Rattle.multi_assist.specs.declared.place.Place.{Place}
use Rattle.multi_assist.specs.State.Terms.{joining}

-- the notices that wait on it, and its assistant
pub record Linked : Type 0 where
  pub waiting : List Notice
  pub assistant : Assistant

abbrev pub link_of : Place → Option Linked
link_of place = option_map (λ assistant. record { waiting = place.waiting.items; assistant = assistant }) place.assistant

abbrev pub assistant_in : Option Linked → Option Assistant
assistant_in link = option_map (λ link. link.assistant) link

-- no write and no notice waits, each view is empty, and a read of every slot waits
abbrev pub asking : ℕ → Option ℕ → Linked
asking slots mtu = record { waiting = []; assistant = record (joining slots mtu) { reads = replicate slots true } }

abbrev pub first_of : Option Linked → Option Notice
first_of None = None
first_of (Some link) = slice_get link.waiting 0

abbrev pub without_first : Option Linked → Option Linked
without_first None = None
without_first (Some link) = Some (record link { waiting = drop 1 link.waiting })

-- these notices wait behind the others
abbrev pub with_notices : List Notice → Option Linked → Option Linked
with_notices notices None = None
with_notices notices (Some link) = Some (record link { waiting = link.waiting ++ notices })

abbrev pub with_notice : Notice → Option Linked → Option Linked
with_notice notice link = with_notices (notice ∷ []) link

-- what a link gets of a notice: a copy, where it is joined
abbrev pub copy_for : Notice → Option Linked → Option Notice
copy_for notice link = option_map (λ link. notice) link

abbrev pub with_copy : Option Notice → Option Linked → Option Linked
with_copy None link = link
with_copy (Some notice) link = with_notice notice link

-- the assistant is lent, and what the caller leaves is on the link
abbrev pub with_assistant : Place → Assistant → Place
with_assistant place assistant = record place { assistant = Some assistant }

abbrev pub LendsAssistant : MutBor Place → Option (MutBor Assistant) → Fml
LendsAssistant place assistant = LendsIf place_row assistant_row place assistant (with_assistant place.now) place.now
