-- The four links of a sink.
use Rattle.std.specs.Prelude.{ℕ, ◌==◌, ◌∷◌, [], List, Option, None, slice_index_or, if◌then◌else◌}
use Rattle.std.specs.Borrow.{LendsIf, MutBor, Fml}
use Rattle.assistant_machine.specs.State.Assistants.{Assistant}
use Rattle.assistant_machine.specs.contracts.joined.AssistJoined.{the_row as assistant_row}
use Rattle.multi_assist.specs.contracts.links.Links.{the_row as links_row}
use Rattle.multi_assist.specs.declared.links.Links.{Links}
use Rattle.multi_assist.specs.State.Places.{Linked, link_of, with_assistant}

abbrev pub linked : Links → List (Option Linked)
linked links = link_of links.first ∷ link_of links.second ∷ link_of links.third ∷ link_of links.fourth ∷ []

abbrev pub link_at : Links → ℕ → Option Linked
link_at links link = slice_index_or (linked links) link None

abbrev pub slots_of : Links → ℕ
slots_of links = links.terms.slots

abbrev pub mtu_of : Links → Option ℕ
mtu_of links = links.terms.mtu

-- the assistant of a link is lent, and what the caller leaves is on it
abbrev pub with_assistant_on : Links → ℕ → Assistant → Links
with_assistant_on links link assistant =
    if link == 0 then record links { first = with_assistant links.first assistant }
    else (if link == 1 then record links { second = with_assistant links.second assistant }
    else (if link == 2 then record links { third = with_assistant links.third assistant }
    else (if link == 3 then record links { fourth = with_assistant links.fourth assistant } else links)))

abbrev pub LendsOn : MutBor Links → ℕ → Option (MutBor Assistant) → Fml
LendsOn links link assistant = LendsIf links_row assistant_row links assistant (with_assistant_on links.now link) links.now
