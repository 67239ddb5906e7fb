-- The links of a sink, by what happens on each of them.
use Rattle.std.specs.Prelude.{ℕ, ◌≡◌, Bool, List, map, Option, Some, is_some}
use Rattle.std.specs.List.{AllByRecursion}
use Rattle.bcast_base.specs.Encoding.{IsOctets}
use Rattle.assistant_machine.specs.Calls as assistants
use Rattle.assistant_machine.specs.Calls.{notified, read}
use Rattle.assistant_machine.specs.State.Assistants.{StandsFor}
use Rattle.assistant_machine.specs.Views as known
use Rattle.assistant_machine.specs.Links.{view_of, waiting_of, waits_of}
use Rattle.sink_history.specs.Links.{Acts, delivered, language}
use Rattle.multi_assist.specs.State.Places.{Linked}

-- what an assistant was told and what it read is octets
abbrev pub IsHeard : assistants.Call → Type 0
IsHeard (notified slot value) = IsOctets value
IsHeard (read slot value) = IsOctets value
IsHeard _ = Unit {0}

abbrev pub AreHeard : List assistants.Call → Type 0
AreHeard calls = AllByRecursion IsHeard calls

-- a link that is joined, on which this happened and these writes wait: its assistant took calls that leave it so, and the notices
-- that wait are those of the link, cut to the MTU
pub record LinkHolds (slots : ℕ) (mtu : Option ℕ) (acts : Acts) (writes : List (List ℕ)) (linked : Linked) : Type 0 where
  pub taken : List assistants.Call
  pub assistant : StandsFor slots taken linked.assistant
  pub heard : AreHeard taken
  pub mtu_is : assistants.mtu_of taken ≡ mtu
  pub writes_are : assistants.waiting_of taken ≡ writes
  pub views : (slot : ℕ) → known.view_of slot taken ≡ view_of (language mtu) slot acts
  pub reads : (slot : ℕ) → known.waits_of slot taken ≡ waits_of (language mtu) slot acts
  pub notices : linked.waiting ≡ map (delivered mtu) (waiting_of acts)

-- an assistant is on a link exactly where one joined
pub record OnLink (slots : ℕ) (mtu : Option ℕ) (joined : Bool) (acts : Acts) (writes : List (List ℕ)) (on : Option Linked) : Type 0 where
  pub joined_is : is_some on ≡ joined
  pub holds : (linked : Linked) → on ≡ Some linked → LinkHolds slots mtu acts writes linked
