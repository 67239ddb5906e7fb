-- What the assistants of a sink know of it, by the lines of a scenario (Broadcast Audio Scan Service 1.0, section 3.2).
use Rattle.std.specs.Prelude.{ℕ, ◌≡◌, ◌≢◌, ◌<◌, false, List, Some}
use Rattle.bcast_io.specs.TextLines.{TextLine}
use Rattle.sink_history.specs.Calls.{Call}
use Rattle.sink_history.specs.Drains.{IsAnew, IsApart, LeavesLink, NoneNotifies, notified_and_read}
use Rattle.sink_history.specs.Links.{is_forged, read_waits, state, view}
use Rattle.delegator_history.specs.Trains.{Settings}
use Rattle.sink_history.specs.History.{made_of}
use Rattle.scenario_history.specs.Lines.{steps_of}
use Rattle.source_machine.specs.Airs.{Airs}
use Rattle.scenario_history.specs.Worlds.{calls_made}

-- where neither a notice nor a read of the slot waits on the link, the assistant's view is the slot's state; and so is the view once all
-- waiting notices are delivered in order and then all waiting reads are served
pub record Agrees (made : Settings) (link slot : ℕ) (calls : List Call) : Type 0 where
  pub at_rest : NoneNotifies made.setup made.mtu link slot calls → read_waits made.setup made.mtu link slot calls ≡ false
      → view made.setup made.mtu link slot calls ≡ state made.setup slot calls
  pub drained : view made.setup made.mtu link slot (notified_and_read made.setup made.mtu link calls) ≡ state made.setup slot calls

-- The agreement law: after the lines of any text, on each link of each living sink over which no notice was forged since it was
-- joined, the views of the slots agree with their states so.
abbrev pub AgreementLaw : Type 0
AgreementLaw = (airs : Airs) (lines : List TextLine) (n link slot : ℕ) (made : Settings) → made_of n (steps_of airs lines) ≡ Some made
    → slot < made.setup.slots
    → is_forged link (calls_made n (steps_of airs lines)) ≡ false → Agrees made link slot (calls_made n (steps_of airs lines))

-- The links law: the same holds of each link that came after link 0, whatever comes over link 0. Another link changes nothing of this one
-- but through the states of the slots, and a link that is joined, however often it parted, begins anew.
pub record LinksLaw : Type 0 where
  pub agrees : (airs : Airs) (lines : List TextLine) (n link slot : ℕ) (made : Settings) → made_of n (steps_of airs lines) ≡ Some made
      → slot < made.setup.slots → link ≢ 0 → Agrees made link slot (calls_made n (steps_of airs lines))
  pub apart : (made : Settings) (link : ℕ) (call : Call) (calls : List Call) → IsApart link call
      → LeavesLink made.setup made.mtu link call calls
  pub anew : (made : Settings) (link : ℕ) (calls : List Call) → IsAnew made.setup made.mtu link calls
