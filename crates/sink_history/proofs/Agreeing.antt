-- Each link agrees with the sink, by the law of what happens on it.
use Rattle.sink_history.proofs.Prelude.{ℕ, ◌≡◌, ◌<◌, false, List, Option, ◌∙◌, ReceiveState, Act, AreFounded, AreReadBack, Agrees, Language, Setup, Call, NoneNotifies, notified_and_read, acts_of, is_forged, language, read_waits, state, view, AreOctets, arith}
use Rattle.assistant_machine.specs.Links.{is_forged as is_forged_by}
use Rattle.sink_history.proofs.Acts.{are_back, forged_is, founded, value_is}
use Rattle.sink_history.proofs.Drains.{out_forged, out_octets, out_state, out_tells, out_waits}
use Rattle.sink_history.proofs.ReadBack.{ReadsOperations, ReadsStates}

-- the laws below
pub record Below : Type 0 where
  pub operations : ReadsOperations
  pub states : ReadsStates
  pub agree : (language : Language (Option ReceiveState)) (slot : ℕ) (acts : List (Act (Option ReceiveState))) → AreFounded acts → AreReadBack language acts
      → is_forged_by acts ≡ false → Agrees language slot acts

pub agrees : Below → (setup : Setup) (mtu : Option ℕ) (link slot : ℕ) (calls : List Call) → setup.slots < 256 → slot < setup.slots → AreOctets calls
    → is_forged link calls ≡ false → NoneNotifies setup mtu link slot calls → read_waits setup mtu link slot calls ≡ false
    → view setup mtu link slot calls ≡ state setup slot calls
agrees below setup mtu link slot calls few within are plain none quiet =
    grind (arith, language, acts_of, founded, are_back, forged_is, value_is)

pub drained_agrees : Below → (setup : Setup) (mtu : Option ℕ) (link slot : ℕ) (calls : List Call) → setup.slots < 256 → slot < setup.slots → AreOctets calls
    → is_forged link calls ≡ false → view setup mtu link slot (notified_and_read setup mtu link calls) ≡ state setup slot calls
drained_agrees below setup mtu link slot calls few within are plain =
    agrees below setup mtu link slot (notified_and_read setup mtu link calls) few within (out_octets setup mtu link calls are) (out_forged setup mtu link calls ∙ plain)
    (out_tells setup mtu link slot calls) (out_waits setup mtu link slot calls within) ∙ out_state setup mtu link slot calls
