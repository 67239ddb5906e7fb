-- What an assistant takes for a state has octets, since it was read from some.
use Rattle.scenario_sink.proofs.Prelude.{ℕ, suc, ◌≡◌, ◌<◌, ◌≤◌, Bool, true, false, List, [], ◌∷◌, length, map, Option, Some, None, Result, Ok, refl, ap, arith, ◌↔◌, ◌==◌, ◌&&◌, not, unwrap_or, AllByRecursion, IsOctets, ReceiveState, if_slot, reading_of, told_of, view_of, AreHeard}
use Rattle.bcast_base.specs.Subgroups.{Fits}
use Rattle.receive_state.specs.Layout.{HasEncoding, IsEncoded, StateIs, group_of}
use Rattle.receive_state.specs.Reading.{state_of}
use Rattle.receive_state.specs.declared.fault.StateFault.{StateFault}
use Rattle.receive_state.specs.declared.state.GroupState.{GroupState}
use Rattle.assistant_machine.specs.Calls.{Call, notified, read, mtu_of}
use Rattle.assistant_machine.specs.Cuts.{asks}

abbrev pub ReadsStates : Type 0
ReadsStates = (state : Option ReceiveState) (octets : List ℕ) → IsOctets octets → (state_of octets ≡ Ok state) ↔ StateIs state octets

count_same : (groups : List GroupState) → length (map group_of groups) ≡ length groups
count_same [] = refl
count_same (group ∷ groups) = ap suc (count_same groups)

metadata_fit : (groups : List GroupState) → AllByRecursion Fits (map group_of groups) → AllByRecursion (λ (group : GroupState). length group.metadata ≤ 255) groups
metadata_fit [] are = are
metadata_fit (group ∷ groups) are = (let h : length group.metadata < 256 = are.0.metadata in omega (arith, h), metadata_fit groups are.1)

encoded_fits : (state : ReceiveState) (octets : List ℕ) → IsEncoded state octets → HasEncoding state
encoded_fits state octets is = grind (arith, count_same, metadata_fit)

of_result : (result : Result (Option ReceiveState) StateFault) (state : ReceiveState) → told_of result ≡ Some (Some state) → result ≡ Ok (Some state)
of_result result state is = grind arith

read_fits : ReadsStates → (octets : List ℕ) (state : ReceiveState) → IsOctets octets → reading_of octets ≡ Some (Some state) → HasEncoding state
read_fits reads octets state are is = encoded_fits state octets ((reads (Some state) octets are).0 (of_result (state_of octets) state is))

-- a value that was given, or else the one before
given : (b : Bool) (reading : Option (Option ReceiveState)) (old : Option ReceiveState) (state : ReceiveState) → (reading ≡ Some (Some state) → HasEncoding state)
    → (old ≡ Some state → HasEncoding state) → unwrap_or (if_slot b reading) old ≡ Some state → HasEncoding state
given true (Some other) old state here before is = here (ap Some is)
given true None old state here before is = before is
given false reading old state here before is = before is

pub views_fit : ReadsStates → (slot : ℕ) (taken : List Call) (state : ReceiveState) → AreHeard taken → view_of slot taken ≡ Some state → HasEncoding state
views_fit reads slot [] state are is = absurd cc
views_fit reads slot (notified at octets ∷ earlier) state are is =
    given ((at == slot) && not (asks (mtu_of earlier) octets)) (reading_of octets) (view_of slot earlier) state (read_fits reads octets state are.0)
    (views_fit reads slot earlier state are.1) is
views_fit reads slot (read at octets ∷ earlier) state are is =
    given (at == slot) (reading_of octets) (view_of slot earlier) state (read_fits reads octets state are.0) (views_fit reads slot earlier state are.1) is
views_fit reads slot (_ ∷ earlier) state are is = views_fit reads slot earlier state are.1 is
