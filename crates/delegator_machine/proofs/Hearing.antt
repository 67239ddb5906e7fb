-- What the PDUs of an event are to each half of a Scan Delegator.
use Rattle.delegator_machine.proofs.Prelude.{ℕ, zero, suc, ◌≡◌, List, length, get_or, Option, Some, None, refl, ap, ◌∙◌, subst, sym, Setup, Call, steps_of, heard_where, heard_first, heard_calls, group_calls, Halves, StandsFor}
use Rattle.group_sink.specs.Calls as sinks
use Rattle.group_sink.specs.State.Sinks.{StandsFor as SinkStands}
use Rattle.delegator_control.specs.State.Machines.{StandsFor as ScanStands}

-- no step
steps_where : (event bis subevent : ℕ) (pdu : Option (List ℕ)) (calls : List Call) → steps_of (heard_where event bis subevent pdu calls) ≡ steps_of calls
steps_where event bis subevent None calls = refl
steps_where event bis subevent (Some octets) calls = refl

steps_first : (event bis : ℕ) (pdus : List (Option (List ℕ))) (count : ℕ) (calls : List Call) → steps_of (heard_first event bis pdus count calls) ≡ steps_of calls
steps_first event bis pdus zero calls = refl
steps_first event bis pdus (suc s) calls =
    steps_where event bis s (get_or pdus s None) (heard_first event bis pdus s calls) ∙ steps_first event bis pdus s calls

pub steps_heard : (event bis : ℕ) (pdus : List (Option (List ℕ))) (calls : List Call) → steps_of (heard_calls event bis pdus calls) ≡ steps_of calls
steps_heard event bis pdus calls = steps_first event bis pdus (length pdus) calls

-- the same PDUs for the receivers
groups_where : (setup : Setup) (event bis subevent : ℕ) (pdu : Option (List ℕ)) (calls : List Call)
    → group_calls setup (heard_where event bis subevent pdu calls) ≡ sinks.heard_where event bis subevent pdu (group_calls setup calls)
groups_where setup event bis subevent None calls = refl
groups_where setup event bis subevent (Some octets) calls = refl

groups_first : (setup : Setup) (event bis : ℕ) (pdus : List (Option (List ℕ))) (count : ℕ) (calls : List Call)
    → group_calls setup (heard_first event bis pdus count calls) ≡ sinks.heard_first event bis pdus count (group_calls setup calls)
groups_first setup event bis pdus zero calls = refl
groups_first setup event bis pdus (suc s) calls =
    groups_where setup event bis s (get_or pdus s None) (heard_first event bis pdus s calls)
    ∙ ap (sinks.heard_where event bis s (get_or pdus s None)) (groups_first setup event bis pdus s calls)

pub groups_heard : (setup : Setup) (event bis : ℕ) (pdus : List (Option (List ℕ))) (calls : List Call)
    → group_calls setup (heard_calls event bis pdus calls) ≡ sinks.heard_calls event bis pdus (group_calls setup calls)
groups_heard setup event bis pdus calls = groups_first setup event bis pdus (length pdus) calls

pub stands_heard : (setup : Setup) (event bis : ℕ) (pdus : List (Option (List ℕ))) (calls : List Call) (old new : Halves) → new.scan ≡ old.scan
    → ((past : List sinks.Call) → SinkStands past old.sink → SinkStands (sinks.heard_calls event bis pdus past) new.sink)
    → StandsFor setup calls old → StandsFor setup (heard_calls event bis pdus calls) new
stands_heard setup event bis pdus calls old new same hears stands = record {
  setup_is = ap (λ m. m.setup) same ∙ stands.setup_is;
  steps = subst (λ steps. ScanStands steps new.scan) (sym (steps_heard event bis pdus calls)) (subst (ScanStands (steps_of calls)) (sym same) stands.steps);
  groups = subst (λ past. SinkStands past new.sink) (sym (groups_heard setup event bis pdus calls)) (hears (group_calls setup calls) stands.groups);
}
