-- Whether an assistant is on a link, and why a line that names the link is refused.
use Rattle.scenario_sink.proofs.Prelude.{◌≡◌, Bool, true, false, Option, None, Result, Ok, Err, option_or, ◌↔◌, refuse_if, Refusal, arith, LinkTwice}
use Rattle.multi_assist.specs.declared.fault.LinkFault.{LinkFault}
use Rattle.multi_assist.specs.declared.fault.LinkFault.TheVariants.{LinkTwice as Twice, Memory as NoMemory}

-- that the link is joined already
abbrev pub twice_refusal : Bool → Option Refusal
twice_refusal joined = option_or (refuse_if joined LinkTwice) None

pub not_twice : (joined : Bool) (result : Result (Unit {0}) LinkFault) → (result ≡ Err Twice) ↔ (joined ≡ true) → result ≡ Ok tt → joined ≡ false
not_twice joined result twice is = grind arith

-- nor where memory ran out
pub wants_not_twice : (joined : Bool) (result : Result (Unit {0}) LinkFault) → (result ≡ Err Twice) ↔ (joined ≡ true) → result ≡ Err NoMemory → joined ≡ false
wants_not_twice joined result twice is = grind arith
