-- What a forged notice is answered.
use Rattle.scenario_sink.proofs.Prelude.{◌≡◌, ◌≢◌, Result, Ok, Err, IfErr, IfOk, Memory, arith, IsCause}
use Rattle.assistant_machine.specs.declared.fault.NoticeFault.{NoticeFault}
use Rattle.assistant_machine.specs.declared.fault.NoticeTaken.{NoticeTaken}

pub its_answer : (result answer : Result NoticeTaken NoticeFault) → result ≢ Err Memory → IfOk result (λ taken. answer ≡ Ok taken) → IfErr result (λ fault. IsCause fault answer)
    → result ≡ answer
its_answer result answer held is cause = grind arith
