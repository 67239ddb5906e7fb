use Rattle.receive_state.proofs.CutStates.{fault_found, fault_told}
use Rattle.receive_state.proofs.laws.fault_is_cause.Goals as goal

pub returns : goal.returns
returns c fault octets some h = (fault_found fault octets h some, fault_told fault octets some)
