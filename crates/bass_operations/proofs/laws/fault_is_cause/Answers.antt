use Rattle.bass_operations.proofs.Causes.{fault_found, fault_told}
use Rattle.bass_operations.proofs.laws.fault_is_cause.Goals as goal

pub returns : goal.returns
returns c fault octets some h = (fault_found fault octets h, fault_told fault octets some h)
