use Rattle.receive_state.proofs.Judged.{read_is, is_read}
use Rattle.receive_state.proofs.laws.read_is_state.Goals as goal

pub returns : goal.returns
returns c value octets h = (read_is value octets h, is_read value octets)
