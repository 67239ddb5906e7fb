use Rattle.isoal_unframed.proofs.HeldLaws.{held_is_longest, longest_is_held}
use Rattle.isoal_unframed.proofs.laws.longest_prefix_is_held.Goals as goal

pub returns : goal.returns
returns c max_sdu slot octets = (held_is_longest max_sdu slot octets, longest_is_held max_sdu slot octets)
