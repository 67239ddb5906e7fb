use Rattle.bass_operations.proofs.Twice.{lowest_found, lowest_told, none_twice, twice_none}
use Rattle.bass_operations.proofs.laws.twice_is_lowest.Goals as goal

pub returns-clause-lowest : goal.returns-clause-lowest
returns-clause-lowest c bis wishes = (lowest_found bis wishes, lowest_told bis wishes)

pub returns-clause-none : goal.returns-clause-none
returns-clause-none c wishes = (none_twice wishes, twice_none wishes)
