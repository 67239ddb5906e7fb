use Rattle.bass_operations.proofs.scanning.check_wishes.Goals as goal

pub returns-in-Some : goal.returns-in-Some
returns-in-Some c = rw (← c.reserved_subgroup.ensures, c.in-Some.is)
