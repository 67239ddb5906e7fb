use Rattle.std.proofs.Common.{◌≡◌, take}
use Rattle.isoal_base.proofs.laid_pdus.LaidPdus.copied.Given as goal

abbrev pub invariant-pdus : goal.invariant-pdus
invariant-pdus l = l.pdus ≡ take l.i l.self-inside.pdus.items
