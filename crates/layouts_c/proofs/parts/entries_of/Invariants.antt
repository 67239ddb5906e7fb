use Rattle.std.proofs.Common.{◌≡◌, map, take}
use Rattle.layouts_c.specs.BaseParts.{entry_in, streams_at}
use Rattle.layouts_c.proofs.parts.entries_of.Given as goal

abbrev pub invariant-loop-it : goal.invariant-loop-it
invariant-loop-it l = l.entries ≡ map (entry_in l.octets) (streams_at l.place (take l.it-index l.streams))
