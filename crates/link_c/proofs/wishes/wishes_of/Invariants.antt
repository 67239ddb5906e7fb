use Rattle.link_c.proofs.Prelude.{◌≡◌, length, MetadataFits}
use Rattle.std.proofs.Common.{drop}
use Rattle.link_c.specs.Wishes.{wishes_in}
use Rattle.link_c.proofs.Wished.{with_prefix}
use Rattle.link_c.proofs.wishes.wishes_of.Given as goal

abbrev pub invariant-subgroups : goal.invariant-subgroups
invariant-subgroups l =
    (with_prefix l.wishes (wishes_in (drop l.bits-index l.bis_sync) l.rest) ≡ wishes_in l.bis_sync l.metadata)
    × MetadataFits l.wishes × (length l.wishes ≡ l.bits-index)
