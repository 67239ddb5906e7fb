use Rattle.std.proofs.Common.{◌≡◌, take}
use Rattle.std.specs.List.{AllByRecursion}
use Rattle.base_grammar.specs.Layout.{HasCodec}
use Rattle.layouts_c.specs.BaseParts.{subgroups_in}
use Rattle.layouts_c.proofs.parts.subgroups_of.Given as goal

abbrev pub invariant-subgroups : goal.invariant-subgroups
invariant-subgroups l = record {
  subgroups : l.made.items ≡ subgroups_in l.octets l.streams 0 (take l.place l.subgroups);
  codecs : AllByRecursion HasCodec l.made.items;
}
