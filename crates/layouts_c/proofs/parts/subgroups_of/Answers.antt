use Rattle.std.proofs.Common.{◌∙◌, ap, sym, subst}
use Rattle.std.proofs.lemmas.List.{take_all}
use Rattle.std.specs.List.{AllByRecursion}
use Rattle.base_grammar.specs.Layout.{HasCodec}
use Rattle.layouts_c.specs.BaseParts.{subgroups_in}
use Rattle.layouts_c.proofs.Parted.{codecs_more, subgroups_next}
use Rattle.layouts_c.proofs.parts.subgroups_of.Goals as goal

pub subgroups-preserved : goal.subgroups-preserved
subgroups-preserved c = record {
  subgroups = c.in_ok-push-in-Ok.ensures.items
      ∙ subgroups_next _ c.args.octets.now c.args.streams.now c.args.subgroups.now c.subgroups.place c.subgroups.made.items c.in-Ok.subgroup
      c.subgroups-test.true c.subgroups.invariant.subgroups c.in-Ok.ensures.subgroup;
  codecs = subst (AllByRecursion HasCodec) (sym c.in_ok-push-in-Ok.ensures.items)
      (codecs_more c.subgroups.made.items c.in-Ok.subgroup c.subgroups.invariant.codecs c.in-Ok.ensures.codec);
}

pub returns-clause-subgroups : goal.returns-clause-subgroups
returns-clause-subgroups c = c.subgroups.invariant.subgroups
    ∙ ap (subgroups_in c.args.octets.now c.args.streams.now 0) (take_all c.subgroups.place c.args.subgroups.now c.subgroups-test.false)

pub returns-clause-codecs : goal.returns-clause-codecs
returns-clause-codecs c = c.subgroups.invariant.codecs
