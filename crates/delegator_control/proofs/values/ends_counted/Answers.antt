use Rattle.delegator_control.proofs.Prelude.{strip_suffix_is}
use Rattle.std.proofs.lemmas.Bool.Decides.{Decides-eqb}
use Rattle.delegator_control.proofs.Apart.{never_stripped}
use Rattle.delegator_control.proofs.values.ends_counted.Goals as goal

pub returns-in_default : goal.returns-in_default
returns-in_default c front same =
    absurd (never_stripped c.args.octets.now c.args.counted.now front c.strip_suffix.result
    (strip_suffix_is Decides-eqb c.args.octets.now c.args.counted.now c.strip_suffix.result c.strip_suffix.ensures.cases) c.in_default.is same)
