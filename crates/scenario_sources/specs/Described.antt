-- What the lines before `start` say of a source, as the step of a scenario (the numbers of a group are those of the BIGInfo,
-- Core 5.2, volume 6 part B, section 4.4.6.11).
use Rattle.std.specs.Prelude.{ℕ, ◌≡◌, Option, unwrap_or}
use Rattle.big_info.specs.declared.info.BigInfo.{BigInfo}
use Rattle.scenario_text.specs.declared.step.Step.{Step}
use Rattle.scenario_text.specs.declared.step.Step.TheVariants.{Group}
use Rattle.scenario_history.specs.Source.{info_with, no_identity}
use Rattle.source_machine.specs.declared.setup.Identity.{Identity}

abbrev pub group_step : BigInfo → ℕ → ℕ → Step
group_step info origin delay =
    Group info.framing origin delay info.iso_interval info.sdu_interval info.max_sdu info.max_pdu info.num_bis info.bn info.nse info.irc
    info.pto info.sub_interval info.bis_spacing info.phy

-- nothing but what a `group` line says is set
abbrev pub IsPlain : BigInfo → Type 0
IsPlain info =
    info ≡ info_with info.framing info.iso_interval info.sdu_interval info.max_sdu info.max_pdu info.num_bis info.bn info.nse info.irc
    info.pto info.sub_interval info.bis_spacing info.phy

-- the identity of a source, where one was said or none
abbrev pub identity_or_none : Option Identity → Identity
identity_or_none said = unwrap_or said no_identity
