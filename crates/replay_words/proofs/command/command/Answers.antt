use Rattle.std.proofs.Common.{◌≡◌, ◌∙◌, ap, false}
use Rattle.clap.specs.Words.{AddsArg, App, Rule, app_of, rule_of, with_rule}
use Rattle.clap.specs.declared.builder.arg.Arg.{Arg}
use Rattle.clap.specs.declared.builder.command.Command.{Command}
use Rattle.replay_words.proofs.command.command.Goals as goal

added : (old new : Command) (arg : Arg) (app : App) (rule : Rule) → AddsArg old arg new → arg.global ≡ false → app_of old ≡ app → rule_of arg ≡ rule
    → app_of new ≡ with_rule app rule
added old new arg app rule adds local was is = adds.shape local ∙ ap (λ a. with_rule a (rule_of arg)) was ∙ ap (with_rule app) is

pub returns : goal.returns
returns c =
    added _ _ _ _ _ c.in_ok-command.ensures c.flag-2.ensures.local (added _ _ _ _ _ c.in_ok-arg-3.ensures c.flag.ensures.local
    (added _ _ _ _ _ c.in_ok-arg-2.ensures c.value_option-2.ensures.local
    (added _ _ _ _ _ c.in_ok-arg.ensures c.value_option.ensures.local c.bare_command.ensures c.value_option.ensures.rule) c.value_option-2.ensures.rule)
    c.flag.ensures.rule) c.flag-2.ensures.rule
