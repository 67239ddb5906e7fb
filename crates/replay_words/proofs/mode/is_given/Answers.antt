use Rattle.std.proofs.Common.{◌≡◌, ◌∙◌, refl, sym, ap, option_map}
use Rattle.clap.proofs.WalkLemmas.{first_value-rows}
use Rattle.clap.specs.Words.{found_of}
use Rattle.replay_words.specs.Words.{is_yes}
use Rattle.replay_words.proofs.mode.is_given.Goals as goal

pub returns-in-None : goal.returns-in-None
returns-in-None c =
    let row = first_value-rows (found_of c.args.matches.now) c.args.flag.now in
    ap is_yes (ap (option_map (λ s. s.now)) (sym c.in-None.is) ∙ c.get_str.ensures ∙ row)

pub returns-in-Some : goal.returns-in-Some
returns-in-Some c =
    let row = first_value-rows (found_of c.args.matches.now) c.args.flag.now in
    c.eq.ensures ∙ ap is_yes (ap (option_map (λ s. s.now)) (sym c.in-Some.is) ∙ c.get_str.ensures ∙ row)
