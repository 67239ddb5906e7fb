use Rattle.std.proofs.Common.{◌≡◌, ◌∙◌, refl, sym, ap, ap₂, option_map, codes}
use Rattle.clap.proofs.WalkLemmas.{first_value-rows}
use Rattle.clap.specs.Words.{found_of}
use Rattle.replay_words.specs.Words.{is_yes, asked}
use Rattle.replay_words.proofs.mode.mode_by.Goals as goal

pub returns : goal.returns
returns c =
    let found = found_of c.args.matches.now in
    let seed = c.get_str.ensures ∙ first_value-rows found (codes "seed") in
    let events = c.get_str-2.ensures ∙ first_value-rows found (codes "events") in
    rw (← c.is_given.ensures, ← c.is_given-2.ensures, ← seed, ← events) c.asked.ensures
