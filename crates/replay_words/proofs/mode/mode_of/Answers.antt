use Rattle.std.proofs.Common.{◌≡◌, ◌≢◌, ◌∙◌, refl, sym, ap, map, length, string_bytes, List, ℕ, []}
use Rattle.std.proofs.lemmas.List.{length-map}
use Rattle.clap.specs.Words.{fault_of}
use Rattle.replay_words.specs.Words.{the_command}
use Rattle.replay_words.proofs.Meaning.{refused_is, taken_is}
use Rattle.replay_words.proofs.mode.mode_of.Goals as goal

pub returns-in-None-clause-meaning : goal.returns-in-None-clause-meaning
returns-in-None-clause-meaning c =
    let some : length (map string_bytes c.args.words.now) ≢ 0 = λ e. c.if-count-eq0.false (c.count.ensures ∙ sym (length-map c.args.words.now string_bytes) ∙ e) in
    let refused = rw (c.in-None.is, c.as_slice.ensures) at c.in_ok-matches_of.ensures in
    refused_is (map string_bytes c.args.words.now) some refused

pub returns-in-Some-clause-meaning : goal.returns-in-Some-clause-meaning
returns-in-Some-clause-meaning c =
    let some : length (map string_bytes c.args.words.now) ≢ 0 = λ e. c.if-count-eq0.false (c.count.ensures ∙ sym (length-map c.args.words.now string_bytes) ∙ e) in
    let taken = rw (c.in-Some.is, c.as_slice.ensures) at c.in_ok-matches_of.ensures in
    c.mode_by.ensures.meaning ∙ taken_is (map string_bytes c.args.words.now) _ some taken.0 taken.1
