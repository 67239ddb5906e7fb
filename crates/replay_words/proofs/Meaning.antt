-- What words mean, by what clap makes of them.
use Rattle.std.proofs.Common.{◌≡◌, ◌≢◌, ◌∙◌, ℕ, Bool, List, [], ◌∷◌, length, refl, sym, ap, cond, false, arith}
use Rattle.std.proofs.lemmas.Bool.{ne_eqb}
use Rattle.clap.specs.Walk.{is_empty}
use Rattle.clap.specs.Words.{Row, Text, fault_of, matches_of}
use Rattle.replay_words.specs.Words.{asked_of, mode_by_command, mode_of, the_command}
use Rattle.replay_words.specs.declared.mode.Mode.TheVariants.{Usage}

not_empty : {X : Type 0} (xs : List X) → xs ≢ [] → is_empty xs ≡ false
not_empty [] some = absurd (some refl)
not_empty (x ∷ xs) some = ne_eqb (length (x ∷ xs)) 0 (λ e. omega (arith, e))

by_command : (words : List Text) → length words ≢ 0 → mode_by_command words ≡ mode_of words
by_command [] some = absurd (some refl)
by_command (word ∷ words) some = refl

pub refused_is : (words : List Text) → length words ≢ 0 → fault_of the_command words ≢ [] → Usage ≡ mode_of words
unfolding mode_by_command
refused_is words some refused =
    let fails = not_empty (fault_of the_command words) refused in
    sym (rw fails refl) ∙ by_command words some

pub taken_is : (words : List Text) (rows : List Row) → length words ≢ 0 → fault_of the_command words ≡ [] → rows ≡ matches_of the_command words
    → asked_of rows ≡ mode_of words
unfolding mode_by_command
taken_is words rows some taken is =
    let chosen : asked_of (matches_of the_command words) ≡ mode_by_command words = rw taken refl in
    ap asked_of is ∙ chosen ∙ by_command words some
