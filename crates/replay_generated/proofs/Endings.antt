-- How the generated lines end: at their last, or where no box is left for a sink.
use Rattle.replay_generated.proofs.Prelude.{◌≡◌, ℕ, zero, suc, ◌+◌, ◌<◌, ◌≤◌, true, false, List, [], ◌∷◌, length, map, refl, sym, ap, subst, ◌∙◌, arith, None, Some, Ok, lt-leb, le-leb, TextLine, plain, Account, airs_of, Refusal, NoOutlet, End, through, refused, end_of, end_unless, LineIs, Step, generated_lines, a_step, refusal_said, rules_of, said_after, said_by, said_in, said_of, with_said, refusal_of, version_of, end_after, has_end, last_end_after, transcript_end, refusal_at, lines_made}
use Rattle.scenario_text.specs.Steps.{read_of}
use Rattle.scenario_history.specs.Relays.{has_relay, makes_relay}
use Rattle.scenario_laws.proofs.RelayedUnits.Citable.{SaidNever, none_relayed, nothing_else, plain_after, says_no_relay}
use Rattle.replay_generated.proofs.Accepting.{AllFine, all_fine, first_sink, made_steps, second_sink}
use Rattle.replay_generated.proofs.EndLines.{made_end}
use Rattle.replay_generated.proofs.GeneratedText.{generated_read}
use Rattle.replay_generated.proofs.Saying.{AllSay, all_say}

-- a line reads as the step that it says
abbrev pub Reads : Type 0
Reads = (version : ℕ) (line : List ℕ) (next : Step) → LineIs version next line → read_of version line ≡ Ok (Some next)

-- a step that a line of version 1 says is no `relay`
never_relay : (line : List ℕ) (next : Step) → read_of 1 line ≡ Ok (Some next) → makes_relay next ≡ false
never_relay line next reads = subst SaidNever (ap said_by reads) (says_no_relay 1 (plain line) refl)

-- so many of these steps aren't refused after those made before, and the next one is for this reason; all are of version 1
abbrev FailsAt : ℕ → List Step → List Step → ℕ → Refusal → Type 0
FailsAt boxes made [] n reason = ⊥
FailsAt boxes made (next ∷ later) zero reason = (version_of made ≡ 1) × (refusal_of airs_of boxes made next ≡ Some reason)
FailsAt boxes made (next ∷ later) (suc n) reason =
    ((version_of made ≡ 1) × (refusal_of airs_of boxes made next ≡ None)) × FailsAt boxes (next ∷ made) later n reason

module _ (reads : Reads) (starts : List Account) where
  -- the next line says a step
  module _ (history : List TextLine) (made : List Step) (line : List ℕ) (next : Step) (are : said_of history ≡ made) (unrelayed : has_relay made ≡ false)
      (version : version_of made ≡ 1) (says : LineIs 1 next line) where
    said : said_after history (plain line) ≡ a_step next
    said =
        ap (λ m. said_in (version_of m) (plain line)) are ∙ ap (λ v. said_by (read_of v line)) version ∙ ap said_by (reads 1 line next says)

    because : refusal_at starts history (plain line) ≡ refusal_of airs_of (length starts) made next
    because =
        ap (λ m. refusal_said airs_of (length starts) m (said_after history (plain line)))
        (nothing_else airs_of (said_of history) (ap has_relay are ∙ unrelayed) ∙ are)
        ∙ ap (refusal_said airs_of (length starts) made) said ∙ none_relayed (length starts) airs_of made next unrelayed

    made_next : said_of (plain line ∷ history) ≡ next ∷ made
    made_next = ap (λ w. with_said w (said_of history)) said ∙ ap (λ m. next ∷ m) are

    accepted_next : (later : List TextLine) → refusal_of airs_of (length starts) made next ≡ None
        → end_of (rules_of airs_of starts) history (plain line ∷ later) ≡ end_of (rules_of airs_of starts) (plain line ∷ history) later
    accepted_next later none = ap (λ why. end_unless history why (end_of (rules_of airs_of starts) (plain line ∷ history) later)) (because ∙ none)

    refused_next : (later : List TextLine) (reason : Refusal) → refusal_of airs_of (length starts) made next ≡ Some reason
        → end_of (rules_of airs_of starts) history (plain line ∷ later) ≡ refused (length history + 1) reason
    refused_next later reason is = ap (λ why. end_unless history why (end_of (rules_of airs_of starts) (plain line ∷ history) later)) (because ∙ is)

  all_accepted : (history : List TextLine) (made : List Step) (lines : List (List ℕ)) (steps : List Step) → said_of history ≡ made
      → has_relay made ≡ false → AllSay lines steps
      → AllFine (length starts) made steps → end_of (rules_of airs_of starts) history (map plain lines) ≡ through
  all_accepted history made [] [] are unrelayed say fine = refl
  all_accepted history made (line ∷ lines) (next ∷ later) are unrelayed say fine =
      accepted_next history made line next are unrelayed fine.0.0 say.0 (map plain lines) fine.0.1
      ∙ all_accepted (plain line ∷ history) (next ∷ made) lines later (made_next history made line next are unrelayed fine.0.0 say.0)
      (plain_after made next (never_relay line next (reads 1 line next say.0)) unrelayed) say.1 fine.1
  all_accepted history made _ _ are unrelayed say fine = absurd say

  all_refused : (history : List TextLine) (made : List Step) (n number : ℕ) (lines : List (List ℕ)) (steps : List Step) (reason : Refusal)
      → number ≡ length history + n + 1 → said_of history ≡ made → has_relay made ≡ false → AllSay lines steps
      → FailsAt (length starts) made steps n reason → end_of (rules_of airs_of starts) history (map plain lines) ≡ refused number reason
  all_refused history made zero number (line ∷ lines) (next ∷ later) reason is are unrelayed say fails =
      refused_next history made line next are unrelayed fails.0 say.0 (map plain lines) reason fails.1
      ∙ ap (λ k. refused k reason) (omega arith)
  all_refused history made (suc n) number (line ∷ lines) (next ∷ later) reason is are unrelayed say fails =
      accepted_next history made line next are unrelayed fails.0.0 say.0 (map plain lines) fails.0.1
      ∙ all_refused (plain line ∷ history) (next ∷ made) n number lines later reason (omega arith)
      (made_next history made line next are unrelayed fails.0.0 say.0)
      (plain_after made next (never_relay line next (reads 1 line next say.0)) unrelayed) say.1 fails.1
  all_refused history made n number [] [] reason is are unrelayed say fails = absurd fails
  all_refused history made n number _ _ reason is are unrelayed say fails = absurd say

  -- ---- the generated lines

  module _ (seed events : ℕ) (most : events ≤ 100000) where
    made_as : lines_made seed events ≡ map plain (generated_lines seed events)
    made_as = generated_read seed events most

    last_of : (end : End Refusal) → end_of (rules_of airs_of starts) [] (map plain (generated_lines seed events)) ≡ end
        → transcript_end airs_of starts (lines_made seed events) ≡ last_end_after end true (length (lines_made seed events) + 1)
    last_of end is =
        ap (λ e. last_end_after e (has_end (lines_made seed events)) (length (lines_made seed events) + 1)) (ap (end_after airs_of starts) made_as ∙ is)
        ∙ ap (λ b. last_end_after end b (length (lines_made seed events) + 1)) (made_end seed events made_as)

    pub made_through : 2 ≤ length starts → transcript_end airs_of starts (lines_made seed events) ≡ through
    made_through two =
        last_of through (all_accepted [] [] (generated_lines seed events) (made_steps seed events) refl refl (all_say seed events) (all_fine (length starts) seed events two most))

    pub made_refused : length starts < 2 → transcript_end airs_of starts (lines_made seed events) ≡ refused (length starts + 3) NoOutlet
    made_refused few = by_count (length starts) refl few
      where
        fails : (n number : ℕ) → number ≡ n + 1 → FailsAt (length starts) [] (made_steps seed events) n NoOutlet
            → transcript_end airs_of starts (lines_made seed events) ≡ refused number NoOutlet
        fails n number is at =
            last_of (refused number NoOutlet)
            (all_refused [] [] n number (generated_lines seed events) (made_steps seed events) NoOutlet (omega arith) refl refl
            (all_say seed events) at)

        by_count : (n : ℕ) → length starts ≡ n → n < 2 → transcript_end airs_of starts (lines_made seed events) ≡ refused (length starts + 3) NoOutlet
        by_count zero is less =
            fails 2 3 refl (
              (refl, refl),
              (
                (refl, refl),
                (
                  refl,
                  first_sink (length starts) true (le-leb (length starts) 0 (omega (arith, is))),
                ),
              ),
            ) ∙ ap (λ n. refused (n + 3) NoOutlet) (sym is)
        by_count (suc zero) is less =
            fails 3 4 refl (
              (refl, refl),
              (
                (refl, refl),
                (
                  (
                    refl,
                    first_sink (length starts) false (lt-leb (length starts) 0 (omega (arith, is))),
                  ),
                  (refl, second_sink (length starts) true (le-leb (length starts) 1 (omega (arith, is)))),
                ),
              ),
            )
            ∙ ap (λ n. refused (n + 3) NoOutlet) (sym is)
        by_count (suc (suc n)) is less = absurd (omega arith)
