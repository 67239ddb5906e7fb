-- The migration law, over the airs of each stream by its framing: a text and the text in version 2.
use Rattle.scenario_laws.proofs.Known.Sources.{ℕ, ◌≡◌, ◌⊎◌, ◌+◌, nat_eq, cond, leb, Bool, true, List, [], ◌∷◌, ◌++◌, length, reverse, Option, None, arith, refl, sym, ◌∙◌, ap, subst, inl, inr, append-nil, TextLine, plain, too_long, line_limit, line_of, Account, Accepted, End, Rules, accepted_of, accepted_unless, end_unless, out, out_unless, refused, through, reverse_onto, is_blank, airs_of, Step, Refusal, LineTooLong, a_step, nothing, unsaid, output_said, refusal_said, said_in, steps_of, with_said, version_of, end_after, has_end, last_end_after, transcript_end, transcript_of, units_of, EndsLasting, IsLastingText, NonePrintsHorizon, Airs, MeetAirs, rules_of, MigrationLaw, text_lines, text_lines as lines_of, end_of, migrated, decimal_in, read_of, step_of, first_row_of, row_of, said_after, said_of, seconds}
use Rattle.std.specs.Fmt.{digits as numerals}
use Rattle.scenario_laws.proofs.Versions.Runs.{Begins, Its, Laws, RunAlike, RunsAlike, Stands, run_alike}
use Rattle.scenario_laws.proofs.Versions.Texts.{Turned, here, later, first_version, second_version, same_count, text_turn}

-- ---- an empty line, or a comment

blank_if : (long : Bool) (version : ℕ) (line : List ℕ) → is_blank line ≡ true
    → (said_in version (cond long (plain line) too_long) ≡ nothing) ⊎ (said_in version (cond long (plain line) too_long) ≡ unsaid LineTooLong)
unfolding read_of
blank_if long version line blank = grind arith

-- a line that both histories accept, and that brings nothing
skips : (starts : List Account) (history others : List TextLine) (reason reason' : Option Refusal)
    (brought brought' octets octets' : List ℕ) (end end' : End Refusal)
    (all all' : List TextLine) → reason ≡ None → reason' ≡ None → brought ≡ [] → brought' ≡ [] → RunsAlike octets octets' end end' all all'
    → RunsAlike (out_unless (Its starts) history reason (brought ++ octets)) (out_unless (Its starts) others reason' (brought' ++ octets'))
    (end_unless history reason end) (end_unless others reason' end') (accepted_unless history reason all)
    (accepted_unless others reason' all')
skips starts history others reason reason' brought brought' octets octets' end end' all all' none none' empty empty' alike =
    grind (arith, out_unless, end_unless, accepted_unless)

lasting_next : (history : List TextLine) (reason : Option Refusal) (end : End Refusal) → reason ≡ None
    → EndsLasting (end_unless history reason end) → EndsLasting end
lasting_next history reason end none lasting = subst (λ r. EndsLasting (end_unless history r end)) none lasting

-- ---- the line of the version

says_first : said_in 1 (plain first_version) ≡ a_step (Step.Scenario 1)
unfolding read_of step_of row_of first_row_of decimal_in numerals
says_first = refl

says_second : said_in 1 (plain second_version) ≡ a_step (Step.Scenario 2)
unfolding read_of step_of row_of first_row_of decimal_in numerals
says_second = refl

first_says : (made : List Step) → made ≡ [] → said_in (version_of made) (plain first_version) ≡ a_step (Step.Scenario 1)
first_says made none = subst (λ before. said_in (version_of before) (plain first_version) ≡ a_step (Step.Scenario 1)) (sym none) says_first

second_says : (made : List Step) → made ≡ [] → said_in (version_of made) (plain second_version) ≡ a_step (Step.Scenario 2)
second_says made none = cc (none, says_second)

-- what the line of the version says behind lines that say no step
abbrev SaysVersion : List TextLine → ℕ → List ℕ → Type 0
SaysVersion history version line = said_after history (plain line) ≡ a_step (Step.Scenario version)

its_refusal : (starts : List Account) (history : List TextLine) (version : ℕ) (line : List ℕ) → said_of history ≡ []
    → SaysVersion history version line → (Its starts).refusal history (plain line) ≡ None
its_refusal starts history version line none says = grind (arith, none)

its_output : (starts : List Account) (history : List TextLine) (version : ℕ) (line : List ℕ) → SaysVersion history version line
    → (Its starts).output history (plain line) ≡ []
its_output starts history version line says = ap (output_said airs_of starts (steps_of airs_of history)) says

first_stands : (starts : List Account) (history : List TextLine) → said_of history ≡ [] → Accepted (Its starts) history
    → Stands starts (plain first_version ∷ history) (plain second_version ∷ history)
first_stands starts history none accepted = grind (arith, first_says, second_says, seconds, nat_eq, its_refusal)

-- ---- the lines of both texts

first_alike : Laws → (starts : List Account) (all history rest : List TextLine) → NonePrintsHorizon airs_of starts all
    → Begins all history (plain first_version ∷ rest)
    → said_of history ≡ [] → Accepted (Its starts) history → EndsLasting (end_of (Its starts) history (plain first_version ∷ rest))
    → RunAlike starts history history (plain first_version ∷ rest) (plain second_version ∷ rest)
first_alike laws starts all history rest never begins none accepted lasting =
    let one : SaysVersion history 1 first_version = first_says (said_of history) none in
    let two : SaysVersion history 2 second_version = second_says (said_of history) none in
    let none_one : (Its starts).refusal history (plain first_version) ≡ None = its_refusal starts history 1 first_version none one in
    let none_two : (Its starts).refusal history (plain second_version) ≡ None = its_refusal starts history 2 second_version none two in
    skips starts history history ((Its starts).refusal history (plain first_version)) ((Its starts).refusal history (plain second_version))
    ((Its starts).output history (plain first_version)) ((Its starts).output history (plain second_version))
    (out (Its starts) (plain first_version ∷ history) rest) (out (Its starts) (plain second_version ∷ history) rest)
    (end_of (Its starts) (plain first_version ∷ history) rest) (end_of (Its starts) (plain second_version ∷ history) rest)
    (accepted_of (Its starts) (plain first_version ∷ history) rest) (accepted_of (Its starts) (plain second_version ∷ history) rest)
    none_one none_two (its_output starts history 1 first_version one) (its_output starts history 2 second_version two)
    (search (run_alike, plain, first_version, second_version, reverse_onto, first_stands, lasting_next))

turned_alike : Laws → (starts : List Account) (all history lines others : List TextLine) → NonePrintsHorizon airs_of starts all
    → Begins all history lines → said_of history ≡ [] → Accepted (Its starts) history → EndsLasting (end_of (Its starts) history lines)
    → Turned lines others → RunAlike starts history history lines others
turned_alike laws starts all history _ _ never begins none accepted lasting (later line lines others blank turned) =
    let it : TextLine = line_of line in
    elim (blank_if (leb (length line) line_limit) (version_of (said_of history)) line blank) [
      | inl says ↦
          let passes : (Its starts).refusal history it ≡ None = ap (refusal_said airs_of (length starts) (steps_of airs_of history)) says in
          let empty : (Its starts).output history it ≡ [] = ap (output_said airs_of starts (steps_of airs_of history)) says in
          skips starts history history ((Its starts).refusal history it) ((Its starts).refusal history it) ((Its starts).output history it)
          ((Its starts).output history it)
          (out (Its starts) (it ∷ history) lines) (out (Its starts) (it ∷ history) others) (end_of (Its starts) (it ∷ history) lines)
          (end_of (Its starts) (it ∷ history) others)
          (accepted_of (Its starts) (it ∷ history) lines) (accepted_of (Its starts) (it ∷ history) others) passes passes empty empty
          (turned_alike laws starts all (it ∷ history) lines others never (begins ∙ sym (reverse_onto it history lines))
          (ap (λ said. with_said said (said_of history)) says ∙ none) (accepted, passes)
          (lasting_next history ((Its starts).refusal history it) (end_of (Its starts) (it ∷ history) lines) passes lasting) turned)
      | inr says ↦ grind (arith, out, accepted_of, refusal_said, airs_of, length, steps_of)
    ]
turned_alike laws starts all history _ _ never begins none accepted lasting (here rest) = search (first_alike)

-- ---- the transcripts

-- where a run goes through all its lines, it accepts them all
through_all : {L R : Type 0} (rules : Rules L R) (history lines : List L) → end_of rules history lines ≡ through
    → accepted_of rules history lines ≡ reverse lines ++ history
through_all rules history [] is = refl
through_all rules history (line ∷ lines) is = grind (arith, reverse_onto, (through_all rules (line ∷ history) lines))

lasting_before : (end : End Refusal) (over : Bool) (number : ℕ) → EndsLasting (last_end_after end over number) → EndsLasting end
lasting_before (refused line reason) over number lasting = lasting
lasting_before through over number lasting = tt

-- the transcripts of two lists of lines, their ends and the units are the same
pub record LinesAlike (starts : List Account) (lines others : List TextLine) : Type 0 where
  pub octets : transcript_of airs_of starts others ≡ transcript_of airs_of starts lines
  pub end : transcript_end airs_of starts others ≡ transcript_end airs_of starts lines
  pub units : units_of airs_of starts others ≡ units_of airs_of starts lines

lines_alike : (starts : List Account) (lines others : List TextLine) → length others ≡ length lines → RunAlike starts [] [] lines others
    → LinesAlike starts lines others
lines_alike starts lines others count alike = grind (arith, through, through_all, append-nil, reverse, length, refused)

pub text_alike : Laws → (starts : List Account) (text : List ℕ) → IsLastingText airs_of starts text
    → LinesAlike starts (text_lines true text) (text_lines true (migrated text))
text_alike laws starts text lasting = elim (text_turn text) [
  | inl same ↦ search arith
  | inr turned ↦ search (lines_alike, same_count, turned_alike, lasting_before, end_after, airs_of, has_end, length)
]

-- ---- the migration law over any airs that meet the relation of their framing, one for the text and one for the text in version 2

-- any two airs that meet their relation give one transcript
pub record OneTranscript : Type 0 where
  pub octets : (airs others : Airs) (starts : List Account) (lines : List TextLine) → MeetAirs airs → MeetAirs others
      → transcript_of airs starts lines ≡ transcript_of others starts lines
  pub end : (airs others : Airs) (starts : List Account) (lines : List TextLine) → MeetAirs airs → MeetAirs others
      → transcript_end airs starts lines ≡ transcript_end others starts lines
  pub units : (airs others : Airs) (starts : List Account) (lines : List TextLine) → MeetAirs airs → MeetAirs others
      → units_of airs starts lines ≡ units_of others starts lines
  pub accepted : (airs others : Airs) (starts : List Account) (lines : List TextLine) → MeetAirs airs → MeetAirs others
      → Accepted (rules_of airs starts) lines → Accepted (rules_of others starts) lines
  pub steps : (airs others : Airs) (starts : List Account) (lines : List TextLine) → MeetAirs airs → MeetAirs others
      → Accepted (rules_of airs starts) lines → steps_of airs lines ≡ steps_of others lines

lasting_over : OneTranscript → MeetAirs airs_of → (airs : Airs) (starts : List Account) (text : List ℕ) → MeetAirs airs
    → IsLastingText airs starts text → IsLastingText airs_of starts text
lasting_over one meet airs starts text meets lasting = record {
  trains = λ earlier line later is accepted prints. lasting.trains earlier line later is
      (one.accepted airs_of airs starts (line ∷ earlier) meet meets accepted) (grind (arith, airs_of));
  end = subst EndsLasting (one.end airs airs_of starts (lines_of true text) meets meet) lasting.end;
}

pub migration_law_holds : Laws → OneTranscript → MeetAirs airs_of → (starts : List Account) → MigrationLaw starts
migration_law_holds laws one meet starts airs others meets meet_too text lasting =
    let alike : LinesAlike starts (lines_of true text) (lines_of true (migrated text)) =
    text_alike laws starts text (lasting_over one meet airs starts text meets lasting) in
    record { octets = grind (arith, airs_of); end = grind (arith, airs_of); units = grind (arith, airs_of) }
