-- What a run over lines did, by its history.
use Rattle.replay_generated.proofs.Prelude.{◌≡◌, ℕ, ◌+◌, true, List, [], ◌∷◌, ◌++◌, length, map, reverse, refl, sym, ap, subst, ◌∙◌, append_assoc, arith, Option, None, Some, Result, Ok, Err, inl, inr, append-nil, TextLine, plain, Account, airs_of, Refusal, refusal_line, lines_of, counts_of, none_counted, with_lines, Counts, counts_append, whole_append, whole_none, through, refused, out, end_of, accepted_of, accepted_unless, brought, Accepted, SinkUnit, accounts_after, handed_up, Took, rules_of, steps_of, said_after, handed_on, out_of, end_after, last_end_after, has_end, transcript_of, transcript_end, units_of, LinesStand, LineMeets, refusal_at, output_at, answered_on, box_fails, meets_at, unassigned_line, took_as, took_history, handed_line, Counted, PrefixTaken, LineRuns, Ran, Refuses, RunTo, Told, Ending}
use Rattle.transcript_text.specs.declared.stop.Stop.{Stop}
use Rattle.transcript_text.specs.declared.stop.Stop.TheVariants as stops
use Rattle.scenario_history.proofs.Citable.{out_accepted, end_accepted, accepted_accepted, reverse_onto, took_all}
use Rattle.scenario_sinks.proofs.Citable.{accounts_append}
use Rattle.replay_steps.specs.declared.machine.Machine.{Machine}
use Rattle.replay_steps.specs.Unassigned.{UnassignedRun, UnassignedSame}
use Rattle.replay_generated.specs.declared.running.Ending.TheVariants as endings
use Rattle.replay_generated.proofs.Outputs.{said_whole}

-- ---- the transcript over an accepted history

module _ (starts : List Account) (history : List TextLine) (accepted : Accepted (rules_of airs_of starts) history) where
  out_then : (lines : List TextLine) → out_of airs_of starts (reverse history ++ lines)
      ≡ brought (rules_of airs_of starts) history ++ out (rules_of airs_of starts) history lines
  out_then lines = out_accepted (rules_of airs_of starts) history lines accepted

  end_then : (lines : List TextLine) → end_after airs_of starts (reverse history ++ lines) ≡ end_of (rules_of airs_of starts) history lines
  end_then lines = end_accepted (rules_of airs_of starts) history lines accepted

  units_then : (lines : List TextLine) → units_of airs_of starts (reverse history ++ lines)
      ≡ handed_up airs_of (steps_of airs_of (accepted_of (rules_of airs_of starts) history lines))
  units_then lines = ap (λ all. handed_up airs_of (steps_of airs_of all)) (accepted_accepted (rules_of airs_of starts) history lines accepted)

  pub units_all : units_of airs_of starts (reverse history) ≡ handed_up airs_of (steps_of airs_of history)
  units_all = simp append-nil at (units_then [])

  -- the history is all, and `end` is among it
  module _ (lines : List TextLine) (whole : lines ≡ reverse history ++ []) (over : has_end lines ≡ true) where
    end_through : end_after airs_of starts lines ≡ through
    end_through = ap (end_after airs_of starts) whole ∙ end_then []

    ends_through : transcript_end airs_of starts lines ≡ through
    ends_through = λ i. last_end_after (end_through i) (over i) (length lines + 1)

    writes_through : transcript_of airs_of starts lines ≡ brought (rules_of airs_of starts) history
    writes_through = grind (arith, append-nil, out_then [], end_through)

    units_through : units_of airs_of starts lines ≡ handed_up airs_of (steps_of airs_of history)
    units_through = ap (units_of airs_of starts) whole ∙ units_then []

  -- a line is refused
  module _ (lines : List TextLine) (line : TextLine) (later : List TextLine) (reason : Refusal) (whole : lines ≡ reverse history ++ line ∷ later)
      (because : refusal_at starts history line ≡ Some reason) where
    out_refused : out (rules_of airs_of starts) history (line ∷ later) ≡ refusal_line (length history + 1) reason
    out_refused = rw because

    end_refused : end_after airs_of starts lines ≡ refused (length history + 1) reason
    end_refused = ap (end_after airs_of starts) whole ∙ end_then (line ∷ later) ∙ rw because

    ends_refused : transcript_end airs_of starts lines ≡ refused (length history + 1) reason
    ends_refused = ap (λ e. last_end_after e (has_end lines) (length lines + 1)) end_refused

    writes_refused : transcript_of airs_of starts lines ≡ brought (rules_of airs_of starts) history ++ refusal_line (length history + 1) reason
    writes_refused = grind (arith, append-nil, out_then (line ∷ later), end_refused, out_refused)

    units_refused : units_of airs_of starts lines ≡ handed_up airs_of (steps_of airs_of history)
    units_refused = ap (units_of airs_of starts) whole ∙ units_then (line ∷ later) ∙ rw because

-- ---- the units of further lines

units_rest : (starts : List Account) (history lines : List TextLine) → (rest : List SinkUnit)
    × (handed_up airs_of (steps_of airs_of (accepted_of (rules_of airs_of starts) history lines))
    ≡ handed_up airs_of (steps_of airs_of history) ++ rest)
units_rest starts history [] = ([], sym (append-nil (handed_up airs_of (steps_of airs_of history))))
units_rest starts history (line ∷ lines) = by (refusal_at starts history line) (units_rest starts (line ∷ history) lines)
  where
    by : (why : Option Refusal) → (rest : List SinkUnit)
        × (handed_up airs_of (steps_of airs_of (accepted_of (rules_of airs_of starts) (line ∷ history) lines))
        ≡ handed_up airs_of (steps_of airs_of (line ∷ history)) ++ rest) → (rest : List SinkUnit)
        × (handed_up airs_of (steps_of airs_of (accepted_unless history why (accepted_of (rules_of airs_of starts) (line ∷ history) lines)))
        ≡ handed_up airs_of (steps_of airs_of history) ++ rest)
    by (Some reason) more = ([], sym (append-nil (handed_up airs_of (steps_of airs_of history))))
    by None more = (
      handed_on airs_of history line ++ more.0,
      more.1 ∙ ap (λ us. us ++ more.0) (handed_line airs_of history line) ∙ simp append_assoc,
    )

-- the units of an accepted line come behind those of the history
pub units_line : (starts : List Account) (history : List TextLine) (line : TextLine) (later : List TextLine)
    → Accepted (rules_of airs_of starts) history → refusal_at starts history line ≡ None → (rest : List SinkUnit)
    × (units_of airs_of starts (reverse history ++ line ∷ later)
    ≡ (handed_up airs_of (steps_of airs_of history) ++ handed_on airs_of history line) ++ rest)
units_line starts history line later accepted none =
    let more = units_rest starts (line ∷ history) later in (
      more.0,
      units_then starts history accepted (line ∷ later) ∙ rw none (more.1 ∙ ap (λ us. us ++ more.0) (handed_line airs_of history line)),
    )

-- ---- what the boxes took

took_at : (starts accounts others : List Account) (us : List SinkUnit) → others ≡ accounts → Took starts accounts us → Took starts others us
took_at starts accounts others us e t = let P : List Account → Type 0 = λ a. Took starts a us in subst P (sym e) t

-- ---- the run as far as it came

-- the lines so far were run, and these are left
pub record Running {A : Type 0} (olds news : List A) (starts accounts : List Account) (lines : List TextLine) (left : List (List ℕ)) (number : ℕ) (machine : Machine)
    (counts : Counts) : Type 0 where
  pub history : List TextLine
  pub whole : lines ≡ reverse history ++ map plain left
  pub number_is : number ≡ length history
  pub run : RunTo starts history counts machine accounts
  pub unassigned : UnassignedSame (steps_of airs_of history) olds news

pub running_none : {A : Type 0} (olds : List A) (starts : List Account) (lines : List TextLine) (left all : List (List ℕ)) (machine : Machine) (counts : Counts) → lines ≡ map plain all → left ≡ all
    → ((start : List Account) → LinesStand start [] machine start) → counts ≡ none_counted → Running olds olds starts starts lines left 0 machine counts
running_none olds starts lines left all machine counts are is stands none = record {
  history = [];
  whole = are ∙ ap (λ ls. map plain ls) (sym is);
  number_is = refl;
  run = record { accepted = tt; whole = whole_none; counted = none; stands = stands starts };
  unassigned = λ box least. refl;
}

module _ {A : Type 0} {olds news : List A} {starts accounts : List Account} {lines : List TextLine} {left : List (List ℕ)} {number : ℕ}
    {machine : Machine} {counts : Counts} (r : Running olds news starts accounts lines left number machine counts) where
  took : Took starts accounts (handed_up airs_of (steps_of airs_of r.history))
  took = took_history starts accounts r.history r.run.stands.boxes

  -- the boxes that no line so far took, and after the next line
  pub unassigned_here : UnassignedRun starts lines olds news
  unassigned_here = record { earlier = r.history; later = map plain left; split = r.whole; accepted = r.run.accepted; same = r.unassigned }

  pub unassigned_out : (after : List A) → ((history : List TextLine) → RunTo starts history counts machine accounts → UnassignedSame (steps_of airs_of history) news after)
      → UnassignedRun starts lines olds after
  unassigned_out after unassigned =
      let same : UnassignedSame (steps_of airs_of r.history) olds after =
      λ box least. unassigned r.history r.run box least ∙ r.unassigned box least in
      let split = r.whole in
      search

  pub stops_here : PrefixTaken starts accounts lines
  stops_here =
      let more = units_rest starts r.history (map plain left) in
      record {
        done = handed_up airs_of (steps_of airs_of r.history);
        rest = more.0;
        split = ap (units_of airs_of starts) r.whole ∙ units_then starts r.history r.run.accepted (map plain left) ∙ more.1;
        boxes = took;
      }

  -- no line is left
  pub runs_through : left ≡ [] → has_end lines ≡ true → Told starts accounts lines counts through
  runs_through none over =
      let whole : lines ≡ reverse r.history ++ [] = r.whole ∙ ap (λ ls. reverse r.history ++ map plain ls) none in
      record {
        ends_so = ends_through starts r.history r.run.accepted lines whole over;
        counted = r.run.counted ∙ ap counts_of (sym (writes_through starts r.history r.run.accepted lines whole over));
        boxes = took_as starts accounts _ _ (sym (units_through starts r.history r.run.accepted lines whole over)) took;
      }

  -- the next line
  module _ (line : List ℕ) (later : List (List ℕ)) (next : left ≡ line ∷ later) where
    split_at : lines ≡ reverse r.history ++ plain line ∷ map plain later
    split_at = r.whole ∙ ap (λ ls. reverse r.history ++ map plain ls) next

    ends_here : (ends : List Account) (new : Machine) (counts' : Counts) (ending : Ending) → LineRuns starts r.history (plain line) counts' new accounts ends (Some ending)
        → Ran starts ends lines counts' ending
    ends_here ends new counts' endings.Through f = absurd f
    ends_here ends new counts' (endings.Refused at reason) f = record {
      ends_so = ends_refused starts r.history r.run.accepted lines (plain line) (map plain later) reason split_at f.because
          ∙ ap (λ n. refused n reason) (sym f.number_is);
      counted = f.counted ∙ ap (λ n. counts_of (brought (rules_of airs_of starts) r.history ++ refusal_line n reason)) f.number_is
          ∙ ap counts_of (sym (writes_refused starts r.history r.run.accepted lines (plain line) (map plain later) reason split_at f.because));
      boxes = took_as starts ends _ _ (sym (units_refused starts r.history r.run.accepted lines (plain line) (map plain later) reason split_at f.because))
          (took_at starts accounts ends (handed_up airs_of (steps_of airs_of r.history)) f.same took);
    }
    ends_here ends new counts' endings.OutletFault f =
        let comes = split_at in
        let accepted : Accepted (rules_of airs_of starts) (plain line ∷ r.history) = (r.run.accepted, f.0) in
        let before = took_as starts accounts _ _ (sym (units_all starts r.history r.run.accepted)) took in
        search
    ends_here ends new counts' endings.Memory (inl same) = subst (λ a. PrefixTaken starts a lines) (sym same) stops_here
    ends_here ends new counts' endings.Memory (inr cut) =
        let before = handed_up airs_of (steps_of airs_of r.history) in
        let more = units_line starts r.history (plain line) (map plain later) r.run.accepted cut.0 in
        record {
          done = before ++ cut.1.done;
          rest = cut.1.rest ++ more.0;
          split = ap (units_of airs_of starts) split_at ∙ more.1 ∙ ap (λ us. (before ++ us) ++ more.0) cut.1.split ∙ simp append_assoc;
          boxes = took_at starts (accounts_after starts (before ++ cut.1.done)) ends (before ++ cut.1.done)
              (cut.1.boxes ∙ ap (λ a. accounts_after a cut.1.done) r.run.stands.boxes.accounts_are
              ∙ sym (accounts_append before cut.1.done starts)) (took_all starts (before ++ cut.1.done));
        }

    -- the line was run
    pub runs_on : (after : List A) (ends : List Account) (new : Machine) (counts' : Counts) (number' : ℕ) (result : Option Ending) → number' ≡ number + 1 → result ≡ None
        → ((history : List TextLine) → RunTo starts history counts machine accounts → UnassignedSame (steps_of airs_of history) news after)
        → ((history : List TextLine) → number' ≡ length history + 1 → RunTo starts history counts machine accounts
        → LineRuns starts history (plain line) counts' new accounts ends result)
        → Running olds after starts ends lines later number' new counts'
    runs_on after ends new counts' number' result more is unassigned runs = record {
      history = plain line ∷ r.history;
      whole = split_at ∙ sym (reverse_onto (plain line) r.history (map plain later));
      number_is = omega (arith, more, r.number_is);
      run = subst (λ o. LineRuns starts r.history (plain line) counts' new accounts ends o) is
          (runs r.history (more ∙ ap (λ n. n + 1) r.number_is) r.run);
      unassigned = unassigned_line (plain line) r.history olds news after r.unassigned (unassigned r.history r.run);
    }

    pub runs_out : (ends : List Account) (new : Machine) (counts' : Counts) (number' : ℕ) (result : Option Ending) (ending : Ending) → number' ≡ number + 1 → result ≡ Some ending
        → ((history : List TextLine) → number' ≡ length history + 1 → RunTo starts history counts machine accounts
        → LineRuns starts history (plain line) counts' new accounts ends result) → Ran starts ends lines counts' ending
    runs_out ends new counts' number' result ending more is runs =
        let P : Option Ending → Type 0 = λ o. LineRuns starts r.history (plain line) counts' new accounts ends o in
        ends_here ends new counts' ending (subst P is (runs r.history (more ∙ ap (λ n. n + 1) r.number_is) r.run))

-- ---- a line

module _ {starts : List Account} {history : List TextLine} {machine : Machine} {before : List Account} {counts : Counts} (line : TextLine)
    (new : Machine)
    (after : List Account) (text told : List ℕ) (result : Result (Unit {0}) Stop) (run : RunTo starts history counts machine before)
    (cleared : text ≡ [])
    (meets : LinesStand starts history machine before → LineMeets starts history line new text told before after result) where
  met : (r : Result (Unit {0}) Stop) → result ≡ r → LineMeets starts history line new [] told before after r
  met r is = meets_at starts history line new text told before after result r cleared is (meets run.stands)

  pub line_ran : (u : Unit {0}) (counts' : Counts) (counted : Option Ending) → result ≡ Ok u → Counted told counts counts' counted
      → LineRuns starts history line counts' new before after counted
  line_ran u counts' None is c =
      let m = met (Ok u) is in
      let output = output_at starts history line in
      let now = brought (rules_of airs_of starts) history in
      record {
        accepted = (run.accepted, m.0);
        whole = whole_append now output run.whole (said_whole starts (steps_of airs_of history) (said_after history line));
        counted = c ∙ ap (λ t. with_lines counts (lines_of t)) m.2 ∙ ap (λ k. with_lines k (lines_of output)) run.counted ∙ counts_append now output run.whole;
        stands = m.1;
      }
  line_ran u counts' (Some endings.Memory) is c =
      let m = met (Ok u) is in
      inr (m.0, record { done = handed_on airs_of history line; rest = []; split = sym (append-nil (handed_on airs_of history line)); boxes = m.3 })
  line_ran u counts' (Some _) is c = absurd c

  pub line_refused : (reason : Refusal) (number : ℕ) (counts' : Counts) (ending : Ending) → number ≡ length history + 1 → result ≡ Err (stops.Refused reason)
      → Refuses number reason counts counts' ending → LineRuns starts history line counts' new before after (Some ending)
  line_refused reason number counts' (endings.Refused at why) next is f =
      let m = met (Err (stops.Refused reason)) is in
      record {
        number_is = f.0 ∙ next;
        because = m.0 ∙ ap Some (sym f.1);
        counted = f.2 ∙ ap (λ k. with_lines k (lines_of (refusal_line number reason))) run.counted
            ∙ counts_append (brought (rules_of airs_of starts) history) (refusal_line number reason) run.whole
            ∙ ap (λ n. counts_of (brought (rules_of airs_of starts) history ++ refusal_line n reason)) (sym f.0)
            ∙ ap (λ w. counts_of (brought (rules_of airs_of starts) history ++ refusal_line at w)) (sym f.1);
        same = m.3;
      }
  line_refused reason number counts' endings.Memory next is f = inl (met (Err (stops.Refused reason)) is).3
  line_refused reason number counts' _ next is f = absurd f

  pub line_failed : (counts' : Counts) → result ≡ Err stops.OutletFault → LineRuns starts history line counts' new before after (Some endings.OutletFault)
  line_failed counts' is =
      let m = met (Err stops.OutletFault) is in
      (m.0, box_fails (handed_on airs_of history line) (answered_on airs_of history line) (output_at starts history line) [] told before after m.1)

  pub line_memory : (counts' : Counts) → result ≡ Err stops.Memory → LineRuns starts history line counts' new before after (Some endings.Memory)
  line_memory counts' is = met (Err stops.Memory) is

-- no line was run
pub none_taken : (starts : List Account) (lines : List TextLine) → PrefixTaken starts starts lines
none_taken starts lines = record { done = []; rest = units_of airs_of starts lines; split = refl; boxes = took_all starts [] }
