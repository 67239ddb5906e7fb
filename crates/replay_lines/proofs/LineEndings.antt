-- How a run of a text goes on or ends once a line was read.
use Rattle.replay_lines.proofs.Prelude.{◌≡◌, ℕ, ◌+◌, Bool, List, [], ◌∷◌, ◌++◌, length, reverse, refl, sym, ap, subst, ◌∙◌, append_assoc, arith, Option, None, Some, Result, Ok, Err, length-append, inl, inr, ◌⊎◌, append-nil, reverse-append, reverse_onto, Appends, TextLine, lines_of, AppendsPrefix, AppendsShort, Appends-then, AppendsPrefix-then, Account, airs_of, Refusal, refusal_line, refused, out, brought, Accepted, handed_up, rules_of, steps_of, handed_on, handed_line, out_of, last_line_after, end_after, has_end, transcript_of, transcript_end, units_of, accounts_after, accounts_append, Took, took_all, Ending, Machine, SinkUnit, BoxFails, CutShort, LinesStand, LineMeets, meets_at, refusal_at, output_at, answered_on, box_fails, took_history, Comes, brought_by, BoxesCut, Broken, FaultCut, LineFails, OutletFaulted, ReadsAhead, TookPrefix, Ended, RunTo, Refuses, Puts, StepRuns, Memory, Refused, OutletFault}
use Rattle.transcript_text.specs.declared.stop.Stop.{Stop}
use Rattle.replay_lines.specs.declared.ending.Ending.TheVariants as endings
use Rattle.replay_lines.proofs.Endings.{out_then, out_all, out_refused, ends_refused, writes_refused, units_then, units_all, units_refused, prefix_of_short, prefix_none}
use Rattle.replay_lines.proofs.Prefixes.{out_more, units_more, units_rest}
use Rattle.replay_lines.proofs.RefusalLaws.{never_no_end}

-- the units before one went to their boxes, and the box of that one failed
pub box_stops : (starts before after : List Account) (history : List TextLine) (line : TextLine) (text told : List ℕ)
    → LineFails airs_of starts history line text told before after → (lines : List ℕ)
    × BoxFails (handed_on airs_of history line) [] lines before after
box_stops starts before after history line text told f =
    box_fails (handed_on airs_of history line) (answered_on airs_of history line) (output_at starts history line) text told before after f

-- the units that an accepted line adds
pub units_added : (starts : List Account) (history : List TextLine) (line : TextLine) → Accepted (rules_of airs_of starts) (line ∷ history)
    → units_of airs_of starts (reverse (line ∷ history)) ≡ units_of airs_of starts (reverse history) ++ handed_on airs_of history line
units_added starts history line accepted =
    grind (arith, units_all starts (line ∷ history) accepted, handed_line airs_of history line, units_all starts history accepted.0)

-- ---- what a line brings, and what the boxes took of its units

-- The line begins with these octets, and the boxes took a prefix of the units that it adds.
record Partway (starts : List Account) (history : List TextLine) (line : TextLine) (before after : List Account)
    (octets : List ℕ) : Type 0 where
  rest : List ℕ
  brings : out_of airs_of starts (reverse (line ∷ history)) ≡ brought (rules_of airs_of starts) history ++ (octets ++ rest)
  units : List SinkUnit
  adds : units_of airs_of starts (reverse (line ∷ history)) ≡ units_of airs_of starts (reverse history) ++ units
  took : TookPrefix units before after

abbrev none_cut : (boxes : List Account) (units : List SinkUnit) → CutShort units boxes boxes
none_cut boxes units = record { done = []; rest = units; split = refl; boxes = refl }

abbrev all_cut : (before after : List Account) (units : List SinkUnit) → after ≡ accounts_after before units → CutShort units before after
all_cut before after units is = record { done = units; rest = []; split = sym (append-nil units); boxes = is }

brought_prefix : (over : Bool) (starts : List Account) (kept kept' : Option (List ℕ)) (text : List ℕ) (octets rest : List ℕ)
    → out_of airs_of starts (lines_of over text) ≡ octets ++ rest → AppendsPrefix kept kept' octets → AppendsPrefix kept kept' (brought_by airs_of over starts text)
brought_prefix over starts kept kept' text octets rest is f =
    grind (arith, last_line_after, end_after, airs_of, lines_of, has_end, length, append_assoc)

module _ {starts : List Account} {history : List TextLine} {line : TextLine} {left left' kept mid : Option (List ℕ)} {machine : Machine}
    {before : List Account} {number : ℕ} (is_next : number ≡ length history + 1) (c : Comes left left' history line)
    (ahead : ReadsAhead left left' number) (run : RunTo starts history kept mid machine before) where
  line_out : out_of airs_of starts (reverse (line ∷ history))
      ≡ brought (rules_of airs_of starts) history ++ out (rules_of airs_of starts) history (line ∷ [])
  line_out = ap (out_of airs_of starts) (reverse-append (line ∷ []) history) ∙ out_then starts history run.accepted (line ∷ [])

  -- nothing was written of it, and no box was called
  abbrev part_none : Partway starts history line before before []
  part_none =
      let more = units_rest airs_of starts history (line ∷ []) in
      record {
        rest = out (rules_of airs_of starts) history (line ∷ []);
        brings = line_out;
        units = more.0;
        adds = ap (units_of airs_of starts) (reverse-append (line ∷ []) history) ∙ units_then starts history run.accepted (line ∷ [])
            ∙ more.1 ∙ ap (λ us. us ++ more.0) (sym (units_all starts history run.accepted));
        took = inl (none_cut before more.0);
      }

  abbrev part_refused : (reason : Refusal) → refusal_at starts history line ≡ Some reason
      → Partway starts history line before before (refusal_line number reason)
  part_refused reason because = record {
    rest = [];
    brings = line_out ∙ ap (λ octets. brought (rules_of airs_of starts) history ++ octets)
        (out_refused starts history run.accepted line reason because [] ∙ ap (λ n. refusal_line n reason) (sym is_next)
        ∙ sym (append-nil (refusal_line number reason)));
    units = [];
    adds = ap (units_of airs_of starts) (reverse-append (line ∷ []) history)
        ∙ units_refused starts history run.accepted line reason because []
        ∙ sym (units_all starts history run.accepted) ∙ sym (append-nil (units_of airs_of starts (reverse history)));
    took = inl (none_cut before []);
  }

  abbrev part_on : (after : List Account) (octets rest : List ℕ) → refusal_at starts history line ≡ None
      → output_at starts history line ≡ octets ++ rest → TookPrefix (handed_on airs_of history line) before after
      → Partway starts history line before after octets
  part_on after octets rest none is took = record {
    rest = rest;
    brings = out_all starts (line ∷ history) (run.accepted, none) ∙ ap (λ xs. brought (rules_of airs_of starts) history ++ xs) is;
    units = handed_on airs_of history line;
    adds = units_added starts history line (run.accepted, none);
    took = took;
  }

  -- ---- a write that was cut short

  now : (later : List TextLine) × (lines_of c.over c.text ≡ reverse (line ∷ history) ++ later)
  now =
      let at = c.lines c.over [] (λ over. (over, refl)) in
      (at.0, ap (lines_of c.over) (sym (append-nil c.text)) ∙ at.1 ∙ sym (reverse_onto line history at.0))

  took_cut : (after : List Account) (octets : List ℕ) (p : Partway starts history line before after octets) → CutShort p.units before after
      → BoxesCut airs_of starts after (lines_of c.over c.text)
  took_cut after octets p cut =
      let all = handed_up airs_of (steps_of airs_of history) in
      let more = units_more airs_of starts [] (reverse (line ∷ history)) now.0 in
      let P : List Account → Type 0 = λ a. Took starts a (all ++ cut.done) in
      record {
        done = all ++ cut.done;
        rest = cut.rest ++ more.0;
        split = ap (units_of airs_of starts) now.1 ∙ more.1
            ∙ ap (λ us. us ++ more.0) (p.adds ∙ ap (λ us. us ++ p.units) (units_all starts history run.accepted)
            ∙ ap (λ us. all ++ us) cut.split) ∙ simp append_assoc;
        boxes = subst P (accounts_append all cut.done starts ∙ ap (λ a. accounts_after a cut.done) (sym run.stands.boxes.accounts_are)
            ∙ sym cut.boxes) (took_all starts (all ++ cut.done));
      }

  ends_broken : (kept' : Option (List ℕ)) (after : List Account) (octets : List ℕ) (p : Partway starts history line before after octets)
      → CutShort p.units before after ⊎ FaultCut airs_of starts after left left' kept kept' → AppendsPrefix mid kept' octets
      → Broken airs_of starts after left left' kept kept'
  ends_broken kept' after octets p cut f =
      let so_far = brought (rules_of airs_of starts) history in
      let more = out_more (rules_of airs_of starts) [] (reverse (line ∷ history)) now.0 in
      record {
        text = c.text;
        over = c.over;
        read = c.read;
        written = brought_prefix c.over starts kept kept' c.text (so_far ++ octets) (p.rest ++ more.0)
            (ap (out_of airs_of starts) now.1 ∙ more.1 ∙ ap (λ xs. xs ++ more.0) p.brings ∙ simp append_assoc)
            (AppendsPrefix-then kept mid kept' so_far octets run.written f);
        boxes = elim cut [ inl short ↦ inl (took_cut after octets p short) | inr failed ↦ inr failed ];
      }

  ends_write : (kept' : Option (List ℕ)) (after : List Account) (octets : List ℕ) (p : Partway starts history line before after octets)
      → CutShort p.units before after ⊎ FaultCut airs_of starts after left left' kept kept' → AppendsShort mid kept' octets
      → Ended airs_of endings.WriteFault starts after left left' kept kept'
  ends_write kept' after octets p cut s =
      let so_far = brought (rules_of airs_of starts) history in (
        ends_broken kept' after octets p cut (prefix_of_short mid kept' octets s),
        inl (
          number,
          record {
            text = c.text;
            over = c.over;
            read = c.read;
            earlier = history;
            last = line;
            later = now.0;
            lines = now.1 ∙ reverse_onto line history now.0;
            number = is_next;
            accepted = run.accepted;
            prefix = so_far ++ s.prefix;
            written = Appends-then kept mid kept' so_far s.prefix run.written s.appended;
            not_before = omega (arith, ap length (out_all starts history run.accepted), length-append so_far s.prefix);
            longer = omega (arith, ap length p.brings, length-append {A = ℕ}, ap length s.whole, s.some);
            boxes = record {
              accounts = before;
              before = grind (arith, units_all, took_history);
              units = p.units;
              added = p.adds;
              prefix = p.took;
            };
          },
          ahead,
        ),
      )

  -- ---- a refusal

  pub ends_refusal : (kept' : Option (List ℕ)) (reason : Refusal) → refusal_at starts history line ≡ Some reason
      → (ending : Ending) → Refuses number reason mid kept' ending → Ended airs_of ending starts before left left' kept kept'
  ends_refusal kept' reason because endings.Memory f =
      ends_broken kept' before (refusal_line number reason) (part_refused reason because) (inl (none_cut before [])) f
  ends_refusal kept' reason because endings.WriteFault f =
      ends_write kept' before (refusal_line number reason) (part_refused reason because) (inl (none_cut before [])) f
  ends_refusal kept' reason because (endings.Refused at why) f =
      let so_far = brought (rules_of airs_of starts) history in (
        record {
          text = c.text;
          over = c.over;
          read = c.read;
          no_end = λ e. absurd (never_no_end starts history line (because ∙ ap Some (sym f.1 ∙ e)));
          ends_so = λ at_end more follows. let lines = c.lines at_end more follows in
              ap (transcript_end airs_of starts) lines.1 ∙ ends_refused starts history run.accepted line reason because lines.0
              ∙ sym (λ i. refused ((f.0 ∙ is_next) i) (f.1 i));
          octets = so_far ++ refusal_line number reason;
          transcript = λ at_end more follows. let lines = c.lines at_end more follows in
              ap (transcript_of airs_of starts) lines.1 ∙ writes_refused starts history run.accepted line reason because lines.0
              ∙ ap (λ n. so_far ++ refusal_line n reason) (sym is_next);
          written = Appends-then kept mid kept' so_far (refusal_line number reason) run.written f.2;
          units = handed_up airs_of (steps_of airs_of history);
          handed = λ at_end more follows. let lines = c.lines at_end more follows in
              ap (units_of airs_of starts) lines.1 ∙ units_refused starts history run.accepted line reason because lines.0;
          boxes = took_history starts before history run.stands.boxes;
        },
        (λ other. subst (λ n. ReadsAhead left left' n) (sym f.0) ahead),
      )
  ends_refusal kept' reason because _ f = absurd f

  -- ---- a step

  -- what was put after a line that is accepted
  step_put : (kept' : Option (List ℕ)) (new : Machine) (after : List Account) → refusal_at starts history line ≡ None
      → LinesStand starts (line ∷ history) new after → after ≡ accounts_after before (handed_on airs_of history line)
      → (result : Option Ending) → Puts (output_at starts history line) mid kept' result
      → StepRuns starts (line ∷ history) left left' kept kept' new after result
  step_put kept' new after none stands took None p = record {
    accepted = (run.accepted, none);
    written = Appends-then kept mid kept' (brought (rules_of airs_of starts) history) (output_at starts history line) run.written p;
    stands = stands;
  }
  step_put kept' new after none stands took (Some endings.WriteFault) p =
      let cut : CutShort (handed_on airs_of history line) before after = all_cut before after (handed_on airs_of history line) took in
      let output = output_at starts history line in
      ends_write kept' after output (part_on after output [] none (sym (append-nil output)) (inl cut)) (inl cut) p
  step_put kept' new after none stands took (Some endings.Memory) p =
      let cut : CutShort (handed_on airs_of history line) before after = all_cut before after (handed_on airs_of history line) took in
      let output = output_at starts history line in
      ends_broken kept' after output (part_on after output [] none (sym (append-nil output)) (inl cut)) (inl cut)
      (prefix_of_short mid kept' output p)
  step_put kept' new after none stands took (Some _) p = absurd p

  -- the box of a unit of the line failed, and what came before the unit was put
  module _ (kept' : Option (List ℕ)) (after : List Account) (told : List ℕ) (none : refusal_at starts history line ≡ None)
      (f : LineFails airs_of starts history line [] told before after) where
    abbrev part_told : Partway starts history line before after told
    part_told =
        part_on after told f.behind none (f.prefix ∙ ap (λ xs. xs ++ f.behind) (sym f.lines))
        (inr (box_stops starts before after history line [] told f))

    -- writing what comes before the unit was cut short
    fault_cut : AppendsShort mid kept' told → FaultCut airs_of starts after left left' kept kept'
    fault_cut short =
        let accepted : Accepted (rules_of airs_of starts) (line ∷ history) = (run.accepted, none) in
        let took : Took starts before (units_of airs_of starts (reverse history)) = grind (arith, units_all, took_history) in
        let written : Appends kept mid (out_of airs_of starts (reverse history)) = rw (out_all starts history run.accepted) run.written in
        search

    stopped : (ending : Ending) → Puts told mid kept' (Some ending) → Ended airs_of ending starts after left left' kept kept'
    stopped endings.WriteFault p = ends_write kept' after told part_told (inr (fault_cut p)) p
    stopped endings.Memory p = ends_broken kept' after told part_told (inr (fault_cut p)) (prefix_of_short mid kept' told p)
    stopped _ p = absurd p

    faulted : Appends mid kept' told → OutletFaulted airs_of starts after left left' kept kept'
    faulted p = record {
      earlier = history;
      line = line;
      comes = c;
      ahead = subst (λ n. ReadsAhead left left' n) is_next ahead;
      accepted = (run.accepted, none);
      accounts = before;
      before = grind (arith, units_all, took_history);
      told = brought (rules_of airs_of starts) history ++ told;
      fails = let all = out_all starts history run.accepted in grind arith;
      written = Appends-then kept mid kept' (brought (rules_of airs_of starts) history) told run.written p;
    }

  -- memory ran out in the step
  pub step_memory : (after : List Account) → (after ≡ before)
      ⊎ ((refusal_at starts history line ≡ None) × CutShort (handed_on airs_of history line) before after)
      → Broken airs_of starts after left left' kept mid
  step_memory after (inl same) =
      subst (λ a. Broken airs_of starts a left left' kept mid) (sym same)
      (ends_broken mid before [] part_none (inl (none_cut before part_none.units)) (prefix_none mid []))
  step_memory after (inr cut) =
      ends_broken mid after [] (part_on after [] (output_at starts history line) cut.0 refl (inl cut.1)) (inl cut.1) (prefix_none mid [])

  module _ (new : Machine) (after : List Account) (text told : List ℕ) (result : Result (Unit {0}) Stop) (cleared : text ≡ [])
      (meets : LinesStand starts history machine before → LineMeets starts history line new text told before after result) where
    met : (r : Result (Unit {0}) Stop) → result ≡ r → LineMeets starts history line new [] told before after r
    met r is = meets_at starts history line new text told before after result r cleared is (meets run.stands)

    pub run_ok : (u : Unit {0}) (kept' : Option (List ℕ)) (put : Option Ending) → result ≡ Ok u → Puts told mid kept' put
        → StepRuns starts (line ∷ history) left left' kept kept' new after put
    run_ok u kept' put is p = let m = met (Ok u) is in step_put kept' new after m.0 m.1 m.3 put (subst (λ xs. Puts xs mid kept' put) m.2 p)

    pub run_refused : (reason : Refusal) (kept' : Option (List ℕ)) (ending : Ending) → result ≡ Err (Refused reason)
        → Refuses number reason mid kept' ending → Ended airs_of ending starts after left left' kept kept'
    run_refused reason kept' ending is f =
        let m = met (Err (Refused reason)) is in
        subst (λ a. Ended airs_of ending starts a left left' kept kept') (sym m.3) (ends_refusal kept' reason m.0 ending f)

    pub run_failed : (kept' : Option (List ℕ)) (put : Option Ending) → result ≡ Err OutletFault → Puts told mid kept' put
        → (ending : Ending) → put ≡ Some ending → Ended airs_of ending starts after left left' kept kept'
    run_failed kept' put is p ending why =
        let m = met (Err OutletFault) is in stopped kept' after told m.0 m.1 ending (subst (λ r. Puts told mid kept' r) why p)

    pub run_faulted : (kept' : Option (List ℕ)) (put : Option Ending) → result ≡ Err OutletFault → Puts told mid kept' put
        → put ≡ None → Ended airs_of endings.OutletFault starts after left left' kept kept'
    run_faulted kept' put is p why =
        let m = met (Err OutletFault) is in faulted kept' after told m.0 m.1 (subst (λ r. Puts told mid kept' r) why p)

    pub run_memory : result ≡ Err Memory → Broken airs_of starts after left left' kept mid
    run_memory is = step_memory after (met (Err Memory) is)
