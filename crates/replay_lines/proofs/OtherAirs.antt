-- What a run did over one air it did over any other that gives the same transcripts.
use Rattle.replay_lines.proofs.Prelude.{◌≡◌, ℕ, Bool, true, List, [], ◌∷◌, reverse, refl, sym, subst, ◌∙◌, Option, None, inl, inr, ◌⊎◌, Appends, TextLine, lines_of, Account, Step, Refusal, Accepted, Said, a_step, nothing, unsaid, refusal_said, rules_of, Airs, out_of, answered_said, took_as, Ending, CountsStay, AheadOf, Complete, Ended, IsCut, RoomForText, RoomFor, Same, Broken, CutAt, Done, FaultCut, LineFails, NoEndCut, OutletFaulted, ReadFaulted, RefusedAt, WriteCut, brought_by, arith, line_refusal}
use Rattle.scenario_history.specs.RelayedUnits.{answered_by}
use Rattle.replay_lines.specs.declared.ending.Ending.TheVariants as endings

-- the same becomes of the units that relays offer before a line, where it does before each step that isn't refused
pub answered_alike : (airs others : Airs) (boxes : ℕ) (made more : List Step) (said : Said)
    → ((step : Step) → line_refusal airs boxes made step ≡ None → answered_by airs made step ≡ answered_by others more step)
    → refusal_said airs boxes made said ≡ None → answered_said airs made said ≡ answered_said others more said
answered_alike airs others boxes made more (a_step step) alike none = alike step none
answered_alike airs others boxes made more nothing alike none = refl
answered_alike airs others boxes made more (unsaid reason) alike none = refl

module _ (airs others : Airs) (same : Same airs others) (starts ends : List Account) (left left' kept kept' : Option (List ℕ)) where
  done_as : Done airs starts ends left left' kept kept' → Done others starts ends left left' kept kept'
  done_as d = grind (arith, same)

  refused_as : (line : ℕ) (reason : Refusal) → RefusedAt airs starts ends left left' kept kept' line reason → RefusedAt others starts ends left left' kept kept' line reason
  refused_as line reason d = search (← same.end, ← same.octets, ← same.units, d.ends_so, d.transcript, d.handed)

  read_fault_as : ReadFaulted airs starts ends left left' kept kept' → ReadFaulted others starts ends left left' kept kept'
  read_fault_as d = grind (arith, same.lines_end, same.out, same.units)

  brought_as : (over : Bool) (text : List ℕ) → brought_by airs over starts text ≡ brought_by others over starts text
  brought_as over text = grind (arith, same)

  -- the box of a unit of a line fails, and the same was printed before it
  fails_as : (earlier : List TextLine) (line : TextLine) (text told : List ℕ) (before after : List Account)
      → Accepted (rules_of airs starts) (line ∷ earlier) → LineFails airs starts earlier line text told before after
      → LineFails others starts earlier line text told before after
  fails_as earlier line text told before after accepted f = search (← same.handed starts, ← same.output starts, ← same.answered starts)

  failed_as : FaultCut airs starts ends left left' kept kept' → FaultCut others starts ends left left' kept kept'
  failed_as d =
      let before = took_as starts d.accounts _ _ (same.units starts (reverse d.earlier)) d.before in
      let accepted = same.accepted starts (d.line ∷ d.earlier) d.accepted in
      let fails = fails_as d.earlier d.line [] d.told d.accounts ends d.accepted d.fails in
      let written : Appends kept d.between (out_of others starts (reverse d.earlier)) = rw same.out at d.written in
      search

  broken_as : Broken airs starts ends left left' kept kept' → Broken others starts ends left left' kept kept'
  broken_as d = grind (arith, brought_as, same.units, failed_as)

  outlet_fault_as : OutletFaulted airs starts ends left left' kept kept' → OutletFaulted others starts ends left left' kept kept'
  outlet_fault_as d =
      let before = took_as starts d.accounts _ _ (same.units starts (reverse d.earlier)) d.before in
      let accepted = same.accepted starts (d.line ∷ d.earlier) d.accepted in
      let fails =
      fails_as d.earlier d.line (out_of others starts (reverse d.earlier)) d.told d.accounts ends d.accepted (rw same.out at d.fails) in
      search

  cut_at_as : (line : ℕ) → CutAt airs starts ends left left' kept kept' line → CutAt others starts ends left left' kept kept' line
  cut_at_as line d = grind (arith, same.accepted, same.out, same.units)

  no_end_as : NoEndCut airs starts ends left left' kept kept' → NoEndCut others starts ends left left' kept kept'
  no_end_as d = grind (arith, same.end, same.out, same.units)

  write_cut_as : WriteCut airs starts ends left left' kept kept' → WriteCut others starts ends left left' kept kept'
  write_cut_as (inl cut) = inl (cut.0, cut_at_as cut.0 cut.1, cut.2)
  write_cut_as (inr no_end) = inr (no_end_as no_end)

  pub ended_as : (ending : Ending) → Ended airs ending starts ends left left' kept kept' → Ended others ending starts ends left left' kept kept'
  ended_as endings.Done d = done_as d
  ended_as (endings.Refused line reason) d = (refused_as line reason d.0, d.1)
  ended_as endings.ReadFault d = read_fault_as d
  ended_as endings.WriteFault d = (broken_as d.0, write_cut_as d.1)
  ended_as endings.OutletFault d = outlet_fault_as d
  ended_as endings.Memory d = broken_as d

  pub ahead_as : (ending : Ending) → AheadOf airs ending starts ends left left' kept kept' → AheadOf others ending starts ends left left' kept kept'
  ahead_as endings.WriteFault d = write_cut_as d
  ahead_as _ d = d

  room_as : (text : List ℕ) → RoomForText others starts text → RoomForText airs starts text
  room_as text room = subst (λ units. RoomFor starts units) (sym (same.units starts (lines_of true text))) room

  pub complete_as : (text : List ℕ) (read read' write write' : ℕ) (ending : Ending) → Complete airs text starts ends read read' write write' ending
      → Complete others text starts ends read read' write write' ending
  complete_as text read read' write write' ending d = record {
    through_all = λ is. d.through_all (same.end starts (lines_of true text) ∙ is);
    room = λ room. d.room (room_as text room);
    no_fault = λ room. d.no_fault (room_as text room);
  }

  pub counts_as : (ending : Ending) → CountsStay starts ends ⊎ (IsCut ending × FaultCut airs starts ends left left' kept kept')
      → CountsStay starts ends ⊎ (IsCut ending × FaultCut others starts ends left left' kept kept')
  counts_as ending counts = grind (arith, failed_as)
