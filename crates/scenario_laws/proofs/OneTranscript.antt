-- Over two airs that meet the relation of their framing the same happens: relays offer the same units, and source 1 takes the same of
-- them.
use Rattle.scenario_laws.proofs.Known.Sources.{arith, ℕ, ◌≡◌, ◌∙◌, cond, not, Bool, true, false, List, [], ◌∷◌, None, refl, ap, flat_map, Step, Offer, after_offer, after_offers, answered_by, closes_first, dropped_for, handed_of, happened, offered_of, offers_at, with_relayed_unit_unless, with_relayed_units, refusal_of, relay_of, setup_of, source_calls, Airs, AreSaidLegally, ◌+◌, ◌==◌, ◌++◌, length, Option, sym, subst, TextLine, Account, Accepted, End, accepted_of, accepted_unless, end_unless, out, out_unless, AreAirs, stale_of, event_fault, Refusal, chosen_of, chosen_steps, is_started, stale_in, MeetAirs, closing_both, handed_up, line_refusal, close_lines, first_lines, output_of, sums_of, unit_lines, handed_said, output_said, refusal_said, rules_of, steps_of, end_after, out_of, transcript_end, transcript_of, units_of, sink_numbers, closing, answered, Runs, happens_legally, left_by_offers, line_passes, runs_at, runs_still, unless_legal, Legal, LinesInRange, legal, permitted, said_legally, lawful, takes, Lawful, are_accepted, checked, group_in, no_end, settled, end_of, event as perform, Said, line_handed_on as handed_on, said_after}
use Rattle.scenario_laws.proofs.TwoAirs.{Both, Twice, closing_same, in_order, its_same, legal_too, chosen_same, closing_both_same, handed_same, handed_up_same, refusal_same, sink_same}

-- ---- units that are offered

dropped_same : (airs others : Airs) → Both airs others → (boxes : ℕ) (offer : Offer) (made : List Step) → Twice airs others boxes made
    → dropped_for airs offer made ≡ dropped_for others offer made
dropped_same airs others both boxes offer made twice = grind (arith, in_order, not, its_same, lawful, takes)

-- the same becomes of these units
record Alike (airs others : Airs) (offers : List Offer) (made : List Step) : Type 0 where
  steps : after_offers airs offers made ≡ after_offers others offers made
  answers : answered airs offers made ≡ answered others offers made

alike : (airs others : Airs) → Both airs others → (boxes : ℕ) (offers : List Offer) (made : List Step) → Legal airs boxes made → Runs made
    → Alike airs others offers made
alike airs others both boxes [] made legal runs = record { steps = refl; answers = refl }
alike airs others both boxes (offer ∷ offers) made legal runs =
    let next : List Step = after_offer airs offer made in
    let reason : dropped_for airs offer made ≡ dropped_for others offer made =
    dropped_same airs others both boxes offer made (record { here = legal; there = legal_too airs others both boxes made legal }) in
    let same : next ≡ after_offer others offer made = ap (λ r. with_relayed_unit_unless r offer made) reason in
    let rest : Alike airs others offers next = alike airs others both boxes offers next
    (unless_legal airs boxes (dropped_for airs offer made) offer made legal runs refl)
    (runs_still made next (left_by_offers airs (offer ∷ []) made).stage runs) in
    record { steps = rest.steps ∙ ap (after_offers others offers) same; answers = grind (arith, dropped_for) }

-- ---- relayed units before a step

record RelayedUnitsAlike (airs others : Airs) (closes : Bool) (made : List Step) : Type 0 where
  steps : after_offers airs (cond closes (offers_at airs made) []) made ≡ after_offers others (cond closes (offers_at others made) []) made
  answers : answered airs (cond closes (offers_at airs made) []) made ≡ answered others (cond closes (offers_at others made) []) made

relayed_units_alike : (closes : Bool) (airs others : Airs) → Both airs others → (boxes : ℕ) (made : List Step) → Legal airs boxes made
    → (closes ≡ true → Runs made) → RelayedUnitsAlike airs others closes made
relayed_units_alike true airs others both boxes made legal runs =
    let offers = ap (λ units. flat_map (λ n. offered_of n (relay_of n made) (handed_of 0 n units)) sink_numbers)
    (closing_same airs others both boxes 0 made legal) in
    let both_ways : Alike airs others (offers_at airs made) made =
    alike airs others both boxes (offers_at airs made) made legal (runs refl) in
    assumption (
      both_ways.steps ∙ ap (λ os. after_offers others os made) offers,
      both_ways.answers ∙ ap (λ os. answered others os made) offers,
    )
relayed_units_alike false airs others both boxes made legal runs = record { steps = refl; answers = refl }

before_step : (airs others : Airs) → Both airs others → (boxes : ℕ) (made : List Step) (step : Step) → Legal airs boxes made
    → refusal_of airs boxes made step ≡ None → RelayedUnitsAlike airs others (closes_first made step) made
before_step airs others both boxes made this legal none = search (relayed_units_alike, runs_at)

pub answers_same : (airs others : Airs) → Both airs others → (boxes : ℕ) (made : List Step) (step : Step) → Legal airs boxes made
    → refusal_of airs boxes made step ≡ None → answered_by airs made step ≡ answered_by others made step
answers_same airs others both boxes made step legal none = (before_step airs others both boxes made step legal none).answers

-- ---- what happens by lines

pub happened_same : (airs others : Airs) → Both airs others → (boxes : ℕ) (said : List Step) → AreSaidLegally airs boxes said
    → happened airs said ≡ happened others said
happened_same airs others both boxes [] legal = refl
happened_same airs others both boxes (step ∷ earlier) legal =
    let made : List Step = happened airs earlier in
    let relayed_units = before_step airs others both boxes made step (happens_legally airs boxes earlier legal.0)
    (line_passes airs boxes made step legal.1) in
    ap (λ after_relays. step ∷ after_relays) (relayed_units.steps ∙ ap (λ m. with_relayed_units others m step) (happened_same airs others both boxes earlier legal.0))

-- ---- two airs that meet the relation of their framing give one transcript: no step, no line and no text tells them apart

-- ---- what is printed

-- the airs after one more event
performed_airs : (airs : Airs) → MeetAirs airs → (own : List Step) → Lawful airs own → is_started own ≡ true → event_fault (setup_of own) (source_calls own) ≡ None
    → AreAirs (setup_of own) (perform ∷ source_calls own) (airs (setup_of own) (perform ∷ source_calls own))
performed_airs airs meets own legal started none =
    meets.meet (group_in own (settled airs own legal) started) (setup_of own) (perform ∷ source_calls own) refl (are_accepted airs own legal, none)

stale_same : (airs others : Airs) → Both airs others → (boxes : ℕ) (made : List Step) → Twice airs others boxes made → refusal_of airs boxes made Step.Event ≡ None
    → stale_in airs (chosen_steps made) ≡ stale_in others (chosen_steps made)
stale_same airs others both boxes made twice none =
    let own : List Step = chosen_steps made in
    let permits = permitted airs boxes made Step.Event none in
    let started : is_started own ≡ true = takes own permits.in_phase in
    let goes_on : event_fault (setup_of own) (source_calls own) ≡ None = no_end (event_fault (setup_of own) (source_calls own)) permits.by_source in
    let legal_here : Lawful airs own = lawful airs boxes (chosen_of made) made twice.here in
    let legal_there : Lawful others own = lawful others boxes (chosen_of made) made twice.there in
    ap (stale_of (setup_of own) (source_calls own))
    (both.one (setup_of own) (perform ∷ source_calls own) (airs (setup_of own) (perform ∷ source_calls own)) (others (setup_of own) (perform ∷ source_calls own))
    (checked (group_in own (settled airs own legal_here) started)) (performed_airs airs both.meets own legal_here started goes_on)
    (performed_airs others both.meet_too own legal_there started goes_on))

close_same : (airs others : Airs) → Both airs others → (boxes : ℕ) (made : List Step) (step : Step) → Legal airs boxes made
    → refusal_of airs boxes made step ≡ None → close_lines airs made step ≡ close_lines others made step
close_same airs others both boxes made step legal none =
    let first = chosen_of made == 0 in
    ap (λ answers. cond first (first_lines (closing airs 0 made) answers) (unit_lines (closing airs (chosen_of made) made)))
    (answers_same airs others both boxes made step legal none)
    ∙ ap (λ us. cond first (first_lines us (answered_by others made step)) (unit_lines (closing airs (chosen_of made) made)))
    (closing_same airs others both boxes 0 made legal)
    ∙ ap (λ us. cond first (first_lines (closing others 0 made) (answered_by others made step)) (unit_lines us))
    (closing_same airs others both boxes (chosen_of made) made legal)

ends_same : (airs others : Airs) → Both airs others → (starts : List Account) (made : List Step) → Legal airs (length starts) made
    → refusal_of airs (length starts) made Step.End ≡ None → output_of airs starts made Step.End ≡ output_of others starts made Step.End
ends_same airs others both starts made legal none =
    let boxes = length starts in
    ap (λ answers. first_lines (closing airs 0 made) answers
    ++ (unit_lines (closing airs 1 made) ++ sums_of starts (handed_up airs made ++ closing_both airs made) made))
    (answers_same airs others both boxes made Step.End legal none) ∙ ap (λ us. first_lines us (answered_by others made Step.End)
    ++ (unit_lines (closing airs 1 made) ++ sums_of starts (handed_up airs made ++ closing_both airs made) made))
    (closing_same airs others both boxes 0 made legal) ∙ ap (λ us. first_lines (closing others 0 made) (answered_by others made Step.End)
    ++ (unit_lines us ++ sums_of starts (handed_up airs made ++ closing_both airs made) made))
    (closing_same airs others both boxes 1 made legal) ∙ ap (λ us. first_lines (closing others 0 made) (answered_by others made Step.End)
    ++ (unit_lines (closing others 1 made) ++ sums_of starts (us ++ closing_both airs made) made))
    (handed_up_same airs others both boxes made legal) ∙ ap (λ us. first_lines (closing others 0 made) (answered_by others made Step.End)
    ++ (unit_lines (closing others 1 made) ++ sums_of starts (handed_up others made ++ us) made))
    (closing_both_same airs others both boxes made legal)

-- ---- lines

said_brought : (airs others : Airs) → Both airs others → (starts : List Account) (made : List Step) (said : Said) → Legal airs (length starts) made
    → refusal_said airs (length starts) made said ≡ None → output_said airs starts made said ≡ output_said others starts made said
said_brought airs others both starts made said legal none =
    grind (arith, close_same, stale_same, legal_too, ends_same, handed_up_same, sink_same, chosen_same)

-- what both airs share over a text with these boxes
pub record Told (airs others : Airs) : Type 0 where
  pub both : Both airs others
  pub ranged : LinesInRange

pub steps_same : (airs others : Airs) → Told airs others → (starts : List Account) (history : List TextLine) → Accepted (rules_of airs starts) history
    → steps_of airs history ≡ steps_of others history
steps_same airs others told starts history accepted = grind (arith, happened_same, length, said_legally)

refused_same : (airs others : Airs) → Told airs others → (starts : List Account) (history : List TextLine) (line : TextLine) → Accepted (rules_of airs starts) history
    → refusal_said airs (length starts) (steps_of airs history) (said_after history line)
    ≡ refusal_said others (length starts) (steps_of others history) (said_after history line)
refused_same airs others told starts history line accepted =
    grind (arith, length, steps_of, legal, refusal_said, steps_same, refusal_same, legal_too)

pub brought_same : (airs others : Airs) → Told airs others → (starts : List Account) (history : List TextLine) (line : TextLine)
    → Accepted (rules_of airs starts) history → refusal_said airs (length starts) (steps_of airs history) (said_after history line) ≡ None
    → output_said airs starts (steps_of airs history) (said_after history line) ≡ output_said others starts (steps_of others history) (said_after history line)
brought_same airs others told starts history line accepted none = grind (arith, said_brought, steps_of, legal, output_said, steps_same)

-- the same becomes of the units that relays offer before a step
pub answered_same : (airs others : Airs) → Told airs others → (starts : List Account) (history : List TextLine) (step : Step) → Accepted (rules_of airs starts) history
    → line_refusal airs (length starts) (steps_of airs history) step ≡ None
    → answered_by airs (steps_of airs history) step ≡ answered_by others (steps_of others history) step
answered_same airs others told starts history this accepted none =
    grind (arith, answers_same, length, steps_of, legal, line_passes, answered_by, steps_same)

out_by : (airs others : Airs) (starts : List Account) (history : List TextLine) (reason : Option Refusal) (octets octets' : List ℕ) → (reason ≡ None → octets ≡ octets')
    → out_unless (rules_of airs starts) history reason octets ≡ out_unless (rules_of others starts) history reason octets'
out_by airs others starts history reason octets octets' same = grind arith

out_same : (airs others : Airs) → Told airs others → (starts : List Account) (history lines : List TextLine) → Accepted (rules_of airs starts) history
    → out (rules_of airs starts) history lines ≡ out (rules_of others starts) history lines
out_same airs others told starts history [] accepted = refl
out_same airs others told starts history (line ∷ lines) accepted =
    out_by airs others starts history (refusal_said airs (length starts) (steps_of airs history) (said_after history line)) _ _
    (λ none. ap (λ octets. octets ++ out (rules_of airs starts) (line ∷ history) lines)
    (brought_same airs others told starts history line accepted none)
    ∙ ap (λ octets. output_said others starts (steps_of others history) (said_after history line) ++ octets) (out_same airs others told starts (line ∷ history) lines (accepted, none)))
    ∙ ap (λ reason. out_unless (rules_of others starts) history reason
    (output_said others starts (steps_of others history) (said_after history line) ++ out (rules_of others starts) (line ∷ history) lines)) (refused_same airs others told starts history line accepted)

end_by : (history : List TextLine) (reason : Option Refusal) (end end' : End Refusal) → (reason ≡ None → end ≡ end') → end_unless history reason end ≡ end_unless history reason end'
end_by history reason end end' same = grind arith

end_same : (airs others : Airs) → Told airs others → (starts : List Account) (history lines : List TextLine) → Accepted (rules_of airs starts) history
    → end_of (rules_of airs starts) history lines ≡ end_of (rules_of others starts) history lines
end_same airs others told starts history [] accepted = refl
end_same airs others told starts history (line ∷ lines) accepted = cc (end_by history (refusal_said airs (length starts) (steps_of airs history) (said_after history line)) _ _ (λ none. end_same airs others told starts (line ∷ history) lines (accepted, none)), refused_same airs others told starts history line accepted)

-- the same lines come before the first refusal, and they are accepted
pub record BothRun (airs others : Airs) (starts : List Account) (one other : List TextLine) : Type 0 where
  pub same : one ≡ other
  pub accepted : Accepted (rules_of airs starts) one

runs_by : (airs others : Airs) (starts : List Account) (history : List TextLine) (reason : Option Refusal) (all all' : List TextLine) → Accepted (rules_of airs starts) history
    → (reason ≡ None → BothRun airs others starts all all') → BothRun airs others starts (accepted_unless history reason all) (accepted_unless history reason all')
runs_by airs others starts history reason all all' accepted same = grind arith

runs_same : (airs others : Airs) → Told airs others → (starts : List Account) (history lines : List TextLine) → Accepted (rules_of airs starts) history
    → BothRun airs others starts (accepted_of (rules_of airs starts) history lines) (accepted_of (rules_of others starts) history lines)
runs_same airs others told starts history [] accepted = record { same = refl; accepted = accepted }
runs_same airs others told starts history (line ∷ lines) accepted =
    subst (λ reason. BothRun airs others starts
    (accepted_unless history (refusal_said airs (length starts) (steps_of airs history) (said_after history line)) (accepted_of (rules_of airs starts) (line ∷ history) lines))
    (accepted_unless history reason (accepted_of (rules_of others starts) (line ∷ history) lines))) (refused_same airs others told starts history line accepted)
    (runs_by airs others starts history (refusal_said airs (length starts) (steps_of airs history) (said_after history line)) _ _ accepted
    (λ none. runs_same airs others told starts (line ∷ history) lines (accepted, none)))

-- ---- the law

pub transcript_same : (airs others : Airs) → Told airs others → (starts : List Account) (lines : List TextLine) → transcript_of airs starts lines ≡ transcript_of others starts lines
transcript_same airs others told starts lines = cc (out_same airs others told starts [] lines tt, end_same airs others told starts [] lines tt)

pub transcript_end_same : (airs others : Airs) → Told airs others → (starts : List Account) (lines : List TextLine) → transcript_end airs starts lines ≡ transcript_end others starts lines
transcript_end_same airs others told starts lines = cc (end_same airs others told starts [] lines tt)

pub out_of_same : (airs others : Airs) → Told airs others → (starts : List Account) (lines : List TextLine) → out_of airs starts lines ≡ out_of others starts lines
out_of_same airs others told starts lines = out_same airs others told starts [] lines tt

pub units_same : (airs others : Airs) → Told airs others → (starts : List Account) (lines : List TextLine) → units_of airs starts lines ≡ units_of others starts lines
units_same airs others told starts lines =
    grind (arith, runs_same, handed_up_same, length, steps_of, accepted_of, rules_of, legal, handed_up, steps_same)

pub end_after_same : (airs others : Airs) → Told airs others → (starts : List Account) (lines : List TextLine) → end_after airs starts lines ≡ end_after others starts lines
end_after_same airs others told starts lines = end_same airs others told starts [] lines tt

pub accepted_same : (airs others : Airs) → Told airs others → (starts : List Account) (lines : List TextLine) → Accepted (rules_of airs starts) lines → Accepted (rules_of others starts) lines
accepted_same airs others told starts [] accepted = tt
accepted_same airs others told starts (line ∷ lines) accepted =
    (accepted_same airs others told starts lines accepted.0, sym (refused_same airs others told starts lines line accepted.0) ∙ accepted.1)

said_handed : (airs others : Airs) → Both airs others → (boxes : ℕ) (made : List Step) (said : Said) → Legal airs boxes made → handed_said airs made said ≡ handed_said others made said
said_handed airs others both boxes made said legal = grind (arith, handed_same, legal)

pub handed_on_same : (airs others : Airs) → Told airs others → (starts : List Account) (lines : List TextLine) (line : TextLine) → Accepted (rules_of airs starts) lines
    → handed_on airs lines line ≡ handed_on others lines line
handed_on_same airs others told starts lines line accepted =
    said_handed airs others told.both (length starts) (steps_of airs lines) (said_after lines line) (legal told.ranged airs starts lines accepted)
    ∙ ap (λ made. handed_said others made (said_after lines line)) (steps_same airs others told starts lines accepted)
