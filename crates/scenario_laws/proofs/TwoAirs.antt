-- Two airs that meet the relation of their framing: no source, no refusal, no sink and no close tells them apart.
use Rattle.scenario_laws.proofs.Known.{ℕ, zero, suc, ◌≡◌, Bool, true, false, List, [], ◌∷◌, Option, None, refl, sym, ◌∙◌, ap, arith, unwrap_or, option_or, or_parts, Air, AreAirs, airs_of, pdu_of, Airs, Setup, IsChecked, Call, Step, Refusal, chosen_of, chosen_steps, steps_of_source, event_back, is_started, open_event, pdu_in, setup_of, source_calls, MeetAirs, heard_on_air, sink_calls, position_at, with_sink_call, closing_at, closing_both, handed_by, handed_up, refusal_of, refuse_if, SourceCall, closing, Legal, permitted, Lawful, checked, group_in, hears, lawful, settled, takes, flat_same, its_airs, subst}

-- the relation has at most one solution
abbrev pub OneAir : Type 0
OneAir = (setup : Setup) → (calls : List SourceCall) → (airs : List Air) → (others : List Air) → IsChecked setup.info
    → AreAirs setup calls airs → AreAirs setup calls others → airs ≡ others

-- and has one
abbrev pub SomeAirs : Type 0
SomeAirs = (setup : Setup) → (calls : List SourceCall) → IsChecked setup.info → AreAirs setup calls (airs_of setup calls)

-- both airs meet the relation
pub record Both (airs others : Airs) : Type 0 where
  pub one : OneAir
  pub meets : MeetAirs airs
  pub meet_too : MeetAirs others

-- ---- a source

pub its_same : (airs others : Airs) → Both airs others → (own : List Step) → Lawful airs own → Lawful others own → is_started own ≡ true
    → airs (setup_of own) (source_calls own) ≡ others (setup_of own) (source_calls own)
its_same airs others both own legal legal_too started =
    both.one (setup_of own) (source_calls own) (airs (setup_of own) (source_calls own)) (others (setup_of own) (source_calls own)) (checked (group_in own (settled airs own legal) started))
    (its_airs airs both.meets own legal started) (its_airs others both.meet_too own legal_too started)

pub pdu_same : (airs others : Airs) (own : List Step) → airs (setup_of own) (source_calls own) ≡ others (setup_of own) (source_calls own) → (event bis subevent : ℕ)
    → pdu_in airs own event bis subevent ≡ pdu_in others own event bis subevent
pdu_same airs others own same event bis subevent = ap (λ all. unwrap_or (pdu_of (setup_of own) all event bis subevent) []) same

-- no step before was refused under either
pub record Twice (airs others : Airs) (boxes : ℕ) (made : List Step) : Type 0 where
  pub here : Legal airs boxes made
  pub there : Legal others boxes made

pub chosen_same : (airs others : Airs) → Both airs others → (boxes : ℕ) (made : List Step) → Twice airs others boxes made → is_started (chosen_steps made) ≡ true
    → airs (setup_of (chosen_steps made)) (source_calls (chosen_steps made)) ≡ others (setup_of (chosen_steps made)) (source_calls (chosen_steps made))
chosen_same airs others both boxes made twice started = grind (arith, its_same, chosen_steps, lawful, chosen_of)

-- ---- what is refused

pub in_order : (test : Bool) (reason : Refusal) (rest others : Option Refusal) → (test ≡ false → rest ≡ others) → option_or (refuse_if test reason) rest ≡ option_or (refuse_if test reason) others
in_order test reason rest others same = grind arith

pub refusal_same : (airs others : Airs) → Both airs others → (boxes : ℕ) (earlier : List Step) (step : Step) → Twice airs others boxes earlier
    → refusal_of airs boxes earlier step ≡ refusal_of others boxes earlier step
refusal_same airs others both boxes earlier this twice = grind (arith, in_order, chosen_same, takes, or_parts)

pub legal_too : (airs others : Airs) → Both airs others → (boxes : ℕ) (made : List Step) → Legal airs boxes made → Legal others boxes made
legal_too airs others both boxes [] legal = tt
legal_too airs others both boxes (step ∷ earlier) legal =
    let before : Legal others boxes earlier = legal_too airs others both boxes earlier legal.0 in
    (before, sym (refusal_same airs others both boxes earlier step (record { here = legal.0; there = before })) ∙ legal.1, legal.2)

-- ---- a sink

air_same : (airs others : Airs) (own : List Step) (lose count : ℕ) (calls : List Call) → airs (setup_of own) (source_calls own) ≡ others (setup_of own) (source_calls own)
    → heard_on_air airs own lose count calls ≡ heard_on_air others own lose count calls
air_same airs others own lose zero calls same = refl
air_same airs others own lose (suc i) calls same = grind (arith, position_at (setup_of own).info i, pdu_same airs others own same (event_back own 0) (position_at (setup_of own).info i).bis (position_at (setup_of own).info i).subevent, air_same airs others own lose i calls same)

step_same : (airs others : Airs) → Both airs others → (boxes n : ℕ) (step : Step) (earlier : List Step) (calls : List Call) → Twice airs others boxes earlier
    → refusal_of airs boxes earlier step ≡ None → with_sink_call airs n step earlier calls ≡ with_sink_call others n step earlier calls
step_same airs others both boxes n this earlier calls twice none = grind (arith, pdu_same, chosen_same, hears, permitted, air_same)

pub sink_same : (airs others : Airs) → Both airs others → (boxes n : ℕ) (made : List Step) → Legal airs boxes made → sink_calls airs n made ≡ sink_calls others n made
sink_same airs others both boxes n [] legal = refl
sink_same airs others both boxes n (this ∷ earlier) legal =
    search (step_same, legal_too, sink_same airs others both boxes n earlier legal.0)

-- ---- what is handed up

closing_at_same : (airs others : Airs) → Both airs others → (boxes s : ℕ) (made : List Step) (last_open : Option ℕ) → Legal airs boxes made
    → closing_at airs s made last_open ≡ closing_at others s made last_open
closing_at_same airs others both boxes s made last_open legal = grind (arith, flat_same, sink_same)

pub closing_same : (airs others : Airs) → Both airs others → (boxes s : ℕ) (made : List Step) → Legal airs boxes made → closing airs s made ≡ closing others s made
closing_same airs others both boxes s made legal = closing_at_same airs others both boxes s made (open_event (steps_of_source s made)) legal

pub closing_both_same : (airs others : Airs) → Both airs others → (boxes : ℕ) (made : List Step) → Legal airs boxes made → closing_both airs made ≡ closing_both others made
closing_both_same airs others both boxes made legal = grind (arith, closing_same)

pub handed_same : (airs others : Airs) → Both airs others → (boxes : ℕ) (made : List Step) (step : Step) → Legal airs boxes made → handed_by airs made step ≡ handed_by others made step
handed_same airs others both boxes made this legal = grind (arith, closing_same, closing_both_same)

pub handed_up_same : (airs others : Airs) → Both airs others → (boxes : ℕ) (made : List Step) → Legal airs boxes made → handed_up airs made ≡ handed_up others made
handed_up_same airs others both boxes [] legal = refl
handed_up_same airs others both boxes (step ∷ earlier) legal =
    cc (handed_up_same airs others both boxes earlier legal.0, handed_same airs others both boxes earlier step legal.0)

-- ---- airs that meet the relation of their framing

pub airs_meet : SomeAirs → MeetAirs airs_of
airs_meet some = record { meet = λ group setup calls same accepted. some setup calls (subst IsChecked (sym same) (checked group)) }
