-- The steps of one source of a scenario of which no line was refused: its group stands before its start, it takes calls only
-- behind it, and what fixes it stays.
use Rattle.scenario_laws.proofs.Known.Sources.Steps.{ℕ, ◌≡◌, ◌≤◌, cond, Bool, true, false, List, [], ◌∷◌, ◌++◌, refl, sym, ◌∙◌, arith, append_assoc, Setup, give, events, next_of, Step, is_of_source, steps_of_source, is_started, setup_of, source_calls, Airs, SourceCall, event as perform, permitted, ◌⊎◌, ◌||◌, ◌&&◌, ◌==◌, not, Option, None, ap, subst, inl, inr, unwrap_or, cases_Bool, eqb-true, false≢true, or_parts, not-false, none-some, Group, Bounds, NoFault, FitsWidths, without_cipher, IsChecked, IsInRange, BaseTooLong, stage_same, chosen_of, is_common, is_source_line, is_unbegun_at, stage_of, version_of, checked_info, cipher_of, group_of, is_described_at, is_sending, no_group, takes_units, phase_of, start_of, AreAccepted, is_base_too_long, counter_ends, group_refusal, is_misplaced, is_out_of_phase, source_refusal, refuse_if, horizon_in, first_fault, source_is_heard as is_heard, Permitted, maps_none, neither, may_be_sent}
use Rattle.scenario_laws.proofs.Legals.{Legal}
use Rattle.big_info.proofs.Citable.{bounds_of, no_fault_within}
use Rattle.source_machine.specs.declared.fault.EventFault.{EventFault}

-- ---- tests

pub true_not_false : (b : Bool) → b ≡ true → b ≡ false → ⊥
true_not_false b holds fails = false≢true (sym fails ∙ holds)

-- ---- the phases

pub sends : (own : List Step) → not (is_sending own) ≡ false → is_started own ≡ true
sends own is = grind (arith, false≢true, phase_of)

pub takes : (own : List Step) → not (takes_units own) ≡ false → is_started own ≡ true
takes own is = sends own (grind arith)

pub hears : (own : List Step) → not (is_heard own) ≡ false → is_started own ≡ true
hears own is = not-false (is_started own) (grind arith)

-- a step that stands before `start`, and not where something else holds
pub not_yet : (own : List Step) (other : Bool) → (not (is_described_at (phase_of own)) || other) ≡ false → is_started own ≡ false
not_yet own other is = grind (arith, phase_of, or_parts, not, is_described_at, false≢true)

-- ---- the steps of a source

-- the source takes the step after those before it
pub record Allowed (airs : Airs) (own : List Step) (step : Step) : Type 0 where
  pub version : ℕ
  pub in_place : is_misplaced (stage_of own) step ≡ false
  pub in_phase : is_out_of_phase own step ≡ false
  pub by_source : source_refusal airs version own step ≡ None
  pub ranged : IsInRange step

abbrev pub Lawful : Airs → List Step → Type 0
Lawful airs [] = Unit {0}
Lawful airs (step ∷ own) = Lawful airs own × Allowed airs own step

of_source_parts : (a b c : Bool) → (a || (b && c)) ≡ true → (a ≡ true) ⊎ (c ≡ true)
of_source_parts a b c is = grind (arith, false≢true)

pub its_step : (airs : Airs) (boxes s : ℕ) (earlier : List Step) (step : Step) → Permitted airs boxes earlier step → IsInRange step → is_of_source s earlier step ≡ true
    → Allowed airs (steps_of_source s earlier) step
its_step airs boxes s earlier step permits ranged is =
    let placed : (t : ℕ) → is_misplaced (stage_of (steps_of_source t earlier)) step ≡ false = λ t. ap (λ stage. is_misplaced stage step) (stage_same t earlier) ∙ permits.in_place in
    elim (of_source_parts (is_common step) (is_source_line step) (chosen_of earlier == s) is) [
      | inl common ↦ grind (arith, false≢true, (placed s))
      | inr chosen ↦ grind (arith, steps_of_source, eqb-true, chosen_of, version_of)
    ]

pub lawful : (airs : Airs) (boxes s : ℕ) (made : List Step) → Legal airs boxes made → Lawful airs (steps_of_source s made)
lawful airs boxes s [] legal = tt
lawful airs boxes s (step ∷ earlier) legal =
    grind (
      arith,
      (lawful airs boxes s earlier legal.0),
      (its_step airs boxes s earlier step (permitted airs boxes earlier step legal.1) legal.2),
    )

pub horizon_greatest : (second : Bool) → cond second 31 15 ≤ 31
horizon_greatest second = grind arith

-- ---- what holds of a source in its phase

pub record Settled (own : List Step) : Type 0 where
  pub widths : FitsWidths (unwrap_or (group_of own) no_group).info
  pub uncoded : without_cipher (unwrap_or (group_of own) no_group).info ≡ (unwrap_or (group_of own) no_group).info
  pub no_fault : is_started own ≡ true → NoFault 31 (unwrap_or (group_of own) no_group).info
  pub quiet : is_started own ≡ false → source_calls own ≡ []
  pub unbegun : is_started own ≡ false → unwrap_or (start_of own) 0 ≡ 0
  pub under_way : is_started own ≡ true → is_unbegun_at (stage_of own) ≡ false

begins : (own : List Step) → (is_started own ≡ true → is_unbegun_at (stage_of own) ≡ false) → not (is_unbegun_at (stage_of own)) ≡ false → is_started own ≡ false
begins own before is = grind (arith, cases_Bool, is_started, true_not_false, is_unbegun_at, stage_of, not-false)

settled_after : (airs : Airs) (own : List Step) (step : Step) → Settled own → Allowed airs own step → Settled (step ∷ own)
settled_after airs own (Step.Group framing origin delay iso sdu max_sdu max_pdu num_bis bn nse irc pto sub spacing phy) before allows =
    grind (arith, false≢true)
settled_after airs own (Step.Start first) before allows = record {
  widths = before.widths;
  uncoded = before.uncoded;
  no_fault = λ started. no_fault_within (horizon_in allows.version) (unwrap_or (group_of own) no_group).info (horizon_greatest (allows.version == 2))
      (subst (NoFault (horizon_in allows.version)) before.uncoded
      (may_be_sent (horizon_in allows.version) (unwrap_or (group_of own) no_group).info (cipher_of own) (first_fault (horizon_in allows.version) (checked_info own)) refl
      (neither (group_refusal (first_fault (horizon_in allows.version) (checked_info own))) (refuse_if (is_base_too_long own) BaseTooLong) allows.by_source).0));
  quiet = λ idle. absurd (false≢true (sym idle));
  under_way = λ started. allows.in_place;
  unbegun = λ idle. absurd (false≢true (sym idle));
}
settled_after airs own Step.Stop before allows = grind (arith, sends, false≢true)
settled_after airs own (Step.Terminate reason) before allows = grind (arith, sends, false≢true)
settled_after airs own (Step.Unit bis time octets) before allows = grind (arith, true_not_false, is_started, takes)
settled_after airs own Step.Event before allows = grind (arith, true_not_false, is_started, takes)
settled_after airs own _ before allows = assumption

pub settled : (airs : Airs) (own : List Step) → Lawful airs own → Settled own
settled airs [] legal = grind (arith, false≢true)
settled airs (step ∷ own) legal = settled_after airs own step (settled airs own legal.0) legal.1

pub setup_stays : (airs : Airs) (own : List Step) (step : Step) → Settled own → Allowed airs own step → is_started own ≡ true → setup_of (step ∷ own) ≡ setup_of own
setup_stays airs own this is allows started = grind (arith, true_not_false, not_yet, begins)

-- the group of a source that was started
abbrev pub group_in : (own : List Step) → Settled own → is_started own ≡ true → Group
group_in own is started = record {
  info = (setup_of own).info;
  widths = is.widths;
  no_fault = is.no_fault started;
  bounds = bounds_of (setup_of own).info (is.no_fault started);
}

pub checked : (group : Group) → IsChecked group.info
checked group = record { bounds = group.bounds; framing = omega (arith, group.widths.framing) }

pub bounds_in : (own : List Step) → Settled own → is_started own ≡ true → Bounds (setup_of own).info
bounds_in own is started = bounds_of (setup_of own).info (is.no_fault started)

-- ---- its calls were accepted

pub no_end : (fault : Option EventFault) → counter_ends fault ≡ None → fault ≡ None
no_end fault none = grind (arith, none-some)

pub are_accepted : (airs : Airs) (own : List Step) → Lawful airs own → AreAccepted airs (setup_of own) (source_calls own)
are_accepted airs [] legal = tt
are_accepted airs (this ∷ own) legal =
    grind (arith, not_yet, maps_none, no_end, begins, (settled airs own legal.0), (are_accepted airs own legal.0))

-- ---- the steps of a source so far, as a part of all its steps: what fixes it is the same, and its calls are the first of all

-- these calls and others behind them
abbrev pub Extends : List SourceCall → List SourceCall → Type 0
Extends whole calls = (later : List SourceCall) × (whole ≡ later ++ calls)

-- what fixes the source and the calls that it takes in all
pub record Within (setup : Setup) (whole : List SourceCall) (own : List Step) : Type 0 where
  pub setup_is : is_started own ≡ true → setup_of own ≡ setup
  pub calls : Extends whole (source_calls own)

extends_less : (whole calls : List SourceCall) (call : SourceCall) → Extends whole (call ∷ calls) → Extends whole calls
extends_less whole calls call more = (more.0 ++ call ∷ [], more.1 ∙ sym (append_assoc more.0 (call ∷ []) calls))

extends_before : (whole : List SourceCall) (own : List Step) (step : Step) → Extends whole (source_calls (step ∷ own)) → Extends whole (source_calls own)
extends_before whole own (Step.Unit bis time octets) more = extends_less whole (source_calls own) (give bis time octets) more
extends_before whole own Step.Event more = extends_less whole (source_calls own) perform more
extends_before whole own _ more = more

within_if : (airs : Airs) (setup : Setup) (whole : List SourceCall) (own : List Step) (step : Step) (is_its : Bool) → Lawful airs own → (is_its ≡ true → Allowed airs own step)
    → Within setup whole (cond is_its (step ∷ own) own) → Within setup whole own
within_if airs setup whole own this true legal allows within = record {
  setup_is = λ started. sym (setup_stays airs own this (settled airs own legal) (allows refl) started) ∙ within.setup_is (grind (arith, true_not_false, (allows refl)));
  calls = extends_before whole own this within.calls;
}
within_if airs setup whole own this false legal allows within = within

pub within_before : (airs : Airs) (boxes s : ℕ) (setup : Setup) (whole : List SourceCall) (earlier : List Step) (step : Step) → Legal airs boxes (step ∷ earlier)
    → Within setup whole (steps_of_source s (step ∷ earlier)) → Within setup whole (steps_of_source s earlier)
within_before airs boxes s setup whole earlier step legal within =
    within_if airs setup whole (steps_of_source s earlier) step (is_of_source s earlier step) (lawful airs boxes s earlier legal.0)
    (its_step airs boxes s earlier step (permitted airs boxes earlier step legal.1) legal.2) within

pub within_itself : (own : List Step) → Within (setup_of own) (source_calls own) own
within_itself own = record { setup_is = λ started. refl; calls = ([], refl) }

pub events_more : (later calls : List SourceCall) → events calls ≤ events (later ++ calls)
events_more [] calls = omega arith
events_more (give bis time octets ∷ later) calls = events_more later calls
events_more (perform ∷ later) calls = omega (arith, events_more later calls)

-- ---- the source goes on

-- a source that was started stays so, and what fixes it stays
pub record Goes (before after : List Step) : Type 0 where
  pub started : is_started after ≡ true
  pub setup_is : setup_of after ≡ setup_of before

goes_if : (airs : Airs) (own : List Step) (step : Step) (is_its : Bool) → Lawful airs own → (is_its ≡ true → Allowed airs own step) → is_started own ≡ true → Goes own (cond is_its (step ∷ own) own)
goes_if airs own this is_its legal allows started = grind (arith, setup_stays, settled, true_not_false)

pub goes : (airs : Airs) (boxes s : ℕ) (earlier : List Step) (step : Step) → Legal airs boxes (step ∷ earlier) → is_started (steps_of_source s earlier) ≡ true
    → Goes (steps_of_source s earlier) (steps_of_source s (step ∷ earlier))
goes airs boxes s earlier step legal started =
    goes_if airs (steps_of_source s earlier) step (is_of_source s earlier step) (lawful airs boxes s earlier legal.0) (its_step airs boxes s earlier step
    (permitted airs boxes earlier step legal.1) legal.2) started

-- the next event of the source
abbrev pub next_in : List Step → ℕ
next_in own = next_of (setup_of own) (source_calls own)

next_if : (airs : Airs) (own : List Step) (step : Step) (is_its : Bool) → Lawful airs own → (is_its ≡ true → Allowed airs own step) → next_in own ≤ next_in (cond is_its (step ∷ own) own)
next_if airs own this is_its legal allows = grind (arith, not_yet, settled)

-- it never falls
pub next_rises : (airs : Airs) (boxes s : ℕ) (earlier : List Step) (step : Step) → Legal airs boxes (step ∷ earlier)
    → next_in (steps_of_source s earlier) ≤ next_in (steps_of_source s (step ∷ earlier))
next_rises airs boxes s earlier this legal = grind (arith, next_if, steps_of_source, is_of_source, lawful, its_step, permitted)
