-- A train that a source announces isn't answered `BadGroup 11`: its group passed the group check of the version that its sinks
-- are of too (Basic Audio Profile 1.0, section 6.5; Core 5.2, volume 6 part B, section 4.4.6). Lists of steps have the newest
-- first; where a list is called `own` its steps are those of one source.
use Rattle.scenario_laws.proofs.Known.Sources.{arith, ℕ, ◌≡◌, ◌≤◌, ◌-◌, ◌==◌, not, cond, Bool, true, false, List, [], ◌∷◌, Option, None, Some, refl, sym, subst, unwrap_or, eqb-true, false≢true, ltb-false, not-false, MayAnnounce, train_of, IsTrain, Tells, TellsInfo, Endpoint, Horizon, BigInfo, NoFault, Settings, without_cipher, next_anchor_of, next_of, Step, made_of, own_train, horizon_in, base_of, is_base_too_long, group_refusal, refusal_of, source_refusal, refuse_if, checked_info, cipher_of, group_of, identity_of, is_sending, is_started, no_group, setup_of, Airs, source_calls, chosen_of, chosen_steps, is_of_source, is_unbegun_at, stage_of, steps_of_source, version_of, announced_of, calls_made, source_at, snapshot_in, TrainOctets as Train, horizon_of as group_horizon, SinkSetup as Setup, Train as Heard, Lawful, Legal, Permitted, bounds_in, lawful, may_announce, may_be_sent, neither, permitted, sends, settled, within_near, ReadsNear, outcome_near, sink_horizon}
use Rattle.scenario_laws.proofs.Versions.Lived.{IsCalm}

-- ---- `scenario` comes first

unbegun_empty : (airs : Airs) (boxes : ℕ) (made : List Step) → Legal airs boxes made → is_unbegun_at (stage_of made) ≡ true → made ≡ []
unbegun_empty airs boxes (this ∷ earlier) legal unbegun = grind (arith, false≢true, permitted)
unbegun_empty airs boxes made legal unbegun = search (false≢true, permitted)

first_alone : (airs : Airs) (boxes version : ℕ) (earlier : List Step) → Legal airs boxes (Step.Scenario version ∷ earlier) → earlier ≡ []
first_alone airs boxes version earlier legal = grind (arith, unbegun_empty, not-false, is_unbegun_at, stage_of, permitted)

-- ---- the greatest horizon of a group for a sink

-- a sink that lives has this horizon
abbrev HasHorizon : Option Settings → ℕ → Type 0
HasHorizon None horizon = Unit {0}
HasHorizon (Some made) horizon = made.setup.horizon ≡ horizon

horizon_if : (b : Bool) (one made : Option Settings) (horizon : ℕ) → HasHorizon one horizon → HasHorizon made horizon
    → HasHorizon (cond b one made) horizon
horizon_if b one made horizon is has = grind arith

horizon_made : (airs : Airs) (boxes n : ℕ) (made : List Step) → Legal airs boxes made
    → HasHorizon (made_of n made) (horizon_in (version_of made))
horizon_made airs boxes n [] legal = tt
horizon_made airs boxes n (Step.Scenario version ∷ earlier) legal = grind (arith, first_alone airs boxes version earlier legal)
horizon_made airs boxes n (Step.Sink sink streams slots mtu ∷ earlier) legal =
    search (horizon_if, sink_horizon, horizon_made airs boxes n earlier legal.0)
horizon_made airs boxes n (this ∷ earlier) legal = search (horizon_if, horizon_made airs boxes n earlier legal.0)

-- ---- the horizon of the group of a source

-- the group of the source, where it was started, has at most this horizon
abbrev IsWithin : List Step → ℕ → Type 0
IsWithin own horizon = is_started own ≡ true → group_horizon (unwrap_or (group_of own) no_group).info ≤ horizon

within_if : (b : Bool) (own : List Step) (step : Step) (horizon : ℕ) → (b ≡ true → IsWithin (step ∷ own) horizon) → IsWithin own horizon
    → IsWithin (cond b (step ∷ own) own) horizon
within_if b own this horizon here before = grind arith

-- the group check found that its horizon is no greater
started_within : (version first : ℕ) (own : List Step) → source_refusal (λ setup calls. []) version own (Step.Start first) ≡ None
    → group_horizon (unwrap_or (group_of own) no_group).info ≤ horizon_in version
started_within version first own none =
    let sound : NoFault (horizon_in version) (without_cipher (unwrap_or (group_of own) no_group).info) = grind (arith, may_be_sent, horizon_in, unwrap_or, group_of, no_group, cipher_of, checked_info, neither, group_refusal, refuse_if, is_base_too_long) in
    ltb-false (horizon_in version) (group_horizon (unwrap_or (group_of own) no_group).info) (sound Horizon)

starts_in : (airs : Airs) (boxes s first : ℕ) (earlier : List Step) → Permitted airs boxes earlier (Step.Start first)
    → is_of_source s earlier (Step.Start first) ≡ true
    → IsWithin (Step.Start first ∷ steps_of_source s earlier) (horizon_in (version_of earlier))
starts_in airs boxes s first earlier permits is =
    subst (λ t. IsWithin (Step.Start first ∷ steps_of_source t earlier) (horizon_in (version_of earlier)))
    (eqb-true (chosen_of earlier) s is) (λ started. started_within (version_of earlier) first (chosen_steps earlier) permits.by_source)

-- where the source was sending before the step
stops_in : (s : ℕ) (earlier : List Step) → not (is_sending (chosen_steps earlier)) ≡ false → (chosen_of earlier == s) ≡ true
    → IsWithin (steps_of_source s earlier) (horizon_in (version_of earlier))
    → group_horizon (unwrap_or (group_of (steps_of_source s earlier)) no_group).info ≤ horizon_in (version_of earlier)
stops_in s earlier sending is before = grind (arith, sends, steps_of_source, not, is_sending, eqb-true, chosen_of)

group_within : (airs : Airs) (boxes s : ℕ) (made : List Step) → Legal airs boxes made
    → IsWithin (steps_of_source s made) (horizon_in (version_of made))
group_within airs boxes s [] legal = λ started. absurd (false≢true started)
group_within airs boxes s (Step.Scenario version ∷ earlier) legal =
    subst (λ before. IsWithin (Step.Scenario version ∷ steps_of_source s before) (horizon_in version))
    (sym (first_alone airs boxes version earlier legal)) (λ started. absurd (false≢true started))
group_within airs boxes s (Step.Group framing origin delay iso sdu max_sdu max_pdu num_bis bn nse irc pto sub spacing phy ∷ earlier) legal =
    let this : Step = Step.Group framing origin delay iso sdu max_sdu max_pdu num_bis bn nse irc pto sub spacing phy in
    within_if (is_of_source s earlier this) (steps_of_source s earlier) this (horizon_in (version_of earlier))
    (λ is started. absurd (false≢true started)) (group_within airs boxes s earlier legal.0)
group_within airs boxes s (Step.Start first ∷ earlier) legal =
    within_if (is_of_source s earlier (Step.Start first)) (steps_of_source s earlier) (Step.Start first) (horizon_in (version_of earlier))
    (starts_in airs boxes s first earlier (permitted airs boxes earlier (Step.Start first) legal.1))
    (group_within airs boxes s earlier legal.0)
group_within airs boxes s (Step.Stop ∷ earlier) legal =
    let before : IsWithin (steps_of_source s earlier) (horizon_in (version_of earlier)) = group_within airs boxes s earlier legal.0 in
    within_if (is_of_source s earlier Step.Stop) (steps_of_source s earlier) Step.Stop (horizon_in (version_of earlier))
    (λ is started. stops_in s earlier (permitted airs boxes earlier Step.Stop legal.1).in_phase is before) before
group_within airs boxes s (Step.Terminate reason ∷ earlier) legal =
    let before : IsWithin (steps_of_source s earlier) (horizon_in (version_of earlier)) = group_within airs boxes s earlier legal.0 in
    within_if (is_of_source s earlier (Step.Terminate reason)) (steps_of_source s earlier) (Step.Terminate reason)
    (horizon_in (version_of earlier))
    (λ is started. stops_in s earlier (permitted airs boxes earlier (Step.Terminate reason) legal.1).in_phase is before) before
group_within airs boxes s (this ∷ earlier) legal = search (within_if, group_within airs boxes s earlier legal.0)

-- ---- what a sink reads of an announced train

-- the laws of announcements
pub record Announcing : Type 0 where
  -- a source has a train for each event that it can announce
  pub is_train : (broadcast_id : List ℕ) (base : Endpoint) (info : BigInfo) (event anchor : ℕ)
      → MayAnnounce broadcast_id base info event anchor
      → IsTrain broadcast_id base info event anchor (train_of broadcast_id base info event anchor)
  -- a train is read as what it tells
  pub is_read : (train : Train) (broadcast_id : List ℕ) (base : Endpoint) (info : BigInfo) (event anchor : ℕ) → 1 ≤ info.bn
      → IsTrain broadcast_id base info event anchor train → Tells train broadcast_id base info event anchor

reads_near : (setup : Setup) (train : Train) (heard : Heard) (broadcast_id : List ℕ) (base : Endpoint) (info : BigInfo) (event anchor : ℕ)
    → heard.acad ≡ train.acad → Tells train broadcast_id base info event anchor → group_horizon info ≤ setup.horizon → ReadsNear setup heard
reads_near setup train heard broadcast_id base info event anchor same tells within octets its found is =
    let told : TellsInfo train.acad tells.read = tells.info_is in
    within_near setup.horizon its (grind arith)

-- ---- an announced train

pub announced_calm : Announcing → (airs : Airs) (boxes n : ℕ) (earlier : List Step) → Legal airs boxes earlier
    → refusal_of airs boxes earlier (Step.Announce n) ≡ None → IsCalm earlier (Step.Announce n)
announced_calm laws airs boxes n earlier legal none m made names is =
    let own : List Step = chosen_steps earlier in
    let permits : Permitted airs boxes earlier (Step.Announce n) = permitted airs boxes earlier (Step.Announce n) none in
    let lawful_own : Lawful airs own = lawful airs boxes (chosen_of earlier) earlier legal in
    let started : is_started own ≡ true = sends own permits.in_phase in
    let event : ℕ = next_of (setup_of own) (source_calls own) in
    let anchor : ℕ = next_anchor_of (setup_of own) (source_calls own) in
    let may : MayAnnounce (identity_of own).broadcast_id (base_of own) (checked_info own) event anchor =
    may_announce airs own lawful_own permits.in_phase permits.by_source in
    let tells : Tells (announced_of own) (identity_of own).broadcast_id (base_of own) (checked_info own) event anchor =
    laws.is_read (announced_of own) (identity_of own).broadcast_id (base_of own) (checked_info own) event anchor
    (bounds_in own (settled airs own lawful_own) started).bn
    (laws.is_train (identity_of own).broadcast_id (base_of own) (checked_info own) event anchor may) in
    let reach : group_horizon (checked_info own) ≤ horizon_in (version_of earlier) =
    group_within airs boxes (chosen_of earlier) earlier legal started in
    let horizon : made.setup.horizon ≡ horizon_in (version_of earlier) = grind (
      arith,
      (subst (λ one. HasHorizon one (horizon_in (version_of earlier))) is (horizon_made airs boxes m earlier legal)),
    ) in
    outcome_near made.setup (snapshot_in made (calls_made m earlier)) (own_train (source_at earlier))
    (reads_near made.setup (announced_of own) (own_train (source_at earlier)) (identity_of own).broadcast_id (base_of own)
    (checked_info own) event anchor refl tells (subst (λ most. group_horizon (checked_info own) ≤ most) (sym horizon) reach))
