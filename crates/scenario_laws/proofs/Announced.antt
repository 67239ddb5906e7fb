-- Where a sink is that `announce` puts on a group: where the group's source is for its next event (Basic Audio Profile 1.0,
-- sections 3.7.2 and 6.5).
use Rattle.scenario_laws.proofs.Known.Sources.{ℕ, ◌≡◌, ◌<◌, ◌≤◌, ◌^◌, Bool, List, Some, arith, unwrap_or, none-some, Endpoint, BigInfo, IsTrain, Tells, IsOnGroup, heard_as, MayAnnounce, train_of, Snapshot, TrainOutcome, Settings, outcome_by, big_sync_in, BigSync, by_numbers, next_anchor_of, next_of, Step, own_train, big_sync_of, snapshot_in, base_of, subgroups_of, checked_info, group_of, identity_of, no_group, setup_of, source_calls, Airs, chosen_of, chosen_steps, announced_of, big_sync_on, calls_made, source_at, ◌-◌, cond, ltb, true, false, [], ◌∷◌, refl, subst, inl, inr, filter, list_any, range_with_len, div-eq_of_lt, pow-le-pow_right, cases_Bool, eqb-true, false≢true, ltb-true, is_in, TrainOctets as Train, SinkSetup, taken, may_announce, tellable, Legal, Permitted, Lawful, bounds_in, lawful, sends, settled, has_beyond, Brings}

-- the laws of announcements
pub record Announcing : Type 0 where
  -- a source has a train for each event that it can announce
  pub is_train : (broadcast_id : List ℕ) (base : Endpoint) (info : BigInfo) (event anchor : ℕ) → MayAnnounce broadcast_id base info event anchor
      → IsTrain broadcast_id base info event anchor (train_of broadcast_id base info event anchor)
  -- a train is read as what it tells
  pub is_read : (train : Train) (broadcast_id : List ℕ) (base : Endpoint) (info : BigInfo) (event anchor : ℕ) → 1 ≤ info.bn
      → IsTrain broadcast_id base info event anchor train → Tells train broadcast_id base info event anchor
  -- a sink is put where the source is
  pub is_put : (setup : SinkSetup) (snapshot : Snapshot) (address_type sid : ℕ) (train : Train) (broadcast_id : List ℕ) (base : Endpoint) (info : BigInfo) (event anchor : ℕ)
      (slot : ℕ) (bits : List ℕ) (encrypted : Bool) (big_sync : BigSync)
      → Tells train broadcast_id base info event anchor → outcome_by setup snapshot (heard_as address_type sid train) ≡ taken slot bits encrypted big_sync
      → IsOnGroup base info event anchor big_sync

-- the train was taken
record Taken (brought : TrainOutcome) (big_sync : BigSync) : Type 0 where
  slot : ℕ
  bits : List ℕ
  encrypted : Bool
  is : brought ≡ taken slot bits encrypted big_sync

it_was_taken : (brought : TrainOutcome) (big_sync : BigSync) → big_sync_in brought ≡ Some big_sync → Taken brought big_sync
it_was_taken brought big_sync is = grind (arith, none-some)

-- what the source announces for its next event
told : Announcing → (airs : Airs) (own : List Step) → Lawful airs own → MayAnnounce (identity_of own).broadcast_id (base_of own) (checked_info own)
    (next_of (setup_of own) (source_calls own)) (next_anchor_of (setup_of own) (source_calls own)) → 1 ≤ (setup_of own).info.bn
    → Tells (announced_of own) (identity_of own).broadcast_id (base_of own) (checked_info own)
    (next_of (setup_of own) (source_calls own)) (next_anchor_of (setup_of own) (source_calls own))
told laws airs own legal may least =
    laws.is_read (announced_of own) (identity_of own).broadcast_id (base_of own) (checked_info own)
    (next_of (setup_of own) (source_calls own)) (next_anchor_of (setup_of own) (source_calls own)) least
    (laws.is_train (identity_of own).broadcast_id (base_of own) (checked_info own) (next_of (setup_of own) (source_calls own)) (next_anchor_of (setup_of own) (source_calls own)) may)

-- the sink is where the source is for its next event
abbrev pub IsOn : List Step → BigSync → Type 0
IsOn own big_sync =
    IsOnGroup (base_of own) (checked_info own) (next_of (setup_of own) (source_calls own)) (next_anchor_of (setup_of own) (source_calls own)) big_sync

-- the train synchronizes the sink to the BIG of the source
pub announced_on : Announcing → (airs : Airs) (boxes n : ℕ) (earlier : List Step) (made : Settings) (big_sync : BigSync)
    → Legal airs boxes earlier → Permitted airs boxes earlier (Step.Announce n)
    → big_sync_of made (snapshot_in made (calls_made n earlier)) (Some (own_train (source_at earlier))) ≡ Some big_sync
    → IsOn (chosen_steps earlier) big_sync
announced_on laws airs boxes n earlier made big_sync legal permits is =
    let own : List Step = chosen_steps earlier in
    let legal_own : Lawful airs own = lawful airs boxes (chosen_of earlier) earlier legal in
    let may = may_announce airs own legal_own permits.in_phase permits.by_source in
    let tells = told laws airs own legal_own may (bounds_in own (settled airs own legal_own) (sends own permits.in_phase)).bn in
    let took : Taken (outcome_by made.setup (snapshot_in made (calls_made n earlier)) (own_train (source_at earlier))) big_sync =
    it_was_taken (outcome_by made.setup (snapshot_in made (calls_made n earlier)) (own_train (source_at earlier))) big_sync is in
    laws.is_put made.setup (snapshot_in made (calls_made n earlier)) (source_at earlier).address_type (source_at earlier).sid (announced_of own)
    (identity_of own).broadcast_id (base_of own) (checked_info own) (next_of (setup_of own) (source_calls own)) (next_anchor_of (setup_of own) (source_calls own))
    took.slot took.bits took.encrypted big_sync tells took.is

pub announced_tuning : Announcing → (airs : Airs) (boxes n : ℕ) (earlier : List Step) (made : Settings) (big_sync : BigSync)
    → Legal airs boxes earlier → Permitted airs boxes earlier (Step.Announce n)
    → big_sync_of made (snapshot_in made (calls_made n earlier)) (Some (own_train (source_at earlier))) ≡ Some big_sync
    → by_numbers big_sync ≡ big_sync_on (chosen_steps earlier) big_sync.which
announced_tuning laws airs boxes n earlier made big_sync legal permits is =
    let legal_own : Lawful airs (chosen_steps earlier) = lawful airs boxes (chosen_of earlier) earlier legal in
    grind (
      arith,
      unwrap_or,
      group_of,
      no_group,
      subgroups_of,
      (settled airs (chosen_steps earlier) legal_own),
      (tellable airs (chosen_steps earlier) legal_own),
      (announced_on laws airs boxes n earlier made big_sync legal permits is),
    )

-- ---- a stay that an announced train begins is the one that `tuned` would begin with the same streams, which are the group's

-- ---- the streams are those of the group

kept : (test : ℕ → Bool) (x : ℕ) (xs : List ℕ) (of_set : Bool) → (of_set ≡ true → test x ≡ false) → list_any test xs ≡ false → list_any test (cond of_set (x ∷ xs) xs) ≡ false
kept test x xs of_set none rest = grind arith

none_of : (test in_set : ℕ → Bool) (xs : List ℕ) → ((x : ℕ) → in_set x ≡ true → test x ≡ false) → list_any test (filter in_set xs) ≡ false
none_of test in_set [] none = refl
none_of test in_set (x ∷ xs) none = kept test x (filter in_set xs) (in_set x) (none x) (none_of test in_set xs none)

none_beyond : (num_bis which : ℕ) → which < 2 ^ num_bis → has_beyond num_bis which ≡ false
unfolding has_beyond
none_beyond num_bis which small =
    none_of (λ bis. ltb num_bis bis) (is_in which) (range_with_len 1 31) (λ bis in_set. elim (cases_Bool (ltb num_bis bis)) [
      | inl above ↦ absurd (grind (
        arith,
        pow-le-pow_right,
        div-eq_of_lt,
        false≢true,
        (ltb-true num_bis bis above),
      ))
      | inr within ↦ within
    ])

-- ---- as by hand

pub as_by_hand : Announcing → (airs : Airs) (boxes n sink : ℕ) (earlier : List Step) (big_sync : BigSync) → Legal airs boxes earlier
    → Permitted airs boxes earlier (Step.Announce sink) → Brings n sink earlier big_sync
    → (by_numbers big_sync ≡ big_sync_on (chosen_steps earlier) big_sync.which) × (has_beyond (setup_of (chosen_steps earlier)).info.num_bis big_sync.which ≡ false)
as_by_hand laws airs boxes n sink earlier big_sync legal permits brings =
    let permits_it : Permitted airs boxes earlier (Step.Announce n) = subst (λ m. Permitted airs boxes earlier (Step.Announce m)) (eqb-true sink n brings.0) permits in (
      announced_tuning laws airs boxes n earlier brings.1.made big_sync legal permits_it brings.1.is,
      none_beyond (setup_of (chosen_steps earlier)).info.num_bis big_sync.which
          ((announced_on laws airs boxes n earlier brings.1.made big_sync legal permits_it brings.1.is).within),
    )
