-- Why a step of a scenario in version 2 is refused: for the reason of version 1, but where that is BadLine, `BadGroup 11` or
-- TimeOrder. Lists of steps have the newest first; where a list is called `own` its steps are those of one source.
use Rattle.scenario_laws.proofs.Known.Sources.{ℕ, ◌≡◌, ◌⊎◌, ◌≤◌, ltb, Bool, List, [], ◌∷◌, Option, None, Some, arith, refl, sym, subst, ◌∙◌, ap, ap₂, inl, inr, option_map, option_or, BigInfo, airs_of, give_fault, Step, Refusal, AfterEnd, Order, Settings, named_by, refused_at, refused_where, refuse_if, box_after, box_of, give_refusal, group_refusal, is_out_of_order, own_refusal, refusal_of, sink_refusal, source_refusal, twin_refusal, setup_of, source_calls, chosen_steps, is_over, version_of, the_world, IsLasting, first_fault, first_same, near_or_horizon, refused_same, relays_same, IsLater, ahead_stays, at_second, calls_same, horizon_grows, is_later, over_same, same, seconds, unbegun_same, airs_same, is_ahead, setup_same, with_ahead, LinkCall}
use Rattle.scenario_laws.proofs.Versions.Lived.{AreCalm, AreWider, QuietHistory, is_quiet, history_same, made_wider, quiet_history}

-- the reason is one that version 2 may not have
abbrev pub IsGone : Option Refusal → Type 0
IsGone None = ⊥
IsGone (Some reason) = IsLasting reason → ⊥

-- one refusal is the other, or that one may be gone
abbrev pub Lasts : Option Refusal → Option Refusal → Type 0
Lasts one two = (two ≡ one) ⊎ IsGone one

or_lasts : (a here there : Option Refusal) → Lasts here there → Lasts (option_or a here) (option_or a there)
or_lasts a here there lasts = grind arith

lasts_or : (here there b : Option Refusal) → Lasts here there → Lasts (option_or here b) (option_or there b)
lasts_or here there b h3 = grind (arith, same)

-- ---- a group

group_lasts : (near wider : ℕ) (info : BigInfo) → near ≤ wider
    → Lasts (group_refusal (first_fault near info)) (group_refusal (first_fault wider info))
group_lasts near wider info within = elim (near_or_horizon (first_fault near info)) [
  | inl is ↦ inl (ap group_refusal (first_same near wider info within is))
  | inr too_far ↦ inr (subst (λ found. IsGone (group_refusal found)) (sym too_far) (λ lasting. lasting))
]

-- ---- a unit

unit_lasts : (own : List Step) (bis : ℕ) (time : Option ℕ) (octets : List ℕ)
    → Lasts (option_map give_refusal (give_fault (setup_of own) (source_calls own) (airs_of (setup_of own) (source_calls own)) bis time
    octets)) (option_map give_refusal (give_fault (setup_of (seconds own)) (source_calls (seconds own))
    (airs_of (setup_of (seconds own)) (source_calls (seconds own))) bis time octets))
unit_lasts own bis time octets =
    let ahead : Bool = is_ahead (seconds own) in
    let here = option_map give_refusal (give_fault (setup_of own) (source_calls own) (airs_of (setup_of own) (source_calls own)) bis time
    octets) in
    subst (Lasts here)
    (sym (ap₂ (λ setup calls. option_map give_refusal (give_fault setup calls (airs_of setup calls) bis time octets)) (setup_same own)
    (calls_same own)
    ∙ ap (λ airs. option_map give_refusal (give_fault (with_ahead ahead (setup_of own)) (source_calls own) airs bis time octets))
    (airs_same ahead (setup_of own) (source_calls own)))) (grind (
      arith,
      option_map,
      give_refusal,
      ltb,
      with_ahead,
      (ahead_stays (version_of own) (version_of (seconds own)) (is_later own)),
    ))

-- ---- a step of a source

source_lasts : (version later : ℕ) (own : List Step) (step : Step) → IsLater version later
    → Lasts (source_refusal airs_of version own step) (source_refusal airs_of later (seconds own) step)
source_lasts version later own (Step.Start first) is = search (same, lasts_or, group_lasts, horizon_grows)
source_lasts version later own (Step.Unit bis time octets) is = unit_lasts own bis time octets
source_lasts version later own _ is = inl (search same)

-- ---- a step of a sink

box_next : (n : ℕ) (step : Step) (earlier : List Step) (box other : Option ℕ) → other ≡ box
    → box_after n step (seconds earlier) other ≡ box_after n step earlier box
box_next n this earlier box other stays = grind (arith, same)

pub box_same : (n : ℕ) (made : List Step) → box_of n (seconds made) ≡ box_of n made
box_same n [] = refl
box_same n (step ∷ earlier) = cc (at_second (λ one two. box_after n two (seconds earlier) (box_of n (seconds earlier)) ≡ box_after n one (seconds earlier) (box_of n (seconds earlier))) (λ version. refl) (λ same. refl) step, box_next n step earlier (box_of n earlier) (box_of n (seconds earlier)) (box_same n earlier))

where_same : (step : Step) (made other : Option Settings) (calls : List LinkCall) → AreWider made other → QuietHistory made calls
    → refused_where step other calls ≡ refused_where step made calls
where_same this made other calls wider quiet = grind (arith, refused_same, is_quiet)

named_same : (step : Step) (named : Option ℕ) (made : List Step) → AreCalm made
    → refused_at the_world (seconds made) step named ≡ refused_at the_world made step named
named_same this named made calm = grind (arith, seconds, history_same, where_same, made_wider, quiet_history)

sink_same : (boxes : ℕ) (made : List Step) (step : Step) → AreCalm made
    → sink_refusal boxes (seconds made) step ≡ sink_refusal boxes made step
sink_same boxes made (Step.Sink sink streams slots mtu) calm = search (same, box_same)
sink_same boxes made (Step.Relay sink bis to) calm = refl
sink_same boxes made step calm = search (box_same, named_same step (named_by step) made calm)

-- ---- the order of steps, and both sources

twin_same : (made : List Step) (step : Step) → twin_refusal (seconds made) step ≡ twin_refusal made step
twin_same made Step.End = refl
twin_same made _ = search (same, relays_same, box_same)

-- ---- the first reason that holds

pub step_lasts : (boxes : ℕ) (made : List Step) (step : Step) → AreCalm made
    → Lasts (refusal_of airs_of boxes made step) (refusal_of airs_of boxes (seconds made) step)
step_lasts boxes made step calm =
    let later : Option Refusal = source_refusal airs_of (version_of (seconds made)) (seconds (chosen_steps made)) step in
    let here : Option Refusal = source_refusal airs_of (version_of made) (chosen_steps made) step in
    let sink : Option Refusal = sink_refusal boxes made step in
    let order : Option Refusal = refuse_if (is_out_of_order made step) Order in
    let ended : Option Refusal = refuse_if (is_over made) AfterEnd in
    let twin : Option Refusal = twin_refusal made step in
    subst (Lasts (refusal_of airs_of boxes made step)) (grind (
      arith,
      option_or,
      refuse_if,
      own_refusal,
      airs_of,
      seconds,
      over_same,
      twin_refusal,
      sink_same,
      same,
      twin_same,
      unbegun_same,
    )) (or_lasts ended _ _ (or_lasts order _ _ (or_lasts sink _ _
    (lasts_or here later twin (source_lasts (version_of made) (version_of (seconds made)) (chosen_steps made) step (is_later made))))))
