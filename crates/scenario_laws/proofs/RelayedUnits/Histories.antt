-- What happens by steps of lines, of what they say: relayed units are no part of the stage, of the sinks and of what is handed up.
use Rattle.scenario_laws.proofs.Known.Sources.Steps.Prelude.{◌≡◌, ◌==◌, ◌∙◌, cond, Bool, true, false, List, [], ◌∷◌, ◌++◌, refl, sym, ap, ap₂, eqb-true, Step, handed_by, handed_up, after_offers, happened, offers_at, with_relayed_units, Airs, chosen_of, sinks_made, stage_of, ℕ, ◌+◌, ◌||◌, ◌&&◌, Option, arith, unwrap_or, train_of, Settings, iso_us_of, Cipher, BaseLine, subgroups_in, Source, calls_after, calls_at, calls_by, made_by, made_of, named_by, events, anchor_of, with_cipher, Identity, Refusal, base_from, base_lines, Offer, after_offer, offers_before, with_relayed_unit_unless, GroupLine, cipher_of, group_of, ident_of, no_group, no_identity, source_calls, start_of, is_common, is_of_source, is_source_line, steps_of_source, calls_made, source_at, the_world, closing, LinkCall as Call, sink_horizon_of as horizon_of}
use Rattle.scenario_laws.proofs.RelayedUnits.Left.{left_by_relayed_units, left_by_offers}

pub stage_happened : (airs : Airs) (said : List Step) → stage_of (happened airs said) ≡ stage_of said
stage_happened airs [] = refl
stage_happened airs (step ∷ earlier) = cc ((left_by_relayed_units airs (happened airs earlier) step).stage, stage_happened airs earlier)

pub sinks_happened : (airs : Airs) (said : List Step) → sinks_made (happened airs said) ≡ sinks_made said
sinks_happened airs [] = refl
sinks_happened airs (step ∷ earlier) = cc ((left_by_relayed_units airs (happened airs earlier) step).sinks, sinks_happened airs earlier)

-- ---- what is handed up

closes_if : (hit : Bool) (airs : Airs) (made : List Step) → (hit ≡ true → chosen_of made ≡ 0)
    → (let after = after_offers airs (cond hit (offers_at airs made) []) made in closing airs (chosen_of after) after ≡ closing airs (chosen_of made) made)
closes_if true airs made is =
    let after = after_offers airs (offers_at airs made) made in
    let left = left_by_offers airs (offers_at airs made) made in
    ap (λ c. closing airs c after) (left.chosen ∙ is refl) ∙ left.closing_first ∙ ap (λ c. closing airs c made) (sym (is refl))
closes_if false airs made is = refl

-- a step hands up the same behind its relayed units
pub hands_alike : (airs : Airs) (made : List Step) (step : Step) → handed_by airs (with_relayed_units airs made step) step ≡ handed_by airs made step
hands_alike airs made Step.End =
    let left = left_by_relayed_units airs made Step.End in ap₂ (λ first second. first ++ second) left.closing_first left.closing_second
hands_alike airs made this = search (closes_if (chosen_of made == 0) airs made (eqb-true (chosen_of made) 0))

-- all that is handed up: by the steps of lines alone
pub handed_happened : (airs : Airs) (earlier : List Step) (step : Step)
    → handed_up airs (happened airs (step ∷ earlier)) ≡ handed_up airs (happened airs earlier) ++ handed_by airs (happened airs earlier) step
handed_happened airs earlier step =
    ap₂ (λ before now. before ++ now) (left_by_relayed_units airs (happened airs earlier) step).handed (hands_alike airs (happened airs earlier) step)

-- ---- what happens by steps of lines makes of each sink, its links and its assistants what the lines say: relayed units are no part of what a
-- source announces and of where it stands.

-- ---- what is said of a source, but for its units

pub record Told : Type 0 where
  pub group : Option GroupLine
  pub start : Option ℕ
  pub ident : Option Identity
  pub cipher : Option Cipher
  pub lines : List BaseLine
  pub performed : ℕ

abbrev told_of : List Step → Told
told_of own = record {
  group = group_of own;
  start = start_of own;
  ident = ident_of own;
  cipher = cipher_of own;
  lines = base_lines own;
  performed = events (source_calls own);
}

abbrev first_in : Told → ℕ
first_in told = unwrap_or told.start 0

abbrev next_in : Told → ℕ
next_in told = first_in told + told.performed

abbrev anchor_in : Told → ℕ
anchor_in told =
    anchor_of (unwrap_or told.group no_group).origin (first_in told) (next_in told) (iso_us_of (unwrap_or told.group no_group).info)

-- the source that a line means, of its number and of this
abbrev pub source_told : ℕ → Told → Source
source_told number told = record {
  number = number;
  address_type = (unwrap_or told.ident no_identity).address_type;
  sid = (unwrap_or told.ident no_identity).sid;
  announced = train_of (unwrap_or told.ident no_identity).broadcast_id (base_from (unwrap_or told.group no_group) (subgroups_in told.lines))
      (with_cipher (unwrap_or told.group no_group).info told.cipher) (next_in told) (anchor_in told);
  big_sync = λ which. record {
    info = (unwrap_or told.group no_group).info;
    which = which;
    first = next_in told;
    anchor = anchor_in told;
    delay = (unwrap_or told.group no_group).delay;
  };
}

-- ---- relayed units

unless_told : (s : ℕ) (reason : Option Refusal) (offer : Offer) (made : List Step)
    → told_of (steps_of_source s (with_relayed_unit_unless reason offer made)) ≡ told_of (steps_of_source s made)
unless_told s reason offer made = grind arith

offers_told : (s : ℕ) (airs : Airs) (offers : List Offer) (made : List Step)
    → told_of (steps_of_source s (after_offers airs offers made)) ≡ told_of (steps_of_source s made)
offers_told s airs [] made = refl
offers_told s airs (offer ∷ offers) made = search (unless_told, offers_told s airs offers (after_offer airs offer made))

unless_horizon : (reason : Option Refusal) (offer : Offer) (made : List Step)
    → horizon_of (with_relayed_unit_unless reason offer made) ≡ horizon_of made
unless_horizon reason offer made = grind arith

offers_horizon : (airs : Airs) (offers : List Offer) (made : List Step) → horizon_of (after_offers airs offers made) ≡ horizon_of made
offers_horizon airs [] made = refl
offers_horizon airs (offer ∷ offers) made = search (unless_horizon, offers_horizon airs offers (after_offer airs offer made))

-- ---- the source that a line means

pub chosen_happened : (airs : Airs) (said : List Step) → chosen_of (happened airs said) ≡ chosen_of said
chosen_happened airs [] = refl
chosen_happened airs (step ∷ earlier) =
    grind (arith, ((left_by_relayed_units airs (happened airs earlier) step).chosen ∙ chosen_happened airs earlier))

told_if : (mine : Bool) (step : Step) (own others : List Step) → told_of own ≡ told_of others
    → told_of (cond mine (step ∷ own) own) ≡ told_of (cond mine (step ∷ others) others)
told_if mine this own others same = grind arith

told_happened : (s : ℕ) (airs : Airs) (said : List Step) → told_of (steps_of_source s (happened airs said)) ≡ told_of (steps_of_source s said)
told_happened s airs [] = refl
told_happened s airs (step ∷ earlier) =
    let made = happened airs earlier in
    let after_relays = with_relayed_units airs made step in
    ap (λ c. told_of (cond (is_common step || (is_source_line step && (c == s))) (step ∷ steps_of_source s after_relays) (steps_of_source s after_relays)))
    ((left_by_relayed_units airs made step).chosen ∙ chosen_happened airs earlier)
    ∙ told_if (is_of_source s earlier step) step (steps_of_source s after_relays) (steps_of_source s earlier)
    (offers_told s airs (offers_before airs made step) made ∙ told_happened s airs earlier)

-- behind the relayed units of a step, too
source_after_relays : (airs : Airs) (step : Step) (earlier : List Step)
    → source_at (with_relayed_units airs (happened airs earlier) step) ≡ source_at earlier
source_after_relays airs step earlier =
    let made = happened airs earlier in
    let after_relays = with_relayed_units airs made step in
    ap (λ c. source_told c (told_of (steps_of_source c after_relays))) ((left_by_relayed_units airs made step).chosen ∙ chosen_happened airs earlier)
    ∙ ap (source_told (chosen_of earlier))
    (offers_told (chosen_of earlier) airs (offers_before airs made step) made ∙ told_happened (chosen_of earlier) airs earlier)

-- ---- a sink

horizon_next : (step : Step) (before others : List Step) → horizon_of before ≡ horizon_of others → horizon_of (step ∷ before) ≡ horizon_of (step ∷ others)
horizon_next this before others same = grind arith

horizon_happened : (airs : Airs) (said : List Step) → horizon_of (happened airs said) ≡ horizon_of said
horizon_happened airs [] = refl
horizon_happened airs (this ∷ earlier) = search (horizon_next, offers_horizon, horizon_happened airs earlier)

made_next : (n : ℕ) (step : Step) (before others : List Step) (made : Option Settings) → horizon_of before ≡ horizon_of others
    → made_by n step before made ≡ made_by n step others made
made_next n this before others made same = grind arith

pub made_happened : (airs : Airs) (n : ℕ) (said : List Step) → made_of n (happened airs said) ≡ made_of n said
made_happened airs n [] = refl
made_happened airs n (step ∷ earlier) =
    let before = happened airs earlier in
    let after_relays = with_relayed_units airs before step in
    ap (made_by n step after_relays) ((left_by_relayed_units airs before step).made n ∙ made_happened airs n earlier)
    ∙ made_next n step after_relays earlier (made_of n earlier)
    (offers_horizon airs (offers_before airs before step) before ∙ horizon_happened airs earlier)

named_next : (n : ℕ) (named : Option ℕ) (step : Step) (before others : List Step) (made : Option Settings) (calls : List Call)
    → source_at before ≡ source_at others
    → calls_at the_world n named step before made calls ≡ calls_at the_world n named step others made calls
named_next n named this before others made calls same = grind (arith, cond, calls_by)

called_next : (n : ℕ) (step : Step) (before others : List Step) (made : Option Settings) (calls : List Call)
    → source_at before ≡ source_at others → calls_after the_world n step before made calls ≡ calls_after the_world n step others made calls
called_next n (Step.Sink sink streams slots mtu) before others made calls same = refl
called_next n step before others made calls same = named_next n (named_by step) step before others made calls same

pub history_happened : (airs : Airs) (n : ℕ) (said : List Step) → calls_made n (happened airs said) ≡ calls_made n said
history_happened airs n [] = refl
history_happened airs n (step ∷ earlier) =
    let before = happened airs earlier in
    let after_relays = with_relayed_units airs before step in
    let left = left_by_relayed_units airs before step in
    ap₂ (calls_after the_world n step after_relays) (left.made n ∙ made_happened airs n earlier) (left.lives n ∙ history_happened airs n earlier)
    ∙ called_next n step after_relays earlier (made_of n earlier) (calls_made n earlier) (source_after_relays airs step earlier)
