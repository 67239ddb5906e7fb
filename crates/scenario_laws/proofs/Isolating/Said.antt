-- What is said of a source, looked back for: eight facts, of which all else that sinks and lines take of it are functions.
use Rattle.scenario_laws.proofs.Known.Sources.Steps.Prelude.{arith, ℕ, ◌≡◌, ◌∙◌, cond, Bool, List, ◌∷◌, Option, ap, option_or, Cipher, BaseLine, Step, base_lines, with_base_line, GroupLine, Phase, cipher_given, cipher_of, group_given, group_of, ident_of, identity_given, phase_given, source_calls, start_given, start_of, with_source_call, Stage, chosen_of, chosen_steps, is_of_source, last_given, stage_after, stage_of, steps_of_source, source_at, events, Identity, SourceCall}
use Rattle.scenario_laws.proofs.RelayedUnits.Histories.{Told, source_told}

pub record Said : Type 0 where
  pub stage : Stage
  pub group : Option GroupLine
  pub start : Option ℕ
  pub ident : Option Identity
  pub cipher : Option Cipher
  pub phase : Option Phase
  pub lines : List BaseLine
  pub calls : List SourceCall

abbrev pub said_of : List Step → Said
said_of own = record {
  stage = stage_of own;
  group = group_of own;
  start = start_of own;
  ident = ident_of own;
  cipher = cipher_of own;
  phase = last_given phase_given own;
  lines = base_lines own;
  calls = source_calls own;
}

-- a step more
abbrev pub said_after : Step → Said → Said
said_after step said = record {
  stage = stage_after step said.stage;
  group = option_or (group_given step) said.group;
  start = option_or (start_given step) said.start;
  ident = option_or (identity_given step) said.ident;
  cipher = option_or (cipher_given step) said.cipher;
  phase = option_or (phase_given step) said.phase;
  lines = with_base_line step said.lines;
  calls = with_source_call step said.calls;
}

-- ---- what they fix

abbrev told_in : Said → Told
told_in s = record { group = s.group; start = s.start; ident = s.ident; cipher = s.cipher; lines = s.lines; performed = events s.calls }

-- ---- so two lists of steps that say the same of a source have all of it alike

-- ---- what is heard on the air

-- ---- the chosen source

-- the source that a line after these steps means
pub source_same : (made others : List Step) → chosen_of made ≡ chosen_of others
    → said_of (chosen_steps made) ≡ said_of (chosen_steps others) → source_at made ≡ source_at others
source_same made others chosen same = ap (λ s. source_told s (told_in (said_of (chosen_steps made)))) chosen ∙ ap (λ said. source_told (chosen_of others) (told_in said)) same

-- where it is this one, of which both say the same
pub chosen_said : (s : ℕ) (made others : List Step) → chosen_of made ≡ s → chosen_of made ≡ chosen_of others
    → said_of (steps_of_source s made) ≡ said_of (steps_of_source s others) → said_of (chosen_steps made) ≡ said_of (chosen_steps others)
chosen_said s made others is chosen same = cc (is, same, is, chosen)

-- ---- a step more

said_if : (is_its : Bool) (step : Step) (own own' : List Step) → said_of own ≡ said_of own'
    → said_of (cond is_its (step ∷ own) own) ≡ said_of (cond is_its (step ∷ own') own')
said_if is_its this own own' same = grind arith

-- that both lists have
pub said_grows : (s : ℕ) (step : Step) (made others : List Step) → chosen_of made ≡ chosen_of others
    → said_of (steps_of_source s made) ≡ said_of (steps_of_source s others)
    → said_of (steps_of_source s (step ∷ made)) ≡ said_of (steps_of_source s (step ∷ others))
said_grows s this made others chosen same = grind (arith, said_if, is_of_source, steps_of_source)

stays_if : (is_its : Bool) (step : Step) (own : List Step) → said_after step (said_of own) ≡ said_of own
    → said_of (cond is_its (step ∷ own) own) ≡ said_of own
stays_if is_its this own same = grind arith

-- that says nothing of a source
pub said_stays : (s : ℕ) (step : Step) (made : List Step) → ((said : Said) → said_after step said ≡ said)
    → said_of (steps_of_source s (step ∷ made)) ≡ said_of (steps_of_source s made)
said_stays s step made nothing = cc (stays_if (is_of_source s made step) step (steps_of_source s made) (nothing (said_of (steps_of_source s made))))
