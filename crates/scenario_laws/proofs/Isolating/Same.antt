-- What two lists of steps have alike of one sink and of one source, where steps that concern neither are left out of one of them.
use Rattle.scenario_laws.proofs.Known.Sources.Steps.Prelude.{ℕ, ◌≡◌, ◌≢◌, false, List, Option, None, Some, is_some, ap, unwrap_or, Settings, Step, box_of, handed_up, is_of, sink_calls, source_of, Airs, chosen_given, chosen_of, chosen_steps, last_given, steps_of_source, calls_made, source_at, horizon_in, made_of, version_given, units_by, last_given_in as last_of, LinkCall as Call, sink_horizon_of as horizon_of}
use Rattle.scenario_laws.proofs.Isolating.Histories.{Alike}
use Rattle.scenario_laws.proofs.Isolating.Sums.{TookAlike}
use Rattle.scenario_laws.proofs.Isolating.Said.{chosen_said, said_of, source_same}

-- two histories of a sink that lives come to the same
abbrev pub HistoriesAlike : Option Settings → List Call → List Call → Type 0
HistoriesAlike None a b = Unit {0}
HistoriesAlike (Some made) a b = Alike made.setup made.mtu a b

pub record Same (airs : Airs) (s n : ℕ) (made others : List Step) : Type 0 where
  pub chosen : last_given chosen_given made ≡ last_given chosen_given others
  pub own : said_of (steps_of_source s made) ≡ said_of (steps_of_source s others)
  pub version : last_of version_given made ≡ last_of version_given others
  pub sink : made_of n made ≡ made_of n others
  pub lives : HistoriesAlike (made_of n made) (calls_made n made) (calls_made n others)
  pub source : source_of n made ≡ source_of n others
  pub apart : (t : ℕ) → t ≢ s → is_of t (source_of n made) ≡ false
  pub calls : sink_calls airs n made ≡ sink_calls airs n others
  pub boxed : is_some (box_of n made) ≡ is_some (box_of n others)
  pub units : units_by n (handed_up airs made) ≡ units_by n (handed_up airs others)
  pub took : TookAlike airs n made others

pub chosen_alike : (airs : Airs) (s n : ℕ) (made others : List Step) → Same airs s n made others → chosen_of made ≡ chosen_of others
chosen_alike airs s n made others same = ap (λ given. unwrap_or given 0) same.chosen

pub horizon_alike : (airs : Airs) (s n : ℕ) (made others : List Step) → Same airs s n made others → horizon_of made ≡ horizon_of others
horizon_alike airs s n made others same = ap (λ given. horizon_in (unwrap_or given 1)) same.version

-- where the source is chosen
pub own_alike : (airs : Airs) (s n : ℕ) (made others : List Step) → chosen_of made ≡ s → Same airs s n made others
    → said_of (chosen_steps made) ≡ said_of (chosen_steps others)
own_alike airs s n made others is same = chosen_said s made others is (chosen_alike airs s n made others same) same.own

pub source_alike : (airs : Airs) (s n : ℕ) (made others : List Step) → chosen_of made ≡ s → Same airs s n made others
    → source_at made ≡ source_at others
source_alike airs s n made others is same = search (source_same, chosen_alike, own_alike)
