-- The history of a sink of any lines: what its links write is octets, and it has at most eight slots.
use Rattle.scenario_laws.proofs.Known.Sources.Steps.{arith, ℕ, ◌≡◌, ◌≢◌, ◌<◌, false, List, [], ◌∷◌, Option, Some, refl, ne_eqb, TextLine, Settings, NoneNotifies, notified_and_read, is_forged, read_waits, state, view, AreOctets, made_of, steps_of, Airs, calls_made, the_world, SinkSetup as Setup, LinkCall as Call, history_happened, made_happened, zero, suc, ◌==◌, cond, Bool, AllByRecursion, append-nil, none-some, born, repeated, IsAsked, Step, IsInRange, World, history_of, calls_after, made_by, a_step, with_said, cons_octets, Said, said_of}
use Rattle.scenario_laws.specs.Links.{AgreementLaw, Agrees}
use Rattle.scenario_laws.proofs.Legals.{LinesInRange, InRange, in_range}
use Rattle.bass_operations.specs.declared.operation.Operation.TheVariants as operations

-- ---- steps of lines

abbrev pub Ranged : List Step → Type 0
Ranged steps = AllByRecursion IsInRange steps

ranged_said : (earlier : List Step) (said : Said) → Ranged earlier → InRange said → Ranged (with_said said earlier)
ranged_said earlier (a_step this) before ranged = (ranged, before)
ranged_said earlier said before ranged = search

pub ranged_lines : LinesInRange → (lines : List TextLine) → Ranged (said_of lines)
ranged_lines ranged [] = tt
ranged_lines ranged (line ∷ earlier) = search (ranged_said, in_range, ranged_lines ranged earlier)

-- ---- its slots

few_by : (n : ℕ) (step : Step) (earlier : List Step) (before : Option Settings) → IsInRange step
    → ((made : Settings) → before ≡ Some made → made.setup.slots < 256)
    → (made : Settings) → made_by n step earlier before ≡ Some made → made.setup.slots < 256
few_by n this earlier before ranged few = grind (arith, none-some)

pub few_slots : (n : ℕ) (steps : List Step) → Ranged steps → (made : Settings) → made_of n steps ≡ Some made → made.setup.slots < 256
few_slots n [] ranged = λ made is. absurd (none-some made is)
few_slots n (step ∷ earlier) ranged = few_by n step earlier (made_of n earlier) ranged.0 (few_slots n earlier ranged.1)

-- ---- what is written

octets_if : (is_its : Bool) (here there : List Call) → AreOctets here → AreOctets there → AreOctets (cond is_its here there)
octets_if is_its here there first second = grind arith

repeats : (count : ℕ) (call : Call) (calls : List Call) → IsAsked call → AreOctets calls → AreOctets (repeated count call calls)
repeats zero call calls is before = before
repeats (suc count) call calls is before = (is, repeats count call calls is before)

octets_called : (world : World) (n : ℕ) (step : Step) (earlier : List Step) (made : Option Settings) (calls : List Call) → IsInRange step
    → AreOctets calls → AreOctets (calls_after world n step earlier made calls)
octets_called world n (Step.Sink sink streams slots mtu) earlier made calls ranged before = octets_if (sink == n) (born mtu) calls
    (grind arith) before
octets_called world n this earlier made calls ranged before = grind (arith, octets_if, repeats, cons_octets, append-nil)

pub history_octets : (world : World) (n : ℕ) (steps : List Step) → Ranged steps → AreOctets (history_of world n steps)
history_octets world n [] ranged = tt
history_octets world n (step ∷ earlier) ranged = octets_called world n step earlier (made_of n earlier) (history_of world n earlier) ranged.0 (history_octets world n earlier ranged.1)

-- ---- no notice is forged over a link other than 0, and every sink of any lines agrees with its assistants

-- what holds of each link
pub record OfLinks : Type 0 where
  pub agrees : (setup : Setup) (mtu : Option ℕ) (link slot : ℕ) (calls : List Call) → setup.slots < 256 → slot < setup.slots → AreOctets calls
      → is_forged link calls ≡ false → NoneNotifies setup mtu link slot calls → read_waits setup mtu link slot calls ≡ false
      → view setup mtu link slot calls ≡ state setup slot calls
  pub drained : (setup : Setup) (mtu : Option ℕ) (link slot : ℕ) (calls : List Call) → setup.slots < 256 → slot < setup.slots → AreOctets calls
      → is_forged link calls ≡ false → view setup mtu link slot (notified_and_read setup mtu link calls) ≡ state setup slot calls

-- relayed units are no part of a history

pub links_agree : LinesInRange → OfLinks → AgreementLaw
links_agree in_range laws airs lines n link slot made is below plain =
    grind (arith, calls_made, steps_of, history_happened, ranged_lines, few_slots, history_octets, the_world, made_happened, is_forged)

-- ---- links other than 0

not_forged : (link : ℕ) (calls : List Call) → link ≢ 0 → is_forged link calls ≡ false
not_forged link [] other = refl
not_forged link (Call.joined at ∷ earlier) other = grind (arith, (not_forged link earlier other))
not_forged link (Call.forged slot octets ∷ earlier) other = cc (ne_eqb link 0 other, not_forged link earlier other)
not_forged link (call ∷ earlier) other = not_forged link earlier other

pub apart_agree : LinesInRange → OfLinks → (airs : Airs) (lines : List TextLine) (n link slot : ℕ) (made : Settings)
    → made_of n (steps_of airs lines) ≡ Some made → slot < made.setup.slots
    → link ≢ 0 → Agrees made link slot (calls_made n (steps_of airs lines))
apart_agree in_range laws airs lines n link slot made is below other = search (links_agree, not_forged)
