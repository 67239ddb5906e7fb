-- What upper crates may cite: units that go to their boxes after others, and sinks of which the same past is told in other
-- words.
use Rattle.std.proofs.Common.{◌≡◌, ℕ, List, [], ◌∷◌, ◌++◌, refl, sym, ◌∙◌, ap, subst, append_assoc, slice_get, Option, Result, Ok, Err}
use Rattle.unit_outlets.specs.Account.{Account}
use Rattle.unit_outlets.specs.Took.{TookAt}
use Rattle.unit_outlets.specs.declared.fault.OutletFault.TheVariants.{Failed}
use Rattle.group_sink.specs.Calls.{Call}
use Rattle.sink_history.specs.Calls as links
use Rattle.delegator_history.specs.Trains.{Settings}
use Rattle.scenario_history.specs.Boxes.{SinkUnit, accounts_after, with_handed}
use Rattle.scenario_history.specs.Output.{unit_line, unit_lines}
use Rattle.transcript_text.specs.declared.stop.Stop.{Stop}
use Rattle.transcript_text.specs.declared.stop.Stop.TheVariants.{Refused, OutletFault, Memory}
use Rattle.scenario_sinks.specs.declared.sink.Sink.{Sink}
use Rattle.scenario_sinks.specs.declared.sinks.Sinks.{Sinks}
use Rattle.scenario_sinks.specs.Handing.{Hands}
use Rattle.scenario_sinks.specs.Histories.{Histories}
use Rattle.scenario_sinks.specs.State.Standing.{EntryIs, SinksStand}
pub use Rattle.scenario_sinks.proofs.Faults.{failed_one, none_counts, one_then, took_stay}

pub lines_append : (us vs : List SinkUnit) → unit_lines (us ++ vs) ≡ unit_lines us ++ unit_lines vs
lines_append [] vs = refl
lines_append (u ∷ us) vs = ap (λ rest. unit_line u ++ rest) (lines_append us vs) ∙ sym (append_assoc (unit_line u) (unit_lines us) (unit_lines vs))

pub accounts_append : (us vs : List SinkUnit) (old : List Account) → accounts_after old (us ++ vs) ≡ accounts_after (accounts_after old us) vs
accounts_append [] vs old = refl
accounts_append (u ∷ us) vs old = accounts_append us vs (with_handed old u.box u.unit)

pub hands_then : (us vs : List SinkUnit) (text told told2 : List ℕ) (old mid new : List Account) (r : Result (Unit {0}) Stop)
    → told ≡ text ++ unit_lines us → mid ≡ accounts_after old us → Hands vs told told2 mid new r → Hands (us ++ vs) text told2 old new r
hands_then us vs text told told2 old mid new (Ok x) t a h = (
  h.0 ∙ ap (λ prefix. prefix ++ unit_lines vs) t ∙ append_assoc text (unit_lines us) (unit_lines vs) ∙ ap (λ rest. text ++ rest) (sym (lines_append us vs)),
  h.1 ∙ ap (λ accounts. accounts_after accounts vs) a ∙ sym (accounts_append us vs old),
)
hands_then us vs text told told2 old mid new (Err (Refused reason)) t a h = h
hands_then us vs text told told2 old mid new (Err OutletFault) t a h = record {
  done = us ++ h.done;
  unit = h.unit;
  rest = h.rest;
  split = ap (λ rest. us ++ rest) h.split ∙ sym (append_assoc us h.done (h.unit ∷ h.rest));
  bis = h.bis;
  time = h.time;
  octets = h.octets;
  is_valid = h.is_valid;
  lines = h.lines ∙ ap (λ prefix. prefix ++ unit_lines h.done) t ∙ append_assoc text (unit_lines us) (unit_lines h.done) ∙ ap (λ rest. text ++ rest) (sym (lines_append us h.done));
  box = let P : List Account → Type 0 = λ accounts. TookAt h.unit.box h.octets accounts new (Err Failed) in
      subst P (ap (λ accounts. accounts_after accounts h.done) a ∙ sym (accounts_append us h.done old)) h.box;
}
hands_then us vs text told told2 old mid new (Err Memory) t a h = record {
  done = us ++ h.done;
  rest = h.rest;
  split = ap (λ rest. us ++ rest) h.split ∙ sym (append_assoc us h.done h.rest);
  boxes = h.boxes ∙ ap (λ accounts. accounts_after accounts h.done) a ∙ sym (accounts_append us h.done old);
}

pub hands_stop : (us vs : List SinkUnit) (text told : List ℕ) (old new : List Account) (stop : Stop)
    → Hands us text told old new (Err stop) → Hands (us ++ vs) text told old new (Err stop)
hands_stop us vs text told old new (Refused reason) h = h
hands_stop us vs text told old new OutletFault h = record {
  done = h.done;
  unit = h.unit;
  rest = h.rest ++ vs;
  split = ap (λ all. all ++ vs) h.split ∙ append_assoc h.done (h.unit ∷ h.rest) vs;
  bis = h.bis;
  time = h.time;
  octets = h.octets;
  is_valid = h.is_valid;
  lines = h.lines;
  box = h.box;
}
hands_stop us vs text told old new Memory h = record {
  done = h.done;
  rest = h.rest ++ vs;
  split = ap (λ all. all ++ vs) h.split ∙ append_assoc h.done h.rest vs;
  boxes = h.boxes;
}

-- ---- the same past

pub record SameHistories (one other : Histories) : Type 0 where
  pub boxes : (n : ℕ) → one.boxes n ≡ other.boxes n
  pub mades : (n : ℕ) → one.mades n ≡ other.mades n
  pub sources : (n : ℕ) → one.sources n ≡ other.sources n
  pub lives : (n : ℕ) → one.lives n ≡ other.lives n
  pub received : (n : ℕ) → one.received n ≡ other.received n
  pub made : one.made ≡ other.made

pub stands_same : (one other : Histories) (sinks : Sinks) → SameHistories one other → SinksStand one sinks → SinksStand other sinks
stands_same one other sinks same stands = record {
  entries = λ n below.
      let entry : Option (Option Sink) = slice_get sinks.entries.items n in
      let B : Option ℕ → Type 0 = λ b. EntryIs b (other.mades n) (other.sources n) (other.lives n) (other.received n) entry in
      let M : Option Settings → Type 0 = λ made. EntryIs (one.boxes n) made (other.sources n) (other.lives n) (other.received n) entry in
      let S : Option ℕ → Type 0 = λ s. EntryIs (one.boxes n) (one.mades n) s (other.lives n) (other.received n) entry in
      let L : List links.Call → Type 0 = λ calls_made. EntryIs (one.boxes n) (one.mades n) (one.sources n) calls_made (other.received n) entry in
      let C : List Call → Type 0 = λ c. EntryIs (one.boxes n) (one.mades n) (one.sources n) (one.lives n) c entry in
      subst B (same.boxes n) (subst M (same.mades n) (subst S (same.sources n) (subst L (same.lives n) (subst C (same.received n) (stands.entries n below)))));
  made = stands.made ∙ same.made;
  empty = stands.empty;
}
