-- What a generated run promises, by how its lines ended and what was written.
use Rattle.std.proofs.Common.{arith}
use Rattle.replay_generated.proofs.Prelude.{took_as, ◌≡◌, ◌≢◌, ℕ, ◌+◌, ◌<◌, ◌≤◌, List, [], ◌∷◌, length, reverse, refl, sym, subst, Option, inl, inr, append-nil, cases_lt, TextLine, AppendsShort, Appends-nothing, Account, airs_of, Airs, Refusal, NoOutlet, counts_of, summary_of, Counts, End, through, refused, Accepted, RoomFor, SinkUnit, rules_of, handed_on, transcript_of, transcript_end, units_of, BoxFails, BoxFailed, Did, EndedOver, GeneratedRun, IsDoneOrMemory, Summed, lines_made, Ends, PrefixTaken, Puts, Told}
use Rattle.bcast_base.specs.Counts.{Rose}
use Rattle.scenario_history.specs.Airs.{MeetAirs}
use Rattle.scenario_sinks.specs.Faults.{CountsStay, OneCounts}
use Rattle.scenario_sinks.proofs.Citable.{failed_one, none_counts, one_then, took_stay}
use Rattle.replay_generated.specs.Generated.{CutShort}
use Rattle.replay_generated.specs.declared.outcome.Outcome.{Outcome}
use Rattle.replay_generated.specs.declared.outcome.Outcome.TheVariants as outcomes
use Rattle.replay_generated.proofs.Endings.{Reads, made_refused, made_through}
use Rattle.replay_generated.proofs.Rooms.{no_room}
use Rattle.replay_generated.proofs.Short.{none_written}

-- ---- over other airs

-- these airs give the same
pub record Same (airs : Airs) : Type 0 where
  pub octets : (starts : List Account) → (lines : List TextLine) → transcript_of airs_of starts lines ≡ transcript_of airs starts lines
  pub end : (starts : List Account) → (lines : List TextLine) → transcript_end airs_of starts lines ≡ transcript_end airs starts lines
  pub units : (starts : List Account) → (lines : List TextLine) → units_of airs_of starts lines ≡ units_of airs starts lines
  pub accepted : (starts : List Account) → (lines : List TextLine) → Accepted (rules_of airs_of starts) lines → Accepted (rules_of airs starts) lines
  pub handed : (starts : List Account) → (lines : List TextLine) → (line : TextLine) → Accepted (rules_of airs_of starts) lines → handed_on airs_of lines line ≡ handed_on airs lines line

abbrev pub AllSame : Type 0
AllSame = (airs : Airs) → MeetAirs airs → Same airs

module _ (airs : Airs) (same : Same airs) (starts ends : List Account) (events : ℕ) (lines : List TextLine) (kept kept' : Option (List ℕ)) where
  summed_as : (end : End Refusal) → Summed airs_of starts ends events lines kept kept' end → Summed airs starts ends events lines kept kept' end
  summed_as end d = grind (arith, same.end, same.octets, same.units)

  cut_as : CutShort airs_of starts ends events lines kept kept' → CutShort airs starts ends events lines kept kept'
  cut_as d = grind (arith, same.octets, same.units)

  failed_as : BoxFailed airs_of starts ends lines → BoxFailed airs starts ends lines
  failed_as d =
      let accepted = same.accepted starts (d.line ∷ d.earlier) d.accepted in
      let before = took_as starts d.accounts _ _ (same.units starts (reverse d.earlier)) d.before in
      let fails =
      subst (λ (us : List SinkUnit). BoxFails us [] d.told d.accounts ends) (same.handed starts d.earlier d.line d.accepted.0) d.fails in
      search

  ended_as : (outcome : Outcome) → EndedOver airs_of events lines outcome starts ends kept kept' → EndedOver airs events lines outcome starts ends kept kept'
  ended_as outcome d = grind (arith, summed_as, cut_as, failed_as)

-- ---- what was written

module _ {starts ends : List Account} {events : ℕ} {lines : List TextLine} {kept kept' : Option (List ℕ)} where
  -- a prefix of the summary was written, and the boxes took all units
  cut_short : (counts : Counts) (end : End Refusal) → Told starts ends lines counts end → AppendsShort kept kept' (summary_of events counts)
      → CutShort airs_of starts ends events lines kept kept'
  cut_short counts end told prefix = record {
    written = subst (λ (c : Counts). AppendsShort kept kept' (summary_of events c)) told.counted prefix;
    done = units_of airs_of starts lines;
    rest = [];
    split = sym (append-nil (units_of airs_of starts lines));
    boxes = told.boxes;
  }

  -- the summary was put to the sink
  pub put_ends : {faults faults' : ℕ} (counts : Counts) (end : End Refusal) (ended result : Outcome) → Told starts ends lines counts end
      → (Summed airs_of starts ends events lines kept kept' end → EndedOver airs_of events lines ended starts ends kept kept') → ended ≢ outcomes.WriteFault
      → Puts (summary_of events counts) ended kept kept' faults faults' result → Ends starts ends events lines kept kept' faults faults' result
  put_ends counts end ended result told as_ended other (inl put) =
      let summed : Summed airs_of starts ends events lines kept kept' end = grind arith in
      let did = as_ended summed in grind arith
  put_ends counts end ended result told as_ended other (inr (inl put)) = let cut = cut_short counts end told put.1 in grind arith
  put_ends counts end ended result told as_ended other (inr (inr put)) = let cut = cut_short counts end told put.1 in grind arith

pub failed_ends : {starts ends : List Account} {events : ℕ} {lines : List TextLine} {kept : Option (List ℕ)} {faults : ℕ}
    → BoxFailed airs_of starts ends lines → Ends starts ends events lines kept kept faults faults outcomes.OutletFault
failed_ends {kept = kept} failed = record { did = (failed, Appends-nothing kept); rose = λ is. cc; stays = λ is. refl }

pub memory_ends : {starts ends : List Account} {events : ℕ} {lines : List TextLine} {kept : Option (List ℕ)} {faults : ℕ}
    → PrefixTaken starts ends lines → Ends starts ends events lines kept kept faults faults outcomes.Memory
memory_ends {starts = starts} {events = events} {lines = lines} {kept = kept} prefix =
    let written = none_written kept events (counts_of (transcript_of airs_of starts lines)) in
    record { did = search; rose = λ is. cc; stays = λ is. refl }

-- ---- the promise

-- which outcomes come
complete_over : (starts ends : List Account) (seed events : ℕ) (kept kept' : Option (List ℕ)) (faults faults' : ℕ) (outcome : Outcome)
    → EndedOver airs_of events (lines_made seed events) outcome starts ends kept kept' → (outcome ≡ outcomes.WriteFault → Rose faults faults')
    → transcript_end airs_of starts (lines_made seed events) ≡ through → RoomFor starts (units_of airs_of starts (lines_made seed events)) → ¬ Rose faults faults'
    → IsDoneOrMemory outcome
complete_over starts ends seed events kept kept' faults faults' (outcomes.Refused line reason) e rose whole room none = absurd cc
complete_over starts ends seed events kept kept' faults faults' outcome e rose whole room none =
    search (refused, through, no_room, lines_made)

-- the counts of the boxes
module _ (starts ends : List Account) (events : ℕ) (lines : List TextLine) (kept kept' : Option (List ℕ)) where
  counts_stay : (outcome : Outcome) → EndedOver airs_of events lines outcome starts ends kept kept' → outcome ≢ outcomes.OutletFault → CountsStay starts ends
  counts_stay outcome e other = grind (arith, took_stay)

  one_counts : (outcome : Outcome) → EndedOver airs_of events lines outcome starts ends kept kept' → OneCounts starts ends
  one_counts outcomes.Done e = search (none_counts, took_stay)
  one_counts outcome e = search (none_counts, took_stay, one_then, failed_one)

refused_so : (starts : List Account) (line : ℕ) (reason : Refusal) (end : End Refusal) → end ≡ refused line reason
    → (2 ≤ length starts → end ≡ through) → (length starts < 2 → end ≡ refused (length starts + 3) NoOutlet) → (reason ≡ NoOutlet) × (length starts < 2)
refused_so starts line reason end is enough few = grind (arith, cases_lt, length, refused, through)

pub run_promises : (seed events : ℕ) (outcome : Outcome) (starts ends : List Account) (kept kept' : Option (List ℕ)) (faults faults' : ℕ) → events ≤ 100000 → Reads → AllSame
    → Ends starts ends events (lines_made seed events) kept kept' faults faults' outcome → GeneratedRun seed events outcome starts ends kept kept' faults faults'
run_promises seed events outcome starts ends kept kept' faults faults' most reads same e =
    let at : (other : Outcome) → outcome ≡ other → EndedOver airs_of events (lines_made seed events) other starts ends kept kept' =
    λ other is. let P : Outcome → Type 0 = λ o. EndedOver airs_of events (lines_made seed events) o starts ends kept kept' in subst P is e.did in
    let over : (other : Outcome) → outcome ≡ other → Did seed events other starts ends kept kept' =
    λ other is airs meets. ended_as airs (same airs meets) starts ends events (lines_made seed events) kept kept' other (at other is) in
    record {
      done = over outcomes.Done;
      refused = λ line reason is. over (outcomes.Refused line reason) is;
      no_outlet = λ line reason is.
          refused_so starts line reason (transcript_end airs_of starts (lines_made seed events)) (at (outcomes.Refused line reason) is).ends_so
          (made_through reads starts seed events most) (made_refused reads starts seed events most);
      outlet_fault = over outcomes.OutletFault;
      write_fault = λ is. (e.rose is, over outcomes.WriteFault is);
      memory = over outcomes.Memory;
      no_write_fault = e.stays;
      no_outlet_fault = counts_stay starts ends events (lines_made seed events) kept kept' outcome e.did;
      one_outlet_fault = one_counts starts ends events (lines_made seed events) kept kept' outcome e.did;
      complete = λ airs meets two room none.
          complete_over starts ends seed events kept kept' faults faults' outcome e.did e.rose (made_through reads starts seed events most two)
          (subst (λ (us : List SinkUnit). RoomFor starts us) (sym ((same airs meets).units starts (lines_made seed events))) room) none;
    }
