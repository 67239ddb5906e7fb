-- One stay after the other: what holds of the events and the entries of the earlier stays of a sink with a source, and goes on
-- over one stay, holds of all of them.
use Rattle.scenario_laws.proofs.Known.{ℕ, ◌≡◌, ◌⊎◌, ◌≤◌, ◌==◌, cond, Bool, true, false, List, [], ◌∷◌, ◌++◌, Option, None, Some, refl, sym, ◌∙◌, ap, subst, arith, inl, inr, append_assoc, eqb-true, false≢true, append-nil, none-some, Handed, Call, tune, BigSync, of_stream, Step, chosen_of, chosen_steps, steps_of_source, Airs, is_of, sink_calls, source_of, SinkUnit, handed_by, Closed, closed_by, closed_in, closed_since, given_since_made, handed_since, is_given, is_made, is_tuned, of_sink, shown_since, cases_Bool, place, closed_if, Announcing, Legal, permitted, next_in, next_rises, IsOn, on_since_made, last_not, shown_if, step_shown, mine_in, stay_if, made_nothing, shown_on, is_its, becomes, puts_first}

-- ---- the stay that goes on, and what came before it

abbrev pub shown : ℕ → ℕ → ℕ → List SinkUnit → List Handed
shown s n bis units = of_stream bis (of_sink s n units)

-- the events that the sink closed since the last step that begins
abbrev pub closed_from : (List Step → Step → Bool) → Airs → ℕ → ℕ → List Step → List Closed
closed_from begins airs s n [] = []
closed_from begins airs s n (step ∷ earlier) = cond (begins earlier step) [] (closed_from begins airs s n earlier ++ closed_by airs s n earlier step)

pub all_closed : (airs : Airs) (s n : ℕ) (made : List Step) → closed_from (is_made n) airs s n made ≡ closed_since airs s n made
all_closed airs s n made = search (false≢true, cond, is_made, closed_by)

-- the group of the source that the sink is on
abbrev pub here_at : Airs → ℕ → ℕ → List Step → Option BigSync
here_at airs s n made = stay_if (mine_in s n made) (sink_calls airs n made)

pub stay_is : (mine : Bool) (calls : List Call) (tuning : BigSync) → stay_if mine calls ≡ Some tuning → (mine ≡ true) × (place calls ≡ Some tuning)
stay_is mine calls tuning is = grind (arith, none-some)

pub no_stay : (mine : Bool) (calls : List Call) → place calls ≡ None → stay_if mine calls ≡ None
no_stay mine calls nowhere = grind arith

-- the first event of the stay, or the next event of the source
abbrev pub first_of : Option BigSync → ℕ → ℕ
first_of None next = next
first_of (Some tuning) next = tuning.first

-- what is of the stay, where there is one
abbrev pub in_stay : {A : Type 0} → Option BigSync → List A → List A
in_stay None xs = []
in_stay (Some tuning) xs = xs

in_stay_none : {A : Type 0} (here : Option BigSync) → (let none : List A = [] in in_stay here none ≡ none)
in_stay_none here = grind arith

-- all events and entries are those of the stay behind past ones, of which the claim holds up to the first event of the stay
pub record InTurn (Q : ℕ → List Closed → List Handed → Type 0) (s n bis : ℕ) (here : Option BigSync) (next : ℕ) (closed now : List Closed) (units units_now : List SinkUnit) : Type 0 where
  pub past : List Closed
  pub entries : List Handed
  pub claim : Q (first_of here next) past entries
  pub closed_is : closed ≡ past ++ in_stay here now
  pub shown_is : shown s n bis units ≡ entries ++ in_stay here (shown s n bis units_now)

-- a claim up to an event holds up to a later one
abbrev pub Rises : (ℕ → List Closed → List Handed → Type 0) → Type 0
Rises Q = (e : ℕ) → (later : ℕ) → (closed : List Closed) → (entries : List Handed) → e ≤ later → Q e closed entries → Q later closed entries

pub more_list : {A : Type 0} (all past now more : List A) (here : Option BigSync) → all ≡ past ++ in_stay here now → (here ≡ None → more ≡ []) → all ++ more ≡ past ++ in_stay here (now ++ more)
more_list all past now more here is none = grind (arith, append_assoc, append-nil)

goes_on : (Q : ℕ → List Closed → List Handed → Type 0) → Rises Q
    → (s n bis : ℕ) (here : Option BigSync) (next later : ℕ) (closed now more : List Closed) (units units_now others : List SinkUnit)
    → next ≤ later → (here ≡ None → more ≡ []) → (here ≡ None → shown s n bis others ≡ []) → InTurn Q s n bis here next closed now units units_now
    → InTurn Q s n bis here later (closed ++ more) (now ++ more) (units ++ others) (units_now ++ others)
goes_on Q rises s n bis here next later closed now more units units_now others on no_more no_others before =
    grind (arith, more_list, shown_on)

-- the same, where the step begins nothing
same_turn : (Q : ℕ → List Closed → List Handed → Type 0) (s n bis : ℕ) (here here' : Option BigSync) (made begins : Bool) (next : ℕ) (closed now : List Closed) (units units_now : List SinkUnit)
    → here' ≡ here → made ≡ false → begins ≡ false → InTurn Q s n bis here next closed now units units_now
    → InTurn Q s n bis here' next (cond made [] closed) (cond begins [] now) (cond made [] units) (cond begins [] units_now)
same_turn Q s n bis here here' made begins next closed now units units_now same made_not begins_not all = grind (arith, false≢true)

-- ---- a source on whose group the sink isn't

cond_none : {A : Type 0} (b : Bool) → (let none : List A = [] in cond b none none ≡ none)
cond_none b = grind arith

closed_none : (mine : Bool) (calls : List Call) (last_open : Option ℕ) → stay_if mine calls ≡ None → closed_if mine calls last_open ≡ []
closed_none mine calls last_open nowhere = grind (arith, closed_in)

shown_none : (mine : Bool) (calls : List Call) (last_open : Option ℕ) → stay_if mine calls ≡ None → shown_if mine calls last_open ≡ []
shown_none mine calls last_open nowhere = grind arith

none_closed : (airs : Airs) (s n : ℕ) (step : Step) (earlier : List Step) → here_at airs s n earlier ≡ None → closed_by airs s n earlier step ≡ []
none_closed airs s n this earlier nowhere = grind (arith, closed_none, mine_in, cond_none)

pub none_shown : (airs : Airs) (boxes s n bis : ℕ) (step : Step) (earlier : List Step) → Legal airs boxes earlier → s ≤ 1 → n ≤ 7 → here_at airs s n earlier ≡ None
    → shown s n bis (handed_by airs earlier step) ≡ []
none_shown airs boxes s n bis this earlier legal least within nowhere = grind (arith, of_stream, step_shown, shown_none, mine_in, cond_none)

-- ---- what holds of all stays

-- the claim goes on over a stay up to the source's next event
abbrev pub OverStay : (ℕ → List Closed → List Handed → Type 0) → (List Step → Type 0) → Airs → ℕ → ℕ → ℕ → Type 0
OverStay Q Fine airs s n bis = (made : List Step) → Fine made → (tuning : BigSync) → IsOn airs s n made tuning → (past : List Closed) → (entries : List Handed) → Q tuning.first past entries
    → Q (next_in (steps_of_source s made)) (past ++ closed_from (is_tuned n) airs s n made) (entries ++ shown_since (is_tuned n) airs s n bis made)

pub record Turns (Q : ℕ → List Closed → List Handed → Type 0) (Fine : List Step → Type 0) (airs : Airs) (boxes s n bis : ℕ) : Type 0 where
  pub laws : Announcing
  pub none : (e : ℕ) → Q e [] []
  pub rises : Rises Q
  pub over : OverStay Q Fine airs s n bis
  pub legal : (made : List Step) → Fine made → Legal airs boxes made
  pub ungiven : (made : List Step) → Fine made → given_since_made n made ≡ false
  pub before : (step : Step) → (earlier : List Step) → is_made n earlier step ≡ false → Fine (step ∷ earlier) → Fine earlier
  pub source_within : s ≤ 1
  pub sink_within : n ≤ 7

-- ---- a step by which a stay is over, or another begins: all that came is past

pub past_list : {A : Type 0} (made : Bool) (xs more : List A) → made ≡ false → more ≡ [] → cond made [] (xs ++ more) ≡ xs
past_list made xs more made_not none = grind (arith, false≢true, append-nil)

-- the stay has nothing yet
abbrev pub IsFresh : Option BigSync → Bool → Type 0
IsFresh here begins = (here ≡ None) ⊎ (begins ≡ true)

fresh_closed : (here : Option BigSync) (begins : Bool) (closed : List Closed) → IsFresh here begins → in_stay here (cond begins [] closed) ≡ []
fresh_closed here begins closed fresh = grind (arith, cond, in_stay_none)

pub fresh_shown : (s n bis : ℕ) (here : Option BigSync) (begins : Bool) (units : List SinkUnit) → IsFresh here begins → in_stay here (shown s n bis (cond begins [] units)) ≡ []
fresh_shown s n bis here begins units fresh = grind (arith, cond, in_stay_none)

-- it is synchronized to this BIG of the chosen source, from the source's next event on
put_least : (chosen s : ℕ) (on : BigSync) (rest : List Call) (next next' : ℕ) → next ≤ next' → ((chosen == s) ≡ true → on.first ≡ next) → (mine : Bool) → (chosen == s) ≡ mine
    → next ≤ first_of (stay_if mine (tune on ∷ rest)) next'
put_least chosen s on rest next next' more first mine is = grind arith

-- the sink is made: it closed nothing and handed up nothing
made_turn : (Q : ℕ → List Closed → List Handed → Type 0) → ((e : ℕ) → Q e [] []) → (s n bis : ℕ) (here : Option BigSync) (again : Bool) → here ≡ None → again ≡ true
    → (next : ℕ) (closed now : List Closed) (units units_now : List SinkUnit) → InTurn Q s n bis here next (cond again [] closed) now (cond again [] units) units_now
made_turn Q none s n bis None true nowhere is next closed now units units_now = record { past = []; entries = []; claim = none next; closed_is = refl; shown_is = refl }
made_turn Q none s n bis (Some tuning) again nowhere is next closed now units units_now = absurd (none-some tuning (sym nowhere))
made_turn Q none s n bis here false nowhere is next closed now units units_now = absurd (false≢true is)

-- ---- step by step, the stays of a sink with a source, one after the other

module _ (Q : ℕ → List Closed → List Handed → Type 0) (Fine : List Step → Type 0) (airs : Airs) (boxes s n bis : ℕ) where
  abbrev InTurnAt : List Step → Type 0
  InTurnAt made =
      InTurn Q s n bis (here_at airs s n made) (next_in (steps_of_source s made)) (closed_from (is_made n) airs s n made) (closed_from (is_tuned n) airs s n made)
      (handed_since (is_made n) airs made) (handed_since (is_tuned n) airs made)

  -- what is known before a step
  record Before (step : Step) (earlier : List Step) : Type 0 where
    turns : Turns Q Fine airs boxes s n bis
    fine : Fine earlier
    legal_is : Legal airs boxes (step ∷ earlier)
    still : is_made n earlier step ≡ false
    ungiven : is_given n step ≡ false
    all : InTurnAt earlier
    more : next_in (steps_of_source s earlier) ≤ next_in (steps_of_source s (step ∷ earlier))

  at_end : Turns Q Fine airs boxes s n bis → (made : List Step) → Fine made → (here : Option BigSync) → here_at airs s n made ≡ here
      → InTurn Q s n bis here (next_in (steps_of_source s made)) (closed_from (is_made n) airs s n made) (closed_from (is_tuned n) airs s n made)
      (handed_since (is_made n) airs made) (handed_since (is_tuned n) airs made)
      → Q (next_in (steps_of_source s made)) (closed_from (is_made n) airs s n made) (shown s n bis (handed_since (is_made n) airs made))
  at_end turns made fine here there all = grind (arith, next_in, append-nil, stay_is, mine_in, on_since_made, is_its)

  -- the place and the source are the same
  still_turn : (step : Step) (earlier : List Step) → Before step earlier → is_tuned n earlier step ≡ false → source_of n (step ∷ earlier) ≡ source_of n earlier
      → place (sink_calls airs n (step ∷ earlier)) ≡ place (sink_calls airs n earlier) → InTurnAt (step ∷ earlier)
  still_turn step earlier before begins_not source_same same =
      same_turn Q s n bis (here_at airs s n earlier) (here_at airs s n (step ∷ earlier)) (is_made n earlier step) (is_tuned n earlier step) (next_in (steps_of_source s (step ∷ earlier)))
      (closed_from (is_made n) airs s n earlier ++ closed_by airs s n earlier step) (closed_from (is_tuned n) airs s n earlier ++ closed_by airs s n earlier step)
      (handed_since (is_made n) airs earlier ++ handed_by airs earlier step) (handed_since (is_tuned n) airs earlier ++ handed_by airs earlier step)
      (ap (λ source. stay_if (is_of s source) (sink_calls airs n (step ∷ earlier))) source_same ∙ ap (λ p. cond (mine_in s n earlier) p None) same) before.still begins_not
      (goes_on Q before.turns.rises s n bis (here_at airs s n earlier) (next_in (steps_of_source s earlier)) (next_in (steps_of_source s (step ∷ earlier)))
      (closed_from (is_made n) airs s n earlier) (closed_from (is_tuned n) airs s n earlier) (closed_by airs s n earlier step) (handed_since (is_made n) airs earlier)
      (handed_since (is_tuned n) airs earlier) (handed_by airs earlier step) before.more (none_closed airs s n step earlier)
      (none_shown airs boxes s n bis step earlier before.legal_is.0 before.turns.source_within before.turns.sink_within) before.all)

  anew_turn : (step : Step) (earlier : List Step) → Before step earlier → closed_by airs s n earlier step ≡ [] → handed_by airs earlier step ≡ []
      → next_in (steps_of_source s earlier) ≤ first_of (here_at airs s n (step ∷ earlier)) (next_in (steps_of_source s (step ∷ earlier)))
      → IsFresh (here_at airs s n (step ∷ earlier)) (is_tuned n earlier step) → InTurnAt (step ∷ earlier)
  anew_turn step earlier before no_closed no_shown least fresh =
      let later : ℕ = first_of (here_at airs s n (step ∷ earlier)) (next_in (steps_of_source s (step ∷ earlier))) in
      let known : Q later (closed_from (is_made n) airs s n earlier) (shown s n bis (handed_since (is_made n) airs earlier)) =
      before.turns.rises (next_in (steps_of_source s earlier)) later (closed_from (is_made n) airs s n earlier) (shown s n bis (handed_since (is_made n) airs earlier)) least
      (at_end before.turns earlier before.fine (here_at airs s n earlier) refl before.all) in
      let past : List Closed = closed_from (is_made n) airs s n (step ∷ earlier) in
      let entries : List Handed = shown s n bis (handed_since (is_made n) airs (step ∷ earlier)) in
      record {
        past = past;
        entries = entries;
        claim = grind (arith, past_list, is_made, closed_by, handed_since, handed_by);
        closed_is = grind (arith, fresh_closed, is_tuned, closed_by, append-nil);
        shown_is = grind (arith, fresh_shown, is_tuned, handed_since, handed_by, append-nil);
      }

  turn_after : (step : Step) (earlier : List Step) → Before step earlier → InTurnAt (step ∷ earlier)
  turn_after step earlier before = elim (becomes airs n step earlier before.ungiven) [
    | inl keeps ↦ still_turn step earlier before keeps.begins_not keeps.same_source keeps.same_place
    | inr moves ↦ elim moves [
      | inl parts ↦
          let none : here_at airs s n (step ∷ earlier) ≡ None = no_stay (mine_in s n (step ∷ earlier)) (sink_calls airs n (step ∷ earlier)) parts.nowhere in
          anew_turn step earlier before (parts.silent.closes s) (parts.silent.hands earlier)
          (subst (λ here. next_in (steps_of_source s earlier) ≤ first_of here (next_in (steps_of_source s (step ∷ earlier)))) (sym none) before.more) (inl none)
      | inr puts ↦
          let first_is : puts.on.first ≡ next_in (chosen_steps earlier) =
          puts_first before.turns.laws airs boxes n step earlier before.legal_is.0 (permitted airs boxes earlier step before.legal_is.1) puts in
          anew_turn step earlier before (puts.silent.closes s) (puts.silent.hands earlier)
          (grind (arith, next_in, steps_of_source, put_least, chosen_of, sink_calls, eqb-true, puts.calls_is, puts.source_is)) (inr puts.begins)
    ]
  ]

  turn : Turns Q Fine airs boxes s n bis → (made : List Step) → Fine made → InTurnAt made
  turn turns [] fine = made_turn Q turns.none s n bis None true refl refl (next_in []) [] [] [] []
  turn turns (step ∷ earlier) fine = elim (cases_Bool (is_made n earlier step)) [
    | inl made ↦
        made_turn Q turns.none s n bis (here_at airs s n (step ∷ earlier)) (is_made n earlier step)
        (no_stay (mine_in s n (step ∷ earlier)) (sink_calls airs n (step ∷ earlier)) (ap place (made_nothing airs n step earlier made))) made (next_in (steps_of_source s (step ∷ earlier)))
        (closed_from (is_made n) airs s n earlier ++ closed_by airs s n earlier step) (closed_from (is_tuned n) airs s n (step ∷ earlier))
        (handed_since (is_made n) airs earlier ++ handed_by airs earlier step) (handed_since (is_tuned n) airs (step ∷ earlier))
    | inr still ↦
        turn_after step earlier (assumption (
          turns.before step earlier still fine,
          turns.legal (step ∷ earlier) fine,
          last_not (is_made n earlier step) (is_given n step) (given_since_made n earlier) (turns.ungiven (step ∷ earlier) fine),
          turn turns earlier (turns.before step earlier still fine),
          next_rises airs boxes s earlier step (turns.legal (step ∷ earlier) fine),
        ))
  ]

  -- the claim holds of all events and entries
  pub over_stays : Turns Q Fine airs boxes s n bis → (made : List Step) → Fine made
      → Q (next_in (steps_of_source s made)) (closed_since airs s n made) (shown_since (is_made n) airs s n bis made)
  over_stays turns made fine =
      subst (λ closed. Q (next_in (steps_of_source s made)) closed (shown_since (is_made n) airs s n bis made)) (all_closed airs s n made)
      (at_end turns made fine (here_at airs s n made) refl (turn turns made fine))
