-- What the generated lines say.
use Rattle.replay_generated.proofs.Prelude.{◌≡◌, ℕ, zero, suc, ◌+◌, ◌%◌, ◌<◌, ◌≤◌, true, List, [], ◌∷◌, codes, refl, arith, None, Some, replicate, ⊤, joined, Step, LineIs, next_state, unit_of, generated_lines}
use Rattle.std.specs.Fmt.{digits as numerals}
use Rattle.bcast_base.specs.Encoding.{IsOctets}
use Rattle.scenario_words.specs.Lines.{Values, ◌▸◌, AllHaveWords, all_words}
use Rattle.scenario_words.proofs.CitableValues.{is_unspaced, joined_split, unspaced}
use Rattle.scenario_text.specs.declared.step.Step.TheVariants as kinds
use Rattle.scenario_text.specs.Table as rows
use Rattle.scenario_text.specs.Table.{Row, first_row_of, row_of}
use Rattle.scenario_text.proofs.Citable.{all_small, all_unspaced, made as made_of, says, takes_all_last}
use Rattle.scenario_lines.specs.Generated as made
use Rattle.scenario_lines.specs.Generated.{unit_line, air_line}
use Rattle.replay_generated.proofs.Accepting.{event_steps, group_step, made_steps, scenario_step, sink_step, tuned_step}

-- ---- a line of a row

row_says : (row : Row) (values : Values row.places) → row_of 1 row.first ≡ Some row → all_small row.places ≡ true
    → takes_all_last row.places ≡ true → is_unspaced row.first ≡ true → AllHaveWords row.places values
    → LineIs 1 (made_of row.places row.build values) (joined row.first (all_words row.places values))
row_says row values known small last first have = record {
  first = row.first;
  words = all_words row.places values;
  split = joined_split row.first (all_words row.places values) (unspaced row.first first) (all_unspaced row.places values small have);
  row = row;
  known = known;
  spelled = says row.places row.build values last have;
}

-- ---- the lines

octets_of : (count value : ℕ) → value < 256 → IsOctets (replicate count value)
octets_of zero value small i = omega arith
octets_of (suc count) value small zero = small
octets_of (suc count) value small (suc i) = octets_of count value small i

unit_says : (bis x : ℕ) → 1 ≤ bis → bis ≤ 31 → LineIs 1 (kinds.Unit bis None (unit_of x)) (unit_line bis x)
unfolding row_of unit_line
unit_says bis x least most = row_says rows.unit_row (bis ▸ None ▸ unit_of x ▸ tt) refl refl refl refl
    (grind (arith, octets_of 100 (x % 256)))

air_says : (sink lose : ℕ) → sink ≤ 7 → lose ≤ 255 → LineIs 1 (kinds.Air sink lose) (air_line sink lose)
unfolding row_of air_line
air_says sink lose small less = row_says rows.air_row (sink ▸ lose ▸ tt) refl refl refl refl (omega arith)

-- each line says its step
abbrev pub AllSay : List (List ℕ) → List Step → Type 0
AllSay [] [] = ⊤
AllSay [] (next ∷ later) = ⊥
AllSay (line ∷ lines) [] = ⊥
AllSay (line ∷ lines) (next ∷ later) = LineIs 1 next line × AllSay lines later

events_say : (state x count : ℕ) → AllSay (made.lines_from state x count) (event_steps state x count)
unfolding made.lines_from row_of first_row_of
events_say state x zero = (row_says rows.end_row tt refl refl refl refl tt, tt)
events_say state x (suc count) =
    let event : LineIs 1 kinds.Event (codes "event") = row_says rows.event_row tt refl refl refl refl tt in
    search (arith, unit_says, event, air_says, events_say (next_state (next_state state)) (x + 1) count)

pub all_say : (seed events : ℕ) → AllSay (generated_lines seed events) (made_steps seed events)
unfolding row_of first_row_of numerals
all_say seed events =
    let scenario : LineIs 1 scenario_step (codes "scenario 1") = row_says rows.scenario_row (1 ▸ tt) refl refl refl refl (omega arith) in
    let group : LineIs 1 group_step (codes "group unframed 20000 40000 8 10000 100 100 2 1 3 2 1 600 1800 1") =
    row_says rows.group_row (0 ▸ 20000 ▸ 40000 ▸ 8 ▸ 10000 ▸ 100 ▸ 100 ▸ 2 ▸ 1 ▸ 3 ▸ 2 ▸ 1 ▸ 600 ▸ 1800 ▸ 1 ▸ tt) refl refl refl refl
    (omega arith) in
    let sink : LineIs 1 (sink_step 0) (codes "sink 0 1 1") = row_says (rows.sink_row 1) (0 ▸ 1 ▸ 1 ▸ None ▸ tt) refl refl refl refl
    (omega arith) in
    let other : LineIs 1 (sink_step 1) (codes "sink 1 1 1") = row_says (rows.sink_row 1) (1 ▸ 1 ▸ 1 ▸ None ▸ tt) refl refl refl refl
    (omega arith) in
    let start : LineIs 1 (kinds.Start 0) (codes "start 0") = row_says rows.start_row (0 ▸ tt) refl refl refl refl (omega arith) in
    let tuned : LineIs 1 (tuned_step 0 1) (codes "tuned 0 1") = row_says rows.tuned_row (0 ▸ 1 ▸ tt) refl refl refl refl (omega arith) in
    let second : LineIs 1 (tuned_step 1 2) (codes "tuned 1 2") = row_says rows.tuned_row (1 ▸ 2 ▸ tt) refl refl refl refl (omega arith) in
    let units = unit_says 1 0 (omega arith) (omega arith) in (
      scenario,
      (
        group,
        (
          sink,
          (
            other,
            (
              start,
              (
                tuned,
                (
                  second,
                  (units, (unit_says 2 0 (omega arith) (omega arith), events_say seed 0 events)),
                ),
              ),
            ),
          ),
        ),
      ),
    )
