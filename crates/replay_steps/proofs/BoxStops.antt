-- A close that a box stops: what was printed before is a prefix of what the close prints.
use Rattle.replay_steps.proofs.Prelude.{ℕ, ◌≡◌, ◌≢◌, ◌<◌, ◌+◌, ◌-◌, ◌==◌, nat_lt, Bool, true, false, cond, List, [], ◌∷◌, ◌++◌, map, refl, sym, ◌∙◌, ap, ap₂, subst, append_assoc, append-nil, arith, eq-eqb, ne_eqb, le-ltb, lt-ltb, Err, filter, flat_map, range_with_len, and_left, and_right, filter-append, Account, Handed, TookAt, Failed, handed_at, airs_of, Step, SinkUnit, accounts_after, Answered, after_offers, answered, dropped_lines, first_lines, unit_lines, is_of, closing_of, handed_all, BoxFails, Histories, accounts_append, CloseFails, printed_before, FirstFails, answer_lines, lines_at, lines_below, offers_below, offers_of, units_below, flat_within, handed_append, handed_line, sink_numbers, lines_append}
use Rattle.scenario_history.specs.RelayedUnits.{handed_of}
use Rattle.replay_steps.proofs.Between.{range_about}
use Rattle.replay_steps.proofs.CloseLines.{answers_of, flat_nothing, none_handed, of_sink, own_handed, own_lines}

-- ---- whose units they are

-- all of these units are those of a source and a sink
abbrev AreOf : (s n : ℕ) → List SinkUnit → Type 0
AreOf s n [] = Unit {0}
AreOf s n (unit ∷ units) = (unit.source ≡ s) × (unit.sink ≡ n) × AreOf s n units

-- all of them are those of a source
abbrev pub AreFrom : ℕ → List SinkUnit → Type 0
AreFrom s [] = Unit {0}
AreFrom s (unit ∷ units) = (unit.source ≡ s) × AreFrom s units

of_map : (s n box : ℕ) (units : List Handed) → AreOf s n (map (λ unit. record { source = s; sink = n; box = box; unit = unit }) units)
of_map s n box [] = tt
of_map s n box (unit ∷ units) = (refl, refl, of_map s n box units)

of_closing : (n s event : ℕ) (past : Histories) → AreOf s n (closing_of n s event past)
of_closing n s event past = grind (arith, of_map, handed_at, is_of)

of_prefix : (s n : ℕ) (us vs : List SinkUnit) → AreOf s n (us ++ vs) → AreOf s n us
of_prefix s n [] vs are = tt
of_prefix s n (u ∷ us) vs are = (are.0, are.1, of_prefix s n us vs are.2)

of_back : (s n : ℕ) (us vs : List SinkUnit) → AreOf s n (us ++ vs) → AreOf s n vs
of_back s n [] vs are = are
of_back s n (u ∷ us) vs are = of_back s n us vs are.2

from_of : (s n : ℕ) (us : List SinkUnit) → AreOf s n us → AreFrom s us
from_of s n [] are = tt
from_of s n (u ∷ us) are = (are.0, from_of s n us are.2)

from_both : (s : ℕ) (us vs : List SinkUnit) → AreFrom s us → AreFrom s vs → AreFrom s (us ++ vs)
from_both s [] vs one two = two
from_both s (u ∷ us) vs one two = (one.0, from_both s us vs one.1 two)

from_prefix : (s : ℕ) (us vs : List SinkUnit) → AreFrom s (us ++ vs) → AreFrom s us
from_prefix s [] vs are = tt
from_prefix s (u ∷ us) vs are = (are.0, from_prefix s us vs are.1)

from_back : (s : ℕ) (us vs : List SinkUnit) → AreFrom s (us ++ vs) → AreFrom s vs
from_back s [] vs are = are
from_back s (u ∷ us) vs are = from_back s us vs are.1

pub from_closings : (s event : ℕ) (past : Histories) (ns : List ℕ) → AreFrom s (flat_map (λ n. closing_of n s event past) ns)
from_closings s event past [] = tt
from_closings s event past (n ∷ ns) = grind (arith, from_closings s event past ns, from_both, from_of, of_closing)

-- ---- their lines

own_printed : (n : ℕ) (us : List SinkUnit) → AreOf 0 n us → flat_map (handed_line n) (handed_of 0 n us) ≡ unit_lines us
own_printed n [] are = refl
own_printed n (u ∷ us) are = grind (arith, eq-eqb u.source 0 are.0, eq-eqb u.sink n are.1, are.1, own_printed n us are.2)

other_handed : (n m : ℕ) (us : List SinkUnit) → AreOf 0 m us → m ≢ n → handed_of 0 n us ≡ []
other_handed n m [] are other = refl
other_handed n m (u ∷ us) are other = grind (arith, and_right (u.source == 0) (u.sink == n) (ne_eqb u.sink n (λ same. other (sym are.1 ∙ same))), other_handed n m us are.2 other)

-- units of source 1 are none of source 0
second_handed : (n : ℕ) (us : List SinkUnit) → AreFrom 1 us → handed_of 0 n us ≡ []
second_handed n [] are = refl
second_handed n (u ∷ us) are = grind (arith, and_left (u.source == 0) (u.sink == n) (ap (λ s. s == 0) are.0), second_handed n us are.1)

abbrev of_second : SinkUnit → Bool
of_second unit = unit.source == 1

first_left : (us : List SinkUnit) → AreFrom 0 us → filter of_second us ≡ []
first_left [] are = refl
first_left (u ∷ us) are = ap (λ s. cond (s == 1) (u ∷ filter of_second us) (filter of_second us)) are.0 ∙ first_left us are.1

second_kept : (us : List SinkUnit) → AreFrom 1 us → filter of_second us ≡ us
second_kept [] are = refl
second_kept (u ∷ us) are = ap (λ s. cond (s == 1) (u ∷ filter of_second us) (filter of_second us)) are.0 ∙ ap (λ l. u ∷ l) (second_kept us are.1)

-- ---- what relays offered below a sink

abbrev of_below : ℕ → Answered → Bool
of_below number answer = nat_lt answer.offer.sink number

kept_below : (n number : ℕ) (hit : Bool) (answers : List Answered) → nat_lt n number ≡ hit
    → filter (of_sink n) (filter (of_below number) answers) ≡ cond hit (filter (of_sink n) answers) []
kept_below n number true [] is = refl
kept_below n number false [] is = refl
kept_below n number hit (answer ∷ answers) is = grind (arith, kept_below n number hit answers is)

-- the lines of a sink's units, and then of what it offered among what the sinks below a number did
abbrev printed_at : (n : ℕ) → List SinkUnit → List Answered → List ℕ
printed_at n units answers = flat_map (handed_line n) (handed_of 0 n units) ++ dropped_lines n answers

-- a sink below
below_printed : (steps : List Step) (past : Histories) (event number n : ℕ) (d : List SinkUnit) → n < number → number < 8 → AreOf 0 number d
    → printed_at n (units_below past event number ++ d) (filter (of_below number) (answered airs_of (offers_below steps past event 8) steps)) ≡ lines_at steps past n event
below_printed steps past event number n d less within are =
    ap₂ (λ (units : List Handed) (answers : List Answered). flat_map (handed_line n) units ++ answer_lines answers)
    (grind (arith, handed_append, units_below, own_handed, other_handed, append-nil, handed_all, closing_of))
    (kept_below n number true (answered airs_of (offers_below steps past event 8) steps) (lt-ltb n number less) ∙ answers_of steps past event n (omega (arith, less, within)))
    ∙ ap (λ prefix. prefix ++ answer_lines (answered airs_of (offers_of steps past n event) (after_offers airs_of (offers_below steps past event n) steps))) (own_lines past event n)

-- the sink itself
here_printed : (steps : List Step) (past : Histories) (event number : ℕ) (d : List SinkUnit) → AreOf 0 number d
    → printed_at number (units_below past event number ++ d) (filter (of_below number) (answered airs_of (offers_below steps past event 8) steps)) ≡ unit_lines d
here_printed steps past event number d are = grind (arith, handed_append, none_handed, kept_below, le-ltb, append-nil, own_printed)

-- a sink above
above_printed : (steps : List Step) (past : Histories) (event number n : ℕ) (d : List SinkUnit) → number < n → AreOf 0 number d
    → printed_at n (units_below past event number ++ d) (filter (of_below number) (answered airs_of (offers_below steps past event 8) steps)) ≡ []
above_printed steps past event number n d more are = grind (arith, handed_append, none_handed, other_handed, kept_below, le-ltb)

-- what is printed before a unit of a sink of source 0: the lines of the sinks below, and those of the sink's units before it
first_done : (steps : List Step) (past : Histories) (event number : ℕ) (d : List SinkUnit) → number < 8 → AreOf 0 number d
    → first_lines (units_below past event number ++ d) (filter (of_below number) (answered airs_of (offers_below steps past event 8) steps))
    ≡ lines_below steps past event number ++ unit_lines d
unfolding sink_numbers
first_done steps past event number d within are =
    let f : ℕ → List ℕ = λ n. printed_at n (units_below past event number ++ d) (filter (of_below number) (answered airs_of (offers_below steps past event 8) steps)) in
    range_about f number within ∙ ap₂ (λ prefix back. prefix ++ back) (ap₂ (λ prefix here. prefix ++ here)
    (flat_within f (λ n. lines_at steps past n event) 0 number (λ n least less. below_printed steps past event number n d (omega (arith, less)) within are))
    (here_printed steps past event number d are))
    (flat_nothing f (number + 1) (7 - number) (λ n least less. above_printed steps past event number n d (omega (arith, least)) are))
    ∙ append-nil (lines_below steps past event number ++ unit_lines d)

before_first : (steps : List Step) (past : Histories) (event number : ℕ) (d : List SinkUnit) (unit : SinkUnit) → number < 8 → AreOf 0 number d → unit.source ≡ 0 → unit.sink ≡ number
    → printed_before (answered airs_of (offers_below steps past event 8) steps) (units_below past event number ++ d) unit ≡ lines_below steps past event number ++ unit_lines d
before_first steps past event number d unit within are source sink =
    let answers : List Answered = answered airs_of (offers_below steps past event 8) steps in
    let done : List SinkUnit = units_below past event number ++ d in
    ap (λ b. first_lines done (cond b (filter (of_below unit.sink) answers) answers) ++ unit_lines (filter of_second done)) (eq-eqb unit.source 0 source)
    ∙ ap (λ n. first_lines done (filter (of_below n) answers) ++ unit_lines (filter of_second done)) sink
    ∙ ap₂ (λ (prefix : List ℕ) (seconds : List SinkUnit). prefix ++ unit_lines seconds) (first_done steps past event number d within are)
    (first_left done (from_both 0 (units_below past event number) d (from_closings 0 event past (range_with_len 0 number)) (from_of 0 number d are)))
    ∙ append-nil (lines_below steps past event number ++ unit_lines d)

-- ---- a box stops a close of source 0

regroup_units : (prefix d here others : List SinkUnit) → (prefix ++ (d ++ here)) ++ others ≡ (prefix ++ d) ++ (here ++ others)
regroup_units prefix d here others = simp append_assoc

regroup_lines : (lines own here dropped others : List ℕ)
    → (lines ++ ((own ++ here) ++ dropped)) ++ others ≡ (lines ++ own) ++ ((here ++ dropped) ++ others)
regroup_lines lines own here dropped others = simp append_assoc

pub first_fails : (steps : List Step) (past : Histories) (event : ℕ) (text told : List ℕ) (before after : List Account)
    → FirstFails steps past event text told before after
    → CloseFails (units_below past event 8) (answered airs_of (offers_below steps past event 8) steps)
    (lines_below steps past event 8) text told before after
first_fails steps past event text told before after f =
    let number : ℕ = f.number in
    let d : List SinkUnit = f.fails.done in
    let own : AreOf 0 number (d ++ f.fails.unit ∷ f.fails.rest) = subst (AreOf 0 number) f.fails.split (of_closing number 0 event past) in
    let one : AreOf 0 number (f.fails.unit ∷ f.fails.rest) = of_back 0 number d (f.fails.unit ∷ f.fails.rest) own in
    let prefix : List SinkUnit = units_below past event number in
    let others : List SinkUnit = flat_map (λ n. closing_of n 0 event past) (range_with_len (number + 1) (7 - number)) in
    let lines : List ℕ = lines_below steps past event number in
    let dropped : List ℕ = answer_lines (answered airs_of (offers_of steps past number event) (after_offers airs_of (offers_below steps past event number) steps)) in
    let other_lines : List ℕ = flat_map (λ n. lines_at steps past n event) (range_with_len (number + 1) (7 - number)) in
    let is : printed_before (answered airs_of (offers_below steps past event 8) steps) (prefix ++ d) f.fails.unit ≡ lines ++ unit_lines d =
    before_first steps past event number d f.fails.unit f.within (of_prefix 0 number d (f.fails.unit ∷ f.fails.rest) own) one.0 one.1 in
    record {
      done = prefix ++ d;
      unit = f.fails.unit;
      rest = f.fails.rest ++ others;
      split = range_about (λ n. closing_of n 0 event past) number f.within ∙ ap (λ us. (prefix ++ us) ++ others) f.fails.split
          ∙ regroup_units prefix d (f.fails.unit ∷ f.fails.rest) others;
      bis = f.fails.bis;
      time = f.fails.time;
      octets = f.fails.octets;
      is_valid = f.fails.is_valid;
      lines = f.fails.lines ∙ append_assoc text lines (unit_lines d) ∙ ap (λ l. text ++ l) (sym is);
      behind = (unit_lines (f.fails.unit ∷ f.fails.rest) ++ dropped) ++ other_lines;
      prefix = range_about (λ n. lines_at steps past n event) number f.within ∙ ap (λ us. (lines ++ (us ++ dropped)) ++ other_lines)
          (ap unit_lines f.fails.split ∙ lines_append d (f.fails.unit ∷ f.fails.rest))
          ∙ regroup_lines lines (unit_lines d) (unit_lines (f.fails.unit ∷ f.fails.rest)) dropped other_lines
          ∙ ap (λ l. l ++ ((unit_lines (f.fails.unit ∷ f.fails.rest) ++ dropped) ++ other_lines)) (sym is);
      box = subst (λ accounts. TookAt f.fails.unit.box f.fails.octets accounts after (Err Failed)) (sym (accounts_append prefix d before)) f.fails.box;
    }

-- ---- a box stops a close of source 1

-- units of source 1 print nothing among those of source 0
second_apart : (first d : List SinkUnit) (answers : List Answered) → AreFrom 1 d → first_lines (first ++ d) answers ≡ first_lines first answers
unfolding sink_numbers
second_apart first d answers are = grind (arith, flat_within, handed_append, second_handed, append-nil)

before_second : (first d : List SinkUnit) (answers : List Answered) (unit : SinkUnit) → AreFrom 0 first → AreFrom 1 d → unit.source ≡ 1
    → printed_before answers (first ++ d) unit ≡ first_lines first answers ++ unit_lines d
before_second first d answers unit are_first are source =
    grind (arith, first_lines, cond, filter, unit_lines, second_apart, filter-append, first_left, second_kept)

pub second_fails : (first us : List SinkUnit) (answers : List Answered) (text mid told : List ℕ) (before between after : List Account)
    → AreFrom 0 first → AreFrom 1 us
    → mid ≡ text ++ first_lines first answers → between ≡ accounts_after before first → BoxFails us mid told between after
    → CloseFails (first ++ us) answers (first_lines first answers ++ unit_lines us) text told before after
second_fails first us answers text mid told before between after are_first are_second prefix accounts f =
    let d : List SinkUnit = f.done in
    let own : AreFrom 1 (d ++ f.unit ∷ f.rest) = subst (AreFrom 1) f.split are_second in
    let are : AreFrom 1 d = from_prefix 1 d (f.unit ∷ f.rest) own in
    let one : AreFrom 1 (f.unit ∷ f.rest) = from_back 1 d (f.unit ∷ f.rest) own in
    let lines : List ℕ = first_lines first answers in
    let is : printed_before answers (first ++ d) f.unit ≡ lines ++ unit_lines d = before_second first d answers f.unit are_first are one.0 in
    record {
      done = first ++ d;
      unit = f.unit;
      rest = f.rest;
      split = ap (λ all. first ++ all) f.split ∙ sym (append_assoc first d (f.unit ∷ f.rest));
      bis = f.bis;
      time = f.time;
      octets = f.octets;
      is_valid = f.is_valid;
      lines = f.lines ∙ ap (λ l. l ++ unit_lines d) prefix ∙ append_assoc text lines (unit_lines d) ∙ ap (λ l. text ++ l) (sym is);
      behind = unit_lines (f.unit ∷ f.rest);
      prefix = grind (arith, unit_lines, lines_append, append_assoc);
      box = subst (λ all. TookAt f.unit.box f.octets all after (Err Failed)) (ap (λ a. accounts_after a d) accounts ∙ sym (accounts_append first d before)) f.box;
    }
