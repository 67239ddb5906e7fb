-- What a close of a source did, whether an event of it was open or none.
use Rattle.replay_steps.proofs.Prelude.{ℕ, ◌≡◌, List, [], ◌∷◌, ◌++◌, refl, sym, ◌∙◌, subst, append-nil, Option, None, Some, Result, Ok, Err, range_with_len, Account, airs_of, Stop, Refused, OutletFault, Memory, Step, SinkUnit, accounts_after, Answered, after_offers, answered, first_lines, unit_lines, closings_at, CutShort, Histories, with_close, hands_stop, Machine, printed_before, Meets, phase_line, handed_by, answered_by, output_of, inl, inr, ap, append_assoc, accounts_append, hands_then, length, Closes, FirstMeets, ComponentsStand, arith, sink_numbers, OnOk, Hands, Becomes}
use Rattle.replay_steps.proofs.BoxStops.{AreFrom, first_fails, from_closings, second_fails}
use Rattle.replay_steps.proofs.CloseLines.{lines_closed, offers_closed, units_closed}

-- A close handed up these units and printed these lines, and those were answered that relays offered; behind it `stands` holds.
abbrev pub Did : List SinkUnit → List Answered → List ℕ → (stands : Type 0) → (text told : List ℕ) → (before after : List Account)
    → Result (Unit {0}) Stop → Type 0
Did units answers lines stands text told before after r = Becomes None lines units answers stands ⊥ text told before after r

components_left : (steps : List Step) (past : Histories) (source : ℕ) (machine : Machine) → ComponentsStand steps past machine → ComponentsStand steps (with_close source None past) machine
components_left steps past source machine components = grind arith

-- a close of source 0
pub first_did : (steps : List Step) (past : Histories) (closed : Option ℕ) (new : Machine) (text told : List ℕ)
    (before after : List Account) (r : Result (Unit {0}) Stop) → Closes steps past 0 closed new text told before after r
    → Did (units_closed past closed) (answered airs_of (offers_closed steps past closed) steps) (lines_closed steps past closed)
    (ComponentsStand (after_offers airs_of (offers_closed steps past closed) steps) (with_close 0 closed past) new) text told before after r
first_did steps past closed new text told before after r m = grind (arith, components_left, append-nil, first_fails)

-- units of source 1 were handed behind those of source 0
hands_did : (first us : List SinkUnit) (answers : List Answered) (stands : Type 0) (text mid told : List ℕ)
    (before between after : List Account) (r : Result (Unit {0}) Stop)
    → AreFrom 0 first → AreFrom 1 us → mid ≡ text ++ first_lines first answers → between ≡ accounts_after before first → OnOk r stands
    → Hands us mid told between after r
    → Did (first ++ us) answers (first_lines first answers ++ unit_lines us) stands text told before after r
hands_did first us answers stands text mid told before between after (Ok x) are own prefix accounts s h =
    grind (arith, append_assoc, accounts_append)
hands_did first us answers stands text mid told before between after (Err (Refused reason)) are own prefix accounts s h = absurd h
hands_did first us answers stands text mid told before between after (Err OutletFault) are own prefix accounts s h =
    (refl, second_fails first us answers text mid told before between after are own prefix accounts h)
hands_did first us answers stands text mid told before between after (Err Memory) are own prefix accounts s h =
    inr (refl, hands_then first us [] (unit_lines first) [] before between after (Err Memory) refl accounts h)

-- a close of source 1, after one of source 0 or none
pub second_did : (steps : List Step) (past : Histories) (closed : Option ℕ) (first : List SinkUnit) (answers : List Answered)
    (new : Machine) (text mid told : List ℕ)
    (before between after : List Account) (r : Result (Unit {0}) Stop) → AreFrom 0 first → mid ≡ text ++ first_lines first answers
    → between ≡ accounts_after before first → Closes steps past 1 closed new mid told between after r
    → Did (first ++ closings_at 1 closed past) answers (first_lines first answers ++ unit_lines (closings_at 1 closed past))
    (ComponentsStand steps (with_close 1 closed past) new) text told before after r
unfolding sink_numbers
second_did steps past None first answers new text mid told before between after (Ok x) are prefix accounts m =
    hands_did first [] answers _ text mid told before between after (Ok x) are tt prefix accounts (components_left steps past 1 new m.0)
    (m.1 ∙ sym (append-nil mid), m.2)
second_did steps past None first answers new text mid told before between after (Err stop) are prefix accounts m =
    let never = m.3 in absurd (cc never)
second_did steps past (Some event) first answers new text mid told before between after (Ok x) are prefix accounts m =
    hands_did first _ answers _ text mid told before between after (Ok x) are
    (from_closings 1 event past (range_with_len 0 8)) prefix accounts m.0 m.1
second_did steps past (Some event) first answers new text mid told before between after (Err stop) are prefix accounts m =
    hands_did first _ answers ⊥ text mid told before between after (Err stop) are
    (from_closings 1 event past (range_with_len 0 8)) prefix accounts tt m

-- it stopped: more may be behind the units and the lines of the close
pub stops_meet : (starts : List Account) (steps : List Step) (made : Step) (there : Machine) (units more : List SinkUnit)
    (answers : List Answered) (lines tail : List ℕ)
    (text told : List ℕ) (before after : List Account) (stop : Stop) → phase_line airs_of (length starts) steps made ≡ None
    → handed_by airs_of steps made ≡ units ++ more → answered_by airs_of steps made ≡ answers
    → output_of airs_of starts steps made ≡ lines ++ tail
    → Did units answers lines ⊥ text told before after (Err stop) → Meets starts steps made there text told before after (Err stop)
stops_meet starts steps made there units more answers lines tail text told before after (Refused reason) passes handed asked printed d =
    absurd d.1
stops_meet starts steps made there units more answers lines tail text told before after OutletFault passes handed asked printed d =
    let f = d.1 in (
      passes,
      record {
        done = f.done;
        unit = f.unit;
        rest = f.rest ++ more;
        split = handed ∙ ap (λ us. us ++ more) f.split ∙ append_assoc f.done (f.unit ∷ f.rest) more;
        bis = f.bis;
        time = f.time;
        octets = f.octets;
        is_valid = f.is_valid;
        lines = f.lines ∙ ap (λ a. text ++ printed_before a f.done f.unit) (sym asked);
        behind = f.behind ++ tail;
        prefix = grind (arith, append_assoc);
        box = f.box;
      },
    )
stops_meet starts steps made there units more answers lines tail text told before after Memory passes handed asked printed (inl same) =
    inl same
stops_meet starts steps made there units more answers lines tail text told before after Memory passes handed asked printed (inr d) =
    inr (passes, subst (λ us. CutShort us before after) (sym handed) (hands_stop units more [] [] before after Memory d.1))

-- ---- which source is closed

-- one of source 0
pub first_closes : (steps : List Step) (past : Histories) (source : ℕ) (closed : Option ℕ) (event : ℕ) (new : Machine) (text told : List ℕ) (before after : List Account)
    (r : Result (Unit {0}) Stop) → source ≡ 0 → closed ≡ Some event → FirstMeets steps past event new text told before after r
    → Closes steps past source closed new text told before after r
first_closes steps past source closed event new text told before after r zeroth is m = grind arith
