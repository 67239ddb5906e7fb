-- The air of a source as its calls go on.
use Rattle.multi_source.proofs.Prelude.{ℕ, ◌≡◌, ◌<◌, ◌+◌, ◌-◌, min, List, [], ◌∷◌, ◌++◌, length, get_or, arith, ◌∙◌, ap, sym, refl, subst, inl, inr, keep_last, Air, OnAir, AreAirs, Sends, airs_of, Setup, Call, event, events, next_of, IsChecked, IsOfGroup, IsOnAir}
use Rattle.std.proofs.lemmas.Bool.{cases_eq}
use Rattle.std.proofs.lemmas.List.{get_or-drop, get_or_append_left, get_or-append_right, length-append, length-drop}
use Rattle.source_machine.proofs.Citable.{airs_exist, sends_stay}

-- the list that is kept behind a new item
kept_length : {A : Type 0} (xs : List A) (x : A) → length (keep_last 32 (xs ++ x ∷ [])) ≡ min 32 (length xs + 1)
kept_length xs x =
    let more : length (xs ++ x ∷ []) ≡ length xs + 1 = length-append xs (x ∷ []) in
    length-drop (length (xs ++ x ∷ []) - 32) (xs ++ x ∷ []) ∙ omega arith

newest_kept : {A : Type 0} (xs : List A) (x none : A) (i : ℕ) → i ≡ length (keep_last 32 (xs ++ x ∷ [])) - 1 - 0 → get_or (keep_last 32 (xs ++ x ∷ [])) i none ≡ x
newest_kept xs x none i is =
    let long = kept_length xs x in
    let more : length (xs ++ x ∷ []) ≡ length xs + 1 = length-append xs (x ∷ []) in
    let from : ℕ = length (xs ++ x ∷ []) - 32 in
    let last : from + i - length xs ≡ 0 = omega arith in
    get_or-drop from (xs ++ x ∷ []) i none ∙ get_or-append_right xs (x ∷ []) (length xs) (from + i) none refl (omega arith)
    ∙ ap (λ k. get_or (x ∷ []) k none) last

earlier_kept : {A : Type 0} (xs : List A) (x none : A) (back i : ℕ) → back < length xs → back < 31 → i ≡ length (keep_last 32 (xs ++ x ∷ [])) - 1 - (back + 1)
    → get_or (keep_last 32 (xs ++ x ∷ [])) i none ≡ get_or xs (length xs - 1 - back) none
earlier_kept xs x none back i below near is =
    let long = kept_length xs x in
    let more : length (xs ++ x ∷ []) ≡ length xs + 1 = length-append xs (x ∷ []) in
    let from : ℕ = length (xs ++ x ∷ []) - 32 in
    let place : from + i ≡ length xs - 1 - back = omega arith in
    get_or-drop from (xs ++ x ∷ []) i none ∙ get_or_append_left xs (x ∷ []) none (from + i) (omega arith) ∙ ap (λ k. get_or xs k none) place

-- before the first event
pub silent : (setup : Setup) (air : OnAir) → IsOfGroup setup air → air.events ≡ [] → IsOnAir setup [] air
silent setup air group none =
    let count : length air.events ≡ 0 = ap length none in
    record { group = group; count = omega arith; sent = λ back airs below are. absurd (omega arith) }

-- an event is put on the air
pub event_on_air : (setup : Setup) (calls : List Call) (air : OnAir) (pdus : List (List ℕ)) → IsChecked setup.info
    → IsOnAir setup calls air → ((airs : List Air) → AreAirs setup (event ∷ calls) airs → Sends setup airs (next_of setup calls) pdus)
    → IsOnAir setup (event ∷ calls) (record air { events = keep_last 32 (air.events ++ pdus ∷ []) })
event_on_air setup calls air pdus checked on sends =
    let known : length air.events ≡ min 32 (events calls) = on.count in
    let long = kept_length air.events pdus in
    let all : List (List (List ℕ)) = keep_last 32 (air.events ++ pdus ∷ []) in
    record {
      group = record { streams = on.group.streams; subevents = on.group.subevents };
      count = omega arith;
      sent = λ back airs below are. elim (cases_eq back 0) [
        | inl newest ↦
            let at : next_of setup calls ≡ next_of setup (event ∷ calls) - 1 - back = omega arith in
            subst (λ e. Sends setup airs e (get_or all (length all - 1 - back) [])) at
            (subst (Sends setup airs (next_of setup calls)) (sym (newest_kept air.events pdus [] (length all - 1 - back) (omega arith))) (sends airs are))
        | inr earlier ↦
            let before : ℕ = back - 1 in
            let at : next_of setup calls - 1 - before ≡ next_of setup (event ∷ calls) - 1 - back = omega arith in
            let here : get_or all (length all - 1 - back) [] ≡ get_or air.events (length air.events - 1 - before) [] =
            earlier_kept air.events pdus [] before (length all - 1 - back) (omega arith) (omega arith) (omega arith) in
            subst (λ e. Sends setup airs e (get_or all (length all - 1 - back) [])) at
            (subst (Sends setup airs (next_of setup calls - 1 - before)) (sym here)
            (sends_stay setup event calls (airs_of setup calls) airs (next_of setup calls - 1 - before) (get_or air.events (length air.events - 1 - before) [])
            checked (airs_exist setup calls checked) are (omega arith) (omega arith) (on.sent before (airs_of setup calls) (omega arith) (airs_exist setup calls checked))))
      ];
    }
