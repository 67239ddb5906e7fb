-- The tokens of the closed events: a hear changes nothing of them, and a close adds those of an event.
use Rattle.isoal_framed.proofs.Prelude.{ℕ, zero, suc, ◌≡◌, ◌+◌, ◌-◌, ◌*◌, ◌/◌, ◌≤◌, ◌<◌, List, [], ◌∷◌, ◌++◌, map, take, None, replicate, refl, sym, ap, ◌∙◌, arith, append_assoc, flat_map, range_with_len, add-mul, div-lt_iff_lt-mul, append-nil, Stay, hear, close, opened, window_of, read_as, heard_same, entry_outside, map_part, stands_new, stands_hear, stands_close, heard_in, event_tokens, closed_tokens, decided, gained, undecided_in, segmented, tokens_of, undecided_run, hands, Window, Stands, after_hear, after_close, tokens_in, owed, drop-append_seam}
use Rattle.std.proofs.lemmas.List.Folds.{flat_map-map}
use Rattle.big_info.specs.Bounds.{Bounds}
use Rattle.isoal_base.specs.Stays.{Call}
use Rattle.isoal_framed.proofs.Joins.{units_more, undecided_more}

-- lists of lists over a range
pub flat_same : {A : Type 0} (f g : ℕ → List A) (start n : ℕ) → ((i : ℕ) → start ≤ i → i < start + n → f i ≡ g i)
    → flat_map f (range_with_len start n) ≡ flat_map g (range_with_len start n)
flat_same f g start zero same = refl
flat_same f g start (suc n) same = cc (same start (omega arith) (omega arith), flat_same f g (start + 1) n (λ i least below. same i (omega arith) (omega arith)))

pub flat_last : {A : Type 0} (f : ℕ → List A) (start n : ℕ)
    → flat_map f (range_with_len start (n + 1)) ≡ flat_map f (range_with_len start n) ++ f (start + n)
flat_last f start zero = grind (arith, append-nil)
flat_last f start (suc n) =
    let more : suc n + 1 ≡ suc (n + 1) = omega arith in
    let next : start + 1 + n ≡ start + suc n = omega arith in
    ap (λ k. flat_map f (range_with_len start k)) more ∙ ap (λ xs. f start ++ xs) (flat_last f (start + 1) n)
    ∙ sym (append_assoc (f start) (flat_map f (range_with_len (start + 1) n)) (f (start + 1 + n)))
    ∙ ap (λ k. (f start ++ flat_map f (range_with_len (start + 1) n)) ++ f k) next

-- the open event is never before the first
pub opened_least : (stay : Stay) (calls : List Call) → stay.first ≤ opened stay calls
opened_least stay [] = omega arith
opened_least stay (hear number octets ∷ calls) = opened_least stay calls
opened_least stay (close ∷ calls) = grind (arith, opened_least stay calls)

-- the event of a number
event_below : (bn event number : ℕ) → 1 ≤ bn → number < event * bn + bn → number / bn < event + 1
event_below bn event number some below = grind (arith, add-mul, div-lt_iff_lt-mul)

-- a hear changes nothing of an event before the open one
hear_event : (stay : Stay) (calls : List Call) (number : ℕ) (octets : List ℕ) (event : ℕ) → event < opened stay calls
    → event_tokens stay (hear number octets ∷ calls) event ≡ event_tokens stay calls event
hear_event stay calls number octets event before =
    flat_same (λ at. tokens_of stay event (heard_in stay (hear number octets ∷ calls) at)) (λ at. tokens_of stay event (heard_in stay calls at))
    (event * stay.info.bn) stay.info.bn (grind (arith, heard_same, entry_outside, event_below))

pub closed_hear : (stay : Stay) (calls : List Call) (number : ℕ) (octets : List ℕ)
    → closed_tokens stay (hear number octets ∷ calls) ≡ closed_tokens stay calls
closed_hear stay calls number octets = grind (arith, opened_least, flat_same, hear_event)

pub decides_nothing : (stay : Stay) (calls : List Call) (number : ℕ) (octets : List ℕ)
    → decided stay (hear number octets ∷ calls) ≡ decided stay calls
decides_nothing stay calls number octets = cc (closed_hear stay calls number octets)

close_event : (stay : Stay) (calls : List Call) (event : ℕ) → event_tokens stay (close ∷ calls) event ≡ event_tokens stay calls event
close_event stay calls event = search (flat_same, heard_same)

pub closed_close : (stay : Stay) (calls : List Call)
    → closed_tokens stay (close ∷ calls) ≡ closed_tokens stay calls ++ event_tokens stay calls (opened stay calls)
closed_close stay calls =
    let first : stay.first ≤ opened stay calls = opened_least stay calls in
    let count : opened stay calls + 1 - stay.first ≡ opened stay calls - stay.first + 1 = omega arith in
    let last : stay.first + (opened stay calls - stay.first) ≡ opened stay calls = omega arith in
    flat_same (event_tokens stay (close ∷ calls)) (event_tokens stay calls) stay.first (opened stay calls + 1 - stay.first)
    (λ event least below. close_event stay calls event) ∙ ap (λ n. flat_map (event_tokens stay calls) (range_with_len stay.first n)) count
    ∙ flat_last (event_tokens stay calls) stay.first (opened stay calls - stay.first)
    ∙ ap (λ event. closed_tokens stay calls ++ event_tokens stay calls event) last

-- the tokens of the open event, from the window
pub tokens_are : (window : Window) → 1 ≤ window.stay.info.bn → (calls : List Call) → Stands calls window
    → tokens_in window ≡ event_tokens window.stay calls (opened window.stay calls)
tokens_are window some calls stands =
    let from : window.event * window.stay.info.bn + 0 ≡ window.event * window.stay.info.bn = omega arith in
    ap (λ kept. flat_map (tokens_of window.stay window.event) (take window.stay.info.bn kept)) stands.hearing.kept_is
    ∙ ap (flat_map (tokens_of window.stay window.event))
    (map_part (heard_in window.stay calls) (window.event * window.stay.info.bn) (window_of window.stay.info) 0 window.stay.info.bn (omega arith))
    ∙ ap (λ start. flat_map (tokens_of window.stay window.event) (map (heard_in window.stay calls) (range_with_len start window.stay.info.bn))) from
    ∙ flat_map-map (tokens_of window.stay window.event) (heard_in window.stay calls) (range_with_len (window.event * window.stay.info.bn) window.stay.info.bn)
    ∙ ap (event_tokens window.stay calls) stands.hearing.event_is

pub new_stands : (stay : Stay) → Stands [] (record { stay = stay; event = stay.first; kept = replicate (window_of stay.info) None; run = None })
new_stands stay =
    let none : stay.first - stay.first ≡ 0 = omega arith in
    record {
      hearing = stands_new (read_as segmented stay.info.max_pdu) stay;
      run = ap (λ n. undecided_run stay.info.max_sdu (flat_map (event_tokens stay []) (range_with_len stay.first n))) (sym none);
    }

pub hear_stands : (window : Window) (number : ℕ) (octets : List ℕ) → Bounds window.stay.info
    → (calls : List Call) → Stands calls window → Stands (hear number octets ∷ calls) (after_hear number octets window)
hear_stands window number octets bounds calls stands = search (stands_hear, closed_hear)

pub close_stands : (window : Window) → Bounds window.stay.info
    → (calls : List Call) → Stands calls window → Stands (close ∷ calls) (after_close window)
close_stands window bounds calls stands = record {
  hearing = stands_close (read_as segmented window.stay.info.max_pdu) window.stay calls window.event window.kept bounds.bn stands.hearing;
  run = grind (arith, tokens_are, undecided_more, closed_close);
}

-- a close adds to the units that are decided
close_adds : (stay : Stay) (calls : List Call) → decided stay (close ∷ calls)
    ≡ decided stay calls ++ hands stay.info.max_sdu stay.bis (undecided_in stay calls) (event_tokens stay calls (opened stay calls))
close_adds stay calls = cc (closed_close stay calls, units_more stay.info.max_sdu stay.bis (closed_tokens stay calls) (event_tokens stay calls (opened stay calls)))

pub close_gains : (stay : Stay) (calls : List Call) → decided stay (close ∷ calls) ≡ decided stay calls ++ gained stay calls
close_gains stay calls = search (close_adds, drop-append_seam)

pub owed_is : (window : Window) → Bounds window.stay.info → (calls : List Call) → Stands calls window
    → owed window ≡ gained window.stay calls
owed_is window bounds calls stands = grind (arith, close_adds, tokens_are, drop-append_seam)
