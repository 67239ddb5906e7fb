-- A stay, from its first number on: what it decides are the entries of the units that were sent.
use Rattle.isoal_framed.proofs.Prelude.{ℕ, zero, suc, ◌≡◌, ◌+◌, ◌-◌, ◌*◌, ◌/◌, ◌<◌, ◌≤◌, inl, inr, true, false, Bool, is_some, List, [], ◌∷◌, ◌++◌, length, drop, Option, Some, None, refl, sym, ap, ◌∙◌, subst, arith, append_assoc, length-drop, flat_map, range_with_len, add-mul, le-div_iff_mul-le, div-lt_iff_lt-mul, cond-true, cond-false, true≢false, Stay, opened, heard, cases_option, heard_first, heard_in, event_tokens, closed_tokens, decided, tokens_of, hands, Fit, Sent, carried, parts_at, InOrder, FromSource, is_heard, closed_end, entry_of, struck}
use Rattle.isoal_base.specs.Stays.{Call}
use Rattle.isoal_framed.specs.Struck.{behind}
use Rattle.isoal_framed.proofs.Closed.{flat_same, opened_least}
use Rattle.isoal_framed.proofs.Joins.{units_are}
use Rattle.isoal_framed.proofs.Entries.{entry_missed, tok, toks, toks_same, carried_later}
use Rattle.isoal_framed.proofs.Struck.{shown_from}
use Rattle.isoal_framed.proofs.Greedy.{cases_low}

-- a range of numbers in two parts, and events as one range
flat_append : {A : Type 0} (f : ℕ → List A) (start m n : ℕ)
    → flat_map f (range_with_len start (m + n)) ≡ flat_map f (range_with_len start m) ++ flat_map f (range_with_len (start + m) n)
flat_append f start zero n = grind arith
flat_append f start (suc m) n =
    let more : suc m + n ≡ suc (m + n) = omega arith in
    let next : start + 1 + m ≡ start + suc m = omega arith in
    ap (λ k. flat_map f (range_with_len start k)) more ∙ ap (λ xs. f start ++ xs) (flat_append f (start + 1) m n)
    ∙ sym (append_assoc (f start) (flat_map f (range_with_len (start + 1) m)) (flat_map f (range_with_len (start + 1 + m) n)))
    ∙ ap (λ k. (f start ++ flat_map f (range_with_len (start + 1) m)) ++ flat_map f (range_with_len k n)) next

flat_events : {A : Type 0} (f : ℕ → List A) (bn first count : ℕ)
    → flat_map (λ event. flat_map f (range_with_len (event * bn) bn)) (range_with_len first count) ≡ flat_map f (range_with_len (first * bn) (count * bn))
flat_events f bn first zero = let none : 0 * bn ≡ 0 = omega arith in ap (λ n. flat_map f (range_with_len (first * bn) n)) (sym none)
flat_events f bn first (suc count) =
    let next : (first + 1) * bn ≡ first * bn + bn = add-mul first 1 bn ∙ omega arith in
    let all : suc count * bn ≡ bn + count * bn = omega arith in
    ap (λ xs. flat_map f (range_with_len (first * bn) bn) ++ xs) (flat_events f bn (first + 1) count)
    ∙ ap (λ start. flat_map f (range_with_len (first * bn) bn) ++ flat_map f (range_with_len start (count * bn))) next
    ∙ sym (flat_append f (first * bn) bn (count * bn)) ∙ ap (λ n. flat_map f (range_with_len (first * bn) n)) (sym all)

-- the event of a number
event_of : (bn event number : ℕ) → 1 ≤ bn → event * bn ≤ number → number < event * bn + bn → number / bn ≡ event
event_of bn event number some least below = grind (arith, add-mul, le-div_iff_mul-le, div-lt_iff_lt-mul)

-- the tokens of a number are those of the source's segments, or that it is missing
tokens_here : (stay : Stay) (units : List Sent) (calls : List Call) (from number event : ℕ) → FromSource stay units calls → number / stay.info.bn ≡ event
    → tokens_of stay event (heard_in stay calls number) ≡ tok stay (is_heard stay calls) from [] true units number
unfolding tok
tokens_here stay units calls from number event source is = grind (arith, cases_option, cond-false, cond-true)

tokens_are : (stay : Stay) (units : List Sent) (calls : List Call) → 1 ≤ stay.info.bn → FromSource stay units calls
    → closed_tokens stay calls ≡ toks stay (is_heard stay calls) (stay.first * stay.info.bn) [] true units (stay.first * stay.info.bn)
    ((opened stay calls - stay.first) * stay.info.bn)
unfolding toks
tokens_are stay units calls some source =
    flat_same (event_tokens stay calls)
    (λ event. flat_map (tok stay (is_heard stay calls) (stay.first * stay.info.bn) [] true units) (range_with_len (event * stay.info.bn) stay.info.bn))
    stay.first (opened stay calls - stay.first) (search (flat_same, tok, tokens_here, event_of))
    ∙ flat_events (tok stay (is_heard stay calls) (stay.first * stay.info.bn) [] true units) stay.info.bn stay.first (opened stay calls - stay.first)

-- the event of what is heard is none before the first
heard_least : {A : Type 0} (read : List ℕ → Option A) (stay : Stay) (calls : List Call) (number : ℕ) (part : A) → heard read stay calls number ≡ Some part
    → stay.first ≤ number / stay.info.bn
heard_least read stay calls number part is =
    grind (arith, heard_first read stay number part calls is, opened_least stay (heard_first read stay number part calls is).earlier, (heard_first read stay number part calls is).enters.window.0)

sum_is : (m n : ℕ) → m ≤ n → m + (n - m) ≡ n
sum_is m n within = omega arith

-- nothing is heard before the stay
none_before : (stay : Stay) (calls : List Call) (number : ℕ) → 1 ≤ stay.info.bn → number < stay.first * stay.info.bn → heard_in stay calls number ≡ None
none_before stay calls number some before = grind (arith, cases_option, heard_least, le-div_iff_mul-le)

-- units in order, of which less is laid
order_less : (from laid closed : ℕ) (units : List Sent) → closed ≤ laid → InOrder from laid units → InOrder from closed units
order_less from laid closed [] less order = tt
order_less from laid closed (unit ∷ units) less order = (
  order.0,
  order.1,
  λ part. ((order.2 part).0, (let end : laid ≤ behind unit = (order.2 part).1 in omega arith)),
  order_less (behind unit - 1) laid closed units less order.3,
)

-- behind a unit's numbers it has no segments
pub carried_past : (first number : ℕ) (offset : Option ℕ) (segments : List (List ℕ)) (whole : Bool) → first + length segments ≤ number → carried first offset segments whole number ≡ []
carried_past first number offset [] whole past = refl
carried_past first number offset (octets ∷ segments) whole past =
    carried_later first number offset octets segments whole (omega arith) ∙ carried_past (first + 1) number None segments whole (omega arith)

-- from a number on that carries a further segment
carried_rest : (first count number : ℕ) (offset : Option ℕ) (segments : List (List ℕ)) (whole : Bool) → 1 ≤ count → count ≤ length segments → first + count ≤ number
    → carried first offset segments whole number ≡ carried (first + count) None (drop count segments) whole number
carried_rest first zero number offset segments whole some within past = absurd (omega arith)
carried_rest first (suc count) number offset [] whole some within past = absurd (omega arith)
carried_rest first (suc zero) number offset (octets ∷ segments) whole some within past = carried_later first number offset octets segments whole (omega arith)
carried_rest first (suc (suc count)) number offset (octets ∷ segments) whole some within past =
    let sum : first + 1 + suc count ≡ first + suc (suc count) = omega arith in
    carried_later first number offset octets segments whole (omega arith)
    ∙ carried_rest (first + 1) (suc count) number None segments whole (omega arith) (omega arith) (omega arith)
    ∙ ap (λ from. carried from None (drop (suc count) segments) whole number) sum

-- from a number on at which a stay begins: what is left of a unit that goes on there, and the units that begin later
record Left (stay : Stay) (heard : ℕ → Bool) (closed from : ℕ) (units : List Sent) (segments : List (List ℕ)) (whole : Bool) (others : List Sent) : Type 0 where
  same : (number : ℕ) → from ≤ number → parts_at units number ≡ carried from None segments whole number ++ parts_at others number
  order : segments ≡ [] → InOrder from closed others
  later : 1 ≤ length segments → InOrder (from + length segments - 1) closed others
  last : whole ≡ false → 1 ≤ length segments → (others ≡ []) × (closed ≤ from + length segments)
  entries : flat_map (entry_of stay heard closed) units ≡ flat_map (entry_of stay heard closed) others
  fit : Fit stay.info.max_sdu units → Fit stay.info.max_sdu others

abbrev From : Stay → (ℕ → Bool) → ℕ → ℕ → List Sent → Type 0
From stay heard closed from units = (segments : List (List ℕ)) × (whole : Bool) × (others : List Sent) × Left stay heard closed from units segments whole others

from_here : (stay : Stay) (heard : ℕ → Bool) (closed from : ℕ) → ((number : ℕ) → number < from → heard number ≡ false)
    → (q : ℕ) → (units : List Sent) → InOrder q closed units → From stay heard closed from units
from_here stay heard closed from before q [] order = ([], true, [], grind (arith, true≢false))
from_here stay heard closed from before q (unit ∷ units) order = elim (cases_low from unit.first) [
  | inl later ↦ ([], true, unit ∷ units, grind (arith, true≢false))
  | inr earlier ↦
      (let none : entry_of stay heard closed unit ≡ [] = entry_missed stay heard closed unit (before unit.first earlier) in
      let rest : From stay heard closed from units = from_here stay heard closed from before (behind unit - 1) units order.3 in
      elim (cases_low (behind unit) from) [
        | inl past ↦ (rest.0, rest.1, rest.2, grind (arith, carried_past))
        | inr over ↦
            (let sum : unit.first + (from - unit.first) ≡ from = omega arith in
            let left : length (drop (from - unit.first) unit.segments) ≡ length unit.segments - (from - unit.first) = length-drop (from - unit.first) unit.segments in
            let end : from + length (drop (from - unit.first) unit.segments) ≡ behind unit = omega arith in
            let here : Left stay heard closed from (unit ∷ units) (drop (from - unit.first) unit.segments) unit.whole units = record {
              same = grind (arith, carried_rest);
              order = λ nothing. absurd (let empty : length (drop (from - unit.first) unit.segments) ≡ 0 = ap length nothing in omega arith);
              later = λ some. subst (λ last. InOrder (last - 1) closed units) (sym end) order.3;
              last = λ part some. ((order.2 part).0, subst (λ last. closed ≤ last) (sym end) (order.2 part).1);
              entries = ap (λ xs. xs ++ flat_map (entry_of stay heard closed) units) none;
              fit = λ fit. fit.1;
            } in
            (drop (from - unit.first) unit.segments, unit.whole, units, here))
      ])
]

-- the law of a stay
pub struck_is : (stay : Stay) (units : List Sent) (laid : ℕ) (calls : List Call) → 1 ≤ stay.info.bn → InOrder 0 laid units → closed_end stay calls ≤ laid
    → Fit stay.info.max_sdu units → FromSource stay units calls → decided stay calls ≡ struck stay units calls
struck_is stay units laid calls some order within fit source =
    let first : stay.first ≤ opened stay calls = opened_least stay calls in
    let count : stay.first * stay.info.bn + (opened stay calls - stay.first) * stay.info.bn ≡ closed_end stay calls =
    sym (add-mul stay.first (opened stay calls - stay.first) stay.info.bn) ∙ ap (λ n. n * stay.info.bn) (sum_is stay.first (opened stay calls) first) in
    let here : From stay (is_heard stay calls) (closed_end stay calls) (stay.first * stay.info.bn) units =
    from_here stay (is_heard stay calls) (closed_end stay calls) (stay.first * stay.info.bn)
    (λ number before. ap is_some (none_before stay calls number some before)) 0 units (order_less 0 laid (closed_end stay calls) units within order) in
    units_are stay.info.max_sdu stay.bis (closed_tokens stay calls)
    ∙ ap (hands stay.info.max_sdu stay.bis None) (tokens_are stay units calls some source
    ∙ toks_same stay (is_heard stay calls) (stay.first * stay.info.bn) (stay.first * stay.info.bn) [] here.0 true here.1 units here.2
    (stay.first * stay.info.bn) ((opened stay calls - stay.first) * stay.info.bn) here.3.same)
    ∙ shown_from stay (is_heard stay calls) (closed_end stay calls) ((opened stay calls - stay.first) * stay.info.bn) (stay.first * stay.info.bn) count
    here.0 here.1 here.2 here.3.order here.3.later here.3.last (here.3.fit fit) ∙ sym here.3.entries
