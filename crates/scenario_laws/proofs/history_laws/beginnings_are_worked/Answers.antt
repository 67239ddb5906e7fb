use Rattle.scenario_laws.proofs.Known.Sources.Steps.Prelude.{ℕ, zero, suc, ◌≡◌, ◌<◌, ◌+◌, ◌/◌, Bool, List, [], ◌∷◌, ◌++◌, length, map, Option, None, Some, refl, sym, ◌∙◌, ap, arith, inl, inr, slice_get, slice_index_or, cases_eq, ne_eqb, none-some, same_Some, framed, pdu, Sends, Sent, carried, parts_at, framed_calls, its_air, its_calls, its_setup, by_payload}
use Rattle.scenario_laws.proofs.history_laws.beginnings_are_worked.Goals as goal

-- no number before the first carries anything
carried_none : (from : ℕ) (offset : Option ℕ) (segments : List (List ℕ)) (whole : Bool) → 0 < from
    → carried from offset segments whole 0 ≡ []
carried_none from offset [] whole past = refl
carried_none from offset (octets ∷ segments) whole past =
    rw (ne_eqb from 0 (λ is. omega (arith, is, past))) (carried_none (from + 1) None segments whole (omega (arith, past)))

-- the source accepted one unit on the stream, and its first PDU has more octets than its header: so it carries the unit
begins_first : (in_air : List Sent) → Sends its_setup.info (framed_calls its_setup 2 its_calls) its_air in_air → (place : ℕ) (unit : Sent)
    → slice_get (map (by_payload its_setup) in_air) place ≡ Some unit → unit.first ≡ 0
begins_first [] sends place unit at = absurd (none-some unit at)
begins_first (one ∷ []) sends (suc place) unit at = absurd (none-some unit at)
begins_first (one ∷ []) sends zero unit at =
    let same = ap (λ (u : Sent). u.first) (same_Some (by_payload its_setup one) unit at) in
    let first : one.first ≡ 0 = elim (cases_eq one.first 0) [
      | inl here ↦ here
      | inr later ↦
          let none : parts_at (one ∷ []) 0 ≡ [] =
          ap (λ parts. parts ++ []) (carried_none one.first (Some one.offset) one.segments one.whole (omega (arith, later))) in
          let long : 12 ≡ 2 =
          ap (λ (pdus : List (List ℕ)). length (slice_index_or pdus 0 [])) (sends.pdus.0.1 ∙ ap (λ parts. pdu (framed parts) ∷ []) none) in
          absurd (omega (arith, long))
    ] in
    omega (arith, same, first)
begins_first (one ∷ other ∷ more) sends place unit at = absurd (elim sends.are [ inl here ↦ here.1 | inr later ↦ later ])

pub returns : goal.returns
returns c = λ entry is.
    let sent = is.is_sent in
    let first = begins_first sent.are_sent.in_air sent.are_sent.sends sent.place is.sent
    (ap (λ units. slice_get units sent.place) (sym sent.are_sent.numbered) ∙ sent.is_sent) in
    is.event_is ∙ ap (λ (n : ℕ). n / 1) first
