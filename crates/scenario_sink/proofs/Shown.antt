-- What is shown of a slot.
use Rattle.scenario_sink.proofs.Prelude.{ℕ, ◌≡◌, ◌<◌, ◌≤◌, ltb, List, ◌++◌, [], ◌∷◌, Some, None, ◌∙◌, sym, cond-false, cond-true, le-ltb, lt-ltb, concat, codes, decimal, Notice, Settings, Call, state_where, stated, viewed, value_line, slot_lines, SinkHistory, arith}
use Rattle.scenario_sink.proofs.Printing.{two_put}

abbrev pub with_value : ℕ → List ℕ → Notice
with_value slot octets = record { slot = slot; value = octets }

pub slot_shown : (history : SinkHistory) (sink slot : ℕ) (one other : List ℕ) (text mid told : List ℕ) → one ≡ (stated history.made history.calls_made slot).value
    → other ≡ (viewed history.made 0 history.calls_made slot).value → mid ≡ text ++ value_line (codes "state") (decimal sink ∷ []) (with_value slot one)
    → told ≡ mid ++ value_line (codes "view") (decimal sink ∷ []) (with_value slot other) → told ≡ text ++ concat (slot_lines sink history slot)
slot_shown history sink slot one other text mid told first second put more =
    two_put text mid told (value_line (codes "state") (decimal sink ∷ []) (with_value slot one)) (value_line (codes "view") (decimal sink ∷ []) (with_value slot other)) put more
    ∙ (grind (arith, concat, value_line, codes, decimal))

-- ---- the state of a slot that the sink has or hasn't

pub there : (made : Settings) (calls_made : List Call) (slot : ℕ) (octets : List ℕ) → slot < made.setup.slots → octets ≡ (stated made calls_made slot).value
    → Some octets ≡ state_where (Some made) calls_made slot
there made calls_made slot octets below is = grind (arith, cond-true, ltb, stated, lt-ltb)
