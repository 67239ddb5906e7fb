-- A run over an accepted history and what follows it.
use Rattle.scenario_history.proofs.Prelude.{◌≡◌, ◌+◌, List, [], ◌∷◌, ◌++◌, reverse, refl, sym, ◌∙◌, ap, append_assoc, None, reverse-append}
use Rattle.scenario_history.specs.Runs.{Rules, out, end_of, brought, Accepted, accepted_of}

pub reverse_onto : {L : Type 0} (line : L) (earlier lines : List L) → reverse (line ∷ earlier) ++ lines ≡ reverse earlier ++ line ∷ lines
reverse_onto line earlier lines =
    ap (λ prefix. prefix ++ lines) (reverse-append (line ∷ []) earlier) ∙ append_assoc (reverse earlier) (line ∷ []) lines

-- the next line of a run is accepted
out_next : {L R : Type 0} (rules : Rules L R) (earlier lines : List L) (line : L) → rules.refusal earlier line ≡ None
    → out rules earlier (line ∷ lines) ≡ rules.output earlier line ++ out rules (line ∷ earlier) lines
out_next rules earlier lines line none = rw none refl

end_next : {L R : Type 0} (rules : Rules L R) (earlier lines : List L) (line : L) → rules.refusal earlier line ≡ None
    → end_of rules earlier (line ∷ lines) ≡ end_of rules (line ∷ earlier) lines
end_next rules earlier lines line none = rw none refl

pub out_accepted : {L R : Type 0} (rules : Rules L R) (history lines : List L) → Accepted rules history
    → out rules [] (reverse history ++ lines) ≡ brought rules history ++ out rules history lines
out_accepted rules [] lines accepted = refl
out_accepted rules (line ∷ earlier) lines accepted =
    ap (out rules []) (reverse_onto line earlier lines) ∙ out_accepted rules earlier (line ∷ lines) accepted.0
    ∙ ap (λ rest. brought rules earlier ++ rest) (out_next rules earlier lines line accepted.1)
    ∙ sym (append_assoc (brought rules earlier) (rules.output earlier line) (out rules (line ∷ earlier) lines))

pub end_accepted : {L R : Type 0} (rules : Rules L R) (history lines : List L) → Accepted rules history
    → end_of rules [] (reverse history ++ lines) ≡ end_of rules history lines
end_accepted rules [] lines accepted = refl
end_accepted rules (line ∷ earlier) lines accepted =
    ap (end_of rules []) (reverse_onto line earlier lines) ∙ end_accepted rules earlier (line ∷ lines) accepted.0
    ∙ end_next rules earlier lines line accepted.1

accepted_next : {L R : Type 0} (rules : Rules L R) (earlier lines : List L) (line : L) → rules.refusal earlier line ≡ None
    → accepted_of rules earlier (line ∷ lines) ≡ accepted_of rules (line ∷ earlier) lines
accepted_next rules earlier lines line none = rw none refl

pub accepted_accepted : {L R : Type 0} (rules : Rules L R) (history lines : List L) → Accepted rules history
    → accepted_of rules [] (reverse history ++ lines) ≡ accepted_of rules history lines
accepted_accepted rules [] lines accepted = refl
accepted_accepted rules (line ∷ earlier) lines accepted =
    ap (accepted_of rules []) (reverse_onto line earlier lines) ∙ accepted_accepted rules earlier (line ∷ lines) accepted.0
    ∙ accepted_next rules earlier lines line accepted.1
