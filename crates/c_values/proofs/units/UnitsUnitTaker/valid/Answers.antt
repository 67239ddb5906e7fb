use Rattle.std.proofs.Common.{◌≡◌, ◌<◌, ◌≤◌, ◌∷◌, ◌++◌, [], false, ℕ, List, length, Option, Some, None, Result, Ok, Err, is_some, option_to_list, refl, sym, ap, ◌∙◌, subst, append-nil}
use Rattle.std.specs.Prelude.{IsErr, IsOk, OnErr}
use Rattle.unit_outlets.specs.Handed.{Handed, valid}
use Rattle.c_values.specs.Kept.{Kept, calls_of, head_of, with_miss}
use Rattle.c_values.proofs.units.UnitsUnitTaker.valid.Goals as goal

-- what a put that finds no memory leaves lacks room for its octets
lacks : {T E : Type 0} (result : Result T E) (old new : Kept) (octets told : List ℕ) → IsErr result → OnErr result (new ≡ old) → told ≡ octets
    → (length old.waiting < old.room.units → length octets ≤ old.room.octets → IsOk result)
    → length new.waiting < new.room.units → length told ≤ new.room.octets → ⊥
lacks {T} (Ok value) old new octets told is same told_is served few short = absurd cc
lacks {T} (Err fault) old new octets told is same told_is served few short =
    let no : IsOk {T = T} (Err fault) = served (subst (λ (kept : Kept). length kept.waiting < kept.room.units) same few)
    (subst (λ (kept : Kept). length octets ≤ kept.room.octets) same (subst (λ (o : List ℕ). length o ≤ new.room.octets) told_is short)) in
    cc

on_err : {T E P : Type 0} (result : Result T E) → IsErr result → OnErr result P → P
on_err (Ok value) is same = absurd cc
on_err (Err fault) is same = same

-- the unit that found no memory is told behind those that wait
told_behind : (old : Kept) (missed : Option Handed) (unit : Handed) → old.round.missed ≡ missed → is_some missed ≡ false
    → calls_of (with_miss unit old) ≡ calls_of old ++ unit ∷ []
told_behind old None unit is none =
    ap (λ units. head_of old ∷ (units ++ unit ∷ [])) (sym (append-nil old.waiting) ∙ ap (λ missed. old.waiting ++ option_to_list missed) (sym is))
told_behind old (Some other) unit is none = absurd cc

pub miss-requires : goal.miss-requires
miss-requires c =
    lacks c.put.result _ _ c.args.octets.now c.of.result.octets (sym c.is_err.ensures.value ∙ c.if-is_err.true) c.put.ensures.err c.of.ensures c.put.ensures.served

pub returns-then-is_err-clause-ok : goal.returns-then-is_err-clause-ok
returns-then-is_err-clause-ok c =
    let old = c.args.self.now in
    let same : c.put.new.self ≡ old = on_err c.put.result (sym c.is_err.ensures.value ∙ c.if-is_err.true) c.put.ensures.err in
    ap calls_of (c.miss.ensures ∙ ap (with_miss (valid c.args.bis c.args.time c.of.result.octets)) same
    ∙ ap (λ octets. with_miss (valid c.args.bis c.args.time octets) old) c.of.ensures)
    ∙ told_behind old old.round.missed (valid c.args.bis c.args.time c.args.octets.now) refl (sym c.has_missed.ensures ∙ c.if-has_missed.false)
