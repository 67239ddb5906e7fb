use Rattle.std.proofs.Common.{◌≡◌, ◌<◌, ◌≤◌, ◌∷◌, length, map, refl, sym, ap, ◌∙◌, arith}
use Rattle.c_values.specs.Kept.{Kept, greatest_unit}
use Rattle.c_values.specs.Sound.{waiting_as}
use Rattle.c_values.specs.declared.units.Entry.{Entry}
use Rattle.c_values.proofs.Rounds.{all_rest, one_less, shown_first, taken_first}
use Rattle.c_values.proofs.units.Units.take_into.Goals as goal

pub invariant_of-self : goal.invariant_of-self
invariant_of-self c =
    let was = c.self.invariant in
    let some : 0 < length c.self.inside.entries.items = omega (arith, c.remove-gone.ensures.len, c.self.inside.entries.ok.0) in
    let is = taken_first c.self.inside.entries.items c.remove-gone.new.self.items c.remove-gone.result some c.remove-gone.ensures.value c.remove-gone.ensures.by_index.2 in
    record {
      short = all_rest (λ (entry : Entry). length entry.octets.items ≤ greatest_unit) _ _ _ is was.short;
      sizes = was.sizes;
      rooms = c.put_back.ensures.rooms;
      enough = one_less _ _ _ _ _ _ _ _ is was.enough was.spare_fits c.put_back.ensures.kept c.put_back.ensures.more;
      entries_fit = omega (arith, was.entries_fit, c.remove-gone.ensures.capacity);
      spare_fits = omega (arith, was.spare_fits, c.put_back.ensures.capacity);
      grew = rw c.new-self-inside.ensures (omega arith);
      lacked = rw c.new-self-inside.ensures tt;
      counted = rw c.new-self-inside.ensures (λ some. absurd (Prim.omega (arith, some)));
    }

pub returns-in_default-clause-same : goal.returns-in_default-clause-same
returns-in_default-clause-same c = λ _. (refl, refl, refl)

pub returns-in_default-shown-clause-same : goal.returns-in_default-shown-clause-same
returns-in_default-shown-clause-same c = λ _. (refl, refl, c.shown.ensures.none c.in_default-shown.is)

pub returns-clause-same : goal.returns-clause-same
returns-clause-same c = λ no. absurd (no refl)

pub returns-clause-room : goal.returns-clause-room
returns-clause-room c = ap (λ (kept : Kept). kept.room) c.self.view_is

pub returns-clause-taken : goal.returns-clause-taken
returns-clause-taken c = λ _.
    let entries = c.self.inside.entries.items in
    let rest = c.remove-gone.new.self.items in
    let gone = c.remove-gone.result in
    let some : 0 < length entries = omega (arith, c.remove-gone.ensures.len, c.self.inside.entries.ok.0) in
    let is = taken_first entries rest gone some c.remove-gone.ensures.value c.remove-gone.ensures.by_index.2 in
    let entry : c.in-Some.entry.now ≡ gone = shown_first entries rest c.deref.result.now gone c.in-Some.entry.now is c.deref.ensures.value c.in-Some.ensures.value in
    sym (ap (λ (kept : Kept). kept.waiting) c.self.view_is)
    ∙ (ap (map waiting_as) is ∙ ap (λ unit. unit ∷ map waiting_as rest) (ap waiting_as (sym entry) ∙ sym c.in-Some-shown.ensures.some))
