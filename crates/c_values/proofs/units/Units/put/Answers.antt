use Rattle.std.proofs.Common.{◌≤◌, length, Result, Ok, Err, arith}
use Rattle.std.specs.Prelude.{IsErr, OnErr, OnOk}
use Rattle.c_values.specs.Kept.{greatest_unit}
use Rattle.c_values.specs.declared.units.Entry.{Entry}
use Rattle.c_values.proofs.Rounds.{all_short, lacks_more, longer, one_more, room_waits}
use Rattle.c_values.specs.Sound.{missed_of}
use Rattle.c_values.proofs.units.Units.put.Goals as goal

never_ok : {T E : Type 0} (result : Result T E) (P : Type 0) → IsErr result → OnOk result P
never_ok (Ok value) P err = absurd cc
never_ok (Err fault) P err = tt

on_err : {T E : Type 0} (result : Result T E) (P : Type 0) → P → OnErr result P
on_err (Ok value) P is = tt
on_err (Err fault) P is = is

pub invariant_of-self : goal.invariant_of-self
invariant_of-self c = record {
  short = c.self.invariant.short;
  sizes = c.self.invariant.sizes;
  rooms = c.in_err-octets.ensures.rooms;
  enough = omega (arith, c.self.invariant.enough, c.in_err-octets.ensures.err);
  entries_fit = c.self.invariant.entries_fit;
  spare_fits = omega (arith, c.self.invariant.spare_fits, c.in_err-octets.ensures.capacity);
  grew = c.self.invariant.grew;
  lacked = c.self.invariant.lacked;
  counted = c.self.invariant.counted;
}

pub returns-in_err-octets-clause-valid : goal.returns-in_err-octets-clause-valid
returns-in_err-octets-clause-valid c = never_ok c.from_residual.result _ c.from_residual.ensures.0

pub returns-in_err-octets-clause-lost : goal.returns-in_err-octets-clause-lost
returns-in_err-octets-clause-lost c = never_ok c.from_residual.result _ c.from_residual.ensures.0

pub returns-in_err-octets-clause-err : goal.returns-in_err-octets-clause-err
returns-in_err-octets-clause-err c = on_err c.from_residual.result _ c.self.view_is

pub returns-in-Err-clause-err : goal.returns-in-Err-clause-err
returns-in-Err-clause-err c = rw c.in-Err.ensures.items c.self.view_is

pub returns-in_err-octets-clause-served : goal.returns-in_err-octets-clause-served
returns-in_err-octets-clause-served c = rw (← c.self.view_is) (λ few short.
    let no = c.in_err-octets.ensures.served (room_waits c.self.inside.places c.self.inside.size _ c.self.inside.entries.items c.self.invariant.enough few) short in
    absurd (Prim.grind (arith, no)))

pub returns-then-octets-gt-GREATEST_UNIT-clause-served : goal.returns-then-octets-gt-GREATEST_UNIT-clause-served
returns-then-octets-gt-GREATEST_UNIT-clause-served c = rw (← c.self.view_is) (λ few short.
    absurd (Prim.omega (arith, c.if-octets-gt-GREATEST_UNIT.true, c.self.invariant.sizes, short)))

pub invariant_of-self-in-Ok : goal.invariant_of-self-in-Ok
invariant_of-self-in-Ok c =
    let few : length c.in_ok-octets.octets.items ≤ greatest_unit = rw c.in_ok-octets.ensures.octets (omega (arith, c.if-octets-gt-GREATEST_UNIT.false)) in
    let most = longer _ _ _ c.in-Ok.ensures.items in
    record {
      short = all_short (λ (entry : Entry). length entry.octets.items ≤ greatest_unit) _ _ _ c.in-Ok.ensures.items c.self.invariant.short few;
      sizes = c.self.invariant.sizes;
      rooms = c.in_ok-octets.ensures.rooms;
      enough = one_more _ _ _ _ _ _ _ c.in-Ok.ensures.items c.self.invariant.enough c.in_ok-octets.ensures.ok;
      entries_fit = omega (arith, c.self.invariant.entries_fit, c.push.ensures.capacity);
      spare_fits = omega (arith, c.self.invariant.spare_fits, c.in_ok-octets.ensures.capacity);
      grew = omega (arith, c.self.invariant.grew, most);
      lacked = lacks_more (missed_of c.self.inside.round.missed) _ (length c.self.inside.entries.items) _ most c.self.invariant.lacked;
      counted = c.self.invariant.counted;
    }
