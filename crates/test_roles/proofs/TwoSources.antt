-- A source of a field that was started: its air is of its group, and it is heard.
use Rattle.std.proofs.Common.{◌≡◌, true, Option, None, Some, Result, Ok, Err, ap, sym, subst, is_some}
use Rattle.std.specs.Result.{OnOk}
use Rattle.source_machine.specs.Calls.{Setup}
use Rattle.source_machine.specs.State.Sources.{Source}
use Rattle.multi_source.specs.State.Airs.{IsOfGroup}
use Rattle.multi_source.specs.State.Fields.{HasOwnAir, IsPlain}
use Rattle.multi_source.specs.declared.field.Begun.{Begun}

pub on_ok : {T E P Q : Type 0} (r : Result T E) → OnOk r P → (P → Q) → OnOk r Q
on_ok (Ok x) p more = more p
on_ok (Err e) p more = tt

pub has_own_air : (setup : Setup) (place : Option Source) (since : Option Begun) (source : Source) (begun : Begun) → place ≡ Some source
    → since ≡ Some begun → source.setup ≡ setup → IsOfGroup setup begun.air → HasOwnAir place since
has_own_air setup place since source begun source_is begun_is same group =
    rw (source_is, begun_is) (subst (λ s. IsOfGroup s begun.air) (sym same) group)

pub is_plain : (place : Option Source) (source : Source) → place ≡ Some source → source.cipher ≡ None → IsPlain place
is_plain place source source_is none = rw source_is none

pub stands : {A : Type 0} (place : Option A) (x : A) → place ≡ Some x → is_some place ≡ true
stands place x is = ap is_some is
