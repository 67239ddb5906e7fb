-- What holds where a call answered, by what the call says of its answer.
use Rattle.std.proofs.Common.{Result, Ok, Err}
use Rattle.std.specs.Result.{IfErr, IfOk, OnOk}

pub if_ok : {T E : Type 0} {P Q : T → Type 0} (r : Result T E) → IfOk r P → ((x : T) → P x → Q x) → IfOk r Q
if_ok (Ok x) p more = more x p
if_ok (Err e) p more = tt

pub if_err : {T E : Type 0} {P Q : E → Type 0} (r : Result T E) → IfErr r P → ((e : E) → P e → Q e) → IfErr r Q
if_err (Ok x) p more = tt
if_err (Err e) p more = more e p

pub on_ok : {T E P R : Type 0} {Q : T → Type 0} (r : Result T E) → OnOk r P → IfOk r Q → ((x : T) → P → Q x → R) → OnOk r R
on_ok (Ok x) p q more = more x p q
on_ok (Err e) p q more = tt
