-- `of` makes the empty struct, and picks what its clause names. Assumes `Logic`.
use Rattle.std.proofs.Common.{List, [], ◌∷◌, ◌++◌, refl}
use mir.Val.{Val, vptr, vstruct, vnil}
use base.Logic.{SProp}
use prog.Wp.{WpFn}
use contract.Running.{tables}
use types.Kit.{‵, raw, ◌⊛◌, prop, ◌$◌, ◌∵◌, !, qed, move, keep, drop, split, fsplit, fjoin, fpack, feq_i, feq_l, regoal, suffices, done}
use types.Part.{agg}
use types.Run.{enter, returns, no_more}
use types.ByLocal.{alloc_all, pass_all, free_all, look_at, sets}
use denote.Exit.{yes}
use denote.Builtin.{RefOf, SliceRefOf, u8}
use denote.RattleType.{owns, Valss}
use denote.Signature.{plain, types_at}
use denote.Steps.{nothing}
use denote.Struct.Struct.{within}
use denote.Triple.Entry.{alive}
use denote.Triple.Walked.{says, Stays, stay_dropped, walk_of, ends_at, Goes-dropped}
use Rattle.std.proofs.raw_atomic.Walks.{proved_at}
use Rattle.c_values.specs.contracts.told.Told.{the_row}
use Rattle.c_values.specs.contracts.told.Told.of.{ended, clauses}
use Rattle.c_values.specs.contracts.told.Told.of.Key.{name as #self}
use Rattle.c_values.proofs.told.Told.of.Statement.{statement}
use Rattle.c_values.proofs.told.Told.of.Code as code

pub of_spec : {M : Type 1} → statement M
of_spec 𝓤 𝓛 𝓜 𝓡 wired =
    let contract = clauses 𝓛 𝓜.mem 𝓡.returns in
    let run = tables 𝓤 𝓛.H 𝓜 𝓡 𝓡.env in
    let stays : Stays ended.signature.params ended.kept = (stay_dropped _ yes, tt) in
    let empty : Val = vstruct vnil in
    proved_at 𝓛 ended stays contract 𝓜 𝓡
    (Goes-dropped 𝓛 ended.signature.lifetimes (RefOf (0 ∷ []) tt (SliceRefOf (1 ∷ []) tt (plain (λ _. u8)) (λ _. tt)) (λ _. tt)) yes (λ lifetimes x f. refl), tt) #self code.function (code.unfolded 𝓤 𝓛.H 𝓜 𝓡 wired) (λ at are.
    let after : Val → SProp 𝓤 = (walk_of 𝓛 ended stays contract).post at in
    let place : Val = vptr at.0.3.0.ref_ptr.0 at.0.3.0.ref_ptr.1 in
    let told : the_row.Denot = record { octets = at.0.3.0.now.now } in
    qed 𝓛 ((raw (alive 𝓛 ended.signature at.0.0 at.0.1) ⊛ ‵ (owns (types_at ended.signature.params at.0.0) at.0.3 at.0.4)) ∷ raw ((contract at.0.0 at.0.3).requires at.1) ∷ []) ∵
    keep ! (0 ∷ []) $ split ! $ move ! (1 ∷ []) $ fsplit ! $ fsplit ! $ feq_l ! (λ is. drop ! $ drop ! $
    regoal ! (λ (words : List Val). prop (WpFn 𝓤 𝓛.H run.C run.Λ code.function (words ++ []) after)) is refl $
    enter ! run.C run.Λ code.function (place ∷ []) after $ alloc_all ! (λ locals. pass_all ! refl ((tt, tt), tt) $
    sets ! (agg ! (no_more !)) refl (tt, tt) $
    nothing ! $ nothing ! $ feq_i ! (List Val) (empty ∷ []) (empty ∷ []) refl $ fjoin ! $
    fpack ! (Valss []) (within (record { name = []; args = []; types = []; fields = [] }) tt (empty ∷ [])) tt $ fjoin ! $
    returns ! (look_at ! 0 refl) $ free_all ! refl $
    suffices ! _ (ends_at 𝓛 ended stays contract at empty told (tt, tt) (tt, tt)) $ says ! refl $
    nothing ! $ nothing ! $ fjoin ! $ move ! (2 ∷ 0 ∷ 1 ∷ []) $ done !)))
