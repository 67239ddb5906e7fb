-- Notices that go to the links one by one.
use Rattle.std.proofs.Common.{◌≡◌, List, [], ◌∷◌, ◌++◌, map, drop, slice_get, Option, Some, None, refl, sym, ap, ◌∙◌, append_assoc}
use Rattle.std.specs.Prelude.{option_map}
use Rattle.std.proofs.lemmas.List.{append-nil}
use Rattle.delegator_history.specs.declared.notice.Notice.{Notice}
use Rattle.delegator_history.specs.Notices.{handed_out}
use Rattle.delegator_control.specs.State.Machines.{Machine}
use Rattle.multi_assist.specs.State.Gathering.{Gathered, Gathers, StopsShort}
use Rattle.multi_assist.specs.State.Places.{Linked, with_notice, with_notices}

one_more : (notices : List Notice) (notice : Notice) (link : Option Linked)
    → with_notice notice (with_notices notices link) ≡ with_notices (notices ++ notice ∷ []) link
one_more notices notice None = refl
one_more notices notice (Some link) =
    ap (λ (waiting : List Notice). Some (record link { waiting = waiting })) (append_assoc link.waiting notices (notice ∷ []))

map_twice : {A : Type 0} (f g h : A → A) (xs : List A) → ((x : A) → g (f x) ≡ h x) → map g (map f xs) ≡ map h xs
map_twice f g h [] same = refl
map_twice f g h (x ∷ xs) same = (λ i. same x i ∷ map_twice f g h xs same i)

map_behind : {A B : Type 0} (f : A → B) (xs : List A) (x : A) → map f (xs ++ x ∷ []) ≡ map f xs ++ f x ∷ []
map_behind f [] x = refl
map_behind f (y ∷ xs) x = ap (λ ys. f y ∷ ys) (map_behind f xs x)

first_and_rest : {A : Type 0} (xs : List A) (x : A) → slice_get xs 0 ≡ Some x → xs ≡ x ∷ drop 1 xs
first_and_rest [] x is = absurd cc
first_and_rest (y ∷ xs) x is = let same : y ≡ x = cc in ap (λ z. z ∷ xs) same

none_waits : {A : Type 0} (xs : List A) → slice_get xs 0 ≡ None → xs ≡ []
none_waits [] is = refl
none_waits (x ∷ xs) is = absurd cc

-- the sink handed a notice out
dropped_of : (before now next : Machine) → now ≡ record before { waiting = now.waiting } → next ≡ record now { waiting = drop 1 now.waiting }
    → next ≡ record before { waiting = next.waiting }
dropped_of before now next rest step =
    step ∙ ap (λ (m : Machine). record m { waiting = drop 1 now.waiting }) rest ∙ ap (λ (waiting : List Notice). record before { waiting = waiting }) (sym (ap (λ (m : Machine). m.waiting) step))

-- it went to the links
pub given_on : (before now next : Machine) (old new then : List (Option Linked)) (notice : Notice) → Gathered before now old new
    → option_map (handed_out now.mtu) (slice_get now.waiting 0) ≡ Some notice → next ≡ record now { waiting = drop 1 now.waiting }
    → then ≡ map (with_notice notice) new → Gathered before next old then
given_on before now next old new then notice so handed step put = by (slice_get now.waiting 0) refl handed
  where
    by : (first : Option Notice) → slice_get now.waiting 0 ≡ first → option_map (handed_out now.mtu) first ≡ Some notice → Gathered before next old then
    by None is e = absurd cc
    by (Some first) is e =
        let mtu : now.mtu ≡ before.mtu = ap (λ (m : Machine). m.mtu) so.given.rest in
        let same : handed_out now.mtu first ≡ notice = cc in
        let notice_is : notice ≡ handed_out before.mtu first = sym same ∙ ap (λ mtu. handed_out mtu first) mtu in
        let left : next.waiting ≡ drop 1 now.waiting = ap (λ (m : Machine). m.waiting) step in
        let notified : List Notice = map (handed_out before.mtu) so.notified in
        record {
          notified = so.notified ++ first ∷ [];
          all = so.all ∙ ap (λ xs. so.notified ++ xs) (first_and_rest now.waiting first is ∙ ap (λ xs. first ∷ xs) (sym left))
              ∙ sym (append_assoc so.notified (first ∷ []) next.waiting);
          given = record {
            rest = dropped_of before now next so.given.rest step;
            links = put ∙ ap (map (with_notice notice)) so.given.links
                ∙ map_twice (with_notices notified) (with_notice notice) (with_notices (notified ++ notice ∷ [])) old (one_more notified notice)
                ∙ ap (λ n. map (with_notices (notified ++ n ∷ [])) old) notice_is
                ∙ ap (λ notices. map (with_notices notices) old) (sym (map_behind (handed_out before.mtu) so.notified first));
          };
        }

-- it did not
pub stops : (before now next : Machine) (old new : List (Option Linked)) (notice : Notice) → Gathered before now old new
    → option_map (handed_out now.mtu) (slice_get now.waiting 0) ≡ Some notice → next ≡ record now { waiting = drop 1 now.waiting } → StopsShort before next old new
stops before now next old new notice so handed step = by (slice_get now.waiting 0) refl handed
  where
    by : (first : Option Notice) → slice_get now.waiting 0 ≡ first → option_map (handed_out now.mtu) first ≡ Some notice → StopsShort before next old new
    by None is e = absurd cc
    by (Some first) is e =
        let left : next.waiting ≡ drop 1 now.waiting = ap (λ (m : Machine). m.waiting) step in record {
          notified = so.notified;
          last = first;
          all = so.all ∙ ap (λ xs. so.notified ++ xs) (first_and_rest now.waiting first is ∙ ap (λ xs. first ∷ xs) (sym left));
          given = record { rest = dropped_of before now next so.given.rest step; links = so.given.links };
        }

-- none was left
pub ends : (before now next : Machine) (old new : List (Option Linked)) → Gathered before now old new
    → option_map (handed_out now.mtu) (slice_get now.waiting 0) ≡ None → next ≡ record now { waiting = drop 1 now.waiting } → Gathers before next old new
ends before now next old new so handed step = by (slice_get now.waiting 0) refl handed
  where
    by : (first : Option Notice) → slice_get now.waiting 0 ≡ first → option_map (handed_out now.mtu) first ≡ None → Gathers before next old new
    by (Some first) is e = absurd cc
    by None is e =
        let empty : now.waiting ≡ [] = none_waits now.waiting is in
        let all : before.waiting ≡ so.notified = so.all ∙ ap (λ xs. so.notified ++ xs) empty ∙ append-nil so.notified in record {
          given = record {
            rest = dropped_of before now next so.given.rest step;
            links = so.given.links ∙ ap (λ notified. map (with_notices (map (handed_out before.mtu) notified)) old) (sym all);
          };
          none = ap (λ (m : Machine). m.waiting) step ∙ ap (drop 1) empty;
        }
