-- The sums of the boxes grow by the number and the octets of the valid units that went to each.
use Rattle.scenario_history.proofs.Prelude.{ℕ, ◌≡◌, ◌<◌, ◌+◌, ◌==◌, ◌∙◌, Bool, true, false, List, [], ◌∷◌, length, map, ne_eqb, cases_eq, sum-map, sum_by-cons, none-some, Account, with_unit, Handed, valid, lost, Step, sinks_made, sinks_made_by, SinkUnit, account_at, no_account, with_handed, accounts_after, onto_valid, valid_for, box_of, box_after}
use Rattle.std.proofs.Common.{sum, Option, None, Some, arith, refl, sym, ap, inl, inr, eq-eqb, if◌then◌else◌, get_or-set_other, length-set}
use Rattle.std.proofs.lemmas.Grind.{get_or-set_at}
use Rattle.scenario_text.specs.declared.step.Step.TheVariants as steps

-- no box comes or goes
pub one_stays : (accounts : List Account) (box : ℕ) (unit : Handed) → length (with_handed accounts box unit) ≡ length accounts
one_stays accounts box (valid bis time octets) = length-set accounts box (with_unit octets (account_at accounts box))
one_stays accounts box (lost bis time) = refl

pub boxes_stay : (accounts : List Account) (units : List SinkUnit) → length (accounts_after accounts units) ≡ length accounts
boxes_stay accounts [] = refl
boxes_stay accounts (unit ∷ units) = boxes_stay (with_handed accounts unit.box unit.unit) units ∙ one_stays accounts unit.box unit.unit

-- one unit: the sums of a box with those of the units to come
one_counted : (accounts : List Account) (to box : ℕ) (unit : Handed) (rest : List (List ℕ)) → box < length accounts
    → (account_at (with_handed accounts to unit) box).units + length rest ≡ (account_at accounts box).units + length (onto_valid (to == box) unit rest)
one_counted accounts to box (lost bis time) rest within = refl
one_counted accounts to box (valid bis time octets) rest within = elim (cases_eq box to) [
  | inl same ↦
      let new : Account = with_unit octets (account_at accounts to) in
      let is : account_at (with_handed accounts to (valid bis time octets)) box ≡ new = get_or-set_at accounts to box new no_account same (omega (arith, same, within)) in
      let count : (account_at accounts to).units ≡ (account_at accounts box).units = ap (λ b. (account_at accounts b).units) (sym same) in
      rw (eq-eqb to box (sym same), is) (omega (arith, count))
  | inr other ↦
      let is : account_at (with_handed accounts to (valid bis time octets)) box ≡ account_at accounts box =
      get_or-set_other accounts to box (with_unit octets (account_at accounts to)) no_account other in
      rw (ne_eqb to box (λ e. other (sym e)), is) refl
]

one_more : (octets : List ℕ) (rest : List (List ℕ)) → sum (map length (octets ∷ rest)) ≡ length octets + sum (map length rest)
one_more octets rest = sum-map length (octets ∷ rest) ∙ sum_by-cons length octets rest ∙ ap (λ k. length octets + k) (sym (sum-map length rest))

one_summed : (accounts : List Account) (to box : ℕ) (unit : Handed) (rest : List (List ℕ)) → box < length accounts
    → (account_at (with_handed accounts to unit) box).octets + sum (map length rest) ≡ (account_at accounts box).octets + sum (map length (onto_valid (to == box) unit rest))
one_summed accounts to box (lost bis time) rest within = refl
one_summed accounts to box (valid bis time octets) rest within = elim (cases_eq box to) [
  | inl same ↦
      let new : Account = with_unit octets (account_at accounts to) in
      let is : account_at (with_handed accounts to (valid bis time octets)) box ≡ new = get_or-set_at accounts to box new no_account same (omega (arith, same, within)) in
      let count : (account_at accounts to).octets ≡ (account_at accounts box).octets = ap (λ b. (account_at accounts b).octets) (sym same) in
      rw (eq-eqb to box (sym same), is) (omega (arith, count, one_more octets rest))
  | inr other ↦
      let is : account_at (with_handed accounts to (valid bis time octets)) box ≡ account_at accounts box =
      get_or-set_other accounts to box (with_unit octets (account_at accounts to)) no_account other in
      rw (ne_eqb to box (λ e. other (sym e)), is) refl
]

-- the count of a box grows by the number of the valid units that went to it
pub units_add_up : (accounts : List Account) (units : List SinkUnit) (box : ℕ) → box < length accounts
    → (account_at (accounts_after accounts units) box).units ≡ (account_at accounts box).units + length (valid_for box units)
units_add_up accounts [] box within = omega arith
units_add_up accounts (unit ∷ units) box within =
    let next : List Account = with_handed accounts unit.box unit.unit in
    let long : box < length next = omega (arith, within, one_stays accounts unit.box unit.unit) in
    units_add_up next units box long ∙ one_counted accounts unit.box box unit.unit (valid_for box units) within

-- its octets grow by theirs
pub octets_add_up : (accounts : List Account) (units : List SinkUnit) (box : ℕ) → box < length accounts
    → (account_at (accounts_after accounts units) box).octets ≡ (account_at accounts box).octets + sum (map length (valid_for box units))
octets_add_up accounts [] box within = omega arith
octets_add_up accounts (unit ∷ units) box within =
    let next : List Account = with_handed accounts unit.box unit.unit in
    let long : box < length next = omega (arith, within, one_stays accounts unit.box unit.unit) in
    octets_add_up next units box long ∙ one_summed accounts unit.box box unit.unit (valid_for box units) within

same_some : (a b : ℕ) → (let some : ℕ → Option ℕ = λ n. Some n in some a ≡ some b) → a ≡ b
same_some a b e = cc

made_or_held : (is_its : Bool) (made box : ℕ) (held : Option ℕ) → ((b : ℕ) → held ≡ Some b → b < made)
    → (if is_its then Some made else held) ≡ Some box → box < made + 1
made_or_held true made box held before e = omega (arith, same_some made box e)
made_or_held false made box held before e = omega (arith, before box e)

gone_or_held : (is_its : Bool) (made box : ℕ) (held : Option ℕ) → ((b : ℕ) → held ≡ Some b → b < made)
    → (if is_its then None else held) ≡ Some box → box < made
gone_or_held true made box held before e = absurd (none-some box e)
gone_or_held false made box held before e = before box e

made_by : (n : ℕ) (step : Step) (earlier : List Step) (held : Option ℕ) (box : ℕ) → ((b : ℕ) → held ≡ Some b → b < sinks_made earlier)
    → box_after n step earlier held ≡ Some box → box < sinks_made_by step (sinks_made earlier)
made_by n (steps.Sink sink streams slots mtu) earlier held box before e = made_or_held (sink == n) (sinks_made earlier) box held before e
made_by n (steps.Drop sink) earlier held box before e = gone_or_held (sink == n) (sinks_made earlier) box held before e
made_by n _ earlier held box before e = before box e

-- a sink has one of the boxes that were given out
pub box_was_made : (n : ℕ) (steps : List Step) (box : ℕ) → box_of n steps ≡ Some box → box < sinks_made steps
box_was_made n [] box e = absurd (none-some box e)
box_was_made n (step ∷ earlier) box e = made_by n step earlier (box_of n earlier) box (box_was_made n earlier) e
