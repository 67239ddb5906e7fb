-- Units offered one behind the other: what one more of them makes of the source and of the list of those dropped.
use Rattle.std.proofs.Common.{ℕ, ◌≡◌, ◌+◌, suc, Option, Some, None, List, [], ◌∷◌, ◌++◌, length, arith, ◌∙◌, ap, sym, refl, subst, append_assoc, length-append, Result, Ok, Err}
use Rattle.std.specs.Result.{OnErr}
use Rattle.std.proofs.lemmas.List.{append-nil}
use Rattle.bcast_base.specs.declared.unit.Unit.{Unit as AudioUnit}
use Rattle.source_machine.specs.Airs.{Airs, AreAirs}
use Rattle.source_machine.specs.State.Sources.{Source}
use Rattle.relay_role.specs.Relayed.{MeetAt, Second, stopped, streaming, after_offer, after_offers, drop_name, dropped_from, refusal_of, taken_unless, told}
use Rattle.relay_role.specs.State.Flushing.{DropsFirst, Keeps, KeepsSecond, Offered, OffersFirst, OffersOne, SecondIs}
use Rattle.relay_role.specs.declared.dropped.DropName.{DropName}
use Rattle.relay_role.specs.declared.dropped.DropName.TheVariants.{NotStreaming}
use Rattle.relay_role.specs.declared.dropped.DroppedUnit.{DroppedUnit}

after_more : (airs : Airs) (to : ℕ) (units : List AudioUnit) (unit : AudioUnit) (second : Second)
    → after_offers airs to (units ++ unit ∷ []) second ≡ after_offer airs to unit (after_offers airs to units second)
after_more airs to [] unit second = refl
after_more airs to (first ∷ units) unit second = after_more airs to units unit (after_offer airs to first second)

dropped_more : (airs : Airs) (to start : ℕ) (units : List AudioUnit) (unit : AudioUnit) (second : Second) (number : ℕ) → number ≡ start + length units
    → dropped_from airs to start (units ++ unit ∷ []) second
    ≡ dropped_from airs to start units second ++ told number (drop_name airs to unit (after_offers airs to units second))
dropped_more airs to start [] unit second number is =
    let at : start ≡ number = omega (arith, is) in
    append-nil (told start (drop_name airs to unit second)) ∙ ap (λ n. told n (drop_name airs to unit second)) at
dropped_more airs to start (first ∷ units) unit second number is =
    let next = after_offer airs to first second in
    ap (λ l. told start (drop_name airs to first second) ++ l) (dropped_more airs to (suc start) units unit next number (omega (arith, is)))
    ∙ sym (append_assoc (told start (drop_name airs to first second)) (dropped_from airs to (suc start) units next)
    (told number (drop_name airs to unit (after_offers airs to units next))))

keeps_more : (old source new : Source) → Keeps old source → Keeps source new → Keeps old new
keeps_more old source new first later = record {
  identity = later.identity ∙ first.identity;
  base = later.base ∙ first.base;
  cipher = later.cipher ∙ first.cipher;
  setup = later.setup ∙ first.setup;
  next = later.next ∙ first.next;
  failed = λ failed. let same = first.failed failed in later.failed (ap (λ (s : Source). s.failed) same ∙ failed) ∙ same;
}

-- what one more unit makes of the source, whatever it took before
abbrev One : ℕ → AudioUnit → Option DropName → Option Source → Option Source → Type 0
One to unit name source new =
    (airs : Airs) (second : Second) → SecondIs second source → MeetAt airs second
    → (drop_name airs to unit second ≡ name) × SecondIs (after_offer airs to unit second) new

one_streaming : (to : ℕ) (unit : AudioUnit) (name : Option DropName) (source new : Source) → OffersOne to unit name source new
    → One to unit name (Some source) (Some new)
one_streaming to unit name source new one airs stopped is meet = absurd is
one_streaming to unit name source new one airs (streaming setup calls) is meet =
    let own = one.stands calls (airs setup calls) is.1 (subst (λ s. AreAirs s calls (airs setup calls)) (sym is.0) meet) in
    let at = subst
    (λ s. (refusal_of s calls (airs setup calls) to unit ≡ name) × SecondIs (taken_unless name to unit (streaming s calls)) (Some new)) is.0 own in
    (at.0, subst (λ n. SecondIs (taken_unless n to unit (streaming setup calls)) (Some new)) (sym at.0) at.1)

one_stopped : (to : ℕ) (unit : AudioUnit) → One to unit (Some NotStreaming) None None
one_stopped to unit airs stopped is meet = (refl, tt)
one_stopped to unit airs (streaming setup calls) is meet = absurd is

offered_more : (to number : ℕ) (waited waits rest : List AudioUnit) (dropped more : List DroppedUnit) (old source new : Option Source)
    (unit : AudioUnit) (name : Option DropName) → (at : Offered to number waited waits dropped old source) → KeepsSecond old new → waits ≡ unit ∷ rest
    → more ≡ dropped ++ told number name → One to unit name source new → Offered to (number + 1) waited rest more old new
offered_more to number waited waits rest dropped more old source new unit name at keeps first tells one = record {
  offered = at.offered ++ unit ∷ [];
  waiting = at.waiting ∙ ap (λ l. at.offered ++ l) first ∙ sym (append_assoc at.offered (unit ∷ []) rest);
  count = omega (arith, length-append at.offered (unit ∷ []), at.count);
  flushes = record {
    offers = record {
      keeps = keeps;
      stands = λ airs second is meet. subst (λ s. SecondIs s new) (sym (after_more airs to at.offered unit second))
          (one airs (after_offers airs to at.offered second) (at.flushes.offers.stands airs second is meet) (meet at.offered)).1;
    };
    drops = λ airs second is meet.
        let own = one airs (after_offers airs to at.offered second) (at.flushes.offers.stands airs second is meet) (meet at.offered) in
        tells ∙ ap (λ l. l ++ told number name) (at.flushes.drops airs second is meet)
        ∙ ap (λ n. dropped_from airs to 0 at.offered second ++ told number n) (sym own.0)
        ∙ sym (dropped_more airs to 0 at.offered unit second number (omega (arith, at.count)));
  };
}

pub offered_next : (to number : ℕ) (waited waits rest : List AudioUnit) (dropped more : List DroppedUnit) (old source new : Source)
    → Offered to number waited waits dropped (Some old) (Some source) → OffersFirst to number waits rest dropped more source new
    → Offered to (number + 1) waited rest more (Some old) (Some new)
offered_next to number waited waits rest dropped more old source new at first =
    offered_more to number waited waits rest dropped more (Some old) (Some source) (Some new) first.unit first.name at
    (keeps_more old source new at.flushes.offers.keeps first.offers.keeps) first.waiting first.tells
    (one_streaming to first.unit first.name source new first.offers)

pub dropped_next : (to number : ℕ) (waited waits rest : List AudioUnit) (dropped more : List DroppedUnit)
    → Offered to number waited waits dropped None None → DropsFirst number waits rest dropped more → Offered to (number + 1) waited rest more None None
dropped_next to number waited waits rest dropped more at first =
    offered_more to number waited waits rest dropped more None None None first.unit (Some NotStreaming) at tt first.waiting first.tells (one_stopped to first.unit)

pub on_err : {T E P Q : Type 0} (r : Result T E) → OnErr r P → (P → Q) → OnErr r Q
on_err (Ok x) p more = tt
on_err (Err e) p more = more p
