-- A sender that lays an event, by its framing.
use Rattle.source_machine.proofs.Prelude.{ℕ, ◌≡◌, ◌∷◌, List, Result, Ok, Err, ◌∙◌, ap, sym, subst, IfOk, OnOk, BigInfo, Air, Entry, unframed_air, begun, lay, framed_air, framed_air_is, one_air, Framed, Unframed, arith}
use Rattle.isoal_unframed.specs.Calls.{Call as PlainCall}
use Rattle.isoal_unframed.specs.State.Sender.{Sender as PlainSender, StandsFor as PlainStands}
use Rattle.isoal_framed.specs.Calls.{Call as TimedCall, lay as lay_at}
use Rattle.isoal_framed.specs.State.Senders.{Sender as TimedSender, StandsFor as TimedStands}
use Rattle.source_machine.proofs.Framings.{plain_air, timed_air}
use Rattle.source_machine.proofs.LaidEvents.{LaysEvent}

pub plain_lays : {E : Type 0} (anchor : ℕ) (old new : PlainSender) (pdus : List (List ℕ)) (r : Result (List ℕ) E)
    → OnOk r ((info : BigInfo) (calls : List PlainCall) → PlainStands info calls old → PlainStands info (lay ∷ calls) new)
    → IfOk r (λ stale. (info : BigInfo) (calls : List PlainCall) → PlainStands info calls old
    → unframed_air info (lay ∷ calls) ≡ record { event = record { pdus = pdus; stale = stale }; begun = begun info (lay ∷ calls) } ∷ unframed_air info calls)
    → IfOk r (λ stale. LaysEvent anchor (Unframed old) (Unframed new) (record { pdus = pdus; stale = stale }))
plain_lays anchor old new pdus (Ok stale) stands laid = λ info plain timed checked at. (
  (at.0, stands info plain at.1),
  begun info (lay ∷ plain),
  grind (arith, plain_air, lay, begun),
)
plain_lays anchor old new pdus (Err e) stands laid = tt

pub timed_lays : {E : Type 0} (anchor : ℕ) (old new : TimedSender) (pdus : List (List ℕ)) (r : Result (List ℕ) E)
    → ((info : BigInfo) (calls : List TimedCall) (air : Air) → TimedStands info calls air old
    → IfOk r (λ stale. (begun : ℕ) × TimedStands info (lay_at anchor ∷ calls) (record { event = record { pdus = pdus; stale = stale }; begun = begun } ∷ air) new))
    → IfOk r (λ stale. LaysEvent anchor (Framed old) (Framed new) (record { pdus = pdus; stale = stale }))
timed_lays anchor old new pdus (Ok stale) laid = λ info plain timed checked at.
    let after = laid info timed (framed_air info timed) at.1 in
    let entry : Entry = record { event = record { pdus = pdus; stale = stale }; begun = after.0 } in
    let there = framed_air_is info (lay_at anchor ∷ timed) checked.bounds.bn (checked.bounds.framed_pdu at.0) in
    let same : entry ∷ framed_air info timed ≡ framed_air info (lay_at anchor ∷ timed) =
    (one_air info (lay_at anchor ∷ timed) after.1.acts there.0 (entry ∷ framed_air info timed) (framed_air info (lay_at anchor ∷ timed)) after.1.air_is there.1).1 in (
      (at.0, subst (λ air. TimedStands info (lay_at anchor ∷ timed) air new) same after.1),
      after.0,
      timed_air info (lay ∷ plain) (lay_at anchor ∷ timed) at.0 ∙ sym same ∙ ap (λ air. entry ∷ air) (sym (timed_air info plain timed at.0)),
    )
timed_lays anchor old new pdus (Err e) laid = tt
