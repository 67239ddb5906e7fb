-- The airs of the streams of a source, by the framing of its group.
use Rattle.source_machine.proofs.Prelude.{ℕ, ◌≡◌, ◌<◌, ◌≤◌, ◌+◌, ◌-◌, Some, List, [], ◌∷◌, ◌++◌, length, map, arith, ◌∙◌, ap, sym, refl, inl, inr, cases_eq, eq-eqb, ne_eqb, length-drop, get_or-map-range_with_len, length-map-range_with_len, slice_get-get_or, AllZip, range_with_len, slice_get, BigInfo, horizon_of, Air, begun_in, event_at, unframed_air, accepted, begun, IsFramedAir, framed_air, framed_air_is, one_air, AreAirs, IsAir, air_after, air_of, airs_of, begun_of, waiting_of, Setup, Call, events, framed_calls, given, stream_calls, IsChecked, SenderStands, info_of, waiting_in, Sender, Framed, Unframed}
use Rattle.isoal_unframed.specs.Calls.{Call as PlainCall}
use Rattle.isoal_framed.specs.Calls.{Call as TimedCall}
use Rattle.source_machine.proofs.FramedCalls.{timed_ahead, timed_count, timed_keeps, timed_waiting}
use Rattle.source_machine.proofs.Histories.{accepted_are, ahead_laid, air_length, begun_is, call_keeps}

pub plain_air : (info : BigInfo) (plain : List PlainCall) (timed : List TimedCall) → info.framing ≡ 0 → air_after info plain timed ≡ unframed_air info plain
plain_air info plain timed unframed = rw (eq-eqb info.framing 0 unframed) refl

pub timed_air : (info : BigInfo) (plain : List PlainCall) (timed : List TimedCall) → info.framing ≡ 1 → air_after info plain timed ≡ framed_air info timed
timed_air info plain timed framed = rw (ne_eqb info.framing 0 (λ none. omega (arith, none, framed))) refl

pub info_is : (info : BigInfo) (plain : List PlainCall) (timed : List TimedCall) (sender : Sender) → SenderStands info plain timed sender → info_of sender ≡ info
info_is info plain timed sender stands = grind arith

-- with an event, the H events behind it are laid
pub laid_count : (setup : Setup) (calls : List Call) (bis : ℕ) → 1 ≤ events calls → length (air_of setup calls bis) ≡ events calls + horizon_of setup.info
laid_count setup calls bis some = grind (arith, cases_eq, eq-eqb, air_length, stream_calls, ahead_laid, ne_eqb, timed_ahead)

-- what was laid stays
one_keeps : (setup : Setup) (bis e : ℕ) (call : Call) (calls : List Call) → e < length (air_of setup calls bis)
    → (e < length (air_of setup (call ∷ calls) bis)) × (event_at (air_of setup (call ∷ calls) bis) e ≡ event_at (air_of setup calls bis) e)
one_keeps setup bis e call calls below = elim (cases_eq setup.info.framing 0) [
  | inl unframed ↦ rw (eq-eqb setup.info.framing 0 unframed) (call_keeps setup.info bis e call calls (rw (eq-eqb setup.info.framing 0 unframed) at below))
  | inr framed ↦ rw (ne_eqb setup.info.framing 0 framed) (timed_keeps setup bis e call calls (rw (ne_eqb setup.info.framing 0 framed) at below))
]

pub calls_keep : (setup : Setup) (bis e : ℕ) (later calls : List Call) → e < length (air_of setup calls bis)
    → (e < length (air_of setup (later ++ calls) bis)) × (event_at (air_of setup (later ++ calls) bis) e ≡ event_at (air_of setup calls bis) e)
calls_keep setup bis e [] calls below = (below, refl)
calls_keep setup bis e (call ∷ later) calls below =
    let before = calls_keep setup bis e later calls below in
    let here = one_keeps setup bis e call (later ++ calls) before.0 in
    (here.0, here.1 ∙ before.1)

-- the airs of a group that was checked meet the relation of its framing
air_is : (setup : Setup) (calls : List Call) (bis : ℕ) → IsChecked setup.info → IsAir setup calls bis (air_of setup calls bis)
air_is setup calls bis checked = record {
  unframed = λ unframed. plain_air setup.info (stream_calls setup.info bis calls) (framed_calls setup bis calls) unframed;
  framed = λ framed. rw (timed_air setup.info (stream_calls setup.info bis calls) (framed_calls setup bis calls) framed)
      (framed_air_is setup.info (framed_calls setup bis calls) checked.bounds.bn (checked.bounds.framed_pdu framed));
}

-- and no others do
air_only : (setup : Setup) (calls : List Call) (bis : ℕ) (air : Air) → IsChecked setup.info → IsAir setup calls bis air → air ≡ air_of setup calls bis
air_only setup calls bis air checked is = elim (cases_eq setup.info.framing 0) [
  | inl unframed ↦ is.unframed unframed ∙ sym (plain_air setup.info (stream_calls setup.info bis calls) (framed_calls setup bis calls) unframed)
  | inr other ↦
      let framed : setup.info.framing ≡ 1 = omega (arith, other, checked.framing) in
      let timed = framed_calls setup bis calls in
      let own = is.framed framed in
      let there = framed_air_is setup.info timed checked.bounds.bn (checked.bounds.framed_pdu framed) in
      (one_air setup.info timed own.0 there.0 air (framed_air setup.info timed) own.1 there.1).1
      ∙ sym (timed_air setup.info (stream_calls setup.info bis calls) timed framed)
]

pub framed_one : (setup : Setup) (calls : List Call) (bis : ℕ) → IsChecked setup.info → setup.info.framing ≡ 1
    → IsFramedAir setup.info (framed_calls setup bis calls) (air_of setup calls bis)
framed_one setup calls bis checked framed = (air_is setup calls bis checked).framed framed

each_is : (setup : Setup) (calls : List Call) (indices : List ℕ) → IsChecked setup.info → AllZip (IsAir setup calls) indices (map (air_of setup calls) indices)
each_is setup calls [] checked = tt
each_is setup calls (bis ∷ indices) checked = (air_is setup calls bis checked, each_is setup calls indices checked)

pub are_airs : (setup : Setup) (calls : List Call) → IsChecked setup.info → AreAirs setup calls (airs_of setup calls)
are_airs setup calls checked = each_is setup calls (range_with_len 1 setup.info.num_bis) checked

each_only : (setup : Setup) (calls : List Call) (indices : List ℕ) (airs : List Air) → IsChecked setup.info → AllZip (IsAir setup calls) indices airs
    → airs ≡ map (air_of setup calls) indices
each_only setup calls [] [] checked are = refl
each_only setup calls [] (air ∷ airs) checked are = absurd are
each_only setup calls (bis ∷ indices) [] checked are = absurd are
each_only setup calls (bis ∷ indices) (air ∷ airs) checked are =
    ap (λ x. x ∷ airs) (air_only setup calls bis air checked are.0)
    ∙ ap (λ xs. air_of setup calls bis ∷ xs) (each_only setup calls indices airs checked are.1)

pub airs_only : (setup : Setup) (calls : List Call) (airs : List Air) → IsChecked setup.info → AreAirs setup calls airs → airs ≡ airs_of setup calls
airs_only setup calls airs checked are = each_only setup calls (range_with_len 1 setup.info.num_bis) airs checked are

pub air_at : (setup : Setup) (calls : List Call) (bis : ℕ) → 1 ≤ bis → bis ≤ setup.info.num_bis
    → slice_get (airs_of setup calls) (bis - 1) ≡ Some (air_of setup calls bis)
air_at setup calls bis least within =
    let long : length (airs_of setup calls) ≡ setup.info.num_bis = length-map-range_with_len (air_of setup calls) 1 setup.info.num_bis in
    slice_get-get_or (airs_of setup calls) (bis - 1) [] (omega arith)
    ∙ ap (λ air. Some air) (get_or-map-range_with_len (air_of setup calls) 1 setup.info.num_bis (bis - 1) bis [] (omega arith) (omega arith))

-- as many units wait as were accepted and have not begun
waits : (setup : Setup) (calls : List Call) (bis : ℕ) (sender : Sender)
    → SenderStands setup.info (stream_calls setup.info bis calls) (framed_calls setup bis calls) sender
    → length (given bis calls) - begun_in (air_of setup calls bis) ≡ waiting_in sender
waits setup calls bis (Unframed out) stands = grind (arith, stream_calls, length, given, begun_in, plain_air, framed_calls, begun_is, begun, accepted_are, length-drop, accepted)
waits setup calls bis (Framed out) stands =
    let timed = framed_calls setup bis calls in
    ap (λ air. length (given bis calls) - begun_in air) (timed_air setup.info (stream_calls setup.info bis calls) timed stands.0)
    ∙ ap (λ n. n - begun_in (framed_air setup.info timed)) (sym (timed_count setup bis calls))
    ∙ timed_waiting setup.info timed (framed_air setup.info timed) out stands.1

pub waiting_is : (setup : Setup) (calls : List Call) (bis : ℕ) (sender : Sender) → 1 ≤ bis → bis ≤ setup.info.num_bis
    → SenderStands setup.info (stream_calls setup.info bis calls) (framed_calls setup bis calls) sender
    → waiting_of calls (airs_of setup calls) bis ≡ waiting_in sender
waiting_is setup calls bis sender least within stands = grind (arith, length, given, begun_of, air_at, waits)
