use Rattle.group_sink.proofs.Prelude.{ℕ, ◌≡◌, ◌≤◌, ◌<◌, ◌-◌, true, false, length, set, ◌∙◌, ap, sym, refl, arith, fresh, is_in, stay_on, Receiver, bit_at}
use Rattle.group_sink.proofs.Places.{all_places, all_streams, free_is, places_kept, places_more, streams_kept, streams_more, taken_is}
use Rattle.group_sink.proofs.group_receivers.GroupReceivers.new.Goals as goal

pub indices-preserved-then-not-has : goal.indices-preserved-then-not-has
indices-preserved-then-not-has c =
    let big_sync = c.args.big_sync.now in
    let f : ℕ → Receiver = λ bis. fresh (stay_on big_sync bis) in
    let here : c.in-Some.bis ≡ c.indices.index = omega (arith, c.in-Some.ensures) in
    let inside = c.big_sync.inside.which in
    let which : inside ≡ big_sync.which = ap (λ j. j.which) c.big_sync.view_is in
    let free : is_in big_sync.which c.indices.index ≡ false = ap (λ w. is_in w c.indices.index) (sym which) ∙ free_is inside c.in-Some.bis c.indices.index here (λ has. absurd (let no : false ≡ true = c.if-not-has.ensures.1 has in cc)) in
    record {
      few = omega (arith, c.indices.invariant.few);
      places = places_kept big_sync.which c.indices.index c.indices.places c.indices.auto.index (omega (arith, c.indices-test.true)) free c.indices.invariant.places;
      fresh = streams_kept f big_sync.which c.indices.index c.indices.streams.items c.indices.auto.index c.indices.invariant.fresh free;
    }

pub indices-preserved : goal.indices-preserved
indices-preserved c =
    let big_sync = c.args.big_sync.now in
    let f : ℕ → Receiver = λ bis. fresh (stay_on big_sync bis) in
    let here : c.in-Some.bis ≡ c.indices.index = omega (arith, c.in-Some.ensures) in
    let inside = c.big_sync.inside.which in
    let which : inside ≡ big_sync.which = ap (λ j. j.which) c.big_sync.view_is in
    let taken : is_in big_sync.which c.indices.index ≡ true = ap (λ w. is_in w c.indices.index) (sym which) ∙ taken_is inside c.in-Some.bis c.indices.index here (c.if-not-has.ensures.0 refl) in
    let at : c.from.result ≡ c.indices.index - 1 = omega (arith, c.from.ensures) in
    let count : c.len.result ≡ length c.indices.streams.items = c.len.ensures ∙ c.indices.streams.ok.0 in
    record {
      few = omega (arith, c.indices.invariant.few, c.in_ok-push.ensures.len);
      places = places_more f big_sync.which c.indices.index c.indices.streams.items c.indices.places _ c.indices.auto.index (omega (arith, c.indices-test.true)) c.indices.invariant.fresh taken c.indices.invariant.places (λ i. set c.indices.places (at i) (count i));
      fresh = streams_more f big_sync.which c.indices.index c.indices.streams.items c.push.new.self.items c.in_ok-new.field-0 c.indices.auto.index c.indices.invariant.fresh taken (c.in_ok-new.ensures ∙ ap f here) c.in_ok-push.ensures.items;
    }

pub returns : goal.returns
returns c =
    let big_sync = c.args.big_sync.now in
    let inside = c.big_sync.inside.which in
    let which : inside ≡ big_sync.which = ap (λ j. j.which) c.big_sync.view_is in
    let none : (i : ℕ) → c.indices.index - 1 ≤ i → i < 31 → bit_at big_sync.which i ≡ 0 = λ i above below. ap (λ w. bit_at w i) (sym which) ∙ c.last_of-end.ensures.none_above i (omega arith) below in
    let least = c.indices.auto.index in
    let greatest : c.indices.index ≤ 32 = omega arith in
    let places = c.indices.invariant.places ∙ all_places big_sync.which c.indices.index least greatest none in
    let streams = c.indices.invariant.fresh ∙ all_streams (λ bis. fresh (stay_on big_sync bis)) big_sync.which c.indices.index least greatest none in
    let info : c.new-2.result.group.info ≡ big_sync.info = c.new-2.ensures ∙ ap (λ j. j.info) c.big_sync.view_is in
    λ i. record { info = info i; places = places i; streams = streams i }
