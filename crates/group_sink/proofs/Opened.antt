-- The open event of a stream by the ticks alone.
use Rattle.group_sink.proofs.Prelude.{ℕ, ◌≡◌, ◌+◌, Bool, cond, eqb, leb, List, [], ◌∷◌, Option, ap, ◌∙◌, arith, Stay, opened, Call, tune, hear, tick, leave, BigSync, closes, number_of, stay_on, stream_calls, with_hear}
use Rattle.isoal_base.specs.Stays as stays

either_same : (stay : Stay) (test : Bool) (number : Option ℕ) (octets : List ℕ) (calls : List stays.Call)
    → opened stay (cond test (with_hear number octets calls) calls) ≡ opened stay calls
either_same stay test number octets calls = grind arith

closed_once : (stay : Stay) (first count : ℕ) (calls : List stays.Call) (test : Bool) → opened stay calls ≡ first + count
    → opened stay (cond test (stays.close ∷ calls) calls) ≡ first + cond test (count + 1) count
closed_once stay first count calls test is = grind arith

pub opened_is : (big_sync : BigSync) (calls : List Call) (bis : ℕ)
    → opened (stay_on big_sync bis) (stream_calls (stay_on big_sync bis) calls) ≡ big_sync.first + closes big_sync calls
opened_is big_sync [] bis = omega arith
opened_is big_sync (tune other ∷ calls) bis = omega arith
opened_is big_sync (hear event other subevent octets ∷ calls) bis =
    either_same (stay_on big_sync bis) (eqb other bis) (number_of big_sync.info event subevent) octets (stream_calls (stay_on big_sync bis) calls)
    ∙ opened_is big_sync calls bis
opened_is big_sync (tick event ∷ calls) bis =
    let before : opened (stay_on big_sync bis) (stream_calls (stay_on big_sync bis) calls) ≡ big_sync.first + closes big_sync calls = opened_is big_sync calls bis in
    closed_once (stay_on big_sync bis) big_sync.first (closes big_sync calls) (stream_calls (stay_on big_sync bis) calls)
    (leb (opened (stay_on big_sync bis) (stream_calls (stay_on big_sync bis) calls)) event) before
    ∙ ap (λ n. big_sync.first + cond (leb n event) (closes big_sync calls + 1) (closes big_sync calls)) before
opened_is big_sync (leave ∷ calls) bis = omega arith
