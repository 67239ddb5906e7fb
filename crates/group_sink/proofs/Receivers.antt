-- A receiver of either framing that stands for its calls stands for them and one more.
use Rattle.group_sink.proofs.Prelude.{ℕ, ◌≡◌, ◌+◌, ◌≤◌, Bool, true, cond, eqb, List, [], ◌∷◌, replicate, None, refl, ap, ◌∙◌, eqb-true, Bounds, Handed, Stay, opened, window_of, units_of, gained, undecided_in, units_at_close, fresh, unframed_after, framed_after, receiver_after, open_of, answer_by, hear_by, owed_of, closed, arith, entries_of, segments_of, heard_on, Unframed, Framed}
use Rattle.isoal_base.specs.Hearing.{read_as}
use Rattle.isoal_base.specs.Stays as stays
use Rattle.isoal_base.proofs.Citable.{stands_new, stands_hear, stands_close}
use Rattle.isoal_unframed.specs.Units.{unframed}
use Rattle.isoal_unframed.specs.State.Windows as plain
use Rattle.isoal_unframed.proofs.Citable.{owed_is as unframed_owed}
use Rattle.isoal_framed.specs.State.Windows as segments
use Rattle.isoal_framed.proofs.Citable.{new_stands, hear_stands, close_stands, owed_is as framed_owed}

-- each framing by itself
unframed_new : (stay : Stay) → record { stay = stay; event = stay.first; kept = replicate (window_of stay.info) None } ≡ unframed_after stay []
unframed_new stay = grind (arith, (stands_new (read_as unframed stay.info.max_pdu) stay).kept_is)

unframed_hear : (stay : Stay) (calls : List stays.Call) (number : ℕ) (octets : List ℕ) → 1 ≤ stay.info.bn
    → plain.after_hear number octets (unframed_after stay calls) ≡ unframed_after stay (stays.hear number octets ∷ calls)
unframed_hear stay calls number octets some = grind (arith, opened, stands_hear)

unframed_close : (stay : Stay) (calls : List stays.Call) → 1 ≤ stay.info.bn
    → plain.after_close (unframed_after stay calls) ≡ unframed_after stay (stays.close ∷ calls)
unframed_close stay calls some =
    ap (λ kept. record { stay = stay; event = opened stay calls + 1; kept = kept })
    (stands_close (read_as unframed stay.info.max_pdu) stay calls (opened stay calls) (entries_of stay calls) some (record { event_is = refl; kept_is = refl })).kept_is

framed_stands : (stay : Stay) (calls : List stays.Call) → segments.Stands calls (framed_after stay calls)
framed_stands stay calls = record { hearing = record { event_is = refl; kept_is = refl }; run = refl }

framed_new : (stay : Stay) → record { stay = stay; event = stay.first; kept = replicate (window_of stay.info) None; run = None } ≡ framed_after stay []
framed_new stay = grind (arith, new_stands)

framed_hear : (stay : Stay) (calls : List stays.Call) (number : ℕ) (octets : List ℕ) → Bounds stay.info
    → segments.after_hear number octets (framed_after stay calls) ≡ framed_after stay (stays.hear number octets ∷ calls)
framed_hear stay calls number octets bounds =
    let now = hear_stands (framed_after stay calls) number octets bounds calls (framed_stands stay calls) in
    ap (λ kept. record { stay = stay; event = opened stay calls; kept = kept; run = undecided_in stay calls }) now.hearing.kept_is
    ∙ ap (λ run. record { stay = stay; event = opened stay calls; kept = segments_of stay (stays.hear number octets ∷ calls); run = run }) now.run

framed_close : (stay : Stay) (calls : List stays.Call) → Bounds stay.info
    → segments.after_close (framed_after stay calls) ≡ framed_after stay (stays.close ∷ calls)
framed_close stay calls bounds =
    let now = close_stands (framed_after stay calls) bounds calls (framed_stands stay calls) in
    ap (λ kept. record { stay = stay; event = opened stay calls + 1; kept = kept; run = (segments.after_close (framed_after stay calls)).run }) now.hearing.kept_is
    ∙ ap (λ run. record { stay = stay; event = opened stay calls + 1; kept = segments_of stay (stays.close ∷ calls); run = run }) now.run

-- by the framing
either : (plainly : Bool) (w x : plain.Window) (y z : segments.Window) → w ≡ x → y ≡ z
    → cond plainly (Unframed w) (Framed y) ≡ cond plainly (Unframed x) (Framed z)
either plainly w x y z one other = grind (arith, cond)

hear_either : (plainly : Bool) (number : ℕ) (octets : List ℕ) (w : plain.Window) (y : segments.Window)
    → hear_by number octets (cond plainly (Unframed w) (Framed y)) ≡ cond plainly (Unframed (plain.after_hear number octets w)) (Framed (segments.after_hear number octets y))
hear_either plainly number octets w y = grind arith

close_either : (plainly : Bool) (w : plain.Window) (y : segments.Window)
    → closed (cond plainly (Unframed w) (Framed y)) ≡ cond plainly (Unframed (plain.after_close w)) (Framed (segments.after_close y))
close_either plainly w y = grind arith

owed_either : (plainly : Bool) (w : plain.Window) (y : segments.Window) (units others : List Handed)
    → (plainly ≡ true → plain.owed w ≡ units) → segments.owed y ≡ others → owed_of (cond plainly (Unframed w) (Framed y)) ≡ cond plainly units others
owed_either plainly w y units others one other = grind arith

-- a receiver of a stay
pub receiver_new : (stay : Stay) → fresh stay ≡ receiver_after stay []
receiver_new stay = either (eqb stay.info.framing 0) _ (unframed_after stay []) _ (framed_after stay []) (unframed_new stay) (framed_new stay)

pub receiver_hear : (stay : Stay) (calls : List stays.Call) (number : ℕ) (octets : List ℕ) → Bounds stay.info
    → hear_by number octets (receiver_after stay calls) ≡ receiver_after stay (stays.hear number octets ∷ calls)
receiver_hear stay calls number octets bounds =
    grind (arith, hear_either, eqb, unframed_after, framed_after, either, unframed_hear, framed_hear)

pub receiver_close : (stay : Stay) (calls : List stays.Call) → Bounds stay.info
    → closed (receiver_after stay calls) ≡ receiver_after stay (stays.close ∷ calls)
receiver_close stay calls bounds = grind (arith, close_either, eqb, unframed_after, framed_after, either, unframed_close, framed_close)

pub open_is : (stay : Stay) (calls : List stays.Call) → open_of (receiver_after stay calls) ≡ opened stay calls
open_is stay calls = grind (arith, eqb)

pub owed_is : (stay : Stay) (calls : List stays.Call) → Bounds stay.info → owed_of (receiver_after stay calls) ≡ units_at_close stay calls
owed_is stay calls bounds =
    owed_either (eqb stay.info.framing 0) (unframed_after stay calls) (framed_after stay calls) (units_of stay calls (opened stay calls)) (gained stay calls)
    (λ plainly. unframed_owed (unframed_after stay calls) bounds (eqb-true stay.info.framing 0 plainly) calls (record { event_is = refl; kept_is = refl }))
    (framed_owed (framed_after stay calls) bounds calls (framed_stands stay calls))

pub answer_is : (stay : Stay) (calls : List stays.Call) (number : ℕ) (octets : List ℕ)
    → answer_by number octets (receiver_after stay calls) ≡ heard_on stay calls number octets
answer_is stay calls number octets = grind (arith, eqb)
