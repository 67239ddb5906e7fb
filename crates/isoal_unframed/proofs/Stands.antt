-- A receiver that stands for its calls.
use Rattle.isoal_unframed.proofs.Prelude.{ℕ, ◌≡◌, ◌+◌, ◌*◌, ◌≤◌, List, ◌∷◌, take, drop, ap, ◌∙◌, arith, Bounds, per_event_of, per_unit_of, hear, close, opened, window_of, read_as, heard_in, unit_at, units_of, unframed, unit_of, Window, Stands, after_hear, after_close, handed_of, time_of, owed, owed_at}
use Rattle.isoal_base.specs.Stays.{Call}
use Rattle.isoal_base.proofs.Citable.{map_same, map_part, stands_hear, stands_close}
use Rattle.isoal_unframed.proofs.Places.{slot_fits}

pub hear_stands : (window : Window) (number : ℕ) (octets : List ℕ) → Bounds window.stay.info
    → (calls : List Call) → Stands calls window → Stands (hear number octets ∷ calls) (after_hear number octets window)
hear_stands window number octets bounds calls stands = grind (arith, stands_hear)

pub close_stands : (window : Window) → Bounds window.stay.info
    → (calls : List Call) → Stands calls window → Stands (close ∷ calls) (after_close window)
close_stands window bounds calls stands =
    stands_close (read_as unframed window.stay.info.max_pdu) window.stay calls window.event window.kept bounds.bn stands

-- what is owed is told by the calls
pub owed_is : (window : Window) → Bounds window.stay.info → window.stay.info.framing ≡ 0 → (calls : List Call) → Stands calls window
    → owed window ≡ units_of window.stay calls (opened window.stay calls)
owed_is window bounds plain calls stands =
    let all : window.stay.info.bn ≡ per_event_of window.stay.info * per_unit_of window.stay.info = bounds.whole_slots plain in
    map_same (owed_at window.stay window.event window.kept) (unit_at window.stay calls window.event) 0 (per_event_of window.stay.info)
    (λ slot least below.
    let fits : slot * per_unit_of window.stay.info + per_unit_of window.stay.info ≤ per_event_of window.stay.info * per_unit_of window.stay.info =
    slot_fits slot (per_event_of window.stay.info) (per_unit_of window.stay.info) (omega arith) in
    ap (λ xs. handed_of window.stay.bis (time_of window.stay window.event slot) (unit_of window.stay.info.max_sdu xs))
    (ap (λ kept. take (per_unit_of window.stay.info) (drop (slot * per_unit_of window.stay.info) kept)) stands.kept_is
    ∙ map_part (heard_in window.stay calls) (window.event * window.stay.info.bn) (window_of window.stay.info)
    (slot * per_unit_of window.stay.info) (per_unit_of window.stay.info) (omega arith)))
    ∙ ap (λ event. units_of window.stay calls event) stands.event_is
