-- Places of slots in an event, and of events in the ring.
use Rattle.isoal_unframed.proofs.Prelude.{ℕ, ◌≡◌, ◌+◌, ◌*◌, ◌%◌, ◌<◌, ◌≤◌, arith, mod-lt, row_fits}

pub slot_fits : (slot k m : ℕ) → slot < k → slot * m + m ≤ k * m
slot_fits slot k m below = row_fits slot m k m below (omega arith)

pub event_fits : (event horizon bn : ℕ) → event % (horizon + 1) * bn + bn ≤ (horizon + 1) * bn
event_fits event horizon bn = slot_fits (event % (horizon + 1)) (horizon + 1) bn (mod-lt event {m = horizon + 1} (omega arith))

pub places_fit : (first start slot slots k m bn window cells : ℕ) → first ≡ start + slot * m → slot < slots → slots ≡ k → k * m ≡ bn
    → start + bn ≤ window → cells ≡ window → first + m ≤ cells
places_fit first start slot slots k m bn window cells at below same_slots all within same = grind (arith, slot_fits)
