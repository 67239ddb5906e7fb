-- What a ring keeps at each of its places, and the octets from a place on.
use Rattle.std.specs.Prelude.{ℕ, ◌*◌, List, take, drop, Option}
use Rattle.iso_pdu.specs.Layout.{Content}
use Rattle.isoal_unframed.specs.declared.ring.Ring.{Ring}
use Rattle.isoal_unframed.specs.State.Cells.{kept_in}

abbrev pub kept_of : Ring → List (Option Content)
kept_of ring = kept_in ring.max_pdu ring.cells.items ring.block.items

abbrev pub octets_at : Ring → ℕ → ℕ → List ℕ
octets_at ring place count = take count (drop (place * ring.max_pdu) ring.block.items)
