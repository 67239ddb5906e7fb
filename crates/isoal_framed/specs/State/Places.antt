-- What the places of a window keep: each the PDU that was heard of its number, or no octets.
use Rattle.std.specs.Prelude.{ℕ, List, map, take, Option}
use Rattle.iso_pdu.specs.Layout.{Part}
use Rattle.isoal_base.specs.Hearing.{read_as}
use Rattle.isoal_framed.specs.Tokens.{segmented}
use Rattle.isoal_framed.specs.declared.place.Place.{Place}
use Rattle.isoal_framed.specs.declared.place.Places.{Places}

abbrev pub octets_in : Place → List ℕ
octets_in place = take place.count place.octets.items

abbrev pub entry_in : ℕ → Place → Option (List Part)
entry_in max_pdu place = read_as segmented max_pdu (octets_in place)

abbrev pub kept_of : Places → List (Option (List Part))
kept_of places = map (entry_in places.max_pdu) places.ring.items
