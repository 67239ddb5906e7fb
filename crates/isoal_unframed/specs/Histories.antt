-- What a receiver of an unframed stream hands in a stay, looking back over its calls (Core 5.2, volume 6 part G,
-- section 2.1). Lists of calls have the newest first.
use Rattle.std.specs.Prelude.{ℕ, ◌+◌, ◌*◌, List, [], ◌∷◌, ◌++◌, map, Option}
use Rattle.std.specs.List.{range_with_len}
use Rattle.big_info.specs.Schedule.{per_event_of, per_unit_of}
use Rattle.iso_pdu.specs.Layout.{Content}
use Rattle.unit_outlets.specs.Handed.{Handed}
use Rattle.isoal_base.specs.Stays.{Stay, Call, hear, close, opened, heard}
use Rattle.isoal_base.specs.Hearing.{read_as}
use Rattle.isoal_unframed.specs.Units.{unframed, unit_of}
use Rattle.isoal_unframed.specs.State.Windows.{handed_of, time_of}

abbrev pub heard_in : Stay → List Call → ℕ → Option Content
heard_in stay calls number = heard (read_as unframed stay.info.max_pdu) stay calls number

-- the numbers of a slot, from 0, of an event
abbrev pub numbers_of : Stay → ℕ → ℕ → List ℕ
numbers_of stay event slot = range_with_len (event * stay.info.bn + slot * per_unit_of stay.info) (per_unit_of stay.info)

abbrev pub unit_at : Stay → List Call → ℕ → ℕ → Handed
unit_at stay calls event slot =
    handed_of stay.bis (time_of stay event slot) (unit_of stay.info.max_sdu (map (heard_in stay calls) (numbers_of stay event slot)))

abbrev pub units_of : Stay → List Call → ℕ → List Handed
units_of stay calls event = map (unit_at stay calls event) (range_with_len 0 (per_event_of stay.info))

-- what the closes among these calls hand
abbrev pub handed : Stay → List Call → List Handed
handed stay [] = []
handed stay (hear number octets ∷ calls) = handed stay calls
handed stay (close ∷ calls) = handed stay calls ++ units_of stay calls (opened stay calls)
