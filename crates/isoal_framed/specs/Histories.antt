-- What a receiver of a framed stream hands in a stay, looking back over its calls (Core 5.2, volume 6 part G, section
-- 2.2). Lists of calls have the newest first.
use Rattle.std.specs.Prelude.{ℕ, ◌-◌, ◌*◌, List, ◌∷◌, drop, length, Option, Some, None}
use Rattle.std.specs.List.{flat_map, range_with_len}
use Rattle.iso_pdu.specs.Layout.{Part}
use Rattle.unit_outlets.specs.Handed.{Handed}
use Rattle.isoal_base.specs.Stays.{Stay, Call, close, opened, heard}
use Rattle.isoal_base.specs.Hearing.{read_as}
use Rattle.isoal_framed.specs.Tokens.{Token, segmented, tokens_of}
use Rattle.isoal_framed.specs.Units.{Run, units, undecided_run}

abbrev pub heard_in : Stay → List Call → ℕ → Option (List Part)
heard_in stay calls number = heard (read_as segmented stay.info.max_pdu) stay calls number

abbrev pub event_tokens : Stay → List Call → ℕ → List Token
event_tokens stay calls event =
    flat_map (λ number. tokens_of stay event (heard_in stay calls number)) (range_with_len (event * stay.info.bn) stay.info.bn)

abbrev pub closed_tokens : Stay → List Call → List Token
closed_tokens stay calls = flat_map (event_tokens stay calls) (range_with_len stay.first (opened stay calls - stay.first))

abbrev pub decided : Stay → List Call → List Handed
decided stay calls = units stay.info.max_sdu stay.bis (closed_tokens stay calls)

-- what the next close hands: what the list of decided units gains by it
abbrev pub gained : Stay → List Call → List Handed
gained stay calls = drop (length (decided stay calls)) (decided stay (close ∷ calls))

-- the start that isn't decided by the closed events
abbrev pub undecided_in : Stay → List Call → Option Run
undecided_in stay calls = undecided_run stay.info.max_sdu (closed_tokens stay calls)

-- Held: the octets of the run of the start that isn't decided
abbrev pub held_of : Option Run → ℕ
held_of None = 0
held_of (Some run) = length run.octets
