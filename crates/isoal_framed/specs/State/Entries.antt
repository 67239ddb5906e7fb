-- What the octets at a place of a window are.
use Rattle.std.specs.Prelude.{ℕ, ◌≡◌, nat_lt, is_some, List, take}
use Rattle.isoal_base.specs.Hearing.{read_as}
use Rattle.isoal_framed.specs.Tokens.{segmented}

-- the first octets, so many, are a framed PDU; or there are none
abbrev pub IsPduOrNothing : (max_pdu count : ℕ) → List ℕ → Type 0
IsPduOrNothing max_pdu count octets = is_some (read_as segmented max_pdu (take count octets)) ≡ nat_lt 0 count
