-- What a framed stream brings through, in the order of its payload numbers (Core 5.2, volume 6 part G, section 2.2): the
-- first segment of a unit with its time, a further one, or a number of which nothing is kept. Padding gives nothing.
use Rattle.std.specs.Prelude.{ℕ, Bool, List, [], ◌∷◌, map, Option, Some, None}
use Rattle.big_info.specs.Time.{iso_us_of}
use Rattle.iso_pdu.specs.Layout.{Part, start, more, Content, framed}
use Rattle.sync_reference.specs.Reference.{anchor_of, framed_reference_of, render_of}
use Rattle.isoal_base.specs.Stays.{Stay}

abbrev pub segmented : Content → Option (List Part)
segmented (framed parts) = Some parts
segmented _ = None

pub data Token : Type 0 where
  starts : (time : ℕ) (complete : Bool) (octets : List ℕ) → Token
  goes_on : (complete : Bool) (octets : List ℕ) → Token
  missing : Token

-- when a unit is rendered that starts with this TimeOffset in this event
abbrev pub time_of : Stay → ℕ → ℕ → ℕ
time_of stay event offset =
    render_of (framed_reference_of stay.info (anchor_of stay.origin stay.first event (iso_us_of stay.info)) offset) stay.delay

abbrev pub token_of : Stay → ℕ → Part → Token
token_of stay event (start offset complete octets) = starts (time_of stay event offset) complete octets
token_of stay event (more complete octets) = goes_on complete octets

abbrev pub tokens_of : Stay → ℕ → Option (List Part) → List Token
tokens_of stay event None = missing ∷ []
tokens_of stay event (Some parts) = map (token_of stay event) parts
