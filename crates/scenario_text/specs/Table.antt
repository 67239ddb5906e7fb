-- The table of the lines of a scenario, which are a language of this project: the first word of each line, the places of the
-- words after it, and the step that their values make.
use Rattle.std.specs.Prelude.{ℕ, ◌^◌, ◌-◌, ◌==◌, if◌then◌else◌, List, [], ◌∷◌, Option, None, Some, codes, bytes_eq}
use Rattle.scenario_words.specs.Places.{Place, one, perhaps, rising, wishes, between, framing_word, time_up_to, octets_up_to, octets_exactly, number_in_octets, list_up_to, PlaceValue}
use Rattle.scenario_text.specs.declared.step.Step.{Step}
use Rattle.scenario_text.specs.declared.step.Step.TheVariants.{Scenario, Group, Ident, Subgroup, Meta, Bis, Cipher, Start, Sink, Pac, Locate, Context, Tuned}
use Rattle.scenario_text.specs.declared.step.Step.TheVariants.{Unit, Event, Hear, Air, Inject, Sniff, Announce, Train, Write, Add, Modify, Remove, Code, Serve}
use Rattle.scenario_text.specs.declared.step.Step.TheVariants.{Tell, Read, Drain, Show, Lose, Drop, Terminate, Control, Forge, Stop, End, Assist, Apart, AWrite}
use Rattle.scenario_text.specs.declared.step.Step.TheVariants.{AServe, ATell, ARead, ADrain, AShow, Source, Relay}

-- a step, of the values at these places
abbrev pub Build : List Place → Type 0
Build [] = Step
Build (place ∷ places) = PlaceValue place → Build places

pub record Row : Type 0 where
  pub first : List ℕ
  pub places : List Place
  pub build : Build places

abbrev pub row : List ℕ → (places : List Place) → Build places → Row
row first places build = record { first = first; places = places; build = build }

-- ---- places

-- a decimal that fits a number of so many bits
abbrev pub bits : ℕ → Place
bits width = one (between 0 (2 ^ width - 1))

abbrev pub octet : Place
octet = one (between 0 255)

-- a sink, a link, a source, a stream, how many events back, a subevent
abbrev pub sink : Place
sink = one (between 0 7)

abbrev pub link : Place
link = one (between 0 3)

abbrev pub source : Place
source = one (between 0 1)

abbrev pub stream : Place
stream = one (between 1 31)

abbrev pub back : Place
back = one (between 0 31)

abbrev pub subevent : Place
subevent = one (between 0 30)

-- an LTV list, so many octets, at most so many
abbrev pub list : Place
list = one (list_up_to 255)

abbrev pub exactly : ℕ → Place
exactly count = one (octets_exactly count)

abbrev pub octets : ℕ → Place
octets most = one (octets_up_to most)

abbrev pub most_slots : ℕ → ℕ
most_slots version = if version == 2 then 8 else 4

-- the octets before the subgroups, of 512 of an operation (Broadcast Audio Scan Service 1.0, sections 3.1.1.4 and 3.1.1.5)
abbrev pub before_add : ℕ
before_add = 16

abbrev pub before_modify : ℕ
before_modify = 6

-- ---- the lines that each scenario needs

abbrev pub scenario_row : Row
scenario_row = row (codes "scenario") (one (between 1 2) ∷ []) Scenario

abbrev pub group_row : Row
group_row = row (codes "group") (one framing_word ∷ one (between 3000 (2 ^ 48)) ∷ bits 24 ∷ bits 12 ∷ bits 20 ∷ bits 12 ∷ bits 8 ∷ bits 5
    ∷ bits 3 ∷ bits 5 ∷ bits 4 ∷ bits 4 ∷ bits 20 ∷ bits 20 ∷ bits 3 ∷ []) Group

abbrev pub start_row : Row
start_row = row (codes "start") (one (between 0 549755813887) ∷ []) Start

abbrev pub sink_row : ℕ → Row
sink_row version = row (codes "sink") (sink ∷ one (between 1 31) ∷ one (between 1 (most_slots version)) ∷ perhaps 23 517 ∷ []) Sink

abbrev pub tuned_row : Row
tuned_row = row (codes "tuned") (sink ∷ rising ∷ []) Tuned

abbrev pub unit_row : Row
unit_row = row (codes "unit") (stream ∷ one (time_up_to (2 ^ 62)) ∷ octets 4095 ∷ []) Unit

abbrev pub event_row : Row
event_row = row (codes "event") [] Event

abbrev pub hear_row : Row
hear_row = row (codes "hear") (sink ∷ back ∷ stream ∷ subevent ∷ []) Hear

abbrev pub air_row : Row
air_row = row (codes "air") (sink ∷ octet ∷ []) Air

abbrev pub inject_row : Row
inject_row = row (codes "inject") (sink ∷ back ∷ stream ∷ subevent ∷ octets 300 ∷ []) Inject

abbrev pub sniff_row : Row
sniff_row = row (codes "sniff") (back ∷ stream ∷ subevent ∷ []) Sniff

abbrev pub drop_row : Row
drop_row = row (codes "drop") (sink ∷ []) Drop

abbrev pub stop_row : Row
stop_row = row (codes "stop") [] Stop

abbrev pub end_row : Row
end_row = row (codes "end") [] End

abbrev pub event_rows : List Row
event_rows = unit_row ∷ event_row ∷ hear_row ∷ air_row ∷ inject_row ∷ sniff_row ∷ []

abbrev pub first_rows : ℕ → List Row
first_rows version = scenario_row ∷ group_row ∷ start_row ∷ sink_row version ∷ tuned_row ∷ drop_row ∷ stop_row ∷ end_row ∷ []

-- ---- the lines of a source

abbrev pub ident_row : Row
ident_row = row (codes "ident") (one (between 0 1) ∷ exactly 6 ∷ one (between 0 15) ∷ exactly 3 ∷ []) Ident

abbrev pub subgroup_row : Row
subgroup_row = row (codes "subgroup") (exactly 5 ∷ list ∷ []) Subgroup

abbrev pub meta_row : Row
meta_row = row (codes "meta") (list ∷ []) Meta

abbrev pub bis_row : Row
bis_row = row (codes "bis") (stream ∷ list ∷ []) Bis

abbrev pub cipher_row : Row
cipher_row = row (codes "cipher") (exactly 8 ∷ exactly 16 ∷ []) Cipher

abbrev pub announce_row : Row
announce_row = row (codes "announce") (sink ∷ []) Announce

abbrev pub train_row : Row
train_row = row (codes "train") (sink ∷ one (between 0 (2 ^ 48)) ∷ octets 255 ∷ octets 1650 ∷ octets 255 ∷ []) Train

abbrev pub terminate_row : Row
terminate_row = row (codes "terminate") (octet ∷ []) Terminate

abbrev pub source_rows : List Row
source_rows = ident_row ∷ subgroup_row ∷ meta_row ∷ bis_row ∷ cipher_row ∷ announce_row ∷ train_row ∷ terminate_row ∷ []

-- ---- the lines of a sink, and of its first link

abbrev pub pac_row : Row
pac_row = row (codes "pac") (sink ∷ exactly 5 ∷ list ∷ list ∷ []) Pac

abbrev pub locate_row : Row
locate_row = row (codes "locate") (sink ∷ one (number_in_octets 4) ∷ []) Locate

abbrev pub context_row : Row
context_row = row (codes "context") (sink ∷ one (number_in_octets 2) ∷ one (number_in_octets 2) ∷ []) Context

abbrev pub write_row : Row
write_row = row (codes "write") (sink ∷ octets 512 ∷ []) Write

abbrev pub add_row : Row
add_row = row (codes "add") (sink ∷ one (between 0 1) ∷ exactly 6 ∷ one (between 0 15) ∷ exactly 3 ∷ one (between 0 2) ∷ one (between 0 65535)
    ∷ wishes (512 - before_add) ∷ []) (λ n address_type address sid broadcast_id pa_sync pa_interval groups. Add n (record {
      address_type = address_type;
      address = address;
      sid = sid;
      broadcast_id = broadcast_id;
      pa_sync = pa_sync;
      pa_interval = pa_interval;
      wishes = groups;
    }))

abbrev pub modify_row : Row
modify_row = row (codes "modify") (sink ∷ octet ∷ one (between 0 2) ∷ one (between 0 65535) ∷ wishes (512 - before_modify) ∷ [])
    (λ n source_id pa_sync pa_interval groups.
    Modify n (record { source_id = source_id; pa_sync = pa_sync; pa_interval = pa_interval; wishes = groups }))

abbrev pub remove_row : Row
remove_row = row (codes "remove") (sink ∷ octet ∷ []) Remove

abbrev pub code_row : Row
code_row = row (codes "code") (sink ∷ octet ∷ exactly 16 ∷ []) Code

abbrev pub serve_row : Row
serve_row = row (codes "serve") (sink ∷ []) Serve

abbrev pub tell_row : Row
tell_row = row (codes "tell") (sink ∷ []) Tell

abbrev pub read_row : Row
read_row = row (codes "read") (sink ∷ []) Read

abbrev pub drain_row : Row
drain_row = row (codes "drain") (sink ∷ []) Drain

abbrev pub show_row : Row
show_row = row (codes "show") (sink ∷ []) Show

abbrev pub lose_row : Row
lose_row = row (codes "lose") (sink ∷ []) Lose

abbrev pub control_row : Row
control_row = row (codes "control") (sink ∷ octets 300 ∷ []) Control

abbrev pub forge_row : Row
forge_row = row (codes "forge") (sink ∷ octet ∷ octets 1024 ∷ []) Forge

abbrev pub sink_rows : List Row
sink_rows = pac_row ∷ locate_row ∷ context_row ∷ write_row ∷ add_row ∷ modify_row ∷ remove_row ∷ code_row ∷ []

abbrev pub link_rows : List Row
link_rows = serve_row ∷ tell_row ∷ read_row ∷ drain_row ∷ show_row ∷ lose_row ∷ control_row ∷ forge_row ∷ []

-- ---- the lines of version 2 alone

abbrev pub assist_row : Row
assist_row = row (codes "assist") (sink ∷ link ∷ []) Assist

abbrev pub apart_row : Row
apart_row = row (codes "apart") (sink ∷ one (between 1 3) ∷ []) Apart

abbrev pub awrite_row : Row
awrite_row = row (codes "awrite") (sink ∷ link ∷ octets 512 ∷ []) AWrite

abbrev pub aserve_row : Row
aserve_row = row (codes "aserve") (sink ∷ link ∷ []) AServe

abbrev pub atell_row : Row
atell_row = row (codes "atell") (sink ∷ link ∷ []) ATell

abbrev pub aread_row : Row
aread_row = row (codes "aread") (sink ∷ link ∷ []) ARead

abbrev pub adrain_row : Row
adrain_row = row (codes "adrain") (sink ∷ link ∷ []) ADrain

abbrev pub ashow_row : Row
ashow_row = row (codes "ashow") (sink ∷ link ∷ []) AShow

abbrev pub source_row : Row
source_row = row (codes "source") (source ∷ []) Source

abbrev pub relay_row : Row
relay_row = row (codes "relay") (sink ∷ stream ∷ stream ∷ []) Relay

abbrev pub rows_of_2 : List Row
rows_of_2 = assist_row ∷ apart_row ∷ awrite_row ∷ source_row ∷ relay_row ∷ []

abbrev pub link_rows_of_2 : List Row
link_rows_of_2 = aserve_row ∷ atell_row ∷ aread_row ∷ adrain_row ∷ ashow_row ∷ []

-- ---- the row with this first word

abbrev pub row_in : List ℕ → List Row → Option Row → Option Row
row_in first [] other = other
row_in first (row ∷ rows) other = if bytes_eq first row.first then Some row else row_in first rows other

unfoldable pub link_row_of_2 : List ℕ → Option Row
link_row_of_2 first = row_in first link_rows_of_2 None

unfoldable pub row_of_2 : ℕ → List ℕ → Option Row
row_of_2 version first = if version == 2 then row_in first rows_of_2 (link_row_of_2 first) else None

unfoldable pub link_row_of : ℕ → List ℕ → Option Row
link_row_of version first = row_in first link_rows (row_of_2 version first)

unfoldable pub sink_row_of : ℕ → List ℕ → Option Row
sink_row_of version first = row_in first sink_rows (link_row_of version first)

unfoldable pub source_row_of : ℕ → List ℕ → Option Row
source_row_of version first = row_in first source_rows (sink_row_of version first)

unfoldable pub first_row_of : ℕ → List ℕ → Option Row
first_row_of version first = row_in first (first_rows version) (source_row_of version first)

unfoldable pub row_of : ℕ → List ℕ → Option Row
row_of version first = row_in first event_rows (first_row_of version first)
