-- The line that is written for a step, by the table of the lines of version 2 of the scenario language, which is this
-- project's own. In it each step of either version has its row: the first word of the row, and the words of the values of
-- the step at the places of the row.
use Rattle.std.specs.Prelude.{ℕ, List}
use Rattle.scenario_words.specs.Joined.{joined}
use Rattle.scenario_words.specs.Lines.{Values, ◌▸◌, AllHaveWords, all_words}
use Rattle.scenario_words.specs.Given.{Placed}
use Rattle.scenario_text.specs.declared.step.Step.{Step}
use Rattle.scenario_text.specs.declared.step.Step.TheVariants.{Scenario, Group, Ident, Subgroup, Meta, Bis, Cipher, Start, Sink, Pac, Locate, Context, Tuned}
use Rattle.scenario_text.specs.declared.step.Step.TheVariants.{Unit, Event, Hear, Air, Inject, Sniff, Announce, Train, Write, Add, Modify, Remove, Code, Serve}
use Rattle.scenario_text.specs.declared.step.Step.TheVariants.{Tell, Read, Drain, Show, Lose, Drop, Terminate, Control, Forge, Stop, End, Assist, Apart, AWrite}
use Rattle.scenario_text.specs.declared.step.Step.TheVariants.{AServe, ATell, ARead, ADrain, AShow, Source, Relay}
use Rattle.scenario_text.specs.Table as rows
use Rattle.scenario_text.specs.Table.{Row}

-- a row of the table, and a value for each of its places
pub data Parts : Type 0 where
  in_row : (row : Row) (values : Values row.places) → Parts

abbrev pub parts_of : Step → Parts
parts_of (Scenario version) = in_row rows.scenario_row (version ▸ tt)
parts_of (Group framing origin delay iso sdu max_sdu max_pdu num_bis bn nse irc pto sub spacing phy) =
    in_row rows.group_row (framing ▸ origin ▸ delay ▸ iso ▸ sdu ▸ max_sdu ▸ max_pdu ▸ num_bis ▸ bn ▸ nse ▸ irc ▸ pto ▸ sub ▸ spacing ▸ phy ▸ tt)
parts_of (Ident address_type address sid broadcast_id) = in_row rows.ident_row (address_type ▸ address ▸ sid ▸ broadcast_id ▸ tt)
parts_of (Subgroup codec config) = in_row rows.subgroup_row (codec ▸ config ▸ tt)
parts_of (Meta metadata) = in_row rows.meta_row (metadata ▸ tt)
parts_of (Bis bis config) = in_row rows.bis_row (bis ▸ config ▸ tt)
parts_of (Cipher giv gskd) = in_row rows.cipher_row (giv ▸ gskd ▸ tt)
parts_of (Start first) = in_row rows.start_row (first ▸ tt)
parts_of (Sink sink streams slots mtu) = in_row (rows.sink_row 2) (sink ▸ streams ▸ slots ▸ mtu ▸ tt)
parts_of (Pac sink codec caps metadata) = in_row rows.pac_row (sink ▸ codec ▸ caps ▸ metadata ▸ tt)
parts_of (Locate sink bits) = in_row rows.locate_row (sink ▸ bits ▸ tt)
parts_of (Context sink sink_bits source_bits) = in_row rows.context_row (sink ▸ sink_bits ▸ source_bits ▸ tt)
parts_of (Tuned sink which) = in_row rows.tuned_row (sink ▸ which ▸ tt)
parts_of (Unit bis time octets) = in_row rows.unit_row (bis ▸ time ▸ octets ▸ tt)
parts_of Event = in_row rows.event_row tt
parts_of (Hear sink back bis subevent) = in_row rows.hear_row (sink ▸ back ▸ bis ▸ subevent ▸ tt)
parts_of (Air sink lose) = in_row rows.air_row (sink ▸ lose ▸ tt)
parts_of (Inject sink back bis subevent octets) = in_row rows.inject_row (sink ▸ back ▸ bis ▸ subevent ▸ octets ▸ tt)
parts_of (Sniff back bis subevent) = in_row rows.sniff_row (back ▸ bis ▸ subevent ▸ tt)
parts_of (Announce sink) = in_row rows.announce_row (sink ▸ tt)
parts_of (Train sink time ext adv acad) = in_row rows.train_row (sink ▸ time ▸ ext ▸ adv ▸ acad ▸ tt)
parts_of (Write sink octets) = in_row rows.write_row (sink ▸ octets ▸ tt)
parts_of (Add sink op) =
    in_row rows.add_row (sink ▸ op.address_type ▸ op.address ▸ op.sid ▸ op.broadcast_id ▸ op.pa_sync ▸ op.pa_interval ▸ op.wishes ▸ tt)
parts_of (Modify sink op) = in_row rows.modify_row (sink ▸ op.source_id ▸ op.pa_sync ▸ op.pa_interval ▸ op.wishes ▸ tt)
parts_of (Remove sink source_id) = in_row rows.remove_row (sink ▸ source_id ▸ tt)
parts_of (Code sink source_id code) = in_row rows.code_row (sink ▸ source_id ▸ code ▸ tt)
parts_of (Serve sink) = in_row rows.serve_row (sink ▸ tt)
parts_of (Tell sink) = in_row rows.tell_row (sink ▸ tt)
parts_of (Read sink) = in_row rows.read_row (sink ▸ tt)
parts_of (Drain sink) = in_row rows.drain_row (sink ▸ tt)
parts_of (Show sink) = in_row rows.show_row (sink ▸ tt)
parts_of (Lose sink) = in_row rows.lose_row (sink ▸ tt)
parts_of (Drop sink) = in_row rows.drop_row (sink ▸ tt)
parts_of (Terminate reason) = in_row rows.terminate_row (reason ▸ tt)
parts_of (Control sink octets) = in_row rows.control_row (sink ▸ octets ▸ tt)
parts_of (Forge sink slot octets) = in_row rows.forge_row (sink ▸ slot ▸ octets ▸ tt)
parts_of Stop = in_row rows.stop_row tt
parts_of End = in_row rows.end_row tt
parts_of (Assist sink link) = in_row rows.assist_row (sink ▸ link ▸ tt)
parts_of (Apart sink link) = in_row rows.apart_row (sink ▸ link ▸ tt)
parts_of (AWrite sink link octets) = in_row rows.awrite_row (sink ▸ link ▸ octets ▸ tt)
parts_of (AServe sink link) = in_row rows.aserve_row (sink ▸ link ▸ tt)
parts_of (ATell sink link) = in_row rows.atell_row (sink ▸ link ▸ tt)
parts_of (ARead sink link) = in_row rows.aread_row (sink ▸ link ▸ tt)
parts_of (ADrain sink link) = in_row rows.adrain_row (sink ▸ link ▸ tt)
parts_of (AShow sink link) = in_row rows.ashow_row (sink ▸ link ▸ tt)
parts_of (Source source) = in_row rows.source_row (source ▸ tt)
parts_of (Relay sink bis to) = in_row rows.relay_row (sink ▸ bis ▸ to ▸ tt)

-- its first word, and its places with the values there
abbrev pub placed_in : Parts → Placed
placed_in (in_row row values) = record { first = row.first; places = row.places; values = values }

abbrev pub placed_step : Step → Placed
placed_step step = placed_in (parts_of step)

-- the values have words at their places
abbrev pub PlacedFits : Placed → Type 0
PlacedFits line = AllHaveWords line.places line.values

-- the words, with one space between each two
abbrev pub placed_line : Placed → List ℕ
placed_line line = joined line.first (all_words line.places line.values)

-- the step has a line: its values have words at the places of its row
abbrev pub Fits : Step → Type 0
Fits step = PlacedFits (placed_step step)

-- the line of a step, with one space between each two words
abbrev pub line_of : Step → List ℕ
line_of step = placed_line (placed_step step)
