-- Why a step is refused after those before it: the first reason that holds, in the order of test. The refusals are the
-- scenario language's own; those of a group, a unit and a place on the air are after Core 5.2, volume 6 parts B and G. Lists
-- of steps have the newest first; where a list is called `own` its steps are those of one source.
use Rattle.std.specs.Prelude.{ℕ, ◌==◌, ◌&&◌, ◌||◌, nat_lt, nat_le, not, is_some, unwrap_or, Bool, true, false, List, Option, None, Some}
use Rattle.std.specs.List.{list_any}
use Rattle.std.specs.Option.{option_or, option_map, option_and_then}
use Rattle.big_info.specs.declared.fault.GroupFault.{GroupFault}
use Rattle.big_info.specs.declared.fault.GroupFault.TheVariants.{Encrypted}
use Rattle.big_info.specs.Rows.{first_fault}
use Rattle.radio_schedule.specs.declared.air.AirFault.{AirFault}
use Rattle.radio_schedule.specs.declared.air.AirFault.TheVariants.{NoSuchBis as NoStreamThere, NoSuchSubevent as NoSubeventThere, NotOnAir as NotKept}
use Rattle.source_machine.specs.UnitFaults.{UnitFault}
use Rattle.source_machine.specs.UnitFaults.{NoSuchBis as NoStream, UnitTooLong as TooLong, TimeOrder as WrongTime, Backlog as Full}
use Rattle.source_machine.specs.declared.fault.AnnounceFault.{AnnounceFault}
use Rattle.source_machine.specs.declared.fault.EventFault.{EventFault}
use Rattle.source_machine.specs.Faults.{give_fault, event_fault, announce_fault, air_fault}
use Rattle.source_machine.specs.Setups.{are_twins}
use Rattle.group_sink.specs.Streams.{streams_of}
use Rattle.transcript_text.specs.declared.refusal.Refusal.{Refusal}
use Rattle.transcript_text.specs.declared.refusal.Refusal.TheVariants.{AfterEnd, Order, BadGroup, BaseTooLong, IdentTwice, NoSuchSink, SinkTwice}
use Rattle.transcript_text.specs.declared.refusal.Refusal.TheVariants.{NoOutlet, NoSuchBis, UnitTooLong, TimeOrder, RelayTaken, Relayed, Backlog}
use Rattle.transcript_text.specs.declared.refusal.Refusal.TheVariants.{NoSuchSubevent, NotOnAir, CounterEnds}
use Rattle.scenario_text.specs.declared.step.Step.{Step}
use Rattle.scenario_text.specs.declared.step.Step.TheVariants.{Scenario, Group, Ident, Subgroup, Meta, Bis, Cipher, Start, Sink, Tuned, Unit, Event, Hear, Air}
use Rattle.scenario_text.specs.declared.step.Step.TheVariants.{Inject, Sniff, Announce, Drop, Relay, Stop, Terminate}
use Rattle.scenario_history.specs.Steps.{Stage, chosen_of, chosen_steps, is_over, is_unbegun_at, other_of, sinks_made, stage_of, steps_of_source, version_of}
use Rattle.scenario_history.specs.Source.{checked_info, group_of, ident_of, identity_of, is_absent_at, is_ciphered, is_described_at}
use Rattle.source_machine.specs.Airs.{Airs}
use Rattle.scenario_history.specs.Source.{is_heard, is_sending, is_started, no_group, performed, phase_of, setup_of, source_calls, takes_units}
use Rattle.scenario_history.specs.Bases.{has_subgroup, has_bis, is_last_bare, is_base_too_long}
use Rattle.sink_history.specs.Refusals.{refusal_of as refusal_of_sink, refuse_if}
use Rattle.scenario_history.specs.Boxes.{box_of}
use Rattle.scenario_history.specs.Relays.{had_relay, relay_of}
use Rattle.scenario_history.specs.Worlds.{the_world}
use Rattle.sink_history.specs.History.{horizon_in}

-- `scenario` is the first step and stands once
abbrev pub is_misplaced : Stage → Step → Bool
is_misplaced stage (Scenario version) = not (is_unbegun_at stage)
is_misplaced stage _ = is_unbegun_at stage

-- A source line stands in the wrong phase of its source, whose steps these are. No `subgroup` and no `start` comes while the last subgroup
-- has no `bis`; no unit is taken and nothing is heard of a source with `cipher`. All other lines have no phase of their own.
abbrev pub is_out_of_phase : List Step → Step → Bool
is_out_of_phase own (Group framing origin delay iso sdu max_sdu max_pdu num_bis bn nse irc pto sub spacing phy) =
    not (is_absent_at (phase_of own))
is_out_of_phase own (Ident address_type address sid broadcast_id) = not (is_described_at (phase_of own)) || is_some (ident_of own)
is_out_of_phase own (Subgroup codec config) = not (is_described_at (phase_of own)) || is_last_bare own
is_out_of_phase own (Meta metadata) = not (is_described_at (phase_of own)) || not (has_subgroup own)
is_out_of_phase own (Bis bis config) = not (is_described_at (phase_of own)) || not (has_subgroup own)
is_out_of_phase own (Cipher giv gskd) = not (is_described_at (phase_of own)) || is_ciphered own
is_out_of_phase own (Start first) = not (is_described_at (phase_of own)) || is_last_bare own
is_out_of_phase own (Tuned sink which) = not (takes_units own)
is_out_of_phase own (Unit bis time octets) = not (takes_units own)
is_out_of_phase own Event = not (takes_units own)
is_out_of_phase own (Announce sink) = not (is_sending own)
is_out_of_phase own Stop = not (is_sending own)
is_out_of_phase own (Terminate reason) = not (is_sending own)
is_out_of_phase own (Hear sink back bis subevent) = not (is_heard own)
is_out_of_phase own (Air sink lose) = not (is_heard own)
is_out_of_phase own (Inject sink back bis subevent octets) = not (is_heard own)
is_out_of_phase own (Sniff back bis subevent) = not (is_heard own)
is_out_of_phase own _ = false

abbrev pub is_out_of_order : List Step → Step → Bool
is_out_of_order steps step = is_misplaced (stage_of steps) step || is_out_of_phase (chosen_steps steps) step

-- that a group is encrypted keeps no source from its start
abbrev pub fault_refusal : GroupFault → Option Refusal
fault_refusal Encrypted = None
fault_refusal fault = Some (BadGroup fault)

abbrev pub group_refusal : Option GroupFault → Option Refusal
group_refusal fault = option_and_then fault_refusal fault

abbrev pub no_sink : ℕ → List Step → Option Refusal
no_sink n steps = refuse_if (not (is_some (box_of n steps))) NoSuchSink

abbrev pub give_refusal : UnitFault → Refusal
give_refusal NoStream = NoSuchBis
give_refusal TooLong = UnitTooLong
give_refusal WrongTime = TimeOrder
give_refusal Full = Backlog

abbrev pub air_refusal : AirFault → Refusal
air_refusal NoStreamThere = NoSuchBis
air_refusal NoSubeventThere = NoSuchSubevent
air_refusal NotKept = NotOnAir

abbrev pub no_place : List Step → ℕ → ℕ → ℕ → Option Refusal
no_place own back bis subevent = option_map air_refusal (air_fault (setup_of own) (source_calls own) back bis subevent)

abbrev pub counter_ends : Option EventFault → Option Refusal
counter_ends fault = option_map (λ any. CounterEnds) fault

abbrev pub train_ends : Option AnnounceFault → Option Refusal
train_ends fault = option_map (λ any. CounterEnds) fault

unfoldable pub has_beyond : ℕ → ℕ → Bool
has_beyond num_bis which = list_any (λ bis. nat_lt num_bis bis) (streams_of which)

-- the other source was started, also where it was stopped since, with the address type, SID and Broadcast_ID of the chosen one
abbrev pub is_ident_twice : List Step → Bool
is_ident_twice steps = is_started (steps_of_source (other_of (chosen_of steps)) steps)
    && are_twins (identity_of (chosen_steps steps)) (identity_of (steps_of_source (other_of (chosen_of steps)) steps))

-- ---- a `relay` line

-- both sources were started, neither was stopped or terminated or is encrypted, and source 1 is framed
abbrev pub may_relay : List Step → Bool
may_relay steps = takes_units (steps_of_source 0 steps)
    && (takes_units (steps_of_source 1 steps) && ((setup_of (steps_of_source 1 steps)).info.framing == 1))

abbrev pub is_relay_beyond : List Step → (bis to : ℕ) → Bool
is_relay_beyond steps bis to =
    nat_lt (setup_of (steps_of_source 0 steps)).info.num_bis bis || nat_lt (setup_of (steps_of_source 1 steps)).info.num_bis to

abbrev pub gives_on : ℕ → Step → Bool
gives_on bis (Unit stream time octets) = stream == bis
gives_on bis _ = false

abbrev pub is_relay_taken : List Step → (sink to : ℕ) → Bool
is_relay_taken steps sink to = is_some (relay_of sink steps) || (had_relay to steps || list_any (gives_on to) (steps_of_source 1 steps))

-- the first reason that holds of a `relay` line, whichever source is chosen
abbrev pub relay_refusal : List Step → (sink bis to : ℕ) → Option Refusal
relay_refusal steps sink bis to = option_or (refuse_if (not (may_relay steps)) Order)
    (option_or (no_sink sink steps)
    (option_or (refuse_if (is_relay_beyond steps bis to) NoSuchBis) (refuse_if (is_relay_taken steps sink to) RelayTaken)))

-- ---- the rows of all steps

-- what is refused of a step in the right phase by what the sinks are, where there are so many boxes
abbrev pub sink_refusal : ℕ → List Step → Step → Option Refusal
sink_refusal boxes steps (Sink sink streams slots mtu) =
    option_or (refuse_if (is_some (box_of sink steps)) SinkTwice) (refuse_if (nat_le boxes (sinks_made steps)) NoOutlet)
sink_refusal boxes steps (Drop sink) = no_sink sink steps
sink_refusal boxes steps (Tuned sink which) = no_sink sink steps
sink_refusal boxes steps (Hear sink back bis subevent) = no_sink sink steps
sink_refusal boxes steps (Air sink lose) = no_sink sink steps
sink_refusal boxes steps (Inject sink back bis subevent octets) = no_sink sink steps
sink_refusal boxes steps (Relay sink bis to) = None
sink_refusal boxes steps step = refusal_of_sink the_world steps step

-- what is refused of a step in the right phase by what its source is: these are the source's steps, in a scenario of this version
abbrev pub source_refusal : Airs → ℕ → List Step → Step → Option Refusal
source_refusal airs version own (Bis bis config) =
    refuse_if (nat_lt (unwrap_or (group_of own) no_group).info.num_bis bis || has_bis own bis) NoSuchBis
source_refusal airs version own (Start first) =
    option_or (group_refusal (first_fault (horizon_in version) (checked_info own))) (refuse_if (is_base_too_long own) BaseTooLong)
source_refusal airs version own (Tuned sink which) = refuse_if (has_beyond (setup_of own).info.num_bis which) NoSuchBis
source_refusal airs version own (Unit bis time octets) =
    option_map give_refusal (give_fault (setup_of own) (source_calls own) (airs (setup_of own) (source_calls own)) bis time octets)
source_refusal airs version own Event = counter_ends (event_fault (setup_of own) (source_calls own))
source_refusal airs version own (Hear sink back bis subevent) = no_place own back bis subevent
source_refusal airs version own (Air sink lose) = refuse_if (performed own == 0) NotOnAir
source_refusal airs version own (Inject sink back bis subevent octets) = no_place own back bis subevent
source_refusal airs version own (Sniff back bis subevent) = no_place own back bis subevent
source_refusal airs version own (Announce sink) = train_ends (announce_fault (setup_of own) (source_calls own))
source_refusal airs version own _ = None

-- what is refused of a step in the right phase by what both sources are, and of a `relay` line by all that it names
abbrev pub twin_refusal : List Step → Step → Option Refusal
twin_refusal steps (Start first) = refuse_if (is_ident_twice steps) IdentTwice
twin_refusal steps (Relay sink bis to) = relay_refusal steps sink bis to
twin_refusal steps _ = None

abbrev pub own_refusal : Airs → ℕ → List Step → Step → Option Refusal
own_refusal airs boxes steps step = option_or (sink_refusal boxes steps step)
    (option_or (source_refusal airs (version_of steps) (chosen_steps steps) step) (twin_refusal steps step))

abbrev pub phase_refusal : Airs → ℕ → List Step → Step → Option Refusal
phase_refusal airs boxes steps step = option_or (refuse_if (is_out_of_order steps step) Order) (own_refusal airs boxes steps step)

-- the first reason that holds of a step, be it that of a line or of a relayed unit to source 1
abbrev pub refusal_of : Airs → ℕ → List Step → Step → Option Refusal
refusal_of airs boxes steps step = option_or (refuse_if (is_over steps) AfterEnd) (phase_refusal airs boxes steps step)

-- ---- the steps of lines

abbrev pub is_relayed : List Step → Step → Bool
is_relayed steps (Unit bis time octets) = (chosen_of steps == 1) && had_relay bis steps
is_relayed steps _ = false

-- that a stream has had a relay is tested right before Backlog
abbrev pub relayed_or : Bool → Option Refusal → Option Refusal
relayed_or true None = Some Relayed
relayed_or true (Some Backlog) = Some Relayed
relayed_or true (Some reason) = Some reason
relayed_or false refusal = refusal

-- the first reason that holds of the step of a line: relayed units are no lines, and none of them is Relayed
abbrev pub line_refusal : Airs → ℕ → List Step → Step → Option Refusal
line_refusal airs boxes steps step = relayed_or (is_relayed steps step) (refusal_of airs boxes steps step)
