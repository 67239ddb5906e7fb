-- The steps that a scenario says seldom: those that set up and end its sources and its sinks, and those that bring or show a single PDU.
-- They are the scenario language's own.
use Rattle.scenario_text.specs.declared.step.Step.{Step}
use Rattle.scenario_text.specs.declared.step.Step.TheVariants.{Scenario, Group, Ident, Subgroup, Meta, Bis, Cipher, Start, Sink}
use Rattle.scenario_text.specs.declared.step.Step.TheVariants.{Tuned, Inject, Sniff, Drop, Stop, Terminate, End, Source, Relay}

abbrev pub IsRare : Step → Type 0
IsRare (Scenario version) = Unit {0}
IsRare (Group framing origin delay iso sdu max_sdu max_pdu num_bis bn nse irc pto sub spacing phy) = Unit {0}
IsRare (Ident address_type address sid broadcast_id) = Unit {0}
IsRare (Subgroup codec config) = Unit {0}
IsRare (Meta metadata) = Unit {0}
IsRare (Bis bis config) = Unit {0}
IsRare (Cipher giv gskd) = Unit {0}
IsRare (Start first) = Unit {0}
IsRare (Sink sink streams slots mtu) = Unit {0}
IsRare (Tuned sink which) = Unit {0}
IsRare (Inject sink back bis subevent octets) = Unit {0}
IsRare (Sniff back bis subevent) = Unit {0}
IsRare (Drop sink) = Unit {0}
IsRare Stop = Unit {0}
IsRare (Terminate reason) = Unit {0}
IsRare End = Unit {0}
IsRare (Source source) = Unit {0}
IsRare (Relay sink bis to) = Unit {0}
IsRare _ = ⊥
