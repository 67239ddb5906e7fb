-- Of whom a line tells, by its step: of a sink and of what it hears, or of the clients that write to a sink. The other lines tell of the
-- sources and of what they send. They are the scenario language's own.
use Rattle.scenario_text.specs.declared.step.Step.{Step}
use Rattle.scenario_text.specs.declared.step.Step.TheVariants.{Sink, Pac, Locate, Context, Tuned, Hear, Air, Inject, Announce, Train, Show, Lose, Drop, Control, Forge}
use Rattle.scenario_text.specs.declared.step.Step.TheVariants.{Write, Add, Modify, Remove, Code, Serve, Tell, Read, Drain, Assist, Apart, AWrite, AServe, ATell, ARead, ADrain, AShow}

abbrev pub IsOfSink : Step → Type 0
IsOfSink (Sink sink streams slots mtu) = Unit {0}
IsOfSink (Pac sink codec caps metadata) = Unit {0}
IsOfSink (Locate sink bits) = Unit {0}
IsOfSink (Context sink sink_bits source_bits) = Unit {0}
IsOfSink (Tuned sink which) = Unit {0}
IsOfSink (Hear sink back bis subevent) = Unit {0}
IsOfSink (Air sink lose) = Unit {0}
IsOfSink (Inject sink back bis subevent octets) = Unit {0}
IsOfSink (Announce sink) = Unit {0}
IsOfSink (Train sink time ext adv acad) = Unit {0}
IsOfSink (Show sink) = Unit {0}
IsOfSink (Lose sink) = Unit {0}
IsOfSink (Drop sink) = Unit {0}
IsOfSink (Control sink octets) = Unit {0}
IsOfSink (Forge sink slot octets) = Unit {0}
IsOfSink _ = ⊥

abbrev pub IsOfClient : Step → Type 0
IsOfClient (Write sink octets) = Unit {0}
IsOfClient (Add sink op) = Unit {0}
IsOfClient (Modify sink op) = Unit {0}
IsOfClient (Remove sink source_id) = Unit {0}
IsOfClient (Code sink source_id code) = Unit {0}
IsOfClient (Serve sink) = Unit {0}
IsOfClient (Tell sink) = Unit {0}
IsOfClient (Read sink) = Unit {0}
IsOfClient (Drain sink) = Unit {0}
IsOfClient (Assist sink link) = Unit {0}
IsOfClient (Apart sink link) = Unit {0}
IsOfClient (AWrite sink link octets) = Unit {0}
IsOfClient (AServe sink link) = Unit {0}
IsOfClient (ATell sink link) = Unit {0}
IsOfClient (ARead sink link) = Unit {0}
IsOfClient (ADrain sink link) = Unit {0}
IsOfClient (AShow sink link) = Unit {0}
IsOfClient _ = ⊥
