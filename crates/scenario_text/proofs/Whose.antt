-- Proof by the lines of a sink, and by those of its clients.
use Rattle.scenario_text.proofs.Prelude.{ℕ, List, Option, AddSource, ModifySource, Step, Sink, Pac, Locate, Context, Tuned, Hear, Air, Inject, Announce, Train, Show, Lose, Drop, Control, Forge}
use Rattle.bcast_base.specs.declared.bis.Bis.{Bis}
use Rattle.bcast_base.specs.declared.bis.BisSet.{BisSet}
use Rattle.bcast_base.specs.declared.octets.Octets.{Octets}
use Rattle.scenario_text.specs.Whose.{IsOfClient, IsOfSink}
use Rattle.scenario_text.specs.declared.step.Step.TheVariants.{Write, Add, Modify, Remove, Code, Serve, Tell, Read, Drain, Assist, Apart, AWrite, AServe, ATell, ARead, ADrain, AShow}

-- what holds of each line of a sink holds of a line that is one
pub of_sinks : (P : Step → Type 0) → ((sink : ℕ) (streams : ℕ) (slots : ℕ) (mtu : Option ℕ) → P (Sink sink streams slots mtu))
    → ((sink : ℕ) (codec : List ℕ) (caps : Octets) (metadata : Octets) → P (Pac sink codec caps metadata))
    → ((sink : ℕ) (bits : ℕ) → P (Locate sink bits)) → ((sink : ℕ) (sink_bits : ℕ) (source_bits : ℕ) → P (Context sink sink_bits source_bits))
    → ((sink : ℕ) (which : BisSet) → P (Tuned sink which)) → ((sink : ℕ) (back : ℕ) (bis : Bis) (subevent : ℕ) → P (Hear sink back bis subevent))
    → ((sink : ℕ) (lose : ℕ) → P (Air sink lose))
    → ((sink : ℕ) (back : ℕ) (bis : Bis) (subevent : ℕ) (octets : Octets) → P (Inject sink back bis subevent octets))
    → ((sink : ℕ) → P (Announce sink)) → ((sink : ℕ) (time : ℕ) (ext : Octets) (adv : Octets) (acad : Octets) → P (Train sink time ext adv acad))
    → ((sink : ℕ) → P (Show sink)) → ((sink : ℕ) → P (Lose sink)) → ((sink : ℕ) → P (Drop sink))
    → ((sink : ℕ) (octets : Octets) → P (Control sink octets)) → ((sink : ℕ) (slot : ℕ) (octets : Octets) → P (Forge sink slot octets))
    → (step : Step) → IsOfSink step → P step
of_sinks P of_sink _ _ _ _ _ _ _ _ _ _ _ _ _ _ (Sink sink streams slots mtu) is = of_sink sink streams slots mtu
of_sinks P _ of_pac _ _ _ _ _ _ _ _ _ _ _ _ _ (Pac sink codec caps metadata) is = of_pac sink codec caps metadata
of_sinks P _ _ of_locate _ _ _ _ _ _ _ _ _ _ _ _ (Locate sink bits) is = of_locate sink bits
of_sinks P _ _ _ of_context _ _ _ _ _ _ _ _ _ _ _ (Context sink sink_bits source_bits) is = of_context sink sink_bits source_bits
of_sinks P _ _ _ _ of_tuned _ _ _ _ _ _ _ _ _ _ (Tuned sink which) is = of_tuned sink which
of_sinks P _ _ _ _ _ of_hear _ _ _ _ _ _ _ _ _ (Hear sink back bis subevent) is = of_hear sink back bis subevent
of_sinks P _ _ _ _ _ _ of_air _ _ _ _ _ _ _ _ (Air sink lose) is = of_air sink lose
of_sinks P _ _ _ _ _ _ _ of_inject _ _ _ _ _ _ _ (Inject sink back bis subevent octets) is = of_inject sink back bis subevent octets
of_sinks P _ _ _ _ _ _ _ _ of_announce _ _ _ _ _ _ (Announce sink) is = of_announce sink
of_sinks P _ _ _ _ _ _ _ _ _ of_train _ _ _ _ _ (Train sink time ext adv acad) is = of_train sink time ext adv acad
of_sinks P _ _ _ _ _ _ _ _ _ _ of_show _ _ _ _ (Show sink) is = of_show sink
of_sinks P _ _ _ _ _ _ _ _ _ _ _ of_lose _ _ _ (Lose sink) is = of_lose sink
of_sinks P _ _ _ _ _ _ _ _ _ _ _ _ of_drop _ _ (Drop sink) is = of_drop sink
of_sinks P _ _ _ _ _ _ _ _ _ _ _ _ _ of_control _ (Control sink octets) is = of_control sink octets
of_sinks P _ _ _ _ _ _ _ _ _ _ _ _ _ _ of_forge (Forge sink slot octets) is = of_forge sink slot octets
of_sinks P _ _ _ _ _ _ _ _ _ _ _ _ _ _ _ _ is = absurd is

-- what holds of each line of a client holds of a line that is one
pub of_clients : (P : Step → Type 0) → ((sink : ℕ) (octets : Octets) → P (Write sink octets)) → ((sink : ℕ) (op : AddSource) → P (Add sink op))
    → ((sink : ℕ) (op : ModifySource) → P (Modify sink op)) → ((sink : ℕ) (source_id : ℕ) → P (Remove sink source_id))
    → ((sink : ℕ) (source_id : ℕ) (code : List ℕ) → P (Code sink source_id code)) → ((sink : ℕ) → P (Serve sink)) → ((sink : ℕ) → P (Tell sink))
    → ((sink : ℕ) → P (Read sink)) → ((sink : ℕ) → P (Drain sink)) → ((sink : ℕ) (link : ℕ) → P (Assist sink link))
    → ((sink : ℕ) (link : ℕ) → P (Apart sink link)) → ((sink : ℕ) (link : ℕ) (octets : Octets) → P (AWrite sink link octets))
    → ((sink : ℕ) (link : ℕ) → P (AServe sink link)) → ((sink : ℕ) (link : ℕ) → P (ATell sink link)) → ((sink : ℕ) (link : ℕ) → P (ARead sink link))
    → ((sink : ℕ) (link : ℕ) → P (ADrain sink link)) → ((sink : ℕ) (link : ℕ) → P (AShow sink link)) → (step : Step) → IsOfClient step → P step
of_clients P of_write _ _ _ _ _ _ _ _ _ _ _ _ _ _ _ _ (Write sink octets) is = of_write sink octets
of_clients P _ of_add _ _ _ _ _ _ _ _ _ _ _ _ _ _ _ (Add sink op) is = of_add sink op
of_clients P _ _ of_modify _ _ _ _ _ _ _ _ _ _ _ _ _ _ (Modify sink op) is = of_modify sink op
of_clients P _ _ _ of_remove _ _ _ _ _ _ _ _ _ _ _ _ _ (Remove sink source_id) is = of_remove sink source_id
of_clients P _ _ _ _ of_code _ _ _ _ _ _ _ _ _ _ _ _ (Code sink source_id code) is = of_code sink source_id code
of_clients P _ _ _ _ _ of_serve _ _ _ _ _ _ _ _ _ _ _ (Serve sink) is = of_serve sink
of_clients P _ _ _ _ _ _ of_tell _ _ _ _ _ _ _ _ _ _ (Tell sink) is = of_tell sink
of_clients P _ _ _ _ _ _ _ of_read _ _ _ _ _ _ _ _ _ (Read sink) is = of_read sink
of_clients P _ _ _ _ _ _ _ _ of_drain _ _ _ _ _ _ _ _ (Drain sink) is = of_drain sink
of_clients P _ _ _ _ _ _ _ _ _ of_assist _ _ _ _ _ _ _ (Assist sink link) is = of_assist sink link
of_clients P _ _ _ _ _ _ _ _ _ _ of_apart _ _ _ _ _ _ (Apart sink link) is = of_apart sink link
of_clients P _ _ _ _ _ _ _ _ _ _ _ of_awrite _ _ _ _ _ (AWrite sink link octets) is = of_awrite sink link octets
of_clients P _ _ _ _ _ _ _ _ _ _ _ _ of_aserve _ _ _ _ (AServe sink link) is = of_aserve sink link
of_clients P _ _ _ _ _ _ _ _ _ _ _ _ _ of_atell _ _ _ (ATell sink link) is = of_atell sink link
of_clients P _ _ _ _ _ _ _ _ _ _ _ _ _ _ of_aread _ _ (ARead sink link) is = of_aread sink link
of_clients P _ _ _ _ _ _ _ _ _ _ _ _ _ _ _ of_adrain _ (ADrain sink link) is = of_adrain sink link
of_clients P _ _ _ _ _ _ _ _ _ _ _ _ _ _ _ _ of_ashow (AShow sink link) is = of_ashow sink link
of_clients P _ _ _ _ _ _ _ _ _ _ _ _ _ _ _ _ _ _ is = absurd is
