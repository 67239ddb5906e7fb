-- The lines of a sink's control and of its links, but for `announce`, which brings what its source announces. They are the
-- scenario language's own.
use Rattle.scenario_text.specs.declared.step.Step.{Step}
use Rattle.scenario_text.specs.declared.step.Step.TheVariants.{Pac, Locate, Context, Train, Write, Add, Modify, Remove, Code, Serve, Tell, Read, Drain, Show, Lose, Control, Forge}
use Rattle.scenario_text.specs.declared.step.Step.TheVariants.{Assist, Apart, AWrite, AServe, ATell, ARead, ADrain, AShow}

abbrev pub IsSinkLine : Step → Type 0
IsSinkLine (Pac sink codec caps metadata) = Unit {0}
IsSinkLine (Locate sink bits) = Unit {0}
IsSinkLine (Context sink sink_bits source_bits) = Unit {0}
IsSinkLine (Train sink time ext adv acad) = Unit {0}
IsSinkLine (Write sink octets) = Unit {0}
IsSinkLine (Add sink op) = Unit {0}
IsSinkLine (Modify sink op) = Unit {0}
IsSinkLine (Remove sink source_id) = Unit {0}
IsSinkLine (Code sink source_id code) = Unit {0}
IsSinkLine (Serve sink) = Unit {0}
IsSinkLine (Tell sink) = Unit {0}
IsSinkLine (Read sink) = Unit {0}
IsSinkLine (Drain sink) = Unit {0}
IsSinkLine (Show sink) = Unit {0}
IsSinkLine (Lose sink) = Unit {0}
IsSinkLine (Control sink octets) = Unit {0}
IsSinkLine (Forge sink slot octets) = Unit {0}
IsSinkLine (Assist sink link) = Unit {0}
IsSinkLine (Apart sink link) = Unit {0}
IsSinkLine (AWrite sink link octets) = Unit {0}
IsSinkLine (AServe sink link) = Unit {0}
IsSinkLine (ATell sink link) = Unit {0}
IsSinkLine (ARead sink link) = Unit {0}
IsSinkLine (ADrain sink link) = Unit {0}
IsSinkLine (AShow sink link) = Unit {0}
IsSinkLine _ = ⊥

-- nothing of it is kept: no octets, and no operation that has any
abbrev pub IsLent : Step → Type 0
IsLent (Pac sink codec caps metadata) = ⊥
IsLent (Write sink octets) = ⊥
IsLent (AWrite sink link octets) = ⊥
IsLent (Add sink op) = ⊥
IsLent (Modify sink op) = ⊥
IsLent _ = Unit {0}

-- the lines of what waits on a link, and of what its assistant knows
abbrev pub IsLinkLine : Step → Type 0
IsLinkLine (Serve sink) = Unit {0}
IsLinkLine (Tell sink) = Unit {0}
IsLinkLine (Read sink) = Unit {0}
IsLinkLine (Drain sink) = Unit {0}
IsLinkLine (AServe sink link) = Unit {0}
IsLinkLine (ATell sink link) = Unit {0}
IsLinkLine (ARead sink link) = Unit {0}
IsLinkLine (ADrain sink link) = Unit {0}
IsLinkLine (AShow sink link) = Unit {0}
IsLinkLine _ = ⊥
