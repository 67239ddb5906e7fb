-- What became of octets that were put to a sink.
use Rattle.std.specs.Prelude.{ℕ, ◌≡◌, List, Option}
use Rattle.std.specs.Io.KnownBytes.{Appends}
use Rattle.bcast_io.specs.Writing.{AppendsPrefix, AppendsShort}
use Rattle.scenario_text.specs.Migrated.{migrated}
use Rattle.replay_migration.specs.Ended.{too_long_line}
use Rattle.replay_migration.specs.declared.migration.Migration.{Migration}
use Rattle.replay_migration.specs.declared.migration.Migration.TheVariants as ends

-- a text in version 2
abbrev pub PutsText : List ℕ → Option (List ℕ) → Option (List ℕ) → Migration → Type 0
PutsText text kept kept' ends.Done = Appends kept kept' (migrated text)
PutsText text kept kept' (ends.TooLong line) = ⊥
PutsText text kept kept' ends.ReadFault = ⊥
PutsText text kept kept' ends.WriteFault = AppendsShort kept kept' (migrated text)
PutsText text kept kept' ends.Memory = AppendsPrefix kept kept' (migrated text)

-- the line of a refusal
abbrev pub PutsRefusal : ℕ → Option (List ℕ) → Option (List ℕ) → Migration → Type 0
PutsRefusal number kept kept' ends.Done = ⊥
PutsRefusal number kept kept' (ends.TooLong line) = (line ≡ number) × Appends kept kept' (too_long_line number)
PutsRefusal number kept kept' ends.ReadFault = ⊥
PutsRefusal number kept kept' ends.WriteFault = AppendsShort kept kept' (too_long_line number)
PutsRefusal number kept kept' ends.Memory = AppendsPrefix kept kept' (too_long_line number)
