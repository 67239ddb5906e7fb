-- Scenarios with writes, reads and forged notices, worked by hand: their steps, the newest first, and what they print of
-- their sink. The lines are this project's own.
use Rattle.std.specs.Prelude.{ℕ, ◌≡◌, List, [], ◌∷◌, ◌++◌, reverse, take, Some, None, codes, decimal}
use Rattle.scenario_words.specs.Digits.{digits}
use Rattle.scenario_text.specs.declared.step.Step.{Step}
use Rattle.scenario_text.specs.declared.step.Step.TheVariants as steps
use Rattle.transcript_text.specs.Lines.{line_of}
use Rattle.sink_history.specs.History.{World}
use Rattle.sink_history.specs.Output.{Lines, printed}
use Rattle.sink_history.specs.Rows.{an_add, its_value}

-- ---- writes that are refused by a new sink

abbrev pub after_write : World → List ℕ → Lines
after_write world octets = printed world (steps.Write 0 octets ∷ steps.Sink 0 1 1 None ∷ steps.Scenario 1 ∷ []) (steps.Serve 0)

abbrev pub refused_with : (code : ℕ) → List ℕ → Lines
refused_with code cause = line_of (codes "reply") (decimal 0 ∷ digits (code ∷ []) ∷ cause ∷ []) ∷ []

-- the Add Source with a PA_Sync that is reserved
abbrev pub a_reserved_add : List ℕ
a_reserved_add = take 12 an_add ++ 0x03 ∷ 0xff ∷ 0xff ∷ 0x01 ∷ 0xff ∷ 0xff ∷ 0xff ∷ 0xff ∷ 0x00 ∷ []

pub record RefusedWrites (world : World) : Type 0 where
  pub remove_unknown : after_write world (0x05 ∷ 0x05 ∷ []) ≡ refused_with 0x81 (codes "SourceUnknown")
  pub modify_unknown : after_write world (0x03 ∷ 0x07 ∷ 0x00 ∷ 0xff ∷ 0xff ∷ 0x00 ∷ []) ≡ refused_with 0x81 (codes "SourceUnknown")
  pub no_opcode : after_write world (0x06 ∷ []) ≡ refused_with 0x80 (codes "Opcode")
  pub empty : after_write world [] ≡ refused_with 0xfc (codes "Empty")
  pub short : after_write world (0x02 ∷ []) ≡ refused_with 0xfc (codes "Length")
  pub long : after_write world (0x05 ∷ 0x02 ∷ 0xff ∷ []) ≡ refused_with 0xfc (codes "Length")
  pub reserved : after_write world a_reserved_add ≡ refused_with 0xfc (codes "Rfu")

-- ---- a link with an MTU of 23, on which a notice has at most 20 octets

abbrev pub read_of : List ℕ → List Step
read_of octets = reverse (
    steps.Scenario 1 ∷ steps.Sink 0 1 1 (Some 23) ∷ steps.Write 0 octets ∷ steps.Serve 0 ∷ steps.Tell 0 ∷ steps.Show 0 ∷ steps.Drain 0 ∷ steps.Show 0 ∷ [])

-- a value of which the notice has the first 20 octets, and which is the view only once it was read
abbrev pub read_lines_of : List ℕ → Lines
read_lines_of value =
    line_of (codes "reply") (decimal 0 ∷ codes "ok" ∷ [])
    ∷ line_of (codes "notice") (decimal 0 ∷ decimal 0 ∷ digits (take 20 value) ∷ [])
    ∷ line_of (codes "state") (decimal 0 ∷ decimal 0 ∷ digits value ∷ [])
    ∷ line_of (codes "view") (decimal 0 ∷ decimal 0 ∷ digits [] ∷ [])
    ∷ line_of (codes "read") (decimal 0 ∷ decimal 0 ∷ digits value ∷ [])
    ∷ line_of (codes "state") (decimal 0 ∷ decimal 0 ∷ digits value ∷ [])
    ∷ line_of (codes "view") (decimal 0 ∷ decimal 0 ∷ digits value ∷ []) ∷ []

-- the Add Source with an octet of metadata, and the value of the slot then
abbrev pub a_longer_add : List ℕ
a_longer_add = take 20 an_add ++ 0x01 ∷ 0xaa ∷ []

abbrev pub longer_value : List ℕ
longer_value = take 19 its_value ++ 0x01 ∷ 0xaa ∷ []

-- ---- forged notices

abbrev pub forged : List Step
forged = reverse (
    steps.Scenario 1 ∷ steps.Sink 0 1 1 None ∷ steps.Forge 0 0 its_value ∷ steps.Forge 0 1 [] ∷ steps.Forge 0 0 (0x00 ∷ []) ∷ steps.Show 0 ∷ steps.Forge 0 0 []
    ∷ steps.Show 0 ∷ [])

abbrev pub forged_lines : Lines
forged_lines =
    line_of (codes "forged") (decimal 0 ∷ codes "ok" ∷ [])
    ∷ line_of (codes "forged") (decimal 0 ∷ codes "NoSuchSlot" ∷ [])
    ∷ line_of (codes "forged") (decimal 0 ∷ codes "BadNotice" ∷ decimal 1 ∷ [])
    ∷ line_of (codes "state") (decimal 0 ∷ decimal 0 ∷ digits [] ∷ [])
    ∷ line_of (codes "view") (decimal 0 ∷ decimal 0 ∷ digits its_value ∷ [])
    ∷ line_of (codes "forged") (decimal 0 ∷ codes "ok" ∷ [])
    ∷ line_of (codes "state") (decimal 0 ∷ decimal 0 ∷ digits [] ∷ [])
    ∷ line_of (codes "view") (decimal 0 ∷ decimal 0 ∷ digits [] ∷ []) ∷ []
