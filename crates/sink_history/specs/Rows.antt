-- Scenarios worked by hand: their steps, the newest first, and what they print of their sinks. The lines are this project's
-- own.
use Rattle.std.specs.Prelude.{ℕ, ◌≡◌, List, [], ◌∷◌, reverse, Some, None, codes, decimal}
use Rattle.scenario_words.specs.Digits.{digits}
use Rattle.scenario_text.specs.declared.step.Step.{Step}
use Rattle.scenario_text.specs.declared.step.Step.TheVariants as steps
use Rattle.transcript_text.specs.Lines.{line_of}
use Rattle.transcript_text.specs.declared.refusal.Refusal.TheVariants.{LinkTwice, NoSuchLink, NothingWaiting}
use Rattle.sink_history.specs.History.{World}
use Rattle.sink_history.specs.Output.{Lines, out_of}
use Rattle.sink_history.specs.Refusals.{first_refusal, refusal_of}

-- none of these steps, the newest first, is refused, and this is what they print
pub record Prints (world : World) (made : List Step) (lines : Lines) : Type 0 where
  pub accepted : first_refusal world made ≡ None
  pub printed : out_of world made ≡ lines

-- an Add Source: address 66:55:44:33:22:11 as it is sent, SID 3, to be followed without PAST, and no subgroup
abbrev pub an_add : List ℕ
an_add =
    0x02 ∷ 0x00 ∷ 0x66 ∷ 0x55 ∷ 0x44 ∷ 0x33 ∷ 0x22 ∷ 0x11 ∷ 0x03 ∷ 0x56 ∷ 0x34 ∷ 0x12 ∷ 0x02 ∷ 0xff ∷ 0xff ∷ 0x01 ∷ 0xff ∷ 0xff ∷ 0xff ∷ 0xff ∷ 0x00 ∷ []

-- the value that the slot has then
abbrev pub its_value : List ℕ
its_value =
    0x00 ∷ 0x00 ∷ 0x66 ∷ 0x55 ∷ 0x44 ∷ 0x33 ∷ 0x22 ∷ 0x11 ∷ 0x03 ∷ 0x56 ∷ 0x34 ∷ 0x12 ∷ 0x00 ∷ 0x00 ∷ 0x01 ∷ 0x00 ∷ 0x00 ∷ 0x00 ∷ 0x00 ∷ 0x00 ∷ []

-- a source that is added twice, of which the first adding is told
abbrev pub known_source : List Step
known_source = reverse (
    steps.Scenario 1 ∷ steps.Sink 0 1 1 None ∷ steps.Write 0 an_add ∷ steps.Serve 0 ∷ steps.Write 0 an_add ∷ steps.Serve 0 ∷ steps.Tell 0 ∷ [])

abbrev pub known_source_lines : Lines
known_source_lines =
    line_of (codes "reply") (decimal 0 ∷ codes "ok" ∷ [])
    ∷ line_of (codes "reply") (decimal 0 ∷ digits (0xfc ∷ []) ∷ codes "Known" ∷ [])
    ∷ line_of (codes "notice") (decimal 0 ∷ decimal 0 ∷ digits its_value ∷ []) ∷ []

-- an assistant that was there and one that comes later, of a sink whose first assistant hasn't been told yet
abbrev pub second_assistant : List Step
second_assistant = reverse (
    steps.Scenario 2 ∷ steps.Sink 0 1 1 None ∷ steps.Assist 0 1 ∷ steps.Write 0 an_add ∷ steps.Serve 0 ∷ steps.ADrain 0 1 ∷ steps.AShow 0 1 ∷ steps.Assist 0 2
    ∷ steps.ADrain 0 2 ∷ steps.AShow 0 2 ∷ steps.Show 0 ∷ [])

abbrev pub second_assistant_lines : Lines
second_assistant_lines =
    line_of (codes "reply") (decimal 0 ∷ codes "ok" ∷ [])
    ∷ line_of (codes "anotice") (decimal 0 ∷ decimal 1 ∷ decimal 0 ∷ digits its_value ∷ [])
    ∷ line_of (codes "aread") (decimal 0 ∷ decimal 1 ∷ decimal 0 ∷ digits its_value ∷ [])
    ∷ line_of (codes "aview") (decimal 0 ∷ decimal 1 ∷ decimal 0 ∷ digits its_value ∷ [])
    ∷ line_of (codes "aread") (decimal 0 ∷ decimal 2 ∷ decimal 0 ∷ digits its_value ∷ [])
    ∷ line_of (codes "aview") (decimal 0 ∷ decimal 2 ∷ decimal 0 ∷ digits its_value ∷ [])
    ∷ line_of (codes "state") (decimal 0 ∷ decimal 0 ∷ digits its_value ∷ [])
    ∷ line_of (codes "view") (decimal 0 ∷ decimal 0 ∷ digits [] ∷ []) ∷ []

-- an assistant that parts and joins again: its view begins anew, and the read of the slot waits
abbrev pub parted : List Step
parted = reverse (
    steps.Scenario 2 ∷ steps.Sink 0 1 1 None ∷ steps.Assist 0 1 ∷ steps.Write 0 an_add ∷ steps.Serve 0 ∷ steps.Apart 0 1 ∷ steps.Assist 0 1 ∷ steps.AShow 0 1
    ∷ steps.ADrain 0 1 ∷ steps.AShow 0 1 ∷ [])

abbrev pub parted_lines : Lines
parted_lines =
    line_of (codes "reply") (decimal 0 ∷ codes "ok" ∷ [])
    ∷ line_of (codes "aview") (decimal 0 ∷ decimal 1 ∷ decimal 0 ∷ digits [] ∷ [])
    ∷ line_of (codes "aread") (decimal 0 ∷ decimal 1 ∷ decimal 0 ∷ digits its_value ∷ [])
    ∷ line_of (codes "aview") (decimal 0 ∷ decimal 1 ∷ decimal 0 ∷ digits its_value ∷ []) ∷ []

-- behind it no write waits on link 1, which is joined, and link 2 isn't
pub record PartedRefuses (world : World) : Type 0 where
  pub none_waits : refusal_of world parted (steps.AServe 0 1) ≡ Some NothingWaiting
  pub twice : refusal_of world parted (steps.Assist 0 1) ≡ Some LinkTwice
  pub no_link : refusal_of world parted (steps.AServe 0 2) ≡ Some NoSuchLink
