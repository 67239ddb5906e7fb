-- What a receiver of a framed stream holds, and what it hands as an event is closed.
use Rattle.std.specs.Prelude.{ℕ, ◌+◌, ◌≡◌, List, ◌++◌, take, drop, replicate, Option, None, Result, Ok, Err}
use Rattle.std.specs.List.{flat_map}
use Rattle.iso_pdu.specs.Layout.{Part}
use Rattle.unit_outlets.specs.Handed.{Handed, HandsOver, Counts, Caused}
use Rattle.unit_outlets.specs.declared.fault.TakerFault.{TakerFault}
use Rattle.isoal_base.specs.Stays.{Stay, Call, StandsFor}
use Rattle.isoal_base.specs.Hearing.{read_as, kept_after}
use Rattle.isoal_framed.specs.Histories.{undecided_in}
use Rattle.isoal_framed.specs.Tokens.{Token, segmented, tokens_of}
use Rattle.isoal_framed.specs.Units.{Run}
use Rattle.isoal_framed.specs.State.Joining.{hands, run_after}

-- the stay, the open event, what is kept of each number of the window from the first number of the open event on, and the
-- start that isn't decided
pub record Window : Type 0 where
  pub stay : Stay
  pub event : ℕ
  pub kept : List (Option (List Part))
  pub run : Option Run

-- the window is that of these calls
pub record Stands (calls : List Call) (window : Window) : Type 0 where
  pub hearing : StandsFor (read_as segmented window.stay.info.max_pdu) window.stay calls window.event window.kept
  pub run : window.run ≡ undecided_in window.stay calls

-- the window after a PDU is heard, and after the open event is closed
abbrev pub after_hear : ℕ → List ℕ → Window → Window
after_hear number octets window =
    record window { kept = kept_after segmented window.stay.info window.event window.kept number octets }

-- the tokens of the open event
abbrev pub tokens_in : Window → List Token
tokens_in window = flat_map (tokens_of window.stay window.event) (take window.stay.info.bn window.kept)

abbrev pub after_close : Window → Window
after_close window = record window {
  event = window.event + 1;
  kept = drop window.stay.info.bn window.kept ++ replicate window.stay.info.bn None;
  run = run_after window.stay.info.max_sdu window.run (tokens_in window);
}

abbrev pub owed : Window → List Handed
owed window = hands window.stay.info.max_sdu window.stay.bis window.run (tokens_in window)

-- the same where the taker was called before: once it has refused a unit it is not called any more
abbrev pub HandsOn : List Handed → Result (Unit {0}) TakerFault → List Handed → List Handed → Result (Unit {0}) TakerFault → Type 0
HandsOn units (Ok _) old new result = HandsOver units old new result
HandsOn units (Err fault) old new result = (result ≡ Err fault) × (new ≡ old)

abbrev pub CausedOn : Result (Unit {0}) TakerFault → Counts → Counts → Result (Unit {0}) TakerFault → Type 0
CausedOn (Ok _) old new result = Caused old new result
CausedOn (Err fault) old new result = (result ≡ Err fault) × (new ≡ old)
