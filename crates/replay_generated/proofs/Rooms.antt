-- A box that failed at a unit of the lines of a generated run.
use Rattle.std.proofs.Common.{arith}
use Rattle.replay_generated.proofs.Prelude.{◌∙◌, ap, List, [], ◌++◌, reverse, append_assoc, TextLine, Account, airs_of, RoomFor, SinkUnit, handed_on, units_of, Failure, failure, no_room_for, BoxFailed}
use Rattle.replay_generated.proofs.Runs.{units_all, units_line}

failed_in : (starts ends : List Account) (lines : List TextLine) → BoxFailed airs_of starts ends lines → Failure starts ends (units_of airs_of starts lines)
failed_in starts ends lines o =
    let f = o.fails in
    let us : List SinkUnit = units_of airs_of starts (reverse o.earlier) in
    let more = units_line starts o.earlier o.line o.later o.accepted.0 o.accepted.1 in
    failure starts ends o.accounts us (handed_on airs_of o.earlier o.line) (f.rest ++ more.0) (units_of airs_of starts lines) [] o.told
    o.before f (ap (units_of airs_of starts) o.comes ∙ grind (arith, handed_on, airs_of, units_all, append_assoc))

pub no_room : (starts ends : List Account) (lines : List TextLine) → BoxFailed airs_of starts ends lines → RoomFor starts (units_of airs_of starts lines) → ⊥
no_room starts ends lines o room = no_room_for starts ends (units_of airs_of starts lines) (failed_in starts ends lines o) room
