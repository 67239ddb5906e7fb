-- The boxes that the program begins with. The program is this project's own.
use Rattle.std.specs.Prelude.{true, List, replicate, None}
use Rattle.unit_outlets.specs.Account.{Account, fresh}

-- eight sound boxes that took nothing yet and keep no unit
abbrev pub fresh_boxes : List Account
fresh_boxes = replicate 8 (fresh true 0 None)
