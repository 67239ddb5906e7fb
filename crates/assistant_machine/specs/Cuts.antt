-- A value that may have been cut has to be read: one that fills a notification.
use Rattle.std.specs.Prelude.{ℕ, ◌-◌, nat_le, Bool, false, List, length, Option, Some, None}

-- a value that may have been cut asks for a read; any other tells what there is
abbrev pub asks : Option ℕ → List ℕ → Bool
asks None value = false
asks (Some mtu) value = nat_le (mtu - 3) (length value)
