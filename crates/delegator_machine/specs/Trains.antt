-- A train, by the parts that a sink hears of it (Basic Audio Profile 1.0, section 3.7.2).
use Rattle.std.specs.Prelude.{ℕ, List}
use Rattle.delegator_history.specs.Trains.{Train}

abbrev pub train_of : (address_type sid : ℕ) → (ext adv acad : List ℕ) → (now : ℕ) → Train
train_of address_type sid ext adv acad now = record { address_type = address_type; sid = sid; ext = ext; adv = adv; acad = acad; now = now }
