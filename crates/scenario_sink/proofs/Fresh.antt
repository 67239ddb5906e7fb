-- An assistant that just joined.
use Rattle.scenario_sink.proofs.Prelude.{ℕ, false, List, [], ◌∷◌, Option, Some, None, refl, Acts, asking, joining, LinkHolds, arith}
use Rattle.assistant_machine.specs.Calls.{Call, all_asked, limited}
use Rattle.assistant_machine.specs.State.Assistants.{StandsFor, joined}
use Rattle.assistant_machine.proofs.Citable.{all_stands, fresh, length_replicate, limited_stands}
use Rattle.assistant_machine.specs.Links as links

-- it was told its MTU, where there is one
abbrev its_calls : Option ℕ → List Call
its_calls None = []
its_calls (Some mtu) = limited mtu ∷ []

joining_stands : (slots : ℕ) (mtu : Option ℕ) → StandsFor slots (its_calls mtu) (joining slots mtu)
joining_stands slots None = fresh slots
joining_stands slots (Some mtu) = limited_stands slots mtu [] (joined slots) (fresh slots)

asking_stands : (slots : ℕ) (mtu : Option ℕ) → StandsFor slots (all_asked ∷ its_calls mtu) (asking slots mtu).assistant
asking_stands slots mtu =
    grind (arith, length_replicate slots false, all_stands slots (its_calls mtu) (joining slots mtu) (joining_stands slots mtu))

-- on link 0 of a new sink
pub first_holds : (slots : ℕ) (mtu : Option ℕ) → LinkHolds slots mtu [] [] (record { waiting = []; assistant = joining slots mtu })
first_holds slots None = record {
  taken = [];
  assistant = joining_stands slots None;
  heard = tt;
  mtu_is = refl;
  writes_are = refl;
  views = λ slot. refl;
  reads = λ slot. refl;
  notices = refl;
}
first_holds slots (Some mtu) = record {
  taken = limited mtu ∷ [];
  assistant = joining_stands slots (Some mtu);
  heard = (tt, tt);
  mtu_is = refl;
  writes_are = refl;
  views = λ slot. refl;
  reads = λ slot. refl;
  notices = refl;
}

-- on a link that is joined anew
pub anew_holds : (slots : ℕ) (mtu : Option ℕ) (acts : Acts) → LinkHolds slots mtu (links.joined ∷ acts) [] (asking slots mtu)
anew_holds slots None acts = record {
  taken = all_asked ∷ [];
  assistant = asking_stands slots None;
  heard = (tt, tt);
  mtu_is = refl;
  writes_are = refl;
  views = λ slot. refl;
  reads = λ slot. refl;
  notices = refl;
}
anew_holds slots (Some mtu) acts = record {
  taken = all_asked ∷ limited mtu ∷ [];
  assistant = asking_stands slots (Some mtu);
  heard = (tt, (tt, tt));
  mtu_is = refl;
  writes_are = refl;
  views = λ slot. refl;
  reads = λ slot. refl;
  notices = refl;
}
