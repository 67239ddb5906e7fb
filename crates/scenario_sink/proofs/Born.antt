-- A new sink.
use Rattle.scenario_sink.proofs.Prelude.{ℕ, ◌≡◌, [], ◌∷◌, List, Option, Some, None, refl, ◌∙◌, subst, slice_index_or, ne_eqb, Halves, StandsFor, mtu_set, Settings, Setup, waiting_goes_on, is_joined, stepped, link_at, linked, mtu_of, slots_of, Linked, joining, Links, SinkHistory, new_sink, OnLink, HasStepped, Stands, after_call, its_mtu, arith}
use Rattle.delegator_history.specs.States.{answered}
use Rattle.group_sink.specs.Calls as sinks
use Rattle.scenario_sink.proofs.Fresh.{first_holds}
use Rattle.scenario_sink.proofs.Stands.{Tells, no_notices, on_none, on_some, settled, waiting_is}

-- link 0 is joined, and no other
abbrev its_links : ℕ → Option ℕ → List (Option Linked)
its_links slots mtu = Some (record { waiting = []; assistant = joining slots mtu }) ∷ None ∷ None ∷ None ∷ []

fresh : (slots : ℕ) (mtu : Option ℕ) (link : ℕ) → OnLink slots mtu (is_joined link []) [] [] (slice_index_or (its_links slots mtu) link None)
fresh slots mtu link = grind (arith, on_some, first_holds, on_none, ne_eqb)

on_each : (made : Settings) (links : Links) → linked links ≡ its_links made.setup.slots made.mtu → (link : ℕ)
    → OnLink made.setup.slots made.mtu (is_joined link []) [] [] (link_at links link)
on_each made links are link = grind (arith, fresh made.setup.slots made.mtu link)

-- before its MTU was set
abbrev unset : Setup → Option ℕ → SinkHistory
unset setup mtu = record { made = record { setup = setup; mtu = mtu }; source = None; calls_made = []; received = [] }

alone : (setup : Setup) (mtu : ℕ) → (after_call (stepped (mtu_set mtu)) (unset setup (Some mtu))).received ≡ []
unfolding answered
alone setup mtu = refl

pub born_stands : Tells → (setup : Setup) (mtu : Option ℕ) (d : Halves) (links : Links) → StandsFor setup (its_mtu mtu) d
    → slots_of links ≡ setup.slots → mtu_of links ≡ mtu → linked links ≡ its_links setup.slots mtu → Stands (new_sink (record { setup = setup; mtu = mtu })) d links
born_stands tells setup None d links stands slots_are mtu_are are = record {
  took = grind arith;
  none_waits = waiting_is setup [] d stands;
  each = on_each (record { setup = setup; mtu = None }) links are;
}
born_stands tells setup (Some mtu) d links stands slots_are mtu_are are =
    let no_value = no_notices setup (mtu_set mtu) [] (λ i. refl) in
    let so : HasStepped (stepped (mtu_set mtu)) (unset setup (Some mtu)) d links = record {
      took = record {
        taken = its_mtu (Some mtu);
        stands = stands;
        own = refl;
        received_is = refl;
        settings_is = (λ i. record { setup = stands.setup_is i; mtu = stands.steps.mtu i });
        links_slots = slots_are;
        links_mtu = mtu_are;
        octets = (tt, tt);
        first = refl;
      };
      is_step = tt;
      waiting = waiting_is setup (its_mtu (Some mtu)) d stands ∙ waiting_goes_on setup (mtu_set mtu) [];
      each = on_each (record { setup = setup; mtu = Some mtu }) links are;
    } in
    subst (λ (history : List sinks.Call). Stands (record (new_sink (record { setup = setup; mtu = Some mtu })) { received = history }) d links) (alone setup mtu)
    (settled tells (stepped (mtu_set mtu)) (unset setup (Some mtu)) d links so (so.waiting ∙ no_value))
