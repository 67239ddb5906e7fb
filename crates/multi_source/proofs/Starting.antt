-- A source that was started, in its place beside the other one.
use Rattle.multi_source.proofs.Prelude.{ℕ, ◌≡◌, ◌∙◌, [], ◌∷◌, ◌++◌, List, Option, Some, None, ap, sym, refl, subst, OnAir, silence, Setup, Call, event, next_of, Configured, IsChecked, started, keep_last, Air, AreAirs, Sends, stale_of, Begun, IsOfGroup, IsOnAir, Sending, Starts}
use Rattle.source_machine.specs.State.Sources.{Source, StandsFor as SourceStands}
use Rattle.std.proofs.lemmas.Option.{same_Some}
use Rattle.source_machine.specs.declared.sent.Stale.{Stale}
use Rattle.source_machine.specs.Faults.{event_fault}
use Rattle.multi_source.proofs.Airing.{event_on_air, silent}

of_silence : (setup : Setup) (air : OnAir) → air ≡ silence setup.info → IsOfGroup setup air
of_silence setup air is = record { streams = ap (λ (a : OnAir). a.num_bis) is; subevents = ap (λ (a : OnAir). a.nse) is }

pub starts : (setup : Configured) (first : ℕ) (place : Option Source) (since : Option Begun) (source : Source) (begun : Begun) → place ≡ Some source → since ≡ Some begun
    → source.identity ≡ setup.identity → (source.base ≡ setup.base) × (source.cipher ≡ setup.cipher) → source.setup ≡ started setup first → SourceStands [] source
    → begun.identity ≡ setup.identity → begun.air ≡ silence setup.info → Starts setup first place since
starts setup first place since source begun source_is begun_is identity announced setup_is stands named air = record {
  sending = record {
    source = source;
    source_is = source_is;
    setup_is = setup_is;
    stands = stands;
    begun = begun;
    begun_is = begun_is;
    air = silent (started setup first) begun.air (of_silence (started setup first) begun.air air) (ap (λ (a : OnAir). a.events) air);
  };
  source = identity;
  base = announced.0;
  cipher = announced.1;
  begun = named;
}

-- a source and its air after its next event
pub performed : (setup : Setup) (calls : List Call) (old new : Source) (before after : Begun) (pdus : List (List ℕ)) → IsChecked old.setup.info
    → new.setup ≡ old.setup → after.air ≡ record before.air { events = keep_last 32 (before.air.events ++ pdus ∷ []) }
    → ((c : List Call) → SourceStands c old → (event_fault old.setup c ≡ None) × SourceStands (event ∷ c) new)
    → ((c : List Call) (airs : List Air) → SourceStands c old → AreAirs old.setup (event ∷ c) airs → Sends old.setup airs old.next pdus)
    → Sending setup calls (Some old) (Some before)
    → (event_fault setup calls ≡ None) × Sending setup (event ∷ calls) (Some new) (Some after)
performed setup calls old new before after pdus checked same pushed stands sends sending =
    let source : sending.source ≡ old = sym (same_Some old sending.source sending.source_is) in
    let begun : sending.begun ≡ before = sym (same_Some before sending.begun sending.begun_is) in
    let setup_is : old.setup ≡ setup = sym (ap (λ (s : Source). s.setup) source) ∙ sending.setup_is in
    let standing : SourceStands calls old = subst (SourceStands calls) source sending.stands in
    let on : IsOnAir setup calls before.air = subst (λ (b : Begun). IsOnAir setup calls b.air) begun sending.air in
    let next : old.next ≡ next_of setup calls = standing.next ∙ ap (λ s. next_of s calls) setup_is in (
      subst (λ s. event_fault s calls ≡ None) setup_is (stands calls standing).0,
      record {
        source = new;
        source_is = refl;
        setup_is = same ∙ setup_is;
        stands = (stands calls standing).1;
        begun = after;
        begun_is = refl;
        air = subst (IsOnAir setup (event ∷ calls)) (sym pushed)
            (event_on_air setup calls before.air pdus (subst (λ (s : Setup). IsChecked s.info) setup_is checked) on
            (λ airs are. subst (λ at. Sends setup airs at pdus) next (subst (λ (s : Setup). Sends s airs old.next pdus) setup_is
            (sends calls airs standing (subst (λ s. AreAirs s (event ∷ calls) airs) (sym setup_is) are)))));
      },
    )

-- what is told of it as left out
pub tells : (setup : Setup) (calls : List Call) (airs : List Air) (old : Source) (since : Option Begun) (told : List Stale)
    → ((c : List Call) (all : List Air) → SourceStands c old → AreAirs old.setup (event ∷ c) all → told ≡ stale_of old.setup c all)
    → Sending setup calls (Some old) since → AreAirs setup (event ∷ calls) airs → told ≡ stale_of setup calls airs
tells setup calls airs old since told says sending are =
    let source : sending.source ≡ old = sym (same_Some old sending.source sending.source_is) in
    let setup_is : old.setup ≡ setup = sym (ap (λ (s : Source). s.setup) source) ∙ sending.setup_is in
    let standing : SourceStands calls old = subst (SourceStands calls) source sending.stands in
    subst (λ s. told ≡ stale_of s calls airs) setup_is (says calls airs standing (subst (λ s. AreAirs s (event ∷ calls) airs) (sym setup_is) are))
