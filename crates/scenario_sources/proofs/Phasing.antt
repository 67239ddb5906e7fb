-- One source after a step that means it.
use Rattle.scenario_sources.proofs.Prelude.{◌≡◌, ◌≢◌, ◌<◌, ◌-◌, ℕ, Air, airs_exist, Bool, true, false, List, [], ◌∷◌, refl, sym, subst, option_or, ◌∙◌, ap, is_some, unwrap_or, option_map, if◌then◌else◌, arith, Option, None, Some, Result, Ok, Err, endpoint, BigInfo, Cipher, subgroups_in, with_cipher, without_cipher, airs_of, pdu_of, stale_of, waiting_of, Call, Setup, next_of, Source, StandsFor, Refusal, Order, Stop, Refused, Step, Ident, subgroups_of, GroupLine, cipher_of, event_back, pdu_in, absent, described, sending, phase_of, ident_of, is_ciphered, open_event, performed, setup_of, source_calls, stale_in, takes_units, is_over, Identity, Described, IsPlain, group_step, fault_in, misfit_refusal_of, AbsentIs, Becomes, DescribedIs, StartedIs, AreAirs, IsChecked, air_fault, answer_of, give_fault, misfit_of, refused_unit, air_refusal, give_refusal, no_place, relayed_or, SentIs, GivesTo, GiveStops}
use Rattle.std.specs.List.{range_with_len}
use Rattle.std.specs.Prelude.{map, IfNone, IfSome, OnSome}
use Rattle.iso_pdu.specs.Encoding.{pdu}
use Rattle.radio_schedule.specs.declared.air.AirFault.{AirFault}
use Rattle.source_machine.specs.Calls.{event as perform, last_of}
use Rattle.source_machine.specs.declared.sent.Stale.{Stale}
use Rattle.source_machine.specs.declared.fault.GiveFault.{GiveFault}
use Rattle.source_machine.specs.UnitFaults as faults
use Rattle.scenario_text.specs.declared.step.Step.TheVariants.{Cipher as CipherLine, Unit as UnitStep}
use Rattle.scenario_sources.specs.declared.phase.Phase.TheVariants as phases

same_line : (i j : BigInfo) (o p d e : ℕ) → i ≡ j → o ≡ p → d ≡ e
    → let one : GroupLine = record { info = i; origin = o; delay = d } in let other : GroupLine = record { info = j; origin = p; delay = e } in one ≡ other
same_line i j o p d e a b c = rw (a, b, c) refl

pub none_of : {A : Type 0} (o : Option A) → is_some o ≡ false → o ≡ None
none_of o e = grind arith

-- ---- group, ident, cipher

pub describes : (version : ℕ) (own : List Step) (info : BigInfo) (origin delay : ℕ) (new : Described) → IsPlain info
    → (phase_of own ≡ absent) × AbsentIs own → new.info ≡ info → new.origin ≡ origin → new.delay ≡ delay → new.identity ≡ None → new.base ≡ endpoint delay []
    → Becomes version own (group_step info origin delay) (phases.Described new) (Ok tt)
describes version own info origin delay new plain is i o d n b = grind (arith, same_line, without_cipher, endpoint, subgroups_in)

pub identifies : (version : ℕ) (own : List Step) (identity : Identity) (said new : Described) → (phase_of own ≡ described) × DescribedIs own said
    → is_some said.identity ≡ false → new.info ≡ said.info → new.origin ≡ said.origin → new.delay ≡ said.delay → new.base ≡ said.base → new.identity ≡ Some identity
    → Becomes version own (Ident identity.address_type identity.address identity.sid identity.broadcast_id) (phases.Described new) (Ok tt)
identifies version own identity said new is none i o d b n = grind (arith, ident_of, none_of, endpoint, subgroups_of)

pub encrypts : (version : ℕ) (own : List Step) (cipher : Cipher) (said new : Described) → (phase_of own ≡ described) × DescribedIs own said
    → is_some said.info.cipher ≡ false → new.info ≡ with_cipher said.info (Some cipher) → new.origin ≡ said.origin → new.delay ≡ said.delay → new.base ≡ said.base
    → new.identity ≡ said.identity → Becomes version own (CipherLine cipher.giv cipher.gskd) (phases.Described new) (Ok tt)
encrypts version own cipher said new is none i o d b n =
    grind (arith, cipher_of, none_of, same_line, without_cipher, endpoint, subgroups_of)

pub encrypted_twice : (version : ℕ) (own : List Step) (cipher : Cipher) (said : Described) → (phase_of own ≡ described) × DescribedIs own said
    → is_some said.info.cipher ≡ true → Becomes version own (CipherLine cipher.giv cipher.gskd) (phases.Described said) (Err (Refused Order))
encrypted_twice version own cipher said is some = grind (arith, is_ciphered, is_some)

-- ---- the air

pub heard : (own : List Step) (setup : Setup) (back bis subevent : ℕ) (pdu : List ℕ) → setup ≡ setup_of own
    → (air_fault setup (source_calls own) back bis subevent ≡ None)
    × (pdu_of setup (airs_of setup (source_calls own)) (next_of setup (source_calls own) - 1 - back) bis subevent ≡ Some pdu)
    → (no_place own back bis subevent ≡ None) × (pdu ≡ pdu_in airs_of own (event_back own back) bis subevent)
heard own setup back bis subevent pdu same both = grind (arith, setup_of, source_calls, pdu_of, airs_of, next_of, option_map, unwrap_or)

-- values that are all there
all_there : {A : Type 0} (none : A) (f : ℕ → Option A) (places : List ℕ) (xs : List A) → map Some xs ≡ map f places
    → xs ≡ map (λ i. unwrap_or (f i) none) places
all_there none f [] [] is = refl
all_there none f (place ∷ places) (x ∷ xs) is = grind (arith, all_there none f places xs)
all_there none f _ _ is = absurd cc

sends : (own : List Step) (setup : Setup) (bis : ℕ) (sent : List (List ℕ)) → setup ≡ setup_of own
    → ((s : ℕ) → s < setup.info.nse → air_fault setup (source_calls own) 0 bis s ≡ None)
    → map Some sent ≡ map (pdu_of setup (airs_of setup (source_calls own)) (next_of setup (source_calls own) - 1) bis) (range_with_len 0 setup.info.nse)
    → SentIs own bis (Some sent)
sends own setup bis sent same on_air is =
    let calls : List Call = source_calls own in
    let last : next_of setup calls - 1 ≡ next_of setup calls - 1 - 0 = omega arith in
    let all = all_there [] (pdu_of setup (airs_of setup calls) (next_of setup calls - 1) bis) (range_with_len 0 setup.info.nse) sent is in
    subst (λ s. ((subevent : ℕ) → subevent < s.info.nse → option_map air_refusal (air_fault s calls 0 bis subevent) ≡ None)
    × (sent ≡ map (λ i. unwrap_or (pdu_of s (airs_of s calls) (next_of s calls - 1 - 0) bis i) []) (range_with_len 0 s.info.nse))) same (
      λ s below. ap (option_map air_refusal) (on_air s below),
      all ∙ ap (λ e. map (λ i. unwrap_or (pdu_of setup (airs_of setup calls) e bis i) []) (range_with_len 0 setup.info.nse)) last,
    )

not_refused : (fault : Option AirFault) → option_map air_refusal fault ≡ None → fault ≡ None
not_refused fault is = grind arith

sends_not : (own : List Step) (setup : Setup) (bis : ℕ) → setup ≡ setup_of own → ((s : ℕ) → air_fault setup (source_calls own) 0 bis s ≢ None)
    → SentIs own bis None
sends_not own setup bis same none = λ s is. none s (not_refused (air_fault setup (source_calls own) 0 bis s)
    (ap (λ p. option_map air_refusal (air_fault p (source_calls own) 0 bis s)) same ∙ is))

pub sends_as : (own : List Step) (started : Source) (bis : ℕ) (r : Option (List (List ℕ))) → StartedIs own started → IsChecked started.setup.info
    → IfSome r (λ sent. (calls : List Call) (airs : List Air) → StandsFor calls started → AreAirs started.setup calls airs
    → map Some sent ≡ map (pdu_of started.setup airs (next_of started.setup calls - 1) bis) (range_with_len 0 started.setup.info.nse))
    → OnSome r ((calls : List Call) → StandsFor calls started → (s : ℕ) → s < started.setup.info.nse → air_fault started.setup calls 0 bis s ≡ None)
    → IfNone r ((calls : List Call) → StandsFor calls started → (s : ℕ) → air_fault started.setup calls 0 bis s ≢ None) → SentIs own bis r
sends_as own started bis None is checked sent on_air none = sends_not own started.setup bis is.setup (none (source_calls own) is.calls)
sends_as own started bis (Some pdus) is checked sent on_air none =
    let calls : List Call = source_calls own in
    sends own started.setup bis pdus is.setup (on_air calls is.calls) (sent calls (airs_of started.setup calls) is.calls (airs_exist started.setup calls checked))

-- ---- unit

pub gives_not : (old new : Source) (bis : ℕ) (time : Option ℕ) (octets : List ℕ) (fault : GiveFault) (stop : Stop) → new ≡ old
    → ((calls : List Call) → StandsFor calls old → give_fault old.setup calls (airs_of old.setup calls) bis time octets ≡ refused_unit fault)
    → GiveStops fault stop → GivesTo old bis time octets new (Err stop)
gives_not old new bis time octets fault stop same cause g = grind (arith, option_map)

pub gives : (version : ℕ) (own : List Step) (old new : Source) (bis : ℕ) (time : Option ℕ) (octets : List ℕ) (r : Result (Unit {0}) Stop)
    → (phase_of own ≡ sending) × StartedIs own old → is_some old.cipher ≡ false → new.identity ≡ old.identity
    → (new.base ≡ old.base) × (new.cipher ≡ old.cipher)
    → GivesTo old bis time octets new r → Becomes version own (UnitStep bis time octets) (phases.Sending new) r
gives version own old new bis time octets (Ok x) is plain identity said g =
    let given = g.1 (source_calls own) is.1.calls in let uncoded : is_ciphered own ≡ false = ap is_some (sym is.1.cipher) ∙ plain in (
      grind (arith, uncoded, option_map, source_calls, airs_of),
      grind arith,
    )
gives version own old new bis time octets (Err (Refused reason)) is plain identity said g = let uncoded : is_ciphered own ≡ false = ap is_some (sym is.1.cipher) ∙ plain in (
  grind (arith, uncoded, option_map, source_calls, airs_of),
  grind (arith, source_calls),
)
gives version own old new bis time octets (Err _) is plain identity said g = g

-- a unit that doesn't fit is refused for that, also where its stream has had a relay, and any other is Relayed
relayed_by : (a b c d : Bool) → relayed_or true (option_map give_refusal
    (if a then Some faults.NoSuchBis else (if b then Some faults.UnitTooLong else (if c then Some faults.TimeOrder else (if d then Some faults.Backlog else None)))))
    ≡ Some (misfit_refusal_of (option_map answer_of (if a then Some faults.NoSuchBis else (if b then Some faults.UnitTooLong else (if c then Some faults.TimeOrder else None)))))
relayed_by a b c d = grind arith

-- the group is encrypted
pub coded : (own : List Step) (started : Source) → (phase_of own ≡ sending) × StartedIs own started → is_some started.cipher ≡ true → takes_units own ≡ false
coded own started is some = let stands : is_ciphered own ≡ true = ap is_some (sym is.1.cipher) ∙ some in rw (is.0, stands) refl

pub uncoded : (own : List Step) (started : Source) → (phase_of own ≡ sending) × StartedIs own started → is_some started.cipher ≡ false → takes_units own ≡ true
uncoded own started is none = let plain : is_ciphered own ≡ false = ap is_some (sym is.1.cipher) ∙ none in rw (is.0, plain) refl

pub relays_not : (version : ℕ) (own : List Step) (started : Source) (bis : ℕ) (time : Option ℕ) (octets : List ℕ) (fault : Option GiveFault) (reason : Refusal)
    → (phase_of own ≡ sending) × StartedIs own started → is_some started.cipher ≡ false
    → fault ≡ option_map answer_of (misfit_of started.setup (source_calls own) bis time octets) → reason ≡ misfit_refusal_of fault
    → relayed_or true (fault_in version own (UnitStep bis time octets)) ≡ Some reason
relays_not version own started bis time octets fault reason is plain fits named = grind (arith, uncoded, relayed_by, waiting_of, airs_of)

-- both sources refuse nothing of a unit
pub lone_relayed : (refusal : Option Refusal) (reason : Refusal) → relayed_or true refusal ≡ Some reason → relayed_or true (option_or refusal None) ≡ Some reason
lone_relayed refusal reason is = grind arith

-- ---- event

pub left_out : (own : List Step) (setup : Setup) (stale : List Stale) → setup ≡ setup_of own
    → stale ≡ stale_of setup (source_calls own) (airs_of setup (perform ∷ source_calls own)) → stale ≡ stale_in airs_of own
left_out own setup stale same is = is ∙ ap (λ s. stale_of s (source_calls own) (airs_of s (perform ∷ source_calls own))) same

pub closed_is : (own : List Step) (setup : Setup) (closed : Option ℕ) → setup ≡ setup_of own → phase_of own ≡ sending → is_over own ≡ false
    → closed ≡ last_of setup (source_calls own) → closed ≡ open_event own
closed_is own setup closed same sends runs is = grind (arith, next_of, setup_of, source_calls, event_back, performed)
