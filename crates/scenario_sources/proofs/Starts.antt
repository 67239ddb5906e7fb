-- The start of a source: why it is refused, and what it begins with.
use Rattle.scenario_sources.proofs.Prelude.{ℕ, ◌≡◌, ◌≤◌, nat_lt, not, Bool, true, false, cond, List, [], ◌∷◌, length, Option, None, Some, Err, refl, sym, ap, is_some, unwrap_or, ◌∙◌, option_or, false≢true, none-some, finish_fault, is_empty_last, last_of, size_fault, Endpoint, endpoint, encoding, Subgroup, BigInfo, Setup, without_cipher, Source, StandsFor, Refusal, BadGroup, BaseTooLong, Order, Stop, Refused, Step, Start, base_from, base_of, has_subgroup, is_base_too_long, is_last_bare, subgroups_of, refuse_if, GroupLine, checked_info, described, identity_of, is_ahead_in, is_described_at, no_identity, phase_of, is_unbegun_at, running, stage_of, neither, fails_not, fault_in, Identity, identity_or_none, Described, Becomes, Begins, DescribedIs, MayStart, StartedIs, line_of, arith, plain_is_small, ConfigureFails, group_refusal, is_long, FinishStops, Finishes, StartStops}
use Rattle.base_grammar.specs.declared.fault.DraftFault.TheVariants as of_draft
use Rattle.big_info.specs.Rows.{first_fault}
use Rattle.big_info.specs.declared.fault.GroupFault.{GroupFault}
use Rattle.big_info.specs.declared.fault.GroupFault.TheVariants as of_group
use Rattle.announcement_train.specs.PlainBase.{plain_base_of}
use Rattle.source_machine.specs.declared.fault.ConfigureFault.{ConfigureFault}
use Rattle.source_machine.specs.declared.fault.ConfigureFault.TheVariants.{BadGroup as Misfit}
use Rattle.sink_history.specs.History.{horizon_in}
use Rattle.scenario_sources.specs.declared.phase.Phase.{Phase as Phases}
use Rattle.scenario_sources.specs.declared.phase.Phase.TheVariants as phases
use Rattle.scenario_sources.specs.State.Phases.{is_described as is_described_phase}
use Rattle.scenario_sources.proofs.Drafts.{has_last}

abbrev DescribedSo : List Step → Described → Type 0
DescribedSo own said = (phase_of own ≡ described) × DescribedIs own said

-- ---- the refusals

checked_is : (own : List Step) (said : Described) → DescribedIs own said → checked_info own ≡ said.info
checked_is own said is = rw (is.group, ← is.cipher) refl

base_is : (own : List Step) (said : Described) → DescribedIs own said → base_of own ≡ base_from (line_of said) (subgroups_of own)
base_is own said is = rw is.group refl

start_fault : (version first horizon : ℕ) (own : List Step) (said : Described) (g : Option Refusal) → horizon ≡ horizon_in version → DescribedSo own said
    → is_last_bare own ≡ false → g ≡ group_refusal (first_fault horizon said.info)
    → fault_in version own (Start first) ≡ option_or g (refuse_if (is_base_too_long own) BaseTooLong)
start_fault version first horizon own said g h is bare e = grind (arith, is.0, checked_is own said is.1)

bare_own : (own : List Step) (said : Described) (bare : Bool) → DescribedIs own said → bare ≡ is_empty_last (last_of said.base.subgroups) → bare ≡ is_last_bare own
bare_own own said bare is e = e ∙ ap (λ (v : Endpoint). is_empty_last (last_of v.subgroups)) is.base

pub start_bare : (version first : ℕ) (own : List Step) (said : Described) (bare : Bool) → DescribedSo own said → bare ≡ is_empty_last (last_of said.base.subgroups)
    → bare ≡ true → fault_in version own (Start first) ≡ Some Order
start_bare version first own said bare is e t = grind (arith, is_last_bare, bare_own)

pub start_bad : (version first horizon : ℕ) (own : List Step) (said : Described) (bare : Bool) (reason : Refusal) → horizon ≡ horizon_in version → DescribedSo own said
    → bare ≡ is_empty_last (last_of said.base.subgroups) → bare ≡ false → Some reason ≡ group_refusal (first_fault horizon said.info)
    → fault_in version own (Start first) ≡ Some reason
start_bad version first horizon own said bare reason h is e f g = start_fault version first horizon own said (Some reason) h is (sym (bare_own own said bare is.1 e) ∙ f) g

-- ---- the size of its BASE

long_closed : (bare : Bool) (octets : ℕ) → bare ≡ false → is_long (size_fault (cond bare (Some of_draft.NoBis) None) octets) ≡ nat_lt 252 octets
long_closed bare octets f = grind (arith, false≢true, nat_lt)

-- the draft of a BASE that was said has too many octets exactly where the BASE has
long_said : (group : GroupLine) (ss : List Subgroup) → is_empty_last (last_of ss) ≡ false → is_some (last_of ss) ≡ true
    → is_long (finish_fault (endpoint group.delay ss)) ≡ nat_lt 252 (length (encoding (base_from group ss)))
long_said group ss bare has = grind (arith, false≢true, long_closed, is_empty_last, last_of, length, encoding, endpoint)

too_long : (group : GroupLine) (ss : List Subgroup) → is_empty_last (last_of ss) ≡ false → is_long (finish_fault (endpoint group.delay ss)) ≡ true
    → nat_lt 252 (length (encoding (base_from group ss))) ≡ true
too_long group ss bare long = grind (arith, false≢true, long_closed, is_empty_last, last_of, length, encoding, endpoint)

none_said : (group : GroupLine) (ss : List Subgroup) → group.info.num_bis ≤ 31 → is_some (last_of ss) ≡ false → nat_lt 252 (length (encoding (base_from group ss))) ≡ false
none_said group ss few none = grind (arith, plain_is_small, false≢true, has_last)

draft_is : (own : List Step) (said : Described) → DescribedIs own said → finish_fault said.base ≡ finish_fault (endpoint said.delay (subgroups_of own))
draft_is own said is = ap finish_fault is.base

pub start_long : (version first horizon : ℕ) (own : List Step) (said : Described) (bare long : Bool) → horizon ≡ horizon_in version → DescribedSo own said
    → bare ≡ is_empty_last (last_of said.base.subgroups) → bare ≡ false → None ≡ group_refusal (first_fault horizon said.info)
    → long ≡ is_long (finish_fault said.base) → long ≡ true → fault_in version own (Start first) ≡ Some BaseTooLong
start_long version first horizon own said bare long h is e f g l t =
    grind (
      arith,
      bare_own own said bare is.1 e,
      base_is own said is.1,
      too_long (line_of said) (subgroups_of own),
      draft_is own said is.1,
      start_fault version first horizon own said None h is,
    )

-- ---- it may be started

has_own : (own : List Step) (said : Described) (has : Bool) → DescribedIs own said → has ≡ is_some (last_of said.base.subgroups) → has ≡ has_subgroup own
has_own own said has is e = e ∙ ap (λ (v : Endpoint). is_some (last_of v.subgroups)) is.base

pub may_start_said : (version first horizon : ℕ) (own : List Step) (said : Described) (bare long has : Bool) → horizon ≡ horizon_in version → DescribedSo own said
    → bare ≡ is_empty_last (last_of said.base.subgroups) → bare ≡ false → None ≡ group_refusal (first_fault horizon said.info)
    → long ≡ is_long (finish_fault said.base) → long ≡ false → has ≡ is_some (last_of said.base.subgroups) → has ≡ true → MayStart version first own None
may_start_said version first horizon own said bare long has h is e f g l n k t =
    let closed : is_last_bare own ≡ false = sym (bare_own own said bare is.1 e) ∙ f in
    let some : has_subgroup own ≡ true = sym (has_own own said has is.1 k) ∙ t in
    grind (
      arith,
      base_is own said is.1,
      long_said (line_of said) (subgroups_of own),
      draft_is own said is.1,
      start_fault version first horizon own said None h is closed g,
    )

no_subgroups : (group : GroupLine) (ss : List Subgroup) → is_some (last_of ss) ≡ false → base_from group ss ≡ plain_base_of group.delay group.info.num_bis
no_subgroups group ss none = grind (arith, false≢true, has_last)

pub may_start_plain : (version first horizon : ℕ) (own : List Step) (said : Described) (bare has : Bool) (base : Endpoint) → said.info.num_bis ≤ 31 → horizon ≡ horizon_in version
    → DescribedSo own said → bare ≡ is_empty_last (last_of said.base.subgroups) → bare ≡ false → None ≡ group_refusal (first_fault horizon said.info)
    → has ≡ is_some (last_of said.base.subgroups) → has ≡ false → base ≡ plain_base_of said.delay said.info.num_bis → MayStart version first own (Some base)
may_start_plain version first horizon own said bare has base few h is e f g k n b =
    let closed : is_last_bare own ≡ false = sym (bare_own own said bare is.1 e) ∙ f in
    let none : has_subgroup own ≡ false = sym (has_own own said has is.1 k) ∙ n in
    grind (
      arith,
      base_is own said is.1,
      none_said (line_of said) (subgroups_of own) few none,
      no_subgroups (line_of said) (subgroups_of own) none,
      start_fault version first horizon own said None h is closed g,
    )

-- ---- it begins

record Passes (version first : ℕ) (own : List Step) : Type 0 where
  closed : is_last_bare own ≡ false
  group : group_refusal (first_fault (horizon_in version) (checked_info own)) ≡ None
  little : is_base_too_long own ≡ false

passes : (version first : ℕ) (own : List Step) → phase_of own ≡ described → fault_in version own (Start first) ≡ None → Passes version first own
passes version first own phase none =
    grind (arith, checked_info, refuse_if, is_base_too_long, option_or, not, is_described_at, is_last_bare, neither, fails_not)

closed_none : (bare : Bool) (octets : ℕ) → bare ≡ false → nat_lt 252 octets ≡ false → size_fault (cond bare (Some of_draft.NoBis) None) octets ≡ None
closed_none bare octets f l = grind (arith, false≢true, cond)

said_ends : (group : GroupLine) (ss : List Subgroup) → is_some (last_of ss) ≡ true → is_empty_last (last_of ss) ≡ false
    → nat_lt 252 (length (encoding (base_from group ss))) ≡ false → finish_fault (endpoint group.delay ss) ≡ None
said_ends group ss has bare little = grind (arith, false≢true, closed_none, is_empty_last, last_of, length, encoding, endpoint)

pub finish_fails : (version first : ℕ) (own : List Step) (said : Described) (plain : Option Endpoint) (stop : Stop) → DescribedSo own said → MayStart version first own plain
    → FinishStops said.base plain stop → Begins first own (Err stop)
finish_fails version first own said plain stop is may fails =
    grind (arith, none-some, passes, draft_is, said_ends, line_of, subgroups_of, nat_lt, length, encoding, base_is)

pub bad_refusal : (horizon : ℕ) (info : BigInfo) (fault : GroupFault) → first_fault horizon info ≡ Some fault → (fault ≡ of_group.Encrypted → ⊥)
    → Some (BadGroup fault) ≡ group_refusal (first_fault horizon info)
bad_refusal horizon info fault is other = grind arith

pub group_fails : (version first horizon : ℕ) (own : List Step) (said : Described) (plain : Option Endpoint) (fault : ConfigureFault) (stop : Stop) → horizon ≡ horizon_in version
    → DescribedSo own said → MayStart version first own plain → ConfigureFails horizon said.info fault → StartStops fault stop → Begins first own (Err stop)
group_fails version first horizon own said plain (Misfit fault) (Refused reason) h is may fails g =
    grind (
      arith,
      passes version first own is.0 may.0,
      bad_refusal horizon said.info fault fails.first fails.other,
      checked_is own said is.1,
    )
group_fails version first horizon own said plain fault stop h is may fails g = search (false≢true, none-some)

-- the BASE that it begins with
said_base : (group : GroupLine) (ss : List Subgroup) → is_some (last_of ss) ≡ true → endpoint group.delay ss ≡ base_from group ss
said_base group ss has = grind (arith, false≢true)

setup_same : (i j : BigInfo) (o p d e first : ℕ) (f g : Bool) → i ≡ j → o ≡ p → d ≡ e → f ≡ g
    → let one : Setup = record { info = i; origin = o; delay = d; first = first; ahead = f } in
    let other : Setup = record { info = j; origin = p; delay = e; first = first; ahead = g } in one ≡ other
setup_same i j o p d e first f g a b c h = rw (a, b, c, h) refl

pub identity_is : (own : List Step) (said : Described) (identity : Identity) → DescribedIs own said → identity ≡ identity_or_none said.identity
    → identity ≡ identity_of own
identity_is own said identity is e = e ∙ ap (λ (o : Option Identity). unwrap_or o no_identity) is.ident

pub begins : (version first : ℕ) (ahead : Bool) (own : List Step) (said : Described) (plain : Option Endpoint) (base : Endpoint) (started : Source) → ahead ≡ is_ahead_in version
    → stage_of own ≡ running version → DescribedSo own said → MayStart version first own plain → Finishes said.base plain base
    → started.identity ≡ identity_or_none said.identity
    → (let setup : Setup = record { info = without_cipher said.info; origin = said.origin; delay = base.delay; first = first; ahead = ahead } in started.setup ≡ setup)
    → started.base ≡ base → started.cipher ≡ said.info.cipher → StandsFor [] started → StartedIs (Start first ∷ own) started
begins version first ahead own said plain base started a stage is may finishes identity setup b c stands =
    grind (arith, base_of, said_base, line_of, subgroups_of, base_is, identity_is, setup_same, without_cipher, is_ahead_in, is_unbegun_at)

pub is_not_other : (phase : Phases) → is_described_phase phase ≡ true → ((said : Described) → phase ≡ phases.Described said → ⊥) → ⊥
is_not_other phase is other = grind (arith, false≢true)

pub begin_stops : (version first : ℕ) (own : List Step) (phase : Phases) (stop : Stop) → Begins first own (Err stop) → Becomes version own (Start first) phase (Err stop)
begin_stops version first own phase stop b = grind arith
