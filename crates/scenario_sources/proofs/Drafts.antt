-- A source whose BASE is put together, after a line that says something of it.
use Rattle.scenario_sources.proofs.Prelude.{ℕ, ◌≡◌, ◌≤◌, ◌<◌, ◌⊎◌, nat_lt, Bool, true, false, cond, List, [], ◌∷◌, length, Option, None, Some, Result, Ok, Err, refl, sym, ap, is_some, not, ◌∙◌, arith, le-ltb, lt-ltb, ForSome, Refuses, entry_fault, finish_fault, is_empty_last, last_of, metadata_fault, opened, size_fault, subgroup_fault, with_entry, with_metadata, with_subgroup, Endpoint, IsConfig, endpoint, indices, is_lc3, encoding, stands_in, Subgroup, NoSuchBis, Order, Stop, Refused, Step, Bis, Meta, base_lines, has_bis, has_subgroup, is_last_bare, subgroups_of, described, phase_of, Described, Becomes, DescribedIs, adds_to_last, describes_last, is_bare, is_missing, stop_of}
use Rattle.ltv_codec.specs.Layout.{AreLtvs}
use Rattle.base_grammar.specs.declared.fault.DraftFault.{DraftFault}
use Rattle.base_grammar.specs.declared.fault.DraftFault.TheVariants as of_draft
use Rattle.base_grammar.specs.declared.subgroup.BaseEntry.{BaseEntry}
use Rattle.scenario_text.specs.declared.step.Step.TheVariants.{Subgroup as SubgroupStep}
use Rattle.scenario_sources.specs.declared.phase.Phase.TheVariants as phases

-- ---- what a draft refuses

pub has_last : (s : Subgroup) (others : List Subgroup) → is_some (last_of (s ∷ others)) ≡ true
has_last s [] = refl
has_last s (other ∷ others) = has_last other others

same_fault : (one other : DraftFault) → (let r : Result (Unit {0}) DraftFault = Err one in r) ≡ Err other → one ≡ other
same_fault one other e = cc

stands_refuses : (stands : Bool) (fault : DraftFault) → Refuses (cond stands (Some of_draft.IndexTwice) None) (Err fault)
    → ((stands ≡ true) × (fault ≡ of_draft.IndexTwice)) ⊎ (fault ≡ of_draft.Memory)
stands_refuses stands fault refuses = grind (arith, same_fault)

entry_passes : (ss : List Subgroup) (bis : ℕ) → is_some (last_of ss) ≡ true → Refuses (entry_fault ss bis) (Ok tt) → stands_in (indices ss) bis ≡ false
entry_passes ss bis has refuses = grind (arith, stands_in, indices)

-- a configuration that is an LTV list is one for each codec
pub list_for : (ss : List Subgroup) (config : List ℕ) → AreLtvs config → ForSome (last_of ss) (λ s. IsConfig (is_lc3 s.codec) config)
list_for ss config list = λ s is is_list. list

-- ---- what would be refused at its end

sized : (bare : Bool) (octets : ℕ) → is_missing (size_fault (cond bare (Some of_draft.NoBis) None) octets) ≡ false
sized bare octets = grind (arith, nat_lt)

missing_of : (ss : List Subgroup) (delay : ℕ) → not (is_missing (finish_fault (endpoint delay ss))) ≡ is_some (last_of ss)
missing_of ss delay = grind (arith, not, sized, is_empty_last, last_of, length, encoding, endpoint, has_last)

pub missing_is : (v : Endpoint) (fault : Option DraftFault) → fault ≡ finish_fault v → not (is_missing fault) ≡ is_some (last_of v.subgroups)
missing_is v fault is = ap (λ f. not (is_missing f)) is ∙ missing_of v.subgroups v.delay

bare_sized : (bare : Bool) (octets : ℕ) → is_bare (size_fault (cond bare (Some of_draft.NoBis) None) octets) ≡ bare
bare_sized bare octets = grind (arith, nat_lt)

pub bare_is : (v : Endpoint) (fault : Option DraftFault) → fault ≡ finish_fault v → is_bare fault ≡ is_empty_last (last_of v.subgroups)
bare_is v fault is = grind (arith, bare_sized, is_empty_last, last_of, length, encoding, endpoint)

-- ---- what a line changes

pub record Keeps (said new : Described) : Type 0 where
  pub info : new.info ≡ said.info
  pub origin : new.origin ≡ said.origin
  pub delay : new.delay ≡ said.delay
  pub identity : new.identity ≡ said.identity

-- the source as it was, with another BASE
kept : (own : List Step) (said new : Described) → DescribedIs own said → Keeps said new → new.base ≡ said.base → DescribedIs own new
kept own said new is keeps base = grind (arith, endpoint, subgroups_of)

subgroups_are : (own : List Step) (said : Described) → DescribedIs own said → said.base.subgroups ≡ subgroups_of own
subgroups_are own said is = ap (λ (v : Endpoint). v.subgroups) is.base

-- ---- `subgroup`

pub opens : (version : ℕ) (own : List Step) (codec config : List ℕ) (said new : Described) → (phase_of own ≡ described) × DescribedIs own said → Keeps said new
    → Refuses (subgroup_fault said.base.subgroups) (Ok tt) → new.base ≡ with_subgroup (opened codec config) said.base
    → Becomes version own (SubgroupStep codec config) (phases.Described new) (Ok tt)
opens version own codec config said new is keeps refuses base =
    grind (arith, subgroups_are, is_last_bare, is_empty_last, last_of, with_subgroup, opened, endpoint, subgroups_of)

pub opens_not : (version : ℕ) (own : List Step) (codec config : List ℕ) (said new : Described) (fault : DraftFault) (stop : Stop) → (phase_of own ≡ described) × DescribedIs own said
    → Keeps said new → Refuses (subgroup_fault said.base.subgroups) (Err fault) → new.base ≡ said.base → stop ≡ stop_of fault
    → Becomes version own (SubgroupStep codec config) (phases.Described new) (Err stop)
opens_not version own codec config said new fault stop is keeps refuses base stops =
    grind (arith, subgroups_are, same_fault, is_empty_last, last_of, is_last_bare, kept)

-- ---- `meta`

pub gives_metadata : (version : ℕ) (own : List Step) (metadata : List ℕ) (said new : Described) → (phase_of own ≡ described) × DescribedIs own said → Keeps said new
    → Refuses (metadata_fault said.base.subgroups) (Ok tt) → new.base ≡ with_metadata metadata said.base
    → Becomes version own (Meta metadata) (phases.Described new) (Ok tt)
gives_metadata version own metadata said new is keeps refuses base = grind (arith, subgroups_are, has_last, describes_last)

pub gives_no_metadata : (version : ℕ) (own : List Step) (metadata : List ℕ) (said new : Described) (fault : DraftFault) (stop : Stop) → (phase_of own ≡ described) × DescribedIs own said
    → Keeps said new → Refuses (metadata_fault said.base.subgroups) (Err fault) → new.base ≡ said.base → stop ≡ stop_of fault
    → Becomes version own (Meta metadata) (phases.Described new) (Err stop)
gives_no_metadata version own metadata said new fault stop is keeps refuses base stops =
    grind (arith, subgroups_are, same_fault, has_subgroup, is_some, last_of, kept)

-- ---- `bis`

pub adds_early : (version : ℕ) (own : List Step) (bis : ℕ) (config : List ℕ) (said : Described) (has : Bool) → (phase_of own ≡ described) × DescribedIs own said
    → has ≡ is_some (last_of said.base.subgroups) → has ≡ false → Becomes version own (Bis bis config) (phases.Described said) (Err (Refused Order))
adds_early version own bis config said has is same none = grind (arith, has_subgroup, is_some, last_of, subgroups_are)

pub some_then : (has some : Bool) → has ≡ some → has ≡ true → some ≡ true
some_then has some same is = sym same ∙ is

pub adds_beyond : (version : ℕ) (own : List Step) (bis number : ℕ) (config : List ℕ) (said : Described) → (phase_of own ≡ described) × DescribedIs own said
    → is_some (last_of said.base.subgroups) ≡ true → number ≡ bis → said.info.num_bis < number
    → Becomes version own (Bis bis config) (phases.Described said) (Err (Refused NoSuchBis))
adds_beyond version own bis number config said is some same above =
    grind (arith, nat_lt, lt-ltb, has_subgroup, is_some, last_of, subgroups_are)

pub adds : (version : ℕ) (own : List Step) (bis number : ℕ) (config : List ℕ) (said new : Described) → (phase_of own ≡ described) × DescribedIs own said → Keeps said new
    → is_some (last_of said.base.subgroups) ≡ true → number ≡ bis → number ≤ said.info.num_bis → Refuses (entry_fault said.base.subgroups bis) (Ok tt)
    → (let e : BaseEntry = record { bis = bis; config = config } in new.base ≡ with_entry e said.base)
    → Becomes version own (Bis bis config) (phases.Described new) (Ok tt)
adds version own bis number config said new is keeps some same below refuses base =
    let within : nat_lt said.info.num_bis bis ≡ false = le-ltb said.info.num_bis bis (omega (arith, same, below)) in
    let e : BaseEntry = record { bis = bis; config = config } in
    let are = subgroups_are own said is.1 in
    let has : has_subgroup own ≡ true = ap (λ ss. is_some (last_of ss)) (sym are) ∙ some in
    let fresh : has_bis own bis ≡ false = ap (λ ss. stands_in (indices ss) bis) (sym are) ∙ entry_passes said.base.subgroups bis some refuses in (
      rw (is.0, has, is.1.group, within, fresh) refl,
      grind (arith, is.1.base, adds_to_last e (base_lines own), keeps.delay),
    )

pub adds_not : (version : ℕ) (own : List Step) (bis number : ℕ) (config : List ℕ) (said new : Described) (fault : DraftFault) (stop : Stop) → (phase_of own ≡ described) × DescribedIs own said
    → Keeps said new → is_some (last_of said.base.subgroups) ≡ true → number ≡ bis → number ≤ said.info.num_bis → Refuses (entry_fault said.base.subgroups bis) (Err fault)
    → new.base ≡ said.base → stop ≡ stop_of fault → Becomes version own (Bis bis config) (phases.Described new) (Err stop)
adds_not version own bis number config said new fault stop is keeps some same below refuses base stops =
    grind (arith, nat_lt, le-ltb, subgroups_are, has_subgroup, is_some, last_of, stands_refuses, stands_in, indices, has_bis, kept)
