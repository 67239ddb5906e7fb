-- Which groups a source may be started with: those of which no row of the group check holds but that of a cipher. Then none
-- holds of the group without its cipher.
use Rattle.scenario_laws.proofs.Known.Sources.Steps.Prelude.{ℕ, ◌≡◌, ◌<◌, cond, Bool, true, false, List, [], ◌∷◌, ◌++◌, Option, None, Some, refl, sym, ap, arith, unwrap_or, find, AllByRecursion, false≢true, none-some, BigInfo, Cipher, GroupFault, faults, number_of, IsFirstFault, NoFault, has_fault, with_cipher, without_cipher, none_holds, group_refusal, first_fault}

none_found : (test : GroupFault → Bool) (all : List GroupFault) → find test all ≡ None → AllByRecursion (λ fault. test fault ≡ false) all
none_found test [] none = tt
none_found test (fault ∷ all) none = let here : ((test fault) ≡ false) × ((find test all) ≡ None) =
    grind (arith, none-some) in (here.0, none_found test all here.1)

each_of : (test : GroupFault → Bool) → AllByRecursion (λ fault. test fault ≡ false) faults → (fault : GroupFault) → test fault ≡ false
each_of test all fault = grind arith

no_fault_in : (greatest : ℕ) (info : BigInfo) → first_fault greatest info ≡ None → NoFault greatest info
unfolding first_fault
no_fault_in greatest info none = each_of (has_fault greatest info) (none_found (has_fault greatest info) faults none)

-- ---- the row of a cipher is the first

abbrev but_last : List GroupFault
but_last =
    GroupFault.RangeIso ∷ GroupFault.RangeSdu ∷ GroupFault.RangePdu ∷ GroupFault.Bn ∷ GroupFault.NseNotMultiple ∷ GroupFault.Irc ∷ GroupFault.PhyNotSupported
    ∷ GroupFault.FramedPduSmall ∷ GroupFault.UnframedMultiple ∷ GroupFault.UnframedBn ∷ GroupFault.Horizon ∷ GroupFault.SubInterval ∷ GroupFault.SyncDelay ∷ []

differs : (fault : GroupFault) → number_of fault < number_of GroupFault.Encrypted → fault ≡ GroupFault.Encrypted → ⊥
differs fault below same = let number : number_of fault ≡ number_of GroupFault.Encrypted = ap number_of same in omega (arith, below, number)

passed : (holds : Bool) (fault last : GroupFault) (rest : Option GroupFault) → cond holds (Some fault) rest ≡ Some last → (fault ≡ last → ⊥)
    → (holds ≡ false) × (rest ≡ Some last)
passed true fault last rest is other = absurd (other (ap (λ o. unwrap_or o fault) is))
passed false fault last rest is other = (refl, is)

found_last : (test : GroupFault → Bool) (all : List GroupFault) (last : GroupFault) → find test (all ++ last ∷ []) ≡ Some last
    → AllByRecursion (λ fault. fault ≡ last → ⊥) all → AllByRecursion (λ fault. test fault ≡ false) all × (find test (last ∷ []) ≡ Some last)
found_last test [] last is others = (tt, is)
found_last test (fault ∷ all) last is others =
    let here = passed (test fault) fault last (find test (all ++ last ∷ [])) is others.0 in
    let more = found_last test all last here.1 others.1 in
    ((here.0, more.0), more.1)

before_last : (test : GroupFault → Bool) → AllByRecursion (λ fault. test fault ≡ false) but_last → (other : GroupFault) → number_of other < number_of GroupFault.Encrypted → test other ≡ false
before_last test all other below = grind arith

first_encrypted : (greatest : ℕ) (info : BigInfo) → first_fault greatest info ≡ Some GroupFault.Encrypted → IsFirstFault greatest info GroupFault.Encrypted
unfolding first_fault
first_encrypted greatest info is =
    let test : GroupFault → Bool = has_fault greatest info in
    let found = found_last test but_last GroupFault.Encrypted is (
      differs GroupFault.RangeIso (omega arith),
      grind (arith, differs),
    ) in
    record { holds = grind (arith, none-some); none_before = before_last test found.0 }

pub may_be_sent : (greatest : ℕ) (info : BigInfo) (cipher : Option Cipher) (found : Option GroupFault) → first_fault greatest (with_cipher info cipher) ≡ found
    → group_refusal found ≡ None → NoFault greatest (without_cipher info)
may_be_sent greatest info None None is none = no_fault_in greatest (without_cipher info) is
may_be_sent greatest info (Some cipher) None is none = absurd (false≢true (sym (no_fault_in greatest (with_cipher info (Some cipher)) is GroupFault.Encrypted)))
may_be_sent greatest info cipher (Some GroupFault.Encrypted) is none = none_holds greatest (with_cipher info cipher) (first_encrypted greatest (with_cipher info cipher) is)
may_be_sent greatest info cipher (Some fault) is none = absurd (none-some _ (sym none))
