-- Parts of a BASE, as a loop goes over them, and what is told of parts that are none.
use Rattle.std.proofs.Common.{◌≡◌, ◌+◌, ◌<◌, ℕ, List, [], ◌∷◌, ◌++◌, length, take, get_or, Option, Some, None, Result, refl, sym, ap, ◌∙◌, subst, arith}
use Rattle.std.proofs.lemmas.List.{length-take, take_more}
use Rattle.std.proofs.lemmas.Option.{same_Some}
use Rattle.std.specs.List.{AllByRecursion}
use Rattle.std.specs.Option.{option_map}
use Rattle.bcast_base.specs.Tries.{FindsOrWants}
use Rattle.base_grammar.proofs.Again.{base_again}
use Rattle.base_grammar.specs.Layout.{Endpoint, HasCodec, IsBase, encoding}
use Rattle.base_grammar.specs.Reading.{base_of}
use Rattle.base_grammar.specs.declared.fault.BaseFault.{BaseFault}
use Rattle.base_grammar.specs.declared.subgroup.Subgroup.{Subgroup}
use Rattle.c_values.specs.Faults.{base_fault_c}
use Rattle.c_values.specs.declared.fault.AirFault.{AirFault}
use Rattle.layouts_c.specs.BaseParts.{ToldAs, subgroup_in, subgroups_in}
use Rattle.layouts_c.specs.declared.parts.AirBaseStream.{AirBaseStream}
use Rattle.layouts_c.specs.declared.parts.AirBaseSubgroup.{AirBaseSubgroup}

-- a subgroup behind others
subgroups_more : (octets : List ℕ) (streams : List AirBaseStream) (place : ℕ) (before : List AirBaseSubgroup) (s : AirBaseSubgroup)
    → subgroups_in octets streams place (before ++ s ∷ [])
    ≡ subgroups_in octets streams place before ++ subgroup_in octets streams (place + length before) s ∷ []
subgroups_more octets streams place [] s = grind arith
subgroups_more octets streams place (first ∷ before) s = grind (arith, subgroups_more octets streams (place + 1) before s)

pub subgroups_next : (d : AirBaseSubgroup) (octets : List ℕ) (streams : List AirBaseStream) (subgroups : List AirBaseSubgroup) (place : ℕ)
    (made : List Subgroup) (s : Subgroup) → place < length subgroups → made ≡ subgroups_in octets streams 0 (take place subgroups)
    → s ≡ subgroup_in octets streams place (get_or subgroups place d)
    → made ++ s ∷ [] ≡ subgroups_in octets streams 0 (take (place + 1) subgroups)
subgroups_next d octets streams subgroups place made s below before is =
    let long : 0 + length (take place subgroups) ≡ place = omega (arith, length-take place subgroups, below) in
    ap (λ m. m ++ s ∷ []) before
    ∙ ap (λ x. subgroups_in octets streams 0 (take place subgroups) ++ x ∷ [])
    (is ∙ ap (λ n. subgroup_in octets streams n (get_or subgroups place d)) (sym long))
    ∙ sym (subgroups_more octets streams 0 (take place subgroups) (get_or subgroups place d))
    ∙ ap (subgroups_in octets streams 0) (sym (take_more subgroups place d below))

pub codecs_more : (made : List Subgroup) (s : Subgroup) → AllByRecursion HasCodec made → HasCodec s → AllByRecursion HasCodec (made ++ s ∷ [])
codecs_more [] s all one = (one, tt)
codecs_more (first ∷ made) s all one = (all.0, codecs_more made s all.1 one)

-- ---- faults

pub told_as : (fault : Option BaseFault) (read : Result Endpoint BaseFault) (told : AirFault) → FindsOrWants fault read
    → option_map base_fault_c fault ≡ Some told → ToldAs read told
told_as None read told finds is = absurd cc
told_as (Some fault) read told finds is = subst (λ r. ToldAs r told) (sym finds) (sym (same_Some (base_fault_c fault) told is))

pub no_fault_of : (v : Endpoint) (told : AirFault) → IsBase v → ToldAs (base_of (encoding v)) told → ⊥
no_fault_of v told base is = subst (λ r. ToldAs r told) (base_again v (encoding v) (record { base = base; encoded = refl })) is
