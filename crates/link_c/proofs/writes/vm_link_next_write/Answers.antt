use Rattle.std.proofs.Common.{◌≡◌, ℕ, List, [], ◌∷◌, drop, Option, Some, None, ap, subst, ◌∙◌}
use Rattle.std.specs.Prelude.{IfNone, OnSome, slice_get}
use Rattle.link_c.specs.Links.{LinkStandsIn, writes_kept}
use Rattle.link_c.proofs.writes.vm_link_next_write.Goals as goal

taken_first : (writes rest : List (List ℕ)) (first shown : List ℕ) → slice_get writes 0 ≡ Some first → rest ≡ drop 1 writes → shown ≡ first → writes ≡ shown ∷ rest
taken_first [] rest first shown is left same = absurd cc
taken_first (write ∷ writes) rest first shown is left same = cc

-- where a first write waits one is taken
some_taken : {P : Type 0} (gone : Option (List ℕ)) (writes : List (List ℕ)) (first : List ℕ) → slice_get writes 0 ≡ Some first → IfNone gone (writes ≡ []) → OnSome gone P → P
some_taken None writes first is none taken = absurd cc
some_taken (Some write) writes first is none taken = taken

pub returns-clause-stands : goal.returns-clause-stands
returns-clause-stands c = λ slots calls stands _.
    some_taken c.next_write-gone.result _ _ c.in-Some.ensures.write c.next_write-gone.ensures.none c.next_write-gone.ensures.stands
    slots calls (subst (LinkStandsIn slots calls) c.lend-machine.ensures.value stands)

pub returns-clause-write : goal.returns-clause-write
returns-clause-write c = λ _.
    ap writes_kept c.lend-machine.ensures.value
    ∙ taken_first _ _ _ _ c.in-Some.ensures.write (ap (λ assistant. assistant.writes) c.next_write-gone.ensures.rest) (c.put.ensures.put c.if-not-put.false)
