use Rattle.bcast_io.proofs.Prelude.{ℕ, List, ◌≡◌, ◌≤◌, ◌++◌, ◌∙◌, ap, sym, drop, length, length-append, length-drop, length-take, length-take-le, subst, take, arith, Consumes, take-take, take-append-le, slice_range}
use Rattle.bcast_io.proofs.read_ahead.ReadAhead.fill.Goals as goal

-- the first octets of a buffer that was filled anew
front : (into rest : List ℕ) (len n : ℕ) → n ≤ length into → length into ≡ len → slice_range (take len (into ++ rest)) 0 n ≡ take n into
front into rest len n h e =
    ap (λ k. take k (take len (into ++ rest))) (omega arith) ∙ take-take n len (into ++ rest) (omega arith) ∙ take-append-le n into rest h

whole : (into items : List ℕ) (len : ℕ) → length into ≡ len → len ≡ length items → length (take len (into ++ drop (length into) items)) ≡ length items
whole into items len e f = let rest = drop (length into) items in
    length-take len (into ++ rest) ∙ omega (arith, length-append into rest, length-drop (length into) items)

pub returns-clause-count : goal.returns-clause-count
returns-clause-count g c =
    let n≤ = c.in_ok-self-inside.ensures.bound.0 in
    sym (ap length (front c.read.new.into _ _ _ n≤ (c.read.auto.into ∙ c.deref_mut.ensures.len)) ∙ length-take-le _ c.read.new.into n≤)

pub returns-clause-least : goal.returns-clause-least
returns-clause-least g c =
    let n≤ = c.in_ok-self-inside.ensures.bound.0 in
    let e = c.read.auto.into ∙ ap length c.deref_mut.ensures.value ∙ c.self.invariant.0 in
    subst (λ xs. length xs ≤ 65536) (sym (front c.read.new.into _ _ _ n≤ (c.read.auto.into ∙ c.deref_mut.ensures.len))) (omega (arith, length-take-le _ c.read.new.into n≤, n≤, e))

pub returns-clause-ok : goal.returns-clause-ok
returns-clause-ok g c =
    subst (Consumes (g.S.ByteSource.left c.args.source.now) (g.S.ByteSource.left c.read.new.self))
    (sym (front c.read.new.into _ _ _ c.in_ok-self-inside.ensures.bound.0 (c.read.auto.into ∙ c.deref_mut.ensures.len))) c.in_ok-self-inside.ensures.bytes.0

pub returns-clause-end : goal.returns-clause-end
returns-clause-end g c =
    let e = c.read.auto.into ∙ ap length c.deref_mut.ensures.value ∙ c.self.invariant.0 in
    λ none. c.in_ok-self-inside.ensures.bytes.1 none (omega (arith, e))

pub returns-clause-none_failed : goal.returns-clause-none_failed
returns-clause-none_failed g c = c.in_ok-self-inside.ensures.ok

pub invariant_of-self : goal.invariant_of-self
invariant_of-self g c =
    (whole c.read.new.into c.self.inside.buffer.items c.self.inside.buffer.len (c.read.auto.into ∙ c.deref_mut.ensures.len) c.self.inside.buffer.ok.0 ∙ c.self.invariant.0, omega arith, omega arith, c.self.invariant.3, c.self.invariant.4)

pub invariant_of-self-2 : goal.invariant_of-self-2
invariant_of-self-2 g c =
    let e = c.read.auto.into ∙ ap length c.deref_mut.ensures.value ∙ c.self.invariant.0 in
    (whole c.read.new.into c.self.inside.buffer.items c.self.inside.buffer.len (c.read.auto.into ∙ c.deref_mut.ensures.len) c.self.inside.buffer.ok.0 ∙ c.self.invariant.0, omega arith, omega (arith, e, c.in_ok-self-inside.ensures.bound.0), c.self.invariant.3, c.self.invariant.4)
