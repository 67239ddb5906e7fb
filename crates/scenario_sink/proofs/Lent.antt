-- The assistant that is lent is the one on the link.
use Rattle.scenario_sink.proofs.Prelude.{ℕ, ◌≡◌, List, [], ◌∷◌, ◌++◌, drop, Option, Some, None, refl, sym, ap, ◌∙◌, subst, IfSome, OnSome, option_map, option_to_list, Assistant, IsLowest, link_at, mtu_of, slots_of, with_assistant_on, Linked, assistant_in, Links, Takes, MutBor}
use Rattle.assistant_machine.specs.Calls.{Call, asked, sent}
use Rattle.assistant_machine.specs.State.Assistants.{StandsFor}
use Rattle.scenario_sink.proofs.Places.{lent_same, lent_terms}

pub its_own : (lent : Option (MutBor Assistant)) (it : MutBor Assistant) (before : Assistant) → lent ≡ Some it → option_map (λ (r : MutBor Assistant). r.now) lent ≡ Some before → it.now ≡ before
its_own lent it before is holds = let same : Some it.now ≡ Some before = sym (ap (option_map (λ (r : MutBor Assistant). r.now)) is) ∙ holds in cc

-- a write was taken
pub sent_so : (result : Option (List ℕ)) (lent before now : Assistant) (link : ℕ) (links : Links) → lent ≡ before → lent.writes ≡ option_to_list result ++ now.writes
    → OnSome result ((slots : ℕ) (taken : List Call) → StandsFor slots taken lent → StandsFor slots (sent ∷ taken) now)
    → IfSome result (λ write. (before.writes ≡ write ∷ drop 1 before.writes) × Takes (sent ∷ []) link before links (with_assistant_on links link now))
sent_so None lent before now link links same writes stands = tt
sent_so (Some write) lent before now link links same writes stands =
    let all : before.writes ≡ write ∷ now.writes = ap (λ (a : Assistant). a.writes) (sym same) ∙ writes in (
      all ∙ ap (λ ws. write ∷ ws) (sym (ap (drop 1) all)),
      record {
        heard = (tt, tt);
        after = now;
        links = refl;
        stands = λ slots taken stood. stands slots taken (subst (StandsFor slots taken) (sym same) stood);
      },
    )

-- a read was
pub asked_so : (result : Option ℕ) (lent before now : Assistant) (link : ℕ) (links : Links) → lent ≡ before → IfSome result (λ slot. IsLowest lent.reads slot)
    → IfSome result (λ slot. (slots : ℕ) (taken : List Call) → StandsFor slots taken lent → StandsFor slots (asked slot ∷ taken) now)
    → IfSome result (λ slot. IsLowest before.reads slot × Takes (asked slot ∷ []) link before links (with_assistant_on links link now))
asked_so None lent before now link links same lowest stands = tt
asked_so (Some slot) lent before now link links same lowest stands = (
  subst (λ (a : Assistant). IsLowest a.reads slot) same lowest,
  record {
    heard = (tt, tt);
    after = now;
    links = refl;
    stands = λ slots taken stood. stands slots taken (subst (StandsFor slots taken) (sym same) stood);
  },
)

-- an assistant is given back as it was
pub given_back : (links : Links) (link : ℕ) (a : Assistant) → assistant_in (link_at links link) ≡ Some a → let after : Links = with_assistant_on links link a in
    ((other : ℕ) → link_at after other ≡ link_at links other) × (slots_of after ≡ slots_of links) × (mtu_of after ≡ mtu_of links)
given_back links link a is = by (link_at links link) refl
  where
    by : (on : Option Linked) → link_at links link ≡ on → let after : Links = with_assistant_on links link a in
        ((other : ℕ) → link_at after other ≡ link_at links other) × (slots_of after ≡ slots_of links) × (mtu_of after ≡ mtu_of links)
    by None e = absurd (let no : None ≡ Some a = ap assistant_in (sym e) ∙ is in cc)
    by (Some on) e =
        let so : Some on.assistant ≡ Some a = ap assistant_in (sym e) ∙ is in let same : on.assistant ≡ a = cc in let terms = lent_terms links link on a e in
        (λ other. subst (λ (x : Assistant). link_at (with_assistant_on links link x) other ≡ link_at links other) same (lent_same links link other on e), terms.0, terms.1)
