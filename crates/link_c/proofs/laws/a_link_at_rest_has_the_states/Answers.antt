use Rattle.link_c.proofs.Prelude.{◌≡◌, ℕ, false, Option, Some, None, ap, sym, ◌∙◌, ◌<◌, slice_get, Acts, calls_of, language, reads_kept, views_kept, LinkStandsIn, LinkMachine}
use Rattle.assistant_machine.specs.Links.{Agrees, NoneWaits, value_of}
use Rattle.assistant_machine.specs.Views as views
use Rattle.link_c.proofs.Agreeing.{same_view, same_wait}
use Rattle.link_c.proofs.laws.a_link_at_rest_has_the_states.Goals as goal

at_rest : (mtu : Option ℕ) (slots slot : ℕ) (acts : Acts) (kept : Option LinkMachine) → Agrees (language mtu) slot acts → slot < slots
    → LinkStandsIn slots (calls_of mtu acts) kept → NoneWaits slot acts
    → slice_get (reads_kept kept) slot ≡ Some false → slice_get (views_kept kept) slot ≡ Some (value_of (language mtu) slot acts)
at_rest mtu slots slot acts None agrees below stands none rest = absurd stands
at_rest mtu slots slot acts (Some machine) agrees below stands none rest =
    let some : Some (views.waits_of slot (calls_of mtu acts)) ≡ Some false = sym (stands.reads slot below) ∙ rest in
    let waits : views.waits_of slot (calls_of mtu acts) ≡ false = cc in
    stands.views slot below
    ∙ ap (λ view. Some view) (same_view mtu slot acts ∙ agrees none (sym (same_wait mtu slot acts) ∙ waits))

pub returns : goal.returns
returns c = λ mtu slots slot acts link founded back honest below stands none rest.
    at_rest mtu slots slot acts link.kept (c.where_nothing_waits_both_agree.ensures (language mtu) slot acts founded back honest) below stands none rest
