use Rattle.scenario_sinks.proofs.Prelude.{refl, sym, ◌∙◌, ap, length, with_items_is}
use Rattle.scenario_sinks.proofs.Closings.{all_closed, lent_entries, none_closed}
use Rattle.scenario_sinks.proofs.sinks.Sinks.close.Goals as goal

pub returns-in_default-clause-closes : goal.returns-in_default-clause-closes
returns-in_default-clause-closes g c past stands = none_closed past c.args.source c.args.closed c.args.self.now c.args.text.now _ stands c.in_default.is

pub returns-clause-closes : goal.returns-clause-closes
returns-clause-closes g c past stands =
    all_closed past c.args.source c.in-Some.event c.args.closed c.args.self.now _ c.close_sinks.new.sinks c.args.text.now c.close_sinks.new.text _ _ c.close_sinks.result stands c.in-Some.is
    (with_items_is c.args.self.now.entries c.close_sinks.new.sinks (c.close_sinks.auto.sinks ∙ ap length c.deref_mut.ensures.value ∙ sym c.args.self.now.entries.ok.0))
    (c.close_sinks.ensures.closes past (lent_entries past c.args.self.now.entries.items c.deref_mut.result.now c.deref_mut.ensures.value stands.entries) stands.empty refl refl refl) refl

pub returns-clause-others : goal.returns-clause-others
returns-clause-others g c past stands =
    c.close_sinks.ensures.others past (lent_entries past c.args.self.now.entries.items c.deref_mut.result.now c.deref_mut.ensures.value stands.entries)
