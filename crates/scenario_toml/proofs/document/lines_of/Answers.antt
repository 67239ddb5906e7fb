use Rattle.scenario_toml.proofs.Prelude.{◌≡◌, IfOk, ◌∙◌, sym, subst, lines}
use Rattle.std.proofs.lemmas.Bool.{false≢true}
use Rattle.scenario_toml.proofs.Growing.{means, means_nothing}
use Rattle.scenario_toml.proofs.document.lines_of.Goals as goal

pub returns-in-Ok-clause-ok : goal.returns-in-Ok-clause-ok
returns-in-Ok-clause-ok c =
    subst (λ meaning. IfOk c.lines_of_table.result (λ text. meaning ≡ lines text)) (sym (means _ _ c.in-Ok.ensures.ok)) c.lines_of_table.ensures.ok

pub returns-in-Ok-clause-bad_document : goal.returns-in-Ok-clause-bad_document
returns-in-Ok-clause-bad_document c is = means _ _ c.in-Ok.ensures.ok ∙ c.lines_of_table.ensures.bad_document is

pub returns-in-Err-2-clause-bad_toml : goal.returns-in-Err-2-clause-bad_toml
returns-in-Err-2-clause-bad_toml c _ =
    means_nothing c.args.document.now (c.in-Err.ensures.refused (λ memory. false≢true (sym c.if-is_memory.false ∙ c.is_memory.ensures.1 memory)))
