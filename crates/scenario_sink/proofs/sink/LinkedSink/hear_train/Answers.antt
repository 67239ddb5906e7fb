use Rattle.scenario_sink.proofs.Prelude.{◌∷◌, Some, refl, sym, ◌∙◌, ap, subst, if◌then◌else◌, train_heard, answer_of, outcome_by, control, StandsFor, stepped, given_train, snapshot_in, follows, is_followed, after_call}
use Rattle.scenario_sink.proofs.Following.{followed_is}
use Rattle.scenario_sink.proofs.Histories.{of_source}
use Rattle.scenario_sink.proofs.Stands.{steps}
use Rattle.scenario_sink.proofs.Trained.{its_train}
use Rattle.scenario_sink.proofs.Untold.{its_snapshot}
use Rattle.scenario_sink.proofs.sink.LinkedSink.hear_train.Goals as goal

pub returns-then-not-is_followed-clause-answer : goal.returns-then-not-is_followed-clause-answer
returns-then-not-is_followed-clause-answer c source history from lives =
    let took = lives.stands.took in
    let train = its_train c.args.origin source c.args.ext.now c.args.adv.now c.args.acad.now c.args.now from in
    let snapshot = its_snapshot history c.args.self.now.delegator c.args.self.now.links took in
    let heard = c.in_ok-heard.ensures.answer history.made.setup took.taken took.stands ∙ (λ i. answer_of (outcome_by history.made.setup (snapshot i) (train i))) in
    heard

pub returns-then-not-is_followed-clause-lives : goal.returns-then-not-is_followed-clause-lives
returns-then-not-is_followed-clause-lives c source history from lives =
    let took = lives.stands.took in
    let train = its_train c.args.origin source c.args.ext.now c.args.adv.now c.args.acad.now c.args.now from in
    let snapshot = its_snapshot history c.args.self.now.delegator c.args.self.now.links took in
    let heard = c.in_ok-heard.ensures.answer history.made.setup took.taken took.stands ∙ (λ i. answer_of (outcome_by history.made.setup (snapshot i) (train i))) in
    let given = given_train source c.args.now c.args.ext.now c.args.adv.now c.args.acad.now in
    let followed = sym c.if-not-is_followed.true ∙ c.is_followed.ensures ∙ ap is_followed heard ∙ followed_is history.made.setup (snapshot_in history.made history.calls_made) given in record {
      stands = of_source (if follows (outcome_by history.made.setup (snapshot_in history.made history.calls_made) given) then Some source.number else history.source)
          (after_call (stepped (train_heard given)) history) _ _ (c.in_ok-gather.ensures.stands (stepped (train_heard given)) history
          (steps (train_heard given) history c.args.self.now.delegator _ _ refl tt lives.stands
          (subst (λ t. StandsFor history.made.setup (control (train_heard t) ∷ took.taken) c.train_keeping.new.self) train
          (c.in_ok-heard.ensures.stands history.made.setup took.taken took.stands)) c.train_keeping.ensures.settings));
      source_is = c.gather.ensures.source ∙ lives.source_is ∙ ap (λ b. if b then Some source.number else history.source) followed;
    }

pub returns-clause-answer : goal.returns-clause-answer
returns-clause-answer c source history from lives =
    let took = lives.stands.took in
    let train = its_train c.args.origin source c.args.ext.now c.args.adv.now c.args.acad.now c.args.now from in
    let snapshot = its_snapshot history c.args.self.now.delegator c.args.self.now.links took in
    let heard = c.in_ok-heard.ensures.answer history.made.setup took.taken took.stands ∙ (λ i. answer_of (outcome_by history.made.setup (snapshot i) (train i))) in
    heard

pub returns-clause-lives : goal.returns-clause-lives
returns-clause-lives c source history from lives =
    let took = lives.stands.took in
    let train = its_train c.args.origin source c.args.ext.now c.args.adv.now c.args.acad.now c.args.now from in
    let snapshot = its_snapshot history c.args.self.now.delegator c.args.self.now.links took in
    let heard = c.in_ok-heard.ensures.answer history.made.setup took.taken took.stands ∙ (λ i. answer_of (outcome_by history.made.setup (snapshot i) (train i))) in
    let given = given_train source c.args.now c.args.ext.now c.args.adv.now c.args.acad.now in
    let followed = sym c.if-not-is_followed.false ∙ c.is_followed.ensures ∙ ap is_followed heard ∙ followed_is history.made.setup (snapshot_in history.made history.calls_made) given in record {
      stands = of_source (if follows (outcome_by history.made.setup (snapshot_in history.made history.calls_made) given) then Some source.number else history.source)
          (after_call (stepped (train_heard given)) history) _ _ (c.in_ok-gather.ensures.stands (stepped (train_heard given)) history
          (steps (train_heard given) history c.args.self.now.delegator _ _ refl tt lives.stands
          (subst (λ t. StandsFor history.made.setup (control (train_heard t) ∷ took.taken) c.train_keeping.new.self) train
          (c.in_ok-heard.ensures.stands history.made.setup took.taken took.stands)) c.train_keeping.ensures.settings));
      source_is = ap Some (sym from.number_is) ∙ ap (λ b. if b then Some source.number else history.source) followed;
    }
