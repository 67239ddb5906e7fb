use Rattle.std.proofs.Common.{◌∷◌, sym, subst}
use Rattle.std.proofs.lemmas.Result.{on_ok_weaker}
use Rattle.assistant_machine.specs.Calls.{put}
use Rattle.assistant_machine.specs.State.Assistants.{StandsFor}
use Rattle.assistant_machine.proofs.Standing.{put_stands}
use Rattle.assistant_machine.proofs.joined.AssistJoined.put.Goals as goal

pub returns-clause-stands : goal.returns-clause-stands
returns-clause-stands c =
    on_ok_weaker c.push.result (λ is slots calls s. subst (StandsFor slots (put c.args.octets ∷ calls)) (sym is) (put_stands slots c.args.octets calls c.args.self.now s)) c.push.ensures.ok
