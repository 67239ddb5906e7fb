use Rattle.std.proofs.Common.{List, ℕ}
use Rattle.std.specs.Prelude.{Option, Some, None}
use Rattle.receive_state.specs.Layout.{StateIs}
use Rattle.receive_state.specs.declared.state.ReceiveState.{ReceiveState}
use Rattle.receive_state.proofs.Fits.{octets_fit}
use Rattle.assistant_machine.specs.State.Assistants.{IsEncodedView}
use Rattle.assistant_machine.proofs.joined.view_in.Goals as goal

-- what was read of octets is encoded by them
encoded_view : (view : Option ReceiveState) (octets : List ℕ) → StateIs view octets → IsEncodedView view
encoded_view None octets is = tt
encoded_view (Some state) octets is = octets_fit state (octets, is)

pub returns-in-Ok-clause-encoded : goal.returns-in-Ok-clause-encoded
returns-in-Ok-clause-encoded c = encoded_view c.in-Ok.view c.args.value.now c.in-Ok.ensures.layout
