use Rattle.receive_state.proofs.Prelude.{◌∙◌, sym}
use Rattle.receive_state.proofs.Fits.{test_tells, test_passes}
use Rattle.receive_state.proofs.state.ReceiveState.fits.Goals as goal

pub returns : goal.returns
returns c = (λ yes. test_tells c.args.self.now (sym c.is_encoded.ensures ∙ yes), λ h. c.is_encoded.ensures ∙ test_passes c.args.self.now h)
