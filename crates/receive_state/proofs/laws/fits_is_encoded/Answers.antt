use Rattle.receive_state.proofs.Fits.{has_octets, octets_fit}
use Rattle.receive_state.proofs.laws.fits_is_encoded.Goals as goal

pub returns : goal.returns
returns c state w = (has_octets state w, octets_fit state)
