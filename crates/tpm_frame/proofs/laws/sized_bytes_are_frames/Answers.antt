use Rattle.tpm_frame.proofs.Parts.{sized_is_frame}
use Rattle.tpm_frame.proofs.laws.sized_bytes_are_frames.Goals as goal

pub returns : goal.returns
returns c = λ bytes sized. sized_is_frame bytes sized.fits.least sized.fits.most sized.named
