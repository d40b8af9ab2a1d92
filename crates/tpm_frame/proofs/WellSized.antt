-- The test of a well-sized command or response.
use Rattle.std.proofs.Common.{◌≡◌, ℕ, true, List, arith}
use Rattle.std.proofs.lemmas.Bool.Decides.{nat_tests}
use Rattle.tpm_frame.specs.Sizes.{IsWellSized, is_well_sized}

pub well_sized : (bytes : List ℕ) → is_well_sized bytes ≡ true → IsWellSized bytes
well_sized bytes h = record {
  fits = record { least = grind (arith, nat_tests, h); most = grind (arith, nat_tests, h) };
  named = grind (arith, nat_tests, h);
}

pub test_of : (bytes : List ℕ) → IsWellSized bytes → is_well_sized bytes ≡ true
test_of bytes h = grind (arith, nat_tests, h.fits.least, h.fits.most, h.named)
