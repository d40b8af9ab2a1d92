-- Bytes by their places.
use Rattle.std.specs.Prelude.{ℕ, zero, suc, ◌+◌, List, [], ◌∷◌}
use Rattle.tpm_frame.specs.Frames.{frame_length_of}

-- so many bytes from a place on
abbrev pub bytes_at : (ℕ → ℕ) → ℕ → ℕ → List ℕ
bytes_at byte at zero = []
bytes_at byte at (suc size) = byte at ∷ bytes_at byte (at + 1) size

-- the command in a buffer: as many bytes as its size field says, ten at least and the whole buffer at most
abbrev pub command_in : (ℕ → ℕ) → List ℕ
command_in byte = bytes_at byte 0 (frame_length_of (bytes_at byte 0 6))
