-- Frames by their size fields.
use Rattle.std.specs.Prelude.{◌≡◌, ℕ, ◌-◌, List, ◌++◌, take, drop, min, max, All}
use Rattle.std.specs.List.{concat}
use Rattle.std.specs.Int.{w32, from_be_bytes}
use Rattle.std.proofs.Common.{lit≤, arith}
use Rattle.tpm_frame.specs.Numbers.{header_size, largest_frame}
use Rattle.vt_base.specs.Layout.{Layout, Ends, Field, Encodes, IsOpen, IsWithin}

-- how long a frame is that begins so: the number in the last four of six bytes, at least 10 and at most 3968
abbrev pub frame_length_of : List ℕ → ℕ
frame_length_of head = min (max (from_be_bytes w32 (take 4 (drop 2 head))) header_size) largest_frame

-- the frame at the start of these bytes, or all of them where it isn't whole
abbrev pub first_frame : List ℕ → List ℕ
first_frame bytes = take (frame_length_of (take 6 bytes)) bytes

-- six bytes, and as many more as make up the length that they give
unfoldable pub frames : Layout (Unit {0})
frames = Field 6 (λ head. Field (frame_length_of head - 6) (λ body. Ends tt))

-- no frame has more bytes than the buffer
pub frames_within : IsWithin frames largest_frame
unfolding frames
frames_within = (lit≤ tt, λ head. (omega arith, λ _. tt))

-- these bytes are one frame
abbrev pub IsFrame : List ℕ → Type 0
IsFrame bytes = Encodes frames tt bytes

-- no prefix of these bytes is a frame
abbrev pub IsPartOfFrame : List ℕ → Type 0
IsPartOfFrame bytes = IsOpen frames bytes

-- the stream is these frames, one after the other, and then the rest
pub record AreCut (cut : List (List ℕ)) (stream rest : List ℕ) : Type 0 where
  pub each : All IsFrame cut
  pub joined : stream ≡ concat cut ++ rest
