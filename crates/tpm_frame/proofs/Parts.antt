-- Frames and parts of frames.
use Rattle.std.proofs.Common.{◌≡◌, List, [], ℕ, ◌-◌, ◌≤◌, arith, length, take, drop, min, max, refl, ap, sym, ◌∙◌}
use Rattle.std.specs.Int.{w32, from_be_bytes}
use Rattle.std.proofs.lemmas.List.{length-take, length-drop, take_all, drop_all, drop-take, take-take}
use Rattle.tpm_frame.specs.Frame.{short}
use Rattle.vt_base.specs.Numbers.{big_endian_at}
use Rattle.tpm_frame.specs.Frames.{frames, frame_length_of, IsFrame, IsPartOfFrame}

-- before the first byte there is no frame
pub part_nil : (bytes : List ℕ) → bytes ≡ [] → IsPartOfFrame bytes
unfolding frames
part_nil bytes none end n spelled = let short : length (take n bytes) ≤ length bytes = omega (arith, length-take n bytes) in omega (arith, spelled.0, ap length none)

-- a part is no frame
pub part_is_no_frame : (bytes : List ℕ) → IsPartOfFrame bytes → IsFrame bytes → ⊥
part_is_no_frame bytes part frame = part tt (length bytes) (rw (take_all (length bytes) bytes (omega arith)) frame)

-- six bytes give the size field
size_decoded : (bytes : List ℕ) → take 4 (drop 2 (take 6 bytes)) ≡ take 4 (drop 2 bytes)
size_decoded bytes = ap (take 4) (drop-take 2 4 bytes) ∙ take-take 4 4 (drop 2 bytes) (omega arith)

length_decoded : (bytes : List ℕ) → 10 ≤ length bytes → length bytes ≤ 3968 → big_endian_at w32 2 bytes ≡ length bytes → frame_length_of (take 6 bytes) ≡ length bytes
length_decoded bytes long fits size =
    let exact : from_be_bytes w32 (take 4 (drop 2 (take 6 bytes))) ≡ length bytes = ap (from_be_bytes w32) (size_decoded bytes) ∙ size in
    ap (λ (n : ℕ). min (max n 10) 3968) exact ∙ omega (arith, long, fits)

-- bytes as long as their first six give are a frame
decoded_is_frame : (bytes : List ℕ) → frame_length_of (take 6 bytes) ≡ length bytes → IsFrame bytes
unfolding frames
decoded_is_frame bytes exact =
    (omega (arith, exact), (omega (arith, exact, length-drop 6 bytes), (refl, drop_all (frame_length_of (take 6 bytes) - 6) (drop 6 bytes) (omega (arith, exact, length-drop 6 bytes)))))

pub sized_is_frame : (bytes : List ℕ) → 10 ≤ length bytes → length bytes ≤ 3968 → big_endian_at w32 2 bytes ≡ length bytes → IsFrame bytes
sized_is_frame bytes long fits size = decoded_is_frame bytes (length_decoded bytes long fits size)

-- the first six bytes give as much as all
pub first_tell : (bytes : List ℕ) → frame_length_of (take 6 bytes) ≡ frame_length_of bytes
first_tell bytes = ap (λ (xs : List ℕ). min (max (from_be_bytes w32 xs) 10) 3968) (size_decoded bytes)

-- as many bytes as their start gives are a frame
pub prefix_is_frame : (bytes : List ℕ) (size : ℕ) → size ≡ frame_length_of bytes → size ≤ length bytes → IsFrame (take size bytes)
prefix_is_frame bytes size exact fits =
    let whole : length (take size bytes) ≡ size = omega (arith, length-take size bytes, fits) in
    let head : take 6 (take size bytes) ≡ take 6 bytes = take-take 6 size bytes (omega (arith, exact)) in
    decoded_is_frame (take size bytes) (ap frame_length_of head ∙ first_tell bytes ∙ sym exact ∙ sym whole)

-- a response that has a code alone is a frame
pub short_is_frame : (code : ℕ) → IsFrame (short code)
short_is_frame code = sized_is_frame (short code) (omega arith) (omega arith) refl
