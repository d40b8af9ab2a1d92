-- Bytes that are the same in a range give the same numbers and lists.
use Rattle.std.proofs.Common.{◌≡◌, ℕ, zero, suc, ◌+◌, ◌<◌, ◌≤◌, List, ◌∷◌, refl, ap, ◌∙◌, arith, drop, drop-cons, add-one}
use Rattle.std.specs.Prelude.{slice_index, length, take}
use Rattle.crb_regs.specs.LittleEndian.{little_endian_at}
use Rattle.tpm_frame.specs.Frames.{frame_length_of}
use Rattle.crb_history.specs.Bytes.{bytes_at, command_in}

pub number_at-same : (f g : ℕ → ℕ) (end : ℕ) → ((i : ℕ) → i < end → f i ≡ g i) → (at size : ℕ) → at + size ≤ end → little_endian_at f at size ≡ little_endian_at g at size
number_at-same f g end same at zero fits = refl
number_at-same f g end same at (suc size) fits =
    let first : f at ≡ g at = same at (omega arith) in
    let rest : little_endian_at f (at + 1) size ≡ little_endian_at g (at + 1) size = number_at-same f g end same (at + 1) size (omega arith) in
    cc

pub bytes_at-same : (f g : ℕ → ℕ) (end : ℕ) → ((i : ℕ) → i < end → f i ≡ g i) → (at size : ℕ) → at + size ≤ end → bytes_at f at size ≡ bytes_at g at size
bytes_at-same f g end same at zero fits = refl
bytes_at-same f g end same at (suc size) fits =
    let first : f at ≡ g at = same at (omega arith) in
    let rest : bytes_at f (at + 1) size ≡ bytes_at g (at + 1) size = bytes_at-same f g end same (at + 1) size (omega arith) in
    cc

-- a frame isn't longer than the buffer
pub frame_length-most : (head : List ℕ) → frame_length_of head ≤ 3968
frame_length-most head = omega arith

-- buffers of the same bytes hold the same command
pub command_in-same : (f g : ℕ → ℕ) → ((i : ℕ) → i < 3968 → f i ≡ g i) → command_in f ≡ command_in g
command_in-same f g same =
    let head : bytes_at f 0 6 ≡ bytes_at g 0 6 = bytes_at-same f g 3968 same 0 6 (omega arith) in
    let size : ℕ = frame_length_of (bytes_at f 0 6) in
    let bytes : bytes_at f 0 size ≡ bytes_at g 0 size = bytes_at-same f g 3968 same 0 size (omega (arith, frame_length-most (bytes_at f 0 6))) in
    bytes ∙ ap (λ h. bytes_at g 0 (frame_length_of h)) head

-- a part of a list is made of its bytes
pub take-drop-bytes_at : (xs : List ℕ) (at size : ℕ) → at + size ≤ length xs → take size (drop at xs) ≡ bytes_at (slice_index xs) at size
take-drop-bytes_at xs at zero fits = refl
take-drop-bytes_at xs at (suc size) fits =
    let here : at < length xs = omega arith in
    let rest = take-drop-bytes_at xs (at + 1) size (omega arith) in
    rw (drop-cons xs at 0, ← add-one at) (ap (λ bytes. slice_index xs at ∷ bytes) rest)

pub take-bytes_at : (xs : List ℕ) (size : ℕ) → size ≤ length xs → take size xs ≡ bytes_at (slice_index xs) 0 size
take-bytes_at xs size fits = take-drop-bytes_at xs 0 size (omega arith)

-- the command in a buffer is its start
pub take-command_in : (xs : List ℕ) → length xs ≡ 3968 → take (frame_length_of xs) xs ≡ command_in (slice_index xs)
take-command_in xs whole =
    let size : take 4 (drop 2 xs) ≡ bytes_at (slice_index xs) 2 4 = take-drop-bytes_at xs 2 4 (omega arith) in
    let same : frame_length_of xs ≡ frame_length_of (bytes_at (slice_index xs) 0 6) = rw size refl in
    take-bytes_at xs (frame_length_of xs) (omega (arith, frame_length-most xs)) ∙ ap (bytes_at (slice_index xs) 0) same
