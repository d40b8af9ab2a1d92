-- What the calls of a disk do to its bytes, and what a crash may leave of a write. (Own definitions.)
use Rattle.std.specs.Prelude.{◌≡◌, ◌⊎◌, ℕ, zero, suc, ◌+◌, ◌<◌, ◌≤◌, List, [], ◌∷◌, length, Result, MatchResult}

-- the bytes of a disk, by their places
abbrev pub Image : Type 0
Image = ℕ → ℕ

-- so many bytes from a place on
unfoldable pub bytes_of : Image → ℕ → ℕ → List ℕ
bytes_of image at zero = []
bytes_of image at (suc count) = image at ∷ bytes_of image (at + 1) count

-- any bytes in the range, the same elsewhere
pub record Torn (at count : ℕ) (old new : Image) : Type 0 where
  pub before : (i : ℕ) → i < at → new i ≡ old i
  pub behind : (i : ℕ) → at + count ≤ i → new i ≡ old i

-- these bytes in the range, the same elsewhere
pub record Written (at : ℕ) (bytes : List ℕ) (old new : Image) : Type 0 where
  pub range : bytes_of new at (length bytes) ≡ bytes
  pub elsewhere : Torn at (length bytes) old new

-- each new outcome of a crash is an old outcome after a step
abbrev pub OutcomesFollow : (Image → Image → Type 0) → (Image → Type 0) → (Image → Type 0) → Type 0
OutcomesFollow step old new = (c : Image) → new c → (d : Image) × old d × step d c

-- a crash leaves this image and no other
abbrev pub IsDurable : Image → (Image → Type 0) → Type 0
IsDurable image outcomes = (c : Image) → outcomes c → c ≡ image

-- Time goes on: what a crash since t might have left is what it might have left before, or what it may leave now.
pub record Elapses (before now : ℕ) (past since : ℕ → Image → Type 0) (may_leave : Image → Type 0) : Type 0 where
  pub later : before ≤ now
  pub nothing_else : (t : ℕ) (c : Image) → t ≤ before → since t c → past t c ⊎ may_leave c
  pub keeps : (t : ℕ) (c : Image) → t ≤ before → past t c → since t c

-- A crash at any moment since the old disk leaves an image that has P.
pub record LeavesOnly {D : Type 0} (moment : D → ℕ) (left_since : D → ℕ → Image → Type 0) (old new : D) (P : Image → Type 0) : Type 0 where
  pub later : moment old ≤ moment new
  pub each : (c : Image) → left_since new (moment old) c → P c
  -- for calls that began earlier
  pub before : (t : ℕ) (c : Image) → t ≤ moment old → left_since new t c → left_since old t c ⊎ P c

-- at most so many calls, of which the last alone failed
abbrev pub FailsWithin : {D : Type 0} → (D → ℕ → D → Type 0) → ℕ → D → D → Type 0
FailsWithin fails_at most old new = (n : ℕ) × (n ≤ most) × fails_at old n new

-- exactly so many calls, none of which failed; or the call that failed was one of them
abbrev pub MakesCalls : {D T E : Type 0} → (D → ℕ → D → Type 0) → (D → ℕ → D → Type 0) → ℕ → D → D → Result T E → Type 0
MakesCalls calls_done fails_at count old new result = MatchResult result (λ _. calls_done old count new) (λ _. FailsWithin fails_at count old new)
