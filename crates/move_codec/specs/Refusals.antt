-- What a reader of migration messages refuses, row by row. The bytes end with the field that is refused. (Own format.)
use Rattle.std.specs.Prelude.{◌≡◌, ◌≢◌, ℕ, ◌+◌, ◌≤◌, ◌<◌, ◌^◌, ◌⊎◌, List, [], ◌∷◌, ◌++◌, take, slice_index, true, false, ⊤}
use Rattle.vt_base.specs.Numbers.{short, number}
use Rattle.vt_base.specs.declared.types.Why.TheVariants as why
use Rattle.vt_base.specs.declared.types.Malformed.{Malformed}
use Rattle.vt_base.specs.Refusing.{malformed}
use Rattle.move_codec.specs.declared.message.Message.{Message}
use Rattle.vt_base.specs.declared.types.HostName.{HostName}
use Rattle.move_codec.specs.declared.names.Part.{Part}
use Rattle.move_codec.specs.declared.names.Kind.{Kind}
use Rattle.move_codec.specs.declared.names.Kind.TheVariants.{Offer, Need, Piece, Prepared, Commit, Abort, Refuse}
use Rattle.move_codec.specs.Names.{part_byte, kind_byte, fits}
use Rattle.move_codec.specs.Encoding.{magic, before_length, before_kind, before_receiver, before_body, Moves}

abbrev pub IsOutside : ℕ → ℕ → ℕ → Type 0
IsOutside low high n = (n < low) ⊎ (high < n)

-- a length that some message has
abbrev pub IsLength : ℕ → Type 0
IsLength len = (10 ≤ len) × (len ≤ 4113)

-- a length that a message of this kind has
abbrev pub Fits : Kind → ℕ → Type 0
Fits k len = IsLength len × (fits k len ≡ true)

-- the kinds whose bodies begin with a part
abbrev pub BeginsWithPart : Kind → Type 0
BeginsWithPart Need = ⊤
BeginsWithPart Piece = ⊤
BeginsWithPart Offer = ⊥
BeginsWithPart Prepared = ⊥
BeginsWithPart Commit = ⊥
BeginsWithPart Abort = ⊥
BeginsWithPart Refuse = ⊥

-- a piece of so many bytes, as far as their number
abbrev pub before_bytes : ℕ → HostName → ℕ → Part → ℕ → ℕ → List ℕ
before_bytes len to epoch part offset count = before_body len Piece to epoch ++ part_byte part ∷ number offset ++ short count

pub data Refuses : Malformed → List ℕ → Type 0 where
  wrong_magic : (place byte : ℕ) → place < 4 → byte ≢ slice_index magic place
      → Refuses (malformed why.Magic place) (take place magic ++ byte ∷ [])
  wrong_version : (byte : ℕ) → byte ≢ 1
      → Refuses (malformed why.Version 4) (magic ++ byte ∷ [])
  no_length : (len : ℕ) → len < 2 ^ 32 → IsOutside 10 4113 len
      → Refuses (malformed why.Length 5) (before_length ++ number len)
  no_kind : (len byte : ℕ) → IsLength len → IsOutside 1 7 byte
      → Refuses (malformed why.Value 9) (before_kind len ++ byte ∷ [])
  -- a length that only the kind shows as wrong
  unfit_length : (len : ℕ) (k : Kind) → IsLength len → fits k len ≡ false
      → Refuses (malformed why.Length 5) (before_kind len ++ kind_byte k ∷ [])
  no_receiver : (len : ℕ) (k : Kind) (byte : ℕ) → Fits k len → 1 < byte
      → Refuses (malformed why.Value 10) (before_receiver len k ++ byte ∷ [])
  no_part : (len : ℕ) (k : Kind) (to : HostName) (epoch byte : ℕ) → Fits k len → BeginsWithPart k → epoch < 2 ^ 64 → 3 < byte
      → Refuses (malformed why.Value 19) (before_body len k to epoch ++ byte ∷ [])
  no_reason : (len : ℕ) (to : HostName) (epoch byte : ℕ) → Fits Refuse len → epoch < 2 ^ 64 → IsOutside 1 6 byte
      → Refuses (malformed why.Value 19) (before_body len Refuse to epoch ++ byte ∷ [])
  no_count : (len : ℕ) (to : HostName) (epoch : ℕ) (part : Part) (offset count : ℕ) → Fits Piece len → epoch < 2 ^ 64 → offset < 2 ^ 32 → count < 2 ^ 16
      → IsOutside 1 4096 count
      → Refuses (malformed why.Value 24) (before_bytes len to epoch part offset count)
  -- a number of bytes that isn't what the length leaves for them
  unfit_count : (len : ℕ) (to : HostName) (epoch : ℕ) (part : Part) (offset count : ℕ) → Fits Piece len → epoch < 2 ^ 64 → offset < 2 ^ 32
      → 1 ≤ count → count ≤ 4096 → 17 + count ≢ len
      → Refuses (malformed why.Length 24) (before_bytes len to epoch part offset count)

-- No message is whole in these bytes, and no field that is whole is refused.
pub record IsUndecided (bytes : List ℕ) : Type 0 where
  pub no_message : (n : ℕ) (m : Message) → Moves m (take n bytes) → ⊥
  pub no_refusal : (n : ℕ) (fault : Malformed) → Refuses fault (take n bytes) → ⊥
