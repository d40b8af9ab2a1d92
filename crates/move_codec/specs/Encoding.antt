-- The one encoding of each migration message. (Own format; its numbers are big-endian.)
use Rattle.std.specs.Prelude.{◌≡◌, ℕ, ◌+◌, ◌≤◌, ◌<◌, ◌^◌, List, [], ◌∷◌, ◌++◌, length, ⊤}
use Rattle.std.specs.List.{AllByRecursion}
use Rattle.vt_base.specs.Numbers.{short, number, long}
use Rattle.move_codec.specs.declared.message.Message.{Message}
use Rattle.move_codec.specs.declared.message.Body.{Body}
use Rattle.move_codec.specs.declared.message.Body.TheVariants.{Offer, Need, Piece, Prepared, Commit, Abort, Refuse}
use Rattle.vt_base.specs.declared.types.HostName.{HostName}
use Rattle.move_codec.specs.declared.names.Kind.{Kind}
use Rattle.move_codec.specs.declared.names.Kind.TheVariants as kind
use Rattle.move_codec.specs.Names.{host_byte, part_byte, reason_byte, kind_byte}

-- `CRBM`
abbrev pub magic : List ℕ
magic = 67 ∷ 82 ∷ 66 ∷ 77 ∷ []

-- ---- what stands before each field of the header

abbrev pub before_length : List ℕ
before_length = magic ++ 1 ∷ []

abbrev pub before_kind : ℕ → List ℕ
before_kind len = before_length ++ number len

abbrev pub before_receiver : ℕ → Kind → List ℕ
before_receiver len k = before_kind len ++ kind_byte k ∷ []

abbrev pub before_body : ℕ → Kind → HostName → ℕ → List ℕ
before_body len k to epoch = before_receiver len k ++ host_byte to ∷ long epoch

-- ---- bodies

abbrev pub kind_of : Body → Kind
kind_of (Offer totals) = kind.Offer
kind_of (Need part offset) = kind.Need
kind_of (Piece part offset bytes) = kind.Piece
kind_of Prepared = kind.Prepared
kind_of Commit = kind.Commit
kind_of Abort = kind.Abort
kind_of (Refuse reason value) = kind.Refuse

abbrev pub numbers : List ℕ → List ℕ
numbers [] = []
numbers (n ∷ ns) = number n ++ numbers ns

abbrev pub fields_of : Body → List ℕ
fields_of (Offer totals) = numbers totals
fields_of (Need part offset) = part_byte part ∷ number offset
fields_of (Piece part offset bytes) = part_byte part ∷ number offset ++ short (length bytes) ++ bytes
fields_of Prepared = []
fields_of Commit = []
fields_of Abort = []
fields_of (Refuse reason value) = reason_byte reason ∷ number value

-- ---- messages

abbrev pub encode_message : Message → List ℕ
encode_message m = before_body (10 + length (fields_of m.body)) (kind_of m.body) m.to m.epoch ++ fields_of m.body

-- a piece has 1 to 4096 bytes
abbrev pub HasPiece : Body → Type 0
HasPiece (Piece part offset bytes) = (0 < length bytes) × (length bytes ≤ 4096)
HasPiece (Offer totals) = ⊤
HasPiece (Need part offset) = ⊤
HasPiece Prepared = ⊤
HasPiece Commit = ⊤
HasPiece Abort = ⊤
HasPiece (Refuse reason value) = ⊤

-- its numbers are those of its types
abbrev pub IsInRange : Body → Type 0
IsInRange (Offer totals) = (length totals ≡ 4) × AllByRecursion (λ n. n < 2 ^ 32) totals
IsInRange (Need part offset) = offset < 2 ^ 32
IsInRange (Piece part offset bytes) = offset < 2 ^ 32
IsInRange Prepared = ⊤
IsInRange Commit = ⊤
IsInRange Abort = ⊤
IsInRange (Refuse reason value) = value < 2 ^ 32

-- These bytes are this message.
pub record Moves (m : Message) (bytes : List ℕ) : Type 0 where
  pub epoch : m.epoch < 2 ^ 64
  pub in_range : IsInRange m.body
  pub piece : HasPiece m.body
  pub spelled : bytes ≡ encode_message m
