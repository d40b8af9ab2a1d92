-- How a write through a slice that was lent comes back. (Own definitions.)
use Rattle.std.specs.Prelude.{ℕ, List, ◌++◌, length, take, drop}
use Rattle.std.specs.Borrow.{Lends, MutBor, Fml, Array, u8}
use Rattle.vt_base.specs.contracts.bytes.Bytes.{the_row}

-- the list with these bytes written over its start; as a slice keeps its length, these bytes
abbrev pub written_over : List ℕ → List ℕ → List ℕ
written_over list bytes = take (length list) (bytes ++ drop (length bytes) list)

-- the list ends as the last bytes behind the slice
abbrev pub LendsBytes : MutBor (List ℕ) → MutBor (List ℕ) → Fml
LendsBytes list slice = Lends the_row (Array u8 0) list slice (written_over list.now)
