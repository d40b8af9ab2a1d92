-- What a reader of control messages is to its caller. (Own definitions.)
use Rattle.std.specs.Prelude.{ℕ, List, Bool}

-- the bytes of the message that isn't whole, the data of the last whole one, and whether bytes were refused
pub record ReaderState : Type 0 where
  pub begun : List ℕ
  pub payload : List ℕ
  pub failed : Bool
