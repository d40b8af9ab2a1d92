-- What a reader of migration messages is to its caller. (Own definitions.)
use Rattle.std.specs.Prelude.{ℕ, List, Bool}

-- the bytes of the message that isn't whole, and whether bytes were refused
pub record MessageReaderState : Type 0 where
  pub begun : List ℕ
  pub failed : Bool
