-- What a gather is to its caller. (Own definitions.)
use Rattle.std.specs.Prelude.{ℕ, List, Bool}
use Rattle.vt_base.specs.declared.types.Kind.{Kind}

-- the kind of its blob, the bytes so far, and whether they are the whole blob
pub record Gathering : Type 0 where
  pub kind : Kind
  pub begun : List ℕ
  pub whole : Bool
