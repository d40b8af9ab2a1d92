-- What a contract sees of an adapter over std. (Own definitions.)
use Rattle.std.specs.Prelude.{ℕ}

-- what stands behind it, and how many of its calls failed
pub record Adapted (T : Type 0) : Type 0 where
  pub inner : T
  pub faults : ℕ
