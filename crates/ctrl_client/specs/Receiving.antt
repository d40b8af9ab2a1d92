-- A whole part of what waits is received at once, or the call failed. (Own definitions.)
use Rattle.std.specs.Prelude.{◌≡◌, ℕ, Bool, not, List, take, Option, Some, Result, is_ok, OnOk}
use Rattle.vt_base.specs.declared.types.Chan.{Chan}
use Rattle.ctrl_model.specs.Link.{Link, received, receivable}

pub record ReceivesExact {P T E : Type 0} (fails : P → Bool) (later : P → P) (chan : Chan) (l : Link) (schedule : P) (count : ℕ) (result : Result T E) (into : List ℕ) (after : Option Link) (schedule_later : P) : Type 0 where
  pub link : after ≡ Some (received (not (fails schedule)) chan count l)
  pub schedule_after : schedule_later ≡ later schedule
  pub answers : is_ok result ≡ not (fails schedule)
  pub bytes : OnOk result (into ≡ take count (receivable chan l))
