-- The front of an input, which may be a saved stream, as it is read. (Own definitions.)
use Rattle.std.specs.Prelude.{◌≡◌, ◌<◌, ◌⊎◌, ℕ, List, length, Option, Some, None}
use Rattle.std.specs.Io.KnownBytes.{Consumes, IsAtEnd}
use Rattle.vt_base.specs.declared.status.Status.{Status}
use Rattle.vt_base.specs.declared.status.Status.TheVariants.{Ok, Usage, Script, ReadFault, WriteFault, Memory, Limit, Refused, NotYet}
use Rattle.saved_stream.specs.Headers.{wanted_after, EndsNoStream}

-- these bytes were taken from the front, and never more than were wanted
pub record IsFront (old new : Option (List ℕ)) (front : List ℕ) : Type 0 where
  pub taken : Consumes old new front
  pub none_inside : EndsNoStream front

-- what came of it: no more are wanted, or the input ends; or a read failed where more are wanted, or memory was lacking
abbrev pub HasFront : Option Status → Option (List ℕ) → Option (List ℕ) → List ℕ → Type 0
HasFront None old new front = IsFront old new front × ((wanted_after front ≡ 0) ⊎ IsAtEnd new)
HasFront (Some ReadFault) old new front = IsFront old new front × (0 < wanted_after front)
HasFront (Some Memory) old new front = Unit {0}
HasFront (Some status) old new front = ⊥
