-- A disk in memory, as its callers see it. (Own definitions.)
use Rattle.std.specs.Prelude.{◌≡◌, ◌⊎◌, ◌<◌, ◌≤◌, ℕ, ◌+◌, ◌*◌, Bool, true, false, Option, List, [], ◌∷◌, ◌++◌}
use Rattle.own_store.specs.Disk.{Image}
use Rattle.own_store.specs.Steps.{Step, state, byte_at}
use Rattle.own_store.specs.Steps.Step.{Lost}
use Rattle.own_store.specs.Logged.{LoggedCalls}

pub record MemoryDisk : Type 0 where
  -- the calls that were done, the first one first
  pub steps : List Step
  -- for how many more calls there is room
  pub room : ℕ
  pub off : Bool
  -- how many calls come before the one that is to fail, and before the one at which power is lost: true keeps the
  -- pending writes
  pub calls_to_fault : Option ℕ
  pub calls_to_loss : Option (ℕ × Bool)
  pub faults : ℕ

-- what the fields keep
pub record IsConsistentDisk (content synced : List ℕ) (logged : LoggedCalls) (pending : Bool) (room : ℕ) : Type 0 where
  pub now : content ≡ (state logged.steps).content
  pub durable : synced ≡ (state logged.steps).synced
  pub still : pending ≡ false → content ≡ synced
  -- a call may be followed by a loss of power, which needs an entry too
  pub entries : room + room ≤ logged.entries
  pub entry_for_loss : pending ≡ true → room + room < logged.entries
  pub bytes : room * 16384 ≤ logged.bytes

-- no step, or a loss of power
abbrev pub MayLose : Bool → List Step → List Step → Type 0
MayLose keep old new = (new ≡ old) ⊎ (new ≡ old ++ Lost keep ∷ [])

abbrev pub MayHaveLost : List Step → List Step → Type 0
MayHaveLost old new = (keep : Bool) × MayLose keep old new

-- what a read of it gives
abbrev pub memory_content : MemoryDisk → Image
memory_content d = byte_at (state d.steps).content

-- the disk with these steps and this room
abbrev pub with_step : List Step → ℕ → MemoryDisk → MemoryDisk
with_step steps room d = record d { steps = steps; room = room }
