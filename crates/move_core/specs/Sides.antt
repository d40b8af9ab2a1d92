-- Sides, names and parts of a move. (Own definitions.)
use Rattle.std.specs.Prelude.{ℕ, Bool, true, false, not, ◌&&◌, nat_lt, nat_le, List, slice_index, Option, Some, None}
use Rattle.std.specs.List.{position_from}
use Rattle.vt_base.specs.declared.types.Kind.{Kind}
use Rattle.vt_base.specs.declared.types.Kind.TheVariants as kind
use Rattle.vt_base.specs.declared.types.HostName.{HostName}
use Rattle.vt_base.specs.declared.types.HostName.TheVariants.{A, B}
use Rattle.move_codec.specs.declared.names.Part.{Part}
use Rattle.move_codec.specs.declared.names.Part.TheVariants.{Record, Permanent, Volatile, Saved}
use Rattle.move_core.specs.declared.side.Side.{Side}
use Rattle.move_core.specs.declared.side.Side.TheVariants as side
use Rattle.move_core.specs.declared.stage.MoveStage.{MoveStage}
use Rattle.move_core.specs.declared.stage.MoveStage.TheVariants.{Empty, Running, Draining, Offering, Released, Filling, Prepared}

abbrev pub other : HostName → HostName
other A = B
other B = A

abbrev pub is_same : HostName → HostName → Bool
is_same A A = true
is_same B B = true
is_same _ _ = false

-- the side alone
abbrev pub side_of : MoveStage → Side
side_of Empty = side.Empty
side_of Running = side.Running
side_of Draining = side.Draining
side_of (Offering e totals) = side.Offering e
side_of (Released e) = side.Released e
side_of (Filling e totals part place) = side.Filling e
side_of (Prepared e) = side.Prepared e

-- whether the guest runs
abbrev pub is_running : MoveStage → Bool
is_running Running = true
is_running _ = false

-- whether the guest waits until its last command is done
abbrev pub is_draining : MoveStage → Bool
is_draining Draining = true
is_draining _ = false

-- whether the device is held: no worker takes a job from it, or gives one back
abbrev pub holds_device : MoveStage → Bool
holds_device Running = false
holds_device Draining = false
holds_device _ = true

-- whether the guest runs here, or may run again without a message of the other host
abbrev pub is_active : MoveStage → Bool
is_active Running = true
is_active Draining = true
is_active (Offering e totals) = true
is_active _ = false

abbrev pub part_number : Part → ℕ
part_number Record = 0
part_number Permanent = 1
part_number Volatile = 2
part_number Saved = 3

-- the parts in order
abbrev pub part_after : Part → Option Part
part_after Record = Some Permanent
part_after Permanent = Some Volatile
part_after Volatile = Some Saved
part_after Saved = None

-- the blob that is this part
abbrev pub kind_in : Part → Option Kind
kind_in Record = None
kind_in Permanent = Some kind.Permanent
kind_in Volatile = Some kind.Volatile
kind_in Saved = Some kind.Saved

abbrev pub total_of : List ℕ → Part → ℕ
total_of totals part = slice_index totals (part_number part)

-- a length that no part may have: the longest record has 3991 bytes, and the longest blob 1942
abbrev pub is_bad : ℕ → Bool
is_bad total = not (nat_lt 0 total && nat_le total 4096)

-- the number of the first part whose length is 0 or above 4096
abbrev pub first_bad : List ℕ → Option ℕ
first_bad totals = position_from is_bad 0 totals
