-- The two slots of a disk, and the entry in force. (Own definitions.)
use Rattle.std.specs.Prelude.{◌==◌, ◌&&◌, ℕ, ◌+◌, Bool, true, false, List, Option, Some, None, option_map, if◌then◌else◌, nat_lt}
use Rattle.own_store.specs.Disk.{Image, bytes_of}
use Rattle.own_store.specs.Body.{stored_in}
use Rattle.own_store.specs.declared.body.Stored.{Stored}
use Rattle.own_store.specs.declared.entry.Entry.{Entry}
use Rattle.own_store.specs.declared.slot.Slot.{Slot}
use Rattle.own_store.specs.declared.slot.Slot.TheVariants.{First, Second}

-- where a slot begins
abbrev pub place : Slot → ℕ
place First = 0
place Second = 8192

abbrev pub other : Slot → Slot
other First = Second
other Second = First

-- the gate of a slot is open
abbrev pub is_open : Image → Slot → Bool
is_open image slot = image (place slot) == 0xA5

-- the bytes behind a gate
unfoldable pub body : Image → Slot → List ℕ
body image slot = bytes_of image (place slot + 1) 8191

-- the entry behind a gate, open or closed
abbrev pub behind_gate : Image → Slot → Option Stored
behind_gate image slot = stored_in (body image slot)

-- the entry of a slot, if its gate is open
unfoldable pub stored : Image → Slot → Option Stored
stored image slot = if is_open image slot then behind_gate image slot else None

-- the greater version, and the first one's entry where both are equal
abbrev pub newer : Option Stored → Option Stored → Option Stored
newer None second = second
newer (Some first) None = Some first
newer (Some first) (Some second) = if nat_lt first.version second.version then Some second else Some first

-- the entry in force, with its version
unfoldable pub in_force : Image → Option Stored
in_force image = newer (stored image First) (stored image Second)

-- the entry in force
abbrev pub entry_in_force : Image → Option Entry
entry_in_force image = option_map (λ s. s.entry) (in_force image)

-- how many calls of the disk close this gate
abbrev pub calls_to_close : Bool → ℕ
calls_to_close true = 2
calls_to_close false = 0

-- how many calls a put makes: two for the body, two for the gate that opens, and before them two to close it where both gates are open
abbrev pub put_calls : Image → ℕ
put_calls image = calls_to_close (is_open image First && is_open image Second) + 4
