-- The messages of one host to the other, and which piece of a part comes next. (Own definitions.)
use Rattle.std.specs.Prelude.{ℕ, ◌+◌, ◌==◌, ◌&&◌, Bool, nat_le, List}
use Rattle.vt_base.specs.declared.types.HostName.{HostName}
use Rattle.move_codec.specs.declared.names.Part.{Part}
use Rattle.move_codec.specs.declared.message.Message.{Message}
use Rattle.move_codec.specs.declared.message.Body.{Body}
use Rattle.move_core.specs.Sides.{other, part_number, total_of}

-- a message of this host to the other one
abbrev pub message_from : HostName → ℕ → Body → Message
message_from me epoch says = record { to = other me; epoch = epoch; body = says }

-- the piece is the next one, and doesn't pass the length of its part
abbrev pub is_next : List ℕ → Part → ℕ → Part → ℕ → ℕ → Bool
is_next totals next place part offset size = part_number part == part_number next && (offset == place && nat_le (place + size) (total_of totals next))
