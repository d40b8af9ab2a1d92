-- How many pieces a move has, and how many messages. (Own definitions.)
use Rattle.std.specs.Prelude.{◌-◌, ◌+◌, ◌*◌, ℕ, length, suc, Option, Some, None}
use Rattle.std.specs.Int.{div_ceil}
use Rattle.crb_machine.specs.Values.{held_values}
use Rattle.device_record.specs.Records.{encode_record}
use Rattle.tpm_core.specs.declared.parts.TpmParts.{TpmParts}
use Rattle.ctrl_model.specs.Emulator.{PendingCommand}
use Rattle.ctrl_model.specs.Link.{Link, ChannelState}
use Rattle.move_codec.specs.declared.names.Part.{Part}
use Rattle.move_codec.specs.declared.names.Part.TheVariants.{Record, Permanent, Volatile, Saved}
use Rattle.move_codec.specs.declared.message.Message.{Message}
use Rattle.move_codec.specs.declared.message.Body.{Body}
use Rattle.move_codec.specs.declared.message.Body.TheVariants as body
use Rattle.move_core.specs.Model.{HostModel}
use Rattle.hand_over.specs.Parts.{Parts, PieceSizes}
use Rattle.hand_over.specs.Bridge.{port_state}

-- The pieces of a whole move: each part goes in pieces of its size, of which the last may be shorter.
abbrev pub pieces_of : PieceSizes → Parts → ℕ
pieces_of size parts =
    div_ceil (length parts.record_bytes) size.of_record
    + (div_ceil (length parts.permanent) size.of_blob + (div_ceil (length parts.volatile) size.of_blob + div_ceil (length parts.saved) size.of_blob))

-- the pieces that are still to come, where so much of this part is there
abbrev pub pieces_left : PieceSizes → Parts → Part → ℕ → ℕ
pieces_left size parts Record place =
    div_ceil (length parts.record_bytes - place) size.of_record
    + (div_ceil (length parts.permanent) size.of_blob + (div_ceil (length parts.volatile) size.of_blob + div_ceil (length parts.saved) size.of_blob))
pieces_left size parts Permanent place =
    div_ceil (length parts.permanent - place) size.of_blob + (div_ceil (length parts.volatile) size.of_blob + div_ceil (length parts.saved) size.of_blob)
pieces_left size parts Volatile place = div_ceil (length parts.volatile - place) size.of_blob + div_ceil (length parts.saved) size.of_blob
pieces_left size parts Saved place = div_ceil (length parts.saved - place) size.of_blob

-- the messages that follow this one in an undisturbed move
abbrev pub messages_after : PieceSizes → Parts → Body → ℕ
messages_after size parts (body.Offer totals) = 2 * pieces_of size parts + 2
messages_after size parts (body.Need part offset) = 2 * pieces_left size parts part offset + 1
messages_after size parts (body.Piece part offset bytes) = 2 * pieces_left size parts part offset
messages_after size parts body.Prepared = 1
messages_after size parts _ = 0

-- ---- by what is behind the source

-- how many bytes a piece of a blob has at most
abbrev pub blob_piece : Option Link → ℕ
blob_piece (Some l) = l.emulator.piece
blob_piece None = 0

abbrev pub tpm_behind : Option Link → Option TpmParts
tpm_behind (Some l) = l.emulator.tpm
tpm_behind None = None

-- the command that an emulator holds, and the bytes of the channel of commands
pub record CommandState : Type 0 where
  pub held : Option PendingCommand
  pub channel : ChannelState

abbrev pub commands_at : Option Link → Option CommandState
commands_at (Some l) = Some (record { held = l.emulator.held; channel = l.commands })
commands_at None = None

abbrev pub sizes_at : {P : Type 0} → HostModel P → Option Link → PieceSizes
sizes_at h link = record { of_record = h.piece; of_blob = blob_piece link }

-- the record of the held device, and the blobs of the TPM
abbrev pub parts_at : {P : Type 0} → HostModel P → Option Link → Parts
parts_at h link = port_state (encode_record (held_values h.device)) (tpm_behind link)

-- the pieces of a move from this host, whose device is held
abbrev pub pieces_from : {P : Type 0} → HostModel P → Option Link → ℕ
pieces_from h link = pieces_of (sizes_at h link) (parts_at h link)

abbrev pub messages_left : {P : Type 0} → HostModel P → Option Link → Message → ℕ
messages_left h link m = messages_after (sizes_at h link) (parts_at h link) m.body

-- the messages that are left with the answer to one, if it has one
abbrev pub left_with : {P : Type 0} → HostModel P → Option Link → Option Message → ℕ
left_with h link (Some reply) = suc (messages_left h link reply)
left_with h link None = 0
