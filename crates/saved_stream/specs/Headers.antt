-- How many bytes to ask for next: the headers of a stream, one after the other. (Own definitions.)
use Rattle.std.specs.Prelude.{ℕ, ◌<◌, ◌==◌, ◌&&◌, nat_le, nat_eq, if◌then◌else◌, Bool, true, false, List, [], ◌∷◌, length, take, slice_index, Option, Some, None, Result, Ok, Err}
use Rattle.std.specs.List.{starts_with}
use Rattle.vt_base.specs.declared.grammar.Missing.{Missing}
use Rattle.vt_base.specs.Layout.{Layout, Ends, Field}
use Rattle.vt_base.specs.Parsing.{parsed}
use Rattle.vt_base.specs.declared.types.Kind.{Kind}
use Rattle.tpm_core.specs.declared.algorithm.Banks.{Banks}
use Rattle.device_record.specs.Records as records
use Rattle.state_blobs.specs.Numbers.{banks_named}
use Rattle.state_blobs.specs.Encodings.{magic_of, is_length}
use Rattle.state_blobs.specs.Refusals.{length_field}
use Rattle.saved_stream.specs.Numbers.{format_version}
use Rattle.saved_stream.specs.declared.part.Part.{Part}
use Rattle.saved_stream.specs.declared.part.Part.TheVariants.{Record, Blob}
use Rattle.saved_stream.specs.Parts.{parts}
use Rattle.crb_history.specs.Snapshot.{Snapshot}
use Rattle.saved_stream.specs.Streams.{magic, IsStream}

-- the magic of a part
abbrev pub part_magic : Part → List ℕ
part_magic Record = records.magic
part_magic (Blob kind) = magic_of kind

-- whether so many bytes may follow the header of a blob of these banks, if there are any
abbrev pub is_length_of : Kind → Option Banks → ℕ → Bool
is_length_of kind None count = false
is_length_of kind (Some banks) count = is_length kind banks count

-- whether so many bytes may follow the header of a part, if it has this version; that of a blob says which banks its TPM has
abbrev pub may_follow : Part → ℕ → ℕ → Bool
may_follow Record version count = version == format_version && nat_le 14 count && nat_le count 3982
may_follow (Blob kind) version count = is_length_of kind (banks_named version) count

-- whether a head begins with this magic and the version of streams
abbrev pub begins : List ℕ → List ℕ → Bool
begins magic header = starts_with nat_eq header magic && slice_index header 4 == format_version

-- whether these nine bytes are the header of a part
abbrev pub is_header : Part → List ℕ → Bool
is_header part header = starts_with nat_eq header (part_magic part) && may_follow part (slice_index header 4) (length_field header)

-- the parts that are left, each a header and a body: `true` where the last body is whole, `false` where a header is refused
abbrev pub parts_then : List Part → Layout Bool
parts_then [] = Ends true
parts_then (part ∷ parts) = Field 9 (λ header. if is_header part header then Field (length_field header) (λ body. parts_then parts) else Ends false)

-- the head, of which the length isn't looked at, and the four parts
unfoldable pub walk : Layout Bool
walk = Field 9 (λ head. if begins magic head then parts_then parts else Ends false)

-- how many bytes are missing, and none where nothing is
abbrev pub lack : Result Bool Missing → ℕ
lack (Ok end) = 0
lack (Err missing) = missing.0

-- how many bytes are missing of the first header or body that isn't whole
abbrev pub wanted_after : List ℕ → ℕ
wanted_after begin = lack (parsed walk begin)

-- No stream ends before the last of these bytes: what a reader has that never took more than was wanted.
abbrev pub EndsNoStream : List ℕ → Type 0
EndsNoStream bytes = (place : ℕ) (b : Snapshot) → place < length bytes → IsStream (take place bytes) b → ⊥
