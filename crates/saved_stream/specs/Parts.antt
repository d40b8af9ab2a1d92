-- The parts of a stream: the record of a device, and the blobs of a TPM. (Own definitions.)
use Rattle.std.specs.Prelude.{◌≡◌, ℕ, List, [], ◌∷◌, ◌⊎◌, length}
use Rattle.vt_base.specs.Refusing.{malformed}
use Rattle.vt_base.specs.declared.types.Kind.TheVariants.{Permanent, Volatile, Saved}
use Rattle.vt_base.specs.declared.types.Why.TheVariants.{Cut}
use Rattle.vt_base.specs.declared.types.Malformed.{Malformed}
use Rattle.crb_machine.specs.Values.{DeviceValues}
use Rattle.device_record.specs.Records.{IsRecord}
use Rattle.device_record.specs.Layouts as layouts
use Rattle.state_blobs.specs.Encodings.{IsBlob}
use Rattle.state_blobs.specs.Refusals.{IsRefused, IsCut}
use Rattle.saved_stream.specs.declared.part.Part.{Part}
use Rattle.saved_stream.specs.declared.part.Part.TheVariants.{Record, Blob}

-- the parts, in their order
abbrev pub parts : List Part
parts = Record ∷ Blob Permanent ∷ Blob Volatile ∷ Blob Saved ∷ []

-- The bytes are this part, of some values.
abbrev pub IsWhole : Part → List ℕ → Type 0
IsWhole Record bytes = (v : DeviceValues) × IsRecord bytes v
IsWhole (Blob kind) bytes = IsBlob kind bytes

-- The bytes begin no such part, or end before it does, or go on after it.
abbrev pub IsPartRefused : Part → Malformed → List ℕ → Type 0
IsPartRefused Record fault bytes = layouts.IsRefused fault bytes
IsPartRefused (Blob kind) fault bytes = IsRefused kind fault bytes ⊎ (IsCut kind bytes × (fault ≡ malformed Cut (length bytes)))
