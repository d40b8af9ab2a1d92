-- The blobs of a TPM over wires in memory. (Own definitions.)
use Rattle.std.specs.Prelude.{◌≡◌, ◌≤◌, ◌-◌, ℕ, false, [], length, Some, None}
use Rattle.vt_base.specs.declared.types.Kind.{Kind}
use Rattle.tpm_core.specs.declared.parts.TpmParts.{TpmParts}
use Rattle.tpm_core.specs.Steps.{IsValid}
use Rattle.state_blobs.specs.Encodings.{encode_blob}
use Rattle.ctrl_model.specs.Emulator.{with_gather, gather_of}
use Rattle.ctrl_client.specs.Exchange.{IsQuiet}
use Rattle.ctrl_model.specs.Link.{Link}
use Rattle.vt_seat.specs.Wires.{WiresState}

-- a TPM's blobs can be asked for, in pieces of at least a byte, and no call is to fail
pub record IsReadable (w : WiresState) (t : TpmParts) : Type 0 where
  pub quiet : IsQuiet w.link
  pub unordered : w.calls_to_fault ≡ None
  pub tpm : w.link.emulator.tpm ≡ Some t
  pub fit : IsValid t
  pub some : 1 ≤ w.link.emulator.piece

-- an emulator that is off has no bytes of this blob yet, and no call is to fail
pub record IsAwaiting (kind : Kind) (w : WiresState) : Type 0 where
  pub quiet : IsQuiet w.link
  pub unordered : w.calls_to_fault ≡ None
  pub off : w.link.emulator.on ≡ false
  pub none : gather_of kind w.link.emulator.gathers ≡ []

-- the link once the blob of a TPM was given
abbrev pub given_blob : Kind → TpmParts → Link → Link
given_blob kind t l = record l { emulator = record l.emulator { gathers = with_gather kind (encode_blob kind t) l.emulator.gathers } }

-- there is room for what the blob has from a place on
pub record HasRest (kind : Kind) (t : TpmParts) (from room : ℕ) : Type 0 where
  pub within : from ≤ length (encode_blob kind t)
  pub fits : length (encode_blob kind t) - from ≤ room
