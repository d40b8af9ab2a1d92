-- Blobs, parsed from left to right. (Own definitions.)
use Rattle.std.specs.Prelude.{ℕ, ◌-◌, if◌then◌else◌, Option, Some, None, Result, Ok}
use Rattle.vt_base.specs.Layout.{Layout, Ends, Field, byte_then, number_then}
use Rattle.vt_base.specs.Magics.{magic_then}
use Rattle.vt_base.specs.Refusing.{refuse}
use Rattle.vt_base.specs.declared.types.Kind.{Kind}
use Rattle.vt_base.specs.declared.types.Why.TheVariants.{Version, Length, Value}
use Rattle.vt_base.specs.declared.types.Malformed.{Malformed}
use Rattle.tpm_core.specs.declared.algorithm.Banks.{Banks}
use Rattle.state_blobs.specs.Numbers.{banks_named, version_place, length_place, body_place}
use Rattle.state_blobs.specs.Encodings.{magic_of, is_length, flag_fits}

-- a whole blob, or why the bytes are refused
abbrev pub Ending : Type 0
Ending = Result (Unit {0}) Malformed

-- so many bytes, of which only the first is looked at
abbrev pub body_then : Kind → ℕ → Layout Ending
body_then kind count = byte_then (λ flag. if flag_fits kind count flag then Field (count - 1) (λ _. Ends (Ok tt)) else refuse Value body_place)

-- a body of so many bytes, if a blob of a TPM with these banks may have it
abbrev pub sized_then : Kind → Banks → ℕ → Layout Ending
sized_then kind banks count = if is_length kind banks count then body_then kind count else refuse Length length_place

-- the length and the body, if the version is that of some banks
abbrev pub after_version : Kind → Option Banks → Layout Ending
after_version kind None = refuse Version version_place
after_version kind (Some banks) = number_then (sized_then kind banks)

-- the version, and what it makes of the rest
abbrev pub after_magic : Kind → Layout Ending
after_magic kind = byte_then (λ version. after_version kind (banks_named version))

unfoldable pub blob : Kind → Layout Ending
blob kind = magic_then (magic_of kind) 0 (after_magic kind)
