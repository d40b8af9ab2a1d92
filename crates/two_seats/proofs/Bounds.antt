-- The lengths of what is offered may be offered.
use Rattle.std.proofs.Common.{◌≡◌, ℕ, ◌≤◌, ◌<◌, ◌+◌, true, false, [], ◌∷◌, length, refl, arith, None}
use Rattle.std.specs.Prelude.{nat_lt, nat_le}
use Rattle.std.proofs.lemmas.Bool.Decides.{nat_tests}
use Rattle.vt_base.specs.declared.types.Kind.TheVariants as kind
use Rattle.crb_machine.specs.Values.{DeviceValues}
use Rattle.device_record.specs.Records.{encode_record, trimmed}
use Rattle.device_record.proofs.Trims.{length-trimmed, trimmed_prefix}
use Rattle.device_record.proofs.Values.{length-encode_record}
use Rattle.state_blobs.proofs.Sizes.{text_least, text_most}
use Rattle.crb_history.specs.Snapshot.{Snapshot, IsValidSnapshot}
use Rattle.move_codec.specs.declared.names.Part.TheVariants.{Record, Permanent, Volatile, Saved}
use Rattle.move_core.specs.Sides.{first_bad, is_bad}
use Rattle.two_hosts.specs.Parts.{part_bytes, totals_of}

record_size : (v : DeviceValues) → length (encode_record v) ≡ 23 + length (trimmed v.content)
record_size v = length-encode_record v (length (trimmed v.content)) v.content refl (trimmed_prefix v.content) (length-trimmed v.content)

good : (n : ℕ) → 0 < n → n ≤ 4096 → is_bad n ≡ false
good n some most =
    let one : nat_lt 0 n ≡ true = grind (arith, nat_tests, some) in
    let two : nat_le n 4096 ≡ true = grind (arith, nat_tests, most) in
    rw (one, two) refl

none_bad : (a b c d : ℕ) → is_bad a ≡ false → is_bad b ≡ false → is_bad c ≡ false → is_bad d ≡ false → first_bad (a ∷ b ∷ c ∷ d ∷ []) ≡ None
none_bad a b c d p q r s = rw (p, q, r, s) refl

pub totals_good : (v : Snapshot) → IsValidSnapshot v → first_bad (totals_of v) ≡ None
totals_good v fit = none_bad (length (part_bytes v Record)) (length (part_bytes v Permanent)) (length (part_bytes v Volatile)) (length (part_bytes v Saved))
    (good (length (encode_record v.device)) (omega (arith, record_size v.device)) (omega (arith, record_size v.device, length-trimmed v.device.content, fit.device.size)))
    (good (length (part_bytes v Permanent)) (omega (arith, text_least kind.Permanent v.tpm)) (omega (arith, text_most kind.Permanent v.tpm fit.tpm)))
    (good (length (part_bytes v Volatile)) (omega (arith, text_least kind.Volatile v.tpm)) (omega (arith, text_most kind.Volatile v.tpm fit.tpm)))
    (good (length (part_bytes v Saved)) (omega (arith, text_least kind.Saved v.tpm)) (omega (arith, text_most kind.Saved v.tpm fit.tpm)))
