-- How long a blob is at most.
use Rattle.std.specs.Prelude.{◌≡◌, ℕ, ◌≤◌, slice_index, true, eqb, ◌||◌, Option, Some, None}
use Rattle.std.proofs.Common.{lit≤, arith}
use Rattle.std.proofs.lemmas.Bool.{eqb-true}
use Rattle.std.proofs.lemmas.Bool.Decides.{nat_tests}
use Rattle.std.specs.Int.{from_be_bytes, w32}
use Rattle.vt_base.specs.Layout.{IsWithin}
use Rattle.vt_base.specs.Refusing.{refuse}
use Rattle.vt_base.specs.Within.{either_within, magic_byte_within}
use Rattle.vt_base.specs.declared.types.Kind.{Kind}
use Rattle.vt_base.specs.declared.types.Kind.TheVariants.{Permanent, Volatile, Saved}
use Rattle.vt_base.specs.declared.types.Why.TheVariants.{Magic, Length, Value}
use Rattle.tpm_core.specs.declared.algorithm.Banks.{Banks}
use Rattle.tpm_core.specs.declared.algorithm.Banks.TheVariants.{One, Two}
use Rattle.state_blobs.specs.Numbers.{banks_named, largest_blob}
use Rattle.state_blobs.specs.Encodings.{letter_of, is_length, flag_fits}
use Rattle.state_blobs.specs.Blobs.{body_then, after_version, after_magic, blob}

either_is : (n a b : ℕ) → eqb n a || eqb n b ≡ true → a ≤ 1933 → b ≤ 1933 → n ≤ 1933
either_is n a b is p q = grind (arith, nat_tests)

-- a body has at most 1933 bytes
length_bound : (kind : Kind) (banks : Banks) (count : ℕ) → is_length kind banks count ≡ true → count ≤ 1933
length_bound Permanent banks count is = omega (arith, eqb-true count 40 is)
length_bound Volatile One count is = either_is count 1 781 is (lit≤ tt) (lit≤ tt)
length_bound Volatile Two count is = either_is count 1 1933 is (lit≤ tt) (lit≤ tt)
length_bound Saved One count is = either_is count 1 517 is (lit≤ tt) (lit≤ tt)
length_bound Saved Two count is = either_is count 1 1285 is (lit≤ tt) (lit≤ tt)

body_within : (kind : Kind) (count : ℕ) → count ≤ 1933 → IsWithin (body_then kind count) 1933
body_within kind count le = (lit≤ tt, λ flag. either_within (flag_fits kind count (slice_index flag 0)) _ (refuse Value 9) 1932 (λ _. (omega (arith, le), λ _. tt)) (λ _. tt))

version_within : (kind : Kind) (named : Option Banks) → IsWithin (after_version kind named) 1937
version_within kind None = tt
version_within kind (Some banks) =
    (lit≤ tt, λ field. either_within (is_length kind banks (from_be_bytes w32 field)) _ (refuse Length 5) 1933 (λ is. body_within kind (from_be_bytes w32 field) (length_bound kind banks (from_be_bytes w32 field) is)) (λ _. tt))

behind_magic : (kind : Kind) → IsWithin (after_magic kind) 1938
behind_magic kind = (lit≤ tt, λ field. version_within kind (banks_named (slice_index field 0)))

pub blob_within : (kind : Kind) → IsWithin (blob kind) largest_blob
unfolding blob
blob_within kind =
    magic_byte_within 67 Magic 0 _ 1942 (lit≤ tt) (magic_byte_within 82 Magic 1 _ 1941 (lit≤ tt) (magic_byte_within 66 Magic 2 _ 1940 (lit≤ tt) (magic_byte_within (letter_of kind) Magic 3 _ 1939 (lit≤ tt)
    (behind_magic kind))))
