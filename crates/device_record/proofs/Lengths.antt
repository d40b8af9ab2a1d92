-- How long the record of a device's values is.
use Rattle.std.proofs.Common.{ℕ, ◌+◌, ◌≤◌, List, [], ◌∷◌, length, arith}
use Rattle.std.specs.Prelude.{◌==◌, Bool, true, false, if◌then◌else◌}
use Rattle.crb_machine.specs.Values.{DeviceValues, AreValid}
use Rattle.device_record.specs.Records.{before, trimmed, encode_record}

before_within : (x : ℕ) (xs : List ℕ) → length (before x xs) ≤ length xs + 1
before_within x (y ∷ xs) = omega arith
before_within x [] = by_zero (x == 0)
  where
    by_zero : (zero : Bool) → length (if zero then [] else x ∷ []) ≤ 1
    by_zero true = omega arith
    by_zero false = omega arith

trimmed_within : (xs : List ℕ) → length (trimmed xs) ≤ length xs
trimmed_within [] = omega arith
trimmed_within (x ∷ xs) = omega (arith, before_within x (trimmed xs), trimmed_within xs)

pub record_most : (v : DeviceValues) → AreValid v → length (encode_record v) ≤ 3991
unfolding encode_record
record_most v fit = omega (arith, trimmed_within v.content, fit.size)

pub record_least : (v : DeviceValues) → 23 ≤ length (encode_record v)
unfolding encode_record
record_least v = omega arith
