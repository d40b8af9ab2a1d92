-- Bytes of a number by shifts.
use Rattle.std.proofs.Common.{◌≡◌, ℕ, zero, suc, ◌+◌, ◌*◌, ◌/◌, ◌%◌, ◌^◌, refl, ap, arith}
use Rattle.std.proofs.Math.Nat.{pow-succ'}
use Rattle.std.proofs.lemmas.Nat.{pow-add}
use Rattle.crb_regs.specs.LittleEndian.{byte_of}

power256 : (n : ℕ) → 2 ^ (8 * n) ≡ 256 ^ n
power256 zero = refl
power256 (suc n) =
    let eight : 8 * suc n ≡ 8 + 8 * n = omega arith in
    rw (eight, pow-add 2 8 (8 * n), pow-succ' 256 n) (ap (λ m. 256 * m) (power256 n))

-- eight bits are a byte
pub shift_byte : (number k : ℕ) → number / 2 ^ (8 * k) % 256 ≡ byte_of number k
shift_byte number k = rw (power256 k) refl
