-- The number of some bytes, one byte at a time.
use Rattle.std.proofs.Common.{◌≡◌, ℕ, zero, suc, ◌+◌, ◌-◌, ◌*◌, ◌^◌, ◌<◌, ◌≤◌, refl, arith, lit<}
use Rattle.std.proofs.Math.Nat.{pow-succ', pow-le-pow_right}
use Rattle.crb_regs.specs.LittleEndian.{little_endian_at}

-- a number of bytes that isn't 0 is one more than another
pub little_endian-first : (byte : ℕ → ℕ) (at size : ℕ) → 0 < size → byte at + 256 * little_endian_at byte (at + 1) (size - 1) ≡ little_endian_at byte at size
little_endian-first byte at zero some = absurd (omega arith)
little_endian-first byte at (suc size) some =
    let less : suc size - 1 ≡ size = omega arith in rw less refl

pub power-first : (size : ℕ) → 0 < size → 256 ^ size ≡ 256 * 256 ^ (size - 1)
power-first zero some = absurd (omega arith)
power-first (suc size) some =
    let less : suc size - 1 ≡ size = omega arith in rw less (pow-succ' 256 size)

-- so many bytes fit 64 bits
pub power_fits : (size : ℕ) → size ≤ 8 → 256 ^ size ≤ 2 ^ 64
power_fits size within_limit = let eight : 256 ^ size ≤ 256 ^ 8 = pow-le-pow_right (lit< tt) within_limit in eight
