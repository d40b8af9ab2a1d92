-- The accesses that a guest can make.
use Rattle.std.specs.Prelude.{◌≡◌, ◌+◌, ◌<◌, ◌≤◌, ◌^◌, ◌⊎◌, ℕ, Option, IfSome}

-- one access: where it begins, how many bytes it has, and the value of a write
pub record Access : Type 0 where
  pub offset : ℕ
  pub size : ℕ
  pub write : Option ℕ

-- how many bytes an access may have
abbrev pub IsAccessSize : ℕ → Type 0
IsAccessSize size = (size ≡ 1) ⊎ (size ≡ 2) ⊎ (size ≡ 4) ⊎ (size ≡ 8)

-- the size is one of four, the access ends within the page, and a written value fits the size
pub record IsWithinPage (offset size : ℕ) (write : Option ℕ) : Type 0 where
  pub sizes : IsAccessSize size
  pub place : offset + size ≤ 0x1000
  pub value : IfSome write (λ v. v < 256 ^ size)
