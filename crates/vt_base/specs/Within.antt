-- How long the messages of a format are, part by part.
use Rattle.std.specs.Prelude.{◌≡◌, ℕ, ◌≤◌, ◌-◌, slice_index, Bool, true, false, cond, refl, eqb, Result}
use Rattle.vt_base.specs.declared.types.Why.{Why}
use Rattle.vt_base.specs.declared.types.Malformed.{Malformed}
use Rattle.vt_base.specs.Layout.{Layout, IsWithin}
use Rattle.vt_base.specs.Refusing.{refuse, magic_byte_then}

-- whichever a test chooses
pub either_within : {E : Type 0} (b : Bool) (p q : Layout E) (room : ℕ) → (b ≡ true → IsWithin p room) → (b ≡ false → IsWithin q room) → IsWithin (cond b p q) room
either_within true p q room h k = h refl
either_within false p q room h k = k refl

-- a byte that is looked at, and what follows it
pub magic_byte_within : {V : Type 0} (byte : ℕ) (why : Why) (place : ℕ) (next : Layout (Result V Malformed)) (room : ℕ) → 1 ≤ room → IsWithin next (room - 1) → IsWithin (magic_byte_then byte why place next) room
magic_byte_within byte why place next room le h = (le, λ b. either_within (eqb (slice_index b 0) byte) next (refuse why place) (room - 1) (λ _. h) (λ _. tt))
