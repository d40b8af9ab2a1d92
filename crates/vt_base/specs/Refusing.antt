-- Formats whose bytes may be refused, for a reason and at a place. (Own definitions.)
use Rattle.std.specs.Prelude.{ℕ, ◌==◌, if◌then◌else◌, Result, Err}
use Rattle.vt_base.specs.declared.types.Why.{Why}
use Rattle.vt_base.specs.declared.types.Malformed.{Malformed}
use Rattle.vt_base.specs.Layout.{Layout, Ends, byte_then}

abbrev pub malformed : Why → ℕ → Malformed
malformed why place = record { why = why; place = place }

-- The bytes so far are refused.
abbrev pub refuse : {V : Type 0} → Why → ℕ → Layout (Result V Malformed)
refuse why place = Ends (Err (malformed why place))

-- this byte, as each one of a magic; or a refusal at its place
abbrev pub magic_byte_then : {V : Type 0} → ℕ → Why → ℕ → Layout (Result V Malformed) → Layout (Result V Malformed)
magic_byte_then byte why place next = byte_then (λ b. if b == byte then next else refuse why place)
