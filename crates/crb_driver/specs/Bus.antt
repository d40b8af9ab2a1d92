-- What accesses do to a bus. (Own definitions.)
use Rattle.std.specs.Prelude.{◌≡◌, ℕ, List, [], ◌∷◌, Some, None, unwrap_or}
use Rattle.crb_regs.specs.Access.{Access}

-- what an access does: the bus before it, the access, the value that it read or wrote, and the bus after it
abbrev pub Relation : Type 0 → Type 1
Relation S = S → Access → ℕ → S → Type 0

-- the value of a write
abbrev pub written : Access → ℕ
written access = unwrap_or access.write 0

-- an access that was made, with the value that it read or wrote
pub record Exchange : Type 0 where
  pub access : Access
  pub value : ℕ

-- a read of so many bytes that gave this value
abbrev pub reading : ℕ → ℕ → ℕ → Exchange
reading offset size value = record { access = record { offset = offset; size = size; write = None }; value = value }

-- a write of so many bytes
abbrev pub writing : ℕ → ℕ → ℕ → Exchange
writing offset size value = record { access = record { offset = offset; size = size; write = Some value }; value = value }

-- the new bus is reached from the old one by these accesses with these values, in this order and with no other between
abbrev pub Reaches : {S : Type 0} → Relation S → S → List Exchange → S → Type 0
Reaches step old [] new = old ≡ new
Reaches {S} step old (first ∷ rest) new = (next : S) × step old first.access first.value next × Reaches step next rest new
