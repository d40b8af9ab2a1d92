-- The entries of some bodies that were written down by hand, and which of two slots is in force.
use Rattle.std.proofs.Common.{◌≡◌, [], ◌∷◌, ◌++◌, Some, None, refl}
use Rattle.own_store.specs.Body.{stored_in}
use Rattle.own_store.specs.Slots.{newer}
use Rattle.own_store.specs.declared.body.Stored.{Stored}
use Rattle.own_store.specs.declared.entry.Role.TheVariants.{Released, Prepared}

-- version 5, Released, top 258, no stream, and bytes without a meaning
released : stored_in (0 ∷ 0 ∷ 0 ∷ 0 ∷ 0 ∷ 0 ∷ 0 ∷ 5 ∷ 2 ∷ 0 ∷ 0 ∷ 0 ∷ 0 ∷ 0 ∷ 0 ∷ 1 ∷ 2 ∷ 0 ∷ 0 ∷ 111 ∷ [])
    ≡ Some (record { version = 5; entry = record { role = Released; top = 258; stream = [] } })
unfolding stored_in
released = refl

-- version 256, Prepared, top 0, a stream of two bytes
prepared : stored_in (0 ∷ 0 ∷ 0 ∷ 0 ∷ 0 ∷ 0 ∷ 1 ∷ 0 ∷ 3 ∷ 0 ∷ 0 ∷ 0 ∷ 0 ∷ 0 ∷ 0 ∷ 0 ∷ 0 ∷ 0 ∷ 2 ∷ 67 ∷ 82 ∷ 66 ∷ [])
    ≡ Some (record { version = 256; entry = record { role = Prepared; top = 0; stream = 67 ∷ 82 ∷ [] } })
unfolding stored_in
prepared = refl

-- role 4, and a length of 7286
no_role : stored_in (0 ∷ 0 ∷ 0 ∷ 0 ∷ 0 ∷ 0 ∷ 0 ∷ 5 ∷ 4 ∷ 0 ∷ 0 ∷ 0 ∷ 0 ∷ 0 ∷ 0 ∷ 0 ∷ 2 ∷ 0 ∷ 0 ∷ []) ≡ None
unfolding stored_in
no_role = refl

too_long : stored_in (0 ∷ 0 ∷ 0 ∷ 0 ∷ 0 ∷ 0 ∷ 0 ∷ 5 ∷ 2 ∷ 0 ∷ 0 ∷ 0 ∷ 0 ∷ 0 ∷ 0 ∷ 0 ∷ 2 ∷ 28 ∷ 118 ∷ []) ≡ None
unfolding stored_in
too_long = refl

-- of equal versions the first slot's
first_of_equal : (one two : Stored) → one.version ≡ 7 → two.version ≡ 7 → newer (Some one) (Some two) ≡ Some one
first_of_equal one two first second = rw (first, second) refl
