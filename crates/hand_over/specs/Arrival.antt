-- Whether a guest gets to the other host, by the message of its move that is lost. (Own definitions.)
use Rattle.std.specs.Prelude.{◌+◌, ◌*◌, ◌==◌, ℕ, Bool, true, false, nat_lt, Option, Some, None}

-- the message of this number is the lost one
abbrev pub loses : Option ℕ → ℕ → Bool
loses (Some k) number = k == number
loses None number = false

-- The guest gets to the target: nothing is lost, or only the Commit, which is the message 2n + 3 of a move with n pieces, or none of its messages.
abbrev pub arrives : ℕ → Option ℕ → Bool
arrives n None = true
arrives n (Some k) = nat_lt (2 * n + 2) k
