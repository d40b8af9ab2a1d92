-- Streams of migration messages. (Own definitions.)
use Rattle.std.specs.Prelude.{◌≡◌, ℕ, List, ◌++◌, map, take, All, Option, Some, None}
use Rattle.std.specs.List.{concat}
use Rattle.vt_base.specs.declared.types.Malformed.{Malformed}
use Rattle.move_codec.specs.declared.message.Message.{Message}
use Rattle.move_codec.specs.Encoding.{encode_message, Moves}
use Rattle.move_codec.specs.Refusals.{Refuses, IsUndecided}

-- The stream is the encodings of these messages in this order, and then the rest.
pub record Carries (sent : List Message) (stream rest : List ℕ) : Type 0 where
  pub each : All (λ m. Moves m (encode_message m)) sent
  pub joined : stream ≡ concat (map encode_message sent) ++ rest

-- The rest begins with what is refused, or nothing is decided in it.
abbrev pub Stops : Option Malformed → List ℕ → Type 0
Stops (Some fault) rest = (n : ℕ) × Refuses fault (take n rest)
Stops None rest = IsUndecided rest
