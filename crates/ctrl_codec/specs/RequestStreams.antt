-- A stream of control requests. (Own definitions.)
use Rattle.std.specs.Prelude.{◌≡◌, ℕ, List, [], ◌∷◌, ◌++◌}
use Rattle.ctrl_codec.specs.declared.request.Request.{Request}
use Rattle.ctrl_codec.specs.Requests.{Asks}

-- a request with its data
pub record Asked : Type 0 where
  pub request : Request
  pub payload : List ℕ

-- The stream is these requests in this order, each with its data, and then the rest.
abbrev pub AreAsked : List Asked → List ℕ → List ℕ → Type 0
AreAsked [] stream rest = stream ≡ rest
AreAsked (asked ∷ others) stream rest =
    (prefix : List ℕ) × (back : List ℕ) × (stream ≡ prefix ++ back) × Asks asked.request asked.payload prefix × AreAsked others back rest
