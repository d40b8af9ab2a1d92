-- A stream of messages. (Own definitions.)
use Rattle.std.specs.Prelude.{◌≡◌, ℕ, List, [], ◌∷◌, ◌++◌}
use Rattle.vt_base.specs.Layout.{Layout, Encodes}

-- The stream is these messages in this order, and then the rest.
abbrev pub Streams : {E : Type 0} → Layout E → List E → List ℕ → List ℕ → Type 0
Streams layout [] stream rest = stream ≡ rest
Streams layout (end ∷ ends) stream rest =
    (prefix : List ℕ) × (back : List ℕ) × (stream ≡ prefix ++ back) × Encodes layout end prefix × Streams layout ends back rest
