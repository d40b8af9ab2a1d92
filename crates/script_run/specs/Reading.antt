-- How a number is read in a word. (Own definition.)
use Rattle.std.specs.Prelude.{◌==◌, ◌&&◌, not, ℕ, Bool, false, List, [], ◌∷◌}

-- a word has a first character, no plus sign there, and no zero there before others
abbrev pub begins_well : List ℕ → Bool
begins_well [] = false
begins_well (only ∷ []) = not (only == 43)
begins_well (first ∷ next ∷ rest) = not (first == 43) && not (first == 48)
