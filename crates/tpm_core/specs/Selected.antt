-- Which registers a read reads.
use Rattle.std.specs.Prelude.{ℕ, ◌<◌, All, ◌+◌, ◌-◌, ◌*◌, ◌/◌, ◌%◌, ◌^◌, Bool, List, [], ◌∷◌, length, take, map, filter, slice_index, ◌==◌, if◌then◌else◌}
use Rattle.std.specs.List.{range_with_len, list_any, flat_map}
use Rattle.tpm_core.specs.declared.algorithm.Algorithm.{Algorithm}
use Rattle.tpm_core.specs.declared.command.Selection.{Selection}
use Rattle.tpm_core.specs.declared.selected.Register.{Register}

-- whether a map selects a register: bit i % 8 of byte i / 8
abbrev pub is_selected : List ℕ → ℕ → Bool
is_selected bits i = slice_index bits (i / 8) / 2 ^ (i % 8) % 2 == 1

-- the registers that a map selects, in rising order
unfoldable pub selected : List ℕ → List ℕ
selected bits = filter (is_selected bits) (range_with_len 0 24)

-- for each selection, the bank and the registers of it that are read, where so many may be read in all
unfoldable pub chosen_of : ℕ → List Selection → List (Algorithm × List ℕ)
chosen_of room [] = []
chosen_of room (selection ∷ others) = (selection.algorithm, take room (selected selection.bits)) ∷ chosen_of (room - length (take room (selected selection.bits))) others

-- these registers of a bank
abbrev pub registers_of : Algorithm → List ℕ → List Register
registers_of a indices = map (λ index. record { algorithm = a; index = index }) indices

-- the registers that are read, in order
abbrev pub all_registers : List (Algorithm × List ℕ) → List Register
all_registers chosen = flat_map (λ c. registers_of c.0 c.1) chosen

-- all registers that the maps select, in order
abbrev pub wanted_of : List Selection → List Register
wanted_of selections = flat_map (λ selection. registers_of selection.algorithm (selected selection.bits)) selections

-- each is a register that is there
abbrev pub AreThere : List Register → Type 0
AreThere registers = All (λ register. register.index < 24) registers

-- the bit of a register among these
abbrev pub bit_of : List ℕ → ℕ → ℕ
bit_of indices i = if list_any (λ index. index == i) indices then 1 else 0

-- eight registers from this one on, as the bits of a byte
abbrev pub byte_from : List ℕ → ℕ → ℕ
byte_from indices i =
    bit_of indices i + 2 * bit_of indices (i + 1) + 4 * bit_of indices (i + 2) + 8 * bit_of indices (i + 3)
    + 16 * bit_of indices (i + 4) + 32 * bit_of indices (i + 5) + 64 * bit_of indices (i + 6) + 128 * bit_of indices (i + 7)

-- the map that selects these registers
unfoldable pub bits_of : List ℕ → List ℕ
bits_of indices = byte_from indices 0 ∷ byte_from indices 8 ∷ byte_from indices 16 ∷ []
