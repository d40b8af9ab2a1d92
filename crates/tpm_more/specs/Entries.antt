-- Entries of the code, as those of the lists of capabilities.
use Rattle.std.specs.Prelude.{ℕ, Bool, true, ◌&&◌, List, [], ◌∷◌, map, nat_lt}
use Rattle.tpm_core.specs.Capabilities.{CapabilityEntry, algorithm_entry, command_entry, bank_entry, property_entry}
use Rattle.tpm_more.specs.declared.entry.Entry.{Entry}
use Rattle.tpm_more.specs.declared.entry.Entry.TheVariants.{Algorithm, Command, Bank, Property}

abbrev pub entry_of : Entry → CapabilityEntry
entry_of (Algorithm identifier) = algorithm_entry identifier
entry_of (Command attributes) = command_entry attributes
entry_of (Bank identifier) = bank_entry identifier
entry_of (Property name value) = property_entry name value

-- the bytes that it is written as
abbrev pub written : Entry → List ℕ
written entry = (entry_of entry).bytes

abbrev pub entries_of : List Entry → List CapabilityEntry
entries_of entries = map entry_of entries

-- each key is less than the next
abbrev pub is_rising : List CapabilityEntry → Bool
is_rising [] = true
is_rising (e ∷ []) = true
is_rising (e ∷ f ∷ entries) = nat_lt e.key f.key && is_rising (f ∷ entries)
