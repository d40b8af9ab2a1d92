-- The lists that a TPM gives of what it can do, and pages of them (TPM 2.0 Library, Part 3, TPM2_GetCapability). Which
-- entries there are is our own.
use Rattle.std.specs.Prelude.{ℕ, ◌+◌, ◌%◌, ◌^◌, Bool, List, [], ◌∷◌, ◌++◌, length, take, map, filter, Option, Some, None, nat_le, nat_lt, ◌==◌, if◌then◌else◌}
use Rattle.std.specs.List.{flat_map}
use Rattle.std.specs.Int.{w16, w32, to_be_bytes}
use Rattle.tpm_core.specs.declared.algorithm.Banks.{Banks}
use Rattle.tpm_core.specs.declared.algorithm.Banks.TheVariants.{One, Two}
use Rattle.tpm_core.specs.Numbers.{alg_sha256, alg_sha384, cap_algs, cap_commands, cap_pcrs, cap_tpm_properties, pt_family_indicator, pt_manufacturer, pt_pcr_count, pt_max_command_size, pt_max_response_size, pt_total_commands}

-- an entry of a list: what it is found by, and its bytes
pub record CapabilityEntry : Type 0 where
  pub key : ℕ
  pub bytes : List ℕ

-- ---- the lists

-- an algorithm, with the attribute of a hash alone (Part 2, TPMS_ALG_PROPERTY)
abbrev pub algorithm_entry : ℕ → CapabilityEntry
algorithm_entry identifier = record { key = identifier; bytes = to_be_bytes w16 identifier ++ to_be_bytes w32 4 }

-- a command by its attributes, of which the low half is its code (TPMA_CC)
abbrev pub command_entry : ℕ → CapabilityEntry
command_entry attributes = record { key = attributes % 2 ^ 16; bytes = to_be_bytes w32 attributes }

-- a bank of 24 registers (TPMS_PCR_SELECTION)
abbrev pub bank_entry : ℕ → CapabilityEntry
bank_entry identifier = record { key = identifier; bytes = to_be_bytes w16 identifier ++ 3 ∷ 255 ∷ 255 ∷ 255 ∷ [] }

-- a property and its value (TPMS_TAGGED_PROPERTY)
abbrev pub property_entry : ℕ → ℕ → CapabilityEntry
property_entry name value = record { key = name; bytes = to_be_bytes w32 name ++ to_be_bytes w32 value }

-- the algorithms that there is a bank of
abbrev pub bank_identifiers : Banks → List ℕ
bank_identifiers One = alg_sha256 ∷ []
bank_identifiers Two = alg_sha256 ∷ alg_sha384 ∷ []

unfoldable pub algorithms : Banks → List CapabilityEntry
algorithms banks = map algorithm_entry (bank_identifiers banks)

-- SelfTest, Startup, Shutdown, GetCapability, GetRandom, GetTestResult, Hash, PCR_Read and PCR_Extend, which takes one handle
unfoldable pub commands : List CapabilityEntry
commands = map command_entry (0x143 ∷ 0x144 ∷ 0x145 ∷ 0x17A ∷ 0x17B ∷ 0x17C ∷ 0x17D ∷ 0x17E ∷ 0x02000182 ∷ [])

unfoldable pub bank_selections : Banks → List CapabilityEntry
bank_selections banks = map bank_entry (bank_identifiers banks)

-- the family `2.0` and the manufacturer `CRBT`, the number of registers and of commands, and the size of the buffer
unfoldable pub properties : List CapabilityEntry
properties =
    property_entry pt_family_indicator 0x322E3000 ∷ property_entry pt_manufacturer 0x43524254 ∷ property_entry pt_pcr_count 24
    ∷ property_entry pt_max_command_size 3968 ∷ property_entry pt_max_response_size 3968 ∷ property_entry pt_total_commands 9 ∷ []

-- the list of a capability, if it is one of the four
abbrev pub capability_list : Banks → ℕ → Option (List CapabilityEntry)
capability_list banks capability =
    if capability == cap_algs then Some (algorithms banks)
    else (if capability == cap_commands then Some commands
    else (if capability == cap_pcrs then Some (bank_selections banks)
    else (if capability == cap_tpm_properties then Some properties
    else None)))

-- ---- pages

-- the entries whose key is at least this one
unfoldable pub from_key : ℕ → List CapabilityEntry → List CapabilityEntry
from_key property entries = filter (λ e. nat_le property e.key) entries

-- the first of them, at most so many
abbrev pub page : ℕ → ℕ → List CapabilityEntry → List CapabilityEntry
page property count entries = take count (from_key property entries)

-- whether entries are left behind that page
abbrev pub has_more : ℕ → ℕ → List CapabilityEntry → Bool
has_more property count entries = nat_lt count (length (from_key property entries))

-- the key of the last entry
abbrev pub last_key : List CapabilityEntry → ℕ
last_key [] = 0
last_key (e ∷ []) = e.key
last_key (e ∷ f ∷ entries) = last_key (f ∷ entries)

-- the pages that are asked for one after the other, with these counts: the first from this key on, and each next one from
-- behind the last key of the page before, as long as entries are left
unfoldable pub pages : ℕ → List ℕ → List CapabilityEntry → List (List CapabilityEntry)
pages property [] entries = []
pages property (count ∷ counts) entries =
    page property count entries ∷ (if has_more property count entries then pages (last_key (page property count entries) + 1) counts entries else [])

-- ---- the response

-- how many entries are given at most: banks come all at once
abbrev pub page_room : ℕ → ℕ → List CapabilityEntry → ℕ
page_room capability count entries = if capability == cap_pcrs then length entries else count

-- whether entries are left, the capability, the number of entries, and each of them
unfoldable pub capability_body : ℕ → ℕ → ℕ → List CapabilityEntry → List ℕ
capability_body capability property room entries =
    (if has_more property room entries then 1 else 0) ∷ to_be_bytes w32 capability
    ++ to_be_bytes w32 (length (page property room entries)) ++ flat_map (λ e. e.bytes) (page property room entries)
