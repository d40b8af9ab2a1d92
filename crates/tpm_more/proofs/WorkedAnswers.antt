-- Answers of the four commands, computed from the definitions. A TPM that is started may have any values but its banks.
use Rattle.std.proofs.Common.{◌≡◌, ℕ, true, false, List, [], ◌∷◌, ◌++◌, refl}
use Rattle.std.specs.Int.{w32, to_be_bytes}
use Rattle.tpm_core.specs.declared.algorithm.Banks.TheVariants.{One, Two}
use Rattle.tpm_core.specs.Capabilities.{algorithms, commands, bank_selections, properties, from_key, capability_body}
use Rattle.tpm_core.specs.MoreCommands.{self_test, test_result, get_capability, message_at, hash, body_by, is_more_command, more_at}
use Rattle.tpm_core.specs.Reading.{array_at}
use Rattle.tpm_core.specs.Answers.{reply_to_more}

-- ---- words

-- GetCapability of a capability, from a key on, at most so many
abbrev asks : ℕ → ℕ → ℕ → List ℕ
asks capability property count = 0x80 ∷ 0x01 ∷ 0 ∷ 0 ∷ 0 ∷ 22 ∷ 0 ∷ 0 ∷ 0x01 ∷ 0x7A ∷ to_be_bytes w32 capability ++ to_be_bytes w32 property ++ to_be_bytes w32 count

-- SelfTest
abbrev tests : ℕ → List ℕ
tests full = 0x80 ∷ 0x01 ∷ 0 ∷ 0 ∷ 0 ∷ 11 ∷ 0 ∷ 0 ∷ 0x01 ∷ 0x43 ∷ full ∷ []

-- a header with success, of a response with so many bytes
abbrev gives : ℕ → List ℕ → List ℕ
gives size body = 0x80 ∷ 0x01 ∷ 0 ∷ 0 ∷ 0 ∷ size ∷ 0 ∷ 0 ∷ 0 ∷ 0 ∷ body

-- a refusal
abbrev refuses : ℕ → ℕ → List ℕ
refuses high low = 0x80 ∷ 0x01 ∷ 0 ∷ 0 ∷ 0 ∷ 10 ∷ 0 ∷ 0 ∷ high ∷ low ∷ []

-- ---- GetCapability

-- the number of registers, and more behind it
registers : reply_to_more (more_at Two true (asks 6 0x112 1)) ≡ gives 27 (1 ∷ 0 ∷ 0 ∷ 0 ∷ 6 ∷ 0 ∷ 0 ∷ 0 ∷ 1 ∷ 0 ∷ 0 ∷ 0x01 ∷ 0x12 ∷ 0 ∷ 0 ∷ 0 ∷ 24 ∷ [])
unfolding more_at body_by get_capability capability_body properties from_key
registers = refl

-- the same where the TPM isn't started
not_started : reply_to_more (more_at Two false (asks 6 0x112 1)) ≡ refuses 0x01 0x00
unfolding more_at
not_started = refl

-- a count of 0 gives no entry
no_entry : reply_to_more (more_at One true (asks 6 0 0)) ≡ gives 19 (1 ∷ 0 ∷ 0 ∷ 0 ∷ 6 ∷ 0 ∷ 0 ∷ 0 ∷ 0 ∷ [])
unfolding more_at body_by get_capability capability_body properties from_key
no_entry = refl

-- both banks, though one is asked for
both_banks : reply_to_more (more_at Two true (asks 5 0 1)) ≡ gives 31 (0 ∷ 0 ∷ 0 ∷ 0 ∷ 5 ∷ 0 ∷ 0 ∷ 0 ∷ 2 ∷ 0 ∷ 0x0B ∷ 3 ∷ 255 ∷ 255 ∷ 255 ∷ 0 ∷ 0x0C ∷ 3 ∷ 255 ∷ 255 ∷ 255 ∷ [])
unfolding more_at body_by get_capability capability_body bank_selections from_key
both_banks = refl

-- banks have no key to begin at
no_key : reply_to_more (more_at Two true (asks 5 1 1)) ≡ refuses 0x02 0xC4
unfolding more_at body_by get_capability
no_key = refl

-- the command with the greatest code is found by its code, and by no number that is greater
last_command : reply_to_more (more_at One true (asks 2 0x182 2)) ≡ gives 23 (0 ∷ 0 ∷ 0 ∷ 0 ∷ 2 ∷ 0 ∷ 0 ∷ 0 ∷ 1 ∷ 0x02 ∷ 0 ∷ 0x01 ∷ 0x82 ∷ [])
unfolding more_at body_by get_capability capability_body commands from_key
last_command = refl

no_command : reply_to_more (more_at One true (asks 2 0x02000182 2)) ≡ gives 19 (0 ∷ 0 ∷ 0 ∷ 0 ∷ 2 ∷ 0 ∷ 0 ∷ 0 ∷ 0 ∷ [])
unfolding more_at body_by get_capability capability_body commands from_key
no_command = refl

-- one algorithm with one bank
one_algorithm : reply_to_more (more_at One true (asks 0 0 9)) ≡ gives 25 (0 ∷ 0 ∷ 0 ∷ 0 ∷ 0 ∷ 0 ∷ 0 ∷ 0 ∷ 1 ∷ 0 ∷ 0x0B ∷ 0 ∷ 0 ∷ 0 ∷ 4 ∷ [])
unfolding more_at body_by get_capability capability_body algorithms from_key
one_algorithm = refl

-- ---- the others

passes : reply_to_more (more_at One true (tests 1)) ≡ gives 10 []
unfolding more_at body_by self_test
passes = refl

no_test : reply_to_more (more_at One true (tests 2)) ≡ refuses 0x01 0xC4
unfolding more_at body_by self_test
no_test = refl

is_test : is_more_command (tests 2) ≡ true
unfolding is_more_command
is_test = refl

result : reply_to_more (more_at One true (0x80 ∷ 0x01 ∷ 0 ∷ 0 ∷ 0 ∷ 10 ∷ 0 ∷ 0 ∷ 0x01 ∷ 0x7C ∷ [])) ≡ gives 16 (0 ∷ 0 ∷ 0 ∷ 0 ∷ 0 ∷ 0 ∷ [])
unfolding more_at body_by test_result
result = refl

-- with one bank SHA-384 isn't known
no_algorithm : reply_to_more (more_at One true (0x80 ∷ 0x01 ∷ 0 ∷ 0 ∷ 0 ∷ 18 ∷ 0 ∷ 0 ∷ 0x01 ∷ 0x7D ∷ 0 ∷ 0 ∷ 0 ∷ 0x0C ∷ 0x40 ∷ 0 ∷ 0 ∷ 7 ∷ [])) ≡ refuses 0x02 0xC3
unfolding more_at body_by hash message_at array_at
no_algorithm = refl
