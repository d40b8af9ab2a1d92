-- Four commands that change nothing: SelfTest, GetCapability, GetTestResult and Hash (TPM 2.0 Library, Part 3). The order of
-- the checks, the limit of a message and what a test finds are our own.
use Rattle.std.specs.Prelude.{ℕ, Bool, not, ◌&&◌, ◌||◌, List, [], ◌++◌, length, drop, Option, Some, None, Result, Ok, Err, nat_lt, nat_le, ◌==◌, if◌then◌else◌}
use Rattle.std.specs.Int.{w8, w16, w32, to_be_bytes}
use Rattle.vt_base.specs.Numbers.{big_endian_at}
use Rattle.tpm_frame.specs.declared.Head.{Head}
use Rattle.tpm_frame.specs.Numbers.{st_sessions, header_size}
use Rattle.tpm_frame.specs.Frame.{is_tag}
use Rattle.tpm_core.specs.declared.algorithm.Algorithm.{Algorithm}
use Rattle.tpm_core.specs.declared.algorithm.Banks.{Banks}
use Rattle.tpm_core.specs.declared.refusal.Refusal.{Refusal}
use Rattle.tpm_core.specs.declared.refusal.Refusal.TheVariants as refusals
use Rattle.tpm_core.specs.Numbers.{cc_self_test, cc_get_capability, cc_get_test_result, cc_hash, cap_pcrs, rh_null, st_hashcheck}
use Rattle.tpm_core.specs.Algorithms.{digest_size, digest_of, algorithm_of}
use Rattle.tpm_core.specs.Reading.{◌>>=◌, take_number, array_at, check_started_and_sessions}
use Rattle.tpm_core.specs.Capabilities.{CapabilityEntry, capability_list, page_room, capability_body}

-- Below, a command is read from the bytes after its header: it has the body of its response, or the first check that fails.

-- the body, where no bytes are left over
abbrev pub ends : Refusal → List ℕ → List ℕ → Result (List ℕ) Refusal
ends left_over bytes body = if length bytes == 0 then Ok body else Err left_over

-- whether all is to be tested again, which makes no difference
unfoldable pub self_test : List ℕ → Result (List ℕ) Refusal
self_test bytes = do
  full ← take_number w8 refusals.ParameterCut bytes
  if nat_lt 1 full.0 then Err refusals.ParameterValue else ends refusals.ParameterSize full.1 []

-- no parameters; there is no data of the test, and its result is success
unfoldable pub test_result : List ℕ → Result (List ℕ) Refusal
test_result bytes = ends refusals.CommandSize bytes (to_be_bytes w16 0 ++ to_be_bytes w32 0)

-- the list of a capability that is known
abbrev pub known_list : Option (List CapabilityEntry) → Result (List CapabilityEntry) Refusal
known_list None = Err refusals.ParameterValue
known_list (Some entries) = Ok entries

-- banks have no keys to begin at
abbrev pub check_property : ℕ → ℕ → Result ℕ Refusal
check_property capability property = if capability == cap_pcrs && not (property == 0) then Err refusals.Parameter2Value else Ok property

-- the capability, the key of the first entry, how many are asked for
unfoldable pub get_capability : Banks → List ℕ → Result (List ℕ) Refusal
get_capability banks bytes = do
  capability ← take_number w32 refusals.ParameterCut bytes
  entries ← known_list (capability_list banks capability.0)
  field ← take_number w32 refusals.Parameter2Cut capability.1
  property ← check_property capability.0 field.0
  count ← take_number w32 refusals.Parameter3Cut field.1
  ends refusals.Parameter3Size count.1 (capability_body capability.0 property (page_room capability.0 count.0 entries) entries)

-- a message has at most 1024 bytes
unfoldable pub message_at : List ℕ → Result (List ℕ × List ℕ) Refusal
message_at bytes = do
  size ← take_number w16 refusals.ParameterCut bytes
  if nat_lt 1024 size.0 then Err refusals.ParameterSize else array_at size.0 size.1

-- an algorithm that the TPM has a bank of
abbrev pub known_hash : Option Algorithm → Result Algorithm Refusal
known_hash None = Err refusals.Parameter2Hash
known_hash (Some a) = Ok a

-- the digest with its size, and a ticket that proves nothing (TPMT_TK_HASHCHECK)
unfoldable pub hash_body : Algorithm → List ℕ → List ℕ
hash_body a message =
    to_be_bytes w16 (digest_size a) ++ digest_of a message ++ to_be_bytes w16 st_hashcheck ++ to_be_bytes w32 rh_null ++ to_be_bytes w16 0

-- a message, the algorithm, and the hierarchy of the ticket, of which there is none
unfoldable pub hash : Banks → List ℕ → Result (List ℕ) Refusal
hash banks bytes = do
  message ← message_at bytes
  identifier ← take_number w16 refusals.Parameter2Cut message.1
  algorithm ← known_hash (algorithm_of banks identifier.0)
  hierarchy ← take_number w32 refusals.Parameter3Cut identifier.1
  if hierarchy.0 == rh_null then ends refusals.Parameter3Size hierarchy.1 (hash_body algorithm message.0) else Err refusals.Parameter3Value

-- the code of one of the four
abbrev pub is_more : ℕ → Bool
is_more code = code == cc_self_test || code == cc_get_capability || code == cc_get_test_result || code == cc_hash

-- the command of a code
unfoldable pub body_by : Banks → ℕ → List ℕ → Result (List ℕ) Refusal
body_by banks code bytes =
    if code == cc_self_test then self_test bytes
    else if code == cc_get_capability then get_capability banks bytes
    else if code == cc_get_test_result then test_result bytes
    else if code == cc_hash then hash banks bytes
    else Err refusals.CommandCode

-- the checks of the header but that of the code: it is there, its tag is that of a command, and its size field is the length
abbrev pub has_header : List ℕ → Bool
has_header bytes = nat_le header_size (length bytes) && is_tag (big_endian_at w16 0 bytes) && big_endian_at w32 2 bytes == length bytes

-- what the header says
abbrev pub header_of : List ℕ → Head
header_of bytes = record { sessions = big_endian_at w16 0 bytes == st_sessions; code = big_endian_at w32 6 bytes }

-- whether bytes are one of the four commands
unfoldable pub is_more_command : List ℕ → Bool
is_more_command bytes = has_header bytes && is_more (header_of bytes).code

-- one of the four commands to a TPM with these banks: the body of the response, or the first check that fails
unfoldable pub more_at : Banks → Bool → List ℕ → Result (List ℕ) Refusal
more_at banks started bytes = do
  head ← check_started_and_sessions started (header_of bytes)
  body_by banks head.code (drop header_size bytes)
