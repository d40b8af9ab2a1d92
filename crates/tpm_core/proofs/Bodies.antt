-- The bodies of the responses of SelfTest, GetCapability, GetTestResult and Hash are short.
use Rattle.std.proofs.Common.{ℕ, ◌≤◌, Bool, true, false, cond, eqb, ltb, leb, List, [], ◌∷◌, length, take, suc, zero, drop, Option, Some, None, Ok, Err, arith}
use Rattle.std.specs.Prelude.{IfOk, IfSome, filter}
use Rattle.std.specs.List.{flat_map}
use Rattle.std.specs.Int.{w8, w16, w32}
use Rattle.std.proofs.lemmas.List.{length-append}
use Rattle.tpm_core.specs.declared.algorithm.Algorithm.{Algorithm}
use Rattle.tpm_core.specs.declared.algorithm.Algorithm.TheVariants.{Sha256, Sha384}
use Rattle.tpm_core.specs.declared.algorithm.Banks.{Banks}
use Rattle.tpm_core.specs.declared.algorithm.Banks.TheVariants.{One, Two}
use Rattle.tpm_core.specs.declared.refusal.Refusal.{Refusal}
use Rattle.tpm_core.specs.declared.refusal.Refusal.TheVariants as refusals
use Rattle.tpm_core.specs.Numbers.{cap_algs, cap_commands, cap_pcrs, cap_tpm_properties, cc_self_test, cc_get_capability, cc_get_test_result, cc_hash, rh_null}
use Rattle.tpm_core.specs.Algorithms.{digest_size, algorithm_of}
use Rattle.tpm_core.specs.Reading.{take_number, check_started_and_sessions}
use Rattle.tpm_core.specs.Capabilities.{CapabilityEntry, algorithms, commands, bank_selections, properties, capability_list, from_key, page, page_room, capability_body}
use Rattle.tpm_core.specs.MoreCommands.{ends, self_test, test_result, known_list, check_property, get_capability, message_at, known_hash, hash_body, hash, body_by, header_of, more_at}
use Rattle.tpm_core.proofs.InReach.{bind_ok, then_ok, if_ok}
use Rattle.tpm_core.proofs.Fit.{length-digest_of}

-- short enough for a response, by far
abbrev pub IsShortBody : List ℕ → Type 0
IsShortBody body = length body ≤ 128

-- ---- lists of capabilities

-- the bytes of entries, one after the other
abbrev bytes_of : List CapabilityEntry → List ℕ
bytes_of entries = flat_map (λ e. e.bytes) entries

-- one entry more, or not
bytes-kept : (b : Bool) (e : CapabilityEntry) (kept entries : List CapabilityEntry) → length (bytes_of kept) ≤ length (bytes_of entries) → length (bytes_of (cond b (e ∷ kept) kept)) ≤ length (bytes_of (e ∷ entries))
bytes-kept true e kept entries le = omega (arith, length-append e.bytes (bytes_of kept), length-append e.bytes (bytes_of entries), le)
bytes-kept false e kept entries le = omega (arith, length-append e.bytes (bytes_of entries), le)

bytes-filter : (p : CapabilityEntry → Bool) (entries : List CapabilityEntry) → length (bytes_of (filter p entries)) ≤ length (bytes_of entries)
bytes-filter p [] = omega arith
bytes-filter p (e ∷ entries) = bytes-kept (p e) e (filter p entries) entries (bytes-filter p entries)

bytes-take : (n : ℕ) (entries : List CapabilityEntry) → length (bytes_of (take n entries)) ≤ length (bytes_of entries)
bytes-take zero entries = omega arith
bytes-take (suc n) [] = omega arith
bytes-take (suc n) (e ∷ entries) = omega (arith, length-append e.bytes (bytes_of (take n entries)), length-append e.bytes (bytes_of entries), bytes-take n entries)

bytes-page : (property room : ℕ) (entries : List CapabilityEntry) → length (bytes_of (page property room entries)) ≤ length (bytes_of entries)
unfolding from_key
bytes-page property room entries = omega (arith, bytes-take room (from_key property entries), bytes-filter (λ e. leb property e.key) entries)

-- a list that fits
abbrev IsShortList : List CapabilityEntry → Type 0
IsShortList entries = length (bytes_of entries) ≤ 48

algorithms_short : (banks : Banks) → IsShortList (algorithms banks)
unfolding algorithms
algorithms_short One = omega arith
algorithms_short Two = omega arith

commands_short : IsShortList commands
unfolding commands
commands_short = omega arith

selections_short : (banks : Banks) → IsShortList (bank_selections banks)
unfolding bank_selections
selections_short One = omega arith
selections_short Two = omega arith

properties_short : IsShortList properties
unfolding properties
properties_short = omega arith

if_some : {A : Type 0} (P : A → Type 0) (b : Bool) (x : A) (other : Option A) → P x → IfSome other P → IfSome (cond b (Some x) other) P
if_some P true x other p h = p
if_some P false x other p h = h

lists_short : (banks : Banks) (capability : ℕ) → IfSome (capability_list banks capability) IsShortList
lists_short banks capability =
    if_some IsShortList (eqb capability cap_algs) (algorithms banks) _ (algorithms_short banks) (
    if_some IsShortList (eqb capability cap_commands) commands _ commands_short (
    if_some IsShortList (eqb capability cap_pcrs) (bank_selections banks) _ (selections_short banks) (
    if_some IsShortList (eqb capability cap_tpm_properties) properties None properties_short tt)))

known_short : (o : Option (List CapabilityEntry)) → IfSome o IsShortList → IfOk (known_list o) IsShortList
known_short None h = tt
known_short (Some entries) h = h

capability_short : (capability property room : ℕ) (entries : List CapabilityEntry) → IsShortList entries → IsShortBody (capability_body capability property room entries)
unfolding capability_body
capability_short capability property room entries h = omega (arith, h, bytes-page property room entries)

-- ---- the commands

ends_short : (refusal : Refusal) (bytes body : List ℕ) → IsShortBody body → IfOk (ends refusal bytes body) IsShortBody
ends_short refusal bytes body h = if_ok IsShortBody (eqb (length bytes) 0) (Ok body) (Err refusal) (λ e. h) (λ e. tt)

self_test_short : (bytes : List ℕ) → IfOk (self_test bytes) IsShortBody
unfolding self_test
self_test_short bytes =
    then_ok IsShortBody (take_number w8 refusals.ParameterCut bytes) _ (λ full.
    if_ok IsShortBody (ltb 1 full.0) _ _ (λ e. tt) (λ e. ends_short refusals.ParameterSize full.1 [] (omega arith)))

test_result_short : (bytes : List ℕ) → IfOk (test_result bytes) IsShortBody
unfolding test_result
test_result_short bytes = ends_short refusals.CommandSize bytes _ (omega arith)

get_capability_short : (banks : Banks) (bytes : List ℕ) → IfOk (get_capability banks bytes) IsShortBody
unfolding get_capability
get_capability_short banks bytes =
    then_ok IsShortBody (take_number w32 refusals.ParameterCut bytes) _ (λ capability.
    bind_ok IsShortList IsShortBody (known_list (capability_list banks capability.0)) _ (known_short (capability_list banks capability.0) (lists_short banks capability.0)) (λ entries h.
    then_ok IsShortBody (take_number w32 refusals.Parameter2Cut capability.1) _ (λ field.
    then_ok IsShortBody (check_property capability.0 field.0) _ (λ property.
    then_ok IsShortBody (take_number w32 refusals.Parameter3Cut field.1) _ (λ count.
    ends_short refusals.Parameter3Size count.1 _ (capability_short capability.0 property (page_room capability.0 count.0 entries) entries h))))))

-- no digest is longer than this
pub size_small : (a : Algorithm) → digest_size a ≤ 64
size_small Sha256 = omega arith
size_small Sha384 = omega arith

hash_body_short : (a : Algorithm) (message : List ℕ) → IsShortBody (hash_body a message)
unfolding hash_body
hash_body_short a message = simp length-append (omega (arith, length-digest_of a message, size_small a))

hash_short : (banks : Banks) (bytes : List ℕ) → IfOk (hash banks bytes) IsShortBody
unfolding hash
hash_short banks bytes =
    then_ok IsShortBody (message_at bytes) _ (λ message.
    then_ok IsShortBody (take_number w16 refusals.Parameter2Cut message.1) _ (λ identifier.
    then_ok IsShortBody (known_hash (algorithm_of banks identifier.0)) _ (λ algorithm.
    then_ok IsShortBody (take_number w32 refusals.Parameter3Cut identifier.1) _ (λ hierarchy.
    if_ok IsShortBody (eqb hierarchy.0 rh_null) _ _ (λ e. ends_short refusals.Parameter3Size hierarchy.1 _ (hash_body_short algorithm message.0)) (λ e. tt)))))

body_by_short : (banks : Banks) (code : ℕ) (bytes : List ℕ) → IfOk (body_by banks code bytes) IsShortBody
unfolding body_by
body_by_short banks code bytes =
    if_ok IsShortBody (eqb code cc_self_test) _ _ (λ e. self_test_short bytes) (λ e.
    if_ok IsShortBody (eqb code cc_get_capability) _ _ (λ e. get_capability_short banks bytes) (λ e.
    if_ok IsShortBody (eqb code cc_get_test_result) _ _ (λ e. test_result_short bytes) (λ e.
    if_ok IsShortBody (eqb code cc_hash) _ _ (λ e. hash_short banks bytes) (λ e. tt))))

pub more_short : (banks : Banks) (started : Bool) (bytes : List ℕ) → IfOk (more_at banks started bytes) IsShortBody
unfolding more_at
more_short banks started bytes = then_ok IsShortBody (check_started_and_sessions started (header_of bytes)) _ (λ head. body_by_short banks head.code (drop 10 bytes))
