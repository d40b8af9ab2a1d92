-- Every reply is a response.
use Rattle.std.proofs.Common.{◌≡◌, ◌≢◌, ℕ, Bool, true, false, cond, ◌+◌, ◌*◌, ◌^◌, ◌<◌, ◌≤◌, List, [], ◌∷◌, length, take, Result, Ok, Err, refl, sym, ap, ◌∙◌, arith, min, lit≤, suc, ◌-◌, get_or, inl, inr}
use Rattle.std.specs.Prelude.{IfOk, IsTrue, ◌↔◌, is_ok}
use Rattle.std.specs.Int.{w16, w32}
use Rattle.std.proofs.lemmas.List.{length-take, length-append, get_or_past}
use Rattle.std.proofs.lemmas.Nat.{from_be_bytes-to_be_bytes_4}
use Rattle.tpm_frame.specs.Numbers.{st_no_sessions, st_sessions}
use Rattle.tpm_frame.specs.Frame.{short, is_response_tag}
use Rattle.vt_base.specs.Numbers.{big_endian_at}
use Rattle.tpm_core.specs.declared.parts.TpmParts.{TpmParts}
use Rattle.tpm_core.specs.declared.refusal.Refusal.{Refusal}
use Rattle.tpm_core.specs.declared.refusal.Refusal.TheVariants.{BadTag, CommandSize, CommandCode, Initialize, AuthMissing, AuthContext, HandleCut, HandleValue, AuthSize, SessionValue, BadAuth, ParameterCut, ParameterValue, ParameterSize, ParameterHash, Parameter2Cut, Parameter2Value, Parameter2Hash, Parameter3Cut, Parameter3Value, Parameter3Size, Locality}
use Rattle.tpm_core.specs.declared.command.Command.{Command}
use Rattle.tpm_core.specs.declared.command.Command.TheVariants.{Startup, Shutdown, GetRandom, PcrRead, PcrExtend}
use Rattle.tpm_core.specs.Refusals.{code_of}
use Rattle.tpm_core.specs.Answers.{with_header, password_session, entry_read, digest_read, random_bytes, block_of, registers_read, response, reply_to, Entry, read_by, values_after, more_read_by, reply_to_more, passes, core_answer, answer}
use Rattle.tpm_core.specs.MoreCommands.{is_more_command}
use Rattle.tpm_core.proofs.Bodies.{IsShortBody, size_small, more_short}
use Rattle.std.proofs.Common.{is_some}
use Rattle.tpm_core.proofs.InReach.{command_reach}
use Rattle.tpm_core.proofs.Law.{fit-past}
use Rattle.std.specs.List.{flat_map}
use Rattle.std.proofs.lemmas.List.Concat.{flat_map-cons}
use Rattle.std.proofs.lemmas.Bool.{cases_lt}
use Rattle.tpm_core.specs.declared.algorithm.Algorithm.{Algorithm}
use Rattle.tpm_core.specs.declared.command.Selection.{Selection}
use Rattle.tpm_core.specs.declared.selected.Register.{Register}
use Rattle.tpm_core.specs.Banks.{bank_of}
use Rattle.tpm_core.specs.Selected.{selected, chosen_of, bits_of, registers_of, all_registers}
use Rattle.tpm_core.proofs.Chosen.{length-registers_of}
use Rattle.tpm_core.specs.Steps.{IsValid, IsInReach}
use Rattle.tpm_core.specs.Responses.{IsResponse, cancelled}

framed_size : (tag : ℕ) (body : List ℕ) → length body ≤ 3958 → big_endian_at w32 2 (with_header tag body) ≡ length (with_header tag body)
framed_size tag body lt =
    let size : 10 + length body ≡ length (with_header tag body) = omega arith in
    let bounded : 10 + length body < 2 ^ 32 = omega arith in
    let back = from_be_bytes-to_be_bytes_4 (10 + length body) bounded in
    back ∙ size

framed_is_response : (tag : ℕ) (body : List ℕ) → IsTrue (is_response_tag (big_endian_at w16 0 (with_header tag body))) → length body ≤ 3958 → IsResponse (with_header tag body)
framed_is_response tag body is_tag lt = record { head = omega arith; room = omega arith; tag = is_tag; size = framed_size tag body lt }

take_small : (n : ℕ) (bytes : List ℕ) → n ≤ 32 → length (take n bytes) + 2 ≤ 3958
take_small n bytes le = omega (arith, length-take n bytes)

random_small : (v : TpmParts) (asked : ℕ) → length (random_bytes v asked) ≤ 3958
random_small v asked = omega (arith, take_small (min asked 32) (block_of v) (omega arith))

-- ---- reads

-- entries of six bytes each
length-entries : (chosen : List (Algorithm × List ℕ)) → length (flat_map entry_read chosen) ≡ 6 * length chosen
unfolding bits_of
length-entries [] = refl
length-entries (c ∷ others) = ap length (flat_map-cons entry_read c others) ∙ omega (arith, length-entries others)

length-chosen_of : (room : ℕ) (selections : List Selection) → length (chosen_of room selections) ≡ length selections
unfolding chosen_of
length-chosen_of room [] = refl
length-chosen_of room (s ∷ others) = ap suc (length-chosen_of (room - length (take room (selected s.bits))) others)

-- as many registers as there is room for
length-all_registers : (room : ℕ) (selections : List Selection) → length (all_registers (chosen_of room selections)) ≤ room
unfolding chosen_of
length-all_registers room [] = omega arith
length-all_registers room (s ∷ others) =
    let mine = take room (selected s.bits) in
    let rest = chosen_of (room - length mine) others in
    omega (
      arith,
      ap length (flat_map-cons (λ (c : Algorithm × List ℕ). registers_of c.0 c.1) (s.algorithm, mine) rest),
      length-append (registers_of s.algorithm mine) (all_registers rest),
      length-registers_of s.algorithm mine,
      length-take room (selected s.bits),
      length-all_registers (room - length mine) others,
    )

-- a register has as many bytes as a digest, or none past the last
register_small : (v : TpmParts) → IsValid v → (a : Algorithm) (i : ℕ) → length (get_or (bank_of a v) i []) ≤ 64
register_small v fit a i =
    elim (cases_lt i 24) [
      | inl lt ↦ omega (arith, fit.width a i lt, size_small a)
      | inr le ↦ omega (arith, ap length (get_or_past (bank_of a v) i [] (omega (arith, fit.registers a, le))))
    ]

length-digests : (v : TpmParts) → IsValid v → (registers : List Register) → length (flat_map (digest_read v) registers) ≤ 66 * length registers
length-digests v fit [] = omega arith
length-digests v fit (r ∷ registers) =
    omega (arith, ap length (flat_map-cons (digest_read v) r registers), length-append (digest_read v r) (flat_map (digest_read v) registers), register_small v fit r.algorithm r.index, length-digests v fit registers)

read_small : (v : TpmParts) (selections : List Selection) → IsValid v → length selections ≤ 16 → length (registers_read v selections) ≤ 3958
unfolding registers_read
read_small v selections fit within_limit =
    let chosen = chosen_of 8 selections in
    let entries : length (flat_map entry_read chosen) ≡ 6 * length selections = length-entries chosen ∙ ap (λ (n : ℕ). 6 * n) (length-chosen_of 8 selections) in
    let all : length (all_registers chosen) ≤ 8 = length-all_registers 8 selections in
    let values : length (flat_map (digest_read v) (all_registers chosen)) ≤ 66 * length (all_registers chosen) = length-digests v fit (all_registers chosen) in
    simp length-append (omega arith)

response_is : (v : TpmParts) (command : Command) → IsValid v → IsInReach v.started command → IsResponse (response v command)
unfolding response
response_is v (Startup mode) fit h = framed_is_response st_no_sessions [] refl (omega arith)
response_is v (Shutdown mode) fit h = framed_is_response st_no_sessions [] refl (omega arith)
response_is v (GetRandom asked) fit h = framed_is_response st_no_sessions (random_bytes v asked) refl (random_small v asked)
response_is v (PcrRead selections) fit h = framed_is_response st_no_sessions (registers_read v selections) refl (read_small v selections fit h)
response_is v (PcrExtend extension) fit h = framed_is_response st_sessions password_session refl (omega arith)

response_code : (v : TpmParts) (command : Command) → big_endian_at w32 6 (response v command) ≡ 0
unfolding response
response_code v (Startup mode) = refl
response_code v (Shutdown mode) = refl
response_code v (GetRandom asked) = refl
response_code v (PcrRead selections) = refl
response_code v (PcrExtend extension) = refl

-- a refusal's response has a code of its own
abbrev IsShort : Refusal → Type 0
IsShort refusal = IsResponse (short (code_of refusal)) × (big_endian_at w32 6 (short (code_of refusal)) ≡ code_of refusal)

short_is : (refusal : Refusal) → IsShort refusal
short_is BadTag = (record { head = lit≤ tt; room = lit≤ tt; tag = refl; size = refl }, refl)
short_is CommandSize = (record { head = lit≤ tt; room = lit≤ tt; tag = refl; size = refl }, refl)
short_is CommandCode = (record { head = lit≤ tt; room = lit≤ tt; tag = refl; size = refl }, refl)
short_is Initialize = (record { head = lit≤ tt; room = lit≤ tt; tag = refl; size = refl }, refl)
short_is AuthMissing = (record { head = lit≤ tt; room = lit≤ tt; tag = refl; size = refl }, refl)
short_is AuthContext = (record { head = lit≤ tt; room = lit≤ tt; tag = refl; size = refl }, refl)
short_is HandleCut = (record { head = lit≤ tt; room = lit≤ tt; tag = refl; size = refl }, refl)
short_is HandleValue = (record { head = lit≤ tt; room = lit≤ tt; tag = refl; size = refl }, refl)
short_is AuthSize = (record { head = lit≤ tt; room = lit≤ tt; tag = refl; size = refl }, refl)
short_is SessionValue = (record { head = lit≤ tt; room = lit≤ tt; tag = refl; size = refl }, refl)
short_is BadAuth = (record { head = lit≤ tt; room = lit≤ tt; tag = refl; size = refl }, refl)
short_is ParameterCut = (record { head = lit≤ tt; room = lit≤ tt; tag = refl; size = refl }, refl)
short_is ParameterValue = (record { head = lit≤ tt; room = lit≤ tt; tag = refl; size = refl }, refl)
short_is ParameterSize = (record { head = lit≤ tt; room = lit≤ tt; tag = refl; size = refl }, refl)
short_is ParameterHash = (record { head = lit≤ tt; room = lit≤ tt; tag = refl; size = refl }, refl)
short_is Parameter2Cut = (record { head = lit≤ tt; room = lit≤ tt; tag = refl; size = refl }, refl)
short_is Parameter2Value = (record { head = lit≤ tt; room = lit≤ tt; tag = refl; size = refl }, refl)
short_is Parameter2Hash = (record { head = lit≤ tt; room = lit≤ tt; tag = refl; size = refl }, refl)
short_is Parameter3Cut = (record { head = lit≤ tt; room = lit≤ tt; tag = refl; size = refl }, refl)
short_is Parameter3Value = (record { head = lit≤ tt; room = lit≤ tt; tag = refl; size = refl }, refl)
short_is Parameter3Size = (record { head = lit≤ tt; room = lit≤ tt; tag = refl; size = refl }, refl)
short_is Locality = (record { head = lit≤ tt; room = lit≤ tt; tag = refl; size = refl }, refl)

-- no refusal has the code of success or of a cancelled command
refusal_codes : (refusal : Refusal) → (code_of refusal ≢ 0) × (code_of refusal ≢ 0x909)
refusal_codes BadTag = (λ e. omega arith, λ e. omega arith)
refusal_codes CommandSize = (λ e. omega arith, λ e. omega arith)
refusal_codes CommandCode = (λ e. omega arith, λ e. omega arith)
refusal_codes Initialize = (λ e. omega arith, λ e. omega arith)
refusal_codes AuthMissing = (λ e. omega arith, λ e. omega arith)
refusal_codes AuthContext = (λ e. omega arith, λ e. omega arith)
refusal_codes HandleCut = (λ e. omega arith, λ e. omega arith)
refusal_codes HandleValue = (λ e. omega arith, λ e. omega arith)
refusal_codes AuthSize = (λ e. omega arith, λ e. omega arith)
refusal_codes SessionValue = (λ e. omega arith, λ e. omega arith)
refusal_codes BadAuth = (λ e. omega arith, λ e. omega arith)
refusal_codes ParameterCut = (λ e. omega arith, λ e. omega arith)
refusal_codes ParameterValue = (λ e. omega arith, λ e. omega arith)
refusal_codes ParameterSize = (λ e. omega arith, λ e. omega arith)
refusal_codes ParameterHash = (λ e. omega arith, λ e. omega arith)
refusal_codes Parameter2Cut = (λ e. omega arith, λ e. omega arith)
refusal_codes Parameter2Value = (λ e. omega arith, λ e. omega arith)
refusal_codes Parameter2Hash = (λ e. omega arith, λ e. omega arith)
refusal_codes Parameter3Cut = (λ e. omega arith, λ e. omega arith)
refusal_codes Parameter3Value = (λ e. omega arith, λ e. omega arith)
refusal_codes Parameter3Size = (λ e. omega arith, λ e. omega arith)
refusal_codes Locality = (λ e. omega arith, λ e. omega arith)

pub reply_is_response : (v : TpmParts) (read : Result Command Refusal) → IsValid v → IfOk read (IsInReach v.started) → IsResponse (reply_to v read)
reply_is_response v (Ok command) fit h = response_is v command fit h
reply_is_response v (Err refusal) fit h = (short_is refusal).0

reply_code : (v : TpmParts) (read : Result Command Refusal) → big_endian_at w32 6 (reply_to v read) ≢ 0x909
reply_code v (Ok command) e = let zero_is = sym (response_code v command) ∙ e in absurd cc
reply_code v (Err refusal) e = (refusal_codes refusal).1 (sym (short_is refusal).1 ∙ e)

reply_not_cancelled : (v : TpmParts) (read : Result Command Refusal) → reply_to v read ≢ cancelled
reply_not_cancelled v read e = reply_code v read (ap (big_endian_at w32 6) e)

succeeded_is_read : (v : TpmParts) (read : Result Command Refusal) → (big_endian_at w32 6 (reply_to v read) ≡ 0) ↔ IsTrue (is_ok read)
succeeded_is_read v (Ok command) = (λ e. refl, λ ok. response_code v command)
succeeded_is_read v (Err refusal) = (λ e. absurd ((refusal_codes refusal).0 (sym (short_is refusal).1 ∙ e)), λ ok. absurd cc)

-- ---- the commands that change nothing

more_is_response : (read : Result (List ℕ) Refusal) → IfOk read IsShortBody → IsResponse (reply_to_more read)
more_is_response (Ok body) h = framed_is_response st_no_sessions body refl (omega (arith, h))
more_is_response (Err refusal) h = (short_is refusal).0

more_code : (body : List ℕ) → big_endian_at w32 6 (with_header st_no_sessions body) ≡ 0
more_code body = refl

more_not_cancelled : (read : Result (List ℕ) Refusal) → reply_to_more read ≢ cancelled
more_not_cancelled (Ok body) e = let zero_is = sym (more_code body) ∙ ap (big_endian_at w32 6) e in absurd cc
more_not_cancelled (Err refusal) e = (refusal_codes refusal).1 (sym (short_is refusal).1 ∙ ap (big_endian_at w32 6) e)

succeeded_is_more : (read : Result (List ℕ) Refusal) → (big_endian_at w32 6 (reply_to_more read) ≡ 0) ↔ IsTrue (is_ok read)
succeeded_is_more (Ok body) = (λ e. refl, λ ok. more_code body)
succeeded_is_more (Err refusal) = (λ e. absurd ((refusal_codes refusal).0 (sym (short_is refusal).1 ∙ e)), λ ok. absurd cc)

-- ---- over any past

pub core_answer_is_response : (b : TpmParts) (past : List Entry) (bytes : List ℕ) → IsValid b → IsResponse (core_answer b past bytes)
unfolding core_answer
core_answer_is_response b past bytes fit =
    let v = values_after b past in
    reply_is_response v (read_by v bytes) (fit-past b past fit) (command_reach v.banks v.started (is_some v.saved) bytes)

if_either : {A : Type 0} (P : A → Type 0) (b : Bool) (x y : A) → P x → P y → P (cond b x y)
if_either P true x y p q = p
if_either P false x y p q = q

pub answer_is_response : (b : TpmParts) (past : List Entry) (bytes : List ℕ) → IsValid b → IsResponse (answer b past bytes)
unfolding answer
answer_is_response b past bytes fit =
    let v = values_after b past in
    if_either IsResponse (is_more_command bytes) (reply_to_more (more_read_by v bytes)) (core_answer b past bytes) (more_is_response (more_read_by v bytes) (more_short v.banks v.started bytes)) (core_answer_is_response b past bytes fit)

core_answer_not_cancelled : (b : TpmParts) (past : List Entry) (bytes : List ℕ) → core_answer b past bytes ≢ cancelled
unfolding core_answer
core_answer_not_cancelled b past bytes = reply_not_cancelled (values_after b past) (read_by (values_after b past) bytes)

pub answer_not_cancelled : (b : TpmParts) (past : List Entry) (bytes : List ℕ) → answer b past bytes ≢ cancelled
unfolding answer
answer_not_cancelled b past bytes =
    let v = values_after b past in
    if_either (λ (x : List ℕ). x ≢ cancelled) (is_more_command bytes) (reply_to_more (more_read_by v bytes)) (core_answer b past bytes) (more_not_cancelled (more_read_by v bytes)) (core_answer_not_cancelled b past bytes)

core_answer_succeeded : (b : TpmParts) (past : List Entry) (bytes : List ℕ) → (big_endian_at w32 6 (core_answer b past bytes) ≡ 0) ↔ IsTrue (is_ok (read_by (values_after b past) bytes))
unfolding core_answer
core_answer_succeeded b past bytes = succeeded_is_read (values_after b past) (read_by (values_after b past) bytes)

-- one test chooses both
if_both : (b : Bool) (x y : List ℕ) (s t : Bool) → (big_endian_at w32 6 x ≡ 0) ↔ IsTrue s → (big_endian_at w32 6 y ≡ 0) ↔ IsTrue t → (big_endian_at w32 6 (cond b x y) ≡ 0) ↔ IsTrue (cond b s t)
if_both true x y s t p q = p
if_both false x y s t p q = q

pub answer_succeeded : (b : TpmParts) (past : List Entry) (bytes : List ℕ) → (big_endian_at w32 6 (answer b past bytes) ≡ 0) ↔ IsTrue (passes (values_after b past) bytes)
unfolding answer passes
answer_succeeded b past bytes =
    let v = values_after b past in
    if_both (is_more_command bytes) (reply_to_more (more_read_by v bytes)) (core_answer b past bytes) (is_ok (more_read_by v bytes)) (is_ok (read_by v bytes)) (succeeded_is_more (more_read_by v bytes)) (core_answer_succeeded b past bytes)
