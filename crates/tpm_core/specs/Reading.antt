-- Commands are read from the left; the first check that fails gives the answer.
use Rattle.std.specs.Prelude.{◌≡◌, ℕ, zero, suc, ◌+◌, Bool, true, false, not, ◌&&◌, ◌||◌, List, [], ◌∷◌, length, take, drop, Option, Some, None, Result, Ok, Err, nat_lt, ◌==◌, if◌then◌else◌}
use Rattle.std.specs.Int.{Width, w8, w16, w32, byte_len, from_be_bytes}
use Rattle.tpm_frame.specs.declared.Head.{Head}
use Rattle.tpm_frame.specs.Numbers.{rc_bad_tag, rc_command_size, cc_startup, cc_shutdown, cc_get_random, cc_pcr_read, cc_pcr_extend, header_size}
use Rattle.tpm_frame.specs.Frame.{head_of}
use Rattle.tpm_core.specs.Numbers.{su_clear, su_state, rh_null, rs_pw}
use Rattle.tpm_core.specs.declared.algorithm.Algorithm.{Algorithm}
use Rattle.tpm_core.specs.declared.algorithm.Banks.{Banks}
use Rattle.tpm_core.specs.declared.algorithm.Measurement.{Measurement}
use Rattle.tpm_core.specs.declared.refusal.Refusal.{Refusal}
use Rattle.tpm_core.specs.declared.refusal.Refusal.TheVariants as refusals
use Rattle.tpm_core.specs.declared.command.Mode.{Mode}
use Rattle.tpm_core.specs.declared.command.Mode.TheVariants.{Clear, State}
use Rattle.tpm_core.specs.declared.command.Selection.{Selection}
use Rattle.tpm_core.specs.declared.command.Command.{Command}
use Rattle.tpm_core.specs.declared.command.Command.TheVariants.{Startup, Shutdown, GetRandom, PcrRead, PcrExtend}
use Rattle.tpm_core.specs.Banks.{is_dynamic}
use Rattle.tpm_core.specs.Algorithms.{digest_size, algorithm_of, measured}

-- one step of reading and then the next; nothing is read after a refusal
infixl 10 ◌>>=◌
abbrev pub ◌>>=◌ : {A B : Type 0} → Result A Refusal → (A → Result B Refusal) → Result B Refusal
(Ok x) >>= f = f x
(Err e) >>= f = Err e

-- from the bytes old a reader gave what reading gives, and has the bytes new left
abbrev pub Reads : {A : Type 0} → Result A Refusal → List ℕ → List ℕ → (List ℕ → Result (A × List ℕ) Refusal) → Type 0
Reads (Ok x) old new reading = reading old ≡ Ok (x, new)
Reads (Err e) old new reading = reading old ≡ Err e

-- a number and the bytes after it
abbrev pub take_number : Width → Refusal → List ℕ → Result (ℕ × List ℕ) Refusal
take_number w cut bytes = if nat_lt (length bytes) (byte_len w) then Err cut else Ok (from_be_bytes w (take (byte_len w) bytes), drop (byte_len w) bytes)

-- the refusal that stands for a response code of the header
abbrev pub head_refused : Result Head ℕ → Result Head Refusal
head_refused (Ok head) = Ok head
head_refused (Err code) =
    if code == rc_bad_tag then Err refusals.BadTag
    else if code == rc_command_size then Err refusals.CommandSize
    else Err refusals.CommandCode

-- the first three checks: the header
unfoldable pub head_at : List ℕ → Result Head Refusal
head_at bytes = head_refused (head_of bytes)

-- two tests come out alike
abbrev pub same : Bool → Bool → Bool
same true b = b
same false b = not b

-- the next two: a start comes first and once, and an extend alone has sessions
abbrev pub check_started_and_sessions : Bool → Head → Result Head Refusal
check_started_and_sessions started head =
    if same started (head.code == cc_startup) then Err refusals.Initialize
    else if head.code == cc_pcr_extend then (if head.sessions then Ok head else Err refusals.AuthMissing)
    else if head.sessions then Err refusals.AuthContext
    else Ok head

-- how a start or a shutdown is meant
unfoldable pub mode_at : List ℕ → Result (Mode × List ℕ) Refusal
mode_at bytes = do
  n ← take_number w16 refusals.ParameterCut bytes
  if n.0 == su_clear then Ok (Clear, n.1) else if n.0 == su_state then Ok (State, n.1) else Err refusals.ParameterValue

-- values are to be kept or brought back
abbrev pub is_state : Mode → Bool
is_state Clear = false
is_state State = true

-- only a state that was saved is brought back
unfoldable pub startup_at : Bool → List ℕ → Result (Command × List ℕ) Refusal
startup_at has_saved bytes = do
  mode ← mode_at bytes
  if is_state mode.0 && not has_saved then Err refusals.ParameterValue else Ok (Startup mode.0, mode.1)

-- a shutdown
unfoldable pub shutdown_at : List ℕ → Result (Command × List ℕ) Refusal
shutdown_at bytes = do
  mode ← mode_at bytes
  Ok (Shutdown mode.0, mode.1)

-- how many random bytes are asked for
unfoldable pub get_random_at : List ℕ → Result (Command × List ℕ) Refusal
get_random_at bytes = do
  asked ← take_number w16 refusals.ParameterCut bytes
  Ok (GetRandom asked.0, asked.1)

-- the register that a handle names, if it names one
unfoldable pub handle_at : List ℕ → Result (Option ℕ × List ℕ) Refusal
handle_at bytes = do
  n ← take_number w32 refusals.HandleCut bytes
  if nat_lt n.0 24 then Ok (Some n.0, n.1) else if n.0 == rh_null then Ok (None, n.1) else Err refusals.HandleValue

-- an authorisation by the empty password; its attributes may be any
unfoldable pub authorisation_at : List ℕ → Result (Unit {0} × List ℕ) Refusal
authorisation_at bytes = do
  size ← take_number w32 refusals.AuthSize bytes
  area ← if nat_lt size.0 9 || nat_lt (length size.1) size.0 then Err refusals.AuthSize else Ok size.1
  session ← take_number w32 refusals.AuthSize area
  nonce ← if session.0 == rs_pw then take_number w16 refusals.AuthSize session.1 else Err refusals.SessionValue
  attributes ← if nonce.0 == 0 then take_number w8 refusals.AuthSize nonce.1 else Err refusals.AuthSize
  password ← take_number w16 refusals.AuthSize attributes.1
  if not (9 + password.0 == size.0) then Err refusals.AuthSize
      else if not (password.0 == 0) then Err refusals.BadAuth
      else Ok (tt, drop size.0 area)

-- the algorithm that was found, and the bytes after its number
abbrev pub known_algorithm : Option Algorithm → List ℕ → Result (Algorithm × List ℕ) Refusal
known_algorithm None bytes = Err refusals.ParameterHash
known_algorithm (Some a) bytes = Ok (a, bytes)

-- an algorithm that the TPM has a bank of
unfoldable pub algorithm_at : Banks → List ℕ → Result (Algorithm × List ℕ) Refusal
algorithm_at banks bytes = do
  n ← take_number w16 refusals.ParameterCut bytes
  known_algorithm (algorithm_of banks n.0) n.1

-- so many bytes of a parameter
unfoldable pub array_at : ℕ → List ℕ → Result (List ℕ × List ℕ) Refusal
array_at n bytes = if nat_lt (length bytes) n then Err refusals.ParameterCut else Ok (take n bytes, drop n bytes)

-- an algorithm and one of its digests
unfoldable pub digest_at : Banks → List ℕ → Result (Measurement × List ℕ) Refusal
digest_at banks bytes = do
  algorithm ← algorithm_at banks bytes
  digest ← array_at (digest_size algorithm.0) algorithm.1
  Ok (measured algorithm.0 digest.0, digest.1)

-- an algorithm and a map of the 24 registers of its bank
unfoldable pub selection_at : Banks → List ℕ → Result (Selection × List ℕ) Refusal
selection_at banks bytes = do
  algorithm ← algorithm_at banks bytes
  size ← take_number w8 refusals.ParameterCut algorithm.1
  bits ← if size.0 == 3 then array_at 3 size.1 else Err refusals.ParameterValue
  Ok (record { algorithm = algorithm.0; bits = bits.0 }, bits.1)

-- so many entries, one after the other
unfoldable pub many_at : {A : Type 0} → (List ℕ → Result (A × List ℕ) Refusal) → ℕ → List ℕ → Result (List A × List ℕ) Refusal
many_at entry_at zero bytes = Ok ([], bytes)
many_at entry_at (suc n) bytes = do
  first ← entry_at bytes
  others ← many_at entry_at n first.1
  Ok (first.0 ∷ others.0, others.1)

-- a list has at most sixteen entries
abbrev pub count_at : List ℕ → Result (ℕ × List ℕ) Refusal
count_at bytes = do
  count ← take_number w32 refusals.ParameterCut bytes
  if nat_lt 16 count.0 then Err refusals.ParameterSize else Ok count

-- which registers are to be read
unfoldable pub pcr_read_at : Banks → List ℕ → Result (Command × List ℕ) Refusal
pcr_read_at banks bytes = do
  count ← count_at bytes
  selections ← many_at (selection_at banks) count.0 count.1
  Ok (PcrRead selections.0, selections.1)

-- which register is to be extended, by which digests
unfoldable pub pcr_extend_at : Banks → List ℕ → Result (Command × List ℕ) Refusal
pcr_extend_at banks bytes = do
  register ← handle_at bytes
  authorisation ← authorisation_at register.1
  count ← count_at authorisation.1
  digests ← many_at (digest_at banks) count.0 count.1
  Ok (PcrExtend (register.0, digests.0), digests.1)

-- what stands after the header, by the command's code
unfoldable pub parameters_at : Banks → Bool → ℕ → List ℕ → Result (Command × List ℕ) Refusal
parameters_at banks has_saved code bytes =
    if code == cc_startup then startup_at has_saved bytes
    else if code == cc_shutdown then shutdown_at bytes
    else if code == cc_get_random then get_random_at bytes
    else if code == cc_pcr_read then pcr_read_at banks bytes
    else if code == cc_pcr_extend then pcr_extend_at banks bytes
    else Err refusals.CommandCode

-- the register is closed to the guest's locality
abbrev pub is_closed : Option ℕ → Bool
is_closed None = false
is_closed (Some register) = is_dynamic register

-- the last check: no command extends a register that is closed to this locality
abbrev pub check_locality : Command → Result Command Refusal
check_locality (PcrExtend extension) = if is_closed extension.0 then Err refusals.Locality else Ok (PcrExtend extension)
check_locality (Startup mode) = Ok (Startup mode)
check_locality (Shutdown mode) = Ok (Shutdown mode)
check_locality (GetRandom asked) = Ok (GetRandom asked)
check_locality (PcrRead selections) = Ok (PcrRead selections)

-- the command that the bytes are to a TPM with these banks, or the first check that fails
unfoldable pub command_at : Banks → Bool → Bool → List ℕ → Result Command Refusal
command_at banks started has_saved bytes = do
  seen ← head_at bytes
  head ← check_started_and_sessions started seen
  read ← parameters_at banks has_saved head.code (drop header_size bytes)
  if length read.1 == 0 then check_locality read.0 else Err refusals.ParameterSize
