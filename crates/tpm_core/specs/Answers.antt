-- What each entry of a history does, and the response to each command.
use Rattle.std.specs.Prelude.{ℕ, ◌+◌, ◌%◌, ◌^◌, false, List, [], ◌∷◌, ◌++◌, length, take, Option, Some, None, is_some, Bool, Result, Ok, Err, is_ok, ◌==◌, min, if◌then◌else◌, codes, slice_index_or}
use Rattle.std.specs.List.{flat_map}
use Rattle.tpm_core.specs.declared.algorithm.Algorithm.{Algorithm}
use Rattle.tpm_core.specs.declared.algorithm.Measurement.{Measurement}
use Rattle.tpm_core.specs.declared.command.Selection.{Selection}
use Rattle.tpm_core.specs.declared.selected.Register.{Register}
use Rattle.tpm_core.specs.Algorithms.{digest_size, identifier_of}
use Rattle.tpm_core.specs.Selected.{bits_of, chosen_of, all_registers}
use Rattle.std.specs.Int.{w16, w32, w64, to_be_bytes}
use Rattle.sha2.specs.Sha256.{sha256}
use Rattle.tpm_frame.specs.Numbers.{st_no_sessions, st_sessions, rc_success, header_size}
use Rattle.tpm_frame.specs.Frame.{short}
use Rattle.tpm_core.specs.declared.parts.SavedParts.{SavedParts}
use Rattle.tpm_core.specs.declared.parts.TpmParts.{TpmParts}
use Rattle.tpm_core.specs.declared.refusal.Refusal.{Refusal}
use Rattle.tpm_core.specs.declared.command.Mode.{Mode}
use Rattle.tpm_core.specs.declared.command.Mode.TheVariants.{Clear, State}
use Rattle.tpm_core.specs.declared.command.Command.{Command}
use Rattle.tpm_core.specs.declared.command.Command.TheVariants.{Startup, Shutdown, GetRandom, PcrRead, PcrExtend}
use Rattle.tpm_core.specs.Banks.{blank_bank, bank_of, with_banks, state_of}
use Rattle.tpm_core.specs.Refusals.{code_of}
use Rattle.tpm_core.specs.Reading.{command_at}
use Rattle.tpm_core.specs.MoreCommands.{is_more_command, more_at}
use Rattle.tpm_core.specs.Past.{StateChange, booted, started, shut_down, drew, extended, values}

-- the values when power has come on: only the seed and the saved state stay
abbrev pub powered_on : TpmParts → TpmParts
powered_on v = with_banks blank_bank (record v { boots = (v.boots + 1) % 2 ^ 64; draws = 0; started = false; counter = 0 })

-- what a shutdown keeps of each bank
abbrev pub kept : TpmParts → SavedParts
kept v = state_of v.counter (λ a. take 16 (bank_of a v))

-- an extend by no digest does nothing
abbrev pub extend_change : ℕ → List Measurement → Option StateChange
extend_change i [] = None
extend_change i (measurement ∷ others) = Some (extended i (measurement ∷ others))

-- what a start brings back
abbrev pub state_at_start : Mode → Option SavedParts → Option SavedParts
state_at_start Clear saved = None
state_at_start State saved = saved

-- what a command does to a TPM with the values v
abbrev pub change_of : TpmParts → Command → Option StateChange
change_of v (Startup mode) = Some (started (state_at_start mode v.saved))
change_of v (Shutdown Clear) = Some (shut_down None)
change_of v (Shutdown State) = Some (shut_down (Some (kept v)))
change_of v (GetRandom asked) = if asked == 0 then None else Some drew
change_of v (PcrRead selections) = None
change_of v (PcrExtend (None, measurements)) = None
change_of v (PcrExtend (Some i, measurements)) = extend_change i measurements

-- a block of random bytes
abbrev pub block_of : TpmParts → List ℕ
block_of v = sha256 (codes "CRBR" ++ v.seed ++ to_be_bytes w64 v.boots ++ to_be_bytes w64 v.draws)

-- the response to a command that succeeded
abbrev pub with_header : ℕ → List ℕ → List ℕ
with_header tag body = to_be_bytes w16 tag ++ to_be_bytes w32 (header_size + length body) ++ to_be_bytes w32 rc_success ++ body

-- as many bytes of the block as were asked for, with their number before them
abbrev pub random_bytes : TpmParts → ℕ → List ℕ
random_bytes v asked = let size = min asked 32 in to_be_bytes w16 size ++ take size (block_of v)

-- one entry of the answer to a read: the bank, and the registers of it that were read
abbrev pub entry_read : Algorithm × List ℕ → List ℕ
entry_read chosen = to_be_bytes w16 (identifier_of chosen.0) ++ 3 ∷ bits_of chosen.1

-- a register's value, with its length before it
abbrev pub digest_read : TpmParts → Register → List ℕ
digest_read v register = to_be_bytes w16 (digest_size register.algorithm) ++ slice_index_or (bank_of register.algorithm v) register.index []

-- what a read of registers answers: at most eight are read, of all banks together
unfoldable pub registers_read : TpmParts → List Selection → List ℕ
registers_read v selections =
    let chosen = chosen_of 8 selections in
    to_be_bytes w32 v.counter
    ++ to_be_bytes w32 (length selections) ++ flat_map entry_read chosen
    ++ to_be_bytes w32 (length (all_registers chosen)) ++ flat_map (digest_read v) (all_registers chosen)

-- the empty parameters and the session that the response to an extend ends with
abbrev pub password_session : List ℕ
password_session = 0 ∷ 0 ∷ 0 ∷ 0 ∷ 0 ∷ 0 ∷ 1 ∷ 0 ∷ 0 ∷ []

-- the response to a command that did what it does, to a TPM with the values v
unfoldable pub response : TpmParts → Command → List ℕ
response v (Startup mode) = with_header st_no_sessions []
response v (Shutdown mode) = with_header st_no_sessions []
response v (GetRandom asked) = with_header st_no_sessions (random_bytes v asked)
response v (PcrRead selections) = with_header st_no_sessions (registers_read v selections)
response v (PcrExtend extension) = with_header st_sessions password_session

-- the command that the bytes are to a TPM with the values v
abbrev pub read_by : TpmParts → List ℕ → Result Command Refusal
read_by v bytes = command_at v.banks v.started (is_some v.saved) bytes

-- the response to what was read
abbrev pub reply_to : TpmParts → Result Command Refusal → List ℕ
reply_to v (Ok command) = response v command
reply_to v (Err refusal) = short (code_of refusal)

-- what is done by a command that was read
abbrev pub change_if_read : TpmParts → Result Command Refusal → Option StateChange
change_if_read v (Ok command) = change_of v command
change_if_read v (Err refusal) = None

-- what a TPM went through: power came on, or it executed a command. A past has its latest entry first.
pub data Entry : Type 0 where
  PowerOn : Entry
  Executed : (command : List ℕ) → Entry

-- a state change more, if there is one
abbrev pub with_change : Option StateChange → List StateChange → List StateChange
with_change None past = past
with_change (Some change) past = change ∷ past

-- what was done in a past: a refused command does nothing
unfoldable pub state_changes : TpmParts → List Entry → List StateChange
state_changes b [] = []
state_changes b (PowerOn ∷ past) = booted ∷ state_changes b past
state_changes b (Executed command ∷ past) = with_change (change_if_read (values b (state_changes b past)) (read_by (values b (state_changes b past)) command)) (state_changes b past)

-- the values after a past, of a TPM that had the values of b before it
unfoldable pub values_after : TpmParts → List Entry → TpmParts
values_after b past = values b (state_changes b past)

-- the response where Startup, Shutdown, GetRandom, PCR_Read and PCR_Extend alone are known
unfoldable pub core_answer : TpmParts → List Entry → List ℕ → List ℕ
core_answer b past command = reply_to (values_after b past) (read_by (values_after b past) command)

-- what SelfTest, GetCapability, GetTestResult or Hash is to a TPM with the values v
abbrev pub more_read_by : TpmParts → List ℕ → Result (List ℕ) Refusal
more_read_by v bytes = more_at v.banks v.started bytes

-- the response to what was read
abbrev pub reply_to_more : Result (List ℕ) Refusal → List ℕ
reply_to_more (Ok body) = with_header st_no_sessions body
reply_to_more (Err refusal) = short (code_of refusal)

-- the response to a command after a past: all nine are known
unfoldable pub answer : TpmParts → List Entry → List ℕ → List ℕ
answer b past command = if is_more_command command then reply_to_more (more_read_by (values_after b past) command) else core_answer b past command

-- whether a command passes each check
unfoldable pub passes : TpmParts → List ℕ → Bool
passes v command = if is_more_command command then is_ok (more_read_by v command) else is_ok (read_by v command)
