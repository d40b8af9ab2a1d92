-- The TPM as a machine: which values make sense, and what each state change does to them.
use Rattle.std.specs.Prelude.{◌≡◌, ℕ, ◌+◌, ◌%◌, ◌^◌, ◌<◌, ◌≤◌, Bool, true, false, List, [], length, Option, Some, None, IfSome, slice_index_or, if◌then◌else◌}
use Rattle.tpm_core.specs.declared.algorithm.Algorithm.{Algorithm}
use Rattle.tpm_core.specs.declared.algorithm.Banks.{Banks}
use Rattle.tpm_core.specs.declared.algorithm.Measurement.{Measurement}
use Rattle.tpm_core.specs.declared.parts.SavedParts.{SavedParts}
use Rattle.tpm_core.specs.declared.parts.TpmParts.{TpmParts}
use Rattle.tpm_core.specs.Algorithms.{digest_size, has_bank}
use Rattle.tpm_core.specs.Banks.{blank_bank, each_register, bank_extended, bank_of, kept_bank_of, with_banks, MissingAreBlank, MissingAreBlankInState}
use Rattle.tpm_core.specs.Past.{StateChange, booted, started, shut_down, drew, extended, value_at_start, counter_at_start}
use Rattle.tpm_core.specs.declared.command.Command.{Command}
use Rattle.tpm_core.specs.declared.command.Command.TheVariants.{Startup, Shutdown, GetRandom, PcrRead, PcrExtend}
use Rattle.tpm_core.specs.Answers.{kept, powered_on}

-- the values of a TPM that isn't started
pub record IsStopped (v : TpmParts) : Type 0 where
  pub draws : v.draws ≡ 0
  pub counter : v.counter ≡ 0
  pub blank : (a : Algorithm) → bank_of a v ≡ blank_bank a

-- each of the first n values is as long as a digest
abbrev pub HaveWidth : Algorithm → ℕ → List (List ℕ) → Type 0
HaveWidth a n values = (i : ℕ) → i < n → length (slice_index_or values i []) ≡ digest_size a

-- a state that a shutdown can keep
pub record IsKept (state : SavedParts) : Type 0 where
  pub counter : state.counter < 2 ^ 32
  pub registers : (a : Algorithm) → length (kept_bank_of a state) ≡ 16
  pub width : (a : Algorithm) → HaveWidth a 16 (kept_bank_of a state)

-- values that agree with one another: nothing runs where the TPM isn't started, a saved state is that of now where it is, and
-- a bank that isn't there has zeros alone, also in a saved state
pub record IsConsistent (v : TpmParts) : Type 0 where
  pub missing : MissingAreBlank v.banks (λ a. bank_of a v)
  pub kept_missing : IfSome v.saved (MissingAreBlankInState v.banks)
  pub stopped : v.started ≡ false → IsStopped v
  pub kept_agrees : v.started ≡ true → IfSome v.saved (λ state. state ≡ kept v)

-- values that a TPM can have
pub record IsValid (v : TpmParts) : Type 0 where
  pub seed : length v.seed ≡ 32
  pub boots : v.boots < 2 ^ 64
  pub draws : v.draws < 2 ^ 64
  pub counter : v.counter < 2 ^ 32
  pub registers : (a : Algorithm) → length (bank_of a v) ≡ 24
  pub width : (a : Algorithm) → HaveWidth a 24 (bank_of a v)
  pub missing : MissingAreBlank v.banks (λ a. bank_of a v)
  pub kept_missing : IfSome v.saved (MissingAreBlankInState v.banks)
  pub stopped : v.started ≡ false → IsStopped v
  pub kept_fits : IfSome v.saved IsKept
  pub kept_agrees : v.started ≡ true → IfSome v.saved (λ state. state ≡ kept v)

-- a bank after a start that brings this state back, if there is one
abbrev pub bank_at_start : Banks → Algorithm → Option SavedParts → List (List ℕ)
bank_at_start banks a state = if has_bank banks a then each_register (value_at_start a state) else blank_bank a

-- a bank after an extend of register i, if there is a bank
abbrev pub bank_after_extend : Banks → Algorithm → List (List ℕ) → ℕ → List Measurement → List (List ℕ)
bank_after_extend banks a bank i measurements = if has_bank banks a then bank_extended a bank i measurements else bank

-- the values after one state change
abbrev pub after : TpmParts → StateChange → TpmParts
after v booted = powered_on v
after v (started state) = with_banks (λ a. bank_at_start v.banks a state) (record v { started = true; counter = counter_at_start state; saved = None })
after v (shut_down state) = record v { saved = state }
after v drew = record v { draws = (v.draws + 1) % 2 ^ 64 }
after v (extended i measurements) = with_banks (λ a. bank_after_extend v.banks a (bank_of a v) i measurements) (record v { counter = (v.counter + length measurements) % 2 ^ 32; saved = None })

-- the values after a state change, if there is one
abbrev pub after_change : TpmParts → Option StateChange → TpmParts
after_change v None = v
after_change v (Some change) = after v change

-- only a TPM that is started has its registers extended
abbrev pub CanDo : TpmParts → StateChange → Type 0
CanDo v booted = Unit {0}
CanDo v (started state) = IfSome state IsKept
CanDo v (shut_down None) = Unit {0}
CanDo v (shut_down (Some state)) = state ≡ kept v
CanDo v drew = v.started ≡ true
CanDo v (extended i measurements) = (v.started ≡ true) × (i < 24)

-- a state change that can be done, if there is one
abbrev pub CanDoIfAny : TpmParts → Option StateChange → Type 0
CanDoIfAny v None = Unit {0}
CanDoIfAny v (Some change) = CanDo v change

-- what a command that was read may ask for
abbrev pub IsInReach : Bool → Command → Type 0
IsInReach on (PcrExtend extension) = (on ≡ true) × IfSome extension.0 (λ i. i < 24)
IsInReach on (GetRandom asked) = on ≡ true
IsInReach on (PcrRead selections) = length selections ≤ 16
IsInReach on (Startup mode) = Unit {0}
IsInReach on (Shutdown mode) = Unit {0}
