-- The values of a TPM, looked back at over what happened.
use Rattle.std.specs.Prelude.{ℕ, ◌+◌, ◌%◌, ◌^◌, Bool, true, false, not, ◌&&◌, ◌||◌, List, [], ◌∷◌, ◌++◌, length, filter, Option, Some, None, ◌==◌, if◌then◌else◌, slice_index_or}
use Rattle.std.specs.List.{list_any}
use Rattle.tpm_core.specs.declared.algorithm.Algorithm.{Algorithm}
use Rattle.tpm_core.specs.declared.algorithm.Measurement.{Measurement}
use Rattle.tpm_core.specs.declared.parts.SavedParts.{SavedParts}
use Rattle.tpm_core.specs.declared.parts.TpmParts.{TpmParts}
use Rattle.tpm_core.specs.Algorithms.{digest_size, has_bank, digests_by}
use Rattle.tpm_core.specs.Banks.{zeros, each_register, start_value, restored_value, hashed, bank_of, kept_bank_of, with_banks}

-- what a boot or a command that succeeded did
pub data StateChange : Type 0 where
  -- power came on
  booted : StateChange
  -- a start, and the state that it brought back
  started : Option SavedParts → StateChange
  -- a shutdown, and the state that it kept
  shut_down : Option SavedParts → StateChange
  -- random bytes were drawn
  drew : StateChange
  -- a register was extended by these digests, of which there is at least one
  extended : ℕ → List Measurement → StateChange

-- Below, the state changes of the past come with the latest first.

-- whether power came on
abbrev pub is_boot : StateChange → Bool
is_boot booted = true
is_boot (started state) = false
is_boot (shut_down state) = false
is_boot drew = false
is_boot (extended i measurements) = false

-- whether the TPM was started
abbrev pub is_start : StateChange → Bool
is_start booted = false
is_start (started state) = true
is_start (shut_down state) = false
is_start drew = false
is_start (extended i measurements) = false

-- whether random bytes were drawn
abbrev pub is_draw : StateChange → Bool
is_draw booted = false
is_draw (started state) = false
is_draw (shut_down state) = false
is_draw drew = true
is_draw (extended i measurements) = false

-- how many state changes are of a kind
abbrev pub count_of : (StateChange → Bool) → List StateChange → ℕ
count_of p past = length (filter p past)

-- what was done since the last boot
abbrev pub since_boot : List StateChange → List StateChange
since_boot [] = []
since_boot (booted ∷ past) = []
since_boot (started state ∷ past) = started state ∷ since_boot past
since_boot (shut_down state ∷ past) = shut_down state ∷ since_boot past
since_boot (drew ∷ past) = drew ∷ since_boot past
since_boot (extended i measurements ∷ past) = extended i measurements ∷ since_boot past

-- whether power came on at all
abbrev pub has_booted : List StateChange → Bool
has_booted past = list_any is_boot past

-- how often power came on
unfoldable pub boots_of : TpmParts → List StateChange → ℕ
boots_of b past = (b.boots + count_of is_boot past) % 2 ^ 64

-- a start stands after the last boot; with no boot, the TPM may have been started before
unfoldable pub is_started : TpmParts → List StateChange → Bool
is_started b past = list_any is_start (since_boot past) || (not (has_booted past) && b.started)

-- how often random bytes were drawn since the last boot
unfoldable pub draws_of : TpmParts → List StateChange → ℕ
draws_of b past = (count_of is_draw (since_boot past) + (if has_booted past then 0 else b.draws)) % 2 ^ 64

-- the latest start, shutdown or extend decides
unfoldable pub saved_state : TpmParts → List StateChange → Option SavedParts
saved_state b [] = b.saved
saved_state b (booted ∷ past) = saved_state b past
saved_state b (started state ∷ past) = None
saved_state b (shut_down state ∷ past) = state
saved_state b (drew ∷ past) = saved_state b past
saved_state b (extended i measurements ∷ past) = None

-- a register's value after a start
abbrev pub value_at_start : Algorithm → Option SavedParts → ℕ → List ℕ
value_at_start a None i = start_value (digest_size a) i
value_at_start a (Some state) i = restored_value (digest_size a) (kept_bank_of a state) i

-- the counter after a start
abbrev pub counter_at_start : Option SavedParts → ℕ
counter_at_start None = 0
counter_at_start (Some state) = state.counter

-- the value that the digests since the latest start are hashed onto
unfoldable pub starting_value : TpmParts → List StateChange → Algorithm → ℕ → List ℕ
starting_value b [] a i = slice_index_or (bank_of a b) i []
starting_value b (booted ∷ past) a i = starting_value b past a i
starting_value b (started state ∷ past) a i = value_at_start a state i
starting_value b (shut_down state ∷ past) a i = starting_value b past a i
starting_value b (drew ∷ past) a i = starting_value b past a i
starting_value b (extended j measurements ∷ past) a i = starting_value b past a i

-- the counter that the digests since the latest start are added to
unfoldable pub starting_counter : TpmParts → List StateChange → ℕ
starting_counter b [] = b.counter
starting_counter b (booted ∷ past) = starting_counter b past
starting_counter b (started state ∷ past) = counter_at_start state
starting_counter b (shut_down state ∷ past) = starting_counter b past
starting_counter b (drew ∷ past) = starting_counter b past
starting_counter b (extended j measurements ∷ past) = starting_counter b past

-- the digests of an algorithm that register i was extended by since the latest start, in order
unfoldable pub digests_since : List StateChange → Algorithm → ℕ → List (List ℕ)
digests_since [] a i = []
digests_since (booted ∷ past) a i = digests_since past a i
digests_since (started state ∷ past) a i = []
digests_since (shut_down state ∷ past) a i = digests_since past a i
digests_since (drew ∷ past) a i = digests_since past a i
digests_since (extended j measurements ∷ past) a i = digests_since past a i ++ (if i == j then digests_by a measurements else [])

-- how many digests any register was extended by since the latest start
unfoldable pub count_since : List StateChange → ℕ
count_since [] = 0
count_since (booted ∷ past) = count_since past
count_since (started state ∷ past) = 0
count_since (shut_down state ∷ past) = count_since past
count_since (drew ∷ past) = count_since past
count_since (extended j measurements ∷ past) = count_since past + length measurements

-- a register's value in the bank of an algorithm; in a bank that isn't there it is zeros
unfoldable pub register_value : TpmParts → List StateChange → Algorithm → ℕ → List ℕ
register_value b past a i = if is_started b past && has_bank b.banks a then hashed a (starting_value b past a i) (digests_since past a i) else zeros (digest_size a)

-- how many digests registers were extended by, those of each bank counted
unfoldable pub counter_of : TpmParts → List StateChange → ℕ
counter_of b past = if is_started b past then (starting_counter b past + count_since past) % 2 ^ 32 else 0

-- the values after the state changes, of a TPM that had the values of b
unfoldable pub values : TpmParts → List StateChange → TpmParts
values b past = with_banks (λ a. each_register (register_value b past a)) (record b {
  boots = boots_of b past;
  draws = draws_of b past;
  started = is_started b past;
  counter = counter_of b past;
  saved = saved_state b past;
})
