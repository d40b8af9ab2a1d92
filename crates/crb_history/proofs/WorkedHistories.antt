-- Histories computed from the definitions: what each value is at their end, and which events can't come next. The TPM may
-- have any values.
use Rattle.std.proofs.Common.{◌≡◌, ℕ, true, false, List, [], ◌∷◌, Some, None, refl, lit≤}
use Rattle.std.specs.Prelude.{slice_index}
use Rattle.crb_regs.specs.declared.phase.Phase.TheVariants.{Reception, Execution, Completion, Lost}
use Rattle.crb_port.specs.declared.job.Outcome.TheVariants.{Done, Cancelled, Lost as EndedLost}
use Rattle.crb_machine.specs.Values.{fresh_device}
use Rattle.tpm_core.specs.declared.parts.TpmParts.{TpmParts}
use Rattle.tpm_core.specs.Answers.{answer}
use Rattle.tpm_core.specs.Answers.Entry.{Executed, PowerOn}
use Rattle.crb_history.specs.Snapshot.{Snapshot}
use Rattle.crb_history.specs.Event.{Event, History}
use Rattle.crb_history.specs.Event.Event.{Read, Write, Claim, Sent, Exec, Finish, Ask, Reset, ResetLost}
use Rattle.crb_history.specs.Device.{phase_of, is_cancel, buffer, started, executed, number_of}
use Rattle.crb_history.specs.Device.JobStage.{Waiting, Claimed, HasSent, HasHeader}
use Rattle.crb_history.specs.Cancelling.{cancelled_before_claim, cancel_requested, cancelled_in_emulator}
use Rattle.crb_history.specs.Legal.{Legal, IsEnabled}

-- ---- words

-- A reset device whose last command had this number. The empty list stands for the zeros of the buffer: the byte at each place
-- is the same.
abbrev reset_device : ℕ → TpmParts → Snapshot
reset_device number tpm = record { tpm = tpm; device = record fresh_device { content = []; number = number } }

-- a read of four bytes with its value, and a write of four bytes
abbrev reads : ℕ → ℕ → Event
reads offset value = Read (record { offset = offset; size = 4; write = None }) value

abbrev writes : ℕ → ℕ → Event
writes offset value = Write (record { offset = offset; size = 4; write = Some value })

-- access is granted and the device is ready; then Startup(CLEAR) is in the buffer; then it is started
abbrev is_ready : History
is_ready = writes 0x40 1 ∷ writes 0x08 1 ∷ []

abbrev is_written : History
is_written = writes 0x88 0x4401 ∷ writes 0x84 0x0C00 ∷ writes 0x80 0x0180 ∷ is_ready

abbrev is_started : History
is_started = writes 0x4C 1 ∷ is_written

abbrev startup : List ℕ
startup = 0x80 ∷ 0x01 ∷ 0 ∷ 0 ∷ 0 ∷ 12 ∷ 0 ∷ 0 ∷ 0x01 ∷ 0x44 ∷ 0 ∷ 0 ∷ []

-- the worker's steps
abbrev is_sent : History
is_sent = Sent ∷ Claim ∷ is_started

abbrev is_done : History
is_done = Finish Done ∷ Exec ∷ is_sent

-- a stage isn't another one
claimed_waits : Claimed ≡ Waiting → ⊥
claimed_waits is = cc

waiting_is_claimed : Waiting ≡ Claimed → ⊥
waiting_is_claimed is = cc

sent_has_header : HasSent ≡ HasHeader → ⊥
sent_has_header is = cc

no_is_yes : false ≡ true → ⊥
no_is_yes is = cc

-- ---- registers and the buffer

-- A read takes bytes of two registers, or of a register and of the buffer, which an idle device doesn't show.
--   r 42 4 > 00020000, r 7e 4 > ffff0000
idle_device_is_read : (t : TpmParts) → Legal (reset_device 0 t) (reads 0x7E 0xFFFF0000 ∷ reads 0x42 0x00020000 ∷ [])
idle_device_is_read t = ((tt, (lit≤ tt, refl)), (lit≤ tt, refl))

-- 3 in LOC_CTRL asks for nothing; 1 grants access, 2 takes it back.
--   w 8 4 3, r c 4 > 00000000, w 8 4 1, r c 4 > 00000001, w 8 4 2, r 0 4 > 00000081
access_is_granted : (t : TpmParts) → Legal (reset_device 0 t) (reads 0x00 0x81 ∷ writes 0x08 2 ∷ reads 0x0C 1 ∷ writes 0x08 1 ∷ reads 0x0C 0 ∷ writes 0x08 3 ∷ [])
access_is_granted t = ((((((tt, tt), (lit≤ tt, refl)), tt), (lit≤ tt, refl)), tt), (lit≤ tt, refl))

-- A buffer that isn't ready takes no byte. One that is takes them, and CmdReady alone doesn't start it over.
--   w 80 4 1, r 80 4 > ffffffff, w 40 4 1, r 80 4 > 00000000, w 80 4 1, w 40 4 1, r 80 4 > 00000001
bytes_are_taken_when_ready : (t : TpmParts) → Legal (reset_device 0 t) (
    reads 0x80 1 ∷ writes 0x40 1 ∷ writes 0x80 1 ∷ reads 0x80 0 ∷ writes 0x40 1 ∷ reads 0x80 0xFFFFFFFF ∷ writes 0x80 1 ∷ [])
bytes_are_taken_when_ready t = (((((((tt, tt), (lit≤ tt, refl)), tt), (lit≤ tt, refl)), tt), tt), (lit≤ tt, refl))

-- Without access nothing is started.
no_start_without_access : (t : TpmParts) → let h = writes 0x4C 1 ∷ writes 0x88 0x4401 ∷ writes 0x84 0x0C00 ∷ writes 0x80 0x0180 ∷ writes 0x40 1 ∷ [] in
    (phase_of (reset_device 0 t) h ≡ Reception) × (started (reset_device 0 t) h ≡ [])
no_start_without_access t = (refl, refl)

-- ---- a command from its start to its end

-- It has the next number, and as many bytes of the buffer as its size field says.
command_is_cut_out : (t : TpmParts) → started (reset_device 0 t) is_started ≡ record { number = 1; command = startup } ∷ []
command_is_cut_out t = refl

-- behind the last number comes 0
numbers_wrap : (t : TpmParts) → number_of (reset_device 18446744073709551615 t) is_started ≡ 0
numbers_wrap t = refl

-- While it is executed the buffer isn't shown, and takes no byte; then START reads 0.
--   r 4c 4 > 00000001, r 80 4 > ffffffff, w 80 4 1, work > claim 1, sent 1, exec 1, done 1, r 4c 4 > 00000000
command_is_done : (t : TpmParts) → Legal (reset_device 0 t) (
    reads 0x4C 0 ∷ Finish Done ∷ Exec ∷ Sent ∷ Claim ∷ writes 0x80 1 ∷ reads 0x80 0xFFFFFFFF ∷ reads 0x4C 1 ∷ is_started)
command_is_done t = (
  (
    (
      (
        (
          (((((((((tt, tt), tt), tt), tt), tt), tt), (lit≤ tt, refl)), (lit≤ tt, refl)), tt),
          record { executing = refl; reached = refl },
        ),
        record { executing = refl; reached = refl },
      ),
      record { executing = refl; reached = refl },
    ),
    record { executing = refl; reached = refl },
  ),
  (lit≤ tt, refl),
)

-- It was executed once, and the buffer has the TPM's answer to its bytes.
command_is_executed : (t : TpmParts) → executed (reset_device 0 t) is_done ≡ Executed startup ∷ []
command_is_executed t = refl

response_is_answer : (t : TpmParts) (i : ℕ) → buffer (reset_device 0 t) is_done i ≡ slice_index (answer t [] startup) i
response_is_answer t i = refl

-- The next CmdReady forgets the response, and so does GoIdle.
response_is_forgotten : (t : TpmParts) (i : ℕ) → (buffer (reset_device 0 t) (writes 0x40 1 ∷ is_done) i ≡ 0) × (buffer (reset_device 0 t) (writes 0x40 2 ∷ is_done) i ≡ 0)
response_is_forgotten t i = (refl, refl)

-- ---- cancelling

-- CANCEL is set before the claim: the command is never executed, and the next one has the next number.
--   w 48 4 1, work > claim 1, work > cancelled 1, r 88 4 > 00000909, w 40 4 1, w 48 4 0, then a GetRandom
abbrev is_cancelled : History
is_cancelled = Finish Cancelled ∷ Claim ∷ writes 0x48 1 ∷ is_started

abbrev next_is_done : History
next_is_done = Finish Done ∷ Exec ∷ Sent ∷ Claim ∷ writes 0x4C 1 ∷ writes 0x88 0x7B01 ∷ writes 0x84 0x0C00 ∷ writes 0x80 0x0180 ∷ writes 0x48 0 ∷ writes 0x40 1 ∷ is_cancelled

command_is_cancelled : (t : TpmParts) → Legal (reset_device 0 t) (reads 0x88 0x0909 ∷ is_cancelled)
command_is_cancelled t = ((((((((((tt, tt), tt), tt), tt), tt), tt), tt), record { executing = refl; reached = refl }), (record { executing = refl; claimed = λ is. claimed_waits is }, refl)), (lit≤ tt, refl))

cancelled_is_not_executed : (t : TpmParts) →
    (executed (reset_device 0 t) next_is_done ≡ Executed (0x80 ∷ 0x01 ∷ 0 ∷ 0 ∷ 0 ∷ 12 ∷ 0 ∷ 0 ∷ 0x01 ∷ 0x7B ∷ 0 ∷ 0 ∷ []) ∷ [])
    × (number_of (reset_device 0 t) next_is_done ≡ 2)
cancelled_is_not_executed t = (refl, refl)

-- a 0 doesn't take the mark back; CANCEL at the start marks the command too
mark_stays : (t : TpmParts) →
    (cancelled_before_claim (reset_device 0 t) (writes 0x48 0 ∷ writes 0x48 1 ∷ is_started) ≡ true)
    × (is_cancel (reset_device 0 t) (writes 0x48 0 ∷ writes 0x48 1 ∷ is_started) ≡ false)
    × (cancelled_before_claim (reset_device 0 t) (writes 0x48 0 ∷ writes 0x4C 1 ∷ writes 0x48 1 ∷ is_written) ≡ true)
    × (cancelled_before_claim (reset_device 0 t) (writes 0x4C 1 ∷ writes 0x48 0 ∷ writes 0x48 1 ∷ is_written) ≡ false)
mark_stays t = (refl, refl, refl, refl)

-- after the claim a cancel is asked for and comes too late
late_cancel_is_asked_for : (t : TpmParts) →
    (cancelled_before_claim (reset_device 0 t) (writes 0x48 1 ∷ Claim ∷ is_started) ≡ false)
    × (cancel_requested (reset_device 0 t) (writes 0x48 1 ∷ Claim ∷ is_started) ≡ true)
    × (is_cancel (reset_device 0 t) (writes 0x48 1 ∷ Claim ∷ is_started) ≡ true)
late_cancel_is_asked_for t = (refl, refl, refl)

-- An ask counts between the send and the execution, if it arrives.
asks_in_time : (t : TpmParts) →
    (cancelled_in_emulator (reset_device 0 t) (Exec ∷ Ask true ∷ is_sent) ≡ true)
    × (cancelled_in_emulator (reset_device 0 t) (Exec ∷ Ask false ∷ is_sent) ≡ false)
    × (cancelled_in_emulator (reset_device 0 t) (Ask true ∷ Exec ∷ is_sent) ≡ false)
    × (cancelled_in_emulator (reset_device 0 t) (Exec ∷ Sent ∷ Ask true ∷ Claim ∷ is_started) ≡ false)
    × (cancelled_in_emulator (reset_device 0 t) (writes 0x4C 1 ∷ is_written) ≡ false)
asks_in_time t = (refl, refl, refl, refl, refl)

-- ---- a reset, and a command that is lost

-- The waiting command is gone, the TPM has its power anew, and the number stays.
--   reset > reset, r 4c 4 > 00000000, r c 4 > 00000000, r 44 4 > 00000002
reset_takes_the_command : (t : TpmParts) → Legal (reset_device 0 t) (reads 0x44 2 ∷ reads 0x0C 0 ∷ reads 0x4C 0 ∷ Reset ∷ is_started)
reset_takes_the_command t = ((((((((((tt, tt), tt), tt), tt), tt), tt), record { working = λ is. executing_is_lost is; unclaimed = λ is. refl }), (lit≤ tt, refl)), (lit≤ tt, refl)), (lit≤ tt, refl))
  where
    executing_is_lost : Execution ≡ Lost → ⊥
    executing_is_lost is = cc

reset_powers_on : (t : TpmParts) → (executed (reset_device 0 t) (Reset ∷ is_started) ≡ PowerOn ∷ []) × (number_of (reset_device 0 t) (Reset ∷ is_started) ≡ 1)
    × (executed (reset_device 0 t) (ResetLost ∷ is_started) ≡ [])
reset_powers_on t = (refl, refl, refl)

-- A lost device ignores writes, and shows tpmSts.
--   work > lost 1, r 44 4 > 00000001, r 4c 4 > 00000000, w 40 4 1, r 44 4 > 00000001, r 80 4 > ffffffff
command_is_lost : (t : TpmParts) → Legal (reset_device 0 t) (
    reads 0x80 0xFFFFFFFF ∷ reads 0x44 1 ∷ writes 0x40 1 ∷ reads 0x4C 0 ∷ reads 0x44 1 ∷ Finish EndedLost ∷ is_sent)
command_is_lost t = (
  (
    (
      (
        (
          (
            ((((((((tt, tt), tt), tt), tt), tt), tt), record { executing = refl; reached = refl }), record { executing = refl; reached = refl }),
            record { executing = refl; claimed = λ is. sent_waits is },
          ),
          (lit≤ tt, refl),
        ),
        (lit≤ tt, refl),
      ),
      tt,
    ),
    (lit≤ tt, refl),
  ),
  (lit≤ tt, refl),
)
  where
    sent_waits : HasSent ≡ Waiting → ⊥
    sent_waits is = cc

-- ---- what can't come next

-- no command was started: none is claimed
idle_device_claims_nothing : (t : TpmParts) → IsEnabled (reset_device 0 t) is_written Claim → ⊥
idle_device_claims_nothing t is = reception_executes is.executing
  where
    reception_executes : Reception ≡ Execution → ⊥
    reception_executes is = cc

-- a command is claimed once, and each step comes after the one before it
claimed_once : (t : TpmParts) → IsEnabled (reset_device 0 t) (Claim ∷ is_started) Claim → ⊥
claimed_once t is = claimed_waits is.reached

not_sent_before_the_claim : (t : TpmParts) → IsEnabled (reset_device 0 t) is_started Sent → ⊥
not_sent_before_the_claim t is = waiting_is_claimed is.reached

not_done_before_the_header : (t : TpmParts) → IsEnabled (reset_device 0 t) is_sent (Finish Done) → ⊥
not_done_before_the_header t is = sent_has_header is.reached

-- a command ends once
ended_once : (t : TpmParts) → IsEnabled (reset_device 0 t) is_done (Finish Done) → ⊥
ended_once t is = completion_executes is.executing
  where
    completion_executes : Completion ≡ Execution → ⊥
    completion_executes is = cc

-- a cancel that nobody asked for
not_cancelled_unasked : (t : TpmParts) → IsEnabled (reset_device 0 t) is_sent (Finish Cancelled) → ⊥
not_cancelled_unasked t is = no_is_yes is.1

-- a command that nobody claimed is neither cancelled nor lost
unclaimed_stays : (t : TpmParts) → IsEnabled (reset_device 0 t) is_started (Finish EndedLost) → ⊥
unclaimed_stays t is = is.claimed refl

-- a reset waits for a claimed command, and never comes to a lost device
claimed_is_not_reset : (t : TpmParts) → IsEnabled (reset_device 0 t) is_sent Reset → ⊥
claimed_is_not_reset t is = sent_waits (is.unclaimed refl)
  where
    sent_waits : HasSent ≡ Waiting → ⊥
    sent_waits is = cc

lost_is_not_reset : (t : TpmParts) → IsEnabled (reset_device 0 t) (Finish EndedLost ∷ is_sent) Reset → ⊥
lost_is_not_reset t is = is.working refl

-- ---- a command that waits when the history begins

abbrev waiting_device : TpmParts → Snapshot
waiting_device tpm = record { tpm = tpm; device = record { granted = true; cancel = false; phase = Execution; cancelled = true; content = startup; number = 7 } }

waiting_command_is_started : (t : TpmParts) → started (waiting_device t) [] ≡ record { number = 7; command = startup } ∷ []
waiting_command_is_started t = refl

waiting_command_is_cancelled : (t : TpmParts) → Legal (waiting_device t) (Finish Cancelled ∷ Claim ∷ [])
waiting_command_is_cancelled t = ((tt, record { executing = refl; reached = refl }), (record { executing = refl; claimed = λ is. claimed_waits is }, refl))
