-- Scripts with their replies, computed from the definitions. The TPM may have any values.
use Rattle.std.proofs.Common.{◌≡◌, ℕ, Bool, true, false, ◌&&◌, [], ◌∷◌, Some, None, refl, lit≤}
use Rattle.vt_base.specs.declared.types.HostName.TheVariants.{A}
use Rattle.vt_base.specs.declared.types.Reason.TheVariants as reason
use Rattle.crb_regs.specs.declared.phase.Phase.TheVariants.{Idle, Execution, Lost}
use Rattle.crb_machine.specs.Values.{fresh_device}
use Rattle.tpm_core.specs.declared.parts.TpmParts.{TpmParts}
use Rattle.vt_script.specs.declared.event.Event.TheVariants.{Access, Work, Ask as AskLine, Reset as ResetLine, Offer, Deliver, Fail}
use Rattle.vt_script.specs.declared.reply.Reply.{Reply}
use Rattle.vt_script.specs.declared.reply.Reply.TheVariants as replied
use Rattle.crb_history.specs.Snapshot.{Snapshot}
use Rattle.crb_history.specs.Device.JobStage.{Waiting, Claimed, HasSent, HasHeader}
use Rattle.vt_transcript.specs.Replies.{Exchange, Transcript, exchange, history, injected_fault_of, call_count, fails_within, response_length, worker_reply, none_fails, IsReplyTo, IsRun}

-- ---- words

-- A reset device over a TPM with any values. The empty list stands for the zeros of the buffer: the byte at each place is the
-- same.
abbrev reset_device : TpmParts → Snapshot
reset_device tpm = record { tpm = tpm; device = record fresh_device { content = [] } }

-- a read and a write of four bytes, with their replies
abbrev reads : ℕ → ℕ → Exchange
reads offset value = exchange (Access (record { offset = offset; size = 4; write = None })) (replied.Value value 4)

abbrev writes : ℕ → ℕ → Exchange
writes offset value = exchange (Access (record { offset = offset; size = 4; write = Some value })) replied.Accepted

abbrev works : Reply → Exchange
works reply = exchange Work reply

-- the K-th call from here on is to fail
abbrev fails_at : ℕ → Exchange
fails_at call = exchange (Fail A call) replied.Accepted

-- Startup(CLEAR) is started, behind some lines: w 8 4 1, w 40 4 1, w 80 4 180, w 84 4 c00, w 88 4 4401, w 4c 4 1
abbrev is_started : Transcript → Transcript
is_started before = writes 0x4C 1 ∷ writes 0x88 0x4401 ∷ writes 0x84 0x0C00 ∷ writes 0x80 0x0180 ∷ writes 0x40 1 ∷ writes 0x08 1 ∷ before

claimed_waits : Claimed ≡ Waiting → ⊥
claimed_waits is = cc

sent_waits : HasSent ≡ Waiting → ⊥
sent_waits is = cc

header_waits : HasHeader ≡ Waiting → ⊥
header_waits is = cc

executing_is_lost : Execution ≡ Lost → ⊥
executing_is_lost is = cc

idle_is_lost : Idle ≡ Lost → ⊥
idle_is_lost is = cc

-- where no call fails, whether there is a rest doesn't count
never : (c : Bool) → (c && false) ≡ false
never true = refl
never false = refl

-- ---- no call fails

-- The usual sequence.
--   S, r 4c 4 > 00000001, r 80 4 > ffffffff, work > claim 1, sent 1, exec 1, done 1, idle, r 4c 4 > 00000000
usual_sequence : (t : TpmParts) → IsRun (reset_device t) (
    reads 0x4C 0 ∷ works replied.Idle ∷ works (replied.Done 1) ∷ works (replied.Exec 1) ∷ works (replied.Sent 1) ∷ works (replied.Claim 1)
    ∷ reads 0x80 0xFFFFFFFF ∷ reads 0x4C 1 ∷ is_started [])
usual_sequence t = record {
  legal = (
    (
      (
        (
          (
            ((((((((tt, tt), tt), tt), tt), tt), tt), (lit≤ tt, refl)), (lit≤ tt, refl)),
            record { executing = refl; reached = refl },
          ),
          record { executing = refl; reached = refl },
        ),
        record { executing = refl; reached = refl },
      ),
      record { executing = refl; reached = refl },
    ),
    (lit≤ tt, refl),
  );
  in_turn = ((((((((((((((tt, refl), refl), refl), refl), refl), refl), (refl, refl)), (refl, refl)), refl), refl), refl), rw never refl), refl), (refl, refl));
}

-- The command is cancelled before its claim, and never sent.
--   S, w 48 4 1, work > claim 1, work > cancelled 1, r 88 4 > 00000909
cancelled_before : (t : TpmParts) → IsRun (reset_device t) (
    reads 0x88 0x0909 ∷ works (replied.Cancelled 1) ∷ works (replied.Claim 1) ∷ writes 0x48 1 ∷ is_started [])
cancelled_before t = record {
  legal = ((((((((((tt, tt), tt), tt), tt), tt), tt), tt), record { executing = refl; reached = refl }), (record { executing = refl; claimed = λ is. claimed_waits is }, refl)), (lit≤ tt, refl));
  in_turn = ((((((((((tt, refl), refl), refl), refl), refl), refl), refl), refl), refl), (refl, refl));
}

-- CANCEL comes after the claim: the command is done.
--   S, work > claim 1, w 48 4 1, work > sent 1, exec 1, done 1, r 48 4 > 00000001
cancelled_late : (t : TpmParts) → IsRun (reset_device t) (
    reads 0x48 1 ∷ works (replied.Done 1) ∷ works (replied.Exec 1) ∷ works (replied.Sent 1) ∷ writes 0x48 1 ∷ works (replied.Claim 1) ∷ is_started [])
cancelled_late t = record {
  legal = (
    (
      (
        (
          ((((((((tt, tt), tt), tt), tt), tt), tt), record { executing = refl; reached = refl }), tt),
          record { executing = refl; reached = refl },
        ),
        record { executing = refl; reached = refl },
      ),
      record { executing = refl; reached = refl },
    ),
    (lit≤ tt, refl),
  );
  in_turn = ((((((((((((tt, refl), refl), refl), refl), refl), refl), refl), refl), refl), refl), rw never refl), (refl, refl));
}

-- An ask between the send and the execution cancels it.
--   S, work > claim 1, work > sent 1, ask > asked, work > exec 1, work > cancelled 1, r 88 4 > 00000909
ask_before_execution : (t : TpmParts) → IsRun (reset_device t) (
    reads 0x88 0x0909 ∷ works (replied.Cancelled 1) ∷ works (replied.Exec 1) ∷ exchange AskLine replied.Asked ∷ works (replied.Sent 1) ∷ works (replied.Claim 1) ∷ is_started [])
ask_before_execution t = record {
  legal = (
    (
      (
        (((((((((tt, tt), tt), tt), tt), tt), tt), record { executing = refl; reached = refl }), record { executing = refl; reached = refl }), tt),
        record { executing = refl; reached = refl },
      ),
      (record { executing = refl; claimed = λ is. header_waits is }, refl),
    ),
    (lit≤ tt, refl),
  );
  in_turn = ((((((((((((tt, refl), refl), refl), refl), refl), refl), refl), refl), refl), refl), refl), (refl, refl));
}

-- A reset takes a command that waits, and waits for one that is claimed.
--   S, reset > reset, r 4c 4 > 00000000, work > idle, S, work > claim 2, reset > not yet
resets : (t : TpmParts) → IsRun (reset_device t) (
    exchange ResetLine replied.NotYet ∷ works (replied.Claim 2) ∷ is_started (
    works replied.Idle ∷ reads 0x4C 0 ∷ exchange ResetLine replied.Reset ∷ is_started []))
resets t = record {
  legal = (
    (
      (
        (
          (
            (
              (
                ((((((((tt, tt), tt), tt), tt), tt), tt), record { working = λ is. executing_is_lost is; unclaimed = λ is. refl }), (lit≤ tt, refl)),
                tt,
              ),
              tt,
            ),
            tt,
          ),
          tt,
        ),
        tt,
      ),
      tt,
    ),
    record { executing = refl; reached = refl },
  );
  in_turn = (((((((((((((((((tt, refl), refl), refl), refl), refl), refl), refl), (refl, refl)), refl), refl), refl), refl), refl), refl), refl), refl), refl);
}

-- ---- calls that fail

-- The second call is the receive of the header: the device is lost for good.
--   fail a 2, S, work > claim 1, sent 1, lost 1, r 44 4 > 00000001, w 40 4 1, r 44 4 > 00000001, reset > failed device, work > idle
header_is_lost : (t : TpmParts) → IsRun (reset_device t) (
    works replied.Idle ∷ exchange ResetLine replied.FailedDevice ∷ reads 0x44 1 ∷ writes 0x40 1 ∷ reads 0x44 1
    ∷ works (replied.Lost 1) ∷ works (replied.Sent 1) ∷ works (replied.Claim 1) ∷ is_started (fails_at 2 ∷ []))
header_is_lost t = record {
  legal = (
    (
      (
        (
          ((((((((tt, tt), tt), tt), tt), tt), tt), record { executing = refl; reached = refl }), record { executing = refl; reached = refl }),
          record { executing = refl; claimed = λ is. sent_waits is },
        ),
        (lit≤ tt, refl),
      ),
      tt,
    ),
    (lit≤ tt, refl),
  );
  in_turn = (((((((((((((((tt, refl), refl), refl), refl), refl), refl), refl), refl), refl), refl), (refl, refl)), refl), (refl, refl)), refl), refl);
}

-- The first call of an ask is its send, the second receives the reply: then the ask arrived, and the command is cancelled.
--   S, work > claim 1, sent 1, fail a 2, ask > link, work > exec 1, cancelled 1
ask_arrives : (t : TpmParts) → IsRun (reset_device t) (
    works (replied.Cancelled 1) ∷ works (replied.Exec 1) ∷ exchange AskLine replied.Link ∷ fails_at 2 ∷ works (replied.Sent 1) ∷ works (replied.Claim 1) ∷ is_started [])
ask_arrives t = record {
  legal = (
    (
      (((((((((tt, tt), tt), tt), tt), tt), tt), record { executing = refl; reached = refl }), record { executing = refl; reached = refl }), tt),
      record { executing = refl; reached = refl },
    ),
    (record { executing = refl; claimed = λ is. header_waits is }, refl),
  );
  in_turn = ((((((((((((tt, refl), refl), refl), refl), refl), refl), refl), refl), refl), refl), refl), refl);
}

--   S, work > claim 1, sent 1, fail a 1, ask > link, work > exec 1, done 1
ask_is_lost : (t : TpmParts) → IsRun (reset_device t) (
    works (replied.Done 1) ∷ works (replied.Exec 1) ∷ exchange AskLine replied.Link ∷ fails_at 1 ∷ works (replied.Sent 1) ∷ works (replied.Claim 1) ∷ is_started [])
ask_is_lost t = record {
  legal = (
    (
      (((((((((tt, tt), tt), tt), tt), tt), tt), record { executing = refl; reached = refl }), record { executing = refl; reached = refl }), tt),
      record { executing = refl; reached = refl },
    ),
    record { executing = refl; reached = refl },
  );
  in_turn = ((((((((((((tt, refl), refl), refl), refl), refl), refl), refl), refl), refl), refl), refl), rw never refl);
}

-- Calls are counted from the line that named one, a later such line takes its place, and a fault ends it. The fourth call is the
-- second one of the second ask, and a reset that fails makes the device lost.
--   fail a 1, fail a 4, ask > asked, ask > link, ask > asked, fail a 2, reset > link, r 44 4 > 00000001, reset > failed device
calls_are_counted : (t : TpmParts) → IsRun (reset_device t) (
    exchange ResetLine replied.FailedDevice ∷ reads 0x44 1 ∷ exchange ResetLine replied.Link ∷ fails_at 2
    ∷ exchange AskLine replied.Asked ∷ exchange AskLine replied.Link ∷ exchange AskLine replied.Asked ∷ fails_at 4 ∷ fails_at 1 ∷ [])
calls_are_counted t = record {
  legal = (((((tt, tt), tt), tt), record { working = λ is. idle_is_lost is; unclaimed = λ is. refl }), (lit≤ tt, refl));
  in_turn = (((((((((tt, refl), refl), refl), refl), refl), refl), refl), (refl, refl)), refl);
}

-- A response of more than ten bytes takes a call for its rest, and one of ten bytes none: the third call behind `fail a 3` is that of
-- the rest.
abbrev with_header : Transcript
with_header = works (replied.Exec 1) ∷ works (replied.Sent 1) ∷ works (replied.Claim 1) ∷ is_started (fails_at 3 ∷ [])

calls_before_the_rest : (t : TpmParts) → call_count (reset_device t) with_header ≡ 2
calls_before_the_rest t = refl

rest_is_lost : (t : TpmParts) → response_length (reset_device t) (history (reset_device t) with_header) ≡ 12
    → worker_reply (reset_device t) (history (reset_device t) with_header) (fails_within (reset_device t) with_header) ≡ replied.Lost 1
rest_is_lost t is = rw is refl

no_rest_is_lost : (t : TpmParts) → response_length (reset_device t) (history (reset_device t) with_header) ≡ 10
    → worker_reply (reset_device t) (history (reset_device t) with_header) (fails_within (reset_device t) with_header) ≡ replied.Done 1
no_rest_is_lost t is = rw is refl

rest_is_counted : (t : TpmParts) → response_length (reset_device t) (history (reset_device t) with_header) ≡ 12
    → call_count (reset_device t) (works (replied.Done 1) ∷ with_header) ≡ 3
rest_is_counted t is = rw is refl

no_rest_is_counted : (t : TpmParts) → response_length (reset_device t) (history (reset_device t) with_header) ≡ 10
    → call_count (reset_device t) (works (replied.Done 1) ∷ with_header) ≡ 2
no_rest_is_counted t is = rw is refl

-- the replies by which a fault ends, and one that looks like them
faults_end : (t : TpmParts) → (injected_fault_of (works (replied.Lost 1) ∷ fails_at 5 ∷ []) ≡ None) × (injected_fault_of (exchange (Deliver 1) (replied.RefusedSent reason.Link 2) ∷ fails_at 5 ∷ []) ≡ None)
    × (injected_fault_of (exchange (Deliver 1) (replied.RefusedSent reason.Busy 2) ∷ fails_at 5 ∷ []) ≡ Some 5) × (injected_fault_of (exchange Offer replied.Link ∷ fails_at 5 ∷ []) ≡ None)
    × (injected_fault_of (works (replied.Cancelled 1) ∷ fails_at 5 ∷ []) ≡ Some 5)
faults_end t = (refl, refl, refl, refl, refl)

-- ---- replies that no line may have

-- a worker that stays idle while a command waits
not_idle : (t : TpmParts) → IsReplyTo (reset_device t) (history (reset_device t) (is_started [])) none_fails (Some Work) replied.Idle → ⊥
not_idle t is = cc

-- a fault where no call is to fail
not_lost : (t : TpmParts) → IsReplyTo (reset_device t) (history (reset_device t) (works (replied.Sent 1) ∷ works (replied.Claim 1) ∷ is_started [])) none_fails (Some Work) (replied.Lost 1) → ⊥
not_lost t is = cc

-- a line outside the grammar, and a line of a move
no_reply : (t : TpmParts) (r : Reply) → IsReplyTo (reset_device t) [] none_fails None r → ⊥
no_reply t r is = is

no_move : (t : TpmParts) (r : Reply) → IsReplyTo (reset_device t) [] none_fails (Some Offer) r → ⊥
no_move t r is = is
