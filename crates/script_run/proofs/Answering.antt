-- What a driver's accesses lead a world through once a command runs: the worker executes it, and the answer is read.
use Rattle.std.proofs.Common.{◌≡◌, ◌≢◌, ℕ, ◌+◌, ◌-◌, ◌^◌, ◌<◌, ◌≤◌, false, List, [], ◌∷◌, ◌++◌, All, length, take, drop, refl, ap, sym, subst, ◌∙◌, arith, Some, inl, inr}
use Rattle.std.specs.Prelude.{slice_index, nat_lt, ◌==◌, ◌&&◌, Bool, true, if◌then◌else◌}
use Rattle.std.specs.Int.{w32, from_be_bytes}
use Rattle.std.proofs.lemmas.Bool.Decides.{nat_tests}
use Rattle.std.proofs.lemmas.Nat.{from_be_bytes-to_be_bytes_4}
use Rattle.vt_base.specs.Numbers.{number}
use Rattle.crb_regs.specs.LittleEndian.{little_endian_at}
use Rattle.crb_regs.specs.declared.phase.Phase.TheVariants.{Idle, Completion}
use Rattle.crb_port.specs.declared.job.Outcome.TheVariants.{Done}
use Rattle.tpm_core.specs.Answers.{Entry, answer}
use Rattle.tpm_core.specs.Answers.Entry.{Executed}
use Rattle.tpm_core.specs.Responses.{IsResponse}
use Rattle.crb_driver.specs.Bits.{IsSet}
use Rattle.crb_driver.specs.Bus.{Exchange, Reaches, reading, writing}
use Rattle.crb_driver.specs.Accesses.{start_accesses, poll_accesses, size_accesses, collect_accesses, finish_accesses, byte_reads, register_read}
use Rattle.crb_driver.specs.Sizes.{IsBadLength, reported}
use Rattle.tpm_frame.specs.Sizes.{IsWellSized}
use Rattle.crb_driver.specs.Calls.{RunsThen, AnswersCall, Fails, run_accesses}
use Rattle.crb_driver.specs.declared.fault.DriverFault.{DriverFault}
use Rattle.crb_driver.specs.declared.fault.DriverFault.TheVariants.{Size, NotGranted, NotReady, TimedOut, Fatal, BadResponse}
use Rattle.crb_history.specs.Snapshot.{Snapshot}
use Rattle.crb_history.specs.Bytes.{bytes_at}
use Rattle.crb_history.specs.Event.{Event, History}
use Rattle.crb_history.specs.Event.Event.{Read, Write, Claim, Sent, Exec, Finish}
use Rattle.crb_history.specs.Device.{phase_of, is_granted, is_cancel, buffer, executed, shown_byte, JobStage}
use Rattle.crb_history.specs.Device.JobStage.{Waiting, Claimed, HasSent, HasHeader}
use Rattle.vt_transcript.specs.Replies.{with_event, worker_reply_at, WorkerReplyInputs, worker_reply_inputs, has_rest}
use Rattle.vt_script.specs.declared.event.Event.TheVariants.{Work}
use Rattle.vt_script.specs.declared.reply.Reply.TheVariants as replied
use Rattle.vt_seat.specs.State.{WorldState}
use Rattle.vt_transcript.specs.Replies.{none_fails}
use Rattle.vt_world.specs.Bus.{IsBusAfter, Leads, after_turn}
use Rattle.script_run.specs.Calls.{IsAtRest, Calls}
use Rattle.crb_history.proofs.Bytes.{take-bytes_at, take-drop-bytes_at}
use Rattle.script_run.proofs.Driving.{Found, found-at, reaches-split, Stands, Runs, requested, readied, started, resting, take-all}

-- the answer to the command is in the buffer
record Answered (b : Snapshot) (past : List Entry) (command : List ℕ) (p : History) (s : WorldState) : Type 0 where
  pub after : IsBusAfter b p s
  pub phase : phase_of b p ≡ Completion
  pub done : executed b p ≡ Executed command ∷ past
  pub bytes : (i : ℕ) → buffer b p i ≡ slice_index (answer b.tpm past command) i

-- the event of the worker's step at each stage
abbrev next_event : JobStage → Event
next_event Waiting = Claim
next_event Claimed = Sent
next_event HasSent = Exec
next_event HasHeader = Finish Done

turn-event : (stage : JobStage) (x : WorkerReplyInputs) (p : History) → x.held ≡ false → x.in_time ≡ false → with_event (Some Work) (worker_reply_at stage x none_fails) none_fails p ≡ next_event stage ∷ p
turn-event Waiting x p held in_time = refl
turn-event Claimed x p held in_time = rw held refl
turn-event HasSent x p held in_time = refl
turn-event HasHeader x p held in_time = rw in_time (ends (has_rest x.size) x.number p)
  where
    ends : (rest : Bool) (n : ℕ) (p : History) → with_event (Some Work) (if rest && false then replied.Lost n else replied.Done n) none_fails p ≡ Finish Done ∷ p
    ends true n p = refl
    ends false n p = refl

-- what a poll leads to at each stage
abbrev Polled : Snapshot → List Entry → List ℕ → JobStage → History → WorldState → Type 0
Polled b past command Waiting = Runs b Claimed past command
Polled b past command Claimed = Runs b HasSent past command
Polled b past command HasSent = Runs b HasHeader past command
Polled b past command HasHeader = Answered b past command

rest-at : (b : Snapshot) (p : History) (s end : WorldState) → s ≡ end → IsBusAfter b p s → phase_of b p ≡ Idle → IsAtRest b p end
rest-at b p s end is after idle = record { after = rw (← is) after; idle = idle }

abbrev poll : ℕ → Exchange
poll value = register_read 0x4C value

module _ (b : Snapshot) (past : List Entry) (command : List ℕ) where
  -- a poll while the command runs
  polled-at : (stage : JobStage) (p : History) (s next : WorldState) (value : ℕ) → Runs b stage past command p s → Leads s (poll value).access value next → IsBusAfter b (next_event stage ∷ Read (poll value).access value ∷ p) next × (value ≡ 1)
  polled-at stage p s next value runs leads =
      let turned : after_turn b (Read (poll value).access value ∷ p) ≡ next_event stage ∷ Read (poll value).access value ∷ p = rw (runs.at.executing, runs.at.reached) (turn-event stage (worker_reply_inputs b (Read (poll value).access value ∷ p)) (Read (poll value).access value ∷ p) runs.held runs.in_time) in
      let after : IsBusAfter b (next_event stage ∷ Read (poll value).access value ∷ p) next = subst (λ (h : History). IsBusAfter b h next) turned (leads b p runs.after) in
      let shown : little_endian_at (shown_byte b p) 0x4C 4 ≡ 1 = rw runs.at.executing refl in
      (after, after.legal.0.1.1 ∙ shown)

  polled : (stage : JobStage) (p : History) (s next : WorldState) (value : ℕ) → Runs b stage past command p s → Leads s (poll value).access value next → Polled b past command stage (next_event stage ∷ Read (poll value).access value ∷ p) next × (value ≡ 1)
  polled Waiting p s next value runs leads =
      let is = polled-at Waiting p s next value runs leads in
      (record { after = is.0; at = record { executing = runs.at.executing; reached = refl }; held = runs.held; in_time = runs.in_time; last = runs.last; done = runs.done }, is.1)
  polled Claimed p s next value runs leads =
      let is = polled-at Claimed p s next value runs leads in
      (record { after = is.0; at = record { executing = runs.at.executing; reached = refl }; held = runs.held; in_time = refl; last = runs.last; done = runs.done }, is.1)
  polled HasSent p s next value runs leads =
      let is = polled-at HasSent p s next value runs leads in
      (record { after = is.0; at = record { executing = runs.at.executing; reached = refl }; held = runs.held; in_time = runs.in_time; last = runs.last; done = runs.done }, is.1)
  polled HasHeader p s next value runs leads =
      let is = polled-at HasHeader p s next value runs leads in (
        record {
          after = is.0;
          phase = rw runs.at.executing refl;
          done = rw (runs.last, runs.done) refl;
          bytes = λ i. rw (runs.last, runs.done) refl;
        },
        is.1,
      )

  -- a poll after it
  ended : (p : History) (s next : WorldState) (value : ℕ) → Answered b past command p s → Leads s (poll value).access value next → Answered b past command (Read (poll value).access value ∷ p) next × (value ≡ 0)
  ended p s next value answered leads =
      let turned : after_turn b (Read (poll value).access value ∷ p) ≡ Read (poll value).access value ∷ p = rw answered.phase refl in
      let after : IsBusAfter b (Read (poll value).access value ∷ p) next = subst (λ (h : History). IsBusAfter b h next) turned (leads b p answered.after) in
      let shown : little_endian_at (shown_byte b p) 0x4C 4 ≡ 0 = rw answered.phase refl in
      (record { after = after; phase = answered.phase; done = answered.done; bytes = answered.bytes }, after.legal.1.1 ∙ shown)

  -- another read after it
  answered-read : (p : History) (s next : WorldState) (offset size value : ℕ) → (offset == 0x4C) ≡ false → Answered b past command p s → Leads s (reading offset size value).access value next
      → Answered b past command (Read (reading offset size value).access value ∷ p) next × (value ≡ little_endian_at (shown_byte b p) offset size)
  answered-read p s next offset size value elsewhere answered leads =
      let after : IsBusAfter b (Read (reading offset size value).access value ∷ p) next = rw elsewhere at (leads b p answered.after) in
      (record { after = after; phase = answered.phase; done = answered.done; bytes = answered.bytes }, after.legal.1.1)

  -- four polls see the command run
  record FourPolls (v1 v2 v3 v4 : ℕ) (rest : List Exchange) (end : WorldState) : Type 0 where
    first : v1 ≡ 1
    second : v2 ≡ 1
    third : v3 ≡ 1
    fourth : v4 ≡ 1
    middle : WorldState
    found : Found (Answered b past command) middle
    reaches : Reaches Leads middle rest end

  four : (p : History) (s end : WorldState) (v1 v2 v3 v4 : ℕ) (rest : List Exchange) → Runs b Waiting past command p s → Reaches Leads s (poll v1 ∷ poll v2 ∷ poll v3 ∷ poll v4 ∷ rest) end → FourPolls v1 v2 v3 v4 rest end
  four p s end v1 v2 v3 v4 rest runs r =
      let one = polled Waiting p s r.0 v1 runs r.1 in
      let two = polled Claimed _ r.0 r.2.0 v2 one.0 r.2.1 in
      let three = polled HasSent _ r.2.0 r.2.2.0 v3 two.0 r.2.2.1 in
      let last = polled HasHeader _ r.2.2.0 r.2.2.2.0 v4 three.0 r.2.2.2.1 in
      record { first = one.1; second = two.1; third = three.1; fourth = last.1; middle = r.2.2.2.0; found = record { history = _; holds = last.0 }; reaches = r.2.2.2.2 }

  not_yet : {A : Type 0} (v : ℕ) → v ≡ 0 → v ≡ 1 → A
  not_yet v none e = absurd (omega arith)

  -- so START is 0 at the fifth poll, and not before
  waited : (busy : List ℕ) (p : History) (s end : WorldState) → All (λ v. v ≢ 0) busy → Runs b Waiting past command p s → Reaches Leads s (poll_accesses (busy ++ 0 ∷ [])) end → Found (Answered b past command) end
  waited [] p s end all runs r = not_yet 0 refl (polled Waiting p s r.0 0 runs r.1).1
  waited (v1 ∷ []) p s end all runs r =
      let one = polled Waiting p s r.0 v1 runs r.1 in
      not_yet 0 refl (polled Claimed _ r.0 r.2.0 0 one.0 r.2.1).1
  waited (v1 ∷ v2 ∷ []) p s end all runs r =
      let one = polled Waiting p s r.0 v1 runs r.1 in
      let two = polled Claimed _ r.0 r.2.0 v2 one.0 r.2.1 in
      not_yet 0 refl (polled HasSent _ r.2.0 r.2.2.0 0 two.0 r.2.2.1).1
  waited (v1 ∷ v2 ∷ v3 ∷ []) p s end all runs r = not_yet 0 refl (four p s end v1 v2 v3 0 [] runs r).fourth
  waited (v1 ∷ v2 ∷ v3 ∷ v4 ∷ []) p s end all runs r =
      let is = four p s end v1 v2 v3 v4 (poll 0 ∷ []) runs r in
      found-at (Answered b past command) (Read (poll 0).access 0 ∷ is.found.history) is.reaches.0 end is.reaches.2 (ended is.found.history is.middle is.reaches.0 0 is.found.holds is.reaches.1).0
  waited (v1 ∷ v2 ∷ v3 ∷ v4 ∷ v5 ∷ more) p s end all runs r =
      let is = four p s end v1 v2 v3 v4 (poll_accesses (v5 ∷ more ++ 0 ∷ [])) runs r in
      absurd (all 4 0 (omega arith) (ended is.found.history is.middle is.reaches.0 v5 is.found.holds is.reaches.1).1)

  -- five polls or more don't all see it run
  not_late : (busy : List ℕ) (p : History) (s end : WorldState) → 5 ≤ length busy → All (λ v. v ≢ 0) busy → Runs b Waiting past command p s → Reaches Leads s (poll_accesses busy) end → ⊥
  not_late (v1 ∷ v2 ∷ v3 ∷ v4 ∷ v5 ∷ more) p s end many all runs r =
      let is = four p s end v1 v2 v3 v4 (poll_accesses (v5 ∷ more)) runs r in
      all 4 0 (omega arith) (ended is.found.history is.middle is.reaches.0 v5 is.found.holds is.reaches.1).1
  not_late [] p s end many all runs r = omega arith
  not_late (v1 ∷ []) p s end many all runs r = omega arith
  not_late (v1 ∷ v2 ∷ []) p s end many all runs r = omega arith
  not_late (v1 ∷ v2 ∷ v3 ∷ []) p s end many all runs r = omega arith
  not_late (v1 ∷ v2 ∷ v3 ∷ v4 ∷ []) p s end many all runs r = omega arith

  -- a byte of the buffer as it reads
  byte-shown : (p : History) (offset k value : ℕ) → offset ≡ 0x80 + k → phase_of b p ≡ Completion → value ≡ little_endian_at (shown_byte b p) offset 1 → value ≡ buffer b p k
  byte-shown p offset k value from phase is =
      let below : nat_lt offset 0x80 ≡ false = grind (arith, nat_tests) in
      let place : offset - 0x80 ≡ k = omega arith in
      is ∙ rw (below, phase, place) (omega arith)

  elsewhere : (offset : ℕ) → 0x80 ≤ offset → (offset == 0x4C) ≡ false
  elsewhere offset from = grind (arith, nat_tests)

  -- bytes that are read one after the other are bytes of the answer
  bytes-read : (bytes : List ℕ) (p : History) (s end : WorldState) (offset k : ℕ) → offset ≡ 0x80 + k → Answered b past command p s → Reaches Leads s (byte_reads offset bytes) end
      → Found (Answered b past command) end × (bytes ≡ bytes_at (slice_index (answer b.tpm past command)) k (length bytes))
  bytes-read [] p s end offset k from answered r = (found-at (Answered b past command) p s end r answered, refl)
  bytes-read (byte ∷ bytes) p s end offset k from answered r =
      let one = answered-read p s r.0 offset 1 byte (elsewhere offset (omega arith)) answered r.1 in
      let is : byte ≡ slice_index (answer b.tpm past command) k = byte-shown p offset k byte from answered.phase one.1 ∙ answered.bytes k in
      let rest = bytes-read bytes (Read (reading offset 1 byte).access byte ∷ p) r.0 end (offset + 1) (k + 1) (omega arith) one.0 r.2 in
      (rest.0, ap (λ x. x ∷ bytes) is ∙ ap (λ xs. slice_index (answer b.tpm past command) k ∷ xs) rest.1)

  -- the size field names the answer's length
  sized : (p : History) (s end : WorldState) (ctrl_sts n : ℕ) → n < 2 ^ 32 → IsResponse (answer b.tpm past command) → Answered b past command p s → Reaches Leads s (size_accesses ctrl_sts (number n)) end
      → Found (Answered b past command) end × (ctrl_sts ≡ 0) × (n ≡ length (answer b.tpm past command))
  sized p s end ctrl_sts n small response answered r =
      let one = answered-read p s r.0 0x44 4 ctrl_sts refl answered r.1 in
      let shown : little_endian_at (shown_byte b p) 0x44 4 ≡ 0 = rw answered.phase refl in
      let rest = bytes-read (number n) (Read (register_read 0x44 ctrl_sts).access ctrl_sts ∷ p) r.0 end 0x82 2 refl one.0 r.2 in
      let field : take 4 (drop 2 (answer b.tpm past command)) ≡ bytes_at (slice_index (answer b.tpm past command)) 2 4 = take-drop-bytes_at (answer b.tpm past command) 2 4 (omega (arith, response.head)) in
      let same : number n ≡ take 4 (drop 2 (answer b.tpm past command)) = rest.1 ∙ sym field in
      (rest.0, one.1 ∙ shown, sym (from_be_bytes-to_be_bytes_4 n small) ∙ ap (from_be_bytes w32) same ∙ response.size)

  -- the response was read, and the interface is given back
  collected : (p : History) (s end : WorldState) (bytes : List ℕ) → length bytes ≡ length (answer b.tpm past command) → Answered b past command p s → Reaches Leads s (collect_accesses bytes) end
      → (bytes ≡ answer b.tpm past command) × (q : History) × IsAtRest b q end × (executed b q ≡ Executed command ∷ past)
  collected p s end bytes whole answered reaches =
      let parts = reaches-split Leads s end (byte_reads 0x80 bytes) (writing 0x40 4 2 ∷ writing 8 4 2 ∷ []) reaches in
      let read = bytes-read bytes p s parts.0 0x80 0 refl answered parts.1 in
      let r = parts.2 in
      let is : bytes ≡ answer b.tpm past command = read.1 ∙ ap (bytes_at (slice_index (answer b.tpm past command)) 0) whole ∙ sym (take-bytes_at (answer b.tpm past command) (length (answer b.tpm past command)) (omega arith)) ∙ take-all (answer b.tpm past command) in
      let q : History = read.0.history in
      let after = r.2.1 b (Write (writing 0x40 4 2).access ∷ q) (r.1 b q read.0.holds.after) in (
        is,
        Write (writing 8 4 2).access ∷ Write (writing 0x40 4 2).access ∷ q,
        rest-at b (Write (writing 8 4 2).access ∷ Write (writing 0x40 4 2).access ∷ q) r.2.0 end r.2.2 after (rw read.0.holds.phase refl),
        read.0.holds.done,
      )

-- no command is prepared, so one may begin
resting-stands : (b : Snapshot) (p : History) (s : WorldState) → IsAtRest b p s → Stands b (resting b p) p s
resting-stands b p s rest = record { after = rest.after; says = record { phase = rest.idle; granted = refl; cancel = refl; past = refl } }

module _ (b : Snapshot) (p : History) (s : WorldState) (command : List ℕ) (sized_well : IsWellSized command) (small : (i : ℕ) → slice_index command i < 256) (rest : IsAtRest b p s) where
  -- the command ran, and then these accesses were made
  ran : (new : WorldState) (polls : ℕ) (end : List Exchange) → RunsThen Leads s command polls end new → (middle : WorldState) × Found (Answered b (executed b p) command) middle × Reaches Leads middle end new
  ran new polls end runs =
      let seen = runs.seen in
      let last = reaches-split Leads s new (run_accesses command seen) end runs.reaches in
      let parts = reaches-split Leads s last.0 (start_accesses command seen.loc_sts seen.ctrl_sts) (poll_accesses (seen.busy ++ 0 ∷ [])) last.1 in
      let begun = started b p s parts.0 (is_granted b p) (is_cancel b p) (executed b p) command seen.loc_sts seen.ctrl_sts sized_well small (resting-stands b p s rest) parts.1 in
      (last.0, waited b (executed b p) command seen.busy begun.history parts.0 last.0 runs.waiting.busy begun.holds parts.2, last.2)

  -- a call that answers read the answer
  pub called : (new : WorldState) (polls : ℕ) (bytes : List ℕ) → length bytes ≤ 3968 → IsResponse (answer b.tpm (executed b p) command) → AnswersCall Leads s command polls bytes new → Calls b p command bytes new
  called new polls bytes short response answers =
      let last = ran new polls (finish_accesses answers.ctrl_sts (number (length bytes)) bytes) answers.runs in
      let parts = reaches-split Leads last.0 new (size_accesses answers.ctrl_sts (number (length bytes))) (collect_accesses bytes) last.2 in
      let size = sized b (executed b p) command last.1.history last.0 parts.0 answers.ctrl_sts (length bytes) (omega arith) response last.1.holds parts.1 in
      let end = collected b (executed b p) command size.0.history parts.0 new bytes size.2 size.0.holds parts.2 in
      record { answered = end.0; history = end.1; rest = end.2; past = end.3 }

  not_set : (n mask : ℕ) → n ≡ 0 → IsSet mask n → ⊥
  not_set n mask is set = (rw is at set) refl

  -- and none fails
  pub not_failed : (new : WorldState) (polls room : ℕ) (fault : DriverFault) → 5 ≤ polls → 3968 ≤ room → IsResponse (answer b.tpm (executed b p) command) → ((n : ℕ) → fault ≡ BadResponse n → n < 2 ^ 32) → (fault ≡ Size (reported (length command)) → ⊥) → Fails Leads s command polls room fault new → ⊥
  not_failed new polls room (Size n) enough ample response narrow well fails = well (ap Size fails.0)
  not_failed new polls room (NotGranted n) enough ample response narrow well fails =
      let granted : n ≡ 1 = (requested b p s new (is_granted b p) (is_cancel b p) (executed b p) n (resting-stands b p s rest) fails.1).1 in
      let clear = rw granted at fails.0 in
      omega (arith, clear)
  not_failed new polls room (NotReady n) enough ample response narrow well fails =
      not_set n 2 (readied b p s new (is_granted b p) (is_cancel b p) (executed b p) fails.loc_sts n (resting-stands b p s rest) fails.reaches).1 fails.idle
  not_failed new polls room (TimedOut n) enough ample response narrow well fails =
      let seen = fails.1.seen in
      let parts = reaches-split Leads s new (start_accesses command seen.loc_sts seen.ctrl_sts) (poll_accesses seen.busy) fails.1.reaches in
      let begun = started b p s parts.0 (is_granted b p) (is_cancel b p) (executed b p) command seen.loc_sts seen.ctrl_sts sized_well small (resting-stands b p s rest) parts.1 in
      not_late b (executed b p) command seen.busy begun.history parts.0 new (omega (arith, fails.1.every)) fails.1.waiting.busy begun.holds parts.2
  not_failed new polls room (Fatal n) enough ample response narrow well fails =
      let last = ran new polls (register_read 0x44 n ∷ []) fails.1 in
      let one = answered-read b (executed b p) command last.1.history last.0 last.2.0 0x44 4 n refl last.1.holds last.2.1 in
      let shown : little_endian_at (shown_byte b last.1.history) 0x44 4 ≡ 0 = rw last.1.holds.phase refl in
      not_set n 1 (one.1 ∙ shown) fails.0
  not_failed new polls room (BadResponse n) enough ample response narrow well fails =
      let last = ran new polls (size_accesses fails.ctrl_sts (number n)) fails.runs in
      let size = sized b (executed b p) command last.1.history last.0 new fails.ctrl_sts n (narrow n refl) response last.1.holds last.2 in
      not_bad n (answer b.tpm (executed b p) command) size.2 response.head response.room ample fails.bad
    where
      not_bad : (n : ℕ) (xs : List ℕ) → n ≡ length xs → 10 ≤ length xs → length xs ≤ 3968 → 3968 ≤ room → IsBadLength room n → ⊥
      not_bad n xs is least most ample (inl within_limit) = omega arith
      not_bad n xs is least most ample (inr (inl many)) = omega arith
      not_bad n xs is least most ample (inr (inr many)) = omega arith
