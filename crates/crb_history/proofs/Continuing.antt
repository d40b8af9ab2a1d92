-- A history that goes on from the values at its end agrees with the whole one.
use Rattle.std.proofs.Common.{◌≡◌, ℕ, zero, suc, ◌+◌, ◌-◌, ◌%◌, ◌^◌, ◌<◌, Bool, true, false, ◌&&◌, ◌||◌, List, [], ◌∷◌, ◌++◌, refl, ap, sym, ◌∙◌, arith, cond}
use Rattle.std.specs.Prelude.{slice_index, nat_lt, if◌then◌else◌}
use Rattle.crb_regs.specs.Access.{Access}
use Rattle.crb_regs.specs.Registers.{register_byte, is_executing}
use Rattle.crb_regs.specs.declared.registers.Regs.{Regs}
use Rattle.crb_regs.specs.declared.phase.Phase.{Phase}
use Rattle.crb_regs.specs.declared.phase.Phase.TheVariants.{Idle, Ready, Reception, Execution, Completion, Lost}
use Rattle.crb_regs.specs.declared.effect.Effect.{Effect}
use Rattle.crb_regs.specs.declared.effect.Effect.TheVariants.{Buffer, CmdReady, GoIdle, Start, Cancel, Request, Relinquish, Nothing}
use Rattle.crb_machine.specs.Phases.{is_accepted, phase_after}
use Rattle.crb_machine.specs.Steps.{buffer_byte, is_start}
use Rattle.crb_port.specs.declared.job.Outcome.{Outcome}
use Rattle.crb_port.specs.declared.job.Outcome.TheVariants.{Done, Cancelled, Lost as EndedLost}
use Rattle.tpm_core.specs.Answers.{Entry, answer}
use Rattle.tpm_core.specs.Answers.Entry.{Executed, PowerOn}
use Rattle.crb_history.specs.Bytes.{bytes_at, command_in}
use Rattle.crb_history.specs.Snapshot.{Snapshot}
use Rattle.crb_history.specs.Event.{Event, History}
use Rattle.crb_history.specs.Event.Event.{Read, Write, Claim, Sent, Exec, Finish, Ask, Reset, ResetLost}
use Rattle.crb_history.specs.Device.{JobStage, effect_of, phase_of, is_granted, is_cancel, registers_of, number_of, latest_number, started, latest_command, buffer, last_command, executed, stage_of, accepts, starts, byte_after, shown_byte, phase_at_end}
use Rattle.crb_history.specs.Device.JobStage.{Waiting}
use Rattle.crb_history.specs.Cancelling.{cancel_requested, sets_cancel, cancelled_before_claim, cancelled_in_emulator, is_sent}
use Rattle.crb_history.specs.Legal.{Legal, IsEnabled}
use Rattle.crb_history.specs.Continued.{snapshot_after, content_after, MaySuspend}
use Rattle.crb_history.proofs.Bytes.{number_at-same, command_in-same}
use Rattle.crb_history.proofs.Phases.{executing-phase_after}
use Rattle.crb_history.proofs.CancelledBeforeClaim.{held-asked}

-- what the TPM went through before doesn't distinguish two pasts
abbrev pub Joins : Snapshot → List Entry → Snapshot → Type 0
Joins b sooner c = (later : List Entry) (command : List ℕ) → answer b.tpm (later ++ sooner) command ≡ answer c.tpm later command

-- Two histories, each from its own values, that nothing distinguishes from now on. The first has a past before the other's.
pub record Agrees (b : Snapshot) (p : History) (sooner : List Entry) (c : Snapshot) (q : History) : Type 0 where
  pub registers : registers_of b p ≡ registers_of c q
  pub number : number_of b p ≡ number_of c q
  pub bytes : (i : ℕ) → i < 3968 → buffer b p i ≡ buffer c q i
  pub command : phase_of b p ≡ Execution → last_command b p ≡ last_command c q
  pub stage : phase_of b p ≡ Execution → stage_of b p ≡ stage_of c q
  pub asked : phase_of b p ≡ Execution → cancel_requested c q ≡ true → cancel_requested b p ≡ true
  pub past : executed b p ≡ executed c q ++ sooner
  pub held : phase_of b p ≡ Execution → cancelled_before_claim b p ≡ cancelled_before_claim c q
  pub in_time : phase_of b p ≡ Execution → cancelled_in_emulator b p ≡ cancelled_in_emulator c q

pub phase_is : (b : Snapshot) (p : History) (c : Snapshot) (q : History) → registers_of b p ≡ registers_of c q → phase_of b p ≡ phase_of c q
phase_is b p c q same = ap (λ (r : Regs). r.phase) same

granted_is : (b : Snapshot) (p : History) (c : Snapshot) (q : History) → registers_of b p ≡ registers_of c q → is_granted b p ≡ is_granted c q
granted_is b p c q same = ap (λ (r : Regs). r.granted) same

cancel_is : (b : Snapshot) (p : History) (c : Snapshot) (q : History) → registers_of b p ≡ registers_of c q → is_cancel b p ≡ is_cancel c q
cancel_is b p c q same = ap (λ (r : Regs). r.cancel) same

-- ---- the command that is under way stands in the buffer

not_executing : (phase : Phase) → is_executing phase ≡ false → phase ≡ Execution → ⊥
not_executing phase still is = let wrong : is_executing Execution ≡ false = rw is at still in cc

executing_or_not : (phase : Phase) (P : Type 0) → (phase ≡ Execution → P) → (is_executing phase ≡ false → P) → P
executing_or_not Execution P yes_it not_it = yes_it refl
executing_or_not Idle P yes_it not_it = not_it refl
executing_or_not Ready P yes_it not_it = not_it refl
executing_or_not Reception P yes_it not_it = not_it refl
executing_or_not Completion P yes_it not_it = not_it refl
executing_or_not Lost P yes_it not_it = not_it refl

-- the phase before a write that leaves a command under way and doesn't start it
was_executing : (e : Effect) (granted : Bool) (phase : Phase) → phase_after e granted phase ≡ Execution → (is_start e && is_accepted e granted phase) ≡ false → phase ≡ Execution
was_executing e granted phase after none =
    executing_or_not phase (phase ≡ Execution) (λ is. is)
    (λ still. absurd (not_executing (phase_after e granted phase) (executing-phase_after e granted phase still ∙ none) after))

left_true : (x y : Bool) → (x && y) ≡ true → x ≡ true
left_true true y h = refl
left_true false y h = h

either_way : {A : Type 0} (test : Bool) (x : A) → cond test x x ≡ x
either_way true x = refl
either_way false x = refl

-- a start leaves the buffer as it is
byte_at_start : (e : Effect) (a : Access) (i was : ℕ) (accepted : Bool) → is_start e ≡ true → cond accepted (byte_after e a i was) was ≡ was
byte_at_start Start a i was accepted h = either_way accepted was
byte_at_start Buffer a i was accepted h = cc
byte_at_start CmdReady a i was accepted h = cc
byte_at_start GoIdle a i was accepted h = cc
byte_at_start (Cancel v) a i was accepted h = cc
byte_at_start Request a i was accepted h = cc
byte_at_start Relinquish a i was accepted h = cc
byte_at_start Nothing a i was accepted h = cc

-- while a command is executed no write sets a byte
pub byte_while_executing : (e : Effect) (granted : Bool) (a : Access) (i was : ℕ) → cond (is_accepted e granted Execution) (byte_after e a i was) was ≡ was
byte_while_executing Buffer granted a i was = refl
byte_while_executing CmdReady granted a i was = refl
byte_while_executing GoIdle granted a i was = refl
byte_while_executing Start granted a i was = either_way _ was
byte_while_executing (Cancel v) granted a i was = refl
byte_while_executing Request granted a i was = refl
byte_while_executing Relinquish granted a i was = refl
byte_while_executing Nothing granted a i was = refl

ended : (outcome : Outcome) (phase : Phase) → phase_at_end outcome phase ≡ Execution → ⊥
ended Done Execution h = cc
ended Done Idle h = cc
ended Done Ready h = cc
ended Done Reception h = cc
ended Done Completion h = cc
ended Done Lost h = cc
ended Cancelled Execution h = cc
ended Cancelled Idle h = cc
ended Cancelled Ready h = cc
ended Cancelled Reception h = cc
ended Cancelled Completion h = cc
ended Cancelled Lost h = cc
ended EndedLost Execution h = cc
ended EndedLost Idle h = cc
ended EndedLost Ready h = cc
ended EndedLost Reception h = cc
ended EndedLost Completion h = cc
ended EndedLost Lost h = cc

not_idle : Idle ≡ Execution → ⊥
not_idle is = cc

not_lost : Lost ≡ Execution → ⊥
not_lost is = cc

pub executing-command : (b : Snapshot) (h : History) → phase_of b h ≡ Execution → last_command b h ≡ command_in (buffer b h)
executing-command b [] is = go (is_executing b.device.phase) (ap is_executing is)
  where
    go : (test : Bool) → test ≡ true → latest_command (if test then record { number = b.device.number; command = command_in (slice_index b.device.content) } ∷ [] else []) ≡ command_in (slice_index b.device.content)
    go true so = refl
    go false so = cc
executing-command b (Write a ∷ p) is = go (starts b p a) refl (executing-command b p)
  where
    go : (test : Bool) → starts b p a ≡ test → (phase_of b p ≡ Execution → last_command b p ≡ command_in (buffer b p))
        → latest_command (if test then record { number = (number_of b p + 1) % 2 ^ 64; command = command_in (buffer b p) } ∷ started b p else started b p) ≡ command_in (buffer b (Write a ∷ p))
    go true begins before = command_in-same (buffer b p) (buffer b (Write a ∷ p)) (λ i lt. sym (byte_at_start (effect_of a) a i (buffer b p i) (accepts b p a) (left_true _ _ begins)))
    go false other before =
        let was : phase_of b p ≡ Execution = was_executing (effect_of a) (is_granted b p) (phase_of b p) is other in
        before was ∙ command_in-same (buffer b p) (buffer b (Write a ∷ p)) (λ i lt. sym (rw was (byte_while_executing (effect_of a) (is_granted b p) a i (buffer b p i))))
executing-command b (Read a v ∷ p) is = executing-command b p is
executing-command b (Claim ∷ p) is = executing-command b p is
executing-command b (Sent ∷ p) is = executing-command b p is
executing-command b (Exec ∷ p) is = executing-command b p is
executing-command b (Ask arrived ∷ p) is = executing-command b p is
executing-command b (Finish outcome ∷ p) is = absurd (ended outcome (phase_of b p) is)
executing-command b (Reset ∷ p) is = cc
executing-command b (ResetLost ∷ p) is = cc

-- ---- the values at the end

slice_index-bytes_at : (f : ℕ → ℕ) (at n i : ℕ) → i < n → slice_index (bytes_at f at n) i ≡ f (at + i)
slice_index-bytes_at f at zero i lt = absurd (omega arith)
slice_index-bytes_at f at (suc n) zero lt = let e : at + 0 ≡ at = omega arith in rw e refl
slice_index-bytes_at f at (suc n) (suc i) lt =
    let e : at + suc i ≡ at + 1 + i = omega arith in rw e (slice_index-bytes_at f (at + 1) n i (omega arith))

pub content-byte : (b : Snapshot) (h : History) (i : ℕ) → i < 3968 → slice_index (content_after b h) i ≡ buffer b h i
unfolding content_after
content-byte b h i lt = let e : 0 + i ≡ i = omega arith in slice_index-bytes_at (buffer b h) 0 3968 i lt ∙ ap (buffer b h) e

-- the command that waits at the beginning is the one in the buffer
pub waiting-command : (executing : Bool) (number : ℕ) (command : List ℕ) → executing ≡ true → latest_command (if executing then record { number = number; command = command } ∷ [] else []) ≡ command
waiting-command true number command is = refl
waiting-command false number command is = cc

pub waiting-number : (executing : Bool) (number : ℕ) (command : List ℕ) → latest_number number (if executing then record { number = number; command = command } ∷ [] else []) ≡ number
waiting-number true number command = refl
waiting-number false number command = refl

right_true : (x y : Bool) → (x && y) ≡ true → y ≡ true
right_true true y h = h
right_true false y h = cc

-- a cancel beside the registers counts only once the command was sent
not_in_time : (b : Snapshot) (h : History) → phase_of b h ≡ Execution → stage_of b h ≡ Waiting → cancelled_in_emulator b h ≡ false
not_in_time b [] is waits = refl
not_in_time b (Write a ∷ p) is waits = go (starts b p a) refl waits (not_in_time b p)
  where
    go : (test : Bool) → starts b p a ≡ test → cond test Waiting (stage_of b p) ≡ Waiting → (phase_of b p ≡ Execution → stage_of b p ≡ Waiting → cancelled_in_emulator b p ≡ false) → cond test false (cancelled_in_emulator b p) ≡ false
    go true begins waits_now before = refl
    go false other waits_now before = before (was_executing (effect_of a) (is_granted b p) (phase_of b p) is other) waits_now
not_in_time b (Read a v ∷ p) is waits = not_in_time b p is waits
not_in_time b (Claim ∷ p) is waits = cc
not_in_time b (Sent ∷ p) is waits = refl
not_in_time b (Exec ∷ p) is waits = cc
not_in_time b (Ask arrived ∷ p) is waits = go (cancelled_in_emulator b p) arrived (stage_of b p) (not_in_time b p is waits) waits
  where
    go : (before came : Bool) (stage : JobStage) → before ≡ false → stage ≡ Waiting → (before || (came && is_sent stage)) ≡ false
    go before true stage none here = rw (none, here) refl
    go before false stage none here = rw none refl
not_in_time b (Finish outcome ∷ p) is waits = absurd (ended outcome (phase_of b p) is)
not_in_time b (Reset ∷ p) is waits = cc
not_in_time b (ResetLost ∷ p) is waits = cc

agrees-start : (b : Snapshot) (h : History) → MaySuspend b h → Agrees b h (executed b h) (snapshot_after b h) []
agrees-start b h may = record {
  registers = refl;
  number = sym (waiting-number (is_executing (phase_of b h)) (number_of b h) (command_in (slice_index (content_after b h))));
  bytes = λ i lt. sym (content-byte b h i lt);
  command = λ is.
      executing-command b h is ∙ command_in-same (buffer b h) (slice_index (content_after b h)) (λ i lt. sym (content-byte b h i lt))
      ∙ sym (waiting-command (is_executing (phase_of b h)) (number_of b h) (command_in (slice_index (content_after b h))) (ap is_executing is));
  stage = λ is. may.unclaimed is;
  asked = λ is held. held-asked b h (right_true _ _ held);
  past = refl;
  held = λ is. ap (λ (phase : Phase). is_executing phase && cancelled_before_claim b h) (sym is);
  in_time = λ is. not_in_time b h is (may.unclaimed is);
}

-- ---- one more event

-- the byte of the page is the same
shows-same : (b : Snapshot) (p : History) (sooner : List Entry) (c : Snapshot) (q : History) → Agrees b p sooner c q → (i : ℕ) → i < 0x1000 → shown_byte c q i ≡ shown_byte b p i
shows-same b p sooner c q a i lt = go (nat_lt i 0x80)
  where
    byte : buffer b p (i - 0x80) ≡ buffer c q (i - 0x80)
    byte = a.bytes (i - 0x80) (omega arith)

    phase : phase_of b p ≡ phase_of c q
    phase = phase_is b p c q a.registers

    go : (test : Bool) → cond test (register_byte (registers_of c q) i) (buffer_byte (phase_of c q) (buffer c q (i - 0x80))) ≡ cond test (register_byte (registers_of b p) i) (buffer_byte (phase_of b p) (buffer b p (i - 0x80)))
    go true = ap (λ r. register_byte r i) (sym a.registers)
    go false = rw (phase, byte) refl

pub cond_same : {A : Type 0} (t u : Bool) (x y v w : A) → u ≡ t → (t ≡ true → x ≡ v) → (t ≡ false → y ≡ w) → cond t x y ≡ cond u v w
cond_same true u x y v w same so other = rw same (so refl)
cond_same false u x y v w same so other = rw same (other refl)

cond_implies : (t u x y v w : Bool) → u ≡ t → (v ≡ true → x ≡ true) → (t ≡ false → w ≡ true → y ≡ true) → cond u v w ≡ true → cond t x y ≡ true
cond_implies true u x y v w same so other h = so (rw same at h)
cond_implies false u x y v w same so other h = other refl (rw same at h)

or_implies : (x y r s : Bool) → s ≡ r → (y ≡ true → x ≡ true) → (y || s) ≡ true → (x || r) ≡ true
or_implies true y r s same more h = refl
or_implies false true r s same more h = absurd (wrong (more refl))
  where
    wrong : false ≡ true → ⊥
    wrong e = cc
or_implies false false r s same more h = sym same ∙ h

-- the latest command and number, by whether one was started
latest_by : (t u : Bool) (number other : ℕ) (command wanted : List ℕ) (b c : Snapshot) (p q : History) → u ≡ t → (t ≡ true → command ≡ wanted) → (t ≡ false → last_command b p ≡ last_command c q)
    → latest_command (if t then record { number = number; command = command } ∷ started b p else started b p) ≡ latest_command (if u then record { number = other; command = wanted } ∷ started c q else started c q)
latest_by true u number other command wanted b c p q same so not_so = rw same (so refl)
latest_by false u number other command wanted b c p q same so not_so = rw same (not_so refl)

number_by : (t u : Bool) (number other : ℕ) (command wanted : List ℕ) (b c : Snapshot) (p q : History) → u ≡ t → number ≡ other → number_of b p ≡ number_of c q
    → latest_number b.device.number (if t then record { number = number; command = command } ∷ started b p else started b p) ≡ latest_number c.device.number (if u then record { number = other; command = wanted } ∷ started c q else started c q)
number_by true u number other command wanted b c p q same so not_so = rw same so
number_by false u number other command wanted b c p q same so not_so = rw same not_so

-- one more write
agrees-write : (b : Snapshot) (p : History) (sooner : List Entry) (c : Snapshot) (q : History) (a : Access) → Agrees b p sooner c q → Agrees b (Write a ∷ p) sooner c (Write a ∷ q)
agrees-write b p sooner c q a g =
    let phase : phase_of b p ≡ phase_of c q = phase_is b p c q g.registers in
    let granted : is_granted b p ≡ is_granted c q = granted_is b p c q g.registers in
    let cancel : is_cancel b p ≡ is_cancel c q = cancel_is b p c q g.registers in
    let begins : starts c q a ≡ starts b p a = rw (granted, phase) refl in
    record {
      registers = rw (granted, phase, cancel) refl;
      number = number_by (starts b p a) (starts c q a) _ _ (command_in (buffer b p)) (command_in (buffer c q)) b c p q begins (rw g.number refl) g.number;
      bytes = λ i lt. let byte = g.bytes i lt in rw (granted, phase, byte) refl;
      command = λ is. latest_by (starts b p a) (starts c q a) _ _ (command_in (buffer b p)) (command_in (buffer c q)) b c p q begins
          (λ so. command_in-same (buffer b p) (buffer c q) g.bytes)
          (λ other. g.command (was_executing (effect_of a) (is_granted b p) (phase_of b p) is other));
      stage = λ is. cond_same (starts b p a) (starts c q a) Waiting (stage_of b p) Waiting (stage_of c q) begins
          (λ so. refl)
          (λ other. g.stage (was_executing (effect_of a) (is_granted b p) (phase_of b p) is other));
      asked = λ is. cond_implies (starts b p a) (starts c q a) (is_cancel b p) _ (is_cancel c q) _ begins
          (λ h. cancel ∙ h)
          (λ other h. or_implies (cancel_requested b p) (cancel_requested c q) (sets_cancel (effect_of a) && accepts b p a) (sets_cancel (effect_of a) && accepts c q a) (rw (granted, phase) refl) (g.asked (was_executing (effect_of a) (is_granted b p) (phase_of b p) is other)) h);
      past = g.past;
      held = λ is. cond_same (starts b p a) (starts c q a) (is_cancel b p) _ (is_cancel c q) _ begins
          (λ so. cancel)
          (λ other.
          let was : phase_of b p ≡ Execution = was_executing (effect_of a) (is_granted b p) (phase_of b p) is other in
          let kept = g.held was in
          let reached = g.stage was in
          rw (granted, phase, kept, reached) refl);
      in_time = λ is. cond_same (starts b p a) (starts c q a) false (cancelled_in_emulator b p) false (cancelled_in_emulator c q) begins
          (λ so. refl)
          (λ other. g.in_time (was_executing (effect_of a) (is_granted b p) (phase_of b p) is other));
    }

-- the end of a command as done
agrees-done : (b : Snapshot) (p : History) (sooner : List Entry) (c : Snapshot) (q : History) → Joins b sooner c → Agrees b p sooner c q → phase_of b p ≡ Execution → Agrees b (Finish Done ∷ p) sooner c (Finish Done ∷ q)
agrees-done b p sooner c q joins g is =
    let phase : phase_of b p ≡ phase_of c q = phase_is b p c q g.registers in
    let granted : is_granted b p ≡ is_granted c q = granted_is b p c q g.registers in
    let cancel : is_cancel b p ≡ is_cancel c q = cancel_is b p c q g.registers in
    let command : last_command b p ≡ last_command c q = g.command is in
    let response : answer b.tpm (executed b p) (last_command b p) ≡ answer c.tpm (executed c q) (last_command c q) =
    ap (λ past. answer b.tpm past (last_command b p)) g.past ∙ joins (executed c q) (last_command b p) ∙ ap (λ x. answer c.tpm (executed c q) x) command in
    record {
      registers = rw (granted, phase, cancel) refl;
      number = g.number;
      bytes = λ i lt. ap (λ x. slice_index x i) response;
      command = λ e. absurd (ended Done (phase_of b p) e);
      stage = λ e. absurd (ended Done (phase_of b p) e);
      asked = λ e. absurd (ended Done (phase_of b p) e);
      held = λ e. absurd (ended Done (phase_of b p) e);
      in_time = λ e. absurd (ended Done (phase_of b p) e);
      past = ap (λ x. Executed x ∷ executed b p) command ∙ ap (λ past. Executed (last_command c q) ∷ past) g.past;
    }

-- the end of a command that isn't executed
agrees-end : (b : Snapshot) (p : History) (sooner : List Entry) (c : Snapshot) (q : History) (outcome : Outcome) → Agrees b p sooner c q
    → ((i : ℕ) → i < 3968 → buffer b (Finish outcome ∷ p) i ≡ buffer c (Finish outcome ∷ q) i)
    → executed b (Finish outcome ∷ p) ≡ executed c (Finish outcome ∷ q) ++ sooner
    → Agrees b (Finish outcome ∷ p) sooner c (Finish outcome ∷ q)
agrees-end b p sooner c q outcome g bytes past =
    let phase : phase_of b p ≡ phase_of c q = phase_is b p c q g.registers in
    let granted : is_granted b p ≡ is_granted c q = granted_is b p c q g.registers in
    let cancel : is_cancel b p ≡ is_cancel c q = cancel_is b p c q g.registers in
    record {
      registers = rw (granted, phase, cancel) refl;
      number = g.number;
      bytes = bytes;
      command = λ e. absurd (ended outcome (phase_of b p) e);
      stage = λ e. absurd (ended outcome (phase_of b p) e);
      asked = λ e. absurd (ended outcome (phase_of b p) e);
      held = λ e. absurd (ended outcome (phase_of b p) e);
      in_time = λ e. absurd (ended outcome (phase_of b p) e);
      past = past;
    }

-- one more event
agrees-more : (b : Snapshot) (p : History) (sooner : List Entry) (c : Snapshot) (q : History) (e : Event) → Joins b sooner c → Agrees b p sooner c q → IsEnabled c q e → Agrees b (e ∷ p) sooner c (e ∷ q)
agrees-more b p sooner c q (Write a) joins g may = agrees-write b p sooner c q a g
agrees-more b p sooner c q (Read access value) joins g may = record { registers = g.registers; number = g.number; bytes = g.bytes; command = g.command; stage = g.stage; asked = g.asked; past = g.past; held = g.held; in_time = g.in_time }
agrees-more b p sooner c q Claim joins g may = record { registers = g.registers; number = g.number; bytes = g.bytes; command = g.command; stage = λ is. refl; asked = g.asked; past = g.past; held = g.held; in_time = g.in_time }
agrees-more b p sooner c q Sent joins g may = record { registers = g.registers; number = g.number; bytes = g.bytes; command = g.command; stage = λ is. refl; asked = g.asked; past = g.past; held = g.held; in_time = λ is. refl }
agrees-more b p sooner c q Exec joins g may = record { registers = g.registers; number = g.number; bytes = g.bytes; command = g.command; stage = λ is. refl; asked = g.asked; past = g.past; held = g.held; in_time = g.in_time }
agrees-more b p sooner c q (Ask arrived) joins g may = record { registers = g.registers; number = g.number; bytes = g.bytes; command = g.command; stage = g.stage; asked = λ is h. or_implies (cancel_requested b p) (cancel_requested c q) arrived arrived refl (g.asked is) h; past = g.past; held = g.held; in_time = λ is. asks (g.in_time is) (g.stage is) }
  where
    asks : cancelled_in_emulator b p ≡ cancelled_in_emulator c q → stage_of b p ≡ stage_of c q → (cancelled_in_emulator b p || (arrived && is_sent (stage_of b p))) ≡ (cancelled_in_emulator c q || (arrived && is_sent (stage_of c q)))
    asks before reached = rw (before, reached) refl
agrees-more b p sooner c q (Finish Done) joins g may = agrees-done b p sooner c q joins g (phase_is b p c q g.registers ∙ may.executing)
agrees-more b p sooner c q (Finish Cancelled) joins g may = agrees-end b p sooner c q Cancelled g (λ i lt. refl) g.past
agrees-more b p sooner c q (Finish EndedLost) joins g may = agrees-end b p sooner c q EndedLost g g.bytes g.past
agrees-more b p sooner c q Reset joins g may = record { registers = refl; number = g.number; bytes = λ i lt. refl; command = λ e. absurd (not_idle e); stage = λ e. absurd (not_idle e); asked = λ e. absurd (not_idle e); held = λ e. absurd (not_idle e); in_time = λ e. absurd (not_idle e); past = ap (λ past. PowerOn ∷ past) g.past }
agrees-more b p sooner c q ResetLost joins g may = record { registers = refl; number = g.number; bytes = λ i lt. refl; command = λ e. absurd (not_lost e); stage = λ e. absurd (not_lost e); asked = λ e. absurd (not_lost e); past = g.past; held = λ e. absurd (not_lost e); in_time = λ e. absurd (not_lost e) }

-- what may come in one may come in the other
may-come : (b : Snapshot) (p : History) (sooner : List Entry) (c : Snapshot) (q : History) (e : Event) → Agrees b p sooner c q → IsEnabled c q e → IsEnabled b p e
may-come b p sooner c q (Read access value) g may = (may.0, may.1 ∙ number_at-same (shown_byte c q) (shown_byte b p) 0x1000 (shows-same b p sooner c q g) access.offset access.size may.0)
may-come b p sooner c q (Write a) g may = tt
may-come b p sooner c q Claim g may = let is = phase_is b p c q g.registers ∙ may.executing in record { executing = is; reached = g.stage is ∙ may.reached }
may-come b p sooner c q Sent g may = let is = phase_is b p c q g.registers ∙ may.executing in record { executing = is; reached = g.stage is ∙ may.reached }
may-come b p sooner c q Exec g may = let is = phase_is b p c q g.registers ∙ may.executing in record { executing = is; reached = g.stage is ∙ may.reached }
may-come b p sooner c q (Finish Done) g may = let is = phase_is b p c q g.registers ∙ may.executing in record { executing = is; reached = g.stage is ∙ may.reached }
may-come b p sooner c q (Finish Cancelled) g may = let is = phase_is b p c q g.registers ∙ may.0.executing in (record { executing = is; claimed = λ w. may.0.claimed (sym (g.stage is) ∙ w) }, g.asked is may.1)
may-come b p sooner c q (Finish EndedLost) g may = let is = phase_is b p c q g.registers ∙ may.executing in record { executing = is; claimed = λ w. may.claimed (sym (g.stage is) ∙ w) }
may-come b p sooner c q (Ask arrived) g may = tt
may-come b p sooner c q Reset g may = record { working = λ w. may.working (sym (phase_is b p c q g.registers) ∙ w); unclaimed = λ is. g.stage is ∙ may.unclaimed (sym (phase_is b p c q g.registers) ∙ is) }
may-come b p sooner c q ResetLost g may = record { working = λ w. may.working (sym (phase_is b p c q g.registers) ∙ w); unclaimed = λ is. g.stage is ∙ may.unclaimed (sym (phase_is b p c q g.registers) ∙ is) }

pub agrees : (b : Snapshot) (h more : History) → Joins b (executed b h) (snapshot_after b h) → MaySuspend b h → Legal (snapshot_after b h) more → Agrees b (more ++ h) (executed b h) (snapshot_after b h) more
agrees b h [] joins may legal = agrees-start b h may
agrees b h (e ∷ more) joins may legal = agrees-more b (more ++ h) (executed b h) (snapshot_after b h) more e joins (agrees b h more joins may legal.0) legal.1

pub continues : (b : Snapshot) (h more : History) → Joins b (executed b h) (snapshot_after b h) → Legal b h → MaySuspend b h → Legal (snapshot_after b h) more → Legal b (more ++ h)
continues b h [] joins legal may more = legal
continues b h (e ∷ rest) joins legal may more =
    (continues b h rest joins legal may more.0, may-come b (rest ++ h) (executed b h) (snapshot_after b h) rest e (agrees b h rest joins may more.0) more.1)

pub shows-on : (b : Snapshot) (h more : History) → Joins b (executed b h) (snapshot_after b h) → MaySuspend b h → Legal (snapshot_after b h) more → (i : ℕ) → i < 0x1000 → shown_byte (snapshot_after b h) more i ≡ shown_byte b (more ++ h) i
shows-on b h more joins may legal i lt = shows-same b (more ++ h) (executed b h) (snapshot_after b h) more (agrees b h more joins may legal) i lt

pub past-on : (b : Snapshot) (h more : History) → Joins b (executed b h) (snapshot_after b h) → MaySuspend b h → Legal (snapshot_after b h) more → executed b (more ++ h) ≡ executed (snapshot_after b h) more ++ executed b h
past-on b h more joins may legal = (agrees b h more joins may legal).past
