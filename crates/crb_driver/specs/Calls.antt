-- What each call of the driver did to the bus, by its answer. (Own definitions.)
use Rattle.std.specs.Prelude.{◌≡◌, ◌≢◌, ◌<◌, ◌↔◌, ℕ, Bool, true, false, IsTrue, List, [], ◌∷◌, ◌++◌, All, length}
use Rattle.crb_regs.specs.Numbers as numbers
use Rattle.vt_base.specs.Numbers.{number}
use Rattle.crb_driver.specs.declared.fault.DriverFault.{DriverFault}
use Rattle.crb_driver.specs.declared.fault.DriverFault.TheVariants.{Size, NotGranted, NotReady, TimedOut, Fatal, BadResponse}
use Rattle.crb_driver.specs.Bits.{IsSet, IsClear}
use Rattle.crb_driver.specs.Bus.{Exchange, Relation, Reaches}
use Rattle.crb_driver.specs.Sizes.{IsBadLength, reported}
use Rattle.crb_driver.specs.Accesses.{register_read, request_accesses, ready_accesses, start_accesses, poll_accesses, size_accesses, finish_accesses}

-- the command was written and started: access was granted and the interface had left the idle state
pub record Starts {S : Type 0} (step : Relation S) (old : S) (command : List ℕ) (new : S) : Type 0 where
  pub loc_sts : ℕ
  pub ctrl_sts : ℕ
  pub granted : IsSet numbers.granted loc_sts
  pub ready : IsClear numbers.tpm_idle ctrl_sts
  pub reaches : Reaches step old (start_accesses command loc_sts ctrl_sts) new

-- the interface was still idle after cmdReady, by this CTRL_STS
pub record StaysIdle {S : Type 0} (step : Relation S) (old : S) (ctrl_sts : ℕ) (new : S) : Type 0 where
  pub loc_sts : ℕ
  pub granted : IsSet numbers.granted loc_sts
  pub idle : IsSet numbers.tpm_idle ctrl_sts
  pub reaches : Reaches step old (ready_accesses loc_sts ctrl_sts) new

-- why a command wasn't started, what the fault carries, and the accesses up to the read that shows it
abbrev pub FailsToStart : {S : Type 0} → Relation S → S → List ℕ → DriverFault → S → Type 0
FailsToStart step old command (Size n) new = (n ≡ reported (length command)) × (old ≡ new)
FailsToStart step old command (NotGranted n) new = IsClear numbers.granted n × Reaches step old (request_accesses n) new
FailsToStart step old command (NotReady n) new = StaysIdle step old n new
FailsToStart step old command (TimedOut n) new = ⊥
FailsToStart step old command (Fatal n) new = ⊥
FailsToStart step old command (BadResponse n) new = ⊥

-- one read of START, which was 0 or not
pub record Polls {S : Type 0} (step : Relation S) (old : S) (ended : Bool) (new : S) : Type 0 where
  pub value : ℕ
  pub answer : IsTrue ended ↔ (value ≡ 0)
  pub reaches : Reaches step old (poll_accesses (value ∷ [])) new

-- the response was read and the interface given back: the TPM can be used, and the size field named the response's length
pub record Finishes {S : Type 0} (step : Relation S) (old : S) (response : List ℕ) (new : S) : Type 0 where
  pub ctrl_sts : ℕ
  pub usable : IsClear numbers.tpm_sts ctrl_sts
  pub reaches : Reaches step old (finish_accesses ctrl_sts (number (length response)) response) new

-- the size field named a length that no response for this room can have
pub record NamesBadLength {S : Type 0} (step : Relation S) (old : S) (room : ℕ) (n : ℕ) (new : S) : Type 0 where
  pub ctrl_sts : ℕ
  pub usable : IsClear numbers.tpm_sts ctrl_sts
  pub bad : IsBadLength room n
  pub reaches : Reaches step old (size_accesses ctrl_sts (number n)) new

-- why a response wasn't read, what the fault carries, and the accesses up to the read that shows it
abbrev pub FailsToFinish : {S : Type 0} → Relation S → S → ℕ → DriverFault → S → Type 0
FailsToFinish step old room (Fatal n) new = IsSet numbers.tpm_sts n × Reaches step old (register_read numbers.ctrl_sts n ∷ []) new
FailsToFinish step old room (BadResponse n) new = NamesBadLength step old room n new
FailsToFinish step old room (Size n) new = ⊥
FailsToFinish step old room (NotGranted n) new = ⊥
FailsToFinish step old room (NotReady n) new = ⊥
FailsToFinish step old room (TimedOut n) new = ⊥

-- what was read while a command was started and ran: LOC_STS, CTRL_STS after cmdReady, and the values of START other than 0
pub record Readings : Type 0 where
  pub loc_sts : ℕ
  pub ctrl_sts : ℕ
  pub busy : List ℕ

-- access was granted, the interface had left the idle state, and START wasn't 0
pub record AreWaiting (seen : Readings) : Type 0 where
  pub granted : IsSet numbers.granted seen.loc_sts
  pub ready : IsClear numbers.tpm_idle seen.ctrl_sts
  pub busy : All (λ value. value ≢ 0) seen.busy

-- the command was started and START was read these times
abbrev pub wait_accesses : List ℕ → Readings → List ℕ → List Exchange
wait_accesses command seen starts = start_accesses command seen.loc_sts seen.ctrl_sts ++ poll_accesses starts

-- the command was started, and START was 0 after the values that were not
abbrev pub run_accesses : List ℕ → Readings → List Exchange
run_accesses command seen = wait_accesses command seen (seen.busy ++ 0 ∷ [])

-- START became 0 within so many polls, and then these accesses were made
pub record RunsThen {S : Type 0} (step : Relation S) (old : S) (command : List ℕ) (polls : ℕ) (end : List Exchange) (new : S) : Type 0 where
  pub seen : Readings
  pub waiting : AreWaiting seen
  pub within : length seen.busy < polls
  pub reaches : Reaches step old (run_accesses command seen ++ end) new

-- START was read so many times and never was 0
pub record TimesOut {S : Type 0} (step : Relation S) (old : S) (command : List ℕ) (polls : ℕ) (new : S) : Type 0 where
  pub seen : Readings
  pub waiting : AreWaiting seen
  pub every : length seen.busy ≡ polls
  pub reaches : Reaches step old (wait_accesses command seen seen.busy) new

-- the command was run and this response was read
pub record AnswersCall {S : Type 0} (step : Relation S) (old : S) (command : List ℕ) (polls : ℕ) (response : List ℕ) (new : S) : Type 0 where
  pub ctrl_sts : ℕ
  pub usable : IsClear numbers.tpm_sts ctrl_sts
  pub runs : RunsThen step old command polls (finish_accesses ctrl_sts (number (length response)) response) new

-- the command was run, and the size field named a length that no response for this room can have
pub record AnswersBadLength {S : Type 0} (step : Relation S) (old : S) (command : List ℕ) (polls : ℕ) (room : ℕ) (n : ℕ) (new : S) : Type 0 where
  pub ctrl_sts : ℕ
  pub usable : IsClear numbers.tpm_sts ctrl_sts
  pub bad : IsBadLength room n
  pub runs : RunsThen step old command polls (size_accesses ctrl_sts (number n)) new

-- why no response came, what the fault carries, and the accesses up to the read that shows it
abbrev pub Fails : {S : Type 0} → Relation S → S → List ℕ → ℕ → ℕ → DriverFault → S → Type 0
Fails step old command polls room (Size n) new = FailsToStart step old command (Size n) new
Fails step old command polls room (NotGranted n) new = FailsToStart step old command (NotGranted n) new
Fails step old command polls room (NotReady n) new = FailsToStart step old command (NotReady n) new
Fails step old command polls room (TimedOut n) new = (n ≡ polls) × TimesOut step old command polls new
Fails step old command polls room (Fatal n) new = IsSet numbers.tpm_sts n × RunsThen step old command polls (register_read numbers.ctrl_sts n ∷ []) new
Fails step old command polls room (BadResponse n) new = AnswersBadLength step old command polls room n new

-- START was read so many times and never was 0
abbrev pub StaysBusy : {S : Type 0} → Relation S → S → ℕ → S → Type 0
StaysBusy step old times new = (busy : List ℕ) × All (λ value. value ≢ 0) busy × (length busy ≡ times) × Reaches step old (poll_accesses busy) new

-- START was 0 in one of so many polls, and not before
abbrev pub Ends : {S : Type 0} → Relation S → S → ℕ → S → Type 0
Ends step old polls new = (busy : List ℕ) × All (λ value. value ≢ 0) busy × (length busy < polls) × Reaches step old (poll_accesses (busy ++ 0 ∷ [])) new

-- whether one of so many polls found the end
abbrev pub AwaitsEnd : {S : Type 0} → Relation S → S → ℕ → Bool → S → Type 0
AwaitsEnd step old polls true new = Ends step old polls new
AwaitsEnd step old polls false new = StaysBusy step old polls new
