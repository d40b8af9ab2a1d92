-- What a driver's accesses lead a world through: the command's bytes are written and it is started.
use Rattle.std.proofs.Common.{◌≡◌, ℕ, suc, ◌+◌, ◌-◌, ◌<◌, ◌≤◌, Bool, true, false, ◌&&◌, List, [], ◌∷◌, ◌++◌, length, take, drop, refl, ap, sym, subst, ◌∙◌, append_assoc, arith, Some}
use Rattle.std.specs.Prelude.{slice_index, nat_le, nat_lt, if◌then◌else◌, ◌==◌}
use Rattle.std.proofs.lemmas.Bool.Decides.{nat_tests}
use Rattle.std.proofs.lemmas.Grind.{common_steps}
use Rattle.crb_regs.specs.Access.{Access}
use Rattle.crb_regs.specs.Effects.{effect}
use Rattle.crb_regs.specs.LittleEndian.{byte_of, little_endian_at}
use Rattle.crb_regs.specs.declared.phase.Phase.{Phase}
use Rattle.crb_regs.specs.declared.phase.Phase.TheVariants.{Idle, Ready, Reception}
use Rattle.crb_regs.specs.declared.effect.Effect.{Effect}
use Rattle.crb_regs.specs.declared.effect.Effect.TheVariants.{Buffer, CmdReady, Cancel, Request}
use Rattle.crb_machine.specs.Phases.{next_phase, granted_after, cancel_after}
use Rattle.tpm_core.specs.Answers.{Entry}
use Rattle.tpm_frame.specs.Frames.{frame_length_of}
use Rattle.crb_driver.specs.Bus.{Exchange, Relation, Reaches, reading, writing}
use Rattle.crb_driver.specs.Accesses.{request_accesses, ready_accesses, send_accesses, start_accesses, byte_writes}
use Rattle.tpm_frame.specs.Sizes.{IsWellSized}
use Rattle.crb_history.specs.Snapshot.{Snapshot}
use Rattle.crb_history.specs.Bytes.{bytes_at, command_in}
use Rattle.crb_history.specs.Event.{History}
use Rattle.crb_history.specs.Event.Event.{Read, Write}
use Rattle.crb_history.specs.Device.{effect_of, phase_of, is_granted, is_cancel, buffer, last_command, executed, shown_byte, JobStage}
use Rattle.crb_history.specs.Device.JobStage.{Waiting}
use Rattle.crb_history.specs.Cancelling.{cancelled_before_claim, cancelled_in_emulator}
use Rattle.crb_history.specs.Legal.{IsAt}
use Rattle.vt_seat.specs.State.{WorldState}
use Rattle.vt_world.specs.Bus.{IsBusAfter, Leads}
use Rattle.crb_history.proofs.Bytes.{bytes_at-same, take-bytes_at, take-drop-bytes_at}

-- the world stands after some history of this kind
pub record Found (P : History → WorldState → Type 0) (s : WorldState) : Type 0 where
  pub history : History
  pub holds : P history s

pub found-at : (P : History → WorldState → Type 0) (p : History) (s end : WorldState) → s ≡ end → P p s → Found P end
found-at P p s end is holds = record { history = p; holds = rw (← is) holds }

-- accesses in two parts
pub reaches-split : {S : Type 0} (step : Relation S) (old new : S) (first last : List Exchange) → Reaches step old (first ++ last) new → (middle : S) × Reaches step old first middle × Reaches step middle last new
reaches-split step old new [] last r = (old, refl, r)
reaches-split step old new (e ∷ first) last r =
    let rest = reaches-split step r.0 new first last r.2 in
    (rest.0, (r.0, r.1, rest.1), rest.2)

-- the registers, and what the TPM went through
pub record PortState : Type 0 where
  pub phase : Phase
  pub granted : Bool
  pub cancel : Bool
  pub past : List Entry

pub record IsKnown (b : Snapshot) (p : History) (now : PortState) : Type 0 where
  pub phase : phase_of b p ≡ now.phase
  pub granted : is_granted b p ≡ now.granted
  pub cancel : is_cancel b p ≡ now.cancel
  pub past : executed b p ≡ now.past

pub record Stands (b : Snapshot) (now : PortState) (p : History) (s : WorldState) : Type 0 where
  pub after : IsBusAfter b p s
  pub says : IsKnown b p now

-- where no command is prepared
abbrev pub resting : Snapshot → History → PortState
resting b p = record { phase = Idle; granted = is_granted b p; cancel = is_cancel b p; past = executed b p }

abbrev pub at : Phase → Bool → Bool → List Entry → PortState
at phase granted cancel past = record { phase = phase; granted = granted; cancel = cancel; past = past }

abbrev after_effect : Effect → Phase → PortState → PortState
after_effect e phase now = record { phase = phase; granted = granted_after e now.granted; cancel = cancel_after e now.cancel; past = now.past }

-- an accepted write
is_said-write : (b : Snapshot) (p : History) (a : Access) (e : Effect) (phase : Phase) (now : PortState) → effect_of a ≡ e → next_phase e now.granted now.phase ≡ Some phase → IsKnown b p now → IsKnown b (Write a ∷ p) (after_effect e phase now)
is_said-write b p a e phase now is next says = record {
  phase = rw (is, says.granted, says.phase, next) refl;
  granted = rw (is, says.granted, says.phase, next) refl;
  cancel = rw (is, says.granted, says.phase, next, says.cancel) refl;
  past = says.past;
}

stands-write : (b : Snapshot) (now : PortState) (p : History) (s next : WorldState) (offset size value : ℕ) (e : Effect) (phase : Phase) → effect offset size value ≡ e → next_phase e now.granted now.phase ≡ Some phase → Stands b now p s → Leads s (writing offset size value).access value next
    → Stands b (after_effect e phase now) (Write (writing offset size value).access ∷ p) next
stands-write b now p s next offset size value e phase is accepted stands leads = record {
  after = leads b p stands.after;
  says = is_said-write b p (writing offset size value).access e phase now is accepted stands.says;
}

-- a read elsewhere than at START
stands-read : (b : Snapshot) (now : PortState) (p : History) (s next : WorldState) (offset size value : ℕ) → (offset == 0x4C) ≡ false → Stands b now p s → Leads s (reading offset size value).access value next
    → Stands b now (Read (reading offset size value).access value ∷ p) next × (value ≡ little_endian_at (shown_byte b p) offset size)
stands-read b now p s next offset size value elsewhere stands leads =
    let after : IsBusAfter b (Read (reading offset size value).access value ∷ p) next = rw elsewhere at (leads b p stands.after) in (
      record { after = after; says = record { phase = stands.says.phase; granted = stands.says.granted; cancel = stands.says.cancel; past = stands.says.past } },
      after.legal.1.1,
    )

-- access is asked for, and granted
pub requested : (b : Snapshot) (p : History) (s end : WorldState) (granted cancel : Bool) (past : List Entry) (loc_sts : ℕ) → Stands b (at Idle granted cancel past) p s → Reaches Leads s (request_accesses loc_sts) end
    → Found (Stands b (at Idle true cancel past)) end × (loc_sts ≡ 1)
requested b p s end granted cancel past loc_sts stands r =
    let one = stands-write b (at Idle granted cancel past) p s r.0 8 4 1 Request Idle refl refl stands r.1 in
    let two = stands-read b (at Idle true cancel past) (Write (writing 8 4 1).access ∷ p) r.0 r.2.0 12 4 loc_sts refl one r.2.1 in
    let shown : little_endian_at (shown_byte b (Write (writing 8 4 1).access ∷ p)) 12 4 ≡ 1 = rw (one.says.granted) refl in
    (found-at (Stands b (at Idle true cancel past)) (Read (reading 12 4 loc_sts).access loc_sts ∷ Write (writing 8 4 1).access ∷ p) r.2.0 end r.2.2 two.0, two.1 ∙ shown)

-- the interface is made ready
pub readied : (b : Snapshot) (p : History) (s end : WorldState) (granted cancel : Bool) (past : List Entry) (loc_sts ctrl_sts : ℕ) → Stands b (at Idle granted cancel past) p s → Reaches Leads s (ready_accesses loc_sts ctrl_sts) end
    → Found (Stands b (at Ready true cancel past)) end × (ctrl_sts ≡ 0)
readied b p s end granted cancel past loc_sts ctrl_sts stands reaches =
    let parts = reaches-split Leads s end (request_accesses loc_sts) (writing 0x40 4 1 ∷ reading 0x44 4 ctrl_sts ∷ []) reaches in
    let before = (requested b p s parts.0 granted cancel past loc_sts stands parts.1).0 in
    let r = parts.2 in
    let one = stands-write b (at Idle true cancel past) before.history parts.0 r.0 0x40 4 1 CmdReady Ready refl refl before.holds r.1 in
    let two = stands-read b (at Ready true cancel past) (Write (writing 0x40 4 1).access ∷ before.history) r.0 r.2.0 0x44 4 ctrl_sts refl one r.2.1 in
    let shown : little_endian_at (shown_byte b (Write (writing 0x40 4 1).access ∷ before.history)) 0x44 4 ≡ 0 = rw (one.says.phase) refl in
    (found-at (Stands b (at Ready true cancel past)) (Read (reading 0x44 4 ctrl_sts).access ctrl_sts ∷ Write (writing 0x40 4 1).access ∷ before.history) r.2.0 end r.2.2 two.0, two.1 ∙ shown)

-- these bytes were written
record Received (b : Snapshot) (phase : Phase) (past : List Entry) (done : List ℕ) (p : History) (s : WorldState) : Type 0 where
  pub stands : Stands b (at phase true false past) p s
  pub bytes : (i : ℕ) → i < length done → buffer b p i ≡ slice_index done i

-- a byte that was written before, and the one that is
byte-before : (done : List ℕ) (offset byte i was : ℕ) → offset ≡ 0x80 + length done → i < length done → was ≡ slice_index done i → (if nat_le offset (0x80 + i) && nat_lt (0x80 + i) (offset + 1) then byte_of byte (0x80 + i - offset) else was) ≡ slice_index (done ++ byte ∷ []) i
byte-before done offset byte i was from below is = grind (arith, nat_tests, common_steps)

byte-now : (done : List ℕ) (offset byte i was : ℕ) → offset ≡ 0x80 + length done → i ≡ length done → byte < 256 → (if nat_le offset (0x80 + i) && nat_lt (0x80 + i) (offset + 1) then byte_of byte (0x80 + i - offset) else was) ≡ slice_index (done ++ byte ∷ []) i
byte-now done offset byte i was from here small =
    let first : 0x80 + i - offset ≡ 0 = omega arith in
    let whole : byte_of byte 0 ≡ byte = omega arith in
    rw first (grind (arith, nat_tests, common_steps, whole))

effect-byte : (offset byte : ℕ) → 0x80 ≤ offset → effect offset 1 byte ≡ Buffer
effect-byte offset byte from = grind (arith, nat_tests)

received-one : (b : Snapshot) (phase : Phase) (past : List Entry) (done : List ℕ) (p : History) (s next : WorldState) (offset byte : ℕ) → offset ≡ 0x80 + length done → byte < 256 → next_phase Buffer true phase ≡ Some Reception → Received b phase past done p s → Leads s (writing offset 1 byte).access byte next
    → Received b Reception past (done ++ byte ∷ []) (Write (writing offset 1 byte).access ∷ p) next
received-one b phase past done p s next offset byte from small accepted received leads =
    let is : effect offset 1 byte ≡ Buffer = effect-byte offset byte (omega arith) in
    let granted = received.stands.says.granted in
    let here = received.stands.says.phase in
    record {
      stands = stands-write b (at phase true false past) p s next offset 1 byte Buffer Reception is accepted received.stands leads;
      bytes = λ i lt. rw (is, granted, here, accepted) (by_place i (length-more done byte i lt));
    }
  where
    length-more : (done : List ℕ) (byte i : ℕ) → i < length (done ++ byte ∷ []) → i < length done + 1
    length-more done byte i lt = grind (arith, common_steps)

    by_place : (i : ℕ) → i < length done + 1 → (if nat_le offset (0x80 + i) && nat_lt (0x80 + i) (offset + 1) then byte_of byte (0x80 + i - offset) else buffer b p i) ≡ slice_index (done ++ byte ∷ []) i
    by_place i lt = by_test (nat_lt i (length done)) refl
      where
        by_test : (before : Bool) → nat_lt i (length done) ≡ before → (if nat_le offset (0x80 + i) && nat_lt (0x80 + i) (offset + 1) then byte_of byte (0x80 + i - offset) else buffer b p i) ≡ slice_index (done ++ byte ∷ []) i
        by_test true test = let below : i < length done = grind (arith, nat_tests, test) in byte-before done offset byte i (buffer b p i) from below (received.bytes i below)
        by_test false test = byte-now done offset byte i (buffer b p i) from (grind (arith, nat_tests, test, lt)) small

-- bytes one after the other
received-all : (b : Snapshot) (phase : Phase) (past : List Entry) (done : List ℕ) (p : History) (s end : WorldState) (offset byte : ℕ) (bytes : List ℕ) → offset ≡ 0x80 + length done → ((i : ℕ) → slice_index (byte ∷ bytes) i < 256) → next_phase Buffer true phase ≡ Some Reception → Received b phase past done p s → Reaches Leads s (byte_writes offset (byte ∷ bytes)) end
    → Found (Received b Reception past (done ++ byte ∷ bytes)) end
received-all b phase past done p s end offset byte [] from small accepted received r =
    found-at (Received b Reception past (done ++ byte ∷ [])) (Write (writing offset 1 byte).access ∷ p) r.0 end r.2 (received-one b phase past done p s r.0 offset byte from (small 0) accepted received r.1)
received-all b phase past done p s end offset byte (more ∷ bytes) from small accepted received r =
    let one = received-one b phase past done p s r.0 offset byte from (small 0) accepted received r.1 in
    let all = received-all b Reception past (done ++ byte ∷ []) (Write (writing offset 1 byte).access ∷ p) r.0 end (offset + 1) more bytes (grind (arith, common_steps)) (λ i. small (suc i)) refl one r.2 in
    subst (λ (z : List ℕ). Found (Received b Reception past z) end) (append_assoc done (byte ∷ []) (more ∷ bytes)) all

-- a well-sized command in the buffer is the one there
pub take-all : (xs : List ℕ) → take (length xs) xs ≡ xs
take-all xs = grind (arith, common_steps)

pub command_in-whole : (f : ℕ → ℕ) (command : List ℕ) → IsWellSized command → ((i : ℕ) → i < length command → f i ≡ slice_index command i) → command_in f ≡ command
command_in-whole f command sized same =
    let least : 10 ≤ length command = sized.fits.least in
    let most : length command ≤ 3968 = sized.fits.most in
    let head : bytes_at f 0 6 ≡ bytes_at (slice_index command) 0 6 = bytes_at-same f (slice_index command) (length command) same 0 6 (omega arith) in
    let field : take 4 (drop 2 command) ≡ bytes_at (slice_index command) 2 4 = take-drop-bytes_at command 2 4 (omega arith) in
    let port_view : frame_length_of (bytes_at (slice_index command) 0 6) ≡ frame_length_of command = rw field refl in
    let size : frame_length_of command ≡ length command = omega (arith, sized.named) in
    let length_is : frame_length_of (bytes_at f 0 6) ≡ length command = ap frame_length_of head ∙ port_view ∙ size in
    ap (bytes_at f 0) length_is ∙ bytes_at-same f (slice_index command) (length command) same 0 (length command) (omega arith) ∙ sym (take-bytes_at command (length command) (omega arith)) ∙ take-all command

-- the command runs and has come so far
pub record Runs (b : Snapshot) (stage : JobStage) (past : List Entry) (command : List ℕ) (p : History) (s : WorldState) : Type 0 where
  pub after : IsBusAfter b p s
  pub at : IsAt b p stage
  pub held : cancelled_before_claim b p ≡ false
  pub in_time : cancelled_in_emulator b p ≡ false
  pub last : last_command b p ≡ command
  pub done : executed b p ≡ past

-- the command is started
begun : (b : Snapshot) (past : List Entry) (command : List ℕ) (p : History) (s next : WorldState) → IsWellSized command → Received b Reception past command p s → Leads s (writing 0x4C 4 1).access 1 next
    → Runs b Waiting past command (Write (writing 0x4C 4 1).access ∷ p) next
begun b past command p s next sized received leads =
    let granted = received.stands.says.granted in
    let here = received.stands.says.phase in
    record {
      after = leads b p received.stands.after;
      at = record { executing = rw (granted, here) refl; reached = rw (granted, here) refl };
      held = rw (granted, here) received.stands.says.cancel;
      in_time = rw (granted, here) refl;
      last = rw (granted, here) (command_in-whole (buffer b p) command sized received.bytes);
      done = received.stands.says.past;
    }

-- CANCEL is cleared, and the command is written and started
sent-off : (b : Snapshot) (p : History) (s end : WorldState) (cancel : Bool) (past : List Entry) (command : List ℕ) → IsWellSized command → ((i : ℕ) → slice_index command i < 256) → Stands b (at Ready true cancel past) p s → Reaches Leads s (send_accesses command) end → Found (Runs b Waiting past command) end
sent-off b p s end cancel past [] sized small stands r = absurd (omega (arith, sized.fits.least))
sent-off b p s end cancel past (byte ∷ bytes) sized small stands r =
    let one = stands-write b (at Ready true cancel past) p s r.0 0x48 4 0 (Cancel false) Ready refl refl stands r.1 in
    let parts = reaches-split Leads r.0 end (byte_writes 0x80 (byte ∷ bytes)) (writing 0x4C 4 1 ∷ []) r.2 in
    let none : Received b Ready past [] (Write (writing 0x48 4 0).access ∷ p) r.0 = record { stands = one; bytes = λ i lt. absurd (omega arith) } in
    let all = received-all b Ready past [] (Write (writing 0x48 4 0).access ∷ p) r.0 parts.0 0x80 byte bytes refl small refl none parts.1 in
    found-at (Runs b Waiting past (byte ∷ bytes)) (Write (writing 0x4C 4 1).access ∷ all.history) parts.2.0 end parts.2.2 (begun b past (byte ∷ bytes) all.history parts.0 parts.2.0 sized all.holds parts.2.1)

-- the whole way to a command that runs
pub started : (b : Snapshot) (p : History) (s end : WorldState) (granted cancel : Bool) (past : List Entry) (command : List ℕ) (loc_sts ctrl_sts : ℕ) → IsWellSized command → ((i : ℕ) → slice_index command i < 256) → Stands b (at Idle granted cancel past) p s → Reaches Leads s (start_accesses command loc_sts ctrl_sts) end → Found (Runs b Waiting past command) end
started b p s end granted cancel past command loc_sts ctrl_sts sized small stands reaches =
    let parts = reaches-split Leads s end (ready_accesses loc_sts ctrl_sts) (send_accesses command) reaches in
    let ready = (readied b p s parts.0 granted cancel past loc_sts ctrl_sts stands parts.1).0 in
    sent-off b ready.history parts.0 end cancel past command sized small ready.holds parts.2
