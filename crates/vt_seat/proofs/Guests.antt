-- Accesses of the guest keep a world with its history.
use Rattle.std.proofs.Common.{◌≡◌, ℕ, ◌+◌, ◌-◌, ◌<◌, ◌≤◌, Bool, true, false, List, ◌∷◌, refl, ◌∙◌, arith}
use Rattle.std.specs.Prelude.{slice_index, nat_lt}
use Rattle.crb_regs.specs.LittleEndian.{little_endian_at}
use Rattle.crb_regs.specs.Access.{Access}
use Rattle.crb_regs.specs.Registers.{is_lost}
use Rattle.crb_regs.specs.declared.phase.Phase.{Phase}
use Rattle.crb_regs.specs.declared.phase.Phase.TheVariants.{Idle, Ready, Reception, Execution, Completion, Lost}
use Rattle.crb_machine.specs.State.{DeviceState, Slot}
use Rattle.crb_machine.specs.State.Slot.{InDevice, Queued, Claimed as ClaimedSlot, Answered}
use Rattle.crb_machine.specs.Steps.{written, collected, device_byte, content, buffer_byte}
use Rattle.crb_history.specs.Snapshot.{Snapshot}
use Rattle.crb_history.specs.Event.{History}
use Rattle.crb_history.specs.Event.Event.{Read, Write}
use Rattle.crb_history.specs.Device.{effect_of, phase_of, is_granted, buffer, shown_byte}
use Rattle.crb_history.proofs.Bytes.{number_at-same}
use Rattle.crb_worker.specs.declared.progress.Progress.{Progress}
use Rattle.ctrl_model.specs.Link.{Link}
use Rattle.vt_seat.specs.Follows.{IsDeviceAfter, HoldsBuffer, Placed, RefinesAt}
use Rattle.vt_seat.proofs.Jobs.{SameCommand, Placed-same, IsDeviceAfter-same, link-same, executing_where, collected-settled}
use Rattle.crb_history.proofs.Phases.{lives-before}
use Rattle.vt_seat.proofs.Writes.{device-written, job-written, link-written}

-- a write of the guest
pub write-stands : (b : Snapshot) (p : History) (d : DeviceState) (progress : Progress) (l : Link) (a : Access) → RefinesAt b p d progress l → a.offset + a.size ≤ 0x1000 → RefinesAt b (Write a ∷ p) (written (collected d) a) progress l
write-stands b p d progress l a s fits =
    let after = device-written b p (collected d) a s.device (executing_where b p (collected d).slot progress s.job) fits in
    let job = job-written b p (collected d) a progress s.device after s.job in
    let same : collected (written (collected d) a) ≡ written (collected d) a = collected-settled b (Write a ∷ p) (written (collected d) a) (written (collected d) a).slot progress job in
    record {
      device = rw same after;
      job = rw same job;
      quiet = s.quiet;
      link = λ far. link-written b p a (collected d).slot (written (collected d) a).slot progress l s.job job (s.link (lives-before (effect_of a) (is_granted b p) (phase_of b p) far));
    }

-- the device shows what the history says
device_byte-shows : (b : Snapshot) (p : History) (d : DeviceState) (progress : Progress) → IsDeviceAfter b p d → Placed b p d.slot progress → (i : ℕ) → i < 0x1000 → device_byte d i ≡ shown_byte b p i
device_byte-shows b p d progress is job i lt = below (nat_lt i 0x80) refl
  where
    own_buffer : (bytes : List ℕ) → (is_lost (phase_of b p) ≡ false → HoldsBuffer b p (InDevice bytes)) → (phase : Phase) → phase_of b p ≡ phase → nat_lt i 0x80 ≡ false → buffer_byte phase (slice_index bytes (i - 0x80)) ≡ buffer_byte phase (buffer b p (i - 0x80))
    own_buffer bytes holds Idle at from = refl
    own_buffer bytes holds Execution at from = refl
    own_buffer bytes holds Lost at from = refl
    own_buffer bytes holds Ready at from = (holds (rw at refl)).each (i - 0x80) (omega arith)
    own_buffer bytes holds Reception at from = (holds (rw at refl)).each (i - 0x80) (omega arith)
    own_buffer bytes holds Completion at from = (holds (rw at refl)).each (i - 0x80) (omega arith)

    by_slot : (slot : Slot) → Placed b p slot progress → (is_lost (phase_of b p) ≡ false → HoldsBuffer b p slot) → nat_lt i 0x80 ≡ false → buffer_byte (phase_of b p) (slice_index (content slot) (i - 0x80)) ≡ buffer_byte (phase_of b p) (buffer b p (i - 0x80))
    by_slot (InDevice bytes) j holds from = own_buffer bytes holds (phase_of b p) refl from
    by_slot (Queued k) j holds from = rw (executing_where b p (Queued k) progress j refl) refl
    by_slot ClaimedSlot j holds from = rw (executing_where b p ClaimedSlot progress j refl) refl
    by_slot (Answered k) j holds from = rw (executing_where b p (Answered k) progress j refl) refl

    below : (test : Bool) → nat_lt i 0x80 ≡ test → device_byte d i ≡ shown_byte b p i
    below true is_below = rw (is_below, is.regs) refl
    below false from = rw (from, is.regs) (by_slot d.slot job is.bytes from)

-- nothing happened to the last command
pub same_read : (b : Snapshot) (p : History) (a : Access) (value : ℕ) → SameCommand b p (Read a value ∷ p)
same_read b p a value = record { phase = refl; stage = refl; number = refl; command = refl; held = refl; in_time = refl; executed_is = refl }

-- a device that took back what stood has nothing more to take
pub collected-collected : (d : DeviceState) → collected (collected d) ≡ collected d
collected-collected d = go d.slot refl
  where
    go : (slot : Slot) → d.slot ≡ slot → collected (collected d) ≡ collected d
    go (InDevice bytes) is = rw is refl
    go (Queued job) is = rw is refl
    go ClaimedSlot is = rw is refl
    go (Answered answer) is = rw is refl

-- a read of the guest
pub read-stands : (b : Snapshot) (p : History) (d : DeviceState) (progress : Progress) (l : Link) (a : Access) (value : ℕ) → RefinesAt b p d progress l → RefinesAt b (Read a value ∷ p) (collected d) progress l
read-stands b p d progress l a value s = record {
  device = rw (collected-collected d) (IsDeviceAfter-same b p (Read a value ∷ p) (collected d) refl refl refl (λ i. refl) s.device);
  job = rw (collected-collected d) (Placed-same b p (Read a value ∷ p) (same_read b p a value) (collected d).slot progress s.job);
  quiet = s.quiet;
  link = λ far. link-same b p (Read a value ∷ p) (same_read b p a value) l (s.link far);
}

-- what it gives is what the history shows
pub read-shows : (b : Snapshot) (p : History) (d : DeviceState) (progress : Progress) (l : Link) (a : Access) (value : ℕ) → RefinesAt b p d progress l → a.offset + a.size ≤ 0x1000 → value ≡ little_endian_at (device_byte (collected d)) a.offset a.size → value ≡ little_endian_at (shown_byte b p) a.offset a.size
read-shows b p d progress l a value s fits is =
    is ∙ number_at-same (device_byte (collected d)) (shown_byte b p) 0x1000 (device_byte-shows b p (collected d) progress s.device s.job) a.offset a.size fits
