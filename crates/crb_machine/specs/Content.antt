-- What a write does to the buffer.
use Rattle.std.specs.Prelude.{ℕ, zero, suc, ◌+◌, ◌-◌, Bool, ◌||◌, List, slice_set, unwrap_or}
use Rattle.vt_base.specs.Buffer.{zeros}
use Rattle.crb_regs.specs.LittleEndian.{byte_of}
use Rattle.crb_regs.specs.Access.{Access}
use Rattle.crb_regs.specs.declared.effect.Effect.{Effect}
use Rattle.crb_regs.specs.declared.effect.Effect.TheVariants.{Buffer, CmdReady, GoIdle, Start, Cancel}
use Rattle.crb_machine.specs.State.{Slot}
use Rattle.crb_machine.specs.State.Slot.{InDevice, Queued}

-- the bytes with the first `count` of other bytes written over them at a place
abbrev pub overwritten : List ℕ → ℕ → (ℕ → ℕ) → ℕ → List ℕ
overwritten bytes at byte zero = bytes
overwritten bytes at byte (suc count) = slice_set (overwritten bytes at byte count) (at + count) (byte count)

-- the buffer and the job after an accepted write
abbrev pub slot_after : Effect → Access → Bool → ℕ → Slot → Slot
slot_after Buffer a cancel number (InDevice buf) = InDevice (overwritten buf (a.offset - 0x80) (byte_of (unwrap_or a.write 0)) a.size)
slot_after CmdReady a cancel number (InDevice buf) = InDevice (zeros 3968)
slot_after GoIdle a cancel number (InDevice buf) = InDevice (zeros 3968)
slot_after Start a cancel number (InDevice buf) = Queued (record { number = number; cancelled = cancel; buf = buf })
slot_after (Cancel value) a cancel number (Queued job) = Queued (record job { cancelled = job.cancelled || value })
slot_after _ a cancel number slot = slot
