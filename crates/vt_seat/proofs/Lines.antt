-- The lines of the guest, and a fault to inject, lead a world on.
use Rattle.std.proofs.Common.{◌≡◌, ℕ, ◌+◌, ◌≤◌, ◌∷◌, refl, sym, subst, None}
use Rattle.std.specs.Prelude.{Option, IsSome}
use Rattle.crb_regs.specs.LittleEndian.{little_endian_at}
use Rattle.crb_regs.specs.Access.{Access}
use Rattle.crb_machine.specs.Over.{plain_device}
use Rattle.crb_machine.specs.State.{DeviceState}
use Rattle.crb_machine.specs.Steps.{collected, device_byte, written}
use Rattle.crb_machine.specs.Model.{DeviceModel}
use Rattle.crb_port.specs.declared.job.PortState.{PortState}
use Rattle.crb_history.specs.Snapshot.{Snapshot}
use Rattle.crb_history.specs.Event.Event.{Read as Reading, Write as Writing}
use Rattle.vt_transcript.specs.OneHost.{OneHost}
use Rattle.crb_worker.specs.declared.progress.Progress.{Progress}
use Rattle.ctrl_model.specs.Link.{Link}
use Rattle.vt_script.specs.declared.event.Event.TheVariants.{Access as AccessLine}
use Rattle.vt_script.specs.declared.reply.Reply.TheVariants as replied
use Rattle.vt_seat.specs.Follows.{RefinesAt, RefinesOneHost, StepRefinesOneHost}
use Rattle.vt_seat.proofs.Guests.{write-stands, read-stands, read-shows}
use Rattle.vt_seat.proofs.InjectedFaults.{due-same}

-- a write of the guest
pub write-steps : (b : Snapshot) (t : OneHost) (d e : DeviceModel PortState) (progress : Progress) (l : Link) (calls_to_fault : Option ℕ) (a : Access)
    → RefinesOneHost b t (record { device = d; progress = progress; link = l; calls_to_fault = calls_to_fault; faults = 0 })
    → a.offset + a.size ≤ 0x1000 → IsSome a.write → plain_device e ≡ written (collected (plain_device d)) a
    → StepRefinesOneHost b t (AccessLine a) replied.Accepted (record { device = e; progress = progress; link = l; calls_to_fault = calls_to_fault; faults = 0 })
write-steps b t d e progress l calls_to_fault a follows fits some is = record {
  answers = some;
  legal = λ legal. (legal, tt);
  follows = record {
    fit = follows.fit;
    stands = subst (λ (x : DeviceState). RefinesAt b (Writing a ∷ t.history) x progress l) (sym is) (write-stands b t.history (plain_device d) progress l a follows.stands fits);
    calls_to_fault = due-same t.injected_fault t.count calls_to_fault follows.calls_to_fault;
  };
}

-- a read of the guest
pub read-steps : (b : Snapshot) (t : OneHost) (d e : DeviceModel PortState) (progress : Progress) (l : Link) (calls_to_fault : Option ℕ) (a : Access) (value : ℕ)
    → RefinesOneHost b t (record { device = d; progress = progress; link = l; calls_to_fault = calls_to_fault; faults = 0 })
    → a.offset + a.size ≤ 0x1000 → a.write ≡ None → plain_device e ≡ collected (plain_device d)
    → value ≡ little_endian_at (device_byte (collected (plain_device d))) a.offset a.size
    → StepRefinesOneHost b t (AccessLine a) (replied.Value value a.size) (record { device = e; progress = progress; link = l; calls_to_fault = calls_to_fault; faults = 0 })
read-steps b t d e progress l calls_to_fault a value follows fits none is shown = record {
  answers = (none, refl);
  legal = λ legal. (legal, (fits, read-shows b t.history (plain_device d) progress l a value follows.stands fits shown));
  follows = record {
    fit = follows.fit;
    stands = subst (λ (x : DeviceState). RefinesAt b (Reading a value ∷ t.history) x progress l) (sym is) (read-stands b t.history (plain_device d) progress l a value follows.stands);
    calls_to_fault = due-same t.injected_fault t.count calls_to_fault follows.calls_to_fault;
  };
}
