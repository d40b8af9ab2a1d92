use Rattle.std.proofs.Common.{take}
use Rattle.crb_driver.specs.Bus.{Reaches}
use Rattle.crb_driver.specs.Accesses.{byte_writes}
use Rattle.crb_driver.proofs.access.write_bytes.Given as goal

-- the bytes up to this place were written
abbrev pub invariant-loop-i : goal.invariant-loop-i
invariant-loop-i g l = record {
  is_ready : g.B.Bus.ready l.bus;
  steps : Reaches g.B.Bus.step l.fn.bus (byte_writes l.offset (take l.i l.bytes)) l.bus;
}
