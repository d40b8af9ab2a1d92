use Rattle.std.proofs.Common.{◌≡◌, length, take}
use Rattle.vt_base.specs.Numbers.{IsBytes}
use Rattle.crb_driver.specs.Bus.{Reaches}
use Rattle.crb_driver.specs.Accesses.{byte_reads}
use Rattle.crb_driver.proofs.access.read_bytes.Given as goal

-- the bytes up to this place were read
abbrev pub invariant-loop-i : goal.invariant-loop-i
invariant-loop-i g l = record {
  room : length l.into ≡ length l.fn.into;
  bytes : IsBytes l.into;
  is_ready : g.B.Bus.ready l.bus;
  steps : Reaches g.B.Bus.step l.fn.bus (byte_reads l.offset (take l.i l.into)) l.bus;
}
