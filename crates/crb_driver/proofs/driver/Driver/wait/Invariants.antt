use Rattle.crb_driver.specs.Calls.{StaysBusy}
use Rattle.crb_driver.proofs.driver.Driver.wait.Given as goal

-- START was read once a turn and wasn't 0
abbrev pub invariant-loop : goal.invariant-loop
invariant-loop g l = record {
  is_ready : g.B.Bus.ready l.bus;
  busy : StaysBusy g.B.Bus.step l.fn.bus l.counter l.bus;
}
