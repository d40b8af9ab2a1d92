use Rattle.std.proofs.Common.{◌≡◌}
use Rattle.crb_shared.specs.Ends.{guest_view}
use Rattle.port_tests.proofs.two_threads_tests.ask.Given as goal

abbrev pub invariant-loop : goal.invariant-loop
invariant-loop g l = (goal.iterator-loop g).can_next l.iterator' × (goal.iterator-loop g).is_finite l.iterator' × ((guest_view l.guest).which ≡ (guest_view l.fn.guest).which)
