use Rattle.std.proofs.Common.{◌≡◌, None}
use Rattle.crb_shared.specs.Ends.{worker_view}
use Rattle.port_tests.proofs.two_threads_tests.work.Given as goal

abbrev pub invariant-loop : goal.invariant-loop
invariant-loop g l = (goal.iterator-loop g).can_next l.iterator' × (goal.iterator-loop g).is_finite l.iterator' × ((worker_view l.worker).which ≡ (worker_view l.fn.worker).which) × ((worker_view l.worker).claimed_number ≡ None)
