use Rattle.std.proofs.Common.{◌≡◌, true}
use Rattle.crb_shared.specs.Ends.{guest_view}
use Rattle.port_tests.proofs.two_threads_tests.drive.Given as goal

abbrev pub invariant-loop-number : goal.invariant-loop-number
invariant-loop-number g l = ((guest_view l.guest).which ≡ (guest_view l.fn.guest).which) × ((guest_view l.guest).is_free ≡ true)
