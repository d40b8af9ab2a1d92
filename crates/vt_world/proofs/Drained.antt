-- The host that drains, and whose faults a step of its worker counts.
use Rattle.std.proofs.Common.{◌≡◌, ℕ, Bool, true, false, refl, sym, ap, subst, ◌∙◌, Some, None}
use Rattle.std.specs.Prelude.{if◌then◌else◌}
use Rattle.crb_history.specs.Snapshot.{Snapshot}
use Rattle.vt_base.specs.declared.types.HostName.{HostName}
use Rattle.vt_base.specs.declared.types.HostName.TheVariants.{A, B}
use Rattle.move_core.specs.Sides.{is_draining, holds_device, other}
use Rattle.move_core.specs.declared.stage.MoveStage.{MoveStage}
use Rattle.move_core.specs.declared.stage.MoveStage.TheVariants as stage
use Rattle.two_hosts.specs.Hosts.{TwoHosts, stage_at}
use Rattle.vt_script.specs.declared.event.Event.TheVariants as event
use Rattle.vt_script.specs.declared.reply.Reply.{Reply}
use Rattle.vt_seat.specs.Follows.{CountsFault, RefinesOneHost}
use Rattle.vt_seat.specs.Seats.{world_of}
use Rattle.two_seats.specs.Seats.{AtStage}
use Rattle.two_seats.specs.Both.{TwoSeats, one_of, seat_of, draining_of, FollowsBoth, CountsBoth}
use Rattle.two_seats.proofs.Counting.{counts_at}
use Rattle.two_seats.proofs.Seating.{other_still, working_host-is}

-- ---- the host that drains

draining_stage : (x : MoveStage) → is_draining x ≡ true → x ≡ stage.Draining
draining_stage stage.Draining is = refl
draining_stage stage.Empty is = absurd cc
draining_stage stage.Running is = absurd cc
draining_stage (stage.Offering e totals) is = absurd cc
draining_stage (stage.Released e) is = absurd cc
draining_stage (stage.Filling e totals part place) is = absurd cc
draining_stage (stage.Prepared e) is = absurd cc

found_at_a : (x y : Bool) → (if x then Some A else (if y then Some B else None)) ≡ Some A → x ≡ true
found_at_a true y found = refl
found_at_a false true found = absurd cc
found_at_a false false found = absurd cc

found_at_b : (x y : Bool) → (if x then Some A else (if y then Some B else None)) ≡ Some B → y ≡ true
found_at_b true y found = absurd cc
found_at_b false true found = refl
found_at_b false false found = absurd cc

pub drains_here : (w : TwoSeats) (n : HostName) → draining_of w ≡ Some n → (seat_of w n).host.stage ≡ stage.Draining
drains_here w A found = draining_stage w.a.host.stage (found_at_a (is_draining w.a.host.stage) (is_draining w.b.host.stage) found)
drains_here w B found = draining_stage w.b.host.stage (found_at_b (is_draining w.a.host.stage) (is_draining w.b.host.stage) found)

-- and where the history of the guest leads, it is
pub drains_along : (b : Snapshot) (piece : ℕ) (t : TwoHosts) (w : TwoSeats) (n : HostName) → FollowsBoth b piece t w → (seat_of w n).host.stage ≡ stage.Draining → RefinesOneHost b (one_of t n) (world_of (seat_of w n))
drains_along b piece t w n f drains =
    let at : stage_at t n ≡ stage.Draining = sym (f.seats n).stage_is ∙ drains in
    record { fit = f.fit; stands = subst (λ (x : MoveStage). AtStage b t.history t.offered x (seat_of w n)) at (f.seats n).stands; calls_to_fault = (f.seats n).calls_to_fault }

-- ---- the faults

pub drained_counted : (b : Snapshot) (piece : ℕ) (t : TwoHosts) (w new : TwoSeats) (n : HostName) (r : Reply) → FollowsBoth b piece t w → (seat_of w n).host.stage ≡ stage.Draining
    → CountsFault r (seat_of w n).faults (seat_of new n).faults → (seat_of new (other n)).faults ≡ (seat_of w (other n)).faults → CountsBoth t event.Work r w new
drained_counted b piece t w new n r f drains here there =
    let free : holds_device (stage_at t n) ≡ false = ap holds_device (sym (f.seats n).stage_is ∙ drains) in
    counts_at t event.Work n r w new (working_host-is t n free (other_still b t n f.invariant free)) here there
