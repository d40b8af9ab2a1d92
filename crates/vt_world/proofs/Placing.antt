-- Where the guest of two hosts is after a move, over any port.
use Rattle.std.proofs.Common.{◌≡◌, ℕ, ◌+◌, ◌*◌, Bool, true, false, not, Option, Some, None, refl, ap, ◌∙◌, arith}
use Rattle.std.specs.Prelude.{if◌then◌else◌}
use Rattle.std.proofs.lemmas.Bool.{ltb-true, ne_eqb}
use Rattle.crb_port.specs.Views.{PortView}
use Rattle.crb_port.specs.declared.job.PortState.{PortState}
use Rattle.crb_machine.specs.Model.{DeviceModel}
use Rattle.tpm_core.specs.declared.parts.TpmParts.{TpmParts}
use Rattle.vt_base.specs.declared.types.HostName.{HostName}
use Rattle.vt_base.specs.declared.types.HostName.TheVariants.{A, B}
use Rattle.move_core.specs.Model.{HostModel}
use Rattle.move_core.specs.Requests.{WiresView}
use Rattle.move_core.specs.Sides.{other, is_active, is_running}
use Rattle.move_core.specs.declared.stage.MoveStage.{MoveStage}
use Rattle.move_core.specs.declared.stage.MoveStage.TheVariants.{Empty, Running, Draining, Offering, Released, Filling, Prepared}
use Rattle.hand_over.specs.Counts.{pieces_from}
use Rattle.hand_over.specs.Arrival.{arrives, loses}
use Rattle.hand_over.specs.Ends.{MoveEnds, IsTakenBack}
use Rattle.vt_seat.specs.Seats.{world_of, view_of}
use Rattle.vt_world.specs.Moving.{CanMoveFrom, MovesFrom, GivesUpFrom, PairCanMove, PairMoves, PairGivesUp, pieces_moved_from, pieces_moved}
use Rattle.vt_world.specs.Pairs.{running_world}
use Rattle.vt_world.specs.State.{PairState, seat_of, runs_at_a, running_host}
use Rattle.vt_world.specs.Placement.{Placement, top_of, placement_of, moved, given_up, IsPlaced}

pub idle_stage : (s : MoveStage) → is_active s ≡ false → is_running s ≡ false
idle_stage Empty rests = refl
idle_stage Running rests = absurd cc
idle_stage Draining rests = absurd cc
idle_stage (Offering e totals) rests = refl
idle_stage (Released e) rests = refl
idle_stage (Filling e totals part place) rests = refl
idle_stage (Prepared e) rests = refl

-- ---- which seat the guest is at

abbrev pub is_a : HostName → Bool
is_a A = true
is_a B = false

at_by : (a b : Bool) (n : HostName) → (if a then Some A else (if b then Some B else None)) ≡ Some n → a ≡ is_a n
at_by true b A is = refl
at_by true b B is = absurd cc
at_by false true A is = absurd cc
at_by false true B is = refl
at_by false false n is = absurd cc

pub at_a : {P : Type 0} (w : PairState P) (n : HostName) → running_host w ≡ Some n → runs_at_a w ≡ is_a n
at_a w n is = at_by (runs_at_a w) (is_running w.b.host.stage) n is

pub at_world : (w : PairState PortState) (n : HostName) → running_host w ≡ Some n → running_world w ≡ world_of (seat_of n w)
at_world w A is = ap (λ (b : Bool). if b then world_of w.a else world_of w.b) (at_a w A is)
at_world w B is = ap (λ (b : Bool). if b then world_of w.a else world_of w.b) (at_a w B is)

pub running_at : {P : Type 0} (w : PairState P) (n : HostName) → is_running (seat_of n w).host.stage ≡ true → is_running (seat_of (other n) w).host.stage ≡ false → running_host w ≡ Some n
running_at w A runs rests = ap (λ (b : Bool). if b then Some A else (if is_running w.b.host.stage then Some B else None)) runs
running_at w B runs rests =
    ap (λ (b : Bool). if b then Some A else (if is_running w.b.host.stage then Some B else None)) rests
    ∙ ap (λ (b : Bool). if b then Some B else None) runs

-- ---- the hosts after a move

-- by whether the guest arrived, and whether the first message was lost
pub record HostsAfter {P : Type 0} (arrived first : Bool) (epoch : ℕ) (target new_source new_target : HostModel P) : Type 0 where
  pub source_runs : is_running new_source.stage ≡ not arrived
  pub target_runs : is_running new_target.stage ≡ arrived
  pub source_top : new_source.top ≡ epoch
  pub target_top : new_target.top ≡ (if first then target.top else epoch)

-- a guest arrives only where the Offer isn't lost
first_kept : (n : ℕ) (lost : Option ℕ) → arrives n lost ≡ true → loses lost 1 ≡ false
first_kept n None is = refl
first_kept n (Some k) is = ne_eqb k 1 (λ same. absurd (omega (arith, same, ltb-true (2 * n + 2) k is)))

taken_back : {P : Type 0} (port_view : P → PortView) (source : HostModel P) (stopped : DeviceModel P) (target : HostModel P) (epoch : ℕ) (new_source new_target : HostModel P)
    → IsTakenBack port_view source stopped target epoch new_source new_target → HostsAfter false false epoch target new_source new_target
taken_back {P} port_view source stopped target epoch new_source new_target back = record {
  source_runs = ap (λ (h : HostModel P). is_running h.stage) back.0.source_is;
  target_runs = ap (λ (h : HostModel P). is_running h.stage) back.1.0;
  source_top = ap (λ (h : HostModel P). h.top) back.0.source_is;
  target_top = ap (λ (h : HostModel P). h.top) back.1.0;
}

hosts_after : {P Schedule : Type 0} (arrived first : Bool) (port_view : P → PortView) (source : HostModel P) (stopped : DeviceModel P) (tpm : Option TpmParts) (target : HostModel P) (epoch : ℕ) (new_source new_target : HostModel P) (v : WiresView Schedule)
    → (arrived ≡ true → first ≡ false) → is_active target.stage ≡ false → MoveEnds arrived first port_view source stopped tpm target epoch new_source new_target v → HostsAfter arrived first epoch target new_source new_target
hosts_after true true port_view source stopped tpm target epoch new_source new_target v succeeds_if_promised rests ends = absurd (let wrong : true ≡ false = succeeds_if_promised refl in cc)
hosts_after {P} {Schedule} true false port_view source stopped tpm target epoch new_source new_target v succeeds_if_promised rests ends = record {
  source_runs = ap (λ (h : HostModel P). is_running h.stage) ends.source_is;
  target_runs = ap (λ (h : HostModel P). is_running h.stage) ends.target_is;
  source_top = ap (λ (h : HostModel P). h.top) ends.source_is;
  target_top = ap (λ (h : HostModel P). h.top) ends.target_is;
}
hosts_after {P} {Schedule} false true port_view source stopped tpm target epoch new_source new_target v succeeds_if_promised rests ends = record {
  source_runs = ap (λ (h : HostModel P). is_running h.stage) ends.0.source_is;
  target_runs = ap (λ (h : HostModel P). is_running h.stage) ends.1 ∙ idle_stage target.stage rests;
  source_top = ap (λ (h : HostModel P). h.top) ends.0.source_is;
  target_top = ap (λ (h : HostModel P). h.top) ends.1;
}
hosts_after false false port_view source stopped tpm target epoch new_source new_target v succeeds_if_promised rests ends = taken_back port_view source stopped target epoch new_source new_target ends

-- ---- the placement after a move

placed_after : {P : Type 0} (r : HostName) (ta tb : ℕ) (arrived first : Bool) (old new : PairState P) → IsPlaced (record { running = r; top_a = ta; top_b = tb }) old
    → HostsAfter arrived first ((seat_of r old).host.top + 1) (seat_of (other r) old).host (seat_of r new).host (seat_of (other r) new).host
    → IsPlaced (placement_of (if arrived then other r else r) r (top_of r (record { running = r; top_a = ta; top_b = tb }) + 1)
    (if first then top_of (other r) (record { running = r; top_a = ta; top_b = tb }) else top_of r (record { running = r; top_a = ta; top_b = tb }) + 1)) new
placed_after A ta tb true first old new is after = record {
  running = running_at new B after.target_runs after.source_runs;
  top_a = after.source_top ∙ ap (λ (t : ℕ). t + 1) is.top_a;
  top_b = after.target_top ∙ ap (λ (t : ℕ). if first then t else old.a.host.top + 1) is.top_b ∙ ap (λ (t : ℕ). if first then tb else t + 1) is.top_a;
}
placed_after A ta tb false first old new is after = record {
  running = running_at new A after.source_runs after.target_runs;
  top_a = after.source_top ∙ ap (λ (t : ℕ). t + 1) is.top_a;
  top_b = after.target_top ∙ ap (λ (t : ℕ). if first then t else old.a.host.top + 1) is.top_b ∙ ap (λ (t : ℕ). if first then tb else t + 1) is.top_a;
}
placed_after B ta tb true first old new is after = record {
  running = running_at new A after.target_runs after.source_runs;
  top_a = after.target_top ∙ ap (λ (t : ℕ). if first then t else old.b.host.top + 1) is.top_a ∙ ap (λ (t : ℕ). if first then ta else t + 1) is.top_b;
  top_b = after.source_top ∙ ap (λ (t : ℕ). t + 1) is.top_b;
}
placed_after B ta tb false first old new is after = record {
  running = running_at new B after.source_runs after.target_runs;
  top_a = after.target_top ∙ ap (λ (t : ℕ). if first then t else old.b.host.top + 1) is.top_a ∙ ap (λ (t : ℕ). if first then ta else t + 1) is.top_b;
  top_b = after.source_top ∙ ap (λ (t : ℕ). t + 1) is.top_b;
}

pub placed_by : {P : Type 0} (r : HostName) (ta tb : ℕ) (here : Bool) → here ≡ is_a r → (port_view : P → PortView) (lost : Option ℕ) (old new : PairState P) (m : MovesFrom here port_view lost old new)
    → is_active (seat_of (other r) old).host.stage ≡ false → IsPlaced (record { running = r; top_a = ta; top_b = tb }) old
    → IsPlaced (moved (pieces_moved_from here port_view lost old new m) lost (record { running = r; top_a = ta; top_b = tb })) new
placed_by A ta tb true at port_view lost old new m rests is =
    let n = pieces_from (record old.a.host { device = m.moved.stopped }) (Some old.a.link) in
    placed_after A ta tb (arrives n lost) (loses lost 1) old new is
    (hosts_after (arrives n lost) (loses lost 1) port_view old.a.host m.moved.stopped old.a.link.emulator.tpm old.b.host (old.a.host.top + 1) new.a.host new.b.host (view_of new.b) (first_kept n lost) rests m.moved.ends)
placed_by B ta tb false at port_view lost old new m rests is =
    let n = pieces_from (record old.b.host { device = m.moved.stopped }) (Some old.b.link) in
    placed_after B ta tb (arrives n lost) (loses lost 1) old new is
    (hosts_after (arrives n lost) (loses lost 1) port_view old.b.host m.moved.stopped old.b.link.emulator.tpm old.a.host (old.b.host.top + 1) new.b.host new.a.host (view_of new.a) (first_kept n lost) rests m.moved.ends)
placed_by A ta tb false at port_view lost old new m rests is = absurd cc
placed_by B ta tb true at port_view lost old new m rests is = absurd cc

rests_by : {P : Type 0} (r : HostName) (here : Bool) → here ≡ is_a r → (port_view : P → PortView) (old : PairState P) → CanMoveFrom here port_view old → is_active (seat_of (other r) old).host.stage ≡ false
rests_by A true at port_view old can = can.can_move.rests
rests_by B false at port_view old can = can.can_move.rests
rests_by A false at port_view old can = absurd cc
rests_by B true at port_view old can = absurd cc

pub pair_placed : {P : Type 0} (port_view : P → PortView) (lost : Option ℕ) (s : Placement) (old new : PairState P) (m : PairMoves port_view lost old new) → PairCanMove port_view old → IsPlaced s old
    → IsPlaced (moved (pieces_moved port_view lost old new m) lost s) new
pair_placed port_view lost s old new m can is =
    placed_by s.running s.top_a s.top_b (runs_at_a old) (at_a old s.running is.running) port_view lost old new m (rests_by s.running (runs_at_a old) (at_a old s.running is.running) port_view old can) is

pub back_by : {P : Type 0} (r : HostName) (ta tb : ℕ) (here : Bool) → here ≡ is_a r → (port_view : P → PortView) (old new : PairState P) → GivesUpFrom here port_view old new
    → IsPlaced (record { running = r; top_a = ta; top_b = tb }) old → IsPlaced (given_up (record { running = r; top_a = ta; top_b = tb })) new
back_by A ta tb true at port_view old new m is =
    placed_after A ta tb false false old new is (taken_back port_view old.a.host m.given_up.stopped old.b.host (old.a.host.top + 1) new.a.host new.b.host m.given_up.taken_back)
back_by B ta tb false at port_view old new m is =
    placed_after B ta tb false false old new is (taken_back port_view old.b.host m.given_up.stopped old.a.host (old.b.host.top + 1) new.b.host new.a.host m.given_up.taken_back)
back_by A ta tb false at port_view old new m is = absurd cc
back_by B ta tb true at port_view old new m is = absurd cc

pub pair_back : {P : Type 0} (port_view : P → PortView) (s : Placement) (old new : PairState P) → PairGivesUp port_view old new → IsPlaced s old → IsPlaced (given_up s) new
pair_back port_view s old new m is = back_by s.running s.top_a s.top_b (runs_at_a old) (at_a old s.running is.running) port_view old new m is
