-- What a save and a line of the guest keep of a world.
use Rattle.std.proofs.Common.{◌≡◌, ℕ, refl, sym, ap, subst, ◌∙◌, Some, None, ◌⊎◌, inl, inr}
use Rattle.std.specs.Prelude.{Option, if◌then◌else◌}
use Rattle.crb_regs.specs.Access.{Access}
use Rattle.crb_regs.specs.declared.registers.Regs.{Regs}
use Rattle.crb_port.specs.declared.job.PortState.{PortState}
use Rattle.crb_history.specs.Snapshot.{Snapshot}
use Rattle.crb_history.specs.Device.{phase_of}
use Rattle.vt_transcript.specs.OneHost.{OneHost}
use Rattle.vt_base.specs.declared.types.HostName.{HostName}
use Rattle.vt_base.specs.declared.types.HostName.TheVariants.{A, B}
use Rattle.move_core.specs.Model.{HostModel}
use Rattle.move_core.specs.declared.stage.MoveStage.{MoveStage}
use Rattle.move_core.specs.Sides.{is_running}
use Rattle.two_hosts.specs.Hosts.{TwoHosts}
use Rattle.vt_script.specs.declared.event.Event.{Event as Line}
use Rattle.vt_script.specs.declared.event.Event.TheVariants.{Access as AccessLine, Work, Ask, Reset}
use Rattle.vt_seat.specs.Follows.{RefinesOneHost, IsInjected}
use Rattle.vt_seat.specs.Saving as seat
use Rattle.vt_seat.specs.Seats.{world_of}
use Rattle.vt_seat.specs.State.{SeatState}
use Rattle.two_seats.specs.Both.{TwoSeats, FollowsBoth, one_of, running_of}
use Rattle.two_seats.proofs.Lines.{follows_one, goes_on_at_a, runs_here}
use Rattle.vt_world.specs.Saving.{CanSave}
use Rattle.vt_world.specs.Worlds.{KeepsHost, KeepsOthers, ChangesOnly}

-- ---- a save

no_fault : (injected : Option ℕ) (count : ℕ) (left : Option ℕ) → IsInjected injected count left → left ≡ None → injected ≡ None
no_fault None count left is none = refl
no_fault (Some call) count left is none = absurd (never (sym is.1 ∙ none))
  where
    never : {n : ℕ} → Some n ≡ None → ⊥
    never same = cc

-- so can A's seat
pub seat_can : (b : Snapshot) (piece : ℕ) (t : TwoHosts) (w : TwoSeats) → CanSave b piece t w → seat.CanSave b (one_of t A) (world_of w.a)
seat_can b piece t w can = record {
  follows = follows_one b piece t w A can.follows (runs_here w A can.runs);
  unordered = no_fault t.a.injected_fault t.a.calls w.a.calls_to_fault (can.follows.seats A).calls_to_fault can.unordered;
  working = can.working;
}

-- the world can be saved, whatever is known of its hosts
abbrev pub Can : TwoSeats → Type 0
Can w = (b : Snapshot) × (piece : ℕ) × (t : TwoHosts) × CanSave b piece t w

-- a device that isn't lost by one history isn't by any other that leads here
pub can_any : (w : TwoSeats) → Can w → (b : Snapshot) (piece : ℕ) (t : TwoHosts) → FollowsBoth b piece t w → CanSave b piece t w
can_any w (c, size, u, can) b piece t f =
    let runs = runs_here w A can.runs in
    let one = follows_one c size u w A can.follows runs in
    let here = follows_one b piece t w A f runs in
    let same : phase_of c u.history ≡ phase_of b t.history = ap (λ (r : Regs). r.phase) (sym one.stands.device.regs ∙ here.stands.device.regs) in
    record { follows = f; runs = can.runs; unordered = can.unordered; working = λ lost. can.working (same ∙ lost) }

-- what was known of the world is known of it still
pub save_keeps : (w : TwoSeats) (new : SeatState PortState) → Can w → ((b : Snapshot) (s : OneHost) → seat.CanSave b s (world_of w.a) → RefinesOneHost b s (world_of new))
    → new ≡ record w.a { host = record w.a.host { device = new.host.device } } → (b : Snapshot) (piece : ℕ) (t : TwoHosts) → FollowsBoth b piece t w → FollowsBoth b piece t (record w { a = new })
save_keeps w new can goes_on others b piece t f =
    let here = can_any w can b piece t f in
    goes_on_at_a b piece t w new f (runs_here w A here.runs) (goes_on b (one_of t A) (seat_can b piece t w here)) others

-- ---- a line of the guest

pub others_at_a : (w : TwoSeats) (new : SeatState PortState) → running_of w ≡ Some A → KeepsHost w.a new → KeepsOthers w (record w { a = new })
others_at_a w new on keeps = record {
  running = ap (λ (s : MoveStage). if is_running s then Some A else (if is_running w.b.host.stage then Some B else None)) (ap (λ (h : HostModel PortState). h.stage) keeps);
  bag = refl;
  hosts = subst (λ (n : Option HostName). ChangesOnly n w (record w { a = new })) (sym on) (refl, keeps);
}

pub others_at_b : (w : TwoSeats) (new : SeatState PortState) → running_of w ≡ Some B → KeepsHost w.b new → KeepsOthers w (record w { b = new })
others_at_b w new on keeps = record {
  running = ap (λ (s : MoveStage). if is_running w.a.host.stage then Some A else (if is_running s then Some B else None)) (ap (λ (h : HostModel PortState). h.stage) keeps);
  bag = refl;
  hosts = subst (λ (n : Option HostName). ChangesOnly n w (record w { b = new })) (sym on) (refl, keeps);
}

pub others_stopped : (w : TwoSeats) → running_of w ≡ None → KeepsOthers w w
others_stopped w none = record { running = refl; bag = refl; hosts = subst (λ (n : Option HostName). ChangesOnly n w w) (sym none) refl }

-- a line of the guest other than `work` isn't `work`
pub not_work : (l : Line) → ((a : Access) × (l ≡ AccessLine a)) ⊎ ((l ≡ Ask) ⊎ (l ≡ Reset)) → l ≡ Work → ⊥
not_work l (inl (a, is)) work = let wrong : AccessLine a ≡ Work = sym is ∙ work in cc
not_work l (inr (inl is)) work = let wrong : Ask ≡ Work = sym is ∙ work in cc
not_work l (inr (inr is)) work = let wrong : Reset ≡ Work = sym is ∙ work in cc
