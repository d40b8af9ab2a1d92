-- How the seats of both hosts stand after a change of one of them.
use Rattle.std.proofs.Common.{◌≡◌, ℕ, true, false, not, List, refl, sym, ap, subst, ◌∙◌, Some, None}
use Rattle.std.proofs.lemmas.Bool.{cond-true, cond-false}
use Rattle.crb_history.specs.Snapshot.{Snapshot, IsValidSnapshot}
use Rattle.crb_history.specs.Continued.{device_after}
use Rattle.crb_history.specs.Event.{History}
use Rattle.crb_port.specs.Plain.{plain}
use Rattle.crb_port.specs.declared.job.PortState.{PortState}
use Rattle.crb_machine.specs.Over.{plain_device, IsConsistentDevice, GoesOn}
use Rattle.crb_machine.specs.State.{DeviceState}
use Rattle.crb_machine.specs.Values.{device_of}
use Rattle.crb_machine.specs.Model.{DeviceModel}
use Rattle.crb_worker.specs.declared.progress.Progress.{Progress}
use Rattle.crb_worker.specs.declared.progress.Progress.TheVariants.{Free}
use Rattle.ctrl_model.specs.Link.{Link}
use Rattle.vt_script.specs.declared.event.Event.{Event}
use Rattle.vt_script.specs.declared.reply.Reply.{Reply}
use Rattle.vt_base.specs.declared.types.HostName.{HostName}
use Rattle.vt_base.specs.declared.types.HostName.TheVariants.{A, B}
use Rattle.move_core.specs.declared.stage.MoveStage.{MoveStage}
use Rattle.move_core.specs.declared.stage.MoveStage.TheVariants as stage
use Rattle.move_core.specs.declared.side.Side.TheVariants.{Offering}
use Rattle.move_core.specs.Sides.{side_of, is_running, is_draining, holds_device, other}
use Rattle.two_hosts.specs.Deliveries.{SideState}
use Rattle.two_hosts.specs.Hosts.{TwoHosts, HostState, host_of, with_host, stage_at, host_where, running_host, working_host, is_working, after_line}
use Rattle.two_hosts.specs.Invariant.{HostsInvariant, PairInvariant, IsPresent, IsPassive, side_at}
use Rattle.two_hosts.proofs.RestActs.{rests, offering_top}
use Rattle.two_hosts.proofs.InvariantKept.{free_active}
use Rattle.vt_seat.specs.Follows.{RefinesAt, IsEmulator}
use Rattle.vt_seat.specs.State.{SeatState}
use Rattle.two_seats.specs.Seats.{IsIdle, HasValues, AtStage, IsSeat}
use Rattle.two_seats.specs.Both.{TwoSeats, seat_of, with_seat, running_of, draining_of, FollowsBoth, StepsBoth}
use Rattle.vt_seat.proofs.Going.{goes-on, stands-at}

-- ---- one host changed

-- each host stands where it is decoded, where one of them and what is decoded of it changed
pub seated_both : (b : Snapshot) (piece : ℕ) (p : History) (offered : ℕ → Snapshot) (t : TwoHosts) (w : TwoSeats) (n : HostName) (h : HostState) (s : (SeatState PortState))
    → IsSeat b piece p offered n h s → IsSeat b piece p offered (other n) (host_of t (other n)) (seat_of w (other n))
    → (k : HostName) → IsSeat b piece p offered k (host_of (with_host t n h) k) (seat_of (with_seat w n s) k)
seated_both b piece p offered t w A h s is others A = is
seated_both b piece p offered t w A h s is others B = others
seated_both b piece p offered t w B h s is others A = others
seated_both b piece p offered t w B h s is others B = is

-- ---- a host that neither runs nor drains takes no part in the history

pub stands_still : (b : Snapshot) (p q : History) (offered : ℕ → Snapshot) (at : MoveStage) (s : (SeatState PortState)) → holds_device at ≡ true → AtStage b p offered at s → AtStage b q offered at s
stands_still b p q offered stage.Running s still is = absurd cc
stands_still b p q offered stage.Draining s still is = absurd cc
stands_still b p q offered stage.Empty s still is = is
stands_still b p q offered (stage.Offering e totals) s still is = is
stands_still b p q offered (stage.Released e) s still is = is
stands_still b p q offered (stage.Filling e totals part place) s still is = is
stands_still b p q offered (stage.Prepared e) s still is = is

pub seat_still : (b : Snapshot) (piece : ℕ) (p q : History) (offered : ℕ → Snapshot) (n : HostName) (h : HostState) (s : (SeatState PortState)) → holds_device h.side.stage ≡ true → IsSeat b piece p offered n h s → IsSeat b piece q offered n h s
seat_still b piece p q offered n h s still is = record {
  name_is = is.name_is;
  piece_is = is.piece_is;
  pieces = is.pieces;
  stage_is = is.stage_is;
  top_is = is.top_is;
  calls_to_fault = is.calls_to_fault;
  stands = stands_still b p q offered h.side.stage s still is.stands;
}

-- ---- who holds

passive_still : (at : MoveStage) → IsPassive (side_of at) → holds_device at ≡ true
passive_still stage.Empty is = refl
passive_still (stage.Released e) is = refl
passive_still (stage.Filling e totals part place) is = refl
passive_still (stage.Prepared e) is = refl
passive_still stage.Running is = absurd is
passive_still stage.Draining is = absurd is
passive_still (stage.Offering e totals) is = absurd is

-- beside a host that runs or drains the other one holds its device
pub other_still : (b : Snapshot) (t : TwoHosts) (n : HostName) → HostsInvariant b t → holds_device (stage_at t n) ≡ false → holds_device (stage_at t (other n)) ≡ true
other_still b t n kept works = go kept.0 n kept.1 works
  where
    go : (holder n : HostName) → PairInvariant holder (other holder) (side_at t holder) (side_at t (other holder)) t.offered (IsPresent b t.history) t.sent → holds_device (stage_at t n) ≡ false → holds_device (stage_at t (other n)) ≡ true
    go A A k works = passive_still t.b.side.stage (rests A B t.a.side t.b.side t.offered _ t.sent k _ refl)
    go B B k works = passive_still t.a.side.stage (rests B A t.b.side t.a.side t.offered _ t.sent k _ refl)
    go A B k works = absurd (free_active t.b.side.stage works (rests A B t.a.side t.b.side t.offered _ t.sent k _ refl))
    go B A k works = absurd (free_active t.a.side.stage works (rests B A t.b.side t.a.side t.offered _ t.sent k _ refl))

-- the values of a host that offers are those at the end of the history
pub offers_present : (b : Snapshot) (t : TwoHosts) (n : HostName) (e : ℕ) (totals : List ℕ) → HostsInvariant b t → stage_at t n ≡ stage.Offering e totals → IsPresent b t.history (t.offered e)
offers_present b t n e totals kept at = go kept.0 n kept.1 at
  where
    here : (x y : SideState) (n k : HostName) → PairInvariant n k x y t.offered (IsPresent b t.history) t.sent → x.stage ≡ stage.Offering e totals → IsPresent b t.history (t.offered e)
    here x y n k kept at = subst (λ top. IsPresent b t.history (t.offered top)) (offering_top t.offered x.stage x.top e (ap side_of at) kept.sides.holder) (kept.sides.same (ap holds_device at))

    go : (holder n : HostName) → PairInvariant holder (other holder) (side_at t holder) (side_at t (other holder)) t.offered (IsPresent b t.history) t.sent → stage_at t n ≡ stage.Offering e totals → IsPresent b t.history (t.offered e)
    go A A k at = here t.a.side t.b.side A B k at
    go B B k at = here t.b.side t.a.side B A k at
    go A B k at = absurd (rests A B t.a.side t.b.side t.offered _ t.sent k (Offering e) (ap side_of at))
    go B A k at = absurd (rests B A t.b.side t.a.side t.offered _ t.sent k (Offering e) (ap side_of at))

-- ---- the host that is looked for

pub held_still : (s : MoveStage) → holds_device s ≡ true → is_running s ≡ false
held_still stage.Empty is = refl
held_still stage.Running is = absurd cc
held_still stage.Draining is = absurd cc
held_still (stage.Offering e totals) is = refl
held_still (stage.Released e) is = refl
held_still (stage.Filling e totals part place) is = refl
held_still (stage.Prepared e) is = refl

pub working_host-is : (t : TwoHosts) (n : HostName) → holds_device (stage_at t n) ≡ false → holds_device (stage_at t (other n)) ≡ true → working_host t ≡ Some n
working_host-is t A works still = cond-true (is_working t.a.side.stage) _ _ (ap not works)
working_host-is t B works still = cond-false (is_working t.a.side.stage) _ _ (ap not still) ∙ cond-true (is_working t.b.side.stage) _ _ (ap not works)

-- nor does the host that is looked for, where none runs
pub draining-same : (b : Snapshot) (piece : ℕ) (t : TwoHosts) (w : TwoSeats) → FollowsBoth b piece t w → draining_of w ≡ host_where is_draining t
draining-same b piece t w f = rw ((f.seats A).stage_is, (f.seats B).stage_is) refl

pub running_host-is : (t : TwoHosts) (n : HostName) → is_running (stage_at t n) ≡ true → is_running (stage_at t (other n)) ≡ false → running_host t ≡ Some n
running_host-is t A runs still = cond-true (is_running t.a.side.stage) _ _ runs
running_host-is t B runs still = cond-false (is_running t.a.side.stage) _ _ still ∙ cond-true (is_running t.b.side.stage) _ _ runs

pub running-same : (b : Snapshot) (piece : ℕ) (t : TwoHosts) (w : TwoSeats) → FollowsBoth b piece t w → running_of w ≡ running_host t
running-same b piece t w f = rw ((f.seats A).stage_is, (f.seats B).stage_is) refl

-- ---- the guest goes on here

-- a held device with the values at the end of the history goes on there
pub goes_on_here : (b : Snapshot) (p : History) (v : Snapshot) (d e : DeviceModel PortState) (progress : Progress) (l : Link)
    → IsPresent b p v → HasValues v d l → IsIdle progress l → d.held ≡ true → IsConsistentDevice plain d → GoesOn plain d e → RefinesAt b p (plain_device e) progress l
goes_on_here b p v d e progress l present has idle held consistent goes =
    let now = stands-at b p l (subst IsValidSnapshot present.values has.fit) present.may idle.quiet (record { emulator = subst (λ (x : Snapshot). IsEmulator l.emulator x.tpm None) present.values has.emulator; channel = idle.channel }) in
    let device : plain_device e ≡ device_of (device_after b p) = goes-on d e held consistent goes ∙ ap device_of (has.device ∙ ap (λ (x : Snapshot). x.device) present.values) in
    subst (λ (q : Progress). RefinesAt b p (plain_device e) q l) (sym idle.free) (subst (λ (x : DeviceState). RefinesAt b p x Free l) (sym device) now)

-- ---- where a seat is doesn't hang on the count of its faults

stands_any : (b : Snapshot) (p : History) (offered : ℕ → Snapshot) (x : MoveStage) (s : SeatState PortState) (faults : ℕ) → AtStage b p offered x s → AtStage b p offered x (record s { faults = faults })
stands_any b p offered stage.Empty s faults is = is
stands_any b p offered stage.Running s faults is = is
stands_any b p offered stage.Draining s faults is = is
stands_any b p offered (stage.Offering e totals) s faults is = is
stands_any b p offered (stage.Released e) s faults is = is
stands_any b p offered (stage.Filling e totals part place) s faults is = is
stands_any b p offered (stage.Prepared e) s faults is = is

seat_any : (b : Snapshot) (piece : ℕ) (p : History) (offered : ℕ → Snapshot) (n : HostName) (h : HostState) (s : SeatState PortState) (faults : ℕ) → IsSeat b piece p offered n h s → IsSeat b piece p offered n h (record s { faults = faults })
seat_any b piece p offered n h s faults is = record {
  name_is = is.name_is;
  piece_is = is.piece_is;
  pieces = is.pieces;
  stage_is = is.stage_is;
  top_is = is.top_is;
  calls_to_fault = is.calls_to_fault;
  stands = stands_any b p offered h.side.stage s faults is.stands;
}

-- the seats with these counts of faults
abbrev pub with_faults : TwoSeats → ℕ → ℕ → TwoSeats
with_faults w fa fb = record w { a = record w.a { faults = fa }; b = record w.b { faults = fb } }

follows_any : (b : Snapshot) (piece : ℕ) (t : TwoHosts) (w : TwoSeats) (fa fb : ℕ) → FollowsBoth b piece t w → FollowsBoth b piece t (with_faults w fa fb)
follows_any b piece t w fa fb f = record { fit = f.fit; invariant = f.invariant; drains = f.drains; fits = f.fits; seats = seats; some = f.some; bag_is = f.bag_is }
  where
    seats : (n : HostName) → IsSeat b piece t.history t.offered n (host_of t n) (seat_of (with_faults w fa fb) n)
    seats A = seat_any b piece t.history t.offered A t.a w.a fa (f.seats A)
    seats B = seat_any b piece t.history t.offered B t.b w.b fb (f.seats B)

pub steps_any : (b : Snapshot) (piece : ℕ) (t : TwoHosts) (line : Event) (r : Reply) (w : TwoSeats) (fa fb : ℕ) → StepsBoth b piece t line r w → StepsBoth b piece t line r (with_faults w fa fb)
steps_any b piece t line r w fa fb s = record { answers = s.answers; legal = s.legal; follows = follows_any b piece (after_line b piece t line r) w fa fb s.follows }
