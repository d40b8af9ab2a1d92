-- A guest of two hosts can be moved, and can be moved again after an access and after a move.
use Rattle.std.proofs.Common.{◌≡◌, ℕ, ◌≤◌, ◌<◌, Bool, true, false, Option, Some, refl, sym, ap, subst, ◌∙◌, arith}
use Rattle.std.specs.Prelude.{◌-◌, ◌^◌, if◌then◌else◌}
use Rattle.crb_port.specs.Plain.{plain}
use Rattle.crb_port.specs.declared.job.PortState.{PortState}
use Rattle.crb_regs.specs.Access.{Access}
use Rattle.crb_history.specs.Snapshot.{Snapshot}
use Rattle.vt_transcript.specs.OneHost.{OneHost}
use Rattle.vt_base.specs.declared.types.HostName.{HostName}
use Rattle.vt_base.specs.declared.types.HostName.TheVariants.{A, B}
use Rattle.move_core.specs.Model.{HostModel}
use Rattle.move_core.specs.Sides.{other, is_active, is_running}
use Rattle.hand_over.specs.Arrival.{arrives}
use Rattle.vt_seat.specs.Follows.{RefinesOneHost}
use Rattle.vt_seat.specs.State.{WorldState, SeatState}
use Rattle.vt_seat.specs.Moves.{CanGo}
use Rattle.vt_seat.specs.Seats.{StartsAs, IsEmptySeat, world_of}
use Rattle.vt_seat.specs.Wires.{WiresState}
use Rattle.vt_world.specs.Moving.{CanMoveTo, CanMoveFrom, MovesFrom, GivesUpFrom, GivesUp, PairCanMove, PairMoves, PairGivesUp}
use Rattle.vt_world.specs.Pairs.{PairLeads, KeepsSeat, KeepsSeats, running_world}
use Rattle.vt_world.specs.State.{PairState, seat_of}
use Rattle.vt_world.specs.Placement.{Placement, IsPlaced, top_of, running_top, first_placement, placement_of, moved, given_up}
use Rattle.vt_world.specs.Movable.{IsMovableTo, IsMovable, pieces_at}
use Rattle.vt_world.proofs.Placing.{is_a, at_a, at_world, running_at, idle_stage, placed_by, back_by}
use Rattle.vt_world.proofs.Handing.{GuestLaws, SeatsEnd, can_move_to, seats_moved, seats_given_up}

-- ---- by the host whose guest runs

can_from : (r : HostName) (w : PairState PortState) → CanMoveTo plain (seat_of r w) (seat_of (other r) w) → CanMoveFrom (is_a r) plain w
can_from A w can = can
can_from B w can = can

gives_up_at : (r : HostName) (old new : PairState PortState) → GivesUpFrom (is_a r) plain old new → GivesUp plain (seat_of r old) (seat_of (other r) old) (seat_of r new) (seat_of (other r) new)
gives_up_at A old new m = m
gives_up_at B old new m = m

-- the guest is at the other seat, or still at this one
ends_at : (arrived : Bool) (r : HostName) (piece : ℕ) (b : Snapshot) (h : OneHost) (new : PairState PortState) → SeatsEnd arrived piece b h (seat_of r new) (seat_of (other r) new)
    → IsMovableTo piece (seat_of (if arrived then other r else r) new) (seat_of (other (if arrived then other r else r)) new) × RefinesOneHost b h (world_of (seat_of (if arrived then other r else r) new))
ends_at true A piece b h new ends = ends
ends_at true B piece b h new ends = ends
ends_at false A piece b h new ends = ends
ends_at false B piece b h new ends = ends

-- the guest of two hosts where it runs
pub can_move : (laws : GuestLaws) (b : Snapshot) (h : OneHost) (piece : ℕ) (s : Placement) (w : PairState PortState) → IsMovable piece s w → CanGo b h (running_world w) → running_top s < 2 ^ 64 - 1 → PairCanMove plain w
can_move laws b h piece s w movable can far =
    let here = subst (CanGo b h) (at_world w s.running movable.placed.running) can in
    subst (λ (at : Bool). CanMoveFrom at plain w) (sym (at_a w s.running movable.placed.running))
    (can_from s.running w
    (can_move_to b h piece (seat_of s.running w) (seat_of (other s.running) w) movable.seats movable.least movable.most (laws.rests b h (world_of (seat_of s.running w)) here)
    (subst (λ (t : ℕ). t < 2 ^ 64 - 1) (sym (top_at s.running s.top_a s.top_b movable.placed)) far)))
  where
    top_at : (r : HostName) (ta tb : ℕ) → IsPlaced (record { running = r; top_a = ta; top_b = tb }) w → (seat_of r w).host.top ≡ top_of r (record { running = r; top_a = ta; top_b = tb })
    top_at A ta tb is = is.top_a
    top_at B ta tb is = is.top_b

-- ---- an access

seat_kept : (piece : ℕ) (source target new_source new_target : SeatState PortState) → KeepsSeat source new_source → new_target ≡ target → IsMovableTo piece source target → IsMovableTo piece new_source new_target
seat_kept piece source target new_source new_target keeps same m =
    subst (IsMovableTo piece new_source) (sym same) (record {
      names = m.names ∙ sym (ap (λ (h : HostModel PortState). other h.name) keeps.host);
      runs = ap (λ (h : HostModel PortState). h.stage) keeps.host ∙ m.runs;
      rests = m.rests;
      below = omega (arith, m.below, ap (λ (h : HostModel PortState). h.top) keeps.host);
      source_pieces = record { of_record = ap (λ (h : HostModel PortState). h.piece) keeps.host ∙ m.source_pieces.of_record; of_blobs = keeps.piece ∙ m.source_pieces.of_blobs };
      target_pieces = m.target_pieces;
      idle = m.idle;
    })

-- the stages and the epochs stay
record StaysAt (r : HostName) (old new : PairState PortState) : Type 0 where
  runs : (seat_of r new).host.stage ≡ (seat_of r old).host.stage
  rests : (seat_of (other r) new).host.stage ≡ (seat_of (other r) old).host.stage
  top_a : new.a.host.top ≡ old.a.host.top
  top_b : new.b.host.top ≡ old.b.host.top

kept_seats : (r : HostName) (piece : ℕ) (old new : PairState PortState) → KeepsSeats (is_a r) old new → IsMovableTo piece (seat_of r old) (seat_of (other r) old)
    → StaysAt r old new × IsMovableTo piece (seat_of r new) (seat_of (other r) new)
kept_seats A piece old new (keeps, same) m = (
  record {
    runs = ap (λ (h : HostModel PortState). h.stage) keeps.host;
    rests = ap (λ (s : SeatState PortState). s.host.stage) same;
    top_a = ap (λ (h : HostModel PortState). h.top) keeps.host;
    top_b = ap (λ (s : SeatState PortState). s.host.top) same;
  },
  seat_kept piece old.a old.b new.a new.b keeps same m,
)
kept_seats B piece old new (keeps, same) m = (
  record {
    runs = ap (λ (h : HostModel PortState). h.stage) keeps.host;
    rests = ap (λ (s : SeatState PortState). s.host.stage) same;
    top_a = ap (λ (s : SeatState PortState). s.host.top) same;
    top_b = ap (λ (h : HostModel PortState). h.top) keeps.host;
  },
  seat_kept piece old.b old.a new.b new.a keeps same m,
)

pub kept : (piece : ℕ) (s : Placement) (old new : PairState PortState) (a : Access) (value : ℕ) → IsMovable piece s old → PairLeads old a value new → IsMovable piece s new
kept piece s old new a value m leads =
    let at = subst (λ (here : Bool). KeepsSeats here old new) (at_a old s.running m.placed.running) leads.others in
    let stays = kept_seats s.running piece old new at m.seats in
    record {
      placed = record {
        running = running_at new s.running (ap is_running (stays.0.runs ∙ m.seats.runs)) (ap is_running stays.0.rests ∙ idle_stage (seat_of (other s.running) old).host.stage m.seats.rests);
        top_a = stays.0.top_a ∙ m.placed.top_a;
        top_b = stays.0.top_b ∙ m.placed.top_b;
      };
      least = m.least;
      most = m.most;
      seats = stays.1;
    }

-- ---- a move

-- where the guest is after a move of it
runs_where : (now r : HostName) (here there : ℕ) → (placement_of now r here there).running ≡ now
runs_where now A here there = refl
runs_where now B here there = refl

movable_by : (piece : ℕ) (b : Snapshot) (h : OneHost) (now r : HostName) (here there : ℕ) (new : PairState PortState) → 1 ≤ piece → piece ≤ 4096 → IsPlaced (placement_of now r here there) new
    → IsMovableTo piece (seat_of now new) (seat_of (other now) new) × RefinesOneHost b h (world_of (seat_of now new)) → IsMovable piece (placement_of now r here there) new × RefinesOneHost b h (running_world new)
movable_by piece b h now r here there new least most placed ends =
    let at = runs_where now r here there in (
      record {
        placed = placed;
        least = least;
        most = most;
        seats = subst (λ (n : HostName). IsMovableTo piece (seat_of n new) (seat_of (other n) new)) (sym at) ends.0;
      },
      subst (RefinesOneHost b h) (sym (at_world new now (placed.running ∙ ap Some at))) ends.1,
    )

moved_at : (laws : GuestLaws) (b : Snapshot) (h : OneHost) (piece : ℕ) (lost : Option ℕ) (r : HostName) (ta tb : ℕ) (old new : PairState PortState) → IsMovable piece (record { running = r; top_a = ta; top_b = tb }) old
    → CanGo b h (world_of (seat_of r old)) → (m : MovesFrom (is_a r) plain lost old new)
    → IsMovable piece (moved (pieces_at piece (world_of (seat_of r old))) lost (record { running = r; top_a = ta; top_b = tb })) new × RefinesOneHost b h (running_world new)
moved_at laws b h piece lost A ta tb old new movable can m =
    let s : Placement = record { running = A; top_a = ta; top_b = tb } in
    let ends = seats_moved laws b h piece lost old.a old.b new.a new.b movable.seats can m in
    let placed = subst (λ (n : ℕ). IsPlaced (moved n lost s) new) ends.1 (placed_by A ta tb true refl plain lost old new m movable.seats.rests movable.placed) in
    movable_by piece b h _ A _ _ new movable.least movable.most placed (ends_at (arrives (pieces_at piece (world_of old.a)) lost) A piece b h new ends.0)
moved_at laws b h piece lost B ta tb old new movable can m =
    let s : Placement = record { running = B; top_a = ta; top_b = tb } in
    let ends = seats_moved laws b h piece lost old.b old.a new.b new.a movable.seats can m in
    let placed = subst (λ (n : ℕ). IsPlaced (moved n lost s) new) ends.1 (placed_by B ta tb false refl plain lost old new m movable.seats.rests movable.placed) in
    movable_by piece b h _ B _ _ new movable.least movable.most placed (ends_at (arrives (pieces_at piece (world_of old.b)) lost) B piece b h new ends.0)

pub moved_on : (laws : GuestLaws) (b : Snapshot) (h : OneHost) (piece : ℕ) (lost : Option ℕ) (s : Placement) (old new : PairState PortState) → IsMovable piece s old → CanGo b h (running_world old) → PairMoves plain lost old new
    → IsMovable piece (moved (pieces_at piece (running_world old)) lost s) new × RefinesOneHost b h (running_world new)
moved_on laws b h piece lost s old new movable can m =
    let at = at_world old s.running movable.placed.running in
    subst (λ (w : WorldState). IsMovable piece (moved (pieces_at piece w) lost s) new × RefinesOneHost b h (running_world new)) (sym at)
    (moved_at laws b h piece lost s.running s.top_a s.top_b old new movable (subst (CanGo b h) at can)
    (subst (λ (here : Bool). MovesFrom here plain lost old new) (at_a old s.running movable.placed.running) m))

-- ---- a move that was given up

back_at : (laws : GuestLaws) (b : Snapshot) (h : OneHost) (piece : ℕ) (r : HostName) (ta tb : ℕ) (old new : PairState PortState) → IsMovable piece (record { running = r; top_a = ta; top_b = tb }) old
    → CanGo b h (world_of (seat_of r old)) → GivesUpFrom (is_a r) plain old new
    → IsMovable piece (given_up (record { running = r; top_a = ta; top_b = tb })) new × RefinesOneHost b h (running_world new)
back_at laws b h piece A ta tb old new movable can m =
    movable_by piece b h A A _ _ new movable.least movable.most (back_by A ta tb true refl plain old new m movable.placed)
    (ends_at false A piece b h new (seats_given_up laws b h piece old.a old.b new.a new.b movable.seats can m))
back_at laws b h piece B ta tb old new movable can m =
    movable_by piece b h B B _ _ new movable.least movable.most (back_by B ta tb false refl plain old new m movable.placed)
    (ends_at false B piece b h new (seats_given_up laws b h piece old.b old.a new.b new.a movable.seats can m))

pub goes_back : (laws : GuestLaws) (b : Snapshot) (h : OneHost) (piece : ℕ) (s : Placement) (old new : PairState PortState) → IsMovable piece s old → CanGo b h (running_world old) → PairGivesUp plain old new
    → IsMovable piece (given_up s) new × RefinesOneHost b h (running_world new)
goes_back laws b h piece s old new movable can m =
    back_at laws b h piece s.running s.top_a s.top_b old new movable (subst (CanGo b h) (at_world old s.running movable.placed.running) can)
    (subst (λ (here : Bool). GivesUpFrom here plain old new) (at_a old s.running movable.placed.running) m)

-- ---- the beginning

pub first_movable : (piece : ℕ) (w : PairState PortState) → 1 ≤ piece → piece ≤ 4096 → StartsAs A piece w.a → IsEmptySeat B piece w.b → IsMovable piece first_placement w
first_movable piece w least most starts empty = record {
  placed = record {
    running = running_at w A (ap is_running starts.runs) (ap is_running empty.rests);
    top_a = starts.top;
    top_b = empty.top;
  };
  least = least;
  most = most;
  seats = record {
    names = empty.name_is ∙ sym (ap other starts.name_is);
    runs = starts.runs;
    rests = ap is_active empty.rests;
    below = omega (arith, starts.top, empty.top);
    source_pieces = record { of_record = starts.record_piece; of_blobs = starts.blob_piece };
    target_pieces = record { of_record = empty.record_piece; of_blobs = ap (λ (w : WiresState). w.link.emulator.piece) empty.wires };
    idle = record {
      free = empty.free;
      calls_to_fault = ap (λ (w : WiresState). w.calls_to_fault) empty.wires;
      quiet = record { nothing = ap (λ (w : WiresState). w.link.control) empty.wires; listens = ap (λ (w : WiresState). w.link.emulator.closed) empty.wires };
      held = ap (λ (w : WiresState). w.link.emulator.held) empty.wires;
      lane = ap (λ (w : WiresState). w.link.commands) empty.wires;
    };
  };
}
