-- A guest goes on at the seat where a move leaves it, over ports that show what is in them.
use Rattle.std.proofs.Common.{◌≡◌, ◌≢◌, ℕ, zero, suc, ◌+◌, ◌≤◌, ◌<◌, Bool, true, false, Option, Some, None, Ok, refl, sym, ap, subst, ◌∙◌, arith}
use Rattle.std.specs.Prelude.{IfSome, ◌-◌, ◌^◌}
use Rattle.crb_regs.specs.Registers.{is_lost}
use Rattle.crb_regs.specs.declared.phase.Phase.{Phase}
use Rattle.crb_regs.specs.declared.phase.Phase.TheVariants.{Idle, Ready, Reception, Execution, Completion, Lost}
use Rattle.crb_port.specs.Plain.{plain}
use Rattle.crb_port.specs.declared.job.PortState.{PortState}
use Rattle.crb_machine.specs.Model.{DeviceModel}
use Rattle.crb_machine.specs.Over.{IsConsistentDevice, Stops, GoesOn, state_of, plain_device}
use Rattle.crb_machine.specs.State.{DeviceState, Slot}
use Rattle.crb_machine.specs.State.Slot.{Claimed}
use Rattle.crb_machine.specs.Steps.{collected, collected_at}
use Rattle.crb_machine.specs.Values.{DeviceValues, IsUnclaimed, values_at, held_values, device_of}
use Rattle.device_record.specs.Records.{encode_record}
use Rattle.tpm_core.specs.declared.parts.TpmParts.{TpmParts}
use Rattle.ctrl_client.specs.Schedules.{fails_within}
use Rattle.ctrl_client.specs.Exchange.{IsQuiet}
use Rattle.ctrl_model.specs.Link.{Link}
use Rattle.crb_history.specs.Snapshot.{Snapshot}
use Rattle.vt_transcript.specs.OneHost.{OneHost}
use Rattle.vt_base.specs.declared.types.HostName.{HostName}
use Rattle.vt_base.specs.declared.types.HostName.TheVariants.{A, B}
use Rattle.move_core.specs.Model.{HostModel}
use Rattle.move_core.specs.Sides.{other, is_active}
use Rattle.hand_over.specs.Bridge.{port_state}
use Rattle.hand_over.specs.Counts.{CommandState, commands_at, pieces_of, pieces_from}
use Rattle.hand_over.specs.Arrival.{arrives, loses}
use Rattle.hand_over.specs.Ends.{IsCalm, Arrives, RunsOn, IsLeft, MoveEnds}
use Rattle.hand_over.specs.Start.{CanStop}
use Rattle.vt_seat.specs.Wires.{fails_next, after_call}
use Rattle.vt_seat.specs.Follows.{RefinesOneHost, tpm_at}
use Rattle.vt_seat.specs.State.{WorldState, SeatState}
use Rattle.vt_seat.specs.Moves.{CanGo, IsAtRest, GoesOnFrom, EmulatorRests}
use Rattle.vt_seat.specs.Seats.{world_of, view_of}
use Rattle.vt_world.specs.Moving.{CanMoveTo, LeavesSeats, Moves, GivesUp}
use Rattle.vt_world.specs.Movable.{HasPieces, IsIdleSeat, IsMovableTo, pieces_at}

unwrap : {A : Type 0} (x y : A) → Some x ≡ Some y → x ≡ y
unwrap x y is = cc

-- ---- wires none of whose calls is to fail

never_fails : (n : ℕ) → fails_within fails_next after_call n None ≡ false
never_fails zero = refl
never_fails (suc n) = never_fails n

it_fails : (k : ℕ) → fails_within fails_next after_call (suc k) (Some k) ≡ true
it_fails zero = refl
it_fails (suc k) = it_fails k

calm_due : (calls_to_fault : Option ℕ) → ((n : ℕ) → fails_within fails_next after_call n calls_to_fault ≡ false) → calls_to_fault ≡ None
calm_due None never = refl
calm_due (Some k) never = absurd (let wrong : true ≡ false = sym (it_fails k) ∙ never (suc k) in cc)

calm_wires : (n : ℕ) (s : SeatState PortState) → s.calls_to_fault ≡ None → IsQuiet s.link → s.link.emulator.piece ≡ n → IsCalm n (view_of s)
calm_wires n s calls_to_fault quiet pieces = record {
  link = s.link;
  is_link = refl;
  quiet = quiet;
  pieces = pieces;
  undisturbed = record { none = λ n. ap (fails_within fails_next after_call n) calls_to_fault ∙ never_fails n };
}

-- what calm wires say of the link of their seat
record IsCalmSeat (n : ℕ) (s : SeatState PortState) : Type 0 where
  calls_to_fault : s.calls_to_fault ≡ None
  quiet : IsQuiet s.link
  pieces : s.link.emulator.piece ≡ n

calm_seat : (n : ℕ) (s : SeatState PortState) → IsCalm n (view_of s) → IsCalmSeat n s
calm_seat n s calm =
    let same : s.link ≡ calm.link = unwrap s.link calm.link calm.is_link in
    record {
      calls_to_fault = calm_due s.calls_to_fault calm.undisturbed.none;
      quiet = subst IsQuiet (sym same) calm.quiet;
      pieces = ap (λ (l : Link). l.emulator.piece) same ∙ calm.pieces;
    }

same_commands : (l m : Link) → commands_at (Some m) ≡ commands_at (Some l) → (m.emulator.held ≡ l.emulator.held) × (m.commands ≡ l.commands)
same_commands l m is =
    let same = unwrap (record { held = m.emulator.held; channel = m.commands }) (record { held = l.emulator.held; channel = l.commands }) is in
    (ap (λ (c : CommandState). c.held) same, ap (λ (c : CommandState). c.channel) same)

-- ---- a guest that can be moved

phase_lives : (phase : Phase) → phase ≢ Lost → is_lost phase ≡ false
phase_lives Idle working = refl
phase_lives Ready working = refl
phase_lives Reception working = refl
phase_lives Execution working = refl
phase_lives Completion working = refl
phase_lives Lost working = absurd (working refl)

still_open : (d : DeviceState) → (collected d).slot ≢ Claimed → d.slot ≢ Claimed
still_open d away claimed = away (ap (λ (slot : Slot). (collected_at slot d).slot) claimed ∙ claimed)

can_stop : (d : DeviceModel PortState) → (collected (plain_device d)).slot ≢ Claimed → (collected (plain_device d)).regs.phase ≢ Lost → CanStop plain d
can_stop d away working = record {
  known_state = (still_open (plain_device d) away, phase_lives (collected (plain_device d)).regs.phase working);
  unknown_state = λ none. absurd cc;
}

pub can_move_to : (b : Snapshot) (h : OneHost) (piece : ℕ) (source target : SeatState PortState) → IsMovableTo piece source target → 1 ≤ piece → piece ≤ 4096 → IsAtRest b h (world_of source)
    → source.host.top < 2 ^ 64 - 1 → CanMoveTo plain source target
can_move_to b h piece source target m least most rest far = record {
  can_move = record {
    names = m.names;
    runs = m.runs;
    rests = m.rests;
    device = can_stop source.host.device rest.unclaimed rest.working;
    below = m.below;
    not_last = far;
    tpm = tpm_at b h.history;
    tpm_is = rest.emulator.emulator.tpm;
    possible = rest.fit;
    least = omega (arith, m.source_pieces.of_blobs, least);
    most = omega (arith, m.source_pieces.of_blobs, most);
    source_wires = calm_wires source.link.emulator.piece source rest.calls_to_fault rest.emulator.quiet refl;
    target_wires = calm_wires target.link.emulator.piece target m.idle.calls_to_fault m.idle.quiet refl;
  };
  free = rest.free;
  target_free = m.idle.free;
}

-- ---- what a move leaves of the seats

twice : (n k : HostName) → k ≡ other n → n ≡ other k
twice A k is = sym (ap other is)
twice B k is = sym (ap other is)

-- the seat that the guest left can take it again
left_idle : (b : Snapshot) (h : OneHost) (source target new_source new_target : SeatState PortState) → IsAtRest b h (world_of source) → LeavesSeats source target new_source new_target → IsIdleSeat new_source
left_idle b h source target new_source new_target rest leaves =
    let calm = calm_seat source.link.emulator.piece new_source leaves.calm in
    record {
      free = leaves.free;
      calls_to_fault = calm.calls_to_fault;
      quiet = calm.quiet;
      held = ap (λ (l : Link). l.emulator.held) leaves.link ∙ rest.emulator.emulator.held_is;
      lane = ap (λ (l : Link). l.commands) leaves.link ∙ rest.emulator.channel;
    }

-- and so can the one to which it didn't get
still_idle : (piece : ℕ) (source target new_source new_target : SeatState PortState) → IsMovableTo piece source target → LeavesSeats source target new_source new_target → IsIdleSeat new_target
still_idle piece source target new_source new_target m leaves =
    let calm = calm_seat target.link.emulator.piece new_target leaves.target_calm in
    let kept = same_commands target.link new_target.link leaves.commands in
    record { free = leaves.target_free; calls_to_fault = calm.calls_to_fault; quiet = calm.quiet; held = kept.0 ∙ m.idle.held; lane = kept.1 ∙ m.idle.lane }

-- the seats are pieces as before
source_pieces : (piece : ℕ) (source target new_source new_target : SeatState PortState) → IsMovableTo piece source target → LeavesSeats source target new_source new_target
    → new_source.host.piece ≡ source.host.piece → HasPieces piece new_source
source_pieces piece source target new_source new_target m leaves same = record {
  of_record = same ∙ m.source_pieces.of_record;
  of_blobs = ap (λ (l : Link). l.emulator.piece) leaves.link ∙ m.source_pieces.of_blobs;
}

target_pieces : (piece : ℕ) (source target new_source new_target : SeatState PortState) → IsMovableTo piece source target → LeavesSeats source target new_source new_target
    → new_target.host.piece ≡ target.host.piece → HasPieces piece new_target
target_pieces piece source target new_source new_target m leaves same = record {
  of_record = same ∙ m.target_pieces.of_record;
  of_blobs = (calm_seat target.link.emulator.piece new_target leaves.target_calm).pieces ∙ m.target_pieces.of_blobs;
}

arrived_movable : (b : Snapshot) (h : OneHost) (piece : ℕ) (source target new_source new_target : SeatState PortState) (stopped : DeviceModel PortState) (tpm : Option TpmParts)
    → IsMovableTo piece source target → IsAtRest b h (world_of source) → LeavesSeats source target new_source new_target
    → Arrives plain source.host stopped tpm target.host (source.host.top + 1) new_source.host new_target.host (view_of new_target) → IsMovableTo piece new_target new_source
arrived_movable b h piece source target new_source new_target stopped tpm m rest leaves ends = record {
  names =
      ap (λ (h : HostModel PortState). h.name) ends.source_is ∙ twice source.host.name target.host.name m.names
      ∙ sym (ap (λ (h : HostModel PortState). other h.name) ends.target_is);
  runs = ap (λ (h : HostModel PortState). h.stage) ends.target_is;
  rests = ap (λ (h : HostModel PortState). is_active h.stage) ends.source_is;
  below = omega (arith, ap (λ (h : HostModel PortState). h.top) ends.source_is, ap (λ (h : HostModel PortState). h.top) ends.target_is);
  source_pieces = target_pieces piece source target new_source new_target m leaves (ap (λ (h : HostModel PortState). h.piece) ends.target_is);
  target_pieces = source_pieces piece source target new_source new_target m leaves (ap (λ (h : HostModel PortState). h.piece) ends.source_is);
  idle = left_idle b h source target new_source new_target rest leaves;
}

-- what is left of the target where the guest doesn't get there
record IsStill (source_top : ℕ) (target new : HostModel PortState) : Type 0 where
  name : new.name ≡ target.name
  rests : is_active new.stage ≡ false
  below : new.top ≤ source_top + 1
  piece : new.piece ≡ target.piece

left_still : (first : Bool) (source_top : ℕ) (target new : HostModel PortState) → is_active target.stage ≡ false → target.top ≤ source_top → IsLeft first target (source_top + 1) new → IsStill source_top target new
left_still true source_top target new rests below left = record {
  name = ap (λ (h : HostModel PortState). h.name) left;
  rests = ap (λ (h : HostModel PortState). is_active h.stage) left ∙ rests;
  below = omega (arith, ap (λ (h : HostModel PortState). h.top) left, below);
  piece = ap (λ (h : HostModel PortState). h.piece) left;
}
left_still false source_top target new rests below left = record {
  name = ap (λ (h : HostModel PortState). h.name) left.0;
  rests = ap (λ (h : HostModel PortState). is_active h.stage) left.0;
  below = omega (arith, ap (λ (h : HostModel PortState). h.top) left.0);
  piece = ap (λ (h : HostModel PortState). h.piece) left.0;
}

stayed_movable : (piece : ℕ) (first : Bool) (source target new_source new_target : SeatState PortState) (stopped : DeviceModel PortState)
    → IsMovableTo piece source target → LeavesSeats source target new_source new_target
    → RunsOn plain source.host stopped (source.host.top + 1) new_source.host → IsLeft first target.host (source.host.top + 1) new_target.host → IsMovableTo piece new_source new_target
stayed_movable piece first source target new_source new_target stopped m leaves runs left =
    let still = left_still first source.host.top target.host new_target.host m.rests m.below left in
    record {
      names = still.name ∙ m.names ∙ sym (ap (λ (h : HostModel PortState). other h.name) runs.source_is);
      runs = ap (λ (h : HostModel PortState). h.stage) runs.source_is;
      rests = still.rests;
      below = omega (arith, still.below, ap (λ (h : HostModel PortState). h.top) runs.source_is);
      source_pieces = source_pieces piece source target new_source new_target m leaves (ap (λ (h : HostModel PortState). h.piece) runs.source_is);
      target_pieces = target_pieces piece source target new_source new_target m leaves still.piece;
      idle = still_idle piece source target new_source new_target m leaves;
    }

-- ---- the guest goes on

-- what is known of stopped devices, of their values, and of guests that go on
pub record GuestLaws : Type 0 where
  pub stopped : (d e : DeviceModel PortState) → IsConsistentDevice plain d → d.held ≡ false → Stops plain d (Ok tt) e → IfSome (state_of plain d) (λ s. held_values e ≡ values_at (collected s))
  pub goes_on : (d e : DeviceModel PortState) → IsConsistentDevice plain d → d.held ≡ true → GoesOn plain d e → IfSome (state_of plain e) (λ s. s ≡ device_of (held_values d))
  pub same : (d e f : DeviceModel PortState) → IsConsistentDevice plain d → d.held ≡ false → Stops plain d (Ok tt) e → GoesOn plain e f → IfSome (state_of plain d) (λ s. state_of plain f ≡ Some (collected s))
  pub exact : (d : DeviceState) → IsUnclaimed d → device_of (values_at d) ≡ d
  pub rests : (b : Snapshot) (s : OneHost) (w : WorldState) → CanGo b s w → IsAtRest b s w
  pub follows : (b : Snapshot) (s : OneHost) (old new : WorldState) → CanGo b s old → GoesOnFrom old new → RefinesOneHost b s new

-- where it arrived
arrived_goes : (laws : GuestLaws) (b : Snapshot) (h : OneHost) (piece : ℕ) (source target new_source new_target : SeatState PortState) (stopped : DeviceModel PortState)
    → IsMovableTo piece source target → IsAtRest b h (world_of source) → LeavesSeats source target new_source new_target
    → IsConsistentDevice plain source.host.device → source.host.device.held ≡ false → Stops plain source.host.device (Ok tt) stopped
    → Arrives plain source.host stopped source.link.emulator.tpm target.host (source.host.top + 1) new_source.host new_target.host (view_of new_target) → GoesOnFrom (world_of source) (world_of new_target)
arrived_goes laws b h piece source target new_source new_target stopped m rest leaves consistent runs stops ends =
    let idle = still_idle piece source target new_source new_target m leaves in
    record {
      device =
          laws.goes_on ends.filled new_target.host.device ends.consistent ends.held ends.goes_on
          ∙ ap device_of (ends.values ∙ laws.stopped source.host.device stopped consistent runs stops)
          ∙ laws.exact (collected (plain_device source.host.device)) rest.exact;
      free = leaves.target_free;
      emulator = λ tpm has. record {
        quiet = idle.quiet;
        emulator = record { tpm = ends.tpm_is ∙ has; on = ends.started.on; stored = ends.started.stored; gathers = ends.started.gathers; held_is = idle.held };
        channel = idle.lane;
      };
      calls_to_fault = idle.calls_to_fault;
    }

-- where it stayed
stayed_goes : (laws : GuestLaws) (b : Snapshot) (h : OneHost) (source target new_source new_target : SeatState PortState) (stopped : DeviceModel PortState) → IsAtRest b h (world_of source) → LeavesSeats source target new_source new_target
    → IsConsistentDevice plain source.host.device → source.host.device.held ≡ false → Stops plain source.host.device (Ok tt) stopped
    → RunsOn plain source.host stopped (source.host.top + 1) new_source.host → GoesOnFrom (world_of source) (world_of new_source)
stayed_goes laws b h source target new_source new_target stopped rest leaves consistent runs stops on =
    let calm = calm_seat source.link.emulator.piece new_source leaves.calm in
    record {
      device = unwrap _ _ (laws.same source.host.device stopped new_source.host.device consistent runs stops on.goes_on);
      free = leaves.free;
      emulator = λ tpm has.
          let here : tpm_at b h.history ≡ tpm = unwrap (tpm_at b h.history) tpm (sym rest.emulator.emulator.tpm ∙ has) in
          subst (λ (t : TpmParts). EmulatorRests t new_source.link) here (subst (EmulatorRests (tpm_at b h.history)) (sym leaves.link) rest.emulator);
      calls_to_fault = calm.calls_to_fault;
    }

-- ---- a move as a whole

-- by whether the guest arrived: it can be moved again from where it is, and stands there where its history leads
abbrev pub SeatsEnd : Bool → ℕ → Snapshot → OneHost → SeatState PortState → SeatState PortState → Type 0
SeatsEnd true piece b h new_source new_target = IsMovableTo piece new_target new_source × RefinesOneHost b h (world_of new_target)
SeatsEnd false piece b h new_source new_target = IsMovableTo piece new_source new_target × RefinesOneHost b h (world_of new_source)

seats_by : (arrived first : Bool) (laws : GuestLaws) (b : Snapshot) (h : OneHost) (piece : ℕ) (source target new_source new_target : SeatState PortState) (stopped : DeviceModel PortState)
    → IsMovableTo piece source target → CanGo b h (world_of source) → LeavesSeats source target new_source new_target
    → IsConsistentDevice plain source.host.device → source.host.device.held ≡ false → Stops plain source.host.device (Ok tt) stopped
    → MoveEnds arrived first plain source.host stopped source.link.emulator.tpm target.host (source.host.top + 1) new_source.host new_target.host (view_of new_target) → SeatsEnd arrived piece b h new_source new_target
seats_by true first laws b h piece source target new_source new_target stopped m can leaves consistent runs stops ends =
    let rest = laws.rests b h (world_of source) can in (
      arrived_movable b h piece source target new_source new_target stopped source.link.emulator.tpm m rest leaves ends,
      laws.follows b h (world_of source) (world_of new_target) can (arrived_goes laws b h piece source target new_source new_target stopped m rest leaves consistent runs stops ends),
    )
seats_by false first laws b h piece source target new_source new_target stopped m can leaves consistent runs stops ends =
    let rest = laws.rests b h (world_of source) can in (
      stayed_movable piece first source target new_source new_target stopped m leaves ends.0 ends.1,
      laws.follows b h (world_of source) (world_of new_source) can (stayed_goes laws b h source target new_source new_target stopped rest leaves consistent runs stops ends.0),
    )

-- the pieces of the move are those of the guest as it was
moved_pieces : (laws : GuestLaws) (piece : ℕ) (source target : SeatState PortState) (stopped : DeviceModel PortState) → IsMovableTo piece source target
    → IsConsistentDevice plain source.host.device → source.host.device.held ≡ false → Stops plain source.host.device (Ok tt) stopped
    → pieces_from (record source.host { device = stopped }) (Some source.link) ≡ pieces_at piece (world_of source)
moved_pieces laws piece source target stopped m consistent runs stops =
    ap (λ (n : ℕ). pieces_of (record { of_record = n; of_blob = source.link.emulator.piece }) (port_state (encode_record (held_values stopped)) source.link.emulator.tpm)) m.source_pieces.of_record
    ∙ ap (λ (n : ℕ). pieces_of (record { of_record = piece; of_blob = n }) (port_state (encode_record (held_values stopped)) source.link.emulator.tpm)) m.source_pieces.of_blobs
    ∙ ap (λ (v : DeviceValues). pieces_of (record { of_record = piece; of_blob = piece }) (port_state (encode_record v) source.link.emulator.tpm)) (laws.stopped source.host.device stopped consistent runs stops)

pub seats_moved : (laws : GuestLaws) (b : Snapshot) (h : OneHost) (piece : ℕ) (lost : Option ℕ) (source target new_source new_target : SeatState PortState)
    → IsMovableTo piece source target → CanGo b h (world_of source) → (m : Moves plain lost source target new_source new_target)
    → SeatsEnd (arrives (pieces_at piece (world_of source)) lost) piece b h new_source new_target
    × (pieces_from (record source.host { device = m.moved.stopped }) (Some source.link) ≡ pieces_at piece (world_of source))
seats_moved laws b h piece lost source target new_source new_target movable can m =
    let n = pieces_from (record source.host { device = m.moved.stopped }) (Some source.link) in
    let is = moved_pieces laws piece source target m.moved.stopped movable m.moved.consistent m.moved.runs m.moved.stops in (
      subst (λ (n : ℕ). SeatsEnd (arrives n lost) piece b h new_source new_target) is
          (seats_by (arrives n lost) (loses lost 1) laws b h piece source target new_source new_target m.moved.stopped movable can m.leaves m.moved.consistent m.moved.runs m.moved.stops m.moved.ends),
      is,
    )

pub seats_given_up : (laws : GuestLaws) (b : Snapshot) (h : OneHost) (piece : ℕ) (source target new_source new_target : SeatState PortState)
    → IsMovableTo piece source target → CanGo b h (world_of source) → GivesUp plain source target new_source new_target → SeatsEnd false piece b h new_source new_target
seats_given_up laws b h piece source target new_source new_target movable can m =
    seats_by false false laws b h piece source target new_source new_target m.given_up.stopped movable can m.leaves m.given_up.consistent m.given_up.runs m.given_up.stops m.given_up.taken_back
