-- Two seats at their beginning: A runs, and B is empty.
use Rattle.std.proofs.Common.{◌≡◌, ℕ, [], refl, sym, ap, ◌∙◌, arith, Some, lit≤}
use Rattle.std.specs.Prelude.{slice_get}
use Rattle.std.proofs.Math.Seq.{take-nil}
use Rattle.vt_base.specs.Buffer.{zeros}
use Rattle.vt_base.specs.Numbers.{IsBytes}
use Rattle.vt_base.proofs.Zeros.{length-zeros, get_or-zeros}
use Rattle.crb_port.specs.declared.job.PortState.{PortState}
use Rattle.crb_machine.specs.Values.{AreValid, fresh_device}
use Rattle.crb_history.specs.Snapshot.{Snapshot, IsValidSnapshot}
use Rattle.vt_base.specs.declared.types.HostName.{HostName}
use Rattle.vt_base.specs.declared.types.HostName.TheVariants.{A, B}
use Rattle.move_codec.specs.declared.message.Message.{Message}
use Rattle.two_hosts.specs.Hosts.{first_hosts, host_of, bag_size}
use Rattle.two_hosts.proofs.InvariantKept.{first_kept}
use Rattle.two_hosts.proofs.DrainKept.{first_drains}
use Rattle.vt_seat.specs.Wires.{WiresState}
use Rattle.vt_seat.specs.Follows.{Refines}
use Rattle.vt_seat.specs.Seats.{world_of, StartsAs, IsEmptySeat}
use Rattle.vt_seat.specs.State.{SeatState}
use Rattle.two_seats.specs.Seats.{IsSeat}
use Rattle.two_seats.specs.Both.{TwoSeats, FollowsBoth, seat_of}

IsBytes-zeros : (n : ℕ) → IsBytes (zeros n)
IsBytes-zeros n i = let none = get_or-zeros n i in omega (arith, none)

pub fresh_fit : AreValid fresh_device
fresh_fit = record {
  working = refl;
  idle = λ is. refl;
  waits = λ is. absurd cc;
  size = length-zeros 3968;
  bytes = IsBytes-zeros 3968;
  number = lit≤ tt;
}

-- the host that runs
runs_first : (b : Snapshot) (piece : ℕ) (s : SeatState PortState) → Refines b [] (world_of s) → StartsAs A piece s → IsSeat b piece [] (first_hosts b).offered A (first_hosts b).a s
runs_first b piece s follows starts = record {
  name_is = starts.name_is;
  piece_is = starts.record_piece;
  pieces = starts.blob_piece;
  stage_is = starts.runs;
  top_is = starts.top;
  calls_to_fault = follows.calls_to_fault;
  stands = follows.stands;
}

-- the host without a guest
empty_first : (b : Snapshot) (piece : ℕ) (s : SeatState PortState) → IsEmptySeat B piece s → IsSeat b piece [] (first_hosts b).offered B (first_hosts b).b s
empty_first b piece s empty = record {
  name_is = empty.name_is;
  piece_is = empty.record_piece;
  pieces = ap (λ (w : WiresState). w.link.emulator.piece) empty.wires;
  stage_is = empty.rests;
  top_is = empty.top;
  calls_to_fault = ap (λ (w : WiresState). w.calls_to_fault) empty.wires;
  stands = record {
    free = empty.free;
    quiet = record { nothing = ap (λ (w : WiresState). w.link.control) empty.wires; listens = ap (λ (w : WiresState). w.link.emulator.closed) empty.wires };
    channel = ap (λ (w : WiresState). w.link.commands) empty.wires;
    none = ap (λ (w : WiresState). w.link.emulator.held) empty.wires;
  };
}

pub both_first : (b : Snapshot) (piece : ℕ) (w : TwoSeats) → IsValidSnapshot b → Refines b [] (world_of w.a) → StartsAs A piece w.a → IsEmptySeat B piece w.b → w.bag ≡ [] → FollowsBoth b piece (first_hosts b) w
both_first b piece w fit follows starts empty bag_is = record {
  fit = follows.fit;
  invariant = first_kept b;
  drains = first_drains b;
  fits = λ e. fit;
  seats = seated;
  some = λ m sent. absurd (nothing m sent.0 sent.1);
  bag_is = bag_is ∙ sym (take-nil bag_size);
}
  where
    nothing : (m : Message) (k : ℕ) → slice_get [] k ≡ Some m → ⊥
    nothing m k is = absurd cc

    seated : (n : HostName) → IsSeat b piece [] (first_hosts b).offered n (host_of (first_hosts b) n) (seat_of w n)
    seated A = runs_first b piece w.a follows starts
    seated B = empty_first b piece w.b empty
