-- A move that nothing disturbs: the message that was sent last is delivered, again and again. (Own definitions.)
use Rattle.std.specs.Prelude.{◌≡◌, ◌≢◌, ℕ, zero, suc, ◌+◌, ◌-◌, ◌*◌, ◌/◌, ◌^◌, ◌≤◌, ◌<◌, true, false, ◌∷◌, length, Some, None}
use Rattle.crb_regs.specs.Registers.{is_lost}
use Rattle.crb_history.specs.Snapshot.{Snapshot}
use Rattle.crb_history.specs.Continued.{snapshot_after}
use Rattle.crb_history.specs.Device.{phase_of}
use Rattle.vt_transcript.specs.Replies.{is_under_way, Exchange, Transcript}
use Rattle.vt_base.specs.declared.types.HostName.{HostName}
use Rattle.move_codec.specs.declared.names.Part.TheVariants.{Record, Permanent, Volatile, Saved}
use Rattle.move_core.specs.Sides.{other, is_running}
use Rattle.vt_script.specs.declared.event.Event.TheVariants.{Offer, Deliver}
use Rattle.vt_script.specs.declared.reply.Reply.TheVariants.{SentMessage, Running}
use Rattle.two_hosts.specs.Parts.{part_bytes}
use Rattle.two_hosts.specs.Hosts.{TwoHosts, hosts_after, host_of, stage_at, running_host, message_at, bag_size}
use Rattle.two_hosts.specs.Replies.{InTurn, offer_reply, deliver_reply}

-- how many pieces of at most this size carry so many bytes
abbrev pub piece_count : ℕ → ℕ → ℕ
piece_count size total = (total + (size - 1)) / size

-- the pieces of a move of these values
abbrev pub pieces : ℕ → Snapshot → ℕ
pieces size v = piece_count size (length (part_bytes v Record)) + (piece_count size (length (part_bytes v Permanent)) + (piece_count size (length (part_bytes v Volatile)) + piece_count size (length (part_bytes v Saved))))

-- `offer`, with its reply
abbrev pub offer_now : Snapshot → ℕ → Transcript → Exchange
offer_now b piece t = record { line = Some Offer; reply = offer_reply b (hosts_after b piece t) (running_host (hosts_after b piece t)) }

-- the delivery of the message that was sent last, with its reply
abbrev pub deliver_last : Snapshot → ℕ → Transcript → Exchange
deliver_last b piece t =
    let w = hosts_after b piece t in
    record { line = Some (Deliver (length w.sent)); reply = deliver_reply piece w (message_at w.sent (length w.sent)) }

-- so many such deliveries
abbrev pub deliveries : Snapshot → ℕ → ℕ → Transcript → Transcript
deliveries b piece zero t = t
deliveries b piece (suc count) t = deliver_last b piece (deliveries b piece count t) ∷ deliveries b piece count t

-- this host can offer: its guest runs, the device isn't lost, no command is claimed and unfinished, a greater epoch is left, and
-- no call on its wires is to fail
pub record CanOffer (b : Snapshot) (w : TwoHosts) (n : HostName) : Type 0 where
  pub runs : running_host w ≡ Some n
  pub working : is_lost (phase_of b w.history) ≡ false
  pub unclaimed : is_under_way b w.history ≡ false
  pub epoch : (host_of w n).side.top ≢ 2 ^ 64 - 1
  pub works : (host_of w n).injected_fault ≡ None

-- and its guest can be moved: no call is to fail on the other host's wires either, and the bag has room for each message
pub record CanMove (b : Snapshot) (piece : ℕ) (w : TwoHosts) (n : HostName) : Type 0 where
  pub offers : CanOffer b w n
  pub works : (host_of w (other n)).injected_fault ≡ None
  pub size : 0 < piece
  pub room : length w.sent + (2 * pieces piece (snapshot_after b w.history) + 3) ≤ bag_size

-- With n pieces a move takes 2 n + 3 deliveries: each but the last one is answered by one more message, and the last one by
-- `running`. Then the other host runs.
pub record MovesOver (b : Snapshot) (piece : ℕ) (t : Transcript) (n : HostName) (count : ℕ) : Type 0 where
  pub sends : (k : ℕ) → k < 2 * count + 2 → (deliver_last b piece (deliveries b piece k t)).reply ≡ SentMessage (length (hosts_after b piece t).sent + 1 + k)
  pub runs : (deliver_last b piece (deliveries b piece (2 * count + 2) t)).reply ≡ Running
  pub target : is_running (stage_at (hosts_after b piece (deliveries b piece (2 * count + 3) t)) (other n)) ≡ true
  pub in_turn : InTurn b piece (deliveries b piece (2 * count + 3) t)
