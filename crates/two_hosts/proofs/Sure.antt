-- The refusals and faults of every transcript in turn.
use Rattle.std.proofs.Common.{◌≡◌, ℕ, Some}
use Rattle.crb_history.specs.Snapshot.{Snapshot, IsValidSnapshot}
use Rattle.vt_base.specs.declared.types.Reason.{Reason}
use Rattle.vt_base.specs.declared.types.Reason.TheVariants as reason
use Rattle.move_codec.specs.declared.message.Message.{Message}
use Rattle.vt_script.specs.declared.reply.Reply.TheVariants as reply
use Rattle.two_hosts.specs.Hosts.{hosts_after, message_at}
use Rattle.vt_transcript.specs.Replies.{Transcript, is_fault}
use Rattle.two_hosts.specs.Replies.{InTurn, deliver_reply, meets_fault}
use Rattle.two_hosts.proofs.InvariantKept.{run_kept, in_bag_sent}
use Rattle.two_hosts.proofs.Refusals.{refusals_by_calls}
use Rattle.two_hosts.proofs.Totals.{run_good}
use Rattle.two_hosts.proofs.Faults.{faults_are_met}

pub refusals : (b : Snapshot) (piece : ℕ) (t : Transcript) (message number : ℕ) (why : Reason) → IsValidSnapshot b → InTurn b piece t
    → deliver_reply piece (hosts_after b piece t) (message_at (hosts_after b piece t).sent message) ≡ reply.RefusedSent why number → why ≡ reason.Link
refusals b piece t message number why fit in_turn is = refusals_by_calls b piece (hosts_after b piece t) message number why (run_kept b piece t in_turn) (run_good b piece t fit) is

pub faults : (b : Snapshot) (piece : ℕ) (t : Transcript) (message : ℕ) (m : Message) → IsValidSnapshot b → InTurn b piece t → message_at (hosts_after b piece t).sent message ≡ Some m
    → is_fault (deliver_reply piece (hosts_after b piece t) (Some m)) ≡ meets_fault piece (hosts_after b piece t) m
faults b piece t message m fit in_turn is = faults_are_met b piece (hosts_after b piece t) m (run_kept b piece t in_turn) (run_good b piece t fit) (in_bag_sent (hosts_after b piece t).sent message m is)
