-- Each step makes a run longer.
use Rattle.std.proofs.Common.{ℕ, []}
use Rattle.std.specs.Prelude.{◌∷◌}
use Rattle.crb_history.specs.Snapshot.{Snapshot}
use Rattle.vt_transcript.specs.Replies.{Transcript, exchange}
use Rattle.vt_script.specs.declared.event.Event.{Event}
use Rattle.vt_script.specs.declared.reply.Reply.{Reply}
use Rattle.two_hosts.specs.Hosts.{hosts_after, first_hosts}
use Rattle.two_seats.specs.Both.{TwoSeats, FollowsBoth, StepsBoth, RunsTo}

pub runs_first : (b : Snapshot) (piece : ℕ) (w : TwoSeats) → FollowsBoth b piece (first_hosts b) w → RunsTo b piece [] w
runs_first b piece w f = record { run = record { legal = tt; in_turn = tt }; follows = f }

pub runs_on : (b : Snapshot) (piece : ℕ) (t : Transcript) (w new : TwoSeats) (line : Event) (reply : Reply) → RunsTo b piece t w → StepsBoth b piece (hosts_after b piece t) line reply new → RunsTo b piece (exchange line reply ∷ t) new
runs_on b piece t w new line reply r s = record {
  run = record { legal = s.legal r.run.legal; in_turn = (r.run.in_turn, s.answers) };
  follows = s.follows;
}
