-- Two hosts at their beginning.
use Rattle.std.proofs.Common.{◌≡◌, ℕ, true, List, [], refl, ap}
use Rattle.crb_port.specs.declared.job.PortState.{PortState}
use Rattle.tpm_core.specs.declared.algorithm.Banks.{Banks}
use Rattle.crb_history.specs.Snapshot.{fresh}
use Rattle.vt_transcript.specs.OneHost.{one_of_transcript}
use Rattle.vt_base.specs.declared.types.HostName.TheVariants.{A}
use Rattle.move_core.specs.Sides.{is_running}
use Rattle.vt_seat.specs.Follows.{Refines}
use Rattle.vt_seat.specs.Seats.{StartsAs, world_of}
use Rattle.vt_world.specs.Pairs.{IsPairReady}
use Rattle.vt_world.specs.State.{PairState, runs_at_a}

-- A's guest can be accessed.
pub ready_first : (seed : List ℕ) (banks : Banks) (piece : ℕ) (w : PairState PortState) → StartsAs A piece w.a → Refines (fresh seed banks) [] (world_of w.a) → IsPairReady w
ready_first seed banks piece w starts follows =
    let here : runs_at_a w ≡ true = ap is_running starts.runs in
    record {
      runs = rw here refl;
      ready = rw here (fresh seed banks, [], record { host = one_of_transcript (fresh seed banks) []; follows = follows; unordered = refl; same = refl; legal = tt });
    }
