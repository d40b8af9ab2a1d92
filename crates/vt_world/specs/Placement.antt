-- Where the guest of two hosts is. (Own definitions.)
use Rattle.std.specs.Prelude.{◌≡◌, ◌+◌, ℕ, if◌then◌else◌, length, Option, Some}
use Rattle.std.specs.Int.{div_ceil}
use Rattle.vt_base.specs.declared.types.Kind.TheVariants as kind
use Rattle.tpm_core.specs.declared.parts.TpmParts.{TpmParts}
use Rattle.state_blobs.specs.Encodings.{encode_blob}
use Rattle.vt_base.specs.declared.types.HostName.{HostName}
use Rattle.vt_base.specs.declared.types.HostName.TheVariants.{A, B}
use Rattle.move_core.specs.Sides.{other}
use Rattle.hand_over.specs.Arrival.{arrives, loses}
use Rattle.vt_world.specs.State.{PairState, running_host}

-- ---- where the guest is

-- the host whose guest runs, and the greatest epoch that each host has seen
pub record Placement : Type 0 where
  pub running : HostName
  pub top_a : ℕ
  pub top_b : ℕ

-- the guest begins at A, and no host has seen an epoch
abbrev pub first_placement : Placement
first_placement = record { running = A; top_a = 0; top_b = 0 }

-- the greatest epoch that a host has seen
abbrev pub top_of : HostName → Placement → ℕ
top_of A s = s.top_a
top_of B s = s.top_b

-- and that of the host whose guest runs
abbrev pub running_top : Placement → ℕ
running_top s = top_of s.running s

-- The guest runs at the first host. The second one has seen the first epoch, and the other one the second.
abbrev pub placement_of : HostName → HostName → ℕ → ℕ → Placement
placement_of running A here there = record { running = running; top_a = here; top_b = there }
placement_of running B here there = record { running = running; top_a = there; top_b = here }

-- One move with so many pieces of which this message is lost, where one is. The source has a new epoch, which the other host sees unless the Offer is
-- lost; and that host's guest runs then where the guest arrives.
abbrev pub moved : ℕ → Option ℕ → Placement → Placement
moved n lost s =
    placement_of (if arrives n lost then other s.running else s.running) s.running
    (top_of s.running s + 1) (if loses lost 1 then top_of (other s.running) s else top_of s.running s + 1)

-- one move that the source gave up for lack of memory: the other host had taken the Offer
abbrev pub given_up : Placement → Placement
given_up s = placement_of s.running s.running (top_of s.running s + 1) (top_of s.running s + 1)

-- the guest of the two hosts is there
pub record IsPlaced {P : Type 0} (s : Placement) (w : PairState P) : Type 0 where
  pub running : running_host w ≡ Some s.running
  pub top_a : w.a.host.top ≡ s.top_a
  pub top_b : w.b.host.top ≡ s.top_b

-- ---- how many pieces a move has

-- the pieces of a record of this size and of the three blobs of a TPM, each of at most so many bytes
abbrev pub pieces_by : ℕ → ℕ → TpmParts → ℕ
pieces_by piece size t =
    div_ceil size piece
    + (div_ceil (length (encode_blob kind.Permanent t)) piece + (div_ceil (length (encode_blob kind.Volatile t)) piece + div_ceil (length (encode_blob kind.Saved t)) piece))
