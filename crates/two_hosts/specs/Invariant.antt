-- The invariant of two hosts and their messages: it is so at first, and every line keeps it. (Own definitions.)
use Rattle.std.specs.Prelude.{◌≡◌, ◌≢◌, true, ℕ, ◌≤◌, ◌<◌, List, length, slice_get, Some}
use Rattle.state_blobs.specs.Encodings.{slice}
use Rattle.crb_history.specs.Snapshot.{Snapshot}
use Rattle.crb_history.specs.Event.{History}
use Rattle.crb_history.specs.Continued.{snapshot_after, MaySuspend}
use Rattle.vt_transcript.specs.Replies.{is_under_way}
use Rattle.vt_base.specs.declared.types.HostName.{HostName}
use Rattle.move_codec.specs.declared.message.Message.{Message}
use Rattle.move_codec.specs.declared.message.Body.{Body}
use Rattle.move_codec.specs.declared.message.Body.TheVariants as body
use Rattle.move_core.specs.declared.stage.MoveStage.{MoveStage}
use Rattle.move_core.specs.declared.stage.MoveStage.TheVariants as stage
use Rattle.move_core.specs.declared.side.Side.{Side}
use Rattle.move_core.specs.declared.side.Side.TheVariants.{Running, Draining, Offering, Released, Filling, Prepared}
use Rattle.move_core.specs.Sides.{side_of, holds_device, other}
use Rattle.two_hosts.specs.Parts.{part_bytes, totals_of}
use Rattle.two_hosts.specs.Deliveries.{SideState}
use Rattle.two_hosts.specs.Hosts.{TwoHosts, host_of}

-- a message was sent
abbrev pub IsSent : List Message → Message → Type 0
IsSent sent m = (k : ℕ) × (slice_get sent k ≡ Some m)

-- the side that a host shows
abbrev pub shown_side : SideState → Side
shown_side s = side_of s.stage

-- neither Running nor Draining nor Offering
abbrev pub IsPassive : Side → Type 0
IsPassive Running = ⊥
IsPassive Draining = ⊥
IsPassive (Offering e) = ⊥
IsPassive _ = Unit {0}

-- Filling or Prepared
abbrev pub IsAwaiting : Side → Type 0
IsAwaiting (Filling e) = Unit {0}
IsAwaiting (Prepared e) = Unit {0}
IsAwaiting _ = ⊥

-- A host on the first side is the holder beside a host on the second: it runs, drains or offers, or it is prepared and the other one
-- has released the guest.
abbrev pub IsHolder : Side → Side → Type 0
IsHolder Running s = IsPassive s
IsHolder Draining s = IsPassive s
IsHolder (Offering e) s = IsPassive s × (s ≢ Released e)
IsHolder (Prepared e) s = s ≡ Released e
IsHolder _ s = ⊥

-- the top and the totals of a stage are those of the epoch that was offered
abbrev pub MatchesOffer : (ℕ → Snapshot) → MoveStage → ℕ → Type 0
MatchesOffer offered stage.Empty top = Unit {0}
MatchesOffer offered stage.Running top = Unit {0}
MatchesOffer offered stage.Draining top = Unit {0}
MatchesOffer offered (stage.Offering e totals) top = (top ≡ e) × (totals ≡ totals_of (offered e))
MatchesOffer offered (stage.Released e) top = top ≡ e
MatchesOffer offered (stage.Filling e totals part place) top = (top ≡ e) × (totals ≡ totals_of (offered e))
MatchesOffer offered (stage.Prepared e) top = top ≡ e

-- The sides of the holder x and of the other host y. Where the holder neither runs nor drains, the values of its last offer are
-- the present ones.
pub record Sides (x y : SideState) (offered : ℕ → Snapshot) (Present : Snapshot → Type 0) : Type 0 where
  pub holds : IsHolder (shown_side x) (shown_side y)
  pub order : y.top ≤ x.top
  pub holder : MatchesOffer offered x.stage x.top
  pub rest : MatchesOffer offered y.stage y.top
  pub same : holds_device x.stage ≡ true → Present (offered x.top)

-- what is true of the hosts where this message was sent; n is the name of the holder and k that of the other host
abbrev pub Says : HostName → HostName → SideState → SideState → (ℕ → Snapshot) → HostName → ℕ → Body → Type 0
Says n k x y offered to e (body.Offer totals) = totals ≡ totals_of (offered e)
Says n k x y offered to e (body.Need part offset) = Unit {0}
Says n k x y offered to e (body.Piece part offset bytes) = bytes ≡ slice (part_bytes (offered e) part) offset (length bytes)
Says n k x y offered to e body.Prepared = to ≡ n → shown_side x ≡ Offering e → shown_side y ≡ Prepared e
Says n k x y offered to e body.Commit = (shown_side x ≢ Offering e) × (to ≡ k → (e ≤ y.top) × (IsAwaiting (shown_side y) → e < y.top))
Says n k x y offered to e body.Abort = (shown_side x ≢ Offering e) × (shown_side y ≢ Released e)
Says n k x y offered to e (body.Refuse why value) = Unit {0}

pub record IsConsistent (n k : HostName) (x y : SideState) (offered : ℕ → Snapshot) (m : Message) : Type 0 where
  pub epoch : m.epoch ≤ x.top
  pub says : Says n k x y offered m.to m.epoch m.body

-- a Commit and an Abort
abbrev pub Clash : Body → Body → Type 0
Clash body.Commit body.Abort = Unit {0}
Clash body.Abort body.Commit = Unit {0}
Clash _ _ = ⊥

pub record PairInvariant (n k : HostName) (x y : SideState) (offered : ℕ → Snapshot) (Present : Snapshot → Type 0) (sent : List Message) : Type 0 where
  pub sides : Sides x y offered Present
  pub each : (m : Message) → IsSent sent m → IsConsistent n k x y offered m
  pub apart : (c d : Message) → IsSent sent c → IsSent sent d → Clash c.body d.body → c.epoch ≢ d.epoch

abbrev pub side_at : TwoHosts → HostName → SideState
side_at t n = (host_of t n).side

-- the values at the end of the history, where the guest may be suspended
pub record IsPresent (b : Snapshot) (p : History) (v : Snapshot) : Type 0 where
  pub values : v ≡ snapshot_after b p
  pub may : MaySuspend b p

-- while a host drains, its command is claimed and unfinished
abbrev pub DrainsUnderWay : Snapshot → TwoHosts → Type 0
DrainsUnderWay b t = (n : HostName) → (host_of t n).side.stage ≡ stage.Draining → is_under_way b t.history ≡ true

-- one of the hosts is the holder
abbrev pub HostsInvariant : Snapshot → TwoHosts → Type 0
HostsInvariant b t = (n : HostName) × PairInvariant n (other n) (side_at t n) (side_at t (other n)) t.offered (IsPresent b t.history) t.sent
