-- What is true of two hosts after every transcript in turn. (Own definitions.)
use Rattle.std.specs.Prelude.{◌≡◌, ◌≢◌, ℕ, ◌≤◌, false, ◌&&◌, ◌||◌, ◌⊎◌, [], ◌∷◌, ◌++◌, length}
use Rattle.state_blobs.specs.Encodings.{slice}
use Rattle.crb_history.specs.Snapshot.{Snapshot}
use Rattle.move_codec.specs.declared.message.Message.{Message}
use Rattle.move_codec.specs.declared.message.Body.{Body}
use Rattle.move_codec.specs.declared.message.Body.TheVariants as body
use Rattle.move_core.specs.declared.side.Side.{Side}
use Rattle.move_core.specs.declared.side.Side.TheVariants.{Offering, Released, Prepared}
use Rattle.move_core.specs.Sides.{is_active}
use Rattle.two_hosts.specs.Parts.{part_bytes, totals_of}
use Rattle.vt_base.specs.declared.types.HostName.{HostName}
use Rattle.vt_script.specs.declared.event.Event.{Event}
use Rattle.vt_script.specs.declared.event.Event.TheVariants.{Access, Work, Ask, Reset, Offer, Deliver, GiveUp, Again, Show, Fail}
use Rattle.two_hosts.specs.Deliveries.{SideState}
use Rattle.two_hosts.specs.Hosts.{TwoHosts, hosts_after}
use Rattle.vt_transcript.specs.Replies.{Transcript}
use Rattle.two_hosts.specs.Replies.{InTurn}
use Rattle.two_hosts.specs.Invariant.{IsSent, side_at, shown_side}

-- after every transcript in turn
abbrev pub Always : (TwoHosts → Type 0) → Type 0
Always P = (b : Snapshot) (piece : ℕ) (t : Transcript) → InTurn b piece t → P (hosts_after b piece t)

-- at most one side is Running, Draining or Offering
abbrev pub NeverTwoActive : TwoHosts → Type 0
NeverTwoActive t = (is_active t.a.side.stage && is_active t.b.side.stage) ≡ false

abbrev pub IsHandedOver : Side → Side → Type 0
IsHandedOver (Released e) s = s ≡ Prepared e
IsHandedOver _ s = ⊥

-- where none is, one side is Released(e) and the other Prepared(e)
abbrev pub NoneMeansHandedOver : TwoHosts → Type 0
NoneMeansHandedOver t = (is_active t.a.side.stage || is_active t.b.side.stage) ≡ false → IsHandedOver (shown_side t.a.side) (shown_side t.b.side) ⊎ IsHandedOver (shown_side t.b.side) (shown_side t.a.side)

-- a Commit and an Abort of one epoch are never both sent
abbrev pub NeverBothSent : TwoHosts → Type 0
NeverBothSent t = (c d : Message) → IsSent t.sent c → IsSent t.sent d → c.body ≡ body.Commit → d.body ≡ body.Abort → c.epoch ≢ d.epoch

-- an Offer has the lengths of the values that were offered, and a Piece has a slice of them
abbrev pub IsTrueTo : Snapshot → Body → Type 0
IsTrueTo v (body.Offer totals) = totals ≡ totals_of v
IsTrueTo v (body.Piece part offset bytes) = bytes ≡ slice (part_bytes v part) offset (length bytes)
IsTrueTo v _ = Unit {0}

abbrev pub EachMessageIsTrue : TwoHosts → Type 0
EachMessageIsTrue t = (m : Message) → IsSent t.sent m → IsTrueTo (t.offered m.epoch) m.body

-- The message comes too late: an Offer of no greater epoch, a Commit to a host that isn't prepared in that epoch, or a
-- Prepared to a host that neither offers nor was released in it.
abbrev pub IsStale : SideState → ℕ → Body → Type 0
IsStale s e (body.Offer totals) = e ≤ s.top
IsStale s e body.Commit = shown_side s ≢ Prepared e
IsStale s e body.Prepared = (shown_side s ≢ Offering e) × (shown_side s ≢ Released e)
IsStale s e (body.Need part offset) = ⊥
IsStale s e (body.Piece part offset bytes) = ⊥
IsStale s e body.Abort = ⊥
IsStale s e (body.Refuse why value) = ⊥

-- a line that is there for two hosts alone
abbrev pub IsMoveLine : Event → Type 0
IsMoveLine (Access access) = ⊥
IsMoveLine Work = ⊥
IsMoveLine Ask = ⊥
IsMoveLine Reset = ⊥
IsMoveLine (Fail host call) = ⊥
IsMoveLine Offer = Unit {0}
IsMoveLine (Deliver message) = Unit {0}
IsMoveLine GiveUp = Unit {0}
IsMoveLine Again = Unit {0}
IsMoveLine (Show message) = Unit {0}

abbrev pub IsOffering : TwoHosts → HostName → ℕ → Type 0
IsOffering t n e = shown_side (side_at t n) ≡ Offering e

-- before each of these lines the host is Offering
abbrev pub StaysOffering : Snapshot → ℕ → HostName → ℕ → Transcript → Transcript → Type 0
StaysOffering b piece n e [] t = Unit {0}
StaysOffering b piece n e (x ∷ more) t = StaysOffering b piece n e more t × IsOffering (hosts_after b piece (more ++ t)) n e
