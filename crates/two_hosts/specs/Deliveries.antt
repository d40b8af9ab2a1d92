-- The table of deliveries between two hosts: what a message makes of its receiver's side, and the answer. The bytes of a
-- Piece are those of the values that were offered; nothing else of a device or a TPM is looked at. (Own definitions.)
use Rattle.std.specs.Prelude.{ℕ, ◌+◌, ◌==◌, ◌&&◌, Bool, true, false, nat_lt, if◌then◌else◌, List, length, Option, Some, None}
use Rattle.state_blobs.specs.Encodings.{slice}
use Rattle.crb_history.specs.Snapshot.{Snapshot}
use Rattle.ctrl_client.specs.declared.fault.ClientFault.TheVariants.{Link}
use Rattle.vt_base.specs.declared.types.HostName.{HostName}
use Rattle.move_codec.specs.declared.names.Part.{Part}
use Rattle.move_codec.specs.declared.names.Part.TheVariants.{Record}
use Rattle.vt_base.specs.declared.types.Reason.{Reason}
use Rattle.vt_base.specs.declared.types.Reason.TheVariants as reason
use Rattle.move_codec.specs.declared.message.Body.{Body}
use Rattle.move_codec.specs.declared.message.Body.TheVariants as body
use Rattle.move_core.specs.declared.stage.MoveStage.{MoveStage}
use Rattle.move_core.specs.declared.stage.MoveStage.TheVariants.{Empty, Running, Offering, Released, Filling, Prepared}
use Rattle.move_core.specs.declared.answers.Delivered.{Delivered}
use Rattle.move_core.specs.declared.answers.Delivered.TheVariants as delivers
use Rattle.move_core.specs.Sides.{is_active, part_after, total_of, first_bad}
use Rattle.move_core.specs.Messages.{message_from, is_next}
use Rattle.two_hosts.specs.Parts.{part_bytes}

-- a host's side, with what it keeps there of a move, and the greatest epoch that it has seen
pub record SideState : Type 0 where
  pub stage : MoveStage
  pub top : ℕ

-- the receiver's side after a delivery, and the answer
pub record Outcome : Type 0 where
  pub side : SideState
  pub answer : Delivered

-- what decides about a delivery beside the message and the receiver's side: the receiver's name, how many bytes a Piece has
-- at most, the values that were offered in each epoch, and whether a call on the receiver's wires fails
pub record DeliveryContext : Type 0 where
  pub me : HostName
  pub piece : ℕ
  pub offered : ℕ → Snapshot
  pub fails : Bool

abbrev pub answers : SideState → Delivered → Outcome
answers s answer = record { side = s; answer = answer }

abbrev pub ignored : SideState → Outcome
ignored s = answers s delivers.Ignored

abbrev pub sends : DeliveryContext → SideState → ℕ → Body → Outcome
sends x s epoch says = answers s (delivers.Sent (message_from x.me epoch says))

abbrev pub refuses : DeliveryContext → SideState → ℕ → Reason → ℕ → Outcome
refuses x s epoch why value = answers s (delivers.Refused (message_from x.me epoch (body.Refuse why value)))

abbrev pub at_stage : SideState → MoveStage → SideState
at_stage s stage = record s { stage = stage }

-- a call on its wires failed: the receiver is empty
abbrev pub breaks_off : DeliveryContext → SideState → ℕ → Outcome
breaks_off x s epoch = refuses x (at_stage s Empty) epoch reason.Link 0

-- ---- Offer

abbrev pub takes_offer : DeliveryContext → SideState → ℕ → List ℕ → Option ℕ → Outcome
takes_offer x s epoch totals (Some bad) = refuses x (at_stage s Empty) epoch reason.Totals bad
takes_offer x s epoch totals None =
    if x.fails then breaks_off x s epoch else sends x (at_stage s (Filling epoch totals Record 0)) epoch (body.Need Record 0)

abbrev pub on_offer : DeliveryContext → SideState → ℕ → List ℕ → Outcome
on_offer x s epoch totals =
    if nat_lt s.top epoch
    then (if is_active s.stage then refuses x s epoch reason.Busy 0 else takes_offer x (record s { top = epoch }) epoch totals (first_bad totals))
    else ignored s

-- ---- Need

abbrev pub gives : DeliveryContext → SideState → ℕ → Part → ℕ → Outcome
gives x s epoch part offset =
    if x.fails then answers s (delivers.Wires Link)
    else sends x s epoch (body.Piece part offset (slice (part_bytes (x.offered epoch) part) offset x.piece))

abbrev pub on_need : DeliveryContext → SideState → MoveStage → ℕ → Part → ℕ → Outcome
on_need x s (Offering e totals) epoch part offset =
    if e == epoch && nat_lt offset (total_of totals part) then gives x s epoch part offset else ignored s
on_need x s _ epoch part offset = ignored s

-- ---- Piece

abbrev pub wants : DeliveryContext → SideState → ℕ → List ℕ → Part → ℕ → Outcome
wants x s epoch totals part place = sends x (at_stage s (Filling epoch totals part place)) epoch (body.Need part place)

abbrev pub goes_to : DeliveryContext → SideState → ℕ → List ℕ → Option Part → Outcome
goes_to x s epoch totals (Some part) = wants x s epoch totals part 0
goes_to x s epoch totals None = sends x (at_stage s (Prepared epoch)) epoch body.Prepared

abbrev pub reaches : DeliveryContext → SideState → ℕ → List ℕ → Part → ℕ → Outcome
reaches x s epoch totals part place =
    if nat_lt place (total_of totals part) then wants x s epoch totals part place else goes_to x s epoch totals (part_after part)

abbrev pub on_piece : DeliveryContext → SideState → MoveStage → ℕ → Part → ℕ → List ℕ → Outcome
on_piece x s (Filling e totals next place) epoch part offset bytes =
    if e == epoch && is_next totals next place part offset (length bytes)
    then (if x.fails then breaks_off x s epoch else reaches x s epoch totals next (place + length bytes))
    else ignored s
on_piece x s _ epoch part offset bytes = ignored s

-- ---- Prepared, Commit, Abort and Refuse use no wires

abbrev pub on_prepared : DeliveryContext → SideState → MoveStage → ℕ → Outcome
on_prepared x s (Offering e totals) epoch = if e == epoch then sends x (at_stage s (Released epoch)) epoch body.Commit else ignored s
on_prepared x s (Released e) epoch = if e == epoch then sends x s epoch body.Commit else ignored s
on_prepared x s _ epoch = ignored s

abbrev pub on_commit : SideState → MoveStage → ℕ → Outcome
on_commit s (Prepared e) epoch = if e == epoch then answers (at_stage s Running) delivers.Runs else ignored s
on_commit s _ epoch = ignored s

abbrev pub on_abort : SideState → MoveStage → ℕ → Outcome
on_abort s (Filling e totals next place) epoch = if e == epoch then answers (at_stage s Empty) delivers.Took else ignored s
on_abort s (Prepared e) epoch = if e == epoch then answers (at_stage s Empty) delivers.Took else ignored s
on_abort s _ epoch = ignored s

abbrev pub on_refuse : SideState → MoveStage → ℕ → Outcome
on_refuse s (Offering e totals) epoch = if e == epoch then answers (at_stage s Running) delivers.Resumed else ignored s
on_refuse s _ epoch = ignored s

-- ---- each kind of message

-- the delivery of a message to the host that it names
abbrev pub delivered : DeliveryContext → SideState → ℕ → Body → Outcome
delivered x s epoch (body.Offer totals) = on_offer x s epoch totals
delivered x s epoch (body.Need part offset) = on_need x s s.stage epoch part offset
delivered x s epoch (body.Piece part offset bytes) = on_piece x s s.stage epoch part offset bytes
delivered x s epoch body.Prepared = on_prepared x s s.stage epoch
delivered x s epoch body.Commit = on_commit s s.stage epoch
delivered x s epoch body.Abort = on_abort s s.stage epoch
delivered x s epoch (body.Refuse why value) = on_refuse s s.stage epoch

-- ---- the calls of a delivery

abbrev pub is_blob : Part → Bool
is_blob Record = false
is_blob _ = true

-- the calls on the wires for a message that isn't ignored: STOP for an Offer, one GET or PUT of a blob for a Need or a
-- Piece, and INIT behind the last Piece, which leaves the receiver prepared
abbrev pub calls_by : Body → MoveStage → ℕ
calls_by (body.Offer totals) stage = 2
calls_by (body.Need part offset) stage = if is_blob part then 3 else 0
calls_by (body.Piece part offset bytes) (Prepared e) = if is_blob part then 5 else 0
calls_by (body.Piece part offset bytes) stage = if is_blob part then 3 else 0
calls_by _ stage = 0

abbrev pub calls_at : Body → MoveStage → Delivered → ℕ
calls_at says stage delivers.Ignored = 0
calls_at says stage _ = calls_by says stage

-- the calls that a delivery makes on the wires where none fails
abbrev pub calls_of_delivery : DeliveryContext → SideState → ℕ → Body → ℕ
calls_of_delivery x s epoch says =
    let whole = delivered (record x { fails = false }) s epoch says in
    calls_at says whole.side.stage whole.answer
