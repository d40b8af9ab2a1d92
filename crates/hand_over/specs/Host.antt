-- One host: what each call makes of it.
use Rattle.std.specs.Prelude.{ℕ, ◌+◌, ◌==◌, ◌&&◌, Bool, true, false, nat_lt, nat_le, if◌then◌else◌, List, length, Option, Some, None}
use Rattle.hand_over.specs.Parts.{Parts, PieceSizes, size_for, part_of, part_after, part_number, nothing, lengths, total_of, slice, put, first_bad}
pub use Rattle.move_core.specs.Sides.{other, is_same}
pub use Rattle.move_core.specs.Messages.{message_from}
use Rattle.vt_base.specs.declared.types.HostName.{HostName}
use Rattle.move_codec.specs.declared.names.Part.{Part}
use Rattle.move_codec.specs.declared.names.Part.TheVariants.{Record}
use Rattle.vt_base.specs.declared.types.Reason.{Reason}
use Rattle.vt_base.specs.declared.types.Reason.TheVariants as reason
use Rattle.move_codec.specs.declared.message.Message.{Message}
use Rattle.move_codec.specs.declared.message.Body.{Body}
use Rattle.move_codec.specs.declared.message.Body.TheVariants as body
use Rattle.move_core.specs.declared.side.Side.{Side}
use Rattle.move_core.specs.declared.side.Side.TheVariants.{Empty, Running, Draining, Offering, Released, Filling, Prepared}
use Rattle.ctrl_client.specs.declared.fault.ClientFault.{ClientFault}
use Rattle.move_core.specs.declared.answers.Delivered.{Delivered}
use Rattle.move_core.specs.declared.answers.Delivered.TheVariants.{Ignored, Took, Sent, Runs, Resumed, Refused, Wires}

-- a host, and what its device and its emulator hold
pub record HostState : Type 0 where
  pub side : Side
  pub top : ℕ  -- the greatest epoch that it has seen
  pub content : Parts
  pub totals : List ℕ  -- of a Filling side: the lengths that were offered,
  pub next : Part  -- the part that comes next,
  pub place : ℕ  -- and how much of it is there

-- a host after a call, with its answer
pub record After : Type 0 where
  pub host : HostState
  pub answer : Delivered

abbrev pub answered : HostState → Delivered → After
answered h answer = record { host = h; answer = answer }

abbrev pub sends : HostName → HostState → ℕ → Body → After
sends me h epoch says = answered h (Sent (message_from me epoch says))

abbrev pub refuses : HostName → HostState → ℕ → Reason → ℕ → After
refuses me h epoch why value = answered h (Refused (message_from me epoch (body.Refuse why value)))

abbrev pub ignores : HostState → After
ignores h = answered h Ignored

abbrev pub is_active : Side → Bool
is_active Running = true
is_active Draining = true
is_active (Offering e) = true
is_active _ = false

-- the epoch of a move under way
abbrev pub epoch_of : Side → ℕ
epoch_of Empty = 0
epoch_of Running = 0
epoch_of Draining = 0
epoch_of (Offering e) = e
epoch_of (Released e) = e
epoch_of (Filling e) = e
epoch_of (Prepared e) = e

-- the host waits for the parts, with nothing filled
abbrev pub begins_to_fill : ℕ → List ℕ → HostState
begins_to_fill epoch totals = record { side = Filling epoch; top = epoch; content = nothing; totals = totals; next = Record; place = 0 }

abbrev pub refuses_offer : HostState → ℕ → Parts → HostState
refuses_offer h epoch content = record h { side = Empty; top = epoch; content = content }

-- what a store answers in place of doing what it was asked, and what is in it then
pub record Refusal : Type 0 where
  pub client : ClientFault  -- a Need passes it on,
  pub reason : Reason  -- and an Offer or a Piece is refused for this reason
  pub value : ℕ
  pub left : Parts

abbrev pub left_empty : HostState → Parts → HostState
left_empty h content = record h { side = Empty; content = content }

-- an offer that is no longer too old, to a host that neither runs nor offers
abbrev pub takes_offer : HostName → HostState → ℕ → List ℕ → Option ℕ → Option Refusal → After
takes_offer me h epoch totals (Some bad) refusal = refuses me (refuses_offer h epoch h.content) epoch reason.Totals bad
takes_offer me h epoch totals None (Some refusal) = refuses me (refuses_offer h epoch refusal.left) epoch refusal.reason refusal.value
takes_offer me h epoch totals None None = sends me (begins_to_fill epoch totals) epoch (body.Need Record 0)

abbrev pub on_offer : HostName → HostState → ℕ → List ℕ → Option Refusal → After
on_offer me h epoch totals fault =
    if nat_lt h.top epoch
    then (if is_active h.side then refuses me h epoch reason.Busy 0 else takes_offer me h epoch totals (first_bad totals) fault)
    else ignores h

abbrev pub gives_piece : HostName → PieceSizes → HostState → ℕ → Part → ℕ → Option Refusal → After
gives_piece me size h epoch part offset (Some refusal) = answered h (Wires refusal.client)
gives_piece me size h epoch part offset None = sends me h epoch (body.Piece part offset (slice (part_of h.content part) offset (size_for size part)))

abbrev pub on_need : HostName → PieceSizes → Side → HostState → ℕ → Part → ℕ → Option Refusal → After
on_need me size (Offering e) h epoch part offset fault =
    if e == epoch && nat_lt offset (total_of h.totals part) then gives_piece me size h epoch part offset fault else ignores h
on_need me size _ h epoch part offset fault = ignores h

-- the part is full, or more of it is wanted
abbrev pub goes_on : HostName → HostState → ℕ → Option Part → After
goes_on me h epoch (Some part) = sends me (record h { next = part; place = 0 }) epoch (body.Need part 0)
goes_on me h epoch None = sends me (record h { side = Prepared epoch }) epoch body.Prepared

abbrev pub holds_more : HostState → ℕ → HostState
holds_more h size = record h { place = h.place + size }

abbrev pub takes_piece : HostName → HostState → ℕ → List ℕ → Option Refusal → After
takes_piece me h epoch bytes (Some refusal) = refuses me (left_empty h refusal.left) epoch refusal.reason refusal.value
takes_piece me h epoch bytes None =
    if nat_lt (h.place + length bytes) (total_of h.totals h.next)
    then sends me (record h { content = put h.content h.next bytes; place = h.place + length bytes }) epoch (body.Need h.next (h.place + length bytes))
    else goes_on me (record h { content = put h.content h.next bytes; place = h.place + length bytes }) epoch (part_after h.next)

-- the piece is the next one, and doesn't pass the total
abbrev pub is_next : HostState → Part → ℕ → ℕ → Bool
is_next h part offset size = (part_number part == part_number h.next) && ((offset == h.place) && nat_le (h.place + size) (total_of h.totals h.next))

abbrev pub on_piece : HostName → Side → HostState → ℕ → Part → ℕ → List ℕ → Option Refusal → After
on_piece me (Filling e) h epoch part offset bytes fault =
    if e == epoch && is_next h part offset (length bytes) then takes_piece me h epoch bytes fault else ignores h
on_piece me _ h epoch part offset bytes fault = ignores h

abbrev pub on_prepared : HostName → Side → HostState → ℕ → After
on_prepared me (Offering e) h epoch = if e == epoch then sends me (record h { side = Released epoch }) epoch body.Commit else ignores h
on_prepared me (Released e) h epoch = if e == epoch then sends me h epoch body.Commit else ignores h
on_prepared me _ h epoch = ignores h

abbrev pub on_commit : Side → HostState → ℕ → After
on_commit (Prepared e) h epoch = if e == epoch then answered (record h { side = Running }) Runs else ignores h
on_commit _ h epoch = ignores h

abbrev pub on_abort : Side → HostState → ℕ → After
on_abort (Filling e) h epoch = if e == epoch then answered (left_empty h h.content) Took else ignores h
on_abort (Prepared e) h epoch = if e == epoch then answered (left_empty h h.content) Took else ignores h
on_abort _ h epoch = ignores h

abbrev pub on_refuse : Side → HostState → ℕ → After
on_refuse (Offering e) h epoch = if e == epoch then answered (record h { side = Running }) Resumed else ignores h
on_refuse _ h epoch = ignores h

-- one delivery of a message that names this host, by what it says
abbrev pub on_message : HostName → PieceSizes → HostState → ℕ → Body → Option Refusal → After
on_message me size h epoch (body.Offer totals) fault = on_offer me h epoch totals fault
on_message me size h epoch (body.Need part offset) fault = on_need me size h.side h epoch part offset fault
on_message me size h epoch (body.Piece part offset bytes) fault = on_piece me h.side h epoch part offset bytes fault
on_message me size h epoch body.Prepared fault = on_prepared me h.side h epoch
on_message me size h epoch body.Commit fault = on_commit h.side h epoch
on_message me size h epoch body.Abort fault = on_abort h.side h epoch
on_message me size h epoch (body.Refuse why value) fault = on_refuse h.side h epoch

-- one delivery of any message. The last argument is what the store answers, if it is asked and refuses
abbrev pub delivered : HostName → PieceSizes → HostState → Message → Option Refusal → After
delivered me size h m fault = if is_same me m.to then on_message me size h m.epoch m.body fault else ignores h

-- the host with these parts
abbrev pub with_content : HostState → Parts → HostState
with_content h content = record h { content = content }

-- a running host offers what it holds
abbrev pub offering : HostState → HostState
offering h = record h { side = Offering (h.top + 1); top = h.top + 1; totals = lengths h.content }

abbrev pub offer_message : HostName → HostState → Message
offer_message me h = message_from me (h.top + 1) (body.Offer (lengths h.content))

abbrev pub running : HostState → HostState
running h = record h { side = Running }

-- a running host whose command is unfinished drains
abbrev pub draining : HostState → HostState
draining h = record h { side = Draining }

abbrev pub abort_message : HostName → HostState → Message
abort_message me h = message_from me (epoch_of h.side) body.Abort

abbrev pub prepared_message : HostName → HostState → Message
prepared_message me h = message_from me (epoch_of h.side) body.Prepared
