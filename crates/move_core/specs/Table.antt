-- The table of deliveries: the row for each message at each side, the request that it makes, and what follows by each answer of
-- the emulator. docs/MIGRATION.md has it in words. (Own definitions.)
use Rattle.std.specs.Prelude.{ℕ, ◌+◌, ◌==◌, ◌&&◌, Bool, true, false, nat_lt, if◌then◌else◌, List, [], ◌++◌, length, Option, Some, None, Result, Ok, Err}
use Rattle.vt_base.specs.declared.types.Malformed.{Malformed}
use Rattle.vt_base.specs.declared.types.Kind.{Kind}
use Rattle.vt_base.specs.declared.types.Kind.TheVariants as kind
use Rattle.crb_machine.specs.Values.{DeviceValues}
use Rattle.state_blobs.specs.Encodings.{slice}
use Rattle.ctrl_client.specs.declared.fault.ClientFault.{ClientFault}
use Rattle.ctrl_client.specs.declared.fault.ClientFault.TheVariants.{Link, Result as BadResult, Reply as BadReply}
use Rattle.move_codec.specs.declared.names.Part.{Part}
use Rattle.move_codec.specs.declared.names.Part.TheVariants.{Record, Permanent, Volatile, Saved}
use Rattle.vt_base.specs.declared.types.Reason.{Reason}
use Rattle.vt_base.specs.declared.types.Reason.TheVariants as reason
use Rattle.move_codec.specs.declared.message.Message.{Message}
use Rattle.move_codec.specs.declared.message.Body.{Body}
use Rattle.move_codec.specs.declared.message.Body.TheVariants as body
use Rattle.move_core.specs.declared.stage.MoveStage.{MoveStage}
use Rattle.move_core.specs.declared.stage.MoveStage.TheVariants.{Empty, Running, Offering, Released, Filling, Prepared}
use Rattle.move_core.specs.declared.answers.Delivered.{Delivered}
use Rattle.move_core.specs.declared.answers.Delivered.TheVariants as delivers
use Rattle.move_core.specs.Model.{HostModel}
use Rattle.move_core.specs.Sides.{is_same, is_active, part_after, total_of, first_bad}
pub use Rattle.move_core.specs.Messages.{message_from, is_next}
use Rattle.move_core.specs.Hosts.{restored}
use Rattle.move_core.specs.declared.asking.Fetched.{Fetched}

-- the host after a delivery, the answer, and whether the device goes on
pub record After (P : Type 0) : Type 0 where
  pub host : HostModel P
  pub answer : Delivered
  pub goes_on : Bool

-- A row: its end; or its request, or the bytes that are decoded as a record, and its end by each answer.
pub data Row (P : Type 0) : Type 0 where
  Ends : After P → Row P
  Stops : (Result (Unit {0}) ClientFault → After P) → Row P
  Fetches : Kind → ℕ → (Result Fetched ClientFault → After P) → Row P
  Gives : Kind → List ℕ → (Result (Unit {0}) ClientFault → After P) → Row P
  GivesLast : List ℕ → (Result (Unit {0}) ClientFault → After P) → Row P
  Loads : List ℕ → (Result DeviceValues Malformed → After P) → Row P

-- ---- answers

abbrev pub answers : {P : Type 0} → HostModel P → Delivered → After P
answers h answer = record { host = h; answer = answer; goes_on = false }

abbrev pub resumes : {P : Type 0} → HostModel P → Delivered → After P
resumes h answer = record { host = h; answer = answer; goes_on = true }

abbrev pub sends : {P : Type 0} → HostModel P → ℕ → Body → After P
sends h epoch says = answers h (delivers.Sent (message_from h.name epoch says))

abbrev pub refuses : {P : Type 0} → HostModel P → ℕ → Reason → ℕ → After P
refuses h epoch why value = answers h (delivers.Refused (message_from h.name epoch (body.Refuse why value)))

-- no row fits
abbrev pub ignored : {P : Type 0} → HostModel P → Row P
ignored h = Ends (answers h delivers.Ignored)

-- the host takes no part in a move, and has no guest
abbrev pub emptied : {P : Type 0} → HostModel P → HostModel P
emptied h = record h { stage = Empty; record_bytes = [] }

abbrev pub reason_for : ClientFault → Reason
reason_for Link = reason.Link
reason_for (BadResult number) = reason.Blob
reason_for (BadReply place) = reason.Reply

abbrev pub value_for : ClientFault → ℕ
value_for Link = 0
value_for (BadResult number) = number
value_for (BadReply place) = place

-- a refusal after a client fault
abbrev pub refuses_for : {P : Type 0} → ClientFault → HostModel P → ℕ → After P
refuses_for fault h epoch = refuses (emptied h) epoch (reason_for fault) (value_for fault)

-- ---- Offer

abbrev pub begins : {P : Type 0} → HostModel P → ℕ → List ℕ → Result (Unit {0}) ClientFault → After P
begins h epoch totals (Ok done) = sends (record h { stage = Filling epoch totals Record 0; record_bytes = [] }) epoch (body.Need Record 0)
begins h epoch totals (Err fault) = refuses_for fault h epoch

-- to a host that neither runs nor offers, by the first bad length
abbrev pub takes_offer : {P : Type 0} → HostModel P → ℕ → List ℕ → Option ℕ → Row P
takes_offer h epoch totals (Some bad) = Ends (refuses (emptied h) epoch reason.Totals bad)
takes_offer h epoch totals None = Stops (begins h epoch totals)

abbrev pub on_offer : {P : Type 0} → HostModel P → ℕ → List ℕ → Row P
on_offer h epoch totals =
    if nat_lt h.top epoch
    then (if is_active h.stage then Ends (refuses h epoch reason.Busy 0) else takes_offer (record h { top = epoch }) epoch totals (first_bad totals))
    else ignored h

-- ---- Need

-- A piece of a blob is sent on if the blob has the length that was offered. The total begins at place 8 of the reply.
abbrev pub passes_on : {P : Type 0} → HostModel P → ℕ → ℕ → Part → ℕ → Result Fetched ClientFault → After P
passes_on h epoch total part offset (Ok p) =
    if p.total == total then sends h epoch (body.Piece part offset p.bytes) else answers h (delivers.Wires (BadReply 8))
passes_on h epoch total part offset (Err fault) = answers h (delivers.Wires fault)

abbrev pub gives_record : {P : Type 0} → HostModel P → ℕ → ℕ → After P
gives_record h epoch offset = sends h epoch (body.Piece Record offset (slice h.record_bytes offset h.piece))

abbrev pub gives : {P : Type 0} → HostModel P → ℕ → ℕ → Part → ℕ → Row P
gives h epoch total Record offset = Ends (gives_record h epoch offset)
gives h epoch total Permanent offset = Fetches kind.Permanent offset (passes_on h epoch total Permanent offset)
gives h epoch total Volatile offset = Fetches kind.Volatile offset (passes_on h epoch total Volatile offset)
gives h epoch total Saved offset = Fetches kind.Saved offset (passes_on h epoch total Saved offset)

abbrev pub on_need : {P : Type 0} → HostModel P → MoveStage → ℕ → Part → ℕ → Row P
on_need h (Offering e totals) epoch part offset =
    if e == epoch && nat_lt offset (total_of totals part) then gives h epoch (total_of totals part) part offset else ignored h
on_need h _ epoch part offset = ignored h

-- ---- Piece

-- the next bytes of a part are asked for
abbrev pub wants : {P : Type 0} → HostModel P → ℕ → List ℕ → Part → ℕ → After P
wants h epoch totals part place = sends (record h { stage = Filling epoch totals part place }) epoch (body.Need part place)

-- all bytes of a part have come: the next part is asked for, or the host is prepared
abbrev pub goes_to : {P : Type 0} → HostModel P → ℕ → List ℕ → Option Part → After P
goes_to h epoch totals (Some part) = wants h epoch totals part 0
goes_to h epoch totals None = sends (record h { stage = Prepared epoch }) epoch body.Prepared

abbrev pub reaches : {P : Type 0} → HostModel P → ℕ → List ℕ → Part → ℕ → After P
reaches h epoch totals part place =
    if nat_lt place (total_of totals part) then wants h epoch totals part place else goes_to h epoch totals (part_after part)

abbrev pub took : {P : Type 0} → HostModel P → ℕ → List ℕ → Part → ℕ → Result (Unit {0}) ClientFault → After P
took h epoch totals part place (Ok done) = reaches h epoch totals part place
took h epoch totals part place (Err fault) = refuses_for fault h epoch

-- the device gets the values of the record
abbrev pub loads : {P : Type 0} → HostModel P → ℕ → List ℕ → List ℕ → Result DeviceValues Malformed → After P
loads h epoch totals bytes (Ok v) = goes_to (record h { record_bytes = bytes; device = restored v h.device }) epoch totals (part_after Record)
loads h epoch totals bytes (Err fault) = refuses (emptied h) epoch reason.Record fault.place

abbrev pub takes_piece : {P : Type 0} → HostModel P → ℕ → List ℕ → Part → ℕ → List ℕ → Row P
takes_piece h epoch totals Record place bytes =
    if nat_lt place (total_of totals Record)
    then Ends (wants (record h { record_bytes = h.record_bytes ++ bytes }) epoch totals Record place)
    else Loads (h.record_bytes ++ bytes) (loads h epoch totals (h.record_bytes ++ bytes))
takes_piece h epoch totals Permanent place bytes = Gives kind.Permanent bytes (took h epoch totals Permanent place)
takes_piece h epoch totals Volatile place bytes = Gives kind.Volatile bytes (took h epoch totals Volatile place)
takes_piece h epoch totals Saved place bytes =
    if nat_lt place (total_of totals Saved)
    then Gives kind.Saved bytes (took h epoch totals Saved place)
    else GivesLast bytes (took h epoch totals Saved place)

abbrev pub on_piece : {P : Type 0} → HostModel P → MoveStage → ℕ → Part → ℕ → List ℕ → Row P
on_piece h (Filling e totals next place) epoch part offset bytes =
    if e == epoch && is_next totals next place part offset (length bytes) then takes_piece h epoch totals next (place + length bytes) bytes else ignored h
on_piece h _ epoch part offset bytes = ignored h

-- ---- the others

abbrev pub on_prepared : {P : Type 0} → HostModel P → MoveStage → ℕ → Row P
on_prepared h (Offering e totals) epoch = if e == epoch then Ends (sends (record h { stage = Released epoch; record_bytes = [] }) epoch body.Commit) else ignored h
on_prepared h (Released e) epoch = if e == epoch then Ends (sends h epoch body.Commit) else ignored h
on_prepared h _ epoch = ignored h

abbrev pub on_commit : {P : Type 0} → HostModel P → MoveStage → ℕ → Row P
on_commit h (Prepared e) epoch = if e == epoch then Ends (resumes (record h { stage = Running; record_bytes = [] }) delivers.Runs) else ignored h
on_commit h _ epoch = ignored h

abbrev pub on_abort : {P : Type 0} → HostModel P → MoveStage → ℕ → Row P
on_abort h (Filling e totals next place) epoch = if e == epoch then Ends (answers (emptied h) delivers.Took) else ignored h
on_abort h (Prepared e) epoch = if e == epoch then Ends (answers (emptied h) delivers.Took) else ignored h
on_abort h _ epoch = ignored h

abbrev pub on_refuse : {P : Type 0} → HostModel P → MoveStage → ℕ → Row P
on_refuse h (Offering e totals) epoch = if e == epoch then Ends (resumes (record h { stage = Running; record_bytes = [] }) delivers.Resumed) else ignored h
on_refuse h _ epoch = ignored h

-- ---- the table

-- the row for a message that names this host
abbrev pub on_message : {P : Type 0} → HostModel P → ℕ → Body → Row P
on_message h epoch (body.Offer totals) = on_offer h epoch totals
on_message h epoch (body.Need part offset) = on_need h h.stage epoch part offset
on_message h epoch (body.Piece part offset bytes) = on_piece h h.stage epoch part offset bytes
on_message h epoch body.Prepared = on_prepared h h.stage epoch
on_message h epoch body.Commit = on_commit h h.stage epoch
on_message h epoch body.Abort = on_abort h h.stage epoch
on_message h epoch (body.Refuse why value) = on_refuse h h.stage epoch

-- the row for a message: none fits one that names the other host
unfoldable pub delivered : {P : Type 0} → HostModel P → Message → Row P
delivered h m = if is_same h.name m.to then on_message h m.epoch m.body else ignored h
