-- What each call of a host does, in terms of the table of deliveries and of the requests to the emulator. (Own definitions.)
use Rattle.std.specs.Prelude.{◌≡◌, ◌-◌, ◌+◌, ◌<◌, ◌^◌, ℕ, Bool, true, false, List, [], ◌∷◌, length, Option, Some, None, IfSome, Result, Ok, Err}
use Rattle.vt_base.specs.declared.types.Malformed.{Malformed}
use Rattle.vt_base.specs.declared.types.Kind.TheVariants as kind
use Rattle.crb_port.specs.Views.{PortView}
use Rattle.crb_regs.specs.Registers.{is_lost}
use Rattle.crb_machine.specs.Values.{DeviceValues, held_values}
use Rattle.crb_machine.specs.Steps.{collected}
use Rattle.crb_machine.specs.Over.{Stops as DeviceStops, GoesOn, state_of}
use Rattle.crb_machine.specs.Model.{DeviceModel}
use Rattle.device_record.specs.Records.{encode_record, IsRecord}
use Rattle.ctrl_codec.specs.declared.request.Request.TheVariants.{Stop}
use Rattle.ctrl_client.specs.declared.fault.ClientFault.{ClientFault}
use Rattle.move_codec.specs.declared.message.Message.{Message}
use Rattle.move_codec.specs.declared.message.Body.{Body}
use Rattle.move_codec.specs.declared.message.Body.TheVariants as body
use Rattle.move_core.specs.declared.stage.MoveStage.{MoveStage}
use Rattle.move_core.specs.declared.stage.MoveStage.TheVariants.{Running, Draining, Offering, Prepared}
use Rattle.move_core.specs.declared.answers.Delivered.{Delivered}
use Rattle.move_core.specs.declared.answers.OfferFault.{OfferFault}
use Rattle.move_core.specs.declared.answers.OfferFault.TheVariants as fault
use Rattle.move_core.specs.declared.answers.Offered.{Offered}
use Rattle.move_core.specs.declared.answers.Offered.TheVariants as offered
use Rattle.move_core.specs.declared.answers.Gave.{Gave}
use Rattle.move_core.specs.declared.answers.Gave.TheVariants as gave
use Rattle.move_core.specs.Model.{HostModel}
use Rattle.move_core.specs.Sides.{is_running}
use Rattle.move_core.specs.Hosts.{Decodes}
use Rattle.move_core.specs.declared.asking.Fetched.{Fetched}
use Rattle.move_core.specs.Requests.{WiresView, Asks, FetchesPiece, GivesPiece, GivesLastPiece, GetsTotals}
use Rattle.move_core.specs.Table.{After, Row, message_from}
use Rattle.move_core.specs.Table.Row.{Ends, Stops, Fetches, Gives, GivesLast, Loads}

-- ---- deliver

-- only the device changes: it goes on
pub record Resumes {P : Type 0} (port_view : P → PortView) (h new : HostModel P) : Type 0 where
  pub rest : new ≡ record h { device = new.device }
  pub device : GoesOn port_view h.device new.device

abbrev pub SettlesBy : {P : Type 0} → Bool → (P → PortView) → HostModel P → HostModel P → Type 0
SettlesBy false port_view h new = new ≡ h
SettlesBy true port_view h new = Resumes port_view h new

-- the answer and the host are those of a row's end
pub record EndsIn {P : Type 0} (port_view : P → PortView) (after : After P) (answer : Delivered) (new : HostModel P) : Type 0 where
  pub answer_is : answer ≡ after.answer
  pub host_is : SettlesBy after.goes_on port_view after.host new

-- A row was followed: its request was made, and the host and the answer are those that the row has for the emulator's answer.
abbrev pub Follows : {P Schedule : Type 0} → (P → PortView) → Row P → WiresView Schedule → WiresView Schedule → Delivered → HostModel P → Type 0
Follows port_view (Ends after) w v answer new = (v ≡ w) × EndsIn port_view after answer new
Follows port_view (Stops next) w v answer new = (r : Result (Unit {0}) ClientFault) × Asks Stop [] w v r × EndsIn port_view (next r) answer new
Follows port_view (Fetches kind offset next) w v answer new = (r : Result Fetched ClientFault) × FetchesPiece kind offset w v r × EndsIn port_view (next r) answer new
Follows port_view (Gives kind bytes next) w v answer new = (r : Result (Unit {0}) ClientFault) × GivesPiece kind bytes w v r × EndsIn port_view (next r) answer new
Follows port_view (GivesLast bytes next) w v answer new = (r : Result (Unit {0}) ClientFault) × GivesLastPiece bytes w v r × EndsIn port_view (next r) answer new
Follows port_view (Loads bytes next) w v answer new = (r : Result DeviceValues Malformed) × Decodes bytes r × (v ≡ w) × EndsIn port_view (next r) answer new

-- a row without a request was followed
abbrev pub FollowsAlone : {P : Type 0} → (P → PortView) → Row P → Delivered → HostModel P → Type 0
FollowsAlone port_view (Ends after) answer new = EndsIn port_view after answer new
FollowsAlone port_view (Loads bytes next) answer new = (r : Result DeviceValues Malformed) × Decodes bytes r × EndsIn port_view (next r) answer new
FollowsAlone port_view _ answer new = ⊥

-- a Piece has at least one byte
abbrev pub HasBytes : Body → Type 0
HasBytes (body.Piece part offset bytes) = 0 < length bytes
HasBytes _ = Unit {0}

abbrev pub IsNeed : Body → Type 0
IsNeed (body.Need part offset) = Unit {0}
IsNeed _ = ⊥

-- ---- offer

-- The host has made its offer: the lengths of the record of its held device and of the emulator's three blobs, in the next epoch.
pub record OffersParts {P Schedule : Type 0} (h : HostModel P) (w v : WiresView Schedule) (m : Message) (new : HostModel P) : Type 0 where
  pub below : h.top < 2 ^ 64 - 1
  pub totals : List ℕ
  pub asked : GetsTotals (kind.Permanent ∷ kind.Volatile ∷ kind.Saved ∷ []) w v (Ok totals)
  pub said : m ≡ message_from h.name (h.top + 1) (body.Offer (length (encode_record (held_values h.device)) ∷ totals))
  pub new_is : new ≡ record h {
    top = h.top + 1;
    stage = Offering (h.top + 1) (length (encode_record (held_values h.device)) ∷ totals);
    record_bytes = encode_record (held_values h.device);
  }
  pub fit : IsRecord new.record_bytes (held_values h.device)

-- each answer of an offer with its cause, over a device that was stopped
abbrev pub OffersHeld : {P Schedule : Type 0} → HostModel P → WiresView Schedule → Result Message OfferFault → WiresView Schedule → HostModel P → Type 0
OffersHeld h w (Ok m) v new = (is_lost h.device.regs.phase ≡ false) × OffersParts h w v m new
OffersHeld h w (Err fault.Device) v new = (is_lost h.device.regs.phase ≡ true) × (v ≡ w) × (new ≡ h)
OffersHeld h w (Err fault.EpochEnd) v new = (is_lost h.device.regs.phase ≡ false) × (h.top ≡ 2 ^ 64 - 1) × (v ≡ w) × (new ≡ h)
OffersHeld h w (Err (fault.Wires f)) v new =
    (is_lost h.device.regs.phase ≡ false) × (h.top < 2 ^ 64 - 1) × GetsTotals (kind.Permanent ∷ kind.Volatile ∷ kind.Saved ∷ []) w v (Err f) × (new ≡ h)
OffersHeld h w (Err fault.Stopped) v new = ⊥

-- after a refusal the device goes on
abbrev pub EndsOffer : {P : Type 0} → (P → PortView) → Result Message OfferFault → HostModel P → HostModel P → Type 0
EndsOffer port_view (Ok m) h new = new ≡ h
EndsOffer port_view (Err f) h new = Resumes port_view h new

-- the device was stopped, the offer was made or refused, and after a refusal the device went on
pub record StopsAndOffers {P Schedule : Type 0} (port_view : P → PortView) (h : HostModel P) (w : WiresView Schedule) (answer : Result Message OfferFault) (v : WiresView Schedule) (new : HostModel P) : Type 0 where
  pub device : DeviceModel P
  pub stops : DeviceStops port_view h.device (Ok tt) device
  pub held : HostModel P
  pub offers : OffersHeld (record h { device = device }) w answer v held
  pub ends : EndsOffer port_view answer held new

-- the greatest epoch was seen, while a command is claimed or not
pub data EpochEnds {P Schedule : Type 0} (port_view : P → PortView) (h : HostModel P) (w v : WiresView Schedule) (new : HostModel P) : Type 0 where
  Claimed : (number : ℕ) → h.top ≡ 2 ^ 64 - 1 → v ≡ w → DeviceStops port_view h.device (Err (record { number = number })) new.device → new ≡ record h { device = new.device } → EpochEnds port_view h w v new
  Unclaimed : StopsAndOffers port_view h w (Err fault.EpochEnd) v new → EpochEnds port_view h w v new

-- each answer of an offer with its cause
abbrev pub Offers : {P Schedule : Type 0} → (P → PortView) → HostModel P → WiresView Schedule → Result Offered OfferFault → WiresView Schedule → HostModel P → Type 0
Offers port_view h w (Err fault.Stopped) v new = (is_running h.stage ≡ false) × (v ≡ w) × (new ≡ h)
Offers port_view h w (Err fault.EpochEnd) v new = (h.stage ≡ Running) × EpochEnds port_view h w v new
Offers port_view h w (Err f) v new = (h.stage ≡ Running) × StopsAndOffers port_view h w (Err f) v new
Offers port_view h w (Ok (offered.Sent m)) v new = (h.stage ≡ Running) × StopsAndOffers port_view h w (Ok m) v new
Offers port_view h w (Ok (offered.Draining number)) v new =
    (h.stage ≡ Running) × (h.top < 2 ^ 64 - 1) × (v ≡ w) × DeviceStops port_view h.device (Err (record { number = number })) new.device
    × (new ≡ record h { stage = Draining; device = new.device })

-- ---- drained

-- Each answer to a draining host's question whether its command is done. Once it is, the host is running and offers.
abbrev pub Drains : {P Schedule : Type 0} → (P → PortView) → HostModel P → WiresView Schedule → Result (Option Message) OfferFault → WiresView Schedule → HostModel P → Type 0
Drains port_view h w (Ok None) v new = (v ≡ w) × (number : ℕ) × DeviceStops port_view h.device (Err (record { number = number })) new.device × (new ≡ record h { device = new.device })
Drains port_view h w (Ok (Some m)) v new = StopsAndOffers port_view (record h { stage = Running }) w (Ok m) v new
Drains port_view h w (Err fault.Stopped) v new = ⊥
Drains port_view h w (Err fault.EpochEnd) v new = ⊥
Drains port_view h w (Err f) v new = StopsAndOffers port_view (record h { stage = Running }) w (Err f) v new

-- ---- give_up and again

abbrev pub GivesUpAt : {P : Type 0} → MoveStage → (P → PortView) → HostModel P → Gave → HostModel P → Type 0
GivesUpAt (Offering e totals) port_view h answer new =
    (answer ≡ gave.Abort (message_from h.name e body.Abort)) × Resumes port_view (record h { stage = Running; record_bytes = [] }) new
GivesUpAt Draining port_view h answer new = (answer ≡ gave.Undrained) × (new ≡ record h { stage = Running })
GivesUpAt _ port_view h answer new = (answer ≡ gave.NotOffering) × (new ≡ h)

abbrev pub GivesUp : {P : Type 0} → (P → PortView) → HostModel P → Gave → HostModel P → Type 0
GivesUp port_view h answer new = GivesUpAt h.stage port_view h answer new

-- the message that a prepared host repeats
abbrev pub said_again : {P : Type 0} → MoveStage → HostModel P → Option Message
said_again (Prepared e) h = Some (message_from h.name e body.Prepared)
said_again _ h = None

-- ---- what is undone

-- where the port's state is known: the device, with the answer collected that waited in its port
abbrev pub IsSameDevice : {P : Type 0} → (P → PortView) → DeviceModel P → DeviceModel P → Type 0
IsSameDevice port_view d e = IfSome (state_of port_view d) (λ s. state_of port_view e ≡ Some (collected s))

-- the host is as before, but that its device may have collected an answer
pub record IsAsBefore {P : Type 0} (port_view : P → PortView) (h new : HostModel P) : Type 0 where
  pub rest : new ≡ record h { device = new.device }
  pub device : IsSameDevice port_view h.device new.device

-- and but for the greatest epoch seen
pub record IsAsBeforeButTop {P : Type 0} (port_view : P → PortView) (h new : HostModel P) : Type 0 where
  pub rest : new ≡ record h { top = new.top; device = new.device }
  pub device : IsSameDevice port_view h.device new.device
