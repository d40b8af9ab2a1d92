-- Requests of a host to its emulator, over wires whose state is known and over those whose state isn't. (Own definitions.)
use Rattle.std.specs.Prelude.{◌≡◌, ◌≢◌, ℕ, Bool, List, [], ◌∷◌, length, take, Option, IfSome, IfOk, Result, Ok, Err}
use Rattle.vt_base.specs.declared.types.Kind.{Kind}
use Rattle.vt_base.specs.declared.types.Kind.TheVariants.{Saved}
use Rattle.state_blobs.specs.declared.types.Piece.{Piece}
use Rattle.ctrl_codec.specs.declared.request.Request.{Request}
use Rattle.ctrl_codec.specs.declared.request.Request.TheVariants.{Init, SetStateBlob, GetStateBlob}
use Rattle.ctrl_client.specs.declared.fault.ClientFault.{ClientFault}
use Rattle.ctrl_client.specs.declared.fault.ClientFault.TheVariants.{Link as LinkFault, Result as BadResult, Reply as BadReply}
use Rattle.ctrl_model.specs.Emulator.{type_of}
use Rattle.move_core.specs.declared.asking.Fetched.{Fetched}
use Rattle.ctrl_model.specs.Link.{Link, empty_channel}
use Rattle.ctrl_client.specs.Exchange.{IsQuiet, Commands, CountsLink}
use Rattle.ctrl_client.specs.Pieces.{HasField, Fetches, IsPiece, IsPlace}
use Rattle.ctrl_client.specs.Traffic.{Traffic, AnswersResult, AnswersPiece}

-- What contracts see of wires: the link and the traffic, where they are known, which of the calls to come are to fail, and how
-- many calls have failed.
pub record WiresView (Schedule : Type 0) : Type 0 where
  pub fails : Schedule → Bool
  pub later : Schedule → Schedule
  pub link : Option Link
  pub schedule : Schedule
  pub faults : ℕ
  pub traffic : Option Traffic

abbrev pub wires_view : {Schedule : Type 0} → (Schedule → Bool) → (Schedule → Schedule) → Option Link → Schedule → ℕ → Option Traffic → WiresView Schedule
wires_view fails later link schedule faults traffic = record { fails = fails; later = later; link = link; schedule = schedule; faults = faults; traffic = traffic }

-- one request whose reply is a result alone, with its answer
pub record Asks {Schedule : Type 0} (q : Request) (bytes : List ℕ) (w v : WiresView Schedule) (answer : Result (Unit {0}) ClientFault) : Type 0 where
  pub exact : IfSome w.link (λ l. IsQuiet l → Commands w.fails w.later q bytes l w.schedule answer v.link v.schedule)
  pub reply : answer ≢ Err LinkFault → AnswersResult q bytes w.traffic v.traffic answer
  pub counts : CountsLink w.faults v.faults answer
  pub refused : (number : ℕ) → answer ≡ Err (BadResult number) → number ≢ 0
  pub no_reply : (place : ℕ) → answer ≢ Err (BadReply place)
  pub same_fails : v.fails ≡ w.fails
  pub same_later : v.later ≡ w.later

-- one request for a piece of a blob into a slice, with the slice before and after it, and its answer
pub record Gets {Schedule : Type 0} (kind : Kind) (offset : ℕ) (w v : WiresView Schedule) (old new : List ℕ) (answer : Result Piece ClientFault) : Type 0 where
  pub exact : IfSome w.link (λ l. HasField kind l → Fetches w.fails w.later kind offset (length old) l w.schedule answer old new v.link v.schedule)
  pub reply : answer ≢ Err LinkFault → AnswersPiece (GetStateBlob 0 (type_of kind) offset) offset w.traffic v.traffic v.link old new answer
  pub piece : IfOk answer (IsPiece offset (length old))
  pub counts : CountsLink w.faults v.faults answer
  pub refused : (number : ℕ) → answer ≡ Err (BadResult number) → number ≢ 0
  pub place : (place : ℕ) → answer ≡ Err (BadReply place) → IsPlace place
  pub cut : (place : ℕ) → answer ≡ Err (BadReply place) → IfSome v.link (λ l. l.control ≡ empty_channel)
  pub same_fails : v.fails ≡ w.fails
  pub same_later : v.later ≡ w.later

-- ---- the requests of a move

abbrev pub fetched : List ℕ → Result Piece ClientFault → Result Fetched ClientFault
fetched into (Ok p) = Ok (record { total = p.total; bytes = take p.length into })
fetched into (Err fault) = Err fault

-- a piece of a blob was asked for, into 4096 bytes
pub record FetchesPiece {Schedule : Type 0} (kind : Kind) (offset : ℕ) (w v : WiresView Schedule) (answer : Result Fetched ClientFault) : Type 0 where
  pub room : List ℕ
  pub into : List ℕ
  pub size : length room ≡ 4096
  pub piece : Result Piece ClientFault
  pub gets : Gets kind offset w v room into piece
  pub answer_is : answer ≡ fetched into piece

-- a piece of a blob was given
abbrev pub GivesPiece : {Schedule : Type 0} → Kind → List ℕ → WiresView Schedule → WiresView Schedule → Result (Unit {0}) ClientFault → Type 0
GivesPiece kind bytes w v answer = Asks (SetStateBlob 0 (type_of kind) (length bytes)) bytes w v answer

-- after the last piece the emulator is switched on, unless that piece failed
abbrev pub SwitchesOn : {Schedule : Type 0} → Result (Unit {0}) ClientFault → WiresView Schedule → WiresView Schedule → Result (Unit {0}) ClientFault → Type 0
SwitchesOn (Ok done) w v answer = Asks (Init 0) [] w v answer
SwitchesOn (Err fault) w v answer = (v ≡ w) × (answer ≡ Err fault)

-- the last piece was given, and then the emulator was switched on
pub record GivesLastPiece {Schedule : Type 0} (bytes : List ℕ) (w v : WiresView Schedule) (answer : Result (Unit {0}) ClientFault) : Type 0 where
  pub between : WiresView Schedule
  pub given : Result (Unit {0}) ClientFault
  pub gives : GivesPiece Saved bytes w between given
  pub switches : SwitchesOn given between v answer

-- ---- the lengths of the three blobs

abbrev pub total_in : Result Fetched ClientFault → Result ℕ ClientFault
total_in (Ok p) = Ok p.total
total_in (Err fault) = Err fault

-- the length of a blob was asked for, by a piece at offset 0
pub record GetsTotal {Schedule : Type 0} (kind : Kind) (w v : WiresView Schedule) (answer : Result ℕ ClientFault) : Type 0 where
  pub piece : Result Fetched ClientFault
  pub fetches : FetchesPiece kind 0 w v piece
  pub answer_is : answer ≡ total_in piece

-- a length before others
abbrev pub before : ℕ → Result (List ℕ) ClientFault → Result (List ℕ) ClientFault
before total (Ok totals) = Ok (total ∷ totals)
before total (Err fault) = Err fault

-- after a length the others are asked for, and after a fault none
abbrev pub ThenGets : {Schedule : Type 0} → Result ℕ ClientFault → (Result (List ℕ) ClientFault → Type 0) → WiresView Schedule → WiresView Schedule → Result (List ℕ) ClientFault → Type 0
ThenGets (Err fault) GetsOthers w v answer = (v ≡ w) × (answer ≡ Err fault)
ThenGets (Ok total) GetsOthers w v answer = (others : Result (List ℕ) ClientFault) × GetsOthers others × (answer ≡ before total others)

-- the lengths of these blobs were asked for, up to the first fault
abbrev pub GetsTotals : {Schedule : Type 0} → List Kind → WiresView Schedule → WiresView Schedule → Result (List ℕ) ClientFault → Type 0
GetsTotals [] w v answer = (v ≡ w) × (answer ≡ Ok [])
GetsTotals {Schedule} (kind ∷ kinds) w v answer =
    (between : WiresView Schedule) × (first : Result ℕ ClientFault) × GetsTotal kind w between first × ThenGets first (GetsTotals kinds between v) between v answer

-- three lengths as a list
abbrev pub listed : Result (ℕ × ℕ × ℕ) ClientFault → Result (List ℕ) ClientFault
listed (Ok t) = Ok (t.0 ∷ t.1 ∷ t.2 ∷ [])
listed (Err fault) = Err fault
