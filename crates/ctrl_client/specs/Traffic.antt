-- What passes over wires that keep it, whatever is behind them, and the answers that it makes. (Own definitions.)
use Rattle.std.specs.Prelude.{◌≡◌, ℕ, ◌<◌, ◌==◌, true, false, if◌then◌else◌, ◌⊎◌, List, [], ◌∷◌, ◌++◌, map, length, take, drop, Option, option_map, IfSome, Result, Ok, Err}
use Rattle.std.specs.Int.{w32, from_be_bytes}
use Rattle.vt_base.specs.declared.types.Chan.{Chan}
use Rattle.vt_base.specs.declared.types.Chan.TheVariants.{Ctrl}
use Rattle.vt_base.specs.Numbers.{big_endian_at}
use Rattle.state_blobs.specs.declared.types.Piece.{Piece}
use Rattle.ctrl_codec.specs.declared.request.Request.{Request}
use Rattle.ctrl_codec.specs.Requests.{encode_request}
use Rattle.ctrl_client.specs.declared.fault.ClientFault.{ClientFault}
use Rattle.ctrl_client.specs.declared.fault.ClientFault.TheVariants.{Result as BadResult}
use Rattle.ctrl_client.specs.Exchange.{checked_result}
use Rattle.ctrl_model.specs.Numbers.{success, flags_place, total_place, length_place}
use Rattle.ctrl_model.specs.Link.{Link, empty_channel}
use Rattle.ctrl_client.specs.Pieces.{BlobFields, checked_fields, leaves_bytes}

-- all bytes that were sent so far, and all that were received, each with its channel
pub record Traffic : Type 0 where
  pub sent : List (Chan × ℕ)
  pub received : List (Chan × ℕ)

-- these bytes, each with this channel
abbrev pub over : Chan → List ℕ → List (Chan × ℕ)
over chan bytes = map (λ byte. (chan, byte)) bytes

abbrev pub with_sent : Chan → List ℕ → Traffic → Traffic
with_sent chan bytes t = record t { sent = t.sent ++ over chan bytes }

abbrev pub with_received : Chan → List ℕ → Traffic → Traffic
with_received chan bytes t = record t { received = t.received ++ over chan bytes }

-- what passed, after a send with this result
abbrev pub after_send : {E : Type 0} → Chan → List ℕ → Result (Unit {0}) E → Traffic → Traffic
after_send chan bytes (Ok done) t = with_sent chan bytes t
after_send chan bytes (Err fault) t = t

-- and after a receive with this result
abbrev pub after_receive : {E : Type 0} → Chan → List ℕ → Result ℕ E → Traffic → Traffic
after_receive chan into (Ok count) t = with_received chan (take count into) t
after_receive chan into (Err fault) t = t

-- These bytes were sent on a channel, and nothing else passed.
abbrev pub Went : Chan → List ℕ → Option Traffic → Option Traffic → Type 0
Went chan bytes before after = after ≡ option_map (with_sent chan bytes) before

-- These bytes were received on a channel, and nothing else passed.
abbrev pub Came : Chan → List ℕ → Option Traffic → Option Traffic → Type 0
Came chan bytes before after = after ≡ option_map (with_received chan bytes) before

-- Fewer bytes were received on a channel than were asked for. They stand in front, and nothing else passed.
abbrev pub CamePart : Chan → List ℕ → Option Traffic → Option Traffic → Type 0
CamePart chan into before after = (n : ℕ) × (n < length into) × Came chan (take n into) before after

-- the bytes of a request with its data, in which those that mean nothing are zeros
abbrev pub encode_zeroed_request : Request → List ℕ → List ℕ
encode_zeroed_request q payload = encode_request q (0 ∷ 0 ∷ 0 ∷ []) payload

-- A request was sent with its data, then these bytes of the reply were received, and nothing else passed.
abbrev pub Passed : Request → List ℕ → List ℕ → Option Traffic → Option Traffic → Type 0
Passed q payload reply before after = after ≡ option_map (λ t. with_received Ctrl reply (with_sent Ctrl (encode_zeroed_request q payload) t)) before

-- the answer is the result that stands in the four bytes that came
pub record AnswersResult (q : Request) (payload : List ℕ) (before after : Option Traffic) (answer : Result (Unit {0}) ClientFault) : Type 0 where
  pub reply : List ℕ
  pub size : length reply ≡ 4
  pub passed : Passed q payload reply before after
  pub answer_is : answer ≡ checked_result (from_be_bytes w32 reply)

-- what is answered for a result and a size
abbrev pub checked_size : ℕ → ℕ → Result ℕ ClientFault
checked_size result size = if result == success then Ok size else Err (BadResult result)

-- the answer is the size that stands in the sixteen bytes that came, or their result
pub record AnswersSize (q : Request) (before after : Option Traffic) (answer : Result ℕ ClientFault) : Type 0 where
  pub reply : List ℕ
  pub size : length reply ≡ 16
  pub passed : Passed q [] reply before after
  pub answer_is : answer ≡ checked_size (big_endian_at w32 0 reply) (big_endian_at w32 4 reply)

-- the fields in the sixteen bytes before the data
abbrev pub fields_in : List ℕ → BlobFields
fields_in fixed = record { result = big_endian_at w32 0 fixed; flags = big_endian_at w32 flags_place fixed; total = big_endian_at w32 total_place fixed; size = big_endian_at w32 length_place fixed }

-- how many bytes of data come with an answer
abbrev pub data_size : Result Piece ClientFault → ℕ
data_size (Ok p) = p.length
data_size (Err fault) = 0

-- The answer is what the fields that came say, and the data that came is in front of the rest of the slice. Bytes that
-- a refused reply may have left on the control channel are forgotten.
pub record AnswersPiece (q : Request) (offset : ℕ) (before after : Option Traffic) (link : Option Link) (old new : List ℕ) (answer : Result Piece ClientFault) : Type 0 where
  pub fixed : List ℕ
  pub size : length fixed ≡ 16
  pub passed : Passed q [] (fixed ++ take (data_size answer) new) before after
  pub answer_is : answer ≡ checked_fields (fields_in fixed) offset (length old)
  pub rest : drop (data_size answer) new ≡ drop (data_size answer) old
  pub forgotten : leaves_bytes answer (fields_in fixed).size ≡ true → IfSome link (λ l. l.control ≡ empty_channel)

-- A channel is cut only where the fields that came were refused and more bytes of that reply may wait.
pub record CutsForBytes (q : Request) (offset room : ℕ) (before after : Option Traffic) (cuts_before cuts_after : ℕ) (answer : Result Piece ClientFault) : Type 0 where
  pub fixed : List ℕ
  pub size : length fixed ≡ 16
  pub payload : List ℕ
  pub passed : Passed q [] (fixed ++ payload) before after
  pub answer_is : answer ≡ checked_fields (fields_in fixed) offset room
  pub uncut : leaves_bytes answer (fields_in fixed).size ≡ false → cuts_after ≡ cuts_before

-- The data of a piece was lost: the fields came and give the piece, and then fewer bytes of it than it has. Those are in
-- front, and the slice behind the piece is as it was. Between them the wires may have left anything.
pub record LosesData (q : Request) (offset : ℕ) (before after : Option Traffic) (old new : List ℕ) : Type 0 where
  pub fixed : List ℕ
  pub size : length fixed ≡ 16
  pub piece : Piece
  pub piece_is : checked_fields (fields_in fixed) offset (length old) ≡ Ok piece
  pub count : ℕ
  pub fewer : count < piece.length
  pub passed : Passed q [] (fixed ++ take count new) before after
  pub rest : drop piece.length new ≡ drop piece.length old

-- what a fault of the wires leaves of a slice: all of it, where the request or the fields were lost
abbrev pub LeavesSlice : Request → ℕ → Option Traffic → Option Traffic → List ℕ → List ℕ → Type 0
LeavesSlice q offset before after old new = (new ≡ old) ⊎ LosesData q offset before after old new
