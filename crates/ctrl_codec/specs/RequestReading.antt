-- What a reader of control requests answers. (Own definitions.)
use Rattle.std.specs.Prelude.{◌≡◌, ℕ, List, [], ◌++◌, length, take, true, false, ⊤}
use Rattle.ctrl_codec.specs.declared.feed_result.FeedResult.{FeedResult}
use Rattle.ctrl_codec.specs.declared.feed_result.FeedResult.TheVariants as fed
use Rattle.ctrl_codec.specs.declared.request.Request.{Request}
use Rattle.ctrl_codec.specs.declared.request.RequestFault.{RequestFault}
use Rattle.ctrl_codec.specs.declared.request.RequestFault.TheVariants.{Code, Length}
use Rattle.ctrl_codec.specs.declared.request_reader.FedRequest.{FedRequest}
use Rattle.ctrl_codec.specs.declared.request_reader.FedRequest.TheVariants.{More, Whole, BadCode, BadLength, Failed}
use Rattle.ctrl_codec.specs.Reading.{ReaderState}
use Rattle.ctrl_codec.specs.Requests.{Asks, Refuses}

-- how a refusal is answered
abbrev pub refusal_of : RequestFault → FedRequest
refusal_of (Code code) = BadCode code
refusal_of (Length len) = BadLength len

-- how a piece is answered
abbrev pub answer_of : FeedResult Request RequestFault → FedRequest
answer_of fed.More = More
answer_of (fed.Whole q) = Whole q
answer_of (fed.Refused fault) = refusal_of fault
answer_of fed.Failed = Failed

abbrev pub IfWhole : FedRequest → (Request → Type 0) → Type 0
IfWhole (Whole q) P = P q
IfWhole answer P = ⊤

abbrev pub IfRefused : FedRequest → (RequestFault → Type 0) → Type 0
IfRefused (BadCode code) P = P (Code code)
IfRefused (BadLength len) P = P (Length len)
IfRefused answer P = ⊤

abbrev pub IfMore : FedRequest → Type 0 → Type 0
IfMore More P = P
IfMore answer P = ⊤

-- No request is whole at the start of these bytes.
abbrev pub HasNoRequest : List ℕ → Type 0
HasNoRequest bytes = (n : ℕ) (q : Request) (payload : List ℕ) → Asks q payload (take n bytes) → ⊥

-- No request is whole at the start of these bytes, and no field that is whole is refused.
pub record IsUndecided (bytes : List ℕ) : Type 0 where
  pub no_request : HasNoRequest bytes
  pub no_refusal : (n : ℕ) (fault : RequestFault) → Refuses fault (take n bytes) → ⊥

-- what the reader holds after an answer to a piece
abbrev pub IsReaderAfter : ReaderState → List ℕ → ℕ → FedRequest → ReaderState → Type 0
IsReaderAfter old piece used More new = (old.failed ≡ false) × (used ≡ length piece) × (new ≡ record old { begun = old.begun ++ piece })
IsReaderAfter old piece used (Whole q) new = (old.failed ≡ false) × (new ≡ record old { begun = []; payload = new.payload })
IsReaderAfter old piece used Failed new = (old.failed ≡ true) × (used ≡ 0) × (new ≡ old)
IsReaderAfter old piece used refusal new = (old.failed ≡ false) × (new ≡ record old { begun = []; failed = true })
