-- What a reader of requests answers is what the bytes say.
use Rattle.std.proofs.Common.{◌≡◌, ℕ, List, ◌++◌, take, Ok, Err, sym, ap, subst, lit<}
use Rattle.vt_base.specs.Layout.{IsOpen, HasFirst}
use Rattle.ctrl_codec.specs.declared.feed_result.FeedResult.{FeedResult}
use Rattle.ctrl_codec.specs.declared.feed_result.FeedResult.TheVariants.{More, Whole, Refused, Failed}
use Rattle.ctrl_codec.specs.declared.request.Request.{Request}
use Rattle.ctrl_codec.specs.declared.request.RequestFault.{RequestFault}
use Rattle.ctrl_codec.specs.declared.request.RequestFault.TheVariants.{Code, Length}
use Rattle.ctrl_codec.specs.declared.request_reader.FedRequest.{FedRequest}
use Rattle.ctrl_codec.specs.Reading.{ReaderState}
use Rattle.ctrl_codec.specs.Progress.{AnswerIsExact, IsLeft}
use Rattle.ctrl_codec.specs.Requests.{Asks, Refuses, requests}
use Rattle.ctrl_codec.specs.RequestReading.{answer_of, IfWhole, IfRefused, IfMore, IsUndecided}
use Rattle.ctrl_codec.proofs.Requests.{says, asks_back, refuses_back}

pub first_of_request : HasFirst requests
unfolding requests
first_of_request = lit< tt

undecided : (bytes : List ℕ) → IsOpen requests bytes → IsUndecided bytes
undecided bytes none = record {
  no_request = λ n q payload asks. none (Ok q) n (asks_back q payload (take n bytes) asks);
  no_refusal = λ n fault refuses. none (Err fault) n (refuses_back fault (take n bytes) refuses);
}

-- what an answer says, whichever it is
pub record Answered (old new : ReaderState) (piece : List ℕ) (used : ℕ) (answer : FedRequest) : Type 0 where
  pub whole : IfWhole answer (λ q. Asks q new.payload (old.begun ++ take used piece))
  pub refused : IfRefused answer (λ fault. Refuses fault (old.begun ++ take used piece))
  pub more : IfMore answer (IsUndecided (old.begun ++ piece))

by_format : (fed : FeedResult Request RequestFault) (old new : ReaderState) (piece : List ℕ) (used : ℕ) → AnswerIsExact requests old piece used fed → IsLeft old piece used fed new → Answered old new piece used (answer_of fed)
by_format More old new piece used exact left = record { whole = tt; refused = tt; more = undecided (old.begun ++ piece) exact }
by_format (Whole q) old new piece used exact left =
    let bytes = old.begun ++ take used piece in
    let whole = subst (λ (payload : List ℕ). Asks q payload bytes) (sym (ap (λ (r : ReaderState). r.payload) left.1)) (says (Ok q) bytes exact.fits exact.spelled) in
    record { whole = whole; refused = tt; more = tt }
by_format (Refused (Code code)) old new piece used exact left = record { whole = tt; refused = says (Err (Code code)) (old.begun ++ take used piece) exact.fits exact.spelled; more = tt }
by_format (Refused (Length len)) old new piece used exact left = record { whole = tt; refused = says (Err (Length len)) (old.begun ++ take used piece) exact.fits exact.spelled; more = tt }
by_format Failed old new piece used exact left = record { whole = tt; refused = tt; more = tt }

-- the same of the reader's own answer, over what it held before
pub answered : (fed : FeedResult Request RequestFault) (answer : FedRequest) (held old new : ReaderState) (piece : List ℕ) (used : ℕ) → held ≡ old → answer ≡ answer_of fed
    → AnswerIsExact requests held piece used fed → IsLeft held piece used fed new → Answered old new piece used answer
answered fed answer held old new piece used same is exact left =
    subst (λ (a : FedRequest). Answered old new piece used a) (sym is)
    (subst (λ (r : ReaderState). Answered r new piece used (answer_of fed)) same (by_format fed held new piece used exact left))
