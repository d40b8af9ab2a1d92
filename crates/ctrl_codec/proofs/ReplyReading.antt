-- What a reader of replies answers is what the bytes say.
use Rattle.std.proofs.Common.{◌≡◌, ℕ, List, ◌++◌, take, Option, Some, IfSome, Ok, Err, sym, ap, subst}
use Rattle.vt_base.specs.Layout.{IsOpen}
use Rattle.ctrl_codec.specs.declared.request_code.RequestCode.{RequestCode}
use Rattle.ctrl_codec.specs.declared.feed_result.FeedResult.{FeedResult}
use Rattle.ctrl_codec.specs.declared.feed_result.FeedResult.TheVariants.{More, Whole, Refused, Failed}
use Rattle.ctrl_codec.specs.declared.reply.Reply.{Reply}
use Rattle.ctrl_codec.specs.declared.reply.ReplyFault.{ReplyFault}
use Rattle.ctrl_codec.specs.declared.reply.ReplyFault.TheVariants.{Length, Value}
use Rattle.ctrl_codec.specs.declared.reply_reader.FedReply.{FedReply}
use Rattle.ctrl_codec.specs.Reading.{ReaderState}
use Rattle.ctrl_codec.specs.Progress.{AnswerIsExact, IsLeft}
use Rattle.ctrl_codec.specs.Replies.{Says, RefusesReply, replies_to}
use Rattle.ctrl_codec.specs.ReplyReading.{ReplyReaderState, awaiting, awaits_after, reply_answer_of, IfWholeReply, IfRefusedReply, IfMoreReply, IsReplyUndecided}
use Rattle.ctrl_codec.proofs.Replies.{reply_says, says_back, refuses_reply_back}

undecided : (c : RequestCode) (bytes : List ℕ) → IsOpen (replies_to c) bytes → IsReplyUndecided c bytes
undecided c bytes none = record {
  no_reply = λ n r payload says. none (Ok r) n (says_back c r payload (take n bytes) says);
  no_refusal = λ n fault refuses. none (Err fault) n (refuses_reply_back c fault (take n bytes) refuses);
}

-- what an answer says of the reply to the awaited command, whichever it is
pub record Answered (old new : ReplyReaderState) (piece : List ℕ) (used : ℕ) (answer : FedReply) : Type 0 where
  pub whole : IfSome old.awaits (λ c. IfWholeReply answer (λ r. Says c r new.payload (old.begun ++ take used piece)))
  pub refused : IfSome old.awaits (λ c. IfRefusedReply answer (λ fault. RefusesReply c fault (old.begun ++ take used piece)))
  pub more : IfSome old.awaits (λ c. IfMoreReply answer (IsReplyUndecided c (old.begun ++ piece)))

by_format : (c : RequestCode) (fed : FeedResult Reply ReplyFault) (old new : ReaderState) (piece : List ℕ) (used : ℕ) → AnswerIsExact (replies_to c) old piece used fed → IsLeft old piece used fed new
    → Answered (awaiting (Some c) old) (awaiting (awaits_after fed (Some c)) new) piece used (reply_answer_of fed)
by_format c More old new piece used exact left = record { whole = tt; refused = tt; more = undecided c (old.begun ++ piece) exact }
by_format c (Whole r) old new piece used exact left =
    let bytes = old.begun ++ take used piece in
    let whole = subst (λ (payload : List ℕ). Says c r payload bytes) (sym (ap (λ (r : ReaderState). r.payload) left.1)) (reply_says c (Ok r) bytes exact.fits exact.spelled) in
    record { whole = whole; refused = tt; more = tt }
by_format c (Refused (Length len)) old new piece used exact left =
    record { whole = tt; refused = reply_says c (Err (Length len)) (old.begun ++ take used piece) exact.fits exact.spelled; more = tt }
by_format c (Refused (Value at)) old new piece used exact left =
    record { whole = tt; refused = reply_says c (Err (Value at)) (old.begun ++ take used piece) exact.fits exact.spelled; more = tt }
by_format c Failed old new piece used exact left = record { whole = tt; refused = tt; more = tt }

-- the same of the reader's own answer, over what it held before
pub answered : (c : RequestCode) (fed : FeedResult Reply ReplyFault) (answer : FedReply) (awaits : Option RequestCode) (held left : ReaderState) (old new : ReplyReaderState) (piece : List ℕ) (used : ℕ)
    → awaits ≡ Some c → awaiting awaits held ≡ old → answer ≡ reply_answer_of fed → new ≡ awaiting (awaits_after fed awaits) left
    → AnswerIsExact (replies_to c) held piece used fed → IsLeft held piece used fed left → Answered old new piece used answer
answered c fed answer awaits held left old new piece used is same answers after exact leaves =
    let base = by_format c fed held left piece used exact leaves in
    let first = subst (λ (o : Option RequestCode). Answered (awaiting o held) (awaiting (awaits_after fed o) left) piece used (reply_answer_of fed)) (sym is) base in
    let second = subst (λ (r : ReplyReaderState). Answered r (awaiting (awaits_after fed awaits) left) piece used (reply_answer_of fed)) same first in
    let third = subst (λ (r : ReplyReaderState). Answered old r piece used (reply_answer_of fed)) (sym after) second in
    subst (λ (a : FedReply). Answered old new piece used a) (sym answers) third
