-- What a reader of replies holds, and what it answers. (Own definitions.)
use Rattle.std.specs.Prelude.{◌≡◌, ℕ, List, [], ◌++◌, length, take, Bool, true, false, Option, None, ⊤}
use Rattle.ctrl_codec.specs.declared.request_code.RequestCode.{RequestCode}
use Rattle.ctrl_codec.specs.declared.feed_result.FeedResult.{FeedResult}
use Rattle.ctrl_codec.specs.declared.feed_result.FeedResult.TheVariants as fed
use Rattle.ctrl_codec.specs.declared.reply.Reply.{Reply}
use Rattle.ctrl_codec.specs.declared.reply.ReplyFault.{ReplyFault}
use Rattle.ctrl_codec.specs.declared.reply.ReplyFault.TheVariants.{Length, Value}
use Rattle.ctrl_codec.specs.declared.reply_reader.FedReply.{FedReply}
use Rattle.ctrl_codec.specs.declared.reply_reader.FedReply.TheVariants.{More, Whole, BadLength, BadValue, Failed}
use Rattle.ctrl_codec.specs.Reading.{ReaderState}
use Rattle.ctrl_codec.specs.Replies.{Says, RefusesReply}

-- the command whose reply is awaited, the bytes of the reply that isn't whole, the data of the last whole one, and
-- whether bytes of the awaited reply were refused
pub record ReplyReaderState : Type 0 where
  pub awaits : Option RequestCode
  pub begun : List ℕ
  pub payload : List ℕ
  pub failed : Bool

-- a reader that has come so far, and what it awaits
abbrev pub awaiting : Option RequestCode → ReaderState → ReplyReaderState
awaiting awaits r = record { awaits = awaits; begun = r.begun; payload = r.payload; failed = r.failed }

-- After a whole reply none is awaited.
abbrev pub awaits_after : FeedResult Reply ReplyFault → Option RequestCode → Option RequestCode
awaits_after (fed.Whole r) awaits = None
awaits_after fed awaits = awaits

-- how a refusal is answered
abbrev pub reply_refusal_of : ReplyFault → FedReply
reply_refusal_of (Length len) = BadLength len
reply_refusal_of (Value place) = BadValue place

-- how a piece is answered
abbrev pub reply_answer_of : FeedResult Reply ReplyFault → FedReply
reply_answer_of fed.More = More
reply_answer_of (fed.Whole r) = Whole r
reply_answer_of (fed.Refused fault) = reply_refusal_of fault
reply_answer_of fed.Failed = Failed

abbrev pub IfWholeReply : FedReply → (Reply → Type 0) → Type 0
IfWholeReply (Whole r) P = P r
IfWholeReply answer P = ⊤

abbrev pub IfRefusedReply : FedReply → (ReplyFault → Type 0) → Type 0
IfRefusedReply (BadLength len) P = P (Length len)
IfRefusedReply (BadValue place) P = P (Value place)
IfRefusedReply answer P = ⊤

abbrev pub IfMoreReply : FedReply → Type 0 → Type 0
IfMoreReply More P = P
IfMoreReply answer P = ⊤

-- No reply to the command is whole at the start of these bytes, and no field that is whole is refused.
pub record IsReplyUndecided (c : RequestCode) (bytes : List ℕ) : Type 0 where
  pub no_reply : (n : ℕ) (r : Reply) (payload : List ℕ) → Says c r payload (take n bytes) → ⊥
  pub no_refusal : (n : ℕ) (fault : ReplyFault) → RefusesReply c fault (take n bytes) → ⊥

-- what the reader holds after an answer to a piece
abbrev pub IsReplyReaderAfter : ReplyReaderState → List ℕ → ℕ → FedReply → ReplyReaderState → Type 0
IsReplyReaderAfter old piece used More new = (old.failed ≡ false) × (used ≡ length piece) × (new ≡ record old { begun = old.begun ++ piece })
IsReplyReaderAfter old piece used (Whole r) new = (old.failed ≡ false) × (new ≡ record old { awaits = None; begun = []; payload = new.payload })
IsReplyReaderAfter old piece used Failed new = (old.failed ≡ true) × (used ≡ 0) × (new ≡ old)
IsReplyReaderAfter old piece used refusal new = (old.failed ≡ false) × (new ≡ record old { begun = []; failed = true })
