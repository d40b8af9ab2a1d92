-- The texts of the replies (own).
use Rattle.std.specs.Prelude.{ℕ, zero, suc, ◌+◌, ◌*◌, ◌/◌, ◌%◌, ◌^◌, ◌<◌, nat_lt, if◌then◌else◌, List, [], ◌∷◌, ◌++◌}
use Rattle.std.specs.Fmt.{decimal}
use lib.Chars.{codes}
use Rattle.crb_regs.specs.Access.{IsAccessSize}
use Rattle.vt_script.specs.Numbers.{line_feed}
use Rattle.vt_script.specs.declared.reply.Reply.{Reply}
use Rattle.vt_script.specs.declared.reply.Reply.TheVariants.{Stopped, Value, Accepted, Idle, Claim, Sent, Exec, Done, Cancelled, Lost, Link, Asked, FailedDevice, NotYet, Reset, EpochEnd, Offered, Draining, DoneOffered, DoneLink, CancelledOffered, CancelledLink, NoMessage, Ignored, Took, SentMessage, Running, Resumed, RefusedSent, NotOffering, ResumedSent, NotPrepared, Shown}
use Rattle.hex.specs.Hex.{encode_lower}
use Rattle.vt_base.specs.declared.types.Reason.{Reason}
use Rattle.vt_base.specs.declared.types.Reason.TheVariants as reason

-- the lower-case hexadecimal digit of a number below 16
abbrev pub hex_digit : ℕ → ℕ
hex_digit d = if nat_lt d 10 then 48 + d else 87 + d

-- the last so many hexadecimal digits of a number, with zeros in front
abbrev pub hex_digits : ℕ → ℕ → List ℕ
hex_digits zero value = []
hex_digits (suc count) value = hex_digit (value / 16 ^ count % 16) ∷ hex_digits count value

-- a text and the LF that ends it
abbrev pub ended : List ℕ → List ℕ
ended text = text ++ line_feed ∷ []

-- a name with a number in decimal, ended by LF
abbrev pub numbered : List ℕ → ℕ → List ℕ
numbered name number = ended (name ++ decimal number)

-- the words before the number of the message by which a move is refused
abbrev pub refusal_words : Reason → List ℕ
refusal_words reason.Busy = codes "refused busy sent "
refusal_words reason.Totals = codes "refused totals sent "
refusal_words reason.Record = codes "refused record sent "
refusal_words reason.Blob = codes "refused blob sent "
refusal_words reason.Link = codes "refused link sent "
refusal_words reason.Reply = codes "refused reply sent "

-- the text of an offer, ended by LF
abbrev pub offered_text : ℕ → ℕ → List ℕ
offered_text epoch message = numbered (codes "offered " ++ decimal epoch ++ codes " sent ") message

-- the text of a command that ended, with the offer that follows, ended by LF
abbrev pub ended_offered_text : List ℕ → ℕ → ℕ → ℕ → List ℕ
ended_offered_text name number epoch message = (name ++ decimal number) ++ codes " " ++ offered_text epoch message

-- the text of a command that ended, with the link that failed at the offer, ended by LF
abbrev pub linked_text : List ℕ → ℕ → List ℕ
linked_text name number = ended ((name ++ decimal number) ++ codes " link")

-- bytes as two lower-case hexadecimal digits each, ended by LF
unfoldable pub hex_line : List ℕ → List ℕ
hex_line bytes = ended (encode_lower bytes)

-- the text of a reply, ended by LF
unfoldable pub reply_text : Reply → List ℕ
reply_text Stopped = ended (codes "stopped")
reply_text (Value value size) = ended (hex_digits (2 * size) value)
reply_text Accepted = ended (codes "ok")
reply_text Idle = ended (codes "idle")
reply_text (Claim number) = numbered (codes "claim ") number
reply_text (Sent number) = numbered (codes "sent ") number
reply_text (Exec number) = numbered (codes "exec ") number
reply_text (Done number) = numbered (codes "done ") number
reply_text (Cancelled number) = numbered (codes "cancelled ") number
reply_text (Lost number) = numbered (codes "lost ") number
reply_text Link = ended (codes "link")
reply_text Asked = ended (codes "asked")
reply_text FailedDevice = ended (codes "failed device")
reply_text NotYet = ended (codes "not yet")
reply_text Reset = ended (codes "reset")
reply_text EpochEnd = ended (codes "epoch end")
reply_text (Offered epoch message) = offered_text epoch message
reply_text (Draining number) = numbered (codes "draining ") number
reply_text (DoneOffered number epoch message) = ended_offered_text (codes "done ") number epoch message
reply_text (DoneLink number) = linked_text (codes "done ") number
reply_text (CancelledOffered number epoch message) = ended_offered_text (codes "cancelled ") number epoch message
reply_text (CancelledLink number) = linked_text (codes "cancelled ") number
reply_text NoMessage = ended (codes "no message")
reply_text Ignored = ended (codes "ignored")
reply_text Took = ended (codes "took")
reply_text (SentMessage message) = numbered (codes "sent ") message
reply_text Running = ended (codes "running")
reply_text Resumed = ended (codes "resumed")
reply_text (RefusedSent why message) = numbered (refusal_words why) message
reply_text NotOffering = ended (codes "not offering")
reply_text (ResumedSent message) = numbered (codes "resumed sent ") message
reply_text NotPrepared = ended (codes "not prepared")
reply_text (Shown bytes) = hex_line bytes

-- a value that was read has 1, 2, 4 or 8 bytes and fits them
abbrev pub IsPrintable : Reply → Type 0
IsPrintable (Value value size) = IsAccessSize size × (value < 256 ^ size)
IsPrintable Stopped = Unit {0}
IsPrintable Accepted = Unit {0}
IsPrintable Idle = Unit {0}
IsPrintable (Claim number) = Unit {0}
IsPrintable (Sent number) = Unit {0}
IsPrintable (Exec number) = Unit {0}
IsPrintable (Done number) = Unit {0}
IsPrintable (Cancelled number) = Unit {0}
IsPrintable (Lost number) = Unit {0}
IsPrintable Link = Unit {0}
IsPrintable Asked = Unit {0}
IsPrintable FailedDevice = Unit {0}
IsPrintable NotYet = Unit {0}
IsPrintable Reset = Unit {0}
IsPrintable EpochEnd = Unit {0}
IsPrintable (Offered epoch message) = Unit {0}
IsPrintable (Draining number) = Unit {0}
IsPrintable (DoneOffered number epoch message) = Unit {0}
IsPrintable (DoneLink number) = Unit {0}
IsPrintable (CancelledOffered number epoch message) = Unit {0}
IsPrintable (CancelledLink number) = Unit {0}
IsPrintable NoMessage = Unit {0}
IsPrintable Ignored = Unit {0}
IsPrintable Took = Unit {0}
IsPrintable (SentMessage message) = Unit {0}
IsPrintable Running = Unit {0}
IsPrintable Resumed = Unit {0}
IsPrintable (RefusedSent why message) = Unit {0}
IsPrintable NotOffering = Unit {0}
IsPrintable (ResumedSent message) = Unit {0}
IsPrintable NotPrepared = Unit {0}
IsPrintable (Shown bytes) = Unit {0}
