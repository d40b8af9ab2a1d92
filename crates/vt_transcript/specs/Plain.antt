-- The one run that lines have where no call on the wires is ordered to fail. (Own definitions.)
use Rattle.std.specs.Prelude.{◌≡◌, ℕ, Bool, true, false, List, [], ◌∷◌, Option, Some, None, ⊤}
use Rattle.crb_regs.specs.LittleEndian.{little_endian_at}
use Rattle.crb_regs.specs.Access.{Access}
use Rattle.vt_script.specs.declared.event.Event.{Event as Line}
use Rattle.vt_script.specs.declared.event.Event.TheVariants.{Access as AccessLine, Work, Ask, Reset, Offer, Deliver, GiveUp, Again, Show, Fail}
use Rattle.vt_script.specs.declared.reply.Reply.{Reply}
use Rattle.vt_script.specs.declared.reply.Reply.TheVariants as replied
use Rattle.crb_history.specs.Snapshot.{Snapshot}
use Rattle.crb_history.specs.Event.{History}
use Rattle.crb_history.specs.Device.{shown_byte}
use Rattle.vt_transcript.specs.Replies.{Transcript, exchange, history, worker_reply, reset_reply, none_fails}

-- the line is the guest's or the worker's, a cancel beside the registers, or a reset: it lets no call fail
abbrev pub is_plain : Line → Bool
is_plain (AccessLine a) = true
is_plain Work = true
is_plain Ask = true
is_plain Reset = true
is_plain Offer = false
is_plain (Deliver message) = false
is_plain GiveUp = false
is_plain Again = false
is_plain (Show message) = false
is_plain (Fail host call) = false

-- each line is
abbrev pub ArePlain : List Line → Type 0
ArePlain [] = ⊤
ArePlain (line ∷ earlier) = ArePlain earlier × (is_plain line ≡ true)

-- the reply to an access, by whether it writes: a read gives what the page shows
abbrev pub access_reply : Snapshot → History → Access → Option ℕ → Reply
access_reply b p a None = replied.Value (little_endian_at (shown_byte b p) a.offset a.size) a.size
access_reply b p a (Some value) = replied.Accepted

-- the one reply to a line, where no call fails
abbrev pub plain_reply : Snapshot → History → Line → Reply
plain_reply b p (AccessLine a) = access_reply b p a a.write
plain_reply b p Work = worker_reply b p none_fails
plain_reply b p Ask = replied.Asked
plain_reply b p Reset = reset_reply b p none_fails
plain_reply b p Offer = replied.Stopped
plain_reply b p (Deliver message) = replied.Stopped
plain_reply b p GiveUp = replied.Stopped
plain_reply b p Again = replied.Stopped
plain_reply b p (Show message) = replied.Stopped
plain_reply b p (Fail host call) = replied.Accepted

-- these lines with their replies; the latest line comes first
abbrev pub plain : Snapshot → List Line → Transcript
plain b [] = []
plain b (line ∷ earlier) = exchange line (plain_reply b (history b (plain b earlier)) line) ∷ plain b earlier

-- the history of these lines
abbrev pub plain_history : Snapshot → List Line → History
plain_history b lines = history b (plain b lines)
