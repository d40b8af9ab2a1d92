-- How a host that drains comes to the end of its command, and offers. (Own definitions.)
use Rattle.std.specs.Prelude.{◌≡◌, ◌≢◌, ℕ, [], ◌∷◌, ◌⊎◌, Some, ⊤}
use Rattle.vt_base.specs.declared.types.HostName.{HostName}
use Rattle.vt_script.specs.declared.event.Event.TheVariants.{GiveUp, Fail}
use Rattle.vt_script.specs.declared.reply.Reply.{Reply}
use Rattle.vt_script.specs.declared.reply.Reply.TheVariants as reply
use Rattle.vt_transcript.specs.Replies.{Transcript}

-- no line is `giveup`
abbrev pub NeverGivesUp : Transcript → Type 0
NeverGivesUp [] = ⊤
NeverGivesUp (x ∷ t) = NeverGivesUp t × (x.line ≢ Some GiveUp)

-- no line injects a fault into the wires of this host
abbrev pub NeverFails : HostName → Transcript → Type 0
NeverFails n [] = ⊤
NeverFails n (x ∷ t) = NeverFails n t × ((call : ℕ) → x.line ≢ Some (Fail n call))

-- the reply says that the command of this number ended, and that its host offered
abbrev pub IsOfferBehind : ℕ → Reply → Type 0
IsOfferBehind number (reply.DoneOffered ended epoch message) = ended ≡ number
IsOfferBehind number (reply.CancelledOffered ended epoch message) = ended ≡ number
IsOfferBehind number _ = ⊥

-- the reply says so, or that a call for the response or for the offer failed: then the guest runs again
abbrev pub IsDrainEnd : ℕ → Reply → Type 0
IsDrainEnd number (reply.DoneLink ended) = ended ≡ number
IsDrainEnd number (reply.CancelledLink ended) = ended ≡ number
IsDrainEnd number (reply.Lost ended) = ended ≡ number
IsDrainEnd number r = IsOfferBehind number r

-- one of the replies is such a one
abbrev pub HasReply : (Reply → Type 0) → Transcript → Type 0
HasReply Is [] = ⊥
HasReply Is (x ∷ t) = HasReply Is t ⊎ Is x.reply
