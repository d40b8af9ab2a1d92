-- How the command that is under way ends. (Own definitions.)
use Rattle.std.specs.Prelude.{◌≡◌, ℕ, ◌+◌, Bool, true, false, [], ◌∷◌, ◌⊎◌, Option, Some, None, ⊤}
use Rattle.vt_script.specs.declared.event.Event.{Event as Line}
use Rattle.vt_script.specs.declared.event.Event.TheVariants.{Access as AccessLine, Work, Ask, Reset, Offer, Deliver, GiveUp, Again, Show, Fail}
use Rattle.vt_script.specs.declared.reply.Reply.TheVariants.{Done, Cancelled}
use Rattle.vt_transcript.specs.Replies.{Exchange, Transcript}

-- the line lets a command go on: an access of the guest, a step of the worker, or a cancel beside the registers
abbrev pub lets_go_on : Option Line → Bool
lets_go_on (Some (AccessLine a)) = true
lets_go_on (Some Work) = true
lets_go_on (Some Ask) = true
lets_go_on (Some Reset) = false
lets_go_on (Some Offer) = false
lets_go_on (Some (Deliver message)) = false
lets_go_on (Some GiveUp) = false
lets_go_on (Some Again) = false
lets_go_on (Some (Show message)) = false
lets_go_on (Some (Fail host call)) = false
lets_go_on None = false

-- each line does
abbrev pub LetGoOn : Transcript → Type 0
LetGoOn [] = ⊤
LetGoOn (x ∷ t) = LetGoOn t × (lets_go_on x.line ≡ true)

-- how many steps of the worker a line asks for
abbrev pub steps_of : Option Line → ℕ
steps_of (Some (AccessLine a)) = 0
steps_of (Some Work) = 1
steps_of (Some Ask) = 0
steps_of (Some Reset) = 0
steps_of (Some Offer) = 0
steps_of (Some (Deliver message)) = 0
steps_of (Some GiveUp) = 0
steps_of (Some Again) = 0
steps_of (Some (Show message)) = 0
steps_of (Some (Fail host call)) = 0
steps_of None = 0

-- how many steps of the worker the lines ask for
abbrev pub step_count : Transcript → ℕ
step_count [] = 0
step_count (x ∷ t) = step_count t + steps_of x.line

-- the reply says that the command of this number ended, as done or as cancelled
abbrev pub IsEnd : ℕ → Exchange → Type 0
IsEnd number x = (x.reply ≡ Done number) ⊎ (x.reply ≡ Cancelled number)

-- one of the replies does
abbrev pub HasEnd : ℕ → Transcript → Type 0
HasEnd number [] = ⊥
HasEnd number (x ∷ t) = HasEnd number t ⊎ IsEnd number x
