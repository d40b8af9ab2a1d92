-- What lines and replies say of one host: the history, the number of the call on its wires that is to fail, where there is one, and
-- the calls since the line that set it. (Own definitions.)
use Rattle.std.specs.Prelude.{ℕ, ◌+◌, Bool, Option, Some}
use Rattle.vt_script.specs.declared.event.Event.{Event as Line}
use Rattle.vt_script.specs.declared.event.Event.TheVariants.{Access as AccessLine, Work, Ask, Reset, Offer, Deliver, GiveUp, Again, Show, Fail}
use Rattle.vt_script.specs.declared.reply.Reply.{Reply}
use Rattle.crb_history.specs.Snapshot.{Snapshot}
use Rattle.crb_history.specs.Event.{History}
use Rattle.vt_transcript.specs.Replies.{Transcript, history, injected_fault_of, call_count, reaches, with_event, injected_fault_after, count_after, response_length}

pub record OneHost : Type 0 where
  pub history : History
  pub injected_fault : Option ℕ
  pub count : ℕ

-- whether one of so many next calls is to fail
abbrev pub fails_in : OneHost → ℕ → Bool
fails_in h calls = reaches h.injected_fault (h.count + calls)

-- after one more line and its reply
abbrev pub one_after : Snapshot → OneHost → Line → Reply → OneHost
one_after b h line reply = record {
  history = with_event (Some line) reply (fails_in h) h.history;
  injected_fault = injected_fault_after (Some line) reply h.injected_fault;
  count = count_after (Some line) reply (response_length b h.history) h.count;
}

-- what a transcript says
abbrev pub one_of_transcript : Snapshot → Transcript → OneHost
one_of_transcript b t = record { history = history b t; injected_fault = injected_fault_of t; count = call_count b t }

-- a line that has a reply where there is one host: it isn't one of a move
abbrev pub IsOneHostLine : Line → Type 0
IsOneHostLine (AccessLine a) = Unit {0}
IsOneHostLine Work = Unit {0}
IsOneHostLine Ask = Unit {0}
IsOneHostLine Reset = Unit {0}
IsOneHostLine Offer = ⊥
IsOneHostLine (Deliver message) = ⊥
IsOneHostLine GiveUp = ⊥
IsOneHostLine Again = ⊥
IsOneHostLine (Show message) = ⊥
IsOneHostLine (Fail host call) = Unit {0}
