-- What the commands write that save a host, go on from a saved one, or check what was saved. (Own definitions.)
use Rattle.std.specs.Prelude.{◌≡◌, ◌≢◌, ◌<◌, ◌⊎◌, ℕ, true, List, [], ◌∷◌, ◌++◌, length, take, Option, Some, None, option_and_then}
use Rattle.std.specs.Fmt.{decimal}
use lib.Chars.{codes}
use Rattle.vt_base.specs.declared.status.Status.{Status}
use Rattle.vt_base.specs.declared.status.Status.TheVariants.{Ok, Refused, NotYet}
use Rattle.vt_base.specs.declared.types.Malformed.{Malformed}
use Rattle.vt_base.specs.declared.types.Why.{Why}
use Rattle.vt_base.specs.declared.types.Why.TheVariants.{Magic, Version, Length, Value, Cut, Extra}
use Rattle.vt_script.specs.Replies.{numbered}
use Rattle.vt_script.specs.Script.{event_of}
use Rattle.vt_script.specs.declared.event.Event.{Event as Line}
use Rattle.vt_script.specs.declared.event.Event.TheVariants.{Access, Work, Ask, Reset, Offer, Deliver, GiveUp, Again, Show, Fail}
use Rattle.crb_history.specs.Snapshot.{Snapshot}
use Rattle.crb_history.specs.Event.{History}
use Rattle.crb_history.specs.Device.{number_of}
use Rattle.crb_history.specs.Continued.{snapshot_after, MaySuspend}
use Rattle.vt_transcript.specs.Plain.{plain_history}
use Rattle.vt_transcript.specs.Replies.{is_under_way}
use Rattle.saved_stream.specs.Streams.{encode_stream, IsStream}
use Rattle.saved_stream.specs.Refusals.{IsStreamRefused}
use Rattle.saved_stream.specs.Headers.{wanted_after}
use Rattle.script_run.specs.Run.{InputReading, IsWithinLimits, PassesLimitAt, IsOutside, FaultsBehind, meanings, in_order, followed}
use Rattle.script_run.specs.Start.{base_of}
use Rattle.script_run.specs.declared.start.Start.{Start}

-- ---- the texts

-- the word of a reason
abbrev pub word_of : Why → List ℕ
word_of Magic = codes "magic"
word_of Version = codes "version"
word_of Length = codes "length"
word_of Value = codes "value"
word_of Cut = codes "cut"
word_of Extra = codes "extra"

-- why, and where, bytes are no saved stream
abbrev pub refused_text : Malformed → List ℕ
refused_text fault = codes "refused " ++ word_of fault.why ++ numbered (codes " at ") fault.place

-- how long a saved stream is
abbrev pub whole_text : ℕ → List ℕ
whole_text size = codes "saved stream " ++ (decimal size ++ (codes " bytes" ++ 10 ∷ []))

-- the number of a command that is claimed and unfinished
abbrev pub not_yet_text : ℕ → List ℕ
not_yet_text number = numbered (codes "not yet ") number

-- ---- suspend

-- the lines of a suspension: a host on which a call is to fail isn't saved, nor one that takes part in a move
abbrev pub plain_line : Line → Option Line
plain_line (Access access) = Some (Access access)
plain_line Work = Some Work
plain_line Ask = Some Ask
plain_line Reset = Some Reset
plain_line Offer = None
plain_line (Deliver message) = None
plain_line GiveUp = None
plain_line Again = None
plain_line (Show message) = None
plain_line (Fail host call) = None

abbrev pub plain_event_of : List ℕ → Option Line
plain_event_of text = option_and_then plain_line (event_of text)

-- all lines are these, the latest first
abbrev pub AreLines : List ℕ → List Line → Type 0
AreLines script lines = meanings plain_event_of script ≡ in_order Some lines

-- the saved stream of the values at the end of the one history that the lines have, or the number of the command that is
-- claimed and unfinished then
abbrev pub SuspendsAt : Snapshot → History → Status → List ℕ → Type 0
SuspendsAt b p Ok output = MaySuspend b p × (output ≡ encode_stream (snapshot_after b p))
SuspendsAt b p NotYet output = (is_under_way b p ≡ true) × (output ≡ not_yet_text (number_of b p))
SuspendsAt b p status output = ⊥

-- the first n lines are the guest's, and have no replies
abbrev pub GuestLines : List ℕ → ℕ → List ℕ → Type 0
GuestLines script n output = (lines : List Line) × (in_order Some lines ≡ take (length lines) (meanings plain_event_of script)) × (length lines ≡ n) × (output ≡ [])

-- as a script of `suspend`: its lines have no replies
abbrev pub suspended : Start → List ℕ → InputReading
suspended start script = record {
  Gives = GuestLines script;
  IsBad = IsOutside plain_event_of script;
  PassesLimit = PassesLimitAt script;
  Faults = FaultsBehind (GuestLines script) script;
  Ends = λ status output. (lines : List Line) × IsWithinLimits script × AreLines script lines × SuspendsAt (base_of start) (plain_history (base_of start) lines) status output;
}

-- ---- resume

-- the input is a saved stream, which spells these values, and then a script
pub record Resumption (input : List ℕ) : Type 0 where
  pub base : Snapshot
  pub stream : List ℕ
  pub script : List ℕ
  pub whole : input ≡ stream ++ script
  pub spells : IsStream stream base

-- the first bytes are no saved stream; bytes behind one are the script
abbrev pub IsFrontRefused : Malformed → List ℕ → Type 0
IsFrontRefused fault input = IsStreamRefused fault input × (fault.why ≢ Extra)

abbrev pub ResumesTo : ℕ → List ℕ → Status → List ℕ → Type 0
ResumesTo piece input Refused output = (fault : Malformed) × IsFrontRefused fault input × (output ≡ refused_text fault)
ResumesTo piece input status output = (from : Resumption input) × (followed from.base piece from.script).Ends status output

-- the first bytes of the input are read, and more of a stream are wanted; these are unread
abbrev pub IsInFront : List ℕ → List ℕ → Type 0
IsInFront input left = (front : List ℕ) × (input ≡ front ++ left) × (0 < wanted_after front)

abbrev pub resumed : ℕ → List ℕ → InputReading
resumed piece input = record {
  Gives = λ n output. (from : Resumption input) × (followed from.base piece from.script).Gives n output;
  IsBad = λ n. (from : Resumption input) × (followed from.base piece from.script).IsBad n;
  PassesLimit = λ n text. (from : Resumption input) × (followed from.base piece from.script).PassesLimit n text;
  Faults = λ output left. ((output ≡ []) × IsInFront input left) ⊎ ((from : Resumption input) × (followed from.base piece from.script).Faults output left);
  Ends = ResumesTo piece input;
}

-- ---- check

abbrev pub ChecksTo : List ℕ → Status → List ℕ → Type 0
ChecksTo input Ok output = (b : Snapshot) × IsStream input b × (output ≡ whole_text (length input))
ChecksTo input Refused output = (fault : Malformed) × IsStreamRefused fault input × (output ≡ refused_text fault)
ChecksTo input status output = ⊥

abbrev pub checked : List ℕ → InputReading
checked input = record {
  Gives = λ n output. output ≡ [];
  IsBad = λ n. ⊥;
  PassesLimit = λ n text. ⊥;
  Faults = λ output left. output ≡ [];
  Ends = ChecksTo input;
}
