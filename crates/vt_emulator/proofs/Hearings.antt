-- Control bytes, by what the reader of requests made of them.
use Rattle.std.proofs.Common.{◌≡◌, ℕ, Bool, true, false, List, [], ◌++◌, take, drop, Option, Some, None, Ok, Err, refl, sym, ap, subst, ◌∙◌, append_assoc}
use Rattle.std.proofs.lemmas.List.{take-append-drop}
use Rattle.vt_base.specs.Numbers.{IsBytes}
use Rattle.vt_base.specs.Layout.{IsOpen}
use Rattle.vt_base.proofs.Numbers.{IsBytes-take, IsBytes-append}
use Rattle.ctrl_codec.specs.declared.request.Request.{Request}
use Rattle.ctrl_codec.specs.declared.request.RequestFault.{RequestFault}
use Rattle.ctrl_codec.specs.declared.request_reader.FedRequest.TheVariants.{More, Whole}
use Rattle.ctrl_codec.specs.declared.reply.Reply.TheVariants as reply
use Rattle.ctrl_codec.specs.Requests.{Asks, Refuses, requests}
use Rattle.ctrl_codec.specs.Replies.{encode_reply}
use Rattle.ctrl_codec.specs.Reading.{ReaderState}
use Rattle.ctrl_codec.specs.RequestReading.{IsUndecided, IsReaderAfter}
use Rattle.ctrl_codec.proofs.Requests.{says}
use Rattle.ctrl_model.specs.Emulator.{fault_result, closed_for}
use Rattle.ctrl_model.specs.Link.{Heard, heard_in}
use Rattle.ctrl_model.specs.Link.Heard.{Asked, Refused}
use Rattle.ctrl_model.proofs.Hearing.{heard_prefix, refused_prefix, heard_open}
use Rattle.vt_emulator.specs.CoreStates.{CoreState, HandledRequest}
use Rattle.vt_emulator.specs.Emulator.{BufferedEmulator, Controls, ControlsBy, HearsBy}

-- an emulator by its reader and its board
abbrev pub state_of : ReaderState → CoreState → BufferedEmulator
state_of reader core = record { emulator = core.emulator; request = reader.begun; command = core.command }

rejoined : (begun bytes : List ℕ) (used : ℕ) → (begun ++ take used bytes) ++ drop used bytes ≡ begun ++ bytes
rejoined begun bytes used = append_assoc begun (take used bytes) (drop used bytes) ∙ ap (λ (r : List ℕ). begun ++ r) (take-append-drop used bytes)

-- a channel that is open hears by what stands at the start
listening : (bytes : List ℕ) (used : ℕ) (out : List ℕ) (e f : BufferedEmulator) (heard : Option Heard) → e.emulator.closed ≡ false → heard_in (e.request ++ bytes) ≡ heard → HearsBy heard bytes used out e f → Controls bytes used out e f
listening bytes used out e f heard listens is step =
    subst (λ (b : Bool). ControlsBy b bytes used out e f) (sym listens) (subst (λ (h : Option Heard). HearsBy h bytes used out e f) (sym is) step)

-- where the bytes are of no message, no prefix of them is decoded as one
undecided_is_open : (bytes : List ℕ) → IsBytes bytes → IsUndecided bytes → IsOpen requests bytes
undecided_is_open bytes fits none (Ok q) n spelled = none.no_request n q (drop 16 (take n bytes)) (says (Ok q) (take n bytes) (IsBytes-take n bytes fits) spelled)
undecided_is_open bytes fits none (Err fault) n spelled = none.no_refusal n fault (says (Err fault) (take n bytes) (IsBytes-take n bytes fits) spelled)

pub heard_more : (bytes : List ℕ) (used : ℕ) (out : List ℕ) (reader now : ReaderState) (core : CoreState) → core.emulator.closed ≡ false → IsBytes reader.begun → IsBytes bytes
    → IsUndecided (reader.begun ++ bytes) → IsReaderAfter reader bytes used More now → out ≡ [] → Controls bytes used out (state_of reader core) (state_of now core)
heard_more bytes used out reader now core listens begun_fits fits none after empty =
    listening bytes used out (state_of reader core) (state_of now core) None listens (heard_open (reader.begun ++ bytes) (undecided_is_open (reader.begun ++ bytes) (IsBytes-append reader.begun bytes begun_fits fits) none)) (record {
      state = ap (λ (r : ReaderState). state_of r core) after.2;
      all_used = after.1;
      no_reply = empty;
    })

pub heard_whole : (q : Request) (payload bytes : List ℕ) (used : ℕ) (out : List ℕ) (reader now : ReaderState) (core next : CoreState) → core.emulator.closed ≡ false
    → Asks q payload (reader.begun ++ take used bytes) → IsReaderAfter reader bytes used (Whole q) now → HandledRequest q payload out core next → Controls bytes used out (state_of reader core) (state_of now next)
heard_whole q payload bytes used out reader now core next listens asks after obeying =
    let prefix : heard_in (reader.begun ++ bytes) ≡ Some (Asked q payload) = ap heard_in (sym (rejoined reader.begun bytes used)) ∙ heard_prefix q payload (reader.begun ++ take used bytes) (drop used bytes) asks in
    listening bytes used out (state_of reader core) (state_of now next) (Some (Asked q payload)) listens prefix (record {
      request_outcome = obeying.request_outcome;
      hears = obeying.obeys;
      state = ap (λ (r : ReaderState). state_of r next) after.1 ∙ ap (λ (b : CoreState). record { emulator = b.emulator; request = []; command = b.command }) obeying.state;
      replies = obeying.replies;
      message = asks;
    })

pub heard_refused : (fault : RequestFault) (bytes : List ℕ) (used : ℕ) (out : List ℕ) (reader now : ReaderState) (core next : CoreState) → core.emulator.closed ≡ false
    → Refuses fault (reader.begun ++ take used bytes) → now ≡ record reader { begun = []; failed = true } → next ≡ record core { emulator = record core.emulator { closed = true } }
    → out ≡ encode_reply (reply.Result (fault_result fault)) [] → Controls bytes used out (state_of reader core) (state_of now next)
heard_refused fault bytes used out reader now core next listens refuses after closed replies =
    let prefix : heard_in (reader.begun ++ bytes) ≡ Some (Refused fault) = ap heard_in (sym (rejoined reader.begun bytes used)) ∙ refused_prefix fault (reader.begun ++ take used bytes) (drop used bytes) refuses in
    listening bytes used out (state_of reader core) (state_of now next) (Some (Refused fault)) listens prefix (record {
      request_outcome = closed_for fault core.emulator;
      hears = refl;
      state = ap (λ (r : ReaderState). state_of r next) after ∙ ap (λ (b : CoreState). record { emulator = b.emulator; request = []; command = b.command }) closed;
      replies = replies;
      message = refuses;
    })
