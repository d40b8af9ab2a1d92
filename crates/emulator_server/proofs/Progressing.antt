-- Bytes of one message, by what the emulator did.
use Rattle.std.proofs.Common.{◌≡◌, ◌≢◌, ℕ, ◌-◌, not, Bool, true, false, List, [], ◌++◌, length, take, Option, Some, None, refl, sym, ap, subst, ◌∙◌, inl, inr}
use Rattle.std.specs.Prelude.{◌⊎◌, is_some, cond, ◌&&◌}
use Rattle.std.specs.Io.KnownBytes.{Appends}
use Rattle.std.proofs.lemmas.List.{take_at}
use Rattle.vt_base.specs.Buffer.{followed_by_zeros, zeros}
use Rattle.vt_base.specs.declared.types.Chan.TheVariants.{Data, Ctrl}
use Rattle.ctrl_codec.specs.declared.reply.Reply.{Reply}
use Rattle.ctrl_codec.specs.declared.reply.Reply.TheVariants as reply
use Rattle.ctrl_codec.specs.Replies.{encode_reply}
use Rattle.ctrl_model.specs.Emulator.{EmulatorState, PendingCommand, holding, response_to, ran}
use Rattle.ctrl_model.specs.Link.{Heard, heard_in, command_in}
use Rattle.vt_emulator.specs.Emulator.{BufferedEmulator, Controls, ControlsBy, HearsBy, Ignores, Feeds, FeedsBy, HoldsBy, Runs, RunsBy}
use Rattle.vt_emulator.proofs.Frames.{found_is_frame}
use Rattle.emulator_server.specs.Messages.{AwaitsBytes, TakesMessages, TakesNone, uncancelled}
use Rattle.emulator_server.specs.Serving.{AnswersWhole, KeepsBytes, AdvancesTo}
use Rattle.emulator_server.specs.declared.serve.MessageProgress.TheVariants as progress

-- every reply has a byte
reply_some : (r : Reply) (payload : List ℕ) → encode_reply r payload ≡ [] → ⊥
reply_some (reply.Capability value) payload is = absurd cc
reply_some (reply.Result result) payload is = absurd cc
reply_some (reply.Established result bit) payload is = absurd cc
reply_some (reply.Blob result flags total len) payload is = absurd cc
reply_some (reply.Config result flags) payload is = absurd cc
reply_some (reply.Buffer result size least greatest) payload is = absurd cc

module _ (bytes : List ℕ) (used : ℕ) (out : List ℕ) (e f : BufferedEmulator) where
  -- over an open channel the bytes are heard
  hears_by : e.emulator.closed ≡ false → Controls bytes used out e f → HearsBy (heard_in (e.request ++ bytes)) bytes used out e f
  hears_by listens step = subst (λ (b : Bool). ControlsBy b bytes used out e f) listens step

  -- over a closed one they aren't
  ignores_by : e.emulator.closed ≡ true → Controls bytes used out e f → Ignores used out e f
  ignores_by shut step = subst (λ (b : Bool). ControlsBy b bytes used out e f) shut step

  answers_heard : (heard : Heard) → e.emulator.closed ≡ false → HearsBy (Some heard) bytes used out e f → AnswersWhole Ctrl bytes used out e f
  answers_heard heard listens hearing = record {
    answers = record {
      heard = heard;
      outcome = hearing.request_outcome;
      message = hearing.message;
      listens = listens;
      hears = hearing.hears;
      reply = hearing.replies;
      after = ap (λ (s : BufferedEmulator). s.emulator) hearing.state;
    };
    state = hearing.state ∙ ap (λ (d : EmulatorState). record e { emulator = d; request = [] }) (sym (ap (λ (s : BufferedEmulator). s.emulator) hearing.state));
  }

  answers_some : (heard : Option Heard) → e.emulator.closed ≡ false → HearsBy heard bytes used out e f → out ≢ [] → AnswersWhole Ctrl bytes used out e f
  answers_some None listens kept some = absurd (some kept.no_reply)
  answers_some (Some heard) listens hearing some = answers_heard heard listens hearing

  -- what is answered was a whole request
  pub request_is_answered : AwaitsBytes Ctrl e → Controls bytes used out e f → out ≢ [] → AnswersWhole Ctrl bytes used out e f
  request_is_answered awaits step some = go awaits.takes
    where
      go : TakesMessages Ctrl e.emulator ⊎ TakesNone Ctrl e.emulator → AnswersWhole Ctrl bytes used out e f
      go (inl listens) = answers_some (heard_in (e.request ++ bytes)) listens (hears_by listens step) some
      go (inr none) = let ignores = ignores_by none.1 step in absurd (some ignores.no_reply)

  answers_closing : (heard : Option Heard) → e.emulator.closed ≡ false → HearsBy heard bytes used out e f → f.emulator.closed ≡ true → AnswersWhole Ctrl bytes used out e f
  answers_closing None listens kept closed =
      let never : true ≡ false = sym closed ∙ ap (λ (s : BufferedEmulator). s.emulator.closed) kept.state ∙ listens in absurd cc
  answers_closing (Some heard) listens hearing closed = answers_heard heard listens hearing

  -- a whole request closes the channel, or it was closed
  pub closing_is_answered : (was written : Option (List ℕ)) → AwaitsBytes Ctrl e → Controls bytes used out e f → f.emulator.closed ≡ true → Appends was written out
      → AdvancesTo progress.Closed Ctrl bytes e f was written
  closing_is_answered was written awaits step closed wrote = go awaits.takes
    where
      go : TakesMessages Ctrl e.emulator ⊎ TakesNone Ctrl e.emulator → AdvancesTo progress.Closed Ctrl bytes e f was written
      go (inl listens) = inl (used, out, answers_closing (heard_in (e.request ++ bytes)) listens (hears_by listens step) closed, (refl, closed), wrote)
      go (inr none) = let ignores = ignores_by none.1 step in inr (none, ignores.state, subst (λ (o : List ℕ). Appends was written o) ignores.no_reply wrote)

  keeps_unheard : (heard : Option Heard) → heard_in (e.request ++ bytes) ≡ heard → HearsBy heard bytes used out e f → out ≡ [] → KeepsBytes Ctrl bytes e f
  keeps_unheard None is kept none = record { state = kept.state; part = ap is_some is }
  keeps_unheard (Some heard) is hearing none = absurd (reply_some hearing.request_outcome.reply hearing.request_outcome.payload (sym hearing.replies ∙ none))

  -- where nothing is answered and the channel is open, all was kept
  pub part_is_kept : AwaitsBytes Ctrl e → Controls bytes used out e f → out ≡ [] → f.emulator.closed ≡ false → KeepsBytes Ctrl bytes e f
  part_is_kept awaits step none opened = go awaits.takes
    where
      go : TakesMessages Ctrl e.emulator ⊎ TakesNone Ctrl e.emulator → KeepsBytes Ctrl bytes e f
      go (inl listens) = keeps_unheard (heard_in (e.request ++ bytes)) refl (hears_by listens step) none
      go (inr shut) =
          let ignores = ignores_by shut.1 step in
          let never : true ≡ false = sym shut.1 ∙ sym (ap (λ (s : BufferedEmulator). s.emulator.closed) ignores.state) ∙ opened in absurd cc

-- no command is held where one is awaited
holds_none : (d : EmulatorState) → TakesMessages Data d ⊎ TakesNone Data d → d.held ≡ None
holds_none d (inl none) = none
holds_none d (inr shut) = let never : Data ≡ Ctrl = shut.0 in absurd cc

module _ (bytes : List ℕ) (used : ℕ) (e m : BufferedEmulator) where
  holds_by : (whole : Bool) → AwaitsBytes Data e → Feeds bytes used whole e m → HoldsBy (command_in (e.command ++ bytes)) bytes used whole e m
  holds_by whole awaits step = subst (λ (b : Bool). FeedsBy b bytes used whole e m) (ap is_some (holds_none e.emulator awaits.takes)) step

  kept_by : (command : Option (List ℕ)) → command_in (e.command ++ bytes) ≡ command → HoldsBy command bytes used false e m → KeepsBytes Data bytes e m
  kept_by None is kept = record { state = kept.state; part = ap is_some is }
  kept_by (Some command) is holds = let never = holds.is_whole in absurd cc

  pub command_is_kept : AwaitsBytes Data e → Feeds bytes used false e m → KeepsBytes Data bytes e m
  command_is_kept awaits step = kept_by (command_in (e.command ++ bytes)) refl (holds_by false awaits step)

  -- and no command is held then
  pub none_is_held : AwaitsBytes Data e → Feeds bytes used false e m → m.emulator.held ≡ None
  none_is_held awaits step = let kept = command_is_kept awaits step in ap (λ (s : BufferedEmulator). s.emulator.held) kept.state ∙ holds_none e.emulator awaits.takes

  module _ (size : ℕ) (was into : List ℕ) (f : BufferedEmulator) where
    -- the buffer begins with the response
    response_taken : (response : List ℕ) → size ≡ length response → into ≡ followed_by_zeros response → take size into ≡ response
    response_taken response is all = rw (is, all) (take_at response (zeros (3968 - length response)) (length response) refl)

    ran_by : (command : Option (List ℕ)) → command_in (e.command ++ bytes) ≡ command → HoldsBy command bytes used true e m → Runs size was into m f → AnswersWhole Data bytes used (take size into) e f
    ran_by None is kept runs = let never = kept.not_whole in absurd cc
    ran_by (Some command) is holds runs =
        let h : PendingCommand = uncancelled command in
        let held : m.emulator.held ≡ Some h = ap (λ (s : BufferedEmulator). s.emulator.held) holds.state in
        let responds : RunsBy (Some h) size was into m f = subst (λ (o : Option PendingCommand). RunsBy o size was into m f) held runs in
        let state : m.emulator ≡ holding command e.emulator = ap (λ (s : BufferedEmulator). s.emulator) holds.state in
        let after : f.emulator ≡ ran h (holding command e.emulator) = ap (λ (s : BufferedEmulator). s.emulator) responds.state ∙ ap (ran h) state in
        let reply : take size into ≡ response_to h (holding command e.emulator) = response_taken (response_to h m.emulator) responds.size_is responds.response ∙ ap (response_to h) state in
        let same : e.command ++ take used bytes ≡ command = sym holds.taken in
        record {
          answers = rw same (record { message = found_is_frame (e.command ++ bytes) command is; reply = reply; after = after });
          state = responds.state ∙ ap (λ (s : BufferedEmulator). record s { emulator = ran h s.emulator }) holds.state ∙ ap (λ (d : EmulatorState). record e { emulator = d; command = [] }) (sym after);
        }

    pub command_is_answered : AwaitsBytes Data e → Feeds bytes used true e m → Runs size was into m f → AnswersWhole Data bytes used (take size into) e f
    command_is_answered awaits step runs = ran_by (command_in (e.command ++ bytes)) refl (holds_by true awaits step) runs

-- a command that was run is held no more
held_by : (b : Bool) (d e : EmulatorState) → d.held ≡ None → e.held ≡ None → (cond b d e).held ≡ None
held_by true d e p q = p
held_by false d e p q = q

pub ran_is_dropped : (h : PendingCommand) (d : EmulatorState) → (ran h d).held ≡ None
ran_is_dropped h d = held_by (d.on && not h.cancelled) _ _ refl refl
