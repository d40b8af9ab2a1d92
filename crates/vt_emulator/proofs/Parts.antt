-- Bytes in two pieces come to the same as at once.
use Rattle.std.proofs.Common.{◌≡◌, ◌≢◌, ℕ, ◌+◌, ◌≤◌, Bool, true, false, List, [], ◌++◌, length, take, drop, Option, Some, None, refl, sym, ap, subst, ◌∙◌, arith, append_assoc}
use Rattle.std.specs.Prelude.{is_some}
use Rattle.std.proofs.lemmas.List.{length-append, take-append-le}
use Rattle.std.proofs.Math.Seq.{take-append-add}
use Rattle.ctrl_codec.specs.declared.reply.Reply.{Reply}
use Rattle.ctrl_codec.specs.declared.reply.Reply.TheVariants as reply
use Rattle.ctrl_codec.specs.Replies.{encode_reply}
use Rattle.ctrl_model.specs.Link.{Heard, heard_in, command_in}
use Rattle.ctrl_model.specs.Link.Heard.{Asked, Refused}
use Rattle.ctrl_model.proofs.Hearing.{heard_prefix, refused_prefix}
use Rattle.vt_emulator.proofs.Frames.{rejoined, command_prefix, found_is_frame}
use Rattle.vt_emulator.specs.Emulator.{BufferedEmulator, IsMessage, Controls, ControlsBy, HearsBy, Feeds, FeedsBy, HoldsBy}

-- every reply has a byte
reply_some : (r : Reply) (payload : List ℕ) → encode_reply r payload ≡ [] → ⊥
reply_some (reply.Capability value) payload is = absurd cc
reply_some (reply.Result result) payload is = absurd cc
reply_some (reply.Established result bit) payload is = absurd cc
reply_some (reply.Blob result flags total len) payload is = absurd cc
reply_some (reply.Config result flags) payload is = absurd cc
reply_some (reply.Buffer result size least greatest) payload is = absurd cc

-- the rest of a piece that begins behind another
joined_take : (begun first next : List ℕ) (more : ℕ) → begun ++ take (length first + more) (first ++ next) ≡ (begun ++ first) ++ take more next
joined_take begun first next more = ap (λ (t : List ℕ). begun ++ t) (take-append-add first next more) ∙ sym (append_assoc begun first (take more next))

module _ (first next : List ℕ) (used more : ℕ) (reply last : List ℕ) (e f g : BufferedEmulator) where
  -- the second piece, over the state in which the first was kept
  control_next : (heard : Option Heard) → used ≡ length first → HearsBy heard next more last (record e { request = e.request ++ first }) g → HearsBy heard (first ++ next) (used + more) last e g
  control_next None size kept = record {
    state = kept.state ∙ ap (λ (t : List ℕ). record e { request = t }) (append_assoc e.request first next);
    all_used = omega (arith, size, kept.all_used, length-append first next);
    no_reply = kept.no_reply;
  }
  control_next (Some heard) size hearing = record {
    request_outcome = hearing.request_outcome;
    hears = hearing.hears;
    state = hearing.state;
    replies = hearing.replies;
    message = subst (IsMessage heard) (sym (ap (λ (n : ℕ). e.request ++ take (n + more) (first ++ next)) size ∙ joined_take e.request first next more)) hearing.message;
  }

  control_by : (closed : Bool) (heard : Option Heard) → e.emulator.closed ≡ closed → heard_in (e.request ++ first) ≡ heard → ControlsBy closed first used reply e f → (closed ≡ false → HearsBy heard first used reply e f)
      → reply ≡ [] → f.emulator.closed ≡ false → Controls next more last f g → Controls (first ++ next) (used + more) last e g
  control_by true heard is prefix step by none listens after = let never = sym is ∙ sym (ap (λ (s : BufferedEmulator). s.emulator.closed) step.state) ∙ listens in absurd cc
  control_by false (Some heard) is prefix step by none listens after = absurd (reply_some (by refl).request_outcome.reply (by refl).request_outcome.payload (sym (by refl).replies ∙ none))
  control_by false None is prefix step by none listens after =
      let kept = by refl in
      let over : Controls next more last (record e { request = e.request ++ first }) g = subst (λ (s : BufferedEmulator). Controls next more last s g) kept.state after in
      let second : HearsBy (heard_in ((e.request ++ first) ++ next)) next more last (record e { request = e.request ++ first }) g =
      subst (λ (b : Bool). ControlsBy b next more last (record e { request = e.request ++ first }) g) is over in
      let whole : HearsBy (heard_in (e.request ++ (first ++ next))) next more last (record e { request = e.request ++ first }) g =
      subst (λ (t : List ℕ). HearsBy (heard_in t) next more last (record e { request = e.request ++ first }) g) (append_assoc e.request first next) second in
      subst (λ (b : Bool). ControlsBy b (first ++ next) (used + more) last e g) (sym is) (control_next (heard_in (e.request ++ (first ++ next))) kept.all_used whole)

  pub control_joins : Controls first used reply e f → reply ≡ [] → f.emulator.closed ≡ false → Controls next more last f g → Controls (first ++ next) (used + more) last e g
  control_joins step =
      control_by e.emulator.closed (heard_in (e.request ++ first)) refl refl step (λ (is : e.emulator.closed ≡ false). subst (λ (b : Bool). ControlsBy b first used reply e f) is step)

-- a message at the start, whatever follows it
message_prefix : (heard : Heard) (prefix behind : List ℕ) → IsMessage heard prefix → heard_in (prefix ++ behind) ≡ Some heard
message_prefix (Asked q payload) prefix behind asks = heard_prefix q payload prefix behind asks
message_prefix (Refused fault) prefix behind refuses = refused_prefix fault prefix behind refuses

module _ (bytes behind : List ℕ) (used : ℕ) (out : List ℕ) (e f : BufferedEmulator) where
  control_end : (heard : Option Heard) → used ≤ length bytes → e.emulator.closed ≡ false → HearsBy heard bytes used out e f → out ≢ [] → Controls (bytes ++ behind) used out e f
  control_end None le listens kept some = absurd (some kept.no_reply)
  control_end (Some heard) le listens hearing some =
      let parts : e.request ++ (bytes ++ behind) ≡ (e.request ++ take used bytes) ++ (drop used bytes ++ behind) =
      sym (append_assoc e.request bytes behind) ∙ ap (λ (t : List ℕ). t ++ behind) (sym (rejoined e.request bytes used)) ∙ append_assoc (e.request ++ take used bytes) (drop used bytes) behind in
      let found : heard_in (e.request ++ (bytes ++ behind)) ≡ Some heard = ap heard_in parts ∙ message_prefix heard (e.request ++ take used bytes) (drop used bytes ++ behind) hearing.message in
      let now : HearsBy (Some heard) (bytes ++ behind) used out e f = record {
        request_outcome = hearing.request_outcome;
        hears = hearing.hears;
        state = hearing.state;
        replies = hearing.replies;
        message = subst (λ (t : List ℕ). IsMessage heard (e.request ++ t)) (sym (take-append-le used bytes behind le)) hearing.message;
      } in
      subst (λ (b : Bool). ControlsBy b (bytes ++ behind) used out e f) (sym listens) (subst (λ (h : Option Heard). HearsBy h (bytes ++ behind) used out e f) (sym found) now)

  control_ends_by : (closed : Bool) → e.emulator.closed ≡ closed → used ≤ length bytes → ControlsBy closed bytes used out e f → out ≢ [] → Controls (bytes ++ behind) used out e f
  control_ends_by true is le step some = absurd (some step.no_reply)
  control_ends_by false is le step some = control_end (heard_in (e.request ++ bytes)) le is step some

  pub control_ends : used ≤ length bytes → Controls bytes used out e f → out ≢ [] → Controls (bytes ++ behind) used out e f
  control_ends le step some = control_ends_by e.emulator.closed refl le step some

module _ (first next : List ℕ) (used more : ℕ) (whole : Bool) (e f g : BufferedEmulator) where
  command_next : (command : Option (List ℕ)) → used ≡ length first → HoldsBy command next more whole (record e { command = e.command ++ first }) g → HoldsBy command (first ++ next) (used + more) whole e g
  command_next None size kept = record {
    state = kept.state ∙ ap (λ (t : List ℕ). record e { command = t }) (append_assoc e.command first next);
    all_used = omega (arith, size, kept.all_used, length-append first next);
    not_whole = kept.not_whole;
  }
  command_next (Some command) size holds = record {
    state = holds.state;
    is_whole = holds.is_whole;
    taken = holds.taken ∙ sym (ap (λ (n : ℕ). e.command ++ take (n + more) (first ++ next)) size ∙ joined_take e.command first next more);
  }

  command_by : (held : Bool) (command : Option (List ℕ)) → is_some e.emulator.held ≡ held → FeedsBy held first used false e f → (held ≡ false → HoldsBy command first used false e f)
      → Feeds next more whole f g → Feeds (first ++ next) (used + more) whole e g
  command_by true command is step by after = let never = step.is_whole in absurd cc
  command_by false (Some command) is step by after = let never = (by refl).is_whole in absurd cc
  command_by false None is step by after =
      let kept = by refl in
      let over : Feeds next more whole (record e { command = e.command ++ first }) g = subst (λ (s : BufferedEmulator). Feeds next more whole s g) kept.state after in
      let second : HoldsBy (command_in ((e.command ++ first) ++ next)) next more whole (record e { command = e.command ++ first }) g =
      subst (λ (b : Bool). FeedsBy b next more whole (record e { command = e.command ++ first }) g) is over in
      let both : HoldsBy (command_in (e.command ++ (first ++ next))) next more whole (record e { command = e.command ++ first }) g =
      subst (λ (t : List ℕ). HoldsBy (command_in t) next more whole (record e { command = e.command ++ first }) g) (append_assoc e.command first next) second in
      subst (λ (b : Bool). FeedsBy b (first ++ next) (used + more) whole e g) (sym is) (command_next (command_in (e.command ++ (first ++ next))) kept.all_used both)

  pub command_joins : Feeds first used false e f → Feeds next more whole f g → Feeds (first ++ next) (used + more) whole e g
  command_joins step =
      command_by (is_some e.emulator.held) (command_in (e.command ++ first)) refl step (λ (is : is_some e.emulator.held ≡ false). subst (λ (b : Bool). FeedsBy b first used false e f) is step)

module _ (bytes behind : List ℕ) (used : ℕ) (e f : BufferedEmulator) where
  command_end : (command : Option (List ℕ)) → command_in (e.command ++ bytes) ≡ command → used ≤ length bytes → is_some e.emulator.held ≡ false → HoldsBy command bytes used true e f → Feeds (bytes ++ behind) used true e f
  command_end None is le free kept = let never = kept.not_whole in absurd cc
  command_end (Some command) is le free holds =
      let parts : e.command ++ (bytes ++ behind) ≡ command ++ (drop used bytes ++ behind) =
      sym (append_assoc e.command bytes behind) ∙ ap (λ (t : List ℕ). t ++ behind) (sym (rejoined e.command bytes used)) ∙ append_assoc (e.command ++ take used bytes) (drop used bytes) behind
      ∙ ap (λ (t : List ℕ). t ++ (drop used bytes ++ behind)) (sym holds.taken) in
      let found : command_in (e.command ++ (bytes ++ behind)) ≡ Some command = ap command_in parts ∙ command_prefix command (drop used bytes ++ behind) (found_is_frame (e.command ++ bytes) command is) in
      let now : HoldsBy (Some command) (bytes ++ behind) used true e f = record {
        state = holds.state;
        is_whole = refl;
        taken = holds.taken ∙ ap (λ (t : List ℕ). e.command ++ t) (sym (take-append-le used bytes behind le));
      } in
      subst (λ (b : Bool). FeedsBy b (bytes ++ behind) used true e f) (sym free) (subst (λ (c : Option (List ℕ)). HoldsBy c (bytes ++ behind) used true e f) (sym found) now)

  command_ends_by : (held : Bool) → is_some e.emulator.held ≡ held → used ≤ length bytes → FeedsBy held bytes used true e f → Feeds (bytes ++ behind) used true e f
  command_ends_by true is le step = subst (λ (b : Bool). FeedsBy b (bytes ++ behind) used true e f) (sym is) (record { state = step.state; none_used = step.none_used; is_whole = refl })
  command_ends_by false is le step = command_end (command_in (e.command ++ bytes)) refl le is step

  pub command_ends : used ≤ length bytes → Feeds bytes used true e f → Feeds (bytes ++ behind) used true e f
  command_ends le step = command_ends_by (is_some e.emulator.held) refl le step
