-- A dialogue is decided by its bytes.
use Rattle.std.proofs.Common.{◌≡◌, ℕ, true, false, List, [], ◌∷◌, ◌++◌, length, refl, sym, ap, subst, ◌∙◌, append_assoc, arith, inl, inr}
use Rattle.std.specs.Prelude.{is_some}
use Rattle.std.proofs.lemmas.List.{append_cancel_left}
use Rattle.vt_base.specs.declared.types.Chan.{Chan}
use Rattle.vt_base.specs.declared.types.Chan.TheVariants.{Data, Ctrl}
use Rattle.vt_base.specs.Layout.{Layout, Encodes}
use Rattle.tpm_frame.specs.Frames.{frames}
use Rattle.ctrl_codec.specs.declared.request.Request.{Request}
use Rattle.ctrl_codec.specs.declared.request.RequestFault.{RequestFault}
use Rattle.ctrl_codec.specs.Requests.{Asks, Refuses}
use Rattle.ctrl_codec.specs.Replies.{encode_reply}
use Rattle.ctrl_model.specs.Emulator.{EmulatorState, RequestOutcome, holding, response_to, ran}
use Rattle.ctrl_model.specs.Link.{Heard, Hears}
use Rattle.ctrl_model.specs.Link.Heard.{Asked, Refused}
use Rattle.ctrl_model.proofs.Hearing.{heard_prefix, refused_prefix}
use Rattle.vt_emulator.specs.Emulator.{IsMessage}
use Rattle.vt_emulator.proofs.Frames.{command_prefix}
use Rattle.emulator_server.specs.Messages.{AnsweredMessage, RepliesToRequest, RespondsToCommand, AnswersMessage, AnswersMessages, messages_read, has_message, uncancelled}
use Rattle.emulator_server.specs.Dialogues.{BringsNone}

-- what the laws below say
abbrev pub FramesAreFree : Type 0
FramesAreFree = (layout : Layout (Unit {0})) (d e : Unit {0}) (a b x y : List ℕ) → Encodes layout d a → Encodes layout e b → a ++ x ≡ b ++ y → (d ≡ e) × (a ≡ b)

abbrev pub RequestsAreFree : Type 0
RequestsAreFree = (q r : Request) (p s a b x y : List ℕ) → Asks q p a → Asks r s b → a ++ x ≡ b ++ y → (q ≡ r) × (p ≡ s) × (a ≡ b)

abbrev pub RefusalsAreFree : Type 0
RefusalsAreFree = (f g : RequestFault) (a b x y : List ℕ) → Refuses f a → Refuses g b → a ++ x ≡ b ++ y → (f ≡ g) × (a ≡ b)

abbrev pub TheyAreApart : Type 0
TheyAreApart = (q : Request) (f : RequestFault) (p a b x y : List ℕ) → Asks q p a → Refuses f b → a ++ x ≡ b ++ y → ⊥

abbrev pub StepsAreOne : Type 0
StepsAreOne = (heard : Heard) (d : EmulatorState) (s t : RequestOutcome) → Hears heard d s → Hears heard d t → s ≡ t

-- a message at the start of the bytes is found
message_found : (chan : Chan) (x : AnsweredMessage) (more : List ℕ) (d e : EmulatorState) → AnswersMessage chan x d e → has_message chan (x.message ++ more) ≡ true
message_found Data x more d e answers = ap is_some (command_prefix x.message more answers.message)
message_found Ctrl x more d e answers = go answers.heard answers.message
  where
    go : (heard : Heard) → IsMessage heard x.message → has_message Ctrl (x.message ++ more) ≡ true
    go (Asked q payload) asks = ap is_some (heard_prefix q payload x.message more asks)
    go (Refused fault) refuses = ap is_some (refused_prefix fault x.message more refuses)

-- a channel that takes a message isn't closed
takes_message : (chan : Chan) (x : AnsweredMessage) (d e : EmulatorState) → AnswersMessage chan x d e → chan ≡ Ctrl → d.closed ≡ false
takes_message Data x d e answers is = absurd cc
takes_message Ctrl x d e answers is = answers.listens

-- behind which no message comes, none comes
none_comes : (chan : Chan) (x : AnsweredMessage) (rest more : List ℕ) (d e : EmulatorState) → BringsNone chan rest d → AnswersMessage chan x d e → rest ≡ x.message ++ more → ⊥
none_comes chan x rest more d e (inl none) answers same = let never : true ≡ false = sym (message_found chan x more d e answers) ∙ ap (has_message chan) (sym same) ∙ none in absurd cc
none_comes chan x rest more d e (inr closed) answers same = let never : true ≡ false = sym closed.1 ∙ takes_message chan x d e answers closed.0 in absurd cc

module _ (frames_free : FramesAreFree) (requests_free : RequestsAreFree) (refusals_free : RefusalsAreFree) (apart : TheyAreApart) (one_step : StepsAreOne) where
  same_heard : (h k : Heard) (a b x y : List ℕ) → IsMessage h a → IsMessage k b → a ++ x ≡ b ++ y → (h ≡ k) × (a ≡ b)
  same_heard (Asked q p) (Asked r s) a b x y asks others same =
      let one = requests_free q r p s a b x y asks others same in
      (ap (λ (t : Request). Asked t p) one.0 ∙ ap (λ (t : List ℕ). Asked r t) one.1, one.2)
  same_heard (Asked q p) (Refused g) a b x y asks refuses same = absurd (apart q g p a b x y asks refuses same)
  same_heard (Refused f) (Asked r s) a b x y refuses asks same = absurd (apart r f s b a y x asks refuses (sym same))
  same_heard (Refused f) (Refused g) a b x y refuses others same =
      let one = refusals_free f g a b x y refuses others same in
      (ap (λ (t : RequestFault). Refused t) one.0, one.1)

  same_reply : (x y : AnsweredMessage) (d e f : EmulatorState) (a b : List ℕ) → RepliesToRequest x d e → RepliesToRequest y d f → x.message ++ a ≡ y.message ++ b → (x ≡ y) × (e ≡ f)
  same_reply x y d e f a b p q same =
      let one = same_heard p.heard q.heard x.message y.message a b p.message q.message same in
      let outcome : p.outcome ≡ q.outcome = one_step q.heard d p.outcome q.outcome (subst (λ (h : Heard). Hears h d p.outcome) one.0 p.hears) q.hears in
      let reply : x.reply ≡ y.reply = p.reply ∙ ap (λ (o : RequestOutcome). encode_reply o.reply o.payload) outcome ∙ sym q.reply in (
        ap (λ (m : List ℕ). record { message = m; reply = x.reply }) one.1 ∙ ap (λ (r : List ℕ). record { message = y.message; reply = r }) reply,
        p.after ∙ ap (λ (o : RequestOutcome). o.emulator) outcome ∙ sym q.after,
      )

  same_response : (x y : AnsweredMessage) (d e f : EmulatorState) (a b : List ℕ) → RespondsToCommand x d e → RespondsToCommand y d f → x.message ++ a ≡ y.message ++ b → (x ≡ y) × (e ≡ f)
  same_response x y d e f a b p q same =
      let message : x.message ≡ y.message = (frames_free frames tt tt x.message y.message a b p.message q.message same).1 in
      let reply : x.reply ≡ y.reply = p.reply ∙ ap (λ (m : List ℕ). response_to (uncancelled m) (holding m d)) message ∙ sym q.reply in (
        ap (λ (m : List ℕ). record { message = m; reply = x.reply }) message ∙ ap (λ (r : List ℕ). record { message = y.message; reply = r }) reply,
        p.after ∙ ap (λ (m : List ℕ). ran (uncancelled m) (holding m d)) message ∙ sym q.after,
      )

  same_message : (chan : Chan) (x y : AnsweredMessage) (d e f : EmulatorState) (a b : List ℕ) → AnswersMessage chan x d e → AnswersMessage chan y d f → x.message ++ a ≡ y.message ++ b → (x ≡ y) × (e ≡ f) × (a ≡ b)
  same_message chan x y d e f a b p q same =
      let one : (x ≡ y) × (e ≡ f) = by chan p q in
      (one.0, one.1, append_cancel_left y.message a b (subst (λ (m : AnsweredMessage). m.message ++ a ≡ y.message ++ b) one.0 same))
    where
      by : (c : Chan) → AnswersMessage c x d e → AnswersMessage c y d f → (x ≡ y) × (e ≡ f)
      by Data r s = same_response x y d e f a b r s same
      by Ctrl r s = same_reply x y d e f a b r s same

  module _ (chan : Chan) (x y : AnsweredMessage) (xs ys : List AnsweredMessage) (rest left : List ℕ) (d f g : EmulatorState)
      (p : AnswersMessages chan (x ∷ xs) d f) (q : AnswersMessages chan (y ∷ ys) d g) (same : messages_read (x ∷ xs) ++ rest ≡ messages_read (y ∷ ys) ++ left) where
    -- the first messages of two dialogues are one
    first : (x ≡ y) × (p.0 ≡ q.0) × (messages_read xs ++ rest ≡ messages_read ys ++ left)
    first = same_message chan x y d p.0 q.0 (messages_read xs ++ rest) (messages_read ys ++ left) p.1 q.1 (sym (append_assoc x.message (messages_read xs) rest) ∙ same ∙ append_assoc y.message (messages_read ys) left)

    -- so the others are over one emulator
    others : AnswersMessages chan ys p.0 g
    others = subst (λ (s : EmulatorState). AnswersMessages chan ys s g) (sym first.1) q.2

    behind : (xs ≡ ys) × (rest ≡ left) × (f ≡ g) → ((x ∷ xs) ≡ (y ∷ ys)) × (rest ≡ left) × (f ≡ g)
    behind one = (ap (λ (m : AnsweredMessage). m ∷ xs) first.0 ∙ ap (λ (t : List AnsweredMessage). y ∷ t) one.0, one.1, one.2)

  pub counted_once : (chan : Chan) (xs ys : List AnsweredMessage) (rest left : List ℕ) (d f g : EmulatorState) → AnswersMessages chan xs d f → AnswersMessages chan ys d g → messages_read xs ++ rest ≡ messages_read ys ++ left
      → length xs ≡ length ys → (xs ≡ ys) × (rest ≡ left) × (f ≡ g)
  counted_once chan [] [] rest left d f g p q same count = (refl, same, p ∙ sym q)
  counted_once chan [] (y ∷ ys) rest left d f g p q same count = absurd (omega (arith, count))
  counted_once chan (x ∷ xs) [] rest left d f g p q same count = absurd (omega (arith, count))
  counted_once chan (x ∷ xs) (y ∷ ys) rest left d f g p q same count =
      behind chan x y xs ys rest left d f g p q same
      (counted_once chan xs ys rest left p.0 f g p.2 (others chan x y xs ys rest left d f g p q same) (first chan x y xs ys rest left d f g p q same).2 (omega (arith, count)))

  pub complete_once : (chan : Chan) (xs ys : List AnsweredMessage) (rest left : List ℕ) (d f g : EmulatorState) → AnswersMessages chan xs d f → AnswersMessages chan ys d g → messages_read xs ++ rest ≡ messages_read ys ++ left
      → BringsNone chan rest f → BringsNone chan left g → (xs ≡ ys) × (rest ≡ left) × (f ≡ g)
  complete_once chan [] [] rest left d f g p q same ends stops = (refl, same, p ∙ sym q)
  complete_once chan [] (y ∷ ys) rest left d f g p q same ends stops =
      absurd (none_comes chan y rest (messages_read ys ++ left) d q.0 (subst (λ (s : EmulatorState). BringsNone chan rest s) p ends) q.1 (same ∙ append_assoc y.message (messages_read ys) left))
  complete_once chan (x ∷ xs) [] rest left d f g p q same ends stops =
      absurd (none_comes chan x left (messages_read xs ++ rest) d p.0 (subst (λ (s : EmulatorState). BringsNone chan left s) q stops) p.1 (sym same ∙ append_assoc x.message (messages_read xs) rest))
  complete_once chan (x ∷ xs) (y ∷ ys) rest left d f g p q same ends stops =
      behind chan x y xs ys rest left d f g p q same
      (complete_once chan xs ys rest left p.0 f g p.2 (others chan x y xs ys rest left d f g p q same) (first chan x y xs ys rest left d f g p q same).2 ends stops)
