-- Replies where no call on the wires is ordered to fail.
use Rattle.std.proofs.Common.{◌≡◌, ℕ, ◌+◌, Bool, true, false, List, [], ◌∷◌, refl, ap, sym, subst, ◌∙◌}
use Rattle.std.specs.Prelude.{if◌then◌else◌, Option, Some, None, IsSome, map}
use Rattle.crb_regs.specs.Access.{Access}
use Rattle.crb_regs.specs.Registers.{is_executing}
use Rattle.vt_script.specs.declared.event.Event.{Event as Line}
use Rattle.vt_script.specs.declared.event.Event.TheVariants.{Access as AccessLine, Work, Ask as AskLine, Reset as ResetLine, Offer, Deliver, GiveUp, Again, Show, Fail}
use Rattle.vt_script.specs.declared.reply.Reply.{Reply}
use Rattle.vt_script.specs.declared.reply.Reply.TheVariants as replied
use Rattle.crb_history.specs.Snapshot.{Snapshot}
use Rattle.crb_history.specs.Event.{History}
use Rattle.crb_history.specs.Device.{phase_of, stage_of, JobStage}
use Rattle.crb_history.specs.Device.JobStage.{Waiting, Claimed, HasSent, HasHeader}
use Rattle.crb_history.specs.Legal.{Legal}
use Rattle.vt_transcript.specs.Replies.{Exchange, Transcript, line_of, exchange, history, injected_fault_of, injected_fault_after, call_count, reaches, fails_within, is_fault, with_event, worker_reply, worker_reply_at, worker_reply_inputs, reset_reply, ask_reply, none_fails, IsReplyTo, IsRun}
use Rattle.vt_transcript.specs.Plain.{is_plain, ArePlain, access_reply, plain_reply, plain}

-- a plain line, and its reply, leave none
pub still_none : (injected_fault : Option ℕ) (fault : Bool) → injected_fault ≡ None → (if fault then None else injected_fault) ≡ None
still_none injected_fault true is = refl
still_none injected_fault false is = is

-- so no call fails
pub never : (b : Snapshot) (t : Transcript) → injected_fault_of t ≡ None → (calls : ℕ) → fails_within b t calls ≡ false
never b t none calls = ap (λ (o : Option ℕ). reaches o (call_count b t + calls)) none

-- and a step of the worker is answered as where none does
pub turn-none : (b : Snapshot) (t : Transcript) → injected_fault_of t ≡ None → worker_reply b (history b t) (fails_within b t) ≡ worker_reply b (history b t) none_fails
turn-none b t none = go (is_executing (phase_of b (history b t))) (stage_of b (history b t))
  where
    by_stage : (stage : JobStage) → worker_reply_at stage (worker_reply_inputs b (history b t)) (fails_within b t) ≡ worker_reply_at stage (worker_reply_inputs b (history b t)) none_fails
    by_stage Waiting = refl
    by_stage Claimed = rw (never b t none 1) refl
    by_stage HasSent = rw (never b t none 1) refl
    by_stage HasHeader = rw (never b t none 1) refl

    go : (executing : Bool) (stage : JobStage) → (if executing then worker_reply_at stage (worker_reply_inputs b (history b t)) (fails_within b t) else replied.Idle) ≡ (if executing then worker_reply_at stage (worker_reply_inputs b (history b t)) none_fails else replied.Idle)
    go false stage = refl
    go true stage = by_stage stage

-- what a step of the worker leaves, by its reply alone
pub turned : (b : Snapshot) (t : Transcript) (reply : Reply) → with_event (Some Work) reply (fails_within b t) (history b t) ≡ with_event (Some Work) reply none_fails (history b t)
turned b t (replied.Value v s) = refl
turned b t replied.Accepted = refl
turned b t replied.Idle = refl
turned b t (replied.Claim n) = refl
turned b t (replied.Sent n) = refl
turned b t (replied.Exec n) = refl
turned b t (replied.Done n) = refl
turned b t (replied.Cancelled n) = refl
turned b t (replied.Lost n) = refl
turned b t replied.Link = refl
turned b t replied.Asked = refl
turned b t replied.FailedDevice = refl
turned b t replied.NotYet = refl
turned b t replied.Reset = refl
turned b t replied.Stopped = refl
turned b t replied.EpochEnd = refl
turned b t (replied.Offered e m) = refl
turned b t (replied.Draining n) = refl
turned b t (replied.DoneOffered n e m) = refl
turned b t (replied.DoneLink n) = refl
turned b t (replied.CancelledOffered n e m) = refl
turned b t (replied.CancelledLink n) = refl
turned b t replied.NoMessage = refl
turned b t replied.Ignored = refl
turned b t replied.Took = refl
turned b t (replied.SentMessage m) = refl
turned b t replied.Running = refl
turned b t replied.Resumed = refl
turned b t (replied.RefusedSent w m) = refl
turned b t replied.NotOffering = refl
turned b t (replied.ResumedSent m) = refl
turned b t replied.NotPrepared = refl
turned b t (replied.Shown bytes) = refl

-- ---- the one run

-- a plain line, and its reply, leave none
unordered-after : (line : Line) (reply : Reply) (injected_fault : Option ℕ) → is_plain line ≡ true → injected_fault ≡ None → injected_fault_after (Some line) reply injected_fault ≡ None
unordered-after (AccessLine a) reply injected_fault plainly none = still_none injected_fault (is_fault reply) none
unordered-after Work reply injected_fault plainly none = still_none injected_fault (is_fault reply) none
unordered-after AskLine reply injected_fault plainly none = still_none injected_fault (is_fault reply) none
unordered-after ResetLine reply injected_fault plainly none = still_none injected_fault (is_fault reply) none
unordered-after Offer reply injected_fault plainly none = cc
unordered-after (Deliver message) reply injected_fault plainly none = cc
unordered-after GiveUp reply injected_fault plainly none = cc
unordered-after Again reply injected_fault plainly none = cc
unordered-after (Show message) reply injected_fault plainly none = cc
unordered-after (Fail host call) reply injected_fault plainly none = cc

-- none of so many next calls fails
nothing_fails : (b : Snapshot) (t : Transcript) {A : Type 0} (f : (ℕ → Bool) → A) → injected_fault_of t ≡ None → f (fails_within b t) ≡ f none_fails
nothing_fails b t f none = ap (λ (o : Option ℕ). f (λ calls. reaches o (call_count b t + calls))) none

-- the reply to an access is the one that is due
access_is : (b : Snapshot) (p : History) (fails : ℕ → Bool) (a : Access) (reply : Reply) (write : Option ℕ) → a.write ≡ write
    → IsReplyTo b p fails (Some (AccessLine a)) reply → Legal b (with_event (Some (AccessLine a)) reply fails p) → reply ≡ access_reply b p a write
access_is b p fails a (replied.Value value size) None is answers legal = rw (answers.1, legal.1.1) refl
access_is b p fails a (replied.Value value size) (Some w) is answers legal = absurd (go a.write is answers.0)
  where
    go : (write : Option ℕ) → write ≡ Some w → write ≡ None → ⊥
    go None so none = cc
    go (Some v) so none = cc
access_is b p fails a replied.Accepted None is answers legal = absurd (go a.write is answers)
  where
    go : (write : Option ℕ) → write ≡ None → IsSome write → ⊥
    go None so some = cc
    go (Some v) so some = cc
access_is b p fails a replied.Accepted (Some w) is answers legal = refl
access_is b p fails a _ write is answers legal = absurd answers

-- the reply to any line that is plain
reply_is : (b : Snapshot) (t : Transcript) (line : Line) (reply : Reply) → is_plain line ≡ true → injected_fault_of t ≡ None
    → IsReplyTo b (history b t) (fails_within b t) (Some line) reply → Legal b (history b (exchange line reply ∷ t)) → reply ≡ plain_reply b (history b t) line
reply_is b t (AccessLine a) reply plainly none answers legal = access_is b (history b t) (fails_within b t) a reply a.write refl answers legal
reply_is b t Work reply plainly none answers legal = answers ∙ turn-none b t none
reply_is b t AskLine reply plainly none answers legal = answers ∙ nothing_fails b t ask_reply none
reply_is b t ResetLine reply plainly none answers legal = answers ∙ nothing_fails b t (reset_reply b (history b t)) none
reply_is b t Offer reply plainly none answers legal = cc
reply_is b t (Deliver message) reply plainly none answers legal = cc
reply_is b t GiveUp reply plainly none answers legal = cc
reply_is b t Again reply plainly none answers legal = cc
reply_is b t (Show message) reply plainly none answers legal = cc
reply_is b t (Fail host call) reply plainly none answers legal = cc

-- a history of lines begins with that of the lines before the last
pub legal-before : (b : Snapshot) (line : Option Line) (reply : Reply) (fails : ℕ → Bool) (p : History) → Legal b (with_event line reply fails p) → Legal b p
legal-before b (Some (AccessLine a)) (replied.Value v s) fails p legal = legal.0
legal-before b (Some (AccessLine a)) replied.Accepted fails p legal = legal.0
legal-before b (Some Work) (replied.Claim n) fails p legal = legal.0
legal-before b (Some Work) (replied.Sent n) fails p legal = legal.0
legal-before b (Some Work) (replied.Exec n) fails p legal = legal.0
legal-before b (Some Work) (replied.Done n) fails p legal = legal.0
legal-before b (Some Work) (replied.Cancelled n) fails p legal = legal.0
legal-before b (Some Work) (replied.Lost n) fails p legal = legal.0
legal-before b (Some AskLine) replied.Asked fails p legal = legal.0
legal-before b (Some AskLine) replied.Link fails p legal = legal.0
legal-before b (Some ResetLine) replied.Reset fails p legal = legal.0
legal-before b (Some ResetLine) replied.Link fails p legal = legal.0
legal-before b _ _ fails p legal = legal

the_first : {A : Type 0} (x y : A) (xs ys : List A) → x ∷ xs ≡ y ∷ ys → x ≡ y
the_first x y xs ys same = cc

the_others : {A : Type 0} (x y : A) (xs ys : List A) → x ∷ xs ≡ y ∷ ys → xs ≡ ys
the_others x y xs ys same = cc

-- an exchange by its parts
exchange_is : (x : Exchange) (line : Line) (reply : Reply) → x.line ≡ Some line → x.reply ≡ reply → x ≡ exchange line reply
exchange_is x line reply is replies = ap (λ (l : Option Line). record { line = l; reply = x.reply }) is ∙ ap (exchange line) replies

-- what is known of a run without injected faults
record IsPlain (b : Snapshot) (lines : List Line) (t : Transcript) : Type 0 where
  same : t ≡ plain b lines
  none : injected_fault_of t ≡ None

plain_by : (b : Snapshot) (lines : List Line) (t : Transcript) → ArePlain lines → map line_of t ≡ map Some lines → IsRun b t → IsPlain b lines t
plain_by b [] [] are_plain lines run = record { same = refl; none = refl }
plain_by b [] (x ∷ t) are_plain lines run = cc
plain_by b (line ∷ earlier) [] are_plain lines run = cc
plain_by b (line ∷ earlier) (x ∷ t) are_plain lines run =
    let is : x.line ≡ Some line = the_first x.line (Some line) _ _ lines in
    let before : IsPlain b earlier t = plain_by b earlier t are_plain.0 (the_others x.line (Some line) _ _ lines)
    (record { legal = legal-before b x.line x.reply _ (history b t) run.legal; in_turn = run.in_turn.0 }) in
    let whole : x ≡ exchange line x.reply = exchange_is x line x.reply is refl in
    let replies : x.reply ≡ plain_reply b (history b t) line = reply_is b t line x.reply are_plain.1 before.none
    (subst (λ l. IsReplyTo b (history b t) (fails_within b t) l x.reply) is run.in_turn.1) (subst (λ y. Legal b (history b (y ∷ t))) whole run.legal) in
    record {
      same = ap (λ y. y ∷ t) (exchange_is x line (plain_reply b (history b t) line) is replies) ∙ ap (λ u. exchange line (plain_reply b (history b u) line) ∷ u) before.same;
      none = ap (λ l. injected_fault_after l x.reply (injected_fault_of t)) is ∙ unordered-after line x.reply (injected_fault_of t) are_plain.1 before.none;
    }

pub run-plain : (b : Snapshot) (lines : List Line) (t : Transcript) → ArePlain lines → map line_of t ≡ map Some lines → IsRun b t → t ≡ plain b lines
run-plain b lines t are_plain same run = (plain_by b lines t are_plain same run).same

pub plain-unordered : (b : Snapshot) (lines : List Line) → ArePlain lines → injected_fault_of (plain b lines) ≡ None
plain-unordered b [] are_plain = refl
plain-unordered b (line ∷ earlier) are_plain = unordered-after line (plain_reply b (history b (plain b earlier)) line) (injected_fault_of (plain b earlier)) are_plain.1 (plain-unordered b earlier are_plain.0)

-- ---- each run is the only one over its lines

-- two replies to one line, after the same lines and replies, are one
one-reply : (b : Snapshot) (p : History) (fails : ℕ → Bool) (line : Option Line) (one two : Reply)
    → IsReplyTo b p fails line one → Legal b (with_event line one fails p) → IsReplyTo b p fails line two → Legal b (with_event line two fails p) → one ≡ two
one-reply b p fails None one two x legal y other = absurd x
one-reply b p fails (Some (AccessLine a)) one two x legal y other = access_is b p fails a one a.write refl x legal ∙ sym (access_is b p fails a two a.write refl y other)
one-reply b p fails (Some Work) one two x legal y other = x ∙ sym y
one-reply b p fails (Some AskLine) one two x legal y other = x ∙ sym y
one-reply b p fails (Some ResetLine) one two x legal y other = x ∙ sym y
one-reply b p fails (Some Offer) one two x legal y other = absurd x
one-reply b p fails (Some (Deliver message)) one two x legal y other = absurd x
one-reply b p fails (Some GiveUp) one two x legal y other = absurd x
one-reply b p fails (Some Again) one two x legal y other = absurd x
one-reply b p fails (Some (Show message)) one two x legal y other = absurd x
one-reply b p fails (Some (Fail host call)) one two x legal y other = x ∙ sym y

pub run-alone : (b : Snapshot) (t u : Transcript) → map line_of t ≡ map line_of u → IsRun b t → IsRun b u → t ≡ u
run-alone b [] [] same one two = refl
run-alone b [] (y ∷ u) same one two = cc
run-alone b (x ∷ t) [] same one two = cc
run-alone b (x ∷ t) (y ∷ u) same one two =
    let is : x.line ≡ y.line = the_first x.line y.line _ _ same in
    let before : t ≡ u = run-alone b t u (the_others x.line y.line _ _ same)
    (record { legal = legal-before b x.line x.reply _ (history b t) one.legal; in_turn = one.in_turn.0 })
    (record { legal = legal-before b y.line y.reply _ (history b u) two.legal; in_turn = two.in_turn.0 }) in
    let answers = subst (λ (l : Option Line). IsReplyTo b (history b t) (fails_within b t) l y.reply) (sym is) (subst (λ (v : Transcript). IsReplyTo b (history b v) (fails_within b v) y.line y.reply) (sym before) two.in_turn.1) in
    let legal = subst (λ (l : Option Line). Legal b (with_event l y.reply (fails_within b t) (history b t))) (sym is) (subst (λ (v : Transcript). Legal b (with_event y.line y.reply (fails_within b v) (history b v))) (sym before) two.legal) in
    let replies : x.reply ≡ y.reply = one-reply b (history b t) (fails_within b t) x.line x.reply y.reply one.in_turn.1 one.legal answers legal in
    let parts : x ≡ y = ap (λ (l : Option Line). record { line = l; reply = x.reply }) is ∙ ap (λ (r : Reply). record { line = y.line; reply = r }) replies in
    ap (λ z. z ∷ t) parts ∙ ap (λ v. y ∷ v) before
