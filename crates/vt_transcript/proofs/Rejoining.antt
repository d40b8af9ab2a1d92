-- A run that goes on from the values at the end of another one is one run with it.
use Rattle.std.proofs.Common.{◌≡◌, ℕ, ◌+◌, Bool, true, false, not, ◌&&◌, List, [], ◌∷◌, ◌++◌, length, refl, ap, sym, subst, ◌∙◌, cond, inl, inr, ◌⊎◌, Some, None}
use Rattle.std.specs.Prelude.{Option}
use Rattle.crb_regs.specs.Registers.{is_executing, is_lost}
use Rattle.crb_regs.specs.declared.phase.Phase.{Phase}
use Rattle.crb_regs.specs.declared.phase.Phase.TheVariants.{Execution}
use Rattle.tpm_core.specs.Answers.{Entry, answer}
use Rattle.vt_script.specs.declared.event.Event.{Event as Line}
use Rattle.vt_script.specs.declared.event.Event.TheVariants.{Access as AccessLine, Work, Ask as AskLine, Reset as ResetLine, Offer, Deliver, GiveUp, Again, Show, Fail}
use Rattle.vt_script.specs.declared.reply.Reply.{Reply}
use Rattle.vt_script.specs.declared.reply.Reply.TheVariants as replied
use Rattle.crb_history.specs.Snapshot.{Snapshot}
use Rattle.crb_history.specs.Event.{History}
use Rattle.crb_history.specs.Device.{phase_of, stage_of, executed, last_command, number_of}
use Rattle.crb_history.specs.Cancelling.{is_waiting, cancelled_before_claim, cancelled_in_emulator}
use Rattle.crb_history.specs.Legal.{Legal}
use Rattle.crb_history.specs.Continued.{snapshot_after, MaySuspend}
use Rattle.vt_transcript.specs.Replies.{Transcript, history, injected_fault_of, injected_fault_after, call_count, count_after, calls_of, reaches, fails_within, is_fault, with_event, response_length, WorkerReplyInputs, worker_reply_inputs, worker_reply, worker_reply_at, is_under_way, reset_reply, IsReplyTo, RepliesAreExpected, IsRun}
use Rattle.crb_history.proofs.Continuing.{Joins, Agrees, phase_is, cond_same, agrees, continues}
use Rattle.vt_transcript.proofs.WithoutFault.{still_none, legal-before}

-- ---- the reply that is due is the same

executing_is : (phase : Phase) → is_executing phase ≡ true → phase ≡ Execution
executing_is Execution is = refl
executing_is _ is = cc

and_same : (e f x y : Bool) → f ≡ e → (e ≡ true → x ≡ y) → (e && x) ≡ (f && y)
and_same true f x y same so = rw same (so refl)
and_same false f x y same so = rw same refl

response-same : (b : Snapshot) (p : History) (sooner : List Entry) (c : Snapshot) (q : History) → Joins b sooner c → Agrees b p sooner c q → phase_of b p ≡ Execution → response_length b p ≡ response_length c q
response-same b p sooner c q joins g is =
    ap (λ past. length (answer b.tpm past (last_command b p))) g.past ∙ ap length (joins (executed c q) (last_command b p)) ∙ ap (λ x. length (answer c.tpm (executed c q) x)) (g.command is)

abbrev turning : Bool → Bool → ℕ → ℕ → WorkerReplyInputs
turning held in_time number size = record { held = held; in_time = in_time; number = number; size = size }

turning-parts : (h h' i i' : Bool) (n n' s s' : ℕ) → h ≡ h' → i ≡ i' → n ≡ n' → s ≡ s' → turning h i n s ≡ turning h' i' n' s'
turning-parts h h' i i' n n' s s' held in_time number size = rw (held, in_time, number, size) refl

turn-same : (b : Snapshot) (p : History) (sooner : List Entry) (c : Snapshot) (q : History) (fails : ℕ → Bool) → Joins b sooner c → Agrees b p sooner c q → worker_reply b p fails ≡ worker_reply c q fails
turn-same b p sooner c q fails joins g =
    cond_same (is_executing (phase_of b p)) (is_executing (phase_of c q)) (worker_reply_at (stage_of b p) (worker_reply_inputs b p) fails) replied.Idle (worker_reply_at (stage_of c q) (worker_reply_inputs c q) fails) replied.Idle
    (ap is_executing (sym (phase_is b p c q g.registers)))
    (λ yes.
    let is : phase_of b p ≡ Execution = executing_is (phase_of b p) yes in
    let parts : worker_reply_inputs b p ≡ worker_reply_inputs c q = turning-parts (cancelled_before_claim b p) (cancelled_before_claim c q) (cancelled_in_emulator b p) (cancelled_in_emulator c q) (number_of b p) (number_of c q) (response_length b p) (response_length c q)
    (g.held is) (g.in_time is) g.number (response-same b p sooner c q joins g is) in
    ap (λ s. worker_reply_at s (worker_reply_inputs b p) fails) (g.stage is) ∙ ap (λ x. worker_reply_at (stage_of c q) x fails) parts)
    (λ no. refl)

under_way-same : (b : Snapshot) (p : History) (sooner : List Entry) (c : Snapshot) (q : History) → Agrees b p sooner c q → is_under_way b p ≡ is_under_way c q
under_way-same b p sooner c q g =
    and_same (is_executing (phase_of b p)) (is_executing (phase_of c q)) (not (is_waiting (stage_of b p))) (not (is_waiting (stage_of c q)))
    (ap is_executing (sym (phase_is b p c q g.registers)))
    (λ yes. ap (λ s. not (is_waiting s)) (g.stage (executing_is (phase_of b p) yes)))

reset-same : (b : Snapshot) (p : History) (sooner : List Entry) (c : Snapshot) (q : History) (fails : ℕ → Bool) → Agrees b p sooner c q → reset_reply b p fails ≡ reset_reply c q fails
reset-same b p sooner c q fails g =
    ap (λ (phase : Phase). cond (is_lost phase) replied.FailedDevice (cond (is_under_way b p) replied.NotYet (cond (fails 2) replied.Link replied.Reset))) (phase_is b p c q g.registers)
    ∙ ap (λ (u : Bool). cond (is_lost (phase_of c q)) replied.FailedDevice (cond u replied.NotYet (cond (fails 2) replied.Link replied.Reset))) (under_way-same b p sooner c q g)

answers-same : (b : Snapshot) (p : History) (sooner : List Entry) (c : Snapshot) (q : History) (fails : ℕ → Bool) (line : Option Line) (reply : Reply) → Joins b sooner c → Agrees b p sooner c q → IsReplyTo c q fails line reply → IsReplyTo b p fails line reply
answers-same b p sooner c q fails (Some (AccessLine a)) (replied.Value v s) joins g answers = answers
answers-same b p sooner c q fails (Some (AccessLine a)) replied.Accepted joins g answers = answers
answers-same b p sooner c q fails (Some (AccessLine a)) _ joins g answers = absurd answers
answers-same b p sooner c q fails (Some Work) reply joins g answers = answers ∙ sym (turn-same b p sooner c q fails joins g)
answers-same b p sooner c q fails (Some AskLine) reply joins g answers = answers
answers-same b p sooner c q fails (Some ResetLine) reply joins g answers = answers ∙ sym (reset-same b p sooner c q fails g)
answers-same b p sooner c q fails (Some Offer) reply joins g answers = answers
answers-same b p sooner c q fails (Some (Deliver message)) reply joins g answers = answers
answers-same b p sooner c q fails (Some GiveUp) reply joins g answers = answers
answers-same b p sooner c q fails (Some Again) reply joins g answers = answers
answers-same b p sooner c q fails (Some (Show message)) reply joins g answers = answers
answers-same b p sooner c q fails (Some (Fail host call)) reply joins g answers = answers
answers-same b p sooner c q fails None reply joins g answers = answers

-- ---- what happened, and the calls

event-joins : (line : Option Line) (reply : Reply) (fails : ℕ → Bool) (q h : History) → with_event line reply fails (q ++ h) ≡ with_event line reply fails q ++ h
event-joins (Some (AccessLine a)) (replied.Value v s) fails q h = refl
event-joins (Some (AccessLine a)) replied.Accepted fails q h = refl
event-joins (Some Work) (replied.Claim n) fails q h = refl
event-joins (Some Work) (replied.Sent n) fails q h = refl
event-joins (Some Work) (replied.Exec n) fails q h = refl
event-joins (Some Work) (replied.Done n) fails q h = refl
event-joins (Some Work) (replied.Cancelled n) fails q h = refl
event-joins (Some Work) (replied.Lost n) fails q h = refl
event-joins (Some AskLine) replied.Asked fails q h = refl
event-joins (Some AskLine) replied.Link fails q h = refl
event-joins (Some ResetLine) replied.Reset fails q h = refl
event-joins (Some ResetLine) replied.Link fails q h = refl
event-joins _ _ fails q h = refl

ask_calls : (reply : Reply) (size other : ℕ) → calls_of (Some AskLine) reply size ≡ calls_of (Some AskLine) reply other
ask_calls replied.Asked size other = refl
ask_calls _ size other = refl

reset_calls : (reply : Reply) (size other : ℕ) → calls_of (Some ResetLine) reply size ≡ calls_of (Some ResetLine) reply other
reset_calls replied.Reset size other = refl
reset_calls _ size other = refl

calls-same : (b : Snapshot) (p : History) (sooner : List Entry) (c : Snapshot) (q : History) (fails : ℕ → Bool) (line : Option Line) (reply : Reply) → Joins b sooner c → Agrees b p sooner c q → IsReplyTo c q fails line reply
    → calls_of line reply (response_length b p) ≡ calls_of line reply (response_length c q)
calls-same b p sooner c q fails (Some Work) (replied.Done n) joins g answers = go (is_executing (phase_of c q)) refl answers
  where
    go : (executing : Bool) → is_executing (phase_of c q) ≡ executing → replied.Done n ≡ cond executing (worker_reply_at (stage_of c q) (worker_reply_inputs c q) fails) replied.Idle
        → calls_of (Some Work) (replied.Done n) (response_length b p) ≡ calls_of (Some Work) (replied.Done n) (response_length c q)
    go true here is = ap (calls_of (Some Work) (replied.Done n)) (response-same b p sooner c q joins g (phase_is b p c q g.registers ∙ executing_is (phase_of c q) here))
    go false still is = cc
calls-same b p sooner c q fails (Some Work) _ joins g answers = refl
calls-same b p sooner c q fails (Some AskLine) reply joins g answers = ask_calls reply (response_length b p) (response_length c q)
calls-same b p sooner c q fails (Some ResetLine) reply joins g answers = reset_calls reply (response_length b p) (response_length c q)
calls-same b p sooner c q fails (Some (AccessLine a)) reply joins g answers = refl
calls-same b p sooner c q fails (Some Offer) reply joins g answers = refl
calls-same b p sooner c q fails (Some (Deliver message)) reply joins g answers = refl
calls-same b p sooner c q fails (Some GiveUp) reply joins g answers = refl
calls-same b p sooner c q fails (Some Again) reply joins g answers = refl
calls-same b p sooner c q fails (Some (Show message)) reply joins g answers = refl
calls-same b p sooner c q fails (Some (Fail host call)) reply joins g answers = refl
calls-same b p sooner c q fails None reply joins g answers = refl

-- the counts are the same, or no fault is to be injected
count-more : (line : Option Line) (reply : Reply) (injected_fault : Option ℕ) (size other n m : ℕ) → calls_of line reply size ≡ calls_of line reply other → (injected_fault ≡ None) ⊎ (n ≡ m)
    → (injected_fault_after line reply injected_fault ≡ None) ⊎ (count_after line reply size n ≡ count_after line reply other m)
count-more (Some Offer) reply injected_fault size other n m calls (inl none) = inl (still_none injected_fault (is_fault reply) none)
count-more (Some Offer) reply injected_fault size other n m calls (inr same) = inr (rw (same, calls) refl)
count-more (Some (Deliver message)) reply injected_fault size other n m calls (inl none) = inl (still_none injected_fault (is_fault reply) none)
count-more (Some (Deliver message)) reply injected_fault size other n m calls (inr same) = inr (rw (same, calls) refl)
count-more (Some GiveUp) reply injected_fault size other n m calls (inl none) = inl (still_none injected_fault (is_fault reply) none)
count-more (Some GiveUp) reply injected_fault size other n m calls (inr same) = inr (rw (same, calls) refl)
count-more (Some Again) reply injected_fault size other n m calls (inl none) = inl (still_none injected_fault (is_fault reply) none)
count-more (Some Again) reply injected_fault size other n m calls (inr same) = inr (rw (same, calls) refl)
count-more (Some (Show message)) reply injected_fault size other n m calls (inl none) = inl (still_none injected_fault (is_fault reply) none)
count-more (Some (Show message)) reply injected_fault size other n m calls (inr same) = inr (rw (same, calls) refl)
count-more (Some (Fail host call)) reply injected_fault size other n m calls same = inr refl
count-more (Some (AccessLine a)) reply injected_fault size other n m calls (inl none) = inl (still_none injected_fault (is_fault reply) none)
count-more (Some (AccessLine a)) reply injected_fault size other n m calls (inr same) = inr (rw (same, calls) refl)
count-more (Some Work) reply injected_fault size other n m calls (inl none) = inl (still_none injected_fault (is_fault reply) none)
count-more (Some Work) reply injected_fault size other n m calls (inr same) = inr (rw (same, calls) refl)
count-more (Some AskLine) reply injected_fault size other n m calls (inl none) = inl (still_none injected_fault (is_fault reply) none)
count-more (Some AskLine) reply injected_fault size other n m calls (inr same) = inr (rw (same, calls) refl)
count-more (Some ResetLine) reply injected_fault size other n m calls (inl none) = inl (still_none injected_fault (is_fault reply) none)
count-more (Some ResetLine) reply injected_fault size other n m calls (inr same) = inr (rw (same, calls) refl)
count-more None reply injected_fault size other n m calls (inl none) = inl (still_none injected_fault (is_fault reply) none)
count-more None reply injected_fault size other n m calls (inr same) = inr (rw (same, calls) refl)

-- which calls fail is the same
fails-same : {A : Type 0} (f : (ℕ → Bool) → A) (injected_fault other : Option ℕ) (n m : ℕ) → injected_fault ≡ other → (other ≡ None) ⊎ (n ≡ m) → f (λ calls. reaches injected_fault (n + calls)) ≡ f (λ calls. reaches other (m + calls))
fails-same f injected_fault other n m same (inl none) =
    ap (λ (o : Option ℕ). f (λ calls. reaches o (n + calls))) (same ∙ none) ∙ sym (ap (λ (o : Option ℕ). f (λ calls. reaches o (m + calls))) none)
fails-same f injected_fault other n m same (inr count) =
    ap (λ (o : Option ℕ). f (λ calls. reaches o (n + calls))) same ∙ ap (λ (k : ℕ). f (λ calls. reaches other (k + calls))) count

answers-with : (b : Snapshot) (p : History) (line : Option Line) (reply : Reply) (injected_fault other : Option ℕ) (n m : ℕ) → injected_fault ≡ other → (other ≡ None) ⊎ (n ≡ m)
    → IsReplyTo b p (λ calls. reaches other (m + calls)) line reply → IsReplyTo b p (λ calls. reaches injected_fault (n + calls)) line reply
answers-with b p line reply injected_fault other n m same (inl none) answers =
    subst (λ (o : Option ℕ). IsReplyTo b p (λ calls. reaches o (n + calls)) line reply) (sym (same ∙ none)) (subst (λ (o : Option ℕ). IsReplyTo b p (λ calls. reaches o (m + calls)) line reply) none answers)
answers-with b p line reply injected_fault other n m same (inr count) answers =
    subst (λ (o : Option ℕ). IsReplyTo b p (λ calls. reaches o (n + calls)) line reply) (sym same) (subst (λ (k : ℕ). IsReplyTo b p (λ calls. reaches other (k + calls)) line reply) (sym count) answers)

-- ---- the whole

record Rejoins (b : Snapshot) (t : Transcript) (c : Snapshot) (more : Transcript) : Type 0 where
  same : history b (more ++ t) ≡ history c more ++ history b t
  injected_fault : injected_fault_of (more ++ t) ≡ injected_fault_of more
  count : (injected_fault_of more ≡ None) ⊎ (call_count b (more ++ t) ≡ call_count c more)
  in_turn : RepliesAreExpected b (more ++ t)

module _ (b : Snapshot) (t : Transcript) (joins : Joins b (executed b (history b t)) (snapshot_after b (history b t))) (run : IsRun b t) (may : MaySuspend b (history b t)) (none : injected_fault_of t ≡ None) where
  abbrev after : Snapshot
  after = snapshot_after b (history b t)

  rejoins : (more : Transcript) → IsRun after more → Rejoins b t after more
  rejoins [] goes = record { same = refl; injected_fault = none; count = inl refl; in_turn = run.in_turn }
  rejoins (x ∷ more) goes =
      let before : IsRun after more = record { legal = legal-before after x.line x.reply (fails_within after more) (history after more) goes.legal; in_turn = goes.in_turn.0 } in
      let r : Rejoins b t after more = rejoins more before in
      let g : Agrees b (history b (more ++ t)) (executed b (history b t)) after (history after more) =
      subst (λ (p : History). Agrees b p (executed b (history b t)) after (history after more)) (sym r.same) (agrees b (history b t) (history after more) joins may before.legal) in
      let answers : IsReplyTo b (history b (more ++ t)) (fails_within after more) x.line x.reply =
      answers-same b (history b (more ++ t)) (executed b (history b t)) after (history after more) (fails_within after more) x.line x.reply joins g goes.in_turn.1 in
      record {
        same = fails-same (λ f. with_event x.line x.reply f (history b (more ++ t))) (injected_fault_of (more ++ t)) (injected_fault_of more) (call_count b (more ++ t)) (call_count after more) r.injected_fault r.count
            ∙ ap (with_event x.line x.reply (fails_within after more)) r.same ∙ event-joins x.line x.reply (fails_within after more) (history after more) (history b t);
        injected_fault = ap (injected_fault_after x.line x.reply) r.injected_fault;
        count = count-more x.line x.reply (injected_fault_of more) (response_length b (history b (more ++ t))) (response_length after (history after more)) (call_count b (more ++ t)) (call_count after more)
            (calls-same b (history b (more ++ t)) (executed b (history b t)) after (history after more) (fails_within after more) x.line x.reply joins g goes.in_turn.1) r.count;
        in_turn = (r.in_turn, answers-with b (history b (more ++ t)) x.line x.reply (injected_fault_of (more ++ t)) (injected_fault_of more) (call_count b (more ++ t)) (call_count after more) r.injected_fault r.count answers);
      }

  pub one-run : (more : Transcript) → IsRun after more → IsRun b (more ++ t)
  one-run more goes =
      let r : Rejoins b t after more = rejoins more goes in
      record { legal = subst (Legal b) (sym r.same) (continues b (history b t) (history after more) joins run.legal may goes.legal); in_turn = r.in_turn }
