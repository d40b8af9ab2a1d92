-- A command that is under way ends within four steps of the worker.
use Rattle.std.proofs.Common.{◌≡◌, ℕ, ◌+◌, ◌≤◌, Bool, true, false, ◌&&◌, [], ◌∷◌, ◌++◌, ◌⊎◌, inl, inr, refl, ap, sym, subst, ◌∙◌, cond, arith}
use Rattle.std.specs.Prelude.{if◌then◌else◌, Option, Some, None}
use Rattle.crb_regs.specs.Access.{Access}
use Rattle.crb_regs.specs.Registers.{is_executing}
use Rattle.crb_regs.specs.declared.phase.Phase.{Phase}
use Rattle.crb_regs.specs.declared.phase.Phase.TheVariants.{Execution}
use Rattle.crb_machine.specs.Phases.{is_accepted, phase_after}
use Rattle.crb_machine.specs.Steps.{is_start}
use Rattle.vt_script.specs.declared.event.Event.{Event as Line}
use Rattle.vt_script.specs.declared.event.Event.TheVariants.{Access as AccessLine, Work, Ask as AskLine, Reset as ResetLine, Offer, Deliver, GiveUp, Again, Show, Fail}
use Rattle.vt_script.specs.declared.reply.Reply.{Reply}
use Rattle.vt_script.specs.declared.reply.Reply.TheVariants as replied
use Rattle.crb_history.specs.Snapshot.{Snapshot}
use Rattle.crb_history.specs.Event.{History}
use Rattle.crb_history.specs.Event.Event.{Write}
use Rattle.crb_history.specs.Device.{phase_of, is_granted, number_of, latest_number, started, Start, starts, effect_of, stage_of, JobStage}
use Rattle.crb_history.specs.Device.JobStage.{Waiting, Claimed, HasSent, HasHeader}
use Rattle.vt_transcript.specs.Replies.{Transcript, history, injected_fault_of, injected_fault_after, fails_within, is_fault, with_event, worker_reply, worker_reply_at, WorkerReplyInputs, worker_reply_inputs, has_rest, none_fails, IsReplyTo, IsRun}
use Rattle.vt_transcript.specs.Endings.{lets_go_on, LetGoOn, steps_of, step_count, HasEnd}
use Rattle.crb_history.proofs.Phases.{phase_after-Execution, no_start-Execution}
use Rattle.vt_transcript.proofs.WithoutFault.{still_none, turn-none, legal-before}

-- how many steps end the command at most
abbrev left : JobStage → ℕ
left Waiting = 4
left Claimed = 3
left HasSent = 2
left HasHeader = 1

left-most : (stage : JobStage) → left stage ≤ 4
left-most Waiting = omega arith
left-most Claimed = omega arith
left-most HasSent = omega arith
left-most HasHeader = omega arith

left-least : (stage : JobStage) → 1 ≤ left stage
left-least Waiting = omega arith
left-least Claimed = omega arith
left-least HasSent = omega arith
left-least HasHeader = omega arith

at_first : (n : ℕ) → n ≤ 4 → 0 + n ≤ 4
at_first n within_limit = omega arith

none_more : (steps n : ℕ) → steps + n ≤ 4 → steps + 0 + n ≤ 4
none_more steps n within_limit = omega arith

-- the command of this number is under way, after so many steps
record GoesOn (b : Snapshot) (p : History) (injected_fault : Option ℕ) (number steps : ℕ) : Type 0 where
  executing : phase_of b p ≡ Execution
  same : number_of b p ≡ number
  unordered : injected_fault ≡ None
  within_limit : steps + left (stage_of b p) ≤ 4

-- a write neither ends it nor starts another one
written : (b : Snapshot) (p : History) (a : Access) (number steps : ℕ) → GoesOn b p None number steps → GoesOn b (Write a ∷ p) None number steps
written b p a number steps g = record {
  executing = ap (phase_after (effect_of a) (is_granted b p)) g.executing ∙ phase_after-Execution (effect_of a) (is_granted b p);
  same = no_other (starts b p a) unstarted _ ∙ g.same;
  unordered = refl;
  within_limit = no_sooner (starts b p a) unstarted g.within_limit;
}
  where
    unstarted : starts b p a ≡ false
    unstarted = ap (λ (phase : Phase). is_start (effect_of a) && is_accepted (effect_of a) (is_granted b p) phase) g.executing ∙ no_start-Execution (effect_of a) (is_granted b p)

    no_other : (begins : Bool) → begins ≡ false → (other : Start) → latest_number b.device.number (if begins then other ∷ started b p else started b p) ≡ number_of b p
    no_other false is other = refl
    no_other true is other = cc

    no_sooner : (begins : Bool) → begins ≡ false → steps + left (stage_of b p) ≤ 4 → steps + left (if begins then Waiting else stage_of b p) ≤ 4
    no_sooner false is within_limit = within_limit
    no_sooner true is within_limit = cc

-- what one more line leads to: the end of the command, or one step less that is left
abbrev Leads : Snapshot → History → Option ℕ → ℕ → ℕ → Option Line → Reply → (ℕ → Bool) → Type 0
Leads b p injected_fault number steps line reply fails =
    ((reply ≡ replied.Done number) ⊎ (reply ≡ replied.Cancelled number))
    ⊎ GoesOn b (with_event line reply fails p) (injected_fault_after line reply injected_fault) number (steps + steps_of line)

-- a step of the worker
stepped : (b : Snapshot) (p : History) (injected_fault : Option ℕ) (number steps : ℕ) (fails : ℕ → Bool) (stage : JobStage) (x : WorkerReplyInputs)
    → GoesOn b p injected_fault number steps → stage_of b p ≡ stage → x.number ≡ number → Leads b p injected_fault number steps (Some Work) (worker_reply_at stage x none_fails) fails
stepped b p injected_fault number steps fails Waiting x g is named =
    inr (record { executing = g.executing; same = g.same; unordered = still_none injected_fault false g.unordered; within_limit = let within_limit = rw is at g.within_limit in omega arith })
stepped b p injected_fault number steps fails Claimed x g is named = go x.held
  where
    go : (held : Bool) → Leads b p injected_fault number steps (Some Work) (if held then replied.Cancelled x.number else (if false then replied.Lost x.number else replied.Sent x.number)) fails
    go true = inl (inr (ap replied.Cancelled named))
    go false = inr (record { executing = g.executing; same = g.same; unordered = still_none injected_fault false g.unordered; within_limit = let within_limit = rw is at g.within_limit in omega arith })
stepped b p injected_fault number steps fails HasSent x g is named =
    inr (record { executing = g.executing; same = g.same; unordered = still_none injected_fault false g.unordered; within_limit = let within_limit = rw is at g.within_limit in omega arith })
stepped b p injected_fault number steps fails HasHeader x g is named = go x.in_time (has_rest x.size)
  where
    go : (in_time rest : Bool) → Leads b p injected_fault number steps (Some Work) (if in_time then replied.Cancelled x.number else (if rest && false then replied.Lost x.number else replied.Done x.number)) fails
    go true rest = inl (inr (ap replied.Cancelled named))
    go false true = inl (inl (ap replied.Done named))
    go false false = inl (inl (ap replied.Done named))

-- any line that lets the command go on
leads : (b : Snapshot) (t : Transcript) (number steps : ℕ) (line : Option Line) (reply : Reply) → lets_go_on line ≡ true → GoesOn b (history b t) (injected_fault_of t) number steps
    → IsReplyTo b (history b t) (fails_within b t) line reply → Leads b (history b t) (injected_fault_of t) number steps line reply (fails_within b t)
leads b t number steps (Some (AccessLine a)) (replied.Value v s) goes g answers =
    inr (record { executing = g.executing; same = g.same; unordered = g.unordered; within_limit = none_more steps (left (stage_of b (history b t))) g.within_limit })
leads b t number steps (Some (AccessLine a)) replied.Accepted goes g answers =
    let w = written b (history b t) a number steps (record { executing = g.executing; same = g.same; unordered = refl; within_limit = g.within_limit }) in
    inr (record { executing = w.executing; same = w.same; unordered = g.unordered; within_limit = none_more steps (left (stage_of b (Write a ∷ history b t))) w.within_limit })
leads b t number steps (Some (AccessLine a)) _ goes g answers = absurd answers
leads b t number steps (Some Work) reply goes g answers =
    let due : worker_reply b (history b t) none_fails ≡ worker_reply_at (stage_of b (history b t)) (worker_reply_inputs b (history b t)) none_fails =
    ap (λ (phase : Phase). cond (is_executing phase) (worker_reply_at (stage_of b (history b t)) (worker_reply_inputs b (history b t)) none_fails) replied.Idle) g.executing in
    subst (λ (r : Reply). Leads b (history b t) (injected_fault_of t) number steps (Some Work) r (fails_within b t)) (sym (answers ∙ turn-none b t g.unordered ∙ due))
    (stepped b (history b t) (injected_fault_of t) number steps (fails_within b t) (stage_of b (history b t)) (worker_reply_inputs b (history b t)) g refl g.same)
leads b t number steps (Some AskLine) reply goes g answers = go reply answers
  where
    go : (r : Reply) → IsReplyTo b (history b t) (fails_within b t) (Some AskLine) r → Leads b (history b t) (injected_fault_of t) number steps (Some AskLine) r (fails_within b t)
    go replied.Asked is = inr (record { executing = g.executing; same = g.same; unordered = still_none (injected_fault_of t) false g.unordered; within_limit = none_more steps (left (stage_of b (history b t))) g.within_limit })
    go replied.Link is = inr (record { executing = g.executing; same = g.same; unordered = still_none (injected_fault_of t) true g.unordered; within_limit = none_more steps (left (stage_of b (history b t))) g.within_limit })
    go r is = inr (record { executing = g.executing; same = g.same; unordered = still_none (injected_fault_of t) (is_fault r) g.unordered; within_limit = none_more steps (left (stage_of b (history b t))) g.within_limit })
leads b t number steps (Some ResetLine) reply goes g answers = cc
leads b t number steps (Some Offer) reply goes g answers = cc
leads b t number steps (Some (Deliver message)) reply goes g answers = cc
leads b t number steps (Some GiveUp) reply goes g answers = cc
leads b t number steps (Some Again) reply goes g answers = cc
leads b t number steps (Some (Show message)) reply goes g answers = cc
leads b t number steps (Some (Fail host call)) reply goes g answers = cc
leads b t number steps None reply goes g answers = cc

module _ (b : Snapshot) (t : Transcript) (executing : phase_of b (history b t) ≡ Execution) (none : injected_fault_of t ≡ None) where
  abbrev number : ℕ
  number = number_of b (history b t)

  ended_or : (more : Transcript) → IsRun b (more ++ t) → LetGoOn more → HasEnd number more ⊎ GoesOn b (history b (more ++ t)) (injected_fault_of (more ++ t)) number (step_count more)
  ended_or [] run goes = inr (record { executing = executing; same = refl; unordered = none; within_limit = at_first (left (stage_of b (history b t))) (left-most (stage_of b (history b t))) })
  ended_or (x ∷ more) run goes =
      go (ended_or more (record { legal = legal-before b x.line x.reply (fails_within b (more ++ t)) (history b (more ++ t)) run.legal; in_turn = run.in_turn.0 }) goes.0)
    where
      last : ((x.reply ≡ replied.Done number) ⊎ (x.reply ≡ replied.Cancelled number)) ⊎ GoesOn b (history b (x ∷ more ++ t)) (injected_fault_of (x ∷ more ++ t)) number (step_count (x ∷ more))
          → HasEnd number (x ∷ more) ⊎ GoesOn b (history b (x ∷ more ++ t)) (injected_fault_of (x ∷ more ++ t)) number (step_count (x ∷ more))
      last (inl end) = inl (inr end)
      last (inr on) = inr on

      go : HasEnd number more ⊎ GoesOn b (history b (more ++ t)) (injected_fault_of (more ++ t)) number (step_count more)
          → HasEnd number (x ∷ more) ⊎ GoesOn b (history b (x ∷ more ++ t)) (injected_fault_of (x ∷ more ++ t)) number (step_count (x ∷ more))
      go (inl end) = inl (inl end)
      go (inr on) = last (leads b (more ++ t) number (step_count more) x.line x.reply goes.1 on run.in_turn.1)

  pub command-ends : (more : Transcript) → IsRun b (more ++ t) → LetGoOn more → 4 ≤ step_count more → HasEnd number more
  command-ends more run goes enough = go (ended_or more run goes)
    where
      go : HasEnd number more ⊎ GoesOn b (history b (more ++ t)) (injected_fault_of (more ++ t)) number (step_count more) → HasEnd number more
      go (inl end) = end
      go (inr on) = absurd (omega (arith, on.within_limit, left-least (stage_of b (history b (more ++ t)))))
