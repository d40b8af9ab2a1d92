-- What a step sends, and that one job is sent once.
use Rattle.std.proofs.Common.{◌≡◌, ◌≤◌, ◌+◌, ◌∙◌, ℕ, Bool, true, false, List, [], ◌∷◌, ◌++◌, length, refl, ap, sym, inl, inr, arith}
use Rattle.std.specs.Prelude.{◌⊎◌, if◌then◌else◌, count_by}
use Rattle.std.proofs.lemmas.List.{length-append}
use Rattle.std.proofs.lemmas.List.Sums.{sum_by-cons}
use Rattle.tpm_frame.specs.Frames.{first_frame}
use Rattle.tpm_frame.specs.declared.TheConstants.{HEADER_SIZE}
use Rattle.vt_base.specs.Faults.{IsCounted}
use Rattle.crb_port.specs.Views.{PortView}
use Rattle.crb_port.specs.declared.job.Job.{Job}
use Rattle.crb_worker.specs.declared.progress.Progress.{Progress}
use Rattle.crb_worker.specs.declared.progress.Progress.TheVariants as progress
use Rattle.crb_worker.specs.declared.progress.Step.{Step}
use Rattle.crb_worker.specs.declared.progress.Step.TheVariants.{Idle, Claim, Sent, Exec, Done, Cancelled, Lost}
use Rattle.crb_worker.specs.Wires.{WorkerWires, Receives}
use Rattle.crb_worker.specs.Steps.{WorkerStep, ReceivesNoHead, ReceivesRest, is_longer, left_of}
use Rattle.crb_worker.specs.Runs.{sent_with, SendsThese, Moment, Runs, is_claim, is_sent, ClaimsNoJob, sent_count, commands_of}

-- one more answer that a command was sent
abbrev pub more_sent : Step → ℕ
more_sent step = if is_sent step then 1 else 0

-- what the runs need of one step
pub record OneStep {Schedule : Type 0} (p : Progress) (step : Step) (q : Progress) (w v : WorkerWires Schedule) : Type 0 where
  pub next : is_claim step ≡ false → sent_with q ≡ []
  pub says : more_sent step ≤ length (sent_with p)
  pub sends : SendsThese (sent_with p) w v

-- a header that isn't received, or is none, was waited for by receives
lost_receives : {Schedule : Type 0} (w v : WorkerWires Schedule) → Receives false HEADER_SIZE w v ⊎ ReceivesNoHead w v → (ok : Bool) × (count : ℕ) × Receives ok count w v
lost_receives w v (inl failed) = (false, HEADER_SIZE, failed)
lost_receives w v (inr bad) = (true, HEADER_SIZE, bad.3)

-- to receive the rest sends nothing
rest_sends_nothing : {Schedule : Type 0} (longer : Bool) (count : ℕ) (rest : List ℕ) (w v : WorkerWires Schedule) → ReceivesRest longer count rest w v → SendsThese [] w v
rest_sends_nothing false count rest w v took = inl took.1
rest_sends_nothing true count rest w v took = inr (true, count, took.1)

pub one_step : {Schedule : Type 0} (p : Progress) (step : Step) (q : Progress) (k l : PortView) (w v : WorkerWires Schedule) → WorkerStep p k w step q l v → OneStep p step q w v
one_step progress.Free Idle q k l w v works = rw works.0.1 (record { next = λ _. refl; says = omega arith; sends = inl works.1 })
one_step progress.Free (Claim number) q k l w v works = record { next = λ quiet. absurd cc; says = omega arith; sends = inl works.1 }
one_step progress.Free (Sent number) q k l w v works = absurd works.0
one_step progress.Free (Exec number) q k l w v works = absurd works.0
one_step progress.Free (Done number) q k l w v works = absurd works.0
one_step progress.Free (Cancelled number) q k l w v works = absurd works.0
one_step progress.Free (Lost number) q k l w v works = absurd works.0
one_step (progress.Claimed job) Idle q k l w v works = absurd works
one_step (progress.Claimed job) (Claim number) q k l w v works = absurd works
one_step (progress.Claimed job) (Sent number) q k l w v works = rw (works.0, works.2) (record { next = λ _. refl; says = omega arith; sends = (true, works.4) })
one_step (progress.Claimed job) (Exec number) q k l w v works = absurd works
one_step (progress.Claimed job) (Done number) q k l w v works = absurd works
one_step (progress.Claimed job) (Cancelled number) q k l w v works = rw (works.0, works.2) (record { next = λ _. refl; says = omega arith; sends = inl works.4 })
one_step (progress.Claimed job) (Lost number) q k l w v works = rw (works.0, works.1.free) (record { next = λ _. refl; says = omega arith; sends = (false, works.2) })
one_step (progress.Sent job) Idle q k l w v works = absurd works
one_step (progress.Sent job) (Claim number) q k l w v works = absurd works
one_step (progress.Sent job) (Sent number) q k l w v works = absurd works
one_step (progress.Sent job) (Exec number) q k l w v works = rw works.2 (record { next = λ _. refl; says = omega arith; sends = inr (true, HEADER_SIZE, works.6) })
one_step (progress.Sent job) (Done number) q k l w v works = absurd works
one_step (progress.Sent job) (Cancelled number) q k l w v works = absurd works
one_step (progress.Sent job) (Lost number) q k l w v works = rw works.0.free (record { next = λ _. refl; says = omega arith; sends = inr (lost_receives w v works.1) })
one_step (progress.HeaderReceived job head) Idle q k l w v works = absurd works
one_step (progress.HeaderReceived job head) (Claim number) q k l w v works = absurd works
one_step (progress.HeaderReceived job head) (Sent number) q k l w v works = absurd works
one_step (progress.HeaderReceived job head) (Exec number) q k l w v works = absurd works
one_step (progress.HeaderReceived job head) (Done number) q k l w v works = rw works.2 (record { next = λ _. refl; says = omega arith; sends = rest_sends_nothing (is_longer head) (left_of head) works.4.0 w v works.4.3 })
one_step (progress.HeaderReceived job head) (Cancelled number) q k l w v works = rw works.2 (record { next = λ _. refl; says = omega arith; sends = rest_sends_nothing (is_longer head) (left_of head) works.4.0 w v works.4.3 })
one_step (progress.HeaderReceived job head) (Lost number) q k l w v works = rw works.0.free (record { next = λ _. refl; says = omega arith; sends = inr (false, left_of head, works.2) })

-- one more moment in a count
count_more : (test : Step → Bool) (m : Moment) (moments : List Moment) → count_by (λ m. test m.step) (m ∷ moments) ≡ (if test m.step then 1 else 0) + count_by (λ m. test m.step) moments
count_more test m moments = sum_by-cons (λ (n : Moment). if test n.step then 1 else 0) m moments

none_of : (b : Bool) (n : ℕ) → (if b then 1 else 0) + n ≡ 0 → (b ≡ false) × (n ≡ 0)
none_of true n h = absurd (omega (arith, h))
none_of false n h = (refl, omega (arith, h))

-- a run in which no job is claimed sends at most what its first step sends
pub sent_once : (Schedule : Type 0) (p : Progress) (moments : List Moment) (q : Progress) → Runs Schedule p moments q → ClaimsNoJob moments
    → (sent_count moments ≤ length (sent_with p)) × (length (commands_of moments) ≤ length (sent_with p))
sent_once Schedule p [] q run quiet = (omega arith, omega arith)
sent_once Schedule p (m ∷ moments) q (next, sent, (k, l, w, v, works), more) quiet =
    let one = one_step p m.step next k l w v works in
    let none = none_of (is_claim m.step) (count_by (λ n. is_claim n.step) moments) (sym (count_more is_claim m moments) ∙ quiet) in
    let later = sent_once Schedule next moments q more none.1 in
    let nothing : length (sent_with next) ≡ 0 = ap length (one.next none.0) in
    let all : length (commands_of (m ∷ moments)) ≡ length (sent_with p) + length (commands_of moments) = length-append m.sent (commands_of moments) ∙ ap (λ (s : List (List ℕ)). length s + length (commands_of moments)) sent in
    (omega (arith, count_more is_sent m moments, one.says, later.0, nothing), omega (arith, all, later.1, nothing))

-- a run goes on from where its first part ended
pub run_parts : (Schedule : Type 0) (p : Progress) (first second : List Moment) (q : Progress) → Runs Schedule p (first ++ second) q
    → (middle : Progress) × Runs Schedule p first middle × Runs Schedule middle second q
run_parts Schedule p [] second q run = (p, refl, run)
run_parts Schedule p (m ∷ first) second q (next, sent, steps, more) =
    let rest = run_parts Schedule next first second q more in
    (rest.0, (next, sent, steps, rest.1), rest.2)

-- no progress has more than one command to send
pub one_at_most : (p : Progress) → length (sent_with p) ≤ 1
one_at_most progress.Free = omega arith
one_at_most (progress.Claimed job) = by_mark job.cancelled (first_frame job.buf)
  where
    by_mark : (cancelled : Bool) (command : List ℕ) → length (if cancelled then [] else command ∷ []) ≤ 1
    by_mark true command = omega arith
    by_mark false command = omega arith
one_at_most (progress.Sent job) = omega arith
one_at_most (progress.HeaderReceived job head) = omega arith

nothing_in : (commands : List (List ℕ)) → length commands ≤ 0 → commands ≡ []
nothing_in [] short = refl
nothing_in (command ∷ commands) short = absurd (omega (arith, short))

-- in a run, the steps among which no job is claimed send one command at most
pub job_once : (Schedule : Type 0) (p q : Progress) (before job after : List Moment) → Runs Schedule p (before ++ job ++ after) q → ClaimsNoJob job
    → (sent_count job ≤ 1) × (length (commands_of job) ≤ 1)
job_once Schedule p q before job after run quiet =
    let until = run_parts Schedule p (before ++ job) after q run in
    let here = run_parts Schedule p before job until.0 until.1 in
    let once = sent_once Schedule here.0 job until.0 here.2 quiet in
    let most = one_at_most here.0 in
    (omega (arith, once.0, most), omega (arith, once.1, most))

-- and those after the claim of a cancelled job send none
pub cancelled_never : (Schedule : Type 0) (claimed : Job) (q : Progress) (job after : List Moment) → Runs Schedule (progress.Claimed claimed) (job ++ after) q
    → ClaimsNoJob job → claimed.cancelled ≡ true → (sent_count job ≡ 0) × (commands_of job ≡ [])
cancelled_never Schedule claimed q job after run quiet cancelled =
    let here = run_parts Schedule (progress.Claimed claimed) job after q run in
    let once = sent_once Schedule (progress.Claimed claimed) job here.0 here.1 quiet in
    let nothing : length (sent_with (progress.Claimed claimed)) ≡ 0 = rw cancelled refl in
    (omega (arith, once.0, nothing), nothing_in (commands_of job) (omega (arith, once.1, nothing)))

-- a job is lost where a call failed, or for its header
pub lost_for : {Schedule : Type 0} (p q : Progress) (k l : PortView) (w v : WorkerWires Schedule) (number : ℕ) → WorkerStep p k w (Lost number) q l v → IsCounted w.faults v.faults ⊎ ReceivesNoHead w v
lost_for progress.Free q k l w v number works = absurd works.0
lost_for (progress.Claimed job) q k l w v number works = inl works.2.counts
lost_for (progress.Sent job) q k l w v number works = by_cause works.1
  where
    by_cause : Receives false HEADER_SIZE w v ⊎ ReceivesNoHead w v → IsCounted w.faults v.faults ⊎ ReceivesNoHead w v
    by_cause (inl failed) = inl failed.counts
    by_cause (inr bad) = inr bad
lost_for (progress.HeaderReceived job head) q k l w v number works = inl works.2.counts
