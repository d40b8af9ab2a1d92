-- The replies to lines of the guest are those that one host gives.
use Rattle.std.proofs.Common.{ℕ, Bool, ◌&&◌, Some, sym, subst}
use Rattle.std.proofs.lemmas.Bool.{cond_both}
use Rattle.crb_regs.specs.Registers.{is_executing, is_lost}
use Rattle.vt_script.specs.declared.event.Event.{Event}
use Rattle.vt_script.specs.declared.event.Event.TheVariants as line
use Rattle.vt_script.specs.declared.reply.Reply.{Reply}
use Rattle.vt_script.specs.declared.reply.Reply.TheVariants as reply
use Rattle.crb_history.specs.Snapshot.{Snapshot}
use Rattle.crb_history.specs.Event.{History}
use Rattle.crb_history.specs.Device.{phase_of, stage_of, JobStage}
use Rattle.crb_history.specs.Device.JobStage.{Waiting, Claimed, HasSent, HasHeader}
use Rattle.vt_transcript.specs.Replies.{IsReplyTo, WorkerReplyInputs, worker_reply, worker_reply_at, worker_reply_inputs, has_rest, is_under_way, reset_reply}

-- a reply of a device over a TPM
abbrev pub IsOfDevice : Reply → Type 0
IsOfDevice (reply.Value value size) = Unit {0}
IsOfDevice reply.Accepted = Unit {0}
IsOfDevice reply.Idle = Unit {0}
IsOfDevice (reply.Claim number) = Unit {0}
IsOfDevice (reply.Sent number) = Unit {0}
IsOfDevice (reply.Exec number) = Unit {0}
IsOfDevice (reply.Done number) = Unit {0}
IsOfDevice (reply.Cancelled number) = Unit {0}
IsOfDevice (reply.Lost number) = Unit {0}
IsOfDevice reply.Link = Unit {0}
IsOfDevice reply.Asked = Unit {0}
IsOfDevice reply.FailedDevice = Unit {0}
IsOfDevice reply.NotYet = Unit {0}
IsOfDevice reply.Reset = Unit {0}
IsOfDevice _ = ⊥

pub turned_at : (s : JobStage) (x : WorkerReplyInputs) (fails : ℕ → Bool) → IsOfDevice (worker_reply_at s x fails)
turned_at Waiting x fails = tt
turned_at Claimed x fails = cond_both x.held (reply.Cancelled x.number) _ IsOfDevice (λ yes. tt) (λ no. cond_both (fails 1) (reply.Lost x.number) (reply.Sent x.number) IsOfDevice (λ yes. tt) (λ no. tt))
turned_at HasSent x fails = cond_both (fails 1) (reply.Lost x.number) (reply.Exec x.number) IsOfDevice (λ yes. tt) (λ no. tt)
turned_at HasHeader x fails = cond_both x.in_time (reply.Cancelled x.number) _ IsOfDevice (λ yes. tt) (λ no. cond_both (has_rest x.size && fails 1) (reply.Lost x.number) (reply.Done x.number) IsOfDevice (λ yes. tt) (λ no. tt))

turned : (b : Snapshot) (p : History) (fails : ℕ → Bool) → IsOfDevice (worker_reply b p fails)
turned b p fails = cond_both (is_executing (phase_of b p)) (worker_reply_at (stage_of b p) (worker_reply_inputs b p) fails) reply.Idle IsOfDevice (λ yes. turned_at (stage_of b p) (worker_reply_inputs b p) fails) (λ no. tt)

was_reset : (b : Snapshot) (p : History) (fails : ℕ → Bool) → IsOfDevice (reset_reply b p fails)
was_reset b p fails = cond_both (is_lost (phase_of b p)) reply.FailedDevice _ IsOfDevice (λ yes. tt) (λ no. cond_both (is_under_way b p) reply.NotYet _ IsOfDevice (λ yes. tt) (λ no. cond_both (fails 2) reply.Link reply.Reset IsOfDevice (λ yes. tt) (λ no. tt)))

pub replies_of_device : (b : Snapshot) (p : History) (fails : ℕ → Bool) (e : Event) (q : Reply) → IsReplyTo b p fails (Some e) q → IsOfDevice q
replies_of_device b p fails (line.Access a) (reply.Value value size) is = tt
replies_of_device b p fails (line.Access a) reply.Accepted is = tt
replies_of_device b p fails (line.Access a) _ is = absurd is
replies_of_device b p fails line.Work q is = subst IsOfDevice (sym is) (turned b p fails)
replies_of_device b p fails line.Ask q is = subst IsOfDevice (sym is) (cond_both (fails 2) reply.Link reply.Asked IsOfDevice (λ yes. tt) (λ no. tt))
replies_of_device b p fails line.Reset q is = subst IsOfDevice (sym is) (was_reset b p fails)
replies_of_device b p fails (line.Fail host call) q is = subst IsOfDevice (sym is) tt
replies_of_device b p fails line.Offer q is = absurd is
replies_of_device b p fails (line.Deliver k) q is = absurd is
replies_of_device b p fails line.GiveUp q is = absurd is
replies_of_device b p fails line.Again q is = absurd is
replies_of_device b p fails (line.Show k) q is = absurd is
