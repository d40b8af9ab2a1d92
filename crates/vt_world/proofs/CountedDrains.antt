-- A step of the worker of a host that drains counts a fault of the wires where its reply names one.
use Rattle.std.proofs.Common.{◌≡◌, ℕ, ◌+◌, Bool, true, false, refl, sym, ap, subst, ◌∙◌, ◌⊎◌, inl, inr, Some, None, Ok, Err}
use Rattle.std.specs.Prelude.{Option, Result, if◌then◌else◌, ◌==◌, ◌-◌, ◌^◌}
use Rattle.crb_regs.specs.Registers.{is_lost}
use Rattle.crb_history.specs.Snapshot.{Snapshot}
use Rattle.crb_history.specs.Device.{phase_of, number_of}
use Rattle.vt_transcript.specs.Replies.{is_fault, is_under_way, worker_reply}
use Rattle.vt_base.specs.declared.types.HostName.{HostName}
use Rattle.vt_script.specs.declared.event.Event.TheVariants as event
use Rattle.two_hosts.specs.Hosts.{TwoHosts, host_of, fails_at, next_number, guest_line_on}
use Rattle.two_hosts.specs.Replies.{offer_reply}
use Rattle.two_hosts.proofs.InvariantKept.{EndsCommand, step_ends}
use Rattle.two_seats.proofs.Draining.{stepped_hosts, StepEnds, step_ends_so}
use Rattle.two_seats.proofs.Draining.StepEnds.{goes_on, ends, is_lost_now}
use Rattle.ctrl_client.specs.declared.fault.ClientFault.{ClientFault}
use Rattle.ctrl_client.specs.declared.fault.ClientFault.TheVariants.{Link as LinkFault}
use Rattle.move_codec.specs.declared.message.Message.{Message}
use Rattle.move_core.specs.declared.answers.OfferFault.{OfferFault}
use Rattle.move_core.specs.declared.answers.OfferFault.TheVariants as fault
use Rattle.move_core.specs.Counts.{CountsIf, drained_by_link}
use Rattle.vt_script.specs.declared.reply.Reply.{Reply}
use Rattle.vt_script.specs.declared.reply.Reply.TheVariants as reply
use Rattle.vt_seat.specs.Follows.{CountsFault, CountsBy}
use Rattle.two_seats.specs.Both.{said_drained, ended_offered, ended_link}

offered_fault : (q : Reply) (e number : ℕ) → is_fault (ended_offered q e number) ≡ is_fault q
offered_fault (reply.Done k) e number = refl
offered_fault (reply.Cancelled k) e number = refl
offered_fault _ e number = refl

kept : (r q : Reply) (before mid now : ℕ) → is_fault r ≡ is_fault q → CountsFault q before mid → now ≡ mid → CountsFault r before now
kept r q before mid now same counts is = subst (λ (c : Bool). CountsBy c before now) (sym same) (subst (CountsBy (is_fault q) before) (sym is) counts)

-- the only fault of a client in an answer is one of the wires, and it comes behind the end of a command
abbrev pub IsLinkBehind : Reply → Result (Option Message) OfferFault → Type 0
IsLinkBehind q (Err (fault.Wires f)) = (f ≡ LinkFault) × ((k : ℕ) × ((q ≡ reply.Done k) ⊎ (q ≡ reply.Cancelled k)))
IsLinkBehind q _ = Unit {0}

pub drained_counts : (q : Reply) (answer : Result (Option Message) OfferFault) (number before mid now : ℕ) → IsLinkBehind q answer → CountsFault q before mid → CountsIf (drained_by_link answer) mid now → CountsFault (said_drained q answer number) before now
drained_counts q (Ok None) number before mid now by worked counts = kept q q before mid now refl worked counts
drained_counts q (Ok (Some m)) number before mid now by worked counts = kept (ended_offered q m.epoch number) q before mid now (offered_fault q m.epoch number) worked counts
drained_counts q (Err fault.Stopped) number before mid now by worked counts = kept q q before mid now refl worked counts
drained_counts q (Err fault.Device) number before mid now by worked counts = kept q q before mid now refl worked counts
drained_counts q (Err fault.EpochEnd) number before mid now by worked counts = kept q q before mid now refl worked counts
drained_counts q (Err (fault.Wires f)) number before mid now by worked counts =
    let linked : CountsIf true mid now = subst (λ (g : ClientFault). CountsIf (drained_by_link (Err (fault.Wires g))) mid now) by.0 counts in
    go by.1.0 by.1.1 linked
  where
    go : (k : ℕ) → (q ≡ reply.Done k) ⊎ (q ≡ reply.Cancelled k) → CountsIf true mid now → CountsFault (ended_link q) before now
    go k (inl is) linked = subst (λ x. CountsFault (ended_link x) before now) (sym is) (subst (λ (x : ℕ). CountsIf true x now) (subst (λ x. CountsFault x before mid) is worked) linked)
    go k (inr is) linked = subst (λ x. CountsFault (ended_link x) before now) (sym is) (subst (λ (x : ℕ). CountsIf true x now) (subst (λ x. CountsFault x before mid) is worked) linked)

-- an offer behind the step that failed by the wires comes behind the end of a command
link_only : (lost under end fails : Bool) (epoch next number : ℕ) → reply.Link ≡ (if lost then reply.FailedDevice else (if end then reply.EpochEnd else (if under then reply.Draining number else (if fails then reply.Link else reply.Offered epoch next)))) → (lost ≡ false) × (under ≡ false)
link_only true under end fails epoch next number is = absurd cc
link_only false under true fails epoch next number is = absurd cc
link_only false true false fails epoch next number is = absurd cc
link_only false false false fails epoch next number is = (refl, refl)

pub link_behind : (b : Snapshot) (t : TwoHosts) (n : HostName) (q : Reply) → q ≡ worker_reply b t.history (fails_at (host_of t n)) → is_under_way b t.history ≡ true → reply.Link ≡ offer_reply b (stepped_hosts b t n q) (Some n)
    → (k : ℕ) × ((q ≡ reply.Done k) ⊎ (q ≡ reply.Cancelled k))
link_behind b t n q step under says =
    let after : TwoHosts = guest_line_on b t n event.Work q in
    let h = host_of (stepped_hosts b t n q) n in
    let tests = link_only (is_lost (phase_of b after.history)) (is_under_way b after.history) (h.side.top == 2 ^ 64 - 1) (fails_at h 9) (h.side.top + 1) (next_number t.sent) (number_of b after.history) says in
    go tests.0 tests.1 (step_ends_so b t.history (fails_at (host_of t n)) q under (subst (EndsCommand b t.history) (sym step) (step_ends b t.history (fails_at (host_of t n)))))
  where
    go : is_lost (phase_of b (guest_line_on b t n event.Work q).history) ≡ false → is_under_way b (guest_line_on b t n event.Work q).history ≡ false → StepEnds b t.history (fails_at (host_of t n)) q → (k : ℕ) × ((q ≡ reply.Done k) ⊎ (q ≡ reply.Cancelled k))
    go lives idle (goes_on still reply_is after_is part_is) = absurd (let wrong : false ≡ true = sym idle ∙ still in cc)
    go lives idle (is_lost_now number is lost) = absurd (let wrong : false ≡ true = sym lives ∙ lost in cc)
    go lives idle (ends number which may) = (number, which)
