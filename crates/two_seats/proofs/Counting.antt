-- Which lines count a fault of the wires, and of which host.
use Rattle.std.proofs.Common.{◌≡◌, ℕ, Bool, true, false, refl, sym, ap, subst, ◌∙◌, Some, None, Ok, Err}
use Rattle.std.specs.Prelude.{Option, Result}
use Rattle.crb_history.specs.Snapshot.{Snapshot}
use Rattle.vt_transcript.specs.Plain.{is_plain}
use Rattle.vt_transcript.specs.Replies.{is_fault}
use Rattle.crb_port.specs.declared.job.PortState.{PortState}
use Rattle.ctrl_client.specs.declared.fault.ClientFault.{ClientFault}
use Rattle.ctrl_client.specs.declared.fault.ClientFault.TheVariants.{Link as LinkFault}
use Rattle.vt_base.specs.declared.types.HostName.{HostName}
use Rattle.vt_base.specs.declared.types.HostName.TheVariants.{A, B}
use Rattle.vt_base.specs.declared.types.Reason.{Reason}
use Rattle.vt_base.specs.declared.types.Reason.TheVariants as reason
use Rattle.move_codec.specs.declared.message.Message.{Message}
use Rattle.move_codec.specs.declared.message.Body.{Body}
use Rattle.move_codec.specs.declared.message.Body.TheVariants as body
use Rattle.move_core.specs.declared.answers.Delivered.{Delivered}
use Rattle.move_core.specs.declared.answers.Delivered.TheVariants as delivers
use Rattle.move_core.specs.declared.answers.OfferFault.{OfferFault}
use Rattle.move_core.specs.declared.answers.Offered.{Offered}
use Rattle.move_core.specs.declared.answers.Offered.TheVariants as offered
use Rattle.move_core.specs.declared.answers.OfferFault.TheVariants as fault
use Rattle.move_core.specs.Counts.{CountsIf, delivered_by_link, offered_by_link, is_link_refusal, is_link_reason}
use Rattle.move_core.specs.Sides.{is_running, holds_device, other}
use Rattle.vt_script.specs.declared.event.Event.{Event}
use Rattle.vt_script.specs.declared.event.Event.TheVariants as event
use Rattle.vt_script.specs.declared.event.Event.TheVariants.{Offer, Deliver}
use Rattle.vt_script.specs.declared.reply.Reply.{Reply}
use Rattle.vt_script.specs.declared.reply.Reply.TheVariants as reply
use Rattle.two_hosts.specs.Hosts.{TwoHosts, stage_at, running_host, working_host, message_at}
use Rattle.two_hosts.proofs.InvariantKept.{host_where_cases, running_free}
use Rattle.two_hosts.specs.Replies.{reason_in}
use Rattle.vt_seat.specs.Follows.{CountsFault, CountsBy}
use Rattle.vt_seat.specs.State.{SeatState}
use Rattle.two_seats.specs.Both.{TwoSeats, FollowsBoth, running_of, with_seat, seat_of, receiver_of, acts_on, CountsOn, CountsBoth, said_offer, said_delivery}
use Rattle.two_seats.proofs.Seating.{running-same, other_still, working_host-is}

-- the line acts on this host
pub counts_at : (t : TwoHosts) (line : Event) (n : HostName) (r : Reply) (old new : TwoSeats) → acts_on t line ≡ Some n → CountsFault r (seat_of old n).faults (seat_of new n).faults
    → (seat_of new (other n)).faults ≡ (seat_of old (other n)).faults → CountsBoth t line r old new
counts_at t line n r old new acts here there = subst (λ (o : Option HostName). CountsOn o r old new) (sym acts) (here, there)

-- it acts on none
pub counts_none : (t : TwoHosts) (line : Event) (r : Reply) (old new : TwoSeats) → acts_on t line ≡ None → is_fault r ≡ false → new.a.faults ≡ old.a.faults → new.b.faults ≡ old.b.faults → CountsBoth t line r old new
counts_none t line r old new acts fine a b = subst (λ (o : Option HostName). CountsOn o r old new) (sym acts) (fine, a, b)

-- ---- offers

-- the only fault of a client in an answer is one of the wires
abbrev pub IsByLink : Result Offered OfferFault → Type 0
IsByLink (Err (fault.Wires f)) = f ≡ LinkFault
IsByLink _ = Unit {0}

pub offer_counts : (answer : Result Offered OfferFault) (number before now : ℕ) → IsByLink answer → CountsIf (offered_by_link answer) before now → CountsFault (said_offer answer number) before now
offer_counts (Ok (offered.Sent m)) number before now by counts = counts
offer_counts (Ok (offered.Draining k)) number before now by counts = counts
offer_counts (Err fault.Stopped) number before now by counts = counts
offer_counts (Err fault.Device) number before now by counts = counts
offer_counts (Err fault.EpochEnd) number before now by counts = counts
offer_counts (Err (fault.Wires f)) number before now by counts = subst (λ (g : ClientFault). CountsIf (offered_by_link (Err (fault.Wires g))) before now) by counts

-- ---- deliveries

abbrev pub IsSentByLink : Delivered → Type 0
IsSentByLink (delivers.Wires f) = f ≡ LinkFault
IsSentByLink _ = Unit {0}

reason_fault : (why : Reason) (number : ℕ) → is_fault (reply.RefusedSent why number) ≡ is_link_reason why
reason_fault reason.Busy number = refl
reason_fault reason.Totals number = refl
reason_fault reason.Record number = refl
reason_fault reason.Blob number = refl
reason_fault reason.Link number = refl
reason_fault reason.Reply number = refl

refusal_fault : (q : Body) (number : ℕ) → is_fault (reply.RefusedSent (reason_in q) number) ≡ is_link_refusal q
refusal_fault (body.Offer totals) number = refl
refusal_fault (body.Need part offset) number = refl
refusal_fault (body.Piece part offset bytes) number = refl
refusal_fault body.Prepared number = refl
refusal_fault body.Commit number = refl
refusal_fault body.Abort number = refl
refusal_fault (body.Refuse why value) number = reason_fault why number

counts_same : (c d : Bool) (before now : ℕ) → d ≡ c → CountsIf c before now → CountsBy d before now
counts_same true true before now same counts = counts
counts_same false false before now same counts = counts
counts_same true false before now same counts = absurd cc
counts_same false true before now same counts = absurd cc

pub delivery_counts : (answer : Delivered) (number before now : ℕ) → IsSentByLink answer → CountsIf (delivered_by_link answer) before now → CountsFault (said_delivery answer number) before now
delivery_counts delivers.Ignored number before now by counts = counts
delivery_counts delivers.Took number before now by counts = counts
delivery_counts (delivers.Sent m) number before now by counts = counts
delivery_counts delivers.Runs number before now by counts = counts
delivery_counts delivers.Resumed number before now by counts = counts
delivery_counts (delivers.Refused m) number before now by counts = counts_same (is_link_refusal m.body) (is_fault (reply.RefusedSent (reason_in m.body) number)) before now (refusal_fault m.body number) counts
delivery_counts (delivers.Wires f) number before now by counts = subst (λ (g : ClientFault). CountsIf (delivered_by_link (delivers.Wires g)) before now) by counts

-- ---- lines of the guest

acts_on_running : (t : TwoHosts) (line : Event) (n : HostName) → is_plain line ≡ true → running_host t ≡ Some n → working_host t ≡ Some n → acts_on t line ≡ Some n
acts_on_running t (event.Access a) n is runs works = runs
acts_on_running t event.Work n is runs works = works
acts_on_running t event.Ask n is runs works = runs
acts_on_running t event.Reset n is runs works = runs
acts_on_running t event.Offer n is runs works = cc
acts_on_running t (event.Deliver k) n is runs works = cc
acts_on_running t event.GiveUp n is runs works = cc
acts_on_running t event.Again n is runs works = cc
acts_on_running t (event.Show k) n is runs works = cc
acts_on_running t (event.Fail host call) n is runs works = cc

acts_on_none : (t : TwoHosts) (line : Event) → is_plain line ≡ true → running_host t ≡ None → (line ≡ event.Work → working_host t ≡ None) → acts_on t line ≡ None
acts_on_none t (event.Access a) is runs works = runs
acts_on_none t event.Work is runs works = works refl
acts_on_none t event.Ask is runs works = runs
acts_on_none t event.Reset is runs works = runs
acts_on_none t event.Offer is runs works = cc
acts_on_none t (event.Deliver k) is runs works = cc
acts_on_none t event.GiveUp is runs works = cc
acts_on_none t event.Again is runs works = cc
acts_on_none t (event.Show k) is runs works = cc
acts_on_none t (event.Fail host call) is runs works = cc

-- a host that runs is one whose worker goes on
running_works : (b : Snapshot) (piece : ℕ) (t : TwoHosts) (w : TwoSeats) (n : HostName) → FollowsBoth b piece t w → running_host t ≡ Some n → working_host t ≡ Some n
running_works b piece t w n f found =
    let at : holds_device (stage_at t n) ≡ false = running_free (stage_at t n) (runs_at found) in
    working_host-is t n at (other_still b t n f.invariant at)
  where
    runs_at : running_host t ≡ Some n → is_running (stage_at t n) ≡ true
    runs_at found = host_where_cases is_running t (λ o. o ≡ Some n → is_running (stage_at t n) ≡ true) (λ k runs same. let here : k ≡ n = cc in subst (λ j. is_running (stage_at t j) ≡ true) here runs) (λ wrong. absurd cc) found

-- the host that runs acted, and counted its fault
pub guest_counts : (b : Snapshot) (piece : ℕ) (t : TwoHosts) (w : TwoSeats) (n : HostName) (line : Event) (r : Reply) (new : SeatState PortState) → is_plain line ≡ true → FollowsBoth b piece t w → running_of w ≡ Some n
    → CountsFault r (seat_of w n).faults new.faults → CountsBoth t line r w (with_seat w n new)
guest_counts b piece t w n line r new is f runs counts =
    let found : running_host t ≡ Some n = sym (running-same b piece t w f) ∙ runs in
    counts_at t line n r w (with_seat w n new) (acts_on_running t line n is found (running_works b piece t w n f found)) (here n counts) (there n)
  where
    here : (n : HostName) → CountsFault r (seat_of w n).faults new.faults → CountsFault r (seat_of w n).faults (seat_of (with_seat w n new) n).faults
    here A counts = counts
    here B counts = counts

    there : (n : HostName) → (seat_of (with_seat w n new) (other n)).faults ≡ (seat_of w (other n)).faults
    there A = refl
    there B = refl

pub stopped_counts : (b : Snapshot) (piece : ℕ) (t : TwoHosts) (w new : TwoSeats) (line : Event) → is_plain line ≡ true → FollowsBoth b piece t w → running_of w ≡ None → (line ≡ event.Work → working_host t ≡ None) → new.a.faults ≡ w.a.faults → new.b.faults ≡ w.b.faults → CountsBoth t line reply.Stopped w new
stopped_counts b piece t w new line is f none idle a b' = counts_none t line reply.Stopped w new (acts_on_none t line is (sym (running-same b piece t w f) ∙ none) idle) refl a b'

-- ---- lines about messages

-- an offer of this host counted what its answer says
pub offer_counted : (b : Snapshot) (piece : ℕ) (t : TwoHosts) (w new : TwoSeats) (n : HostName) (answer : Result Offered OfferFault) (number : ℕ) (r : Reply) → FollowsBoth b piece t w → running_of w ≡ Some n → r ≡ said_offer answer number → IsByLink answer
    → CountsIf (offered_by_link answer) (seat_of w n).faults (seat_of new n).faults → (seat_of new (other n)).faults ≡ (seat_of w (other n)).faults → CountsBoth t Offer r w new
offer_counted b piece t w new n answer number r f runs is by counts same =
    counts_at t Offer n r w new (sym (running-same b piece t w f) ∙ runs) (subst (λ (q : Reply). CountsFault q (seat_of w n).faults (seat_of new n).faults) (sym is) (offer_counts answer number (seat_of w n).faults (seat_of new n).faults by counts)) same

-- a delivery to this host
pub delivery_counted : (t : TwoHosts) (w new : TwoSeats) (n : HostName) (k : ℕ) (m : Message) (answer : Delivered) (number : ℕ) (r : Reply) → message_at t.sent k ≡ Some m → m.to ≡ n → r ≡ said_delivery answer number → IsSentByLink answer
    → CountsIf (delivered_by_link answer) (seat_of w n).faults (seat_of new n).faults → (seat_of new (other n)).faults ≡ (seat_of w (other n)).faults → CountsBoth t (Deliver k) r w new
delivery_counted t w new n k m answer number r found to is by counts same =
    counts_at t (Deliver k) n r w new (ap receiver_of found ∙ ap Some to) (subst (λ (q : Reply). CountsFault q (seat_of w n).faults (seat_of new n).faults) (sym is) (delivery_counts answer number (seat_of w n).faults (seat_of new n).faults by counts)) same
