-- An undisturbed move ends at the other host, over real hosts.
use Rattle.std.proofs.Common.{◌≡◌, ℕ, zero, suc, ◌+◌, ◌*◌, true, [], ◌∷◌, length, sym, ap, subst, ◌∙◌, Some}
use Rattle.std.specs.Prelude.{Option}
use Rattle.crb_history.specs.Snapshot.{Snapshot, IsValidSnapshot}
use Rattle.crb_history.specs.Continued.{snapshot_after}
use Rattle.vt_transcript.specs.Replies.{Transcript, Exchange}
use Rattle.vt_base.specs.declared.types.HostName.{HostName}
use Rattle.move_core.specs.Sides.{other, is_running}
use Rattle.vt_script.specs.declared.event.Event.{Event}
use Rattle.vt_script.specs.declared.event.Event.TheVariants.{Offer, Deliver}
use Rattle.vt_script.specs.declared.reply.Reply.{Reply}
use Rattle.two_hosts.specs.Hosts.{hosts_after, stage_at}
use Rattle.two_hosts.specs.Replies.{AnswersIn, InTurn}
use Rattle.two_hosts.specs.WholeMove.{CanMove, MovesOver, deliveries, deliver_last, offer_now, pieces}
use Rattle.two_hosts.proofs.WholeMoves.{moves_over}
use Rattle.two_seats.specs.Both.{TwoSeats, RunsTo, running_of}
use Rattle.two_seats.specs.Moves.{DeliversLast, OffersAndDelivers}
use Rattle.two_seats.proofs.Seating.{other_still, held_still, running_host-is, running-same}
use Rattle.two_hosts.proofs.InvariantKept.{running_free}

-- the reply to such a delivery is the one that is due
delivered_so : (b : Snapshot) (piece : ℕ) (t : Transcript) (line : Option Event) (r : Reply) → line ≡ Some (Deliver (length (hosts_after b piece t).sent)) → AnswersIn b piece (hosts_after b piece t) line r → record { line = line; reply = r } ≡ deliver_last b piece t
delivered_so b piece t line r is answers =
    subst (λ (l : Option Event). AnswersIn b piece (hosts_after b piece t) l r → record { line = l; reply = r } ≡ deliver_last b piece t) (sym is)
    (λ a. ap (λ (q : Reply). record { line = Some (Deliver (length (hosts_after b piece t).sent)); reply = q }) a) answers

offered_so : (b : Snapshot) (piece : ℕ) (t : Transcript) (line : Option Event) (r : Reply) → line ≡ Some Offer → AnswersIn b piece (hosts_after b piece t) line r → record { line = line; reply = r } ≡ offer_now b piece t
offered_so b piece t line r is answers =
    subst (λ (l : Option Event). AnswersIn b piece (hosts_after b piece t) l r → record { line = l; reply = r } ≡ offer_now b piece t) (sym is)
    (λ a. ap (λ (q : Reply). record { line = Some Offer; reply = q }) a) answers

delivers_so : (b : Snapshot) (piece count : ℕ) (before t : Transcript) → InTurn b piece t → DeliversLast b piece count before t → t ≡ deliveries b piece count before
delivers_so b piece zero before t in_turn delivers = delivers
delivers_so b piece (suc count) before [] in_turn delivers = absurd delivers
delivers_so b piece (suc count) before (x ∷ t) in_turn delivers =
    ap (λ (y : Exchange). y ∷ t) (delivered_so b piece t x.line x.reply delivers.1 in_turn.1) ∙ ap (λ (u : Transcript). deliver_last b piece u ∷ u) (delivers_so b piece count before t in_turn.0 delivers.0)

in_turn_before : (b : Snapshot) (piece count : ℕ) (before t : Transcript) → InTurn b piece t → DeliversLast b piece count before t → InTurn b piece before
in_turn_before b piece zero before t in_turn delivers = subst (InTurn b piece) delivers in_turn
in_turn_before b piece (suc count) before [] in_turn delivers = absurd delivers
in_turn_before b piece (suc count) before (x ∷ t) in_turn delivers = in_turn_before b piece count before t in_turn.0 delivers.0

-- so the lines have the replies of an undisturbed move
pub one_way : (b : Snapshot) (piece count : ℕ) (before t : Transcript) → InTurn b piece t → OffersAndDelivers b piece count before t → t ≡ deliveries b piece count (offer_now b piece before ∷ before)
one_way b piece count before t in_turn o =
    let first = in_turn_before b piece count (o.offer ∷ before) t in_turn o.delivers in
    delivers_so b piece count (o.offer ∷ before) t in_turn o.delivers
    ∙ ap (λ (y : Exchange). deliveries b piece count (y ∷ before)) (offered_so b piece before o.offer.line o.offer.reply o.line first.1)

-- and at their end the guest runs at the other host
pub arrives : (b : Snapshot) (piece : ℕ) (before t : Transcript) (n : HostName) (w : TwoSeats) → IsValidSnapshot b → InTurn b piece before → CanMove b piece (hosts_after b piece before) n
    → OffersAndDelivers b piece (2 * pieces piece (snapshot_after b (hosts_after b piece before).history) + 3) before t → RunsTo b piece t w → running_of w ≡ Some (other n)
arrives b piece before t n w fit in_turn can o runs =
    let count : ℕ = pieces piece (snapshot_after b (hosts_after b piece before).history) in
    let over : MovesOver b piece (offer_now b piece before ∷ before) n count = moves_over b piece before n fit in_turn can in
    let same : t ≡ deliveries b piece (2 * count + 3) (offer_now b piece before ∷ before) = one_way b piece (2 * count + 3) before t runs.run.in_turn o in
    let there : is_running (stage_at (hosts_after b piece t) (other n)) ≡ true = ap (λ (u : Transcript). is_running (stage_at (hosts_after b piece u) (other n))) same ∙ over.target in
    running-same b piece (hosts_after b piece t) w runs.follows ∙ running_host-is (hosts_after b piece t) (other n) there (held_still (stage_at (hosts_after b piece t) (other (other n))) (other_still b (hosts_after b piece t) (other n) runs.follows.invariant (running_free (stage_at (hosts_after b piece t) (other n)) there)))
