-- A script that offers the guest, and delivers the message that was sent last, again and again. (Own definitions.)
use Rattle.std.specs.Prelude.{◌≡◌, ℕ, zero, suc, [], ◌∷◌, length, Some}
use Rattle.crb_history.specs.Snapshot.{Snapshot}
use Rattle.vt_transcript.specs.Replies.{Transcript, Exchange}
use Rattle.vt_script.specs.declared.event.Event.TheVariants.{Offer, Deliver}
use Rattle.two_hosts.specs.Hosts.{hosts_after}

-- after the lines of `before`, this one delivers so many times the message that was sent last then, whatever the replies are
abbrev pub DeliversLast : Snapshot → ℕ → ℕ → Transcript → Transcript → Type 0
DeliversLast b piece zero before t = t ≡ before
DeliversLast b piece (suc count) before [] = ⊥
DeliversLast b piece (suc count) before (x ∷ t) = DeliversLast b piece count before t × (x.line ≡ Some (Deliver (length (hosts_after b piece t).sent)))

-- after the lines of `before` the guest is offered, and so many such deliveries follow
pub record OffersAndDelivers (b : Snapshot) (piece count : ℕ) (before t : Transcript) : Type 0 where
  pub offer : Exchange
  pub line : offer.line ≡ Some Offer
  pub delivers : DeliversLast b piece count (offer ∷ before) t
