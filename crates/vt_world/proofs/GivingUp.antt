-- A host takes back its offer, or stops draining.
use Rattle.std.proofs.Common.{◌≡◌, ℕ, Bool, true, false, List, refl, sym, ap, subst, ◌∙◌, Some, None}
use Rattle.crb_port.specs.Plain.{plain}
use Rattle.crb_port.specs.declared.job.PortState.{PortState}
use Rattle.crb_history.specs.Snapshot.{Snapshot}
use Rattle.vt_base.specs.declared.types.HostName.{HostName}
use Rattle.vt_base.specs.declared.types.HostName.TheVariants.{A, B}
use Rattle.move_codec.specs.declared.message.Message.{Message}
use Rattle.move_core.specs.Calls.{GivesUp}
use Rattle.move_core.specs.Hosts.{IsConsistentHost}
use Rattle.move_core.specs.Model.{HostModel}
use Rattle.move_core.specs.declared.answers.Gave.{Gave}
use Rattle.move_core.specs.declared.answers.Gave.TheVariants as gave
use Rattle.two_hosts.specs.Hosts.{TwoHosts, host_where, is_leaving}
use Rattle.vt_script.specs.declared.event.Event.TheVariants.{GiveUp}
use Rattle.vt_script.specs.declared.reply.Reply.{Reply}
use Rattle.vt_script.specs.declared.reply.Reply.TheVariants as reply
use Rattle.vt_seat.specs.State.{SeatState}
use Rattle.two_seats.specs.Both.{TwoSeats, seat_of, with_seat, FollowsBoth, StepsBoth, Keeps, said_give_up, bag_give_up}
use Rattle.two_seats.proofs.Lines.{gives_up_steps, undrains_steps, gave_up, gave_way}

some_is : {T : Type 0} (x y : T) → Some x ≡ Some y → y ≡ x
some_is x y same = cc

-- a host that gives a reply offered its guest, or drained
pub leaving : (h new : HostModel PortState) (answer : Gave) (number : ℕ) (r : Reply) → Some r ≡ said_give_up answer number → GivesUp plain h answer new → is_leaving h.stage ≡ true
leaving h new gave.NotOffering number r said gives = absurd cc
leaving h new gave.Undrained number r said gives = gave_way h.stage h new gives
leaving h new (gave.Abort m) number r said gives = gave_up h.stage h m new gives

pub gives_any : (b : Snapshot) (piece : ℕ) (t : TwoHosts) (w : TwoSeats) (n : HostName) → FollowsBoth b piece t w → IsConsistentHost plain (seat_of w n).host
    → (host : HostModel PortState) (number : ℕ) (new : List Message) (answer : Gave) (r : Reply) → Some r ≡ said_give_up answer number
    → ((m : Message) → answer ≡ gave.Abort m → Keeps m number t.sent new) → host_where is_leaving t ≡ Some n → GivesUp plain (seat_of w n).host answer host
    → StepsBoth b piece t GiveUp r (record (with_seat w n (record (seat_of w n) { host = host })) { bag = bag_give_up answer new w.bag })
gives_any b piece t w n f consistent host number new gave.NotOffering r said keeps found gives = absurd cc
gives_any b piece t w n f consistent host number new gave.Undrained r said keeps found gives =
    subst (λ (q : Reply). StepsBoth b piece t GiveUp q (with_seat w n (record (seat_of w n) { host = host }))) (some_is r reply.Resumed said) (undrains_steps b piece t w n f host found gives)
gives_any b piece t w n f consistent host number new (gave.Abort m) r said keeps found gives =
    subst (λ (q : Reply). StepsBoth b piece t GiveUp q (record (with_seat w n (record (seat_of w n) { host = host })) { bag = new })) (some_is r (reply.ResumedSent number) said)
    (gives_up_steps b piece t w n f consistent m host number new (keeps m refl) found gives)

-- a host without a reply did nothing
pub gave_nothing : (answer : Gave) (number : ℕ) → None ≡ said_give_up answer number → answer ≡ gave.NotOffering
gave_nothing gave.NotOffering number said = refl
gave_nothing gave.Undrained number said = absurd cc
gave_nothing (gave.Abort m) number said = absurd cc
