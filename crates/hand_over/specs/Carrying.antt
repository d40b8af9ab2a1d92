-- How one turn of a move ends. (Own definitions.)
use Rattle.std.specs.Prelude.{◌≡◌, ◌≤◌, ◌<◌, ◌+◌, ◌*◌, ℕ, Option, Some, None, IfSome}
use Rattle.crb_port.specs.Views.{PortView}
use Rattle.move_codec.specs.declared.message.Message.{Message}
use Rattle.move_core.specs.Model.{HostModel}
use Rattle.move_core.specs.Requests.{WiresView}
use Rattle.hand_over.specs.Counts.{tpm_behind, pieces_from, messages_left}
use Rattle.hand_over.specs.Arrival.{arrives}
use Rattle.hand_over.specs.Ends.{Ends}
use Rattle.hand_over.specs.Moving.{AreMoving, IsSameTarget, to_source}

-- the move goes on with this message to the source, which is message `number + 2`
pub record GoesOnWith {P Schedule : Type 0} (port_view : P → PortView) (source new_source : HostModel P) (w : WiresView Schedule) (target new : HostModel P) (v : WiresView Schedule)
    (number : ℕ) (lost : Option ℕ) (reply : Message) : Type 0 where
  pub moving : AreMoving port_view (to_source reply) new_source w new v
  pub source_is : new_source ≡ record source { stage = new_source.stage; record_bytes = new_source.record_bytes }
  pub target_is : IsSameTarget target new
  pub count : number + 2 + messages_left new_source w.link reply ≡ 2 * pieces_from new_source w.link + 3
  pub ahead : IfSome lost (λ k. number + 2 ≤ k)
  pub small : number + 2 < 100000

-- the move goes on, or has ended
abbrev pub TurnGoes : {P Schedule : Type 0} → (P → PortView) → HostModel P → HostModel P → WiresView Schedule → HostModel P → HostModel P → WiresView Schedule → ℕ → Option ℕ → Option Message → Type 0
TurnGoes port_view source new_source w target new v number lost (Some reply) = GoesOnWith port_view source new_source w target new v number lost reply
TurnGoes port_view source new_source w target new v number lost None =
    Ends (arrives (pieces_from source w.link) lost) port_view source source.device (tpm_behind w.link) target source.top new_source new v
