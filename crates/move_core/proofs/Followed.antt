-- Rows that were followed.
use Rattle.std.proofs.Common.{◌≡◌, true, false, refl, sym, subst, Ok, Err}
use Rattle.std.specs.Prelude.{Result, IfOk, OnErr}
use Rattle.std.specs.declared.alloc.AllocError.{AllocError}
use Rattle.std.proofs.lemmas.Bool.{cond-true, cond-false}
use Rattle.crb_machine.specs.Over.{IsConsistentDevice}
use Rattle.move_codec.specs.declared.message.Message.{Message}
use Rattle.move_core.specs.Sides.{is_same}
use Rattle.move_core.specs.Hosts.{IsConsistentHost}
use Rattle.move_core.proofs.Placed.{delivered_placed}
use Rattle.crb_port.specs.Views.{PortView}
use Rattle.move_core.specs.declared.answers.Delivered.{Delivered}
use Rattle.move_core.specs.declared.answers.Delivered.TheVariants.{Ignored}
use Rattle.move_core.specs.Model.{HostModel}
use Rattle.move_core.specs.Requests.{WiresView}
use Rattle.move_core.specs.Table.{Row, delivered, ignored, on_message}
use Rattle.move_core.specs.Table.Row.{Ends, Stops, Fetches, Gives, GivesLast, Loads}
use Rattle.move_core.specs.Calls.{FollowsAlone, Follows}
use Rattle.move_codec.specs.Encoding.{IsInRange}

-- a row that asks for nothing was followed with wires that weren't touched
pub follows_from : {P Schedule : Type 0} (port_view : P → PortView) (row : Row P) (w : WiresView Schedule) (answer : Delivered) (new : HostModel P) → FollowsAlone port_view row answer new → Follows port_view row w w answer new
follows_from port_view (Ends after) w answer new come = (refl, come)
follows_from port_view (Loads bytes next) w answer new come = (come.0, come.1, refl, come.2)
follows_from port_view (Stops next) w answer new come = absurd come
follows_from port_view (Fetches kind offset next) w answer new come = absurd come
follows_from port_view (Gives kind bytes next) w answer new come = absurd come
follows_from port_view (GivesLast bytes next) w answer new come = absurd come

-- ---- whom a message names

pub delivered_mine : {P : Type 0} (h : HostModel P) (m : Message) → is_same h.name m.to ≡ true → delivered h m ≡ on_message h m.epoch m.body
unfolding delivered
delivered_mine h m mine = cond-true (is_same h.name m.to) _ _ mine

pub delivered_other : {P : Type 0} (h : HostModel P) (m : Message) → is_same h.name m.to ≡ false → delivered h m ≡ ignored h
unfolding delivered
delivered_other h m other = cond-false (is_same h.name m.to) _ _ other

-- a message to another leaves all
pub other_follows : {P Schedule : Type 0} (port_view : P → PortView) (h : HostModel P) (m : Message) (w : WiresView Schedule) → is_same h.name m.to ≡ false → Follows port_view (delivered h m) w w Ignored h
other_follows port_view h m w other = subst (λ (row : Row _). Follows port_view row w w Ignored h) (sym (delivered_other h m other)) (refl, record { answer_is = refl; host_is = refl })

-- a host is consistent after a delivery
pub consistent_after : {P Schedule : Type 0} (port_view : P → PortView) (h : HostModel P) (m : Message) (w v : WiresView Schedule) (new : HostModel P) (result : Result Delivered AllocError)
    → IsConsistentHost port_view h → IsInRange m.body → is_same h.name m.to ≡ true → IfOk result (λ answer. Follows port_view (on_message h m.epoch m.body) w v answer new) → OnErr result (new ≡ h) → IsConsistentDevice port_view new.device → IsConsistentHost port_view new
consistent_after port_view h m w v new (Ok answer) consistent four mine follows same device = record {
  matches_side = delivered_placed port_view h m w v answer new consistent.matches_side four (subst (λ (row : Row _). Follows port_view row w v answer new) (sym (delivered_mine h m mine)) follows);
  device = device;
}
consistent_after port_view h m w v new (Err fault) consistent four mine follows same device = subst (IsConsistentHost port_view) (sym same) consistent
