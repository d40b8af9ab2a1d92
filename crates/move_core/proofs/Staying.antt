-- A host that offers, and still offers after a delivery, is as before.
use Rattle.std.proofs.Common.{◌≡◌, ℕ, ◌==◌, false, List, Ok, Err, ap}
use Rattle.std.specs.Prelude.{Result, nat_lt}
use Rattle.std.proofs.lemmas.Bool.{cond_both}
use Rattle.vt_base.specs.declared.types.Malformed.{Malformed}
use Rattle.crb_port.specs.Views.{PortView}
use Rattle.crb_machine.specs.Values.{DeviceValues}
use Rattle.ctrl_client.specs.declared.fault.ClientFault.{ClientFault}
use Rattle.move_codec.specs.declared.names.Part.{Part}
use Rattle.move_codec.specs.declared.names.Part.TheVariants.{Record, Permanent, Volatile, Saved}
use Rattle.move_codec.specs.declared.message.Message.{Message}
use Rattle.move_codec.specs.declared.message.Body.{Body}
use Rattle.move_codec.specs.declared.message.Body.TheVariants as body
use Rattle.move_core.specs.declared.stage.MoveStage.{MoveStage}
use Rattle.move_core.specs.declared.stage.MoveStage.TheVariants.{Empty, Running, Draining, Offering, Released, Filling, Prepared}
use Rattle.move_core.specs.declared.side.Side.{Side}
use Rattle.move_core.specs.declared.side.Side.TheVariants as side
use Rattle.move_core.specs.declared.asking.Fetched.{Fetched}
use Rattle.move_core.specs.declared.answers.Delivered.{Delivered}
use Rattle.move_core.specs.Model.{HostModel}
use Rattle.move_core.specs.Sides.{side_of, is_active, is_same, total_of}
use Rattle.move_core.specs.Requests.{WiresView}
use Rattle.move_core.specs.Table.{After, Row, answers, ignored, on_offer, passes_on, gives, on_need, on_piece, on_prepared, on_commit, on_abort, on_refuse, on_message, delivered}
use Rattle.move_core.specs.Table.Row.{Ends, Stops, Fetches, Gives, GivesLast, Loads}
use Rattle.move_core.specs.Calls.{EndsIn, Follows}

-- where the host still offers at this end, it is as before
record StaysAt {P : Type 0} (h : HostModel P) (after : After P) : Type 0 where
  stays : (port_view : P → PortView) (answer : Delivered) (new : HostModel P) (e : ℕ) → EndsIn port_view after answer new → side_of new.stage ≡ side.Offering e → new ≡ h

abbrev StaysBy : {P : Type 0} → HostModel P → Row P → Type 0
StaysBy h (Ends after) = StaysAt h after
StaysBy h (Stops next) = (r : Result (Unit {0}) ClientFault) → StaysAt h (next r)
StaysBy h (Fetches kind offset next) = (r : Result Fetched ClientFault) → StaysAt h (next r)
StaysBy h (Gives kind bytes next) = (r : Result (Unit {0}) ClientFault) → StaysAt h (next r)
StaysBy h (GivesLast bytes next) = (r : Result (Unit {0}) ClientFault) → StaysAt h (next r)
StaysBy h (Loads bytes next) = (r : Result DeviceValues Malformed) → StaysAt h (next r)

record Stays {P : Type 0} (h : HostModel P) (row : Row P) : Type 0 where
  by : StaysBy h row

row_stays : {P Schedule : Type 0} (port_view : P → PortView) (h : HostModel P) (row : Row P) (w v : WiresView Schedule) (answer : Delivered) (new : HostModel P) (e : ℕ)
    → StaysBy h row → Follows port_view row w v answer new → side_of new.stage ≡ side.Offering e → new ≡ h
row_stays port_view h (Ends after) w v answer new e by f offers = by.stays port_view answer new e f.1 offers
row_stays port_view h (Stops next) w v answer new e by f offers = (by f.0).stays port_view answer new e f.2 offers
row_stays port_view h (Fetches kind offset next) w v answer new e by f offers = (by f.0).stays port_view answer new e f.2 offers
row_stays port_view h (Gives kind bytes next) w v answer new e by f offers = (by f.0).stays port_view answer new e f.2 offers
row_stays port_view h (GivesLast bytes next) w v answer new e by f offers = (by f.0).stays port_view answer new e f.2 offers
row_stays port_view h (Loads bytes next) w v answer new e by f offers = (by f.0).stays port_view answer new e f.3 offers

not_released : (s : Side) (a b : ℕ) → s ≡ side.Released a → s ≡ side.Offering b → ⊥
not_released s a b x y = absurd cc

not_running : (s : Side) (b : ℕ) → s ≡ side.Running → s ≡ side.Offering b → ⊥
not_running s b x y = absurd cc

active_at : (s : MoveStage) (e : ℕ) → side_of s ≡ side.Offering e → is_active s ≡ false → ⊥
active_at (Offering epoch totals) e is passive = absurd cc
active_at Empty e is passive = absurd cc
active_at Running e is passive = absurd cc
active_at Draining e is passive = absurd cc
active_at (Released epoch) e is passive = absurd cc
active_at (Filling epoch totals part place) e is passive = absurd cc
active_at (Prepared epoch) e is passive = absurd cc

module _ {P : Type 0} (h : HostModel P) where
  same_stays : (answer : Delivered) → StaysAt h (answers h answer)
  same_stays answer = record { stays = λ port_view given new e ends offers. ends.host_is }

  ignored_stays : Stays h (ignored h)
  ignored_stays = record { by = same_stays _ }

  passed_stays : (e total : ℕ) (part : Part) (offset : ℕ) (r : Result Fetched ClientFault) → StaysAt h (passes_on h e total part offset r)
  passed_stays e total part offset (Ok p) = cond_both (p.total == total) _ _ (StaysAt h) (λ same. same_stays _) (λ other. same_stays _)
  passed_stays e total part offset (Err f) = same_stays _

  gives_stays : (e total : ℕ) (part : Part) (offset : ℕ) → Stays h (gives h e total part offset)
  gives_stays e total Record offset = record { by = same_stays _ }
  gives_stays e total Permanent offset = record { by = passed_stays e total Permanent offset }
  gives_stays e total Volatile offset = record { by = passed_stays e total Volatile offset }
  gives_stays e total Saved offset = record { by = passed_stays e total Saved offset }

  offer_stays : (now : ℕ) → side_of h.stage ≡ side.Offering now → (e : ℕ) (totals : List ℕ) → Stays h (on_offer h e totals)
  offer_stays now is e totals =
      cond_both (nat_lt h.top e) _ _ (Stays h)
      (λ newer. cond_both (is_active h.stage) _ _ (Stays h) (λ active. record { by = same_stays _ }) (λ passive. absurd (active_at h.stage now is passive)))
      (λ older. ignored_stays)

  need_stays : (s : MoveStage) (now : ℕ) → side_of s ≡ side.Offering now → (e : ℕ) (part : Part) (offset : ℕ) → Stays h (on_need h s e part offset)
  need_stays (Offering epoch totals) now is e part offset = cond_both _ _ _ (Stays h) (λ fits. gives_stays e (total_of totals part) part offset) (λ not_so. ignored_stays)
  need_stays Empty now is e part offset = ignored_stays
  need_stays Running now is e part offset = ignored_stays
  need_stays Draining now is e part offset = ignored_stays
  need_stays (Released epoch) now is e part offset = ignored_stays
  need_stays (Filling epoch totals next place) now is e part offset = ignored_stays
  need_stays (Prepared epoch) now is e part offset = ignored_stays

  piece_stays : (s : MoveStage) (now : ℕ) → side_of s ≡ side.Offering now → (e : ℕ) (part : Part) (offset : ℕ) (bytes : List ℕ) → Stays h (on_piece h s e part offset bytes)
  piece_stays (Offering epoch totals) now is e part offset bytes = ignored_stays
  piece_stays Empty now is e part offset bytes = ignored_stays
  piece_stays Running now is e part offset bytes = ignored_stays
  piece_stays Draining now is e part offset bytes = ignored_stays
  piece_stays (Released epoch) now is e part offset bytes = ignored_stays
  piece_stays (Filling epoch totals next place) now is e part offset bytes = absurd cc
  piece_stays (Prepared epoch) now is e part offset bytes = ignored_stays

  prepared_stays : (s : MoveStage) (now : ℕ) → side_of s ≡ side.Offering now → (e : ℕ) → Stays h (on_prepared h s e)
  prepared_stays (Offering epoch totals) now is e = cond_both (epoch == e) _ _ (Stays h)
      (λ same. record { by = record { stays = λ port_view given new f ends offers. absurd (not_released (side_of new.stage) e f (ap (λ (x : HostModel P). side_of x.stage) ends.host_is) offers) } })
      (λ not_so. ignored_stays)
  prepared_stays Empty now is e = ignored_stays
  prepared_stays Running now is e = ignored_stays
  prepared_stays Draining now is e = ignored_stays
  prepared_stays (Released epoch) now is e = absurd cc
  prepared_stays (Filling epoch totals next place) now is e = ignored_stays
  prepared_stays (Prepared epoch) now is e = ignored_stays

  commit_stays : (s : MoveStage) (now : ℕ) → side_of s ≡ side.Offering now → (e : ℕ) → Stays h (on_commit h s e)
  commit_stays (Offering epoch totals) now is e = ignored_stays
  commit_stays Empty now is e = ignored_stays
  commit_stays Running now is e = ignored_stays
  commit_stays Draining now is e = ignored_stays
  commit_stays (Released epoch) now is e = ignored_stays
  commit_stays (Filling epoch totals next place) now is e = ignored_stays
  commit_stays (Prepared epoch) now is e = absurd cc

  abort_stays : (s : MoveStage) (now : ℕ) → side_of s ≡ side.Offering now → (e : ℕ) → Stays h (on_abort h s e)
  abort_stays (Offering epoch totals) now is e = ignored_stays
  abort_stays Empty now is e = ignored_stays
  abort_stays Running now is e = ignored_stays
  abort_stays Draining now is e = ignored_stays
  abort_stays (Released epoch) now is e = ignored_stays
  abort_stays (Filling epoch totals next place) now is e = absurd cc
  abort_stays (Prepared epoch) now is e = absurd cc

  refuse_stays : (s : MoveStage) (now : ℕ) → side_of s ≡ side.Offering now → (e : ℕ) → Stays h (on_refuse h s e)
  refuse_stays (Offering epoch totals) now is e = cond_both (epoch == e) _ _ (Stays h)
      (λ same. record { by = record { stays = λ port_view given new f ends offers. absurd (not_running (side_of new.stage) f (ap (λ (x : HostModel P). side_of x.stage) ends.host_is.rest) offers) } })
      (λ not_so. ignored_stays)
  refuse_stays Empty now is e = ignored_stays
  refuse_stays Running now is e = ignored_stays
  refuse_stays Draining now is e = ignored_stays
  refuse_stays (Released epoch) now is e = ignored_stays
  refuse_stays (Filling epoch totals next place) now is e = ignored_stays
  refuse_stays (Prepared epoch) now is e = ignored_stays

  message_stays : (now : ℕ) → side_of h.stage ≡ side.Offering now → (e : ℕ) (says : Body) → Stays h (on_message h e says)
  message_stays now is e (body.Offer totals) = offer_stays now is e totals
  message_stays now is e (body.Need part offset) = need_stays h.stage now is e part offset
  message_stays now is e (body.Piece part offset bytes) = piece_stays h.stage now is e part offset bytes
  message_stays now is e body.Prepared = prepared_stays h.stage now is e
  message_stays now is e body.Commit = commit_stays h.stage now is e
  message_stays now is e body.Abort = abort_stays h.stage now is e
  message_stays now is e (body.Refuse why value) = refuse_stays h.stage now is e

  delivered_stays : (now : ℕ) → side_of h.stage ≡ side.Offering now → (m : Message) → Stays h (delivered h m)
  unfolding delivered
  delivered_stays now is m = cond_both (is_same h.name m.to) _ _ (Stays h) (λ mine. message_stays now is m.epoch m.body) (λ other. ignored_stays)

pub still_offers : {P Schedule : Type 0} (port_view : P → PortView) (h new : HostModel P) (m : Message) (w v : WiresView Schedule) (answer : Delivered) (e f : ℕ)
    → side_of h.stage ≡ side.Offering e → side_of new.stage ≡ side.Offering f → Follows port_view (delivered h m) w v answer new → new ≡ h
still_offers port_view h new m w v answer e f is still follows = row_stays port_view h (delivered h m) w v answer new f (delivered_stays h e is m).by follows still
