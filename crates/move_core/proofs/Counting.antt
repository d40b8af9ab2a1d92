-- The wires count a fault in a call exactly where the answer says that one of their calls failed.
use Rattle.std.proofs.Common.{◌≡◌, ℕ, ◌+◌, Bool, false, List, [], ◌∷◌, ◌++◌, length, Option, Some, None, Ok, Err, refl, sym, ap, subst, ◌∙◌, IfOk}
use Rattle.std.specs.Prelude.{Result, nat_lt, ◌==◌}
use Rattle.std.specs.declared.alloc.AllocError.{AllocError}
use Rattle.std.proofs.lemmas.Bool.{cond_both}
use Rattle.vt_base.specs.declared.types.Malformed.{Malformed}
use Rattle.vt_base.specs.declared.types.Kind.{Kind}
use Rattle.vt_base.specs.declared.types.Kind.TheVariants as kind
use Rattle.crb_port.specs.Views.{PortView}
use Rattle.crb_machine.specs.Values.{DeviceValues}
use Rattle.state_blobs.specs.declared.types.Piece.{Piece}
use Rattle.ctrl_client.specs.declared.fault.ClientFault.{ClientFault}
use Rattle.ctrl_client.specs.declared.fault.ClientFault.TheVariants.{Link as LinkFault, Result as BadResult, Reply as BadReply}
use Rattle.ctrl_client.specs.Exchange.{CountsLink}
use Rattle.move_codec.specs.declared.names.Part.{Part}
use Rattle.move_codec.specs.declared.names.Part.TheVariants.{Record, Permanent, Volatile, Saved}
use Rattle.move_codec.specs.declared.message.Message.{Message}
use Rattle.move_codec.specs.declared.message.Body.{Body}
use Rattle.move_codec.specs.declared.message.Body.TheVariants as body
use Rattle.move_core.specs.declared.stage.MoveStage.{MoveStage}
use Rattle.move_core.specs.declared.stage.MoveStage.TheVariants.{Empty, Running, Draining, Offering, Released, Filling, Prepared}
use Rattle.move_core.specs.declared.asking.Fetched.{Fetched}
use Rattle.move_core.specs.declared.answers.Delivered.{Delivered}
use Rattle.move_core.specs.declared.answers.OfferFault.{OfferFault}
use Rattle.move_core.specs.declared.answers.OfferFault.TheVariants as fault
use Rattle.move_core.specs.declared.answers.Offered.{Offered}
use Rattle.move_core.specs.declared.answers.Offered.TheVariants as offered
use Rattle.move_core.specs.Model.{HostModel}
use Rattle.move_core.specs.Sides.{is_active, is_same, total_of, first_bad, part_after}
use Rattle.move_core.specs.Requests.{WiresView, fetched, FetchesPiece, SwitchesOn, GivesLastPiece, total_in, GetsTotal, before, ThenGets, GetsTotals}
use Rattle.move_core.specs.Table.{After, Row, reason_for, ignored, takes_offer, begins, on_offer, passes_on, gives, on_need, goes_to, took, loads, takes_piece, on_piece, on_prepared, on_commit, on_abort, on_refuse, on_message, delivered}
use Rattle.move_core.specs.Table.Row.{Ends, Stops, Fetches, Gives, GivesLast, Loads}
use Rattle.move_core.specs.Calls.{EndsIn, Follows, Offers, Drains, EpochEnds}
use Rattle.move_core.specs.Calls.EpochEnds.{Claimed, Unclaimed}
use Rattle.move_core.specs.Counts.{is_link, ends_by_link, is_link_reason, delivered_by_link, offered_by_link, drained_by_link, CountsIf}

-- ---- requests

counted_by : {T : Type 0} (a b : ℕ) (r : Result T ClientFault) → CountsLink a b r → CountsIf (ends_by_link r) a b
counted_by a b (Ok value) counts = counts
counted_by a b (Err LinkFault) counts = counts
counted_by a b (Err (BadResult number)) counts = counts
counted_by a b (Err (BadReply place)) counts = counts

-- none was counted before
after_none : (a b c : ℕ) (x : Bool) → b ≡ a → CountsIf x b c → CountsIf x a c
after_none a b c x same counts = subst (λ (n : ℕ). CountsIf x n c) same counts

fetched_same : (into : List ℕ) (r : Result Piece ClientFault) → ends_by_link (fetched into r) ≡ ends_by_link r
fetched_same into (Ok p) = refl
fetched_same into (Err f) = refl

fetches_counted : {Schedule : Type 0} (kind : Kind) (offset : ℕ) (w v : WiresView Schedule) (answer : Result Fetched ClientFault) → FetchesPiece kind offset w v answer → CountsIf (ends_by_link answer) w.faults v.faults
fetches_counted kind offset w v answer f =
    subst (λ (b : Bool). CountsIf b w.faults v.faults) (sym (ap ends_by_link f.answer_is ∙ fetched_same f.into f.piece)) (counted_by w.faults v.faults f.piece f.gets.counts)

switched_counted : {Schedule : Type 0} (given answer : Result (Unit {0}) ClientFault) (w between v : WiresView Schedule) → CountsIf (ends_by_link given) w.faults between.faults → SwitchesOn given between v answer → CountsIf (ends_by_link answer) w.faults v.faults
switched_counted (Ok done) answer w between v counts on = after_none w.faults between.faults v.faults (ends_by_link answer) counts (counted_by between.faults v.faults answer on.counts)
switched_counted {Schedule} (Err f) answer w between v counts on =
    subst (λ (u : WiresView Schedule). CountsIf (ends_by_link answer) w.faults u.faults) (sym on.0)
    (subst (λ (r : Result (Unit {0}) ClientFault). CountsIf (ends_by_link r) w.faults between.faults) (sym on.1) counts)

last_counted : {Schedule : Type 0} (bytes : List ℕ) (w v : WiresView Schedule) (answer : Result (Unit {0}) ClientFault) → GivesLastPiece bytes w v answer → CountsIf (ends_by_link answer) w.faults v.faults
last_counted bytes w v answer g = switched_counted g.given answer w g.between v (counted_by w.faults g.between.faults g.given g.gives.counts) g.switches

-- ---- the lengths of blobs

total_same : (r : Result Fetched ClientFault) → ends_by_link (total_in r) ≡ ends_by_link r
total_same (Ok p) = refl
total_same (Err f) = refl

total_counted : {Schedule : Type 0} (kind : Kind) (w v : WiresView Schedule) (answer : Result ℕ ClientFault) → GetsTotal kind w v answer → CountsIf (ends_by_link answer) w.faults v.faults
total_counted kind w v answer g =
    subst (λ (b : Bool). CountsIf b w.faults v.faults) (sym (ap ends_by_link g.answer_is ∙ total_same g.piece)) (fetches_counted kind 0 w v g.piece g.fetches)

before_same : (total : ℕ) (r : Result (List ℕ) ClientFault) → ends_by_link (before total r) ≡ ends_by_link r
before_same total (Ok totals) = refl
before_same total (Err f) = refl

then_counted : {Schedule : Type 0} (first : Result ℕ ClientFault) (GetsOthers : Result (List ℕ) ClientFault → Type 0) (w between v : WiresView Schedule) (answer : Result (List ℕ) ClientFault)
    → ((others : Result (List ℕ) ClientFault) → GetsOthers others → CountsIf (ends_by_link others) between.faults v.faults)
    → CountsIf (ends_by_link first) w.faults between.faults → ThenGets first GetsOthers between v answer → CountsIf (ends_by_link answer) w.faults v.faults
then_counted {Schedule} (Err f) GetsOthers w between v answer others counts gets =
    subst (λ (u : WiresView Schedule). CountsIf (ends_by_link answer) w.faults u.faults) (sym gets.0)
    (subst (λ (r : Result (List ℕ) ClientFault). CountsIf (ends_by_link r) w.faults between.faults) (sym gets.1) counts)
then_counted (Ok total) GetsOthers w between v answer others counts gets =
    after_none w.faults between.faults v.faults (ends_by_link answer) counts
    (subst (λ (b : Bool). CountsIf b between.faults v.faults) (sym (ap ends_by_link gets.2 ∙ before_same total gets.0)) (others gets.0 gets.1))

totals_counted : {Schedule : Type 0} (kinds : List Kind) (w v : WiresView Schedule) (answer : Result (List ℕ) ClientFault) → GetsTotals kinds w v answer → CountsIf (ends_by_link answer) w.faults v.faults
totals_counted {Schedule} [] w v answer gets =
    subst (λ (r : Result (List ℕ) ClientFault). CountsIf (ends_by_link r) w.faults v.faults) (sym gets.1) (ap (λ (u : WiresView Schedule). u.faults) gets.0)
totals_counted (kind ∷ kinds) w v answer gets =
    then_counted gets.1 (GetsTotals kinds gets.0 v) w gets.0 v answer (λ others. totals_counted kinds gets.0 v others) (total_counted kind w gets.0 gets.1 gets.2) gets.3

-- ---- rows

abbrev CountsBy : {P : Type 0} → Row P → Type 0
CountsBy (Ends after) = delivered_by_link after.answer ≡ false
CountsBy (Stops next) = (r : Result (Unit {0}) ClientFault) → delivered_by_link (next r).answer ≡ ends_by_link r
CountsBy (Fetches kind offset next) = (r : Result Fetched ClientFault) → delivered_by_link (next r).answer ≡ ends_by_link r
CountsBy (Gives kind bytes next) = (r : Result (Unit {0}) ClientFault) → delivered_by_link (next r).answer ≡ ends_by_link r
CountsBy (GivesLast bytes next) = (r : Result (Unit {0}) ClientFault) → delivered_by_link (next r).answer ≡ ends_by_link r
CountsBy (Loads bytes next) = (r : Result DeviceValues Malformed) → delivered_by_link (next r).answer ≡ false

record Shows {P : Type 0} (row : Row P) : Type 0 where
  shown : CountsBy row

ended : {P : Type 0} (port_view : P → PortView) (after : After P) (answer : Delivered) (new : HostModel P) (x : Bool) → delivered_by_link after.answer ≡ x → EndsIn port_view after answer new → delivered_by_link answer ≡ x
ended port_view after answer new x shown ends = ap delivered_by_link ends.answer_is ∙ shown

row_counted : {P Schedule : Type 0} (port_view : P → PortView) (row : Row P) (w v : WiresView Schedule) (answer : Delivered) (new : HostModel P) → CountsBy row → Follows port_view row w v answer new → CountsIf (delivered_by_link answer) w.faults v.faults
row_counted {P} {Schedule} port_view (Ends after) w v answer new shown f =
    subst (λ (b : Bool). CountsIf b w.faults v.faults) (sym (ended port_view after answer new false shown f.1)) (ap (λ (u : WiresView Schedule). u.faults) f.0)
row_counted port_view (Stops next) w v answer new shown f =
    subst (λ (b : Bool). CountsIf b w.faults v.faults) (sym (ended port_view (next f.0) answer new (ends_by_link f.0) (shown f.0) f.2)) (counted_by w.faults v.faults f.0 f.1.counts)
row_counted port_view (Fetches kind offset next) w v answer new shown f =
    subst (λ (b : Bool). CountsIf b w.faults v.faults) (sym (ended port_view (next f.0) answer new (ends_by_link f.0) (shown f.0) f.2)) (fetches_counted kind offset w v f.0 f.1)
row_counted port_view (Gives kind bytes next) w v answer new shown f =
    subst (λ (b : Bool). CountsIf b w.faults v.faults) (sym (ended port_view (next f.0) answer new (ends_by_link f.0) (shown f.0) f.2)) (counted_by w.faults v.faults f.0 f.1.counts)
row_counted port_view (GivesLast bytes next) w v answer new shown f =
    subst (λ (b : Bool). CountsIf b w.faults v.faults) (sym (ended port_view (next f.0) answer new (ends_by_link f.0) (shown f.0) f.2)) (last_counted bytes w v f.0 f.1)
row_counted {P} {Schedule} port_view (Loads bytes next) w v answer new shown f =
    subst (λ (b : Bool). CountsIf b w.faults v.faults) (sym (ended port_view (next f.0) answer new false (shown f.0) f.3)) (ap (λ (u : WiresView Schedule). u.faults) f.2)

-- ---- the table

reason_same : (f : ClientFault) → is_link_reason (reason_for f) ≡ is_link f
reason_same LinkFault = refl
reason_same (BadResult number) = refl
reason_same (BadReply place) = refl

module _ {P : Type 0} where
  ignored_shows : (h : HostModel P) → Shows (ignored h)
  ignored_shows h = record { shown = refl }

  begins_shown : (h : HostModel P) (e : ℕ) (totals : List ℕ) (r : Result (Unit {0}) ClientFault) → delivered_by_link (begins h e totals r).answer ≡ ends_by_link r
  begins_shown h e totals (Ok done) = refl
  begins_shown h e totals (Err f) = reason_same f

  takes_shows : (h : HostModel P) (e : ℕ) (totals : List ℕ) (bad : Option ℕ) → Shows (takes_offer h e totals bad)
  takes_shows h e totals (Some bad) = record { shown = refl }
  takes_shows h e totals None = record { shown = begins_shown h e totals }

  offer_shows : (h : HostModel P) (e : ℕ) (totals : List ℕ) → Shows (on_offer h e totals)
  offer_shows h e totals =
      cond_both (nat_lt h.top e) _ _ Shows
      (λ newer. cond_both (is_active h.stage) _ _ Shows (λ active. record { shown = refl }) (λ passive. takes_shows (record h { top = e }) e totals (first_bad totals)))
      (λ older. ignored_shows h)

  passed_shown : (h : HostModel P) (e total : ℕ) (part : Part) (offset : ℕ) (r : Result Fetched ClientFault) → delivered_by_link (passes_on h e total part offset r).answer ≡ ends_by_link r
  passed_shown h e total part offset (Ok p) = cond_both (p.total == total) _ _ (λ (after : After P). delivered_by_link after.answer ≡ false) (λ same. refl) (λ other. refl)
  passed_shown h e total part offset (Err f) = refl

  gives_shows : (h : HostModel P) (e total : ℕ) (part : Part) (offset : ℕ) → Shows (gives h e total part offset)
  gives_shows h e total Record offset = record { shown = refl }
  gives_shows h e total Permanent offset = record { shown = passed_shown h e total Permanent offset }
  gives_shows h e total Volatile offset = record { shown = passed_shown h e total Volatile offset }
  gives_shows h e total Saved offset = record { shown = passed_shown h e total Saved offset }

  need_shows : (h : HostModel P) (s : MoveStage) (e : ℕ) (part : Part) (offset : ℕ) → Shows (on_need h s e part offset)
  need_shows h (Offering epoch totals) e part offset = cond_both _ _ _ Shows (λ fits. gives_shows h e (total_of totals part) part offset) (λ not_so. ignored_shows h)
  need_shows h Empty e part offset = ignored_shows h
  need_shows h Running e part offset = ignored_shows h
  need_shows h Draining e part offset = ignored_shows h
  need_shows h (Released epoch) e part offset = ignored_shows h
  need_shows h (Filling epoch totals next place) e part offset = ignored_shows h
  need_shows h (Prepared epoch) e part offset = ignored_shows h

  goes_shown : (h : HostModel P) (e : ℕ) (totals : List ℕ) (next : Option Part) → delivered_by_link (goes_to h e totals next).answer ≡ false
  goes_shown h e totals (Some part) = refl
  goes_shown h e totals None = refl

  took_shown : (h : HostModel P) (e : ℕ) (totals : List ℕ) (part : Part) (place : ℕ) (r : Result (Unit {0}) ClientFault) → delivered_by_link (took h e totals part place r).answer ≡ ends_by_link r
  took_shown h e totals part place (Ok done) =
      cond_both (nat_lt place (total_of totals part)) _ _ (λ (after : After P). delivered_by_link after.answer ≡ false) (λ more. refl) (λ full. goes_shown h e totals (part_after part))
  took_shown h e totals part place (Err f) = reason_same f

  loads_shown : (h : HostModel P) (e : ℕ) (totals bytes : List ℕ) (r : Result DeviceValues Malformed) → delivered_by_link (loads h e totals bytes r).answer ≡ false
  loads_shown h e totals bytes (Ok values) = refl
  loads_shown h e totals bytes (Err why) = refl

  takes_piece_shows : (h : HostModel P) (e : ℕ) (totals : List ℕ) (part : Part) (place : ℕ) (bytes : List ℕ) → Shows (takes_piece h e totals part place bytes)
  takes_piece_shows h e totals Record place bytes =
      cond_both (nat_lt place (total_of totals Record)) _ _ Shows (λ more. record { shown = refl }) (λ full. record { shown = loads_shown h e totals (h.record_bytes ++ bytes) })
  takes_piece_shows h e totals Permanent place bytes = record { shown = took_shown h e totals Permanent place }
  takes_piece_shows h e totals Volatile place bytes = record { shown = took_shown h e totals Volatile place }
  takes_piece_shows h e totals Saved place bytes =
      cond_both (nat_lt place (total_of totals Saved)) _ _ Shows (λ more. record { shown = took_shown h e totals Saved place }) (λ full. record { shown = took_shown h e totals Saved place })

  piece_shows : (h : HostModel P) (s : MoveStage) (e : ℕ) (part : Part) (offset : ℕ) (bytes : List ℕ) → Shows (on_piece h s e part offset bytes)
  piece_shows h (Filling epoch totals next place) e part offset bytes =
      cond_both _ _ _ Shows (λ fits. takes_piece_shows h e totals next (place + length bytes) bytes) (λ not_so. ignored_shows h)
  piece_shows h Empty e part offset bytes = ignored_shows h
  piece_shows h Running e part offset bytes = ignored_shows h
  piece_shows h Draining e part offset bytes = ignored_shows h
  piece_shows h (Offering epoch totals) e part offset bytes = ignored_shows h
  piece_shows h (Released epoch) e part offset bytes = ignored_shows h
  piece_shows h (Prepared epoch) e part offset bytes = ignored_shows h

  prepared_shows : (h : HostModel P) (s : MoveStage) (e : ℕ) → Shows (on_prepared h s e)
  prepared_shows h (Offering epoch totals) e = cond_both (epoch == e) _ _ Shows (λ same. record { shown = refl }) (λ not_so. ignored_shows h)
  prepared_shows h (Released epoch) e = cond_both (epoch == e) _ _ Shows (λ same. record { shown = refl }) (λ not_so. ignored_shows h)
  prepared_shows h Empty e = ignored_shows h
  prepared_shows h Running e = ignored_shows h
  prepared_shows h Draining e = ignored_shows h
  prepared_shows h (Filling epoch totals next place) e = ignored_shows h
  prepared_shows h (Prepared epoch) e = ignored_shows h

  commit_shows : (h : HostModel P) (s : MoveStage) (e : ℕ) → Shows (on_commit h s e)
  commit_shows h (Prepared epoch) e = cond_both (epoch == e) _ _ Shows (λ same. record { shown = refl }) (λ not_so. ignored_shows h)
  commit_shows h Empty e = ignored_shows h
  commit_shows h Running e = ignored_shows h
  commit_shows h Draining e = ignored_shows h
  commit_shows h (Offering epoch totals) e = ignored_shows h
  commit_shows h (Released epoch) e = ignored_shows h
  commit_shows h (Filling epoch totals next place) e = ignored_shows h

  abort_shows : (h : HostModel P) (s : MoveStage) (e : ℕ) → Shows (on_abort h s e)
  abort_shows h (Filling epoch totals next place) e = cond_both (epoch == e) _ _ Shows (λ same. record { shown = refl }) (λ not_so. ignored_shows h)
  abort_shows h (Prepared epoch) e = cond_both (epoch == e) _ _ Shows (λ same. record { shown = refl }) (λ not_so. ignored_shows h)
  abort_shows h Empty e = ignored_shows h
  abort_shows h Running e = ignored_shows h
  abort_shows h Draining e = ignored_shows h
  abort_shows h (Offering epoch totals) e = ignored_shows h
  abort_shows h (Released epoch) e = ignored_shows h

  refuse_shows : (h : HostModel P) (s : MoveStage) (e : ℕ) → Shows (on_refuse h s e)
  refuse_shows h (Offering epoch totals) e = cond_both (epoch == e) _ _ Shows (λ same. record { shown = refl }) (λ not_so. ignored_shows h)
  refuse_shows h Empty e = ignored_shows h
  refuse_shows h Running e = ignored_shows h
  refuse_shows h Draining e = ignored_shows h
  refuse_shows h (Released epoch) e = ignored_shows h
  refuse_shows h (Filling epoch totals next place) e = ignored_shows h
  refuse_shows h (Prepared epoch) e = ignored_shows h

  message_shows : (h : HostModel P) (e : ℕ) (says : Body) → Shows (on_message h e says)
  message_shows h e (body.Offer totals) = offer_shows h e totals
  message_shows h e (body.Need part offset) = need_shows h h.stage e part offset
  message_shows h e (body.Piece part offset bytes) = piece_shows h h.stage e part offset bytes
  message_shows h e body.Prepared = prepared_shows h h.stage e
  message_shows h e body.Commit = commit_shows h h.stage e
  message_shows h e body.Abort = abort_shows h h.stage e
  message_shows h e (body.Refuse why value) = refuse_shows h h.stage e

  delivered_shows : (h : HostModel P) (m : Message) → Shows (delivered h m)
  unfolding delivered
  delivered_shows h m = cond_both (is_same h.name m.to) _ _ Shows (λ mine. message_shows h m.epoch m.body) (λ other. ignored_shows h)

-- ---- calls

-- a delivery
pub delivery_counted : {P Schedule : Type 0} (port_view : P → PortView) (h : HostModel P) (m : Message) (w v : WiresView Schedule) (result : Result Delivered AllocError) (new : HostModel P)
    → IfOk result (λ answer. Follows port_view (delivered h m) w v answer new) → IfOk result (λ answer. CountsIf (delivered_by_link answer) w.faults v.faults)
delivery_counted port_view h m w v (Ok answer) new f = row_counted port_view (delivered h m) w v answer new (delivered_shows h m).shown f
delivery_counted port_view h m w v (Err failed) new f = tt

abbrev blobs : List Kind
blobs = kind.Permanent ∷ kind.Volatile ∷ kind.Saved ∷ []

end_counted : {P Schedule : Type 0} (port_view : P → PortView) (h : HostModel P) (w v : WiresView Schedule) (new : HostModel P) → EpochEnds port_view h w v new → v.faults ≡ w.faults
end_counted {P} {Schedule} port_view h w v new (Claimed number most same stops is) = ap (λ (u : WiresView Schedule). u.faults) same
end_counted {P} {Schedule} port_view h w v new (Unclaimed s) = ap (λ (u : WiresView Schedule). u.faults) s.offers.2

-- an offer
pub offer_counted : {P Schedule : Type 0} (port_view : P → PortView) (h : HostModel P) (w : WiresView Schedule) (answer : Result Offered OfferFault) (v : WiresView Schedule) (new : HostModel P)
    → Offers port_view h w answer v new → CountsIf (offered_by_link answer) w.faults v.faults
offer_counted port_view h w (Ok (offered.Sent m)) v new o = totals_counted blobs w v (Ok o.1.offers.1.totals) o.1.offers.1.asked
offer_counted {P} {Schedule} port_view h w (Ok (offered.Draining number)) v new o = ap (λ (u : WiresView Schedule). u.faults) o.2
offer_counted {P} {Schedule} port_view h w (Err fault.Stopped) v new o = ap (λ (u : WiresView Schedule). u.faults) o.1
offer_counted {P} {Schedule} port_view h w (Err fault.Device) v new o = ap (λ (u : WiresView Schedule). u.faults) o.1.offers.1
offer_counted {P} {Schedule} port_view h w (Err fault.EpochEnd) v new o = end_counted port_view h w v new o.1
offer_counted port_view h w (Err (fault.Wires f)) v new o = totals_counted blobs w v (Err f) o.1.offers.2

-- the offer of a host that drained
pub drain_counted : {P Schedule : Type 0} (port_view : P → PortView) (h : HostModel P) (w : WiresView Schedule) (answer : Result (Option Message) OfferFault) (v : WiresView Schedule) (new : HostModel P)
    → Drains port_view h w answer v new → CountsIf (drained_by_link answer) w.faults v.faults
drain_counted {P} {Schedule} port_view h w (Ok None) v new o = ap (λ (u : WiresView Schedule). u.faults) o.0
drain_counted port_view h w (Ok (Some m)) v new o = totals_counted blobs w v (Ok o.offers.1.totals) o.offers.1.asked
drain_counted port_view h w (Err fault.Stopped) v new o = absurd o
drain_counted {P} {Schedule} port_view h w (Err fault.Device) v new o = ap (λ (u : WiresView Schedule). u.faults) o.offers.1
drain_counted port_view h w (Err fault.EpochEnd) v new o = absurd o
drain_counted port_view h w (Err (fault.Wires f)) v new o = totals_counted blobs w v (Err f) o.offers.2
