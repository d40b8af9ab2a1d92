-- Each row of the table leaves a host in its place.
use Rattle.std.proofs.Common.{◌≡◌, ℕ, ◌+◌, ◌<◌, ◌≤◌, Bool, true, false, List, [], ◌++◌, length, Option, Some, None, Ok, Err, refl, sym, ap, subst, ◌∙◌, arith, length-append}
use Rattle.std.specs.Prelude.{Result, nat_lt, ◌==◌}
use Rattle.std.proofs.lemmas.Bool.{cond_both, eqb-true, ltb-true, and_parts}
use Rattle.vt_base.specs.declared.types.Malformed.{Malformed}
use Rattle.crb_port.specs.Views.{PortView}
use Rattle.crb_regs.specs.Registers.{is_executing}
use Rattle.crb_machine.specs.Values.{DeviceValues, held_values}
use Rattle.crb_machine.specs.Over.{GoesOnIf}
use Rattle.crb_machine.specs.Model.{DeviceModel}
use Rattle.device_record.specs.Records.{IsRecord}
use Rattle.ctrl_client.specs.declared.fault.ClientFault.{ClientFault}
use Rattle.move_codec.specs.declared.names.Part.{Part}
use Rattle.move_codec.specs.declared.names.Part.TheVariants.{Record, Permanent, Volatile, Saved}
use Rattle.move_codec.specs.declared.message.Message.{Message}
use Rattle.move_codec.specs.declared.message.Body.{Body}
use Rattle.move_codec.specs.declared.message.Body.TheVariants as body
use Rattle.move_core.specs.declared.stage.MoveStage.{MoveStage}
use Rattle.move_core.specs.declared.stage.MoveStage.TheVariants.{Empty, Running, Draining, Offering, Released, Filling, Prepared}
use Rattle.move_core.specs.declared.asking.Fetched.{Fetched}
use Rattle.move_core.specs.declared.answers.Delivered.{Delivered}
use Rattle.move_core.specs.Model.{HostModel}
use Rattle.move_core.specs.Sides.{holds_device, is_active, is_same, total_of, first_bad, part_after}
use Rattle.move_core.specs.Hosts.{AreTotals, HasPrefix, HasRecord, IsAtTop, MatchesSide, restored, Decodes}
use Rattle.move_core.specs.Requests.{WiresView}
use Rattle.move_core.specs.Table.{After, Row, ignored, emptied, takes_offer, begins, on_offer, passes_on, gives, on_need, wants, goes_to, took, loads, takes_piece, on_piece, on_prepared, on_commit, on_abort, on_refuse, on_message, delivered}
use Rattle.move_core.specs.Table.Row.{Ends, Stops, Fetches, Gives, GivesLast, Loads}
use Rattle.move_core.specs.Calls.{SettlesBy, EndsIn, Follows}
use Rattle.move_codec.specs.Encoding.{IsInRange}
use Rattle.move_core.proofs.Totals.{none_bad}

-- a host whose guest is about to run
record IsWaking {P : Type 0} (h : HostModel P) : Type 0 where
  runs : h.stage ≡ Running
  nothing : h.record_bytes ≡ []
  least : 1 ≤ h.piece
  most : h.piece ≤ 4096

abbrev EndsAs : {P : Type 0} → Bool → HostModel P → Type 0
EndsAs false h = MatchesSide h
EndsAs true h = IsWaking h

record EndsWell {P : Type 0} (after : After P) : Type 0 where
  well : EndsAs after.goes_on after.host

abbrev LeadsBy : {P : Type 0} → Row P → Type 0
LeadsBy (Ends after) = EndsWell after
LeadsBy (Stops next) = (r : Result (Unit {0}) ClientFault) → EndsWell (next r)
LeadsBy (Fetches kind offset next) = (r : Result Fetched ClientFault) → EndsWell (next r)
LeadsBy (Gives kind bytes next) = (r : Result (Unit {0}) ClientFault) → EndsWell (next r)
LeadsBy (GivesLast bytes next) = (r : Result (Unit {0}) ClientFault) → EndsWell (next r)
LeadsBy (Loads bytes next) = (r : Result DeviceValues Malformed) → Decodes bytes r → EndsWell (next r)

record LeadsWell {P : Type 0} (row : Row P) : Type 0 where
  led : LeadsBy row

-- ---- what was made is in its place

goes_on_runs : {P : Type 0} (executes : Bool) (port_view : P → PortView) (d e : DeviceModel P) → GoesOnIf executes port_view d e → e.held ≡ false
goes_on_runs true port_view d e went = ap (λ (x : DeviceModel _). x.held) went.0
goes_on_runs false port_view d e went = ap (λ (x : DeviceModel _). x.held) went

settled_placed : {P : Type 0} (goes : Bool) (port_view : P → PortView) (h new : HostModel P) → EndsAs goes h → SettlesBy goes port_view h new → MatchesSide new
settled_placed false port_view h new well is = subst MatchesSide (sym is) well
settled_placed true port_view h new well goes = subst MatchesSide (sym goes.rest) (record {
  held = goes_on_runs (is_executing h.device.regs.phase) port_view h.device new.device goes.device ∙ sym (ap (λ (s : MoveStage). holds_device s) well.runs);
  least = well.least;
  most = well.most;
  at_top = subst (λ (s : MoveStage). IsAtTop s h.top) (sym well.runs) tt;
  keeps = subst (λ (s : MoveStage). HasRecord s h.record_bytes new.device) (sym well.runs) well.nothing;
})

made_placed : {P : Type 0} (port_view : P → PortView) (after : After P) (answer : Delivered) (new : HostModel P) → EndsWell after → EndsIn port_view after answer new → MatchesSide new
made_placed port_view after answer new well made = settled_placed after.goes_on port_view after.host new well.well made.host_is

row_placed : {P Schedule : Type 0} (port_view : P → PortView) (row : Row P) (w v : WiresView Schedule) (answer : Delivered) (new : HostModel P) → LeadsBy row → Follows port_view row w v answer new → MatchesSide new
row_placed port_view (Ends after) w v answer new well follows = made_placed port_view after answer new well follows.1
row_placed port_view (Stops next) w v answer new well follows = made_placed port_view (next follows.0) answer new (well follows.0) follows.2
row_placed port_view (Fetches kind offset next) w v answer new well follows = made_placed port_view (next follows.0) answer new (well follows.0) follows.2
row_placed port_view (Gives kind bytes next) w v answer new well follows = made_placed port_view (next follows.0) answer new (well follows.0) follows.2
row_placed port_view (GivesLast bytes next) w v answer new well follows = made_placed port_view (next follows.0) answer new (well follows.0) follows.2
row_placed port_view (Loads bytes next) w v answer new well follows = made_placed port_view (next follows.0) answer new (well follows.0 follows.1) follows.3

-- ---- the rows

passive_still : (s : MoveStage) → is_active s ≡ false → holds_device s ≡ true
passive_still Empty passive = refl
passive_still Running passive = cc
passive_still Draining passive = cc
passive_still (Offering e totals) passive = cc
passive_still (Released e) passive = refl
passive_still (Filling e totals part place) passive = refl
passive_still (Prepared e) passive = refl

-- hosts whose device is held
record IsStill {P : Type 0} (h : HostModel P) : Type 0 where
  held : h.device.held ≡ true
  least : 1 ≤ h.piece
  most : h.piece ≤ 4096

emptied_well : {P : Type 0} (h : HostModel P) → IsStill h → MatchesSide (emptied h)
emptied_well h still = record { held = still.held; least = still.least; most = still.most; at_top = tt; keeps = refl }

begins_well : {P : Type 0} (h : HostModel P) (totals : List ℕ) (r : Result (Unit {0}) ClientFault) → IsStill h → AreTotals totals → EndsWell (begins h h.top totals r)
begins_well h totals (Ok done) still are = record { well = record { held = still.held; least = still.least; most = still.most; at_top = refl; keeps = (are, are.some Record, refl) } }
begins_well h totals (Err fault) still are = record { well = emptied_well h still }

takes_well : {P : Type 0} (h : HostModel P) (totals : List ℕ) (bad : Option ℕ) → first_bad totals ≡ bad → length totals ≡ 4 → IsStill h → LeadsWell (takes_offer h h.top totals bad)
takes_well h totals (Some bad) is four still = record { led = record { well = emptied_well h still } }
takes_well h totals None is four still = record { led = λ r. begins_well h totals r still (none_bad totals four is) }

wants_well : {P : Type 0} (h : HostModel P) (epoch : ℕ) (totals : List ℕ) (part : Part) (place : ℕ) → IsStill h → epoch ≡ h.top → AreTotals totals → place < total_of totals part → HasPrefix part place h.record_bytes h.device
    → EndsWell (wants h epoch totals part place)
wants_well h epoch totals part place still top are lt prefix = record { well = record { held = still.held; least = still.least; most = still.most; at_top = top; keeps = (are, lt, prefix) } }

-- the part behind one that is whole is wanted
goes_well : {P : Type 0} (h : HostModel P) (epoch : ℕ) (totals : List ℕ) (part : Part) → IsStill h → epoch ≡ h.top → AreTotals totals → IsRecord h.record_bytes (held_values h.device)
    → EndsWell (goes_to h epoch totals (part_after part))
goes_well h epoch totals Record still top are is = wants_well h epoch totals Permanent 0 still top are (are.some Permanent) is
goes_well h epoch totals Permanent still top are is = wants_well h epoch totals Volatile 0 still top are (are.some Volatile) is
goes_well h epoch totals Volatile still top are is = wants_well h epoch totals Saved 0 still top are (are.some Saved) is
goes_well h epoch totals Saved still top are is = record { well = record { held = still.held; least = still.least; most = still.most; at_top = top; keeps = is } }

took_well : {P : Type 0} (h : HostModel P) (epoch : ℕ) (totals : List ℕ) (part : Part) (place : ℕ) (r : Result (Unit {0}) ClientFault) → IsStill h → epoch ≡ h.top → AreTotals totals
    → IsRecord h.record_bytes (held_values h.device) → HasPrefix part place h.record_bytes h.device → EndsWell (took h epoch totals part place r)
took_well h epoch totals part place (Ok done) still top are is prefix =
    cond_both (nat_lt place (total_of totals part)) _ _ EndsWell
    (λ lt. wants_well h epoch totals part place still top are (ltb-true place _ lt) prefix)
    (λ full. goes_well h epoch totals part still top are is)
took_well h epoch totals part place (Err fault) still top are is prefix = record { well = emptied_well h still }

loads_well : {P : Type 0} (h : HostModel P) (epoch : ℕ) (totals bytes : List ℕ) (r : Result DeviceValues Malformed) → IsStill h → epoch ≡ h.top → AreTotals totals → Decodes bytes r → EndsWell (loads h epoch totals bytes r)
loads_well h epoch totals bytes (Ok v) still top are is_said =
    goes_well (record h { record_bytes = bytes; device = restored v h.device }) epoch totals Record (record { held = still.held; least = still.least; most = still.most }) top are is_said
loads_well h epoch totals bytes (Err fault) still top are is_said = record { well = emptied_well h still }

takes_piece_well : {P : Type 0} (h : HostModel P) (epoch : ℕ) (totals : List ℕ) (next : Part) (place : ℕ) (bytes : List ℕ) → IsStill h → epoch ≡ h.top → AreTotals totals → HasPrefix next place h.record_bytes h.device
    → LeadsWell (takes_piece h epoch totals next (place + length bytes) bytes)
takes_piece_well h epoch totals Record place bytes still top are prefix =
    cond_both (nat_lt (place + length bytes) (total_of totals Record)) _ _ LeadsWell
    (λ lt. record { led = wants_well (record h { record_bytes = h.record_bytes ++ bytes }) epoch totals Record (place + length bytes) (record { held = still.held; least = still.least; most = still.most }) top are (ltb-true _ _ lt) (omega (arith, length-append h.record_bytes bytes, prefix)) })
    (λ full. record { led = λ r is_said. loads_well h epoch totals (h.record_bytes ++ bytes) r still top are is_said })
takes_piece_well h epoch totals Permanent place bytes still top are prefix = record { led = λ r. took_well h epoch totals Permanent (place + length bytes) r still top are prefix prefix }
takes_piece_well h epoch totals Volatile place bytes still top are prefix = record { led = λ r. took_well h epoch totals Volatile (place + length bytes) r still top are prefix prefix }
takes_piece_well h epoch totals Saved place bytes still top are prefix =
    cond_both (nat_lt (place + length bytes) (total_of totals Saved)) _ _ LeadsWell
    (λ lt. record { led = λ r. took_well h epoch totals Saved (place + length bytes) r still top are prefix prefix })
    (λ full. record { led = λ r. took_well h epoch totals Saved (place + length bytes) r still top are prefix prefix })

module _ {P : Type 0} (h : HostModel P) (placed : MatchesSide h) where
  same_well : (answer : Delivered) → EndsWell (record { host = h; answer = answer; goes_on = false })
  same_well answer = record { well = placed }

  ignored_well : LeadsWell (ignored h)
  ignored_well = record { led = same_well _ }

  still_at : (s : MoveStage) → h.stage ≡ s → holds_device s ≡ true → IsStill h
  still_at s is still = record { held = placed.held ∙ ap (λ (s : MoveStage). holds_device s) is ∙ still; least = placed.least; most = placed.most }

  keeps_at : (s : MoveStage) → h.stage ≡ s → HasRecord s h.record_bytes h.device
  keeps_at s is = subst (λ (s : MoveStage). HasRecord s h.record_bytes h.device) is placed.keeps

  top_at : (s : MoveStage) → h.stage ≡ s → IsAtTop s h.top
  top_at s is = subst (λ (s : MoveStage). IsAtTop s h.top) is placed.at_top

  offer_well : (e : ℕ) (totals : List ℕ) → length totals ≡ 4 → LeadsWell (on_offer h e totals)
  offer_well e totals four =
      cond_both (nat_lt h.top e) _ _ LeadsWell
      (λ newer. cond_both (is_active h.stage) _ _ LeadsWell
      (λ active. record { led = same_well _ })
      (λ passive. takes_well (record h { top = e }) totals (first_bad totals) refl four (let still = still_at h.stage refl (passive_still h.stage passive) in record { held = still.held; least = still.least; most = still.most })))
      (λ older. ignored_well)

  passed_well : (e total : ℕ) (part : Part) (offset : ℕ) (r : Result Fetched ClientFault) → EndsWell (passes_on h e total part offset r)
  passed_well e total part offset (Ok p) = cond_both (p.total == total) _ _ EndsWell (λ same. same_well _) (λ other. same_well _)
  passed_well e total part offset (Err fault) = same_well _

  gives_well : (e total : ℕ) (part : Part) (offset : ℕ) → LeadsWell (gives h e total part offset)
  gives_well e total Record offset = record { led = same_well _ }
  gives_well e total Permanent offset = record { led = passed_well e total Permanent offset }
  gives_well e total Volatile offset = record { led = passed_well e total Volatile offset }
  gives_well e total Saved offset = record { led = passed_well e total Saved offset }

  need_well : (s : MoveStage) (e : ℕ) (part : Part) (offset : ℕ) → LeadsWell (on_need h s e part offset)
  need_well (Offering epoch totals) e part offset = cond_both _ _ _ LeadsWell (λ fits. gives_well e (total_of totals part) part offset) (λ not_so. ignored_well)
  need_well Empty e part offset = ignored_well
  need_well Running e part offset = ignored_well
  need_well Draining e part offset = ignored_well
  need_well (Released epoch) e part offset = ignored_well
  need_well (Filling epoch totals next place) e part offset = ignored_well
  need_well (Prepared epoch) e part offset = ignored_well

  piece_well : (s : MoveStage) (e : ℕ) (part : Part) (offset : ℕ) (bytes : List ℕ) → h.stage ≡ s → LeadsWell (on_piece h s e part offset bytes)
  piece_well (Filling epoch totals next place) e part offset bytes is =
      cond_both _ _ _ LeadsWell
      (λ fits. let keeps = keeps_at _ is in
      takes_piece_well h e totals next place bytes (still_at _ is refl) (sym (eqb-true epoch e (and_parts _ _ fits).0) ∙ top_at _ is) keeps.0 keeps.2)
      (λ not_so. ignored_well)
  piece_well Empty e part offset bytes is = ignored_well
  piece_well Running e part offset bytes is = ignored_well
  piece_well Draining e part offset bytes is = ignored_well
  piece_well (Offering epoch totals) e part offset bytes is = ignored_well
  piece_well (Released epoch) e part offset bytes is = ignored_well
  piece_well (Prepared epoch) e part offset bytes is = ignored_well

  prepared_well : (s : MoveStage) (e : ℕ) → h.stage ≡ s → LeadsWell (on_prepared h s e)
  prepared_well (Offering epoch totals) e is = cond_both (epoch == e) _ _ LeadsWell
      (λ same. let still = still_at _ is refl in
      record { led = record { well = record { held = still.held; least = still.least; most = still.most; at_top = sym (eqb-true epoch e same) ∙ top_at _ is; keeps = refl } } })
      (λ not_so. ignored_well)
  prepared_well (Released epoch) e is = cond_both (epoch == e) _ _ LeadsWell (λ same. record { led = same_well _ }) (λ not_so. ignored_well)
  prepared_well Empty e is = ignored_well
  prepared_well Running e is = ignored_well
  prepared_well Draining e is = ignored_well
  prepared_well (Filling epoch totals next place) e is = ignored_well
  prepared_well (Prepared epoch) e is = ignored_well

  commit_well : (s : MoveStage) (e : ℕ) → LeadsWell (on_commit h s e)
  commit_well (Prepared epoch) e = cond_both (epoch == e) _ _ LeadsWell
      (λ same. record { led = record { well = record { runs = refl; nothing = refl; least = placed.least; most = placed.most } } })
      (λ not_so. ignored_well)
  commit_well Empty e = ignored_well
  commit_well Running e = ignored_well
  commit_well Draining e = ignored_well
  commit_well (Offering epoch totals) e = ignored_well
  commit_well (Released epoch) e = ignored_well
  commit_well (Filling epoch totals next place) e = ignored_well

  refuse_well : (s : MoveStage) (e : ℕ) → LeadsWell (on_refuse h s e)
  refuse_well (Offering epoch totals) e = cond_both (epoch == e) _ _ LeadsWell
      (λ same. record { led = record { well = record { runs = refl; nothing = refl; least = placed.least; most = placed.most } } })
      (λ not_so. ignored_well)
  refuse_well Empty e = ignored_well
  refuse_well Running e = ignored_well
  refuse_well Draining e = ignored_well
  refuse_well (Prepared epoch) e = ignored_well
  refuse_well (Released epoch) e = ignored_well
  refuse_well (Filling epoch totals next place) e = ignored_well

  abort_well : (s : MoveStage) (e : ℕ) → h.stage ≡ s → LeadsWell (on_abort h s e)
  abort_well (Filling epoch totals next place) e is = cond_both (epoch == e) _ _ LeadsWell (λ same. record { led = record { well = emptied_well h (still_at _ is refl) } }) (λ not_so. ignored_well)
  abort_well (Prepared epoch) e is = cond_both (epoch == e) _ _ LeadsWell (λ same. record { led = record { well = emptied_well h (still_at _ is refl) } }) (λ not_so. ignored_well)
  abort_well Empty e is = ignored_well
  abort_well Running e is = ignored_well
  abort_well Draining e is = ignored_well
  abort_well (Offering epoch totals) e is = ignored_well
  abort_well (Released epoch) e is = ignored_well

  message_well : (e : ℕ) (says : Body) → IsInRange says → LeadsWell (on_message h e says)
  message_well e (body.Offer totals) four = offer_well e totals four.0
  message_well e (body.Need part offset) four = need_well h.stage e part offset
  message_well e (body.Piece part offset bytes) four = piece_well h.stage e part offset bytes refl
  message_well e body.Prepared four = prepared_well h.stage e refl
  message_well e body.Commit four = commit_well h.stage e
  message_well e body.Abort four = abort_well h.stage e refl
  message_well e (body.Refuse why value) four = refuse_well h.stage e

  delivered_well : (m : Message) → IsInRange m.body → LeadsWell (delivered h m)
  unfolding delivered
  delivered_well m four = cond_both (is_same h.name m.to) _ _ LeadsWell (λ mine. message_well m.epoch m.body four) (λ other. ignored_well)

-- a delivery leaves the host in its place
pub delivered_placed : {P Schedule : Type 0} (port_view : P → PortView) (h : HostModel P) (m : Message) (w v : WiresView Schedule) (answer : Delivered) (new : HostModel P)
    → MatchesSide h → IsInRange m.body → Follows port_view (delivered h m) w v answer new → MatchesSide new
delivered_placed port_view h m w v answer new placed four follows = row_placed port_view (delivered h m) w v answer new (delivered_well h placed m four).led follows
