-- How a move from hand to hand begins.
use Rattle.std.proofs.Common.{◌≡◌, ◌≢◌, ℕ, suc, ◌⊎◌, inl, inr, ◌+◌, ◌*◌, ◌<◌, ◌≤◌, Bool, true, false, List, [], ◌∷◌, length, Option, Some, None, Ok, Err, refl, sym, ap, subst, ◌∙◌, arith}
use Rattle.std.specs.Prelude.{Result, IfSome, ◌^◌, if◌then◌else◌, nat_lt, nat_le, ◌==◌, not, is_some, option_map}
use Rattle.std.proofs.lemmas.Bool.{cond-true, cond-false, lt-ltb, le-leb, and_from}
use Rattle.vt_base.specs.declared.types.Kind.{Kind}
use Rattle.vt_base.specs.declared.types.Kind.TheVariants as kind
use Rattle.crb_port.specs.Views.{PortView}
use Rattle.crb_machine.specs.Values.{DeviceValues, AreValid, held_values}
use Rattle.crb_port.specs.Views.{stage_of, waiting_stage}
use Rattle.crb_port.specs.Calls.{Found}
use Rattle.crb_port.specs.declared.job.PortStage.{PortStage}
use Rattle.crb_port.specs.declared.job.PortStage.TheVariants as stages
use Rattle.crb_port.specs.declared.job.PortState.{PortState}
use Rattle.crb_port.specs.declared.job.PortState.TheVariants as at_port
use Rattle.crb_regs.specs.Registers.{is_lost}
use Rattle.crb_machine.specs.State.{DeviceState}
use Rattle.crb_machine.specs.State.Slot.{Claimed}
use Rattle.crb_machine.specs.Steps.{collected}
use Rattle.crb_machine.specs.Values.{values_at}
use Rattle.crb_machine.specs.Over.{Stops as DeviceStops, IsConsistentDevice, IsBusy, BringsBackAt, state_of, slot_at, placed as placed_at}
use Rattle.crb_machine.specs.Model.{DeviceModel}
use Rattle.device_record.specs.Records.{before, trimmed, encode_record}
use Rattle.tpm_core.specs.declared.parts.TpmParts.{TpmParts}
use Rattle.tpm_core.specs.Steps.{IsValid}
use Rattle.state_blobs.specs.Numbers.{largest_blob}
use Rattle.state_blobs.specs.Encodings.{encode_blob}
use Rattle.ctrl_client.specs.declared.fault.ClientFault.{ClientFault}
use Rattle.ctrl_model.specs.Emulator.{EmulatorState}
use Rattle.ctrl_model.specs.Link.{Link}
use Rattle.ctrl_client.specs.Exchange.{IsQuiet}
use Rattle.ctrl_client.specs.Pieces.{HasField}
use Rattle.vt_base.specs.declared.types.HostName.{HostName}
use Rattle.move_codec.specs.declared.names.Part.TheVariants.{Record, Permanent, Volatile, Saved}
use Rattle.move_codec.specs.declared.message.Message.{Message}
use Rattle.move_codec.specs.declared.message.Body.TheVariants as body
use Rattle.move_core.specs.declared.stage.MoveStage.{MoveStage}
use Rattle.move_core.specs.declared.stage.MoveStage.TheVariants.{Empty, Running, Draining, Offering, Released, Filling, Prepared}
use Rattle.move_core.specs.declared.answers.Delivered.{Delivered}
use Rattle.move_core.specs.declared.answers.Delivered.TheVariants as delivers
use Rattle.move_core.specs.Model.{HostModel}
use Rattle.move_core.specs.Sides.{is_same, is_active, is_running, holds_device, is_bad, first_bad}
use Rattle.move_core.specs.declared.answers.OfferFault.{OfferFault}
use Rattle.move_core.specs.declared.answers.OfferFault.TheVariants as fault
use Rattle.move_core.specs.Hosts.{IsConsistentHost, IsAtTop}
use Rattle.move_core.specs.Requests.{WiresView, GetsTotals, ThenGets, total_in, before as first_of}
use Rattle.move_core.specs.Table as table
use Rattle.move_core.specs.Table.{Row, ignored, takes_offer}
use Rattle.move_core.specs.Table.Row.{Stops}
use Rattle.move_core.specs.declared.answers.Offered.TheVariants as offer
use Rattle.move_core.specs.Calls.{Follows, EndsIn, HasBytes, IsNeed, Offers, EpochEnds}
use Rattle.move_core.specs.Calls.EpochEnds.{Claimed as WhileClaimed, Unclaimed}
use Rattle.hand_over.specs.Parts.{Parts, PieceSizes, size_for, lengths, nothing}
use Rattle.move_codec.specs.declared.names.Part.{Part}
use Rattle.move_core.specs.declared.side.Side.{Side}
use Rattle.move_core.specs.declared.side.Side.TheVariants as side
use Rattle.hand_over.specs.Host.{HostState, with_content, After, other}
use Rattle.hand_over.specs.Host as model
use Rattle.hand_over.specs.Bridge.{port_state, model_of, IsReady, StandsFor, IsOffer}
use Rattle.hand_over.specs.Fine.{IsFineFor, IsUndisturbed, offered_by}
use Rattle.hand_over.specs.Moving.{fills, AreMoving, to_source}
use Rattle.hand_over.specs.Moving.ToSource.{NeedComes}
use Rattle.hand_over.specs.Start.{OfferComes, to_begin, CanStop, CanMove, emptied}
use Rattle.hand_over.specs.Counts.{blob_piece, tpm_behind, commands_at, sizes_at, parts_at, pieces_from, messages_left}
use Rattle.hand_over.proofs.Ceilings.{left_all}
use Rattle.hand_over.proofs.Pieces.{sent_sure}
use Rattle.hand_over.proofs.Turns.{same}
use Rattle.hand_over.proofs.Offering.{offered, link_after}
use Rattle.hand_over.proofs.Undisturbed.{FieldsFor, fetched_still, still}
use Rattle.hand_over.proofs.Commanding.{commands_kept}
use Rattle.hand_over.proofs.Hands.{AreSure, either, NeedsNoField}

-- ---- how long what is offered is

before_within : (b : ℕ) (xs : List ℕ) → length (before b xs) ≤ 1 + length xs
before_within b [] = either (b == 0) [] (b ∷ []) (λ (xs : List ℕ). length xs ≤ 1) (omega arith) (omega arith)
before_within b (x ∷ xs) = omega arith

trimmed_within : (xs : List ℕ) → length (trimmed xs) ≤ length xs
trimmed_within [] = omega arith
trimmed_within (x ∷ xs) = omega (arith, before_within x (trimmed xs), trimmed_within xs)

pub record_most : (v : DeviceValues) → AreValid v → length (encode_record v) ≤ 4096
unfolding encode_record
record_most v fit = omega (arith, trimmed_within v.content, fit.size)

record_some : (v : DeviceValues) → 0 < length (encode_record v)
unfolding encode_record
record_some v = omega arith

can_be : (n : ℕ) → 0 < n → n ≤ 4096 → is_bad n ≡ false
can_be n some most = ap not (and_from (nat_lt 0 n) (nat_le n 4096) (lt-ltb 0 n some) (le-leb n 4096 most))

none_bad : (a b c d : ℕ) → is_bad a ≡ false → is_bad b ≡ false → is_bad c ≡ false → is_bad d ≡ false → first_bad (a ∷ b ∷ c ∷ d ∷ []) ≡ None
none_bad a b c d fa fb fc fd =
    cond-false (is_bad a) _ _ fa ∙ cond-false (is_bad b) _ _ fb ∙ cond-false (is_bad c) _ _ fc ∙ cond-false (is_bad d) _ _ fd

-- what is known of the lengths of blobs
pub record BlobSizes : Type 0 where
  pub least : (k : Kind) (t : TpmParts) → 10 ≤ length (encode_blob k t)
  pub most : (k : Kind) (t : TpmParts) → IsValid t → length (encode_blob k t) ≤ largest_blob

offer_good : BlobSizes → (values : DeviceValues) (tpm : TpmParts) → AreValid values → IsValid tpm → first_bad (lengths (offered_by values tpm)) ≡ None
offer_good sizes values tpm fit fit_too =
    none_bad (length (encode_record values)) (length (encode_blob kind.Permanent tpm)) (length (encode_blob kind.Volatile tpm)) (length (encode_blob kind.Saved tpm))
    (can_be _ (record_some values) (record_most values fit)) (blob_can kind.Permanent) (blob_can kind.Volatile) (blob_can kind.Saved)
  where
    blob_can : (k : Kind) → is_bad (length (encode_blob k tpm)) ≡ false
    blob_can k = can_be (length (encode_blob k tpm)) (omega (arith, sizes.least k tpm)) (omega (arith, sizes.most k tpm fit_too))

-- ---- the target takes the offer

offer_answered : (n k : HostName) (size : PieceSizes) (e : ℕ) (parts : Parts) (y : HostState) → other n ≡ k → model.is_active y.side ≡ false → y.top < e → first_bad (lengths parts) ≡ None
    → model.delivered k size y (model.message_from n e (body.Offer (lengths parts))) None ≡ record { host = fills e parts Record 0; answer = delivers.Sent (model.message_from k e (body.Need Record 0)) }
offer_answered n k size e parts y me rests newer good =
    cond-true (is_same k (other n)) _ _ (ap (is_same k) me ∙ same k)
    ∙ cond-true (nat_lt y.top e) _ _ (lt-ltb y.top e newer)
    ∙ cond-false (model.is_active y.side) _ _ rests
    ∙ ap (λ (bad : Option ℕ). model.takes_offer k y e (lengths parts) bad None) good

active_is : {P : Type 0} (s : MoveStage) (h : HostModel P) (d : EmulatorState) (y : HostState) → model_of s h d y ≡ y → is_active s ≡ model.is_active y.side
active_is Empty h d y is = ap (λ (g : HostState). model.is_active g.side) is
active_is Running h d y is = ap (λ (g : HostState). model.is_active g.side) is
active_is Draining h d y is = ap (λ (g : HostState). model.is_active g.side) is
active_is (Offering e totals) h d y is = ap (λ (g : HostState). model.is_active g.side) is
active_is (Released e) h d y is = ap (λ (g : HostState). model.is_active g.side) is
active_is (Filling e totals part place) h d y is = ap (λ (g : HostState). model.is_active g.side) is
active_is (Prepared e) h d y is = ap (λ (g : HostState). model.is_active g.side) is

top_is : {P : Type 0} (s : MoveStage) (h : HostModel P) (d : EmulatorState) (y : HostState) → model_of s h d y ≡ y → h.top ≡ y.top
top_is Empty h d y is = ap (λ (g : HostState). g.top) is
top_is Running h d y is = ap (λ (g : HostState). g.top) is
top_is Draining h d y is = ap (λ (g : HostState). g.top) is
top_is (Offering e totals) h d y is = ap (λ (g : HostState). g.top) is
top_is (Released e) h d y is = ap (λ (g : HostState). g.top) is
top_is (Filling e totals part place) h d y is = ap (λ (g : HostState). g.top) is
top_is (Prepared e) h d y is = ap (λ (g : HostState). g.top) is

takes_none : {P : Type 0} (h : HostModel P) (l : Link) (e : ℕ) (totals : List ℕ) (bad : Option ℕ) → NeedsNoField l (takes_offer h e totals bad)
takes_none h l e totals (Some bad) = record { none = tt }
takes_none h l e totals None = record { none = tt }

offer_none : {P : Type 0} (h : HostModel P) (l : Link) (n : HostName) (e : ℕ) (totals : List ℕ) (m : Message) → m ≡ model.message_from n e (body.Offer totals) → FieldsFor (table.delivered h m) l
unfolding table.delivered
offer_none h l n e totals m is =
    subst (λ (m : Message). FieldsFor (if is_same h.name m.to then table.on_message h m.epoch m.body else ignored h) l) (sym is)
    (either (is_same h.name (other n)) _ _ (NeedsNoField l)
    (either (nat_lt h.top e) _ _ (NeedsNoField l) (either (is_active h.stage) _ _ (NeedsNoField l) (record { none = tt }) (takes_none (record h { top = e }) l e totals (first_bad totals))) (record { none = tt }))
    (record { none = tt })).none

pub offer_bytes : (e : ℕ) (parts : Parts) (n : HostName) (x y : HostState) (m : Message) → OfferComes e parts n x y m → HasBytes m.body
offer_bytes e parts n x y m o = subst (λ (m : Message). HasBytes m.body) (sym o.says) tt

pub offer_no_need : (e : ℕ) (parts : Parts) (n : HostName) (x y : HostState) (m : Message) → OfferComes e parts n x y m → IsNeed m.body → ⊥
offer_no_need e parts n x y m o need = subst (λ (m : Message). IsNeed m.body) o.says need

-- A target that neither runs nor offers takes a new offer as an empty one does.
record TakesAsEmpty {P Schedule : Type 0} (port_view : P → PortView) (h new : HostModel P) (e : ℕ) (m : Message) (v after : WiresView Schedule) (answer : Delivered) : Type 0 where
  follows : Follows port_view (table.delivered (emptied h) m) v after answer new
  rest : new ≡ record h { top = e; stage = new.stage; record_bytes = new.record_bytes }

as_empty : {P Schedule : Type 0} (port_view : P → PortView) (h new : HostModel P) (n : HostName) (e : ℕ) (totals : List ℕ) (v after : WiresView Schedule) (answer : Delivered) → other n ≡ h.name → is_active h.stage ≡ false → h.top < e → first_bad totals ≡ None
    → Follows port_view (table.delivered h (model.message_from n e (body.Offer totals))) v after answer new → TakesAsEmpty port_view h new e (model.message_from n e (body.Offer totals)) v after answer
unfolding table.delivered
as_empty {P} {Schedule} port_view h new n e totals v after answer me rests newer good follows =
    let row : (if is_same h.name (other n) then table.on_offer h e totals else ignored h) ≡ Stops (table.begins (record h { top = e }) e totals) =
    cond-true (is_same h.name (other n)) _ _ (ap (is_same h.name) me ∙ same h.name)
    ∙ cond-true (nat_lt h.top e) _ _ (lt-ltb h.top e newer)
    ∙ cond-false (is_active h.stage) _ _ rests
    ∙ ap (takes_offer (record h { top = e }) e totals) good in
    let empty : (if is_same h.name (other n) then table.on_offer (emptied h) e totals else ignored (emptied h)) ≡ Stops (table.begins (record (emptied h) { top = e }) e totals) =
    cond-true (is_same h.name (other n)) _ _ (ap (is_same h.name) me ∙ same h.name)
    ∙ cond-true (nat_lt h.top e) _ _ (lt-ltb h.top e newer)
    ∙ ap (takes_offer (record (emptied h) { top = e }) e totals) good in
    let f = subst (λ (r : Row P). Follows port_view r v after answer new) row follows in
    record {
      follows = subst (λ (r : Row P). Follows port_view r v after answer new) (sym empty) (f.0, f.1, alike f.0 f.2);
      rest = by f.0 f.2;
    }
  where
    alike : (r : Result (Unit {0}) ClientFault) → EndsIn port_view (table.begins (record h { top = e }) e totals r) answer new → EndsIn port_view (table.begins (record (emptied h) { top = e }) e totals r) answer new
    alike (Ok done) made = record { answer_is = made.answer_is; host_is = made.host_is }
    alike (Err fault) made = record { answer_is = made.answer_is; host_is = made.host_is }

    by : (r : Result (Unit {0}) ClientFault) → EndsIn port_view (table.begins (record h { top = e }) e totals r) answer new → new ≡ record h { top = e; stage = new.stage; record_bytes = new.record_bytes }
    by (Ok done) made = subst (λ (n : HostModel P). n ≡ record h { top = e; stage = n.stage; record_bytes = n.record_bytes }) (sym made.host_is) refl
    by (Err fault) made = subst (λ (n : HostModel P). n ≡ record h { top = e; stage = n.stage; record_bytes = n.record_bytes }) (sym made.host_is) refl

-- the epoch of an offer is the source's top
pub offering_top : {P : Type 0} (s : MoveStage) (h : HostModel P) (d : EmulatorState) (x : HostState) (e : ℕ) → model_of s h d x ≡ x → x.side ≡ side.Offering e → IsAtTop s h.top → e ≡ h.top
offering_top (Offering epoch totals) h d x e is at top = let a = ap (λ (g : HostState). g.side) is ∙ at in let same : epoch ≡ e = cc in sym same ∙ top
offering_top Empty h d x e is at top = absurd (let a = ap (λ (g : HostState). g.side) is ∙ at in cc)
offering_top Running h d x e is at top = absurd (let a = ap (λ (g : HostState). g.side) is ∙ at in cc)
offering_top Draining h d x e is at top = absurd (let a = ap (λ (g : HostState). g.side) is ∙ at in cc)
offering_top (Released epoch) h d x e is at top = absurd (let a = ap (λ (g : HostState). g.side) is ∙ at in cc)
offering_top (Filling epoch totals part place) h d x e is at top = absurd (let a = ap (λ (g : HostState). g.side) is ∙ at in cc)
offering_top (Prepared epoch) h d x e is at top = absurd (let a = ap (λ (g : HostState). g.side) is ∙ at in cc)

-- what taking an offer leads to
pub record OfferTaken {P Schedule : Type 0} (port_view : P → PortView) (source : HostModel P) (w : WiresView Schedule) (target new : HostModel P) (was v : WiresView Schedule) (m : Message) (answer : Delivered) : Type 0 where
  pub reply : Message
  pub says : answer ≡ delivers.Sent reply
  pub moving : AreMoving port_view (to_source reply) source w new v
  pub rest : new ≡ record target { top = source.top; stage = new.stage; record_bytes = new.record_bytes }
  pub pieces : blob_piece v.link ≡ blob_piece was.link
  pub commands : commands_at v.link ≡ commands_at was.link
  pub count : suc (messages_left source w.link reply) ≡ messages_left source w.link m

pub offer_taken : {P Schedule : Type 0} (port_view : P → PortView) → AreSure Schedule port_view → BlobSizes
    → (source : HostModel P) (w : WiresView Schedule) (target new : HostModel P) (v after : WiresView Schedule) (m : Message) (answer : Delivered) → is_active target.stage ≡ false
    → AreMoving port_view (to_begin m) source w (emptied target) v → Follows port_view (table.delivered target m) v after answer new → IsConsistentHost port_view new → new.name ≡ target.name
    → OfferTaken port_view source w target new v after m answer
offer_taken {P} {Schedule} port_view succeeds_if_promised sizes source w target new v after m answer rests a follows consistent name =
    let parts = offered_by a.values a.tpm in
    let good = offer_good sizes a.values a.tpm a.fit a.fit_too in
    let takes = as_empty port_view target new source.name a.epoch (lengths parts) v after answer (sym a.names) rests
    (omega (arith, top_is Empty (emptied target) a.to.emulator a.y a.target_stands.host, a.turn.newer)) good (subst (λ (m : Message). Follows port_view (table.delivered target m) v after answer new) a.turn.says follows) in
    let as_empty = subst (λ (m : Message). Follows port_view (table.delivered (emptied target) m) v after answer new) (sym a.turn.says) takes.follows in
    let step = succeeds_if_promised a.their (emptied target) new m v after a.to a.y answer a.to_is a.to_fine a.target_stands a.target_consistent.matches_side (offer_bytes a.epoch parts source.name a.x a.y m a.turn)
    (subst (λ (m : Message). IsFineFor m.body Empty (emptied target) a.to.emulator) (sym a.turn.says) (refl, good)) as_empty in
    let row = ap (λ (m : Message). model.delivered target.name a.their a.y m None) a.turn.says ∙ offer_answered source.name target.name a.their a.epoch parts a.y (sym a.names) a.turn.rests a.turn.newer good in
    let reply = model.message_from target.name a.epoch (body.Need Record 0) in
    let top = offering_top source.stage source a.from.emulator a.x a.epoch a.source_stands.host a.turn.source.side a.source_consistent.matches_side.at_top in
    record {
      reply = reply;
      says = step.answer_is ∙ ap (λ (x : After). x.answer) row;
      rest = takes.rest ∙ ap (λ (e : ℕ). record target { top = e; stage = new.stage; record_bytes = new.record_bytes }) top;
      pieces = ap blob_piece step.is_link ∙ step.stands.blob_pieces ∙ sym a.target_stands.blob_pieces ∙ sym (ap blob_piece a.to_is);
      commands =
          commands_kept port_view (table.delivered (emptied target) m) v after a.to answer new a.to_is a.target_stands.quiet (offer_none (emptied target) a.to source.name a.epoch (lengths parts) m a.turn.says) as_empty
          ∙ sym (ap commands_at a.to_is);
      count =
          omega (arith, left_all (sizes_at source w.link) (parts_at source w.link))
          ∙ ap (λ (m : Message). messages_left source w.link m) (sym a.turn.says);
      moving = record {
        size = a.size;
        their = a.their;
        epoch = a.epoch;
        values = a.values;
        tpm = a.tpm;
        fit = a.fit;
        fit_too = a.fit_too;
        least = a.least;
        most = a.most;
        x = a.x;
        y = fills a.epoch parts Record 0;
        from = a.from;
        to = step.link;
        from_is = a.from_is;
        to_is = step.is_link;
        from_fine = a.from_fine;
        to_fine = still port_view (table.delivered (emptied target) m) v after a.to answer new a.to_is a.target_stands.quiet a.to_fine (offer_none (emptied target) a.to source.name a.epoch (lengths parts) m a.turn.says) as_empty;
        source_stands = a.source_stands;
        target_stands = subst (λ (g : HostState). StandsFor a.their new step.link g) (ap (λ (x : After). x.host) row) step.stands;
        source_consistent = a.source_consistent;
        target_consistent = consistent;
        names = name ∙ a.names;
        held = a.held;
        has = a.has;
        turn = subst (λ (k : HostName). to_source reply a.size a.epoch parts source.name k a.x (fills a.epoch parts Record 0)) (sym name)
            (NeedComes Record 0 a.turn.source refl (record_some a.values) refl);
      };
    }

pub offer_goes_on : {P Schedule : Type 0} (port_view : P → PortView) (source : HostModel P) (w : WiresView Schedule) (target new : HostModel P) (was v : WiresView Schedule) (m : Message) (answer : Delivered) (reply : Message) → answer ≡ delivers.Sent reply
    → OfferTaken port_view source w target new was v m answer → AreMoving port_view (to_source reply) source w new v × (suc (messages_left source w.link reply) ≡ messages_left source w.link m)
offer_goes_on {P} {Schedule} port_view source w target new was v m answer reply said taken =
    let alike : taken.reply ≡ reply = let e = sym taken.says ∙ said in cc in
    (subst (λ (m : Message). AreMoving port_view (to_source m) source w new v) alike taken.moving, ap (λ (m : Message). suc (messages_left source w.link m)) (sym alike) ∙ taken.count)

-- ---- the source offers

totals_still : {Schedule : Type 0} (kinds : List Kind) (w v : WiresView Schedule) (l : Link) (r : Result (List ℕ) ClientFault) → w.link ≡ Some l → ((k : Kind) → HasField k l) → IsUndisturbed w → GetsTotals kinds w v r → IsUndisturbed v
totals_still [] w v l r is field fine g = subst IsUndisturbed (sym g.0) fine
totals_still {Schedule} (k ∷ kinds) w v l r is field fine g =
    by (λ others rest. totals_still kinds g.0 v l others (link_after k w g.0 l g.1 is (field k) g.2) field (fetched_still k 0 w g.0 l g.2.piece is (field k) fine g.2.fetches) rest)
    (fetched_still k 0 w g.0 l g.2.piece is (field k) fine g.2.fetches) g.1 g.3
  where
    by : ((others : Result (List ℕ) ClientFault) → GetsTotals kinds g.0 v others → IsUndisturbed v) → IsUndisturbed g.0 → (first : Result ℕ ClientFault) → ThenGets first (GetsTotals kinds g.0 v) g.0 v r → IsUndisturbed v
    by again here (Err fault) more = subst IsUndisturbed (sym more.0) here
    by again here (Ok n) more = again more.0 more.1

-- where no call is to fail the emulator says how long its blobs are
totals_come : {Schedule : Type 0} (kinds : List Kind) (w v : WiresView Schedule) (l : Link) (t : TpmParts) (f : ClientFault) → w.link ≡ Some l → ((k : Kind) → HasField k l) → l.emulator.tpm ≡ Some t → 1 ≤ l.emulator.piece → l.emulator.piece ≤ 4096
    → IsUndisturbed w → GetsTotals kinds w v (Err f) → ⊥
totals_come [] w v l t f is field tpm least most fine g = absurd (let e = g.1 in cc)
totals_come {Schedule} (k ∷ kinds) w v l t f is field tpm least most fine g =
    let sent = sent_sure k 0 w g.0 l t g.2.piece is (field k) tpm (omega arith) least most fine.none g.2.fetches in
    by (λ fault rest. totals_come kinds g.0 v l t fault (link_after k w g.0 l g.1 is (field k) g.2) field tpm least most (fetched_still k 0 w g.0 l g.2.piece is (field k) fine g.2.fetches) rest)
    g.1 sent.got.total (g.2.answer_is ∙ ap total_in sent.answer_is) g.3
  where
    others_come : ((fault : ClientFault) → GetsTotals kinds g.0 v (Err fault) → ⊥) → (n : ℕ) (others : Result (List ℕ) ClientFault) → GetsTotals kinds g.0 v others → Err f ≡ first_of n others → ⊥
    others_come again n (Ok totals) rest is = absurd cc
    others_come again n (Err fault) rest is = again fault rest

    by : ((fault : ClientFault) → GetsTotals kinds g.0 v (Err fault) → ⊥) → (first : Result ℕ ClientFault) (n : ℕ) → first ≡ Ok n → ThenGets first (GetsTotals kinds g.0 v) g.0 v (Err f) → ⊥
    by again (Err fault) n is more = absurd cc
    by again (Ok m) n is more = others_come again m more.0 more.1 more.2

fields_of_tpm : BlobSizes → (l : Link) (tpm : TpmParts) → l.emulator.tpm ≡ Some tpm → IsValid tpm → IsQuiet l → (k : Kind) → HasField k l
fields_of_tpm sizes l tpm has fit quiet k =
    record { quiet = quiet; total = subst (λ (o : Option TpmParts). IfSome o (λ t. length (encode_blob k t) < 2 ^ 32)) (sym has) (omega (arith, sizes.most k tpm fit)) }

claimed_slot : (s : PortState) → stage_of s ≡ stages.Claimed → slot_at None s ≡ Claimed
claimed_slot at_port.Nothing is = absurd cc
claimed_slot (at_port.Waiting job) is = absurd (waits job.cancelled is)
  where
    waits : (b : Bool) → waiting_stage b ≡ stages.Claimed → ⊥
    waits true is = absurd cc
    waits false is = absurd cc
claimed_slot (at_port.Claimed number) is = refl
claimed_slot (at_port.Answered answer) is = absurd cc

-- a device that can be stopped isn't found busy
not_busy : {P : Type 0} (port_view : P → PortView) (d e : DeviceModel P) → CanStop port_view d → IsBusy port_view d e → ⊥
not_busy {P} port_view d e can busy = by (port_view d.port).state refl
  where
    found : (s : PortState) → (port_view d.port).state ≡ Some s
        → (Found (port_view d.port) (port_view e.port) stages.Claimed [] ⊎ ((first : PortStage) × ((port_view d.port).state ≡ None) × Found (port_view d.port) (port_view e.port) first (stages.Claimed ∷ []))) → ⊥
    found s is (inl step) =
        (subst (λ (o : Option DeviceState). IfSome o (λ s. (s.slot ≢ Claimed) × (is_lost (collected s).regs.phase ≡ false))) (ap (option_map (placed_at d.regs d.number d.own_buffer)) is) can.known_state).0
        (ap (λ (own_buffer : Option (List ℕ)). slot_at own_buffer s) busy.away ∙ claimed_slot s (subst (λ (o : Option PortState). IfSome o (λ s. stage_of s ≡ stages.Claimed)) is step.state))
    found s is (inr step) = absurd (let e = sym is ∙ step.1 in cc)

    by : (o : Option PortState) → (port_view d.port).state ≡ o → ⊥
    by None is = absurd (let free = (can.unknown_state (ap (option_map (placed_at d.regs d.number d.own_buffer)) is)).0 in let other = busy.pulls.1 in cc)
    by (Some s) is = found s is busy.pulls.2

-- what is known of stopped devices
abbrev pub AreStopped : {P : Type 0} → (P → PortView) → Type 0
AreStopped {P} port_view = (d e : DeviceModel P) → IsConsistentDevice port_view d → d.held ≡ false → DeviceStops port_view d (Ok tt) e → IfSome (state_of port_view d) (λ s. held_values e ≡ values_at (collected s))

-- and isn't lost once it is stopped
not_lost : {P : Type 0} (port_view : P → PortView) (d e : DeviceModel P) → AreStopped port_view → IsConsistentDevice port_view d → d.held ≡ false → CanStop port_view d → DeviceStops port_view d (Ok tt) e → is_lost e.regs.phase ≡ false
not_lost {P} port_view d e law consistent running can stops = by (port_view d.port).state refl
  where
    at_home : (own_buffer : Option (List ℕ)) → d.own_buffer ≡ own_buffer → is_some own_buffer ≡ true → is_lost d.regs.phase ≡ false → BringsBackAt own_buffer port_view d e → is_lost e.regs.phase ≡ false
    at_home (Some buf) is some working comes = ap (λ (x : DeviceModel P). is_lost x.regs.phase) comes ∙ working
    at_home None is some working comes = absurd cc

    by : (o : Option PortState) → (port_view d.port).state ≡ o → is_lost e.regs.phase ≡ false
    by None is =
        let free = can.unknown_state (ap (option_map (placed_at d.regs d.number d.own_buffer)) is) in
        at_home d.own_buffer refl (sym consistent.port ∙ free.0) free.1 stops
    by (Some s) is =
        let state : state_of port_view d ≡ Some (placed_at d.regs d.number d.own_buffer s) = ap (option_map (placed_at d.regs d.number d.own_buffer)) is in
        let values = subst (λ (o : Option DeviceState). IfSome o (λ s. held_values e ≡ values_at (collected s))) state (law d e consistent running stops) in
        let fine = subst (λ (o : Option DeviceState). IfSome o (λ s. (s.slot ≢ Claimed) × (is_lost (collected s).regs.phase ≡ false))) state can.known_state in
        ap (λ (v : DeviceValues). is_lost v.phase) values ∙ fine.1

-- ---- what a move begins with

abbrev bare : Side → ℕ → HostState
bare side top = record { side = side; top = top; content = nothing; totals = []; next = Record; place = 0 }

rests_still : (s : MoveStage) → is_active s ≡ false → holds_device s ≡ true
rests_still Empty rests = refl
rests_still Running rests = absurd cc
rests_still Draining rests = absurd cc
rests_still (Offering epoch totals) rests = refl
rests_still (Released epoch) rests = refl
rests_still (Filling epoch totals part place) rests = refl
rests_still (Prepared epoch) rests = refl

emptied_consistent : {P : Type 0} (port_view : P → PortView) (h : HostModel P) → is_active h.stage ≡ false → IsConsistentHost port_view h → IsConsistentHost port_view (emptied h)
emptied_consistent port_view h rests consistent = record {
  matches_side = record { held = consistent.matches_side.held ∙ rests_still h.stage rests; least = consistent.matches_side.least; most = consistent.matches_side.most; at_top = tt; keeps = refl };
  device = consistent.device;
}

module _ {P Schedule : Type 0} (port_view : P → PortView) (sizes : BlobSizes) (source : HostModel P) (w : WiresView Schedule) (target : HostModel P) (v : WiresView Schedule)
    (can : CanMove port_view source w target v) (source_consistent : IsConsistentHost port_view source) (target_consistent : IsConsistentHost port_view target) where
  abbrev link : Link
  link = can.source_wires.link

  has_tpm : can.source_wires.link.emulator.tpm ≡ Some can.tpm
  has_tpm = sym (ap tpm_behind can.source_wires.is_link) ∙ can.tpm_is

  all_fields : (k : Kind) → HasField k can.source_wires.link
  all_fields = fields_of_tpm sizes can.source_wires.link can.tpm has_tpm can.possible can.source_wires.quiet

  runs_free : source.device.held ≡ false
  runs_free = source_consistent.matches_side.held ∙ ap holds_device can.runs

  epoch_left : (after : WiresView Schedule) (new : HostModel P) → EpochEnds port_view source w after new → ⊥
  epoch_left after new (WhileClaimed number most same stops is) = absurd (omega (arith, most, can.not_last))
  epoch_left after new (Unclaimed s) = absurd (omega (arith, s.offers.1, can.not_last))

  -- the source offers at once, and doesn't drain
  pub offers_at_once : (number : ℕ) (after : WiresView Schedule) (new : HostModel P) → Offers port_view source w (Ok (offer.Draining number)) after new → ⊥
  offers_at_once number after new o = not_busy port_view source.device new.device can.device o.3.1

  -- and isn't refused
  pub offer_comes : AreStopped port_view → (f : OfferFault) (after : WiresView Schedule) (new : HostModel P) → Offers port_view source w (Err f) after new → ⊥
  offer_comes law fault.Stopped after new o = absurd (let is = sym (ap is_running can.runs) ∙ o.0 in cc)
  offer_comes law fault.Device after new o =
      absurd (let lost = o.1.offers.0 in let fine = not_lost port_view source.device o.1.device law source_consistent.device runs_free can.device o.1.stops in cc)
  offer_comes law fault.EpochEnd after new o = epoch_left after new o.1
  offer_comes law (fault.Wires f) after new o =
      totals_come (kind.Permanent ∷ kind.Volatile ∷ kind.Saved ∷ []) w after can.source_wires.link can.tpm f can.source_wires.is_link all_fields has_tpm
      (omega (arith, can.source_wires.pieces, can.least)) (omega (arith, can.source_wires.pieces, can.most)) can.source_wires.undisturbed o.1.offers.2

  least_for : (p : Part) → 1 ≤ size_for (sizes_at source w.link) p
  least_for Record = source_consistent.matches_side.least
  least_for Permanent = can.least
  least_for Volatile = can.least
  least_for Saved = can.least

  most_for : (p : Part) → size_for (sizes_at source w.link) p ≤ 4096
  most_for Record = source_consistent.matches_side.most
  most_for Permanent = can.most
  most_for Volatile = can.most
  most_for Saved = can.most

  source_bare : StandsFor (sizes_at source w.link) source can.source_wires.link (bare side.Running source.top)
  source_bare = record {
    host = subst (λ (s : MoveStage). model_of s source can.source_wires.link.emulator (bare side.Running source.top) ≡ bare side.Running source.top) (sym can.runs) refl;
    quiet = can.source_wires.quiet;
    ready = subst (λ (s : MoveStage). IsReady s can.source_wires.link.emulator) (sym can.runs) tt;
    record_pieces = refl;
    blob_pieces = can.source_wires.pieces;
  }

  target_bare : StandsFor (sizes_at target v.link) (emptied target) can.target_wires.link (bare side.Empty target.top)
  target_bare = record { host = refl; quiet = can.target_wires.quiet; ready = tt; record_pieces = refl; blob_pieces = can.target_wires.pieces }

  module _ (new : HostModel P) (after : WiresView Schedule) (m : Message) (offers : Offers port_view source w (Ok (offer.Sent m)) after new) (consistent : IsConsistentHost port_view new) (name : new.name ≡ source.name) where
    made_is : IsOffer (sizes_at source w.link) source new can.source_wires.link after.link (bare side.Running source.top) m
    made_is = offered port_view (sizes_at source w.link) source w after can.source_wires.link (bare side.Running source.top) m new can.source_wires.is_link source_bare all_fields can.tpm has_tpm offers

    new_is : new ≡ record source {
      device = offers.1.device;
      top = source.top + 1;
      stage = Offering (source.top + 1) (length (encode_record (held_values offers.1.device)) ∷ offers.1.offers.1.totals);
      record_bytes = encode_record (held_values offers.1.device);
    }
    new_is = offers.1.ends ∙ offers.1.offers.1.new_is

    content_is : port_state new.record_bytes can.source_wires.link.emulator.tpm ≡ offered_by (held_values offers.1.device) can.tpm
    content_is =
        ap (λ (h : HostModel P). port_state h.record_bytes can.source_wires.link.emulator.tpm) new_is
        ∙ ap (port_state (encode_record (held_values offers.1.device))) has_tpm

    pub offer_begins : AreMoving port_view (to_begin m) new after (emptied target) v
    offer_begins = record {
      size = sizes_at source w.link;
      their = sizes_at target v.link;
      epoch = source.top + 1;
      values = held_values offers.1.device;
      tpm = can.tpm;
      fit = offers.1.offers.1.fit.fit;
      fit_too = can.possible;
      least = least_for;
      most = most_for;
      x = model.offering (with_content (bare side.Running source.top) (port_state new.record_bytes can.source_wires.link.emulator.tpm));
      y = bare side.Empty target.top;
      from = can.source_wires.link;
      to = can.target_wires.link;
      from_is = made_is.link;
      to_is = can.target_wires.is_link;
      from_fine = totals_still (kind.Permanent ∷ kind.Volatile ∷ kind.Saved ∷ []) w after can.source_wires.link (Ok offers.1.offers.1.totals) can.source_wires.is_link all_fields can.source_wires.undisturbed offers.1.offers.1.asked;
      to_fine = can.target_wires.undisturbed;
      source_stands = made_is.stands;
      target_stands = target_bare;
      source_consistent = consistent;
      target_consistent = emptied_consistent port_view target can.rests target_consistent;
      names = can.names ∙ ap other (sym name);
      held = ap (λ (h : HostModel P). held_values h.device) new_is;
      has = has_tpm;
      turn = record {
        source = record { side = refl; content = content_is; totals = ap lengths content_is };
        rests = refl;
        newer = omega (arith, can.below);
        says = made_is.said ∙ ap (λ (n : HostName). model.message_from n (source.top + 1) (body.Offer (lengths (port_state new.record_bytes can.source_wires.link.emulator.tpm)))) (sym name)
            ∙ ap (λ (c : Parts). model.message_from new.name (source.top + 1) (body.Offer (lengths c))) content_is;
      };
    }

    pub offer_source : new ≡ record source { top = source.top + 1; stage = new.stage; record_bytes = new.record_bytes; device = new.device }
    offer_source = subst (λ (n : HostModel P). n ≡ record source { top = source.top + 1; stage = n.stage; record_bytes = n.record_bytes; device = n.device }) (sym new_is) refl

    pub offer_stops : DeviceStops port_view source.device (Ok tt) new.device
    offer_stops = subst (DeviceStops port_view source.device (Ok tt)) (sym (ap (λ (h : HostModel P). h.device) new_is)) offers.1.stops

    pub offer_link : after.link ≡ w.link
    offer_link = made_is.link ∙ sym can.source_wires.is_link

    pub offer_count : messages_left new after.link m ≡ 2 * pieces_from new after.link + 2
    offer_count = ap (λ (m : Message). messages_left new after.link m) offer_begins.turn.says
