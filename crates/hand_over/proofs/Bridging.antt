-- Each delivery at a host is a delivery of the model.
use Rattle.std.proofs.Common.{◌≡◌, ℕ, ◌+◌, ◌<◌, ◌≤◌, Bool, true, false, List, [], ◌++◌, length, Option, Some, None, Ok, Err, refl, sym, ap, subst, ◌∙◌, arith, length-append}
use Rattle.std.specs.Prelude.{Result, ◌^◌, IfSome, nat_lt, ◌==◌, ◌&&◌, if◌then◌else◌}
use Rattle.std.proofs.lemmas.Bool.{cond-true, cond-false, eqb-true, ltb-false, leb-true, and_parts}
use Rattle.vt_base.specs.declared.types.Kind.{Kind}
use Rattle.vt_base.specs.declared.types.Kind.TheVariants as kind
use Rattle.vt_base.specs.declared.types.Malformed.{Malformed}
use Rattle.crb_port.specs.Views.{PortView}
use Rattle.crb_machine.specs.Values.{DeviceValues}
use Rattle.crb_machine.specs.Model.{DeviceModel}
use Rattle.tpm_core.specs.declared.parts.TpmParts.{TpmParts}
use Rattle.state_blobs.specs.Encodings.{encode_blob, slice}
use Rattle.ctrl_codec.specs.declared.request.Request.{Request}
use Rattle.ctrl_codec.specs.declared.request.Request.TheVariants.{Init, SetStateBlob, Stop}
use Rattle.ctrl_client.specs.declared.fault.ClientFault.{ClientFault}
use Rattle.ctrl_client.specs.declared.fault.ClientFault.TheVariants.{Link as LinkFault, Reply as BadReply}
use Rattle.ctrl_model.specs.declared.profile.TheConstants.{TOTAL_PLACE}
use Rattle.ctrl_model.specs.Emulator.{EmulatorState, Gathers, type_of}
use Rattle.ctrl_model.specs.Link.{Link}
use Rattle.ctrl_client.specs.Exchange.{IsQuiet, Commands}
use Rattle.ctrl_client.specs.Pieces.{HasField, encode_blob_if_any}
use Rattle.move_codec.specs.declared.names.Part.{Part}
use Rattle.move_codec.specs.declared.names.Part.TheVariants.{Record, Permanent, Volatile, Saved}
use Rattle.vt_base.specs.declared.types.Reason.TheVariants as reason
use Rattle.move_codec.specs.declared.message.Message.{Message}
use Rattle.move_codec.specs.declared.message.Body.{Body}
use Rattle.move_codec.specs.declared.message.Body.TheVariants as body
use Rattle.move_core.specs.declared.stage.MoveStage.{MoveStage}
use Rattle.move_core.specs.declared.stage.MoveStage.TheVariants.{Empty, Running, Draining, Offering, Released, Filling, Prepared}
use Rattle.move_core.specs.declared.side.Side.TheVariants as side
use Rattle.move_core.specs.declared.asking.Fetched.{Fetched}
use Rattle.move_core.specs.declared.answers.Delivered.{Delivered}
use Rattle.move_core.specs.declared.answers.Delivered.TheVariants as delivers
use Rattle.move_core.specs.Model.{HostModel}
use Rattle.move_core.specs.Sides.{is_same, total_of, first_bad, part_after}
use Rattle.move_core.specs.Sides as sides
use Rattle.move_core.specs.Hosts.{HasRecord, MatchesSide, restored}
use Rattle.move_core.specs.Requests.{WiresView, Asks, SwitchesOn}
use Rattle.move_core.specs.Table.{Row, answers, resumes, emptied, reason_for, value_for, ignored}
use Rattle.move_core.specs.Table as table
use Rattle.move_core.specs.Table.Row.{Ends, Stops, Fetches, Gives, GivesLast, Loads}
use Rattle.move_core.specs.Calls.{EndsIn, Follows, HasBytes}
use Rattle.hand_over.specs.Parts.{Parts, PieceSizes, size_for, part_of, put, nothing}
use Rattle.hand_over.specs.Host.{HostState, After, Refusal}
use Rattle.hand_over.specs.Host as model
use Rattle.hand_over.specs.Bridge.{port_state, gathered, model_of, HasVolatile, IsReady, StandsFor, IsStep}
use Rattle.hand_over.proofs.Requests.{Outcome, outcome, stopped, put as put_done, switched, added, texts_are}
use Rattle.hand_over.proofs.Pieces.{got, Got}
use Rattle.hand_over.proofs.Pieces.Got.{Fault, Part as APart}

-- a fault, as the model has it
abbrev fault_of : ClientFault → Refusal
fault_of f = record { client = f; reason = reason_for f; value = value_for f; left = nothing }

pub asked : {Schedule : Type 0} (q : Request) (bytes : List ℕ) (w v : WiresView Schedule) (l : Link) (r : Result (Unit {0}) ClientFault) → w.link ≡ Some l → IsQuiet l → Asks q bytes w v r → Outcome q bytes l r v.link
asked q bytes w v l r is quiet a =
    outcome w.fails w.later q bytes l w.schedule r v.link v.schedule
    (subst (λ (link : Option Link). IfSome link (λ l. IsQuiet l → Commands w.fails w.later q bytes l w.schedule r v.link v.schedule)) is a.exact quiet)

-- a row that came to its end is a step where that end is one
ends : {P Schedule : Type 0} (port_view : P → PortView) (size : PieceSizes) (row : Option Refusal → After) (v : WiresView Schedule) (answer : Delivered) (new : HostModel P) (a : Delivered) (h : HostModel P)
    → EndsIn port_view (answers h a) answer new → IsStep size row v a h → IsStep size row v answer new
ends port_view size row v answer new a h made step = record {
  refusal = step.refusal;
  link = step.link;
  is_link = step.is_link;
  stands = subst (λ (n : HostModel _). StandsFor size n step.link (row step.refusal).host) (sym made.host_is) step.stands;
  answer_is = made.answer_is ∙ step.answer_is;
}

-- where nothing is refused
plain : {P Schedule : Type 0} (size : PieceSizes) (row : Option Refusal → After) (v : WiresView Schedule) (answer : Delivered) (new : HostModel P) (link : Link) (after : After)
    → row None ≡ after → v.link ≡ Some link → StandsFor size new link after.host → answer ≡ after.answer → IsStep size row v answer new
plain size row v answer new link after is same stands said = record {
  refusal = None;
  link = link;
  is_link = same;
  stands = subst (λ (a : After). StandsFor size new link a.host) (sym is) stands;
  answer_is = said ∙ sym (ap (λ (a : After). a.answer) is);
}

top_of : {P : Type 0} (s : MoveStage) (h : HostModel P) (d : EmulatorState) (g : HostState) → (model_of s h d g).top ≡ h.top
top_of Empty h d g = refl
top_of Running h d g = refl
top_of Draining h d g = refl
top_of (Offering e totals) h d g = refl
top_of (Released e) h d g = refl
top_of (Filling e totals part place) h d g = refl
top_of (Prepared e) h d g = refl

active_of : {P : Type 0} (s : MoveStage) (h : HostModel P) (d : EmulatorState) (g : HostState) → model.is_active (model_of s h d g).side ≡ sides.is_active s
active_of Empty h d g = refl
active_of Running h d g = refl
active_of Draining h d g = refl
active_of (Offering e totals) h d g = refl
active_of (Released e) h d g = refl
active_of (Filling e totals part place) h d g = refl
active_of (Prepared e) h d g = refl

module _ {P Schedule : Type 0} (port_view : P → PortView) (size : PieceSizes) (h : HostModel P) (w v : WiresView Schedule) (l : Link) (g : HostState) (answer : Delivered) (new : HostModel P)
    (is : w.link ≡ Some l) (stands : StandsFor size h l g) (placed : MatchesSide h) where
  untouched : v ≡ w → v.link ≡ Some l
  untouched same = ap (λ (s : WiresView Schedule). s.link) same ∙ is

  -- the host of the model at this stage
  at : (s : MoveStage) → h.stage ≡ s → model_of s h l.emulator g ≡ g
  at s is = subst (λ (s : MoveStage). model_of s h l.emulator g ≡ g) is stands.host

  ready_at : (s : MoveStage) → h.stage ≡ s → IsReady s l.emulator
  ready_at s is = subst (λ (s : MoveStage). IsReady s l.emulator) is stands.ready

  -- no row fits, and nothing is done
  idle : (row : Option Refusal → After) (x : HostState) → x ≡ g → row None ≡ model.ignores x → Follows port_view (ignored h) w v answer new → IsStep size row v answer new
  idle row x same nothing f =
      ends port_view size row v answer new delivers.Ignored h f.1
      (plain size row v delivers.Ignored h l (model.ignores x) nothing (untouched f.0) (subst (StandsFor size h l) (sym same) stands) refl)

  -- the host keeps nothing of a move
  empties : (top : ℕ) (link : Link) (x : HostState) → (IsQuiet l → IsQuiet link) → link.emulator.piece ≡ l.emulator.piece
      → StandsFor size (emptied (record h { top = top })) link (record x { side = side.Empty; top = top })
  empties top link x quiet piece = record { host = refl; quiet = quiet stands.quiet; ready = tt; record_pieces = stands.record_pieces; blob_pieces = piece ∙ stands.blob_pieces }

  -- ---- Offer

  begun : (e : ℕ) (totals : List ℕ) (r : Result (Unit {0}) ClientFault) → Outcome Stop [] l r v.link → EndsIn port_view (table.begins (record h { top = e }) e totals r) answer new
      → IsStep size (λ r. model.takes_offer h.name g e totals None r) v answer new
  begun e totals (Ok done) out made =
      let s = stopped l (Ok done) v.link out in
      let off = s.done refl in
      ends port_view size _ v answer new _ _ made
      (plain size _ v _ _ s.link _ refl s.is_link
      (record {
        host = ap (λ (d : EmulatorState). record { side = side.Filling e; top = e; content = gathered [] d.gathers; totals = totals; next = Record; place = 0 }) off;
        quiet = s.quiet stands.quiet;
        ready = (ap (λ (d : EmulatorState). d.on) off, ap (λ (d : EmulatorState). d.gathers.volatile) off);
        record_pieces = stands.record_pieces;
        blob_pieces = s.piece ∙ stands.blob_pieces;
      })
      refl)
  begun e totals (Err f) out made =
      let s = stopped l (Err f) v.link out in
      ends port_view size _ v answer new _ _ made
      (record { refusal = Some (fault_of f); link = s.link; is_link = s.is_link; stands = empties e s.link (record g { content = nothing }) s.quiet s.piece; answer_is = refl })

  offered : (e : ℕ) (totals : List ℕ) (bad : Option ℕ) → Follows port_view (table.takes_offer (record h { top = e }) e totals bad) w v answer new
      → IsStep size (λ r. model.takes_offer h.name g e totals bad r) v answer new
  offered e totals (Some bad) f =
      ends port_view size _ v answer new _ _ f.1
      (plain size _ v _ _ l _ refl (untouched f.0) (empties e l g (λ q. q) refl) refl)
  offered e totals None f = begun e totals f.0 (asked Stop [] w v l f.0 is stands.quiet f.1) f.2

  offer_by : (newer active : Bool) (e : ℕ) (totals : List ℕ)
      → Follows port_view (if newer then (if active then Ends (table.refuses h e reason.Busy 0) else table.takes_offer (record h { top = e }) e totals (first_bad totals)) else ignored h) w v answer new
      → IsStep size (λ r. if newer then (if active then model.refuses h.name g e reason.Busy 0 else model.takes_offer h.name g e totals (first_bad totals) r) else model.ignores g) v answer new
  offer_by true true e totals f = ends port_view size _ v answer new _ _ f.1 (plain size _ v _ _ l _ refl (untouched f.0) stands refl)
  offer_by true false e totals f = offered e totals (first_bad totals) f
  offer_by false active e totals f = idle _ g refl refl f

  offer_step : (e : ℕ) (totals : List ℕ) → Follows port_view (table.on_offer h e totals) w v answer new → IsStep size (λ r. model.on_offer h.name g e totals r) v answer new
  offer_step e totals f =
      let top : h.top ≡ g.top = sym (top_of h.stage h l.emulator g) ∙ ap (λ (x : HostState). x.top) stands.host in
      let active : sides.is_active h.stage ≡ model.is_active g.side = sym (active_of h.stage h l.emulator g) ∙ ap (λ (x : HostState). model.is_active x.side) stands.host in
      subst (λ (t : ℕ). IsStep size (λ r. if nat_lt t e then (if model.is_active g.side then model.refuses h.name g e reason.Busy 0 else model.takes_offer h.name g e totals (first_bad totals) r) else model.ignores g) v answer new) top
      (subst (λ (b : Bool). IsStep size (λ r. if nat_lt h.top e then (if b then model.refuses h.name g e reason.Busy 0 else model.takes_offer h.name g e totals (first_bad totals) r) else model.ignores g) v answer new) active
      (offer_by (nat_lt h.top e) (sides.is_active h.stage) e totals f))

  -- ---- Need

  -- the host of the model at a stage takes its place
  over : (row : HostState → Option Refusal → After) (s : MoveStage) → h.stage ≡ s → IsStep size (row (model_of s h l.emulator g)) v answer new → IsStep size (row g) v answer new
  over row s is step = subst (λ (x : HostState). IsStep size (row x) v answer new) (at s is) step

  stands_at : (s : MoveStage) → h.stage ≡ s → StandsFor size h l (model_of s h l.emulator g)
  stands_at s is = subst (StandsFor size h l) (sym (at s is)) stands

  passed : (e : ℕ) (totals : List ℕ) (part : Part) (k : Kind) (offset : ℕ) (r : Result Fetched ClientFault) → h.stage ≡ Offering e totals
      → ((t : TpmParts) → l.emulator.tpm ≡ Some t → slice (part_of (port_state h.record_bytes l.emulator.tpm) part) offset (size_for size part) ≡ slice (encode_blob k t) offset size.of_blob)
      → v.link ≡ Some l → Got k offset l.emulator r → EndsIn port_view (table.passes_on h e (total_of totals part) part offset r) answer new
      → IsStep size (λ x. model.gives_piece h.name size (model_of (Offering e totals) h l.emulator g) e part offset x) v answer new
  passed e totals part k offset r at_stage blob same (Fault f is_fault) made =
      ends port_view size _ v answer new _ _ (subst (λ (r : Result Fetched ClientFault). EndsIn port_view (table.passes_on h e (total_of totals part) part offset r) answer new) is_fault made)
      (record { refusal = Some (fault_of f); link = l; is_link = same; stands = stands_at _ at_stage; answer_is = refl })
  passed e totals part k offset r at_stage blob same (APart t p tpm is_part bytes total_is) made =
      by_total (p.total == total_of totals part) (subst (λ (r : Result Fetched ClientFault). EndsIn port_view (table.passes_on h e (total_of totals part) part offset r) answer new) is_part made)
    where
      by_total : (b : Bool) → EndsIn port_view (if b then table.sends h e (body.Piece part offset p.bytes) else answers h (delivers.Wires (BadReply TOTAL_PLACE))) answer new
          → IsStep size (λ x. model.gives_piece h.name size (model_of (Offering e totals) h l.emulator g) e part offset x) v answer new
      by_total true made =
          ends port_view size _ v answer new _ _ made
          (plain size _ v _ _ l _ refl same (stands_at _ at_stage)
          (ap (λ (xs : List ℕ). delivers.Sent (table.message_from h.name e (body.Piece part offset xs))) (bytes ∙ ap (slice (encode_blob k t) offset) stands.blob_pieces ∙ sym (blob t tpm))))
      by_total false made =
          ends port_view size _ v answer new _ _ made
          (record { refusal = Some (fault_of (BadReply TOTAL_PLACE)); link = l; is_link = same; stands = stands_at _ at_stage; answer_is = refl })

  field_at : (s : MoveStage) → h.stage ≡ s → (k : Kind) → IsReady s l.emulator → (t : TpmParts) → l.emulator.tpm ≡ Some t → length (encode_blob k t) < 2 ^ 32 → HasField k l
  field_at s at_stage k ready t tpm within_limit = record { quiet = stands.quiet; total = subst (λ (o : Option TpmParts). IfSome o (λ t. length (encode_blob k t) < 2 ^ 32)) (sym tpm) within_limit }

  gave : (e : ℕ) (totals : List ℕ) (part : Part) (offset : ℕ) → h.stage ≡ Offering e totals → Follows port_view (table.gives h e (total_of totals part) part offset) w v answer new
      → IsStep size (λ x. model.gives_piece h.name size (model_of (Offering e totals) h l.emulator g) e part offset x) v answer new
  gave e totals Record offset at_stage f =
      ends port_view size _ v answer new _ _ f.1
      (plain size _ v _ _ l _ refl (untouched f.0) (stands_at _ at_stage)
      (ap (λ (n : ℕ). delivers.Sent (table.message_from h.name e (body.Piece Record offset (slice h.record_bytes offset n)))) stands.record_pieces))
  gave e totals Permanent offset at_stage f =
      let found = got kind.Permanent offset w v l f.0 is (let ready = ready_at (Offering e totals) at_stage in field_at _ at_stage kind.Permanent ready ready.0 ready.1 (ready.2 kind.Permanent)) f.1 in
      passed e totals Permanent kind.Permanent offset f.0 at_stage (λ t tpm. ap (λ o. slice (encode_blob_if_any kind.Permanent o) offset size.of_blob) tpm) found.0 found.1 f.2
  gave e totals Volatile offset at_stage f =
      let found = got kind.Volatile offset w v l f.0 is (let ready = ready_at (Offering e totals) at_stage in field_at _ at_stage kind.Volatile ready ready.0 ready.1 (ready.2 kind.Volatile)) f.1 in
      passed e totals Volatile kind.Volatile offset f.0 at_stage (λ t tpm. ap (λ o. slice (encode_blob_if_any kind.Volatile o) offset size.of_blob) tpm) found.0 found.1 f.2
  gave e totals Saved offset at_stage f =
      let found = got kind.Saved offset w v l f.0 is (let ready = ready_at (Offering e totals) at_stage in field_at _ at_stage kind.Saved ready ready.0 ready.1 (ready.2 kind.Saved)) f.1 in
      passed e totals Saved kind.Saved offset f.0 at_stage (λ t tpm. ap (λ o. slice (encode_blob_if_any kind.Saved o) offset size.of_blob) tpm) found.0 found.1 f.2

  need_by : (b : Bool) (epoch e : ℕ) (totals : List ℕ) (part : Part) (offset : ℕ) → h.stage ≡ Offering epoch totals → (b ≡ true → epoch ≡ e)
      → Follows port_view (if b then table.gives h e (total_of totals part) part offset else ignored h) w v answer new
      → IsStep size (λ x. if b then model.gives_piece h.name size (model_of (Offering epoch totals) h l.emulator g) e part offset x else model.ignores (model_of (Offering epoch totals) h l.emulator g)) v answer new
  need_by true epoch e totals part offset at_stage same f =
      let eq = same refl in
      subst (λ (n : ℕ). IsStep size (λ x. model.gives_piece h.name size (model_of (Offering n totals) h l.emulator g) e part offset x) v answer new) (sym eq)
      (gave e totals part offset (at_stage ∙ ap (λ (n : ℕ). Offering n totals) eq) f)
  need_by false epoch e totals part offset at_stage same f = idle _ _ (at _ at_stage) refl f

  need_step : (s : MoveStage) (e : ℕ) (part : Part) (offset : ℕ) → h.stage ≡ s → Follows port_view (table.on_need h s e part offset) w v answer new
      → IsStep size (λ r. model.on_need h.name size g.side g e part offset r) v answer new
  need_step (Offering epoch totals) e part offset at_stage f =
      over (λ x r. model.on_need h.name size x.side x e part offset r) _ at_stage
      (need_by (epoch == e && nat_lt offset (total_of totals part)) epoch e totals part offset at_stage (λ yes. eqb-true epoch e (and_parts _ _ yes).0) f)
  need_step Empty e part offset at_stage f = over (λ x r. model.on_need h.name size x.side x e part offset r) _ at_stage (idle _ _ (at _ at_stage) refl f)
  need_step Running e part offset at_stage f = over (λ x r. model.on_need h.name size x.side x e part offset r) _ at_stage (idle _ _ (at _ at_stage) refl f)
  need_step Draining e part offset at_stage f = over (λ x r. model.on_need h.name size x.side x e part offset r) _ at_stage (idle _ _ (at _ at_stage) refl f)
  need_step (Released epoch) e part offset at_stage f = over (λ x r. model.on_need h.name size x.side x e part offset r) _ at_stage (idle _ _ (at _ at_stage) refl f)
  need_step (Filling epoch totals next place) e part offset at_stage f = over (λ x r. model.on_need h.name size x.side x e part offset r) _ at_stage (idle _ _ (at _ at_stage) refl f)
  need_step (Prepared epoch) e part offset at_stage f = over (λ x r. model.on_need h.name size x.side x e part offset r) _ at_stage (idle _ _ (at _ at_stage) refl f)

  -- ---- Prepared, Commit, Abort, Refuse

  -- a row that asks for nothing, by a test
  tested : (b : Bool) (h' : HostModel P) (a : Delivered) (x y : HostState) → x ≡ g → (b ≡ true → StandsFor size h' l y)
      → Follows port_view (if b then Ends (answers h' a) else ignored h) w v answer new
      → IsStep size (λ r. if b then record { host = y; answer = a } else model.ignores x) v answer new
  tested true h' a x y same well f = ends port_view size _ v answer new _ _ f.1 (plain size _ v _ _ l _ refl (untouched f.0) (well refl) refl)
  tested false h' a x y same well f = idle _ x same refl f

  -- one after which the guest runs
  woken : (b : Bool) (h' : HostModel P) (a : Delivered) (x y : HostState) → x ≡ g → (b ≡ true → (d : DeviceModel P) → StandsFor size (record h' { device = d }) l y)
      → Follows port_view (if b then Ends (resumes h' a) else ignored h) w v answer new
      → IsStep size (λ r. if b then record { host = y; answer = a } else model.ignores x) v answer new
  woken true h' a x y same well f = record {
    refusal = None;
    link = l;
    is_link = untouched f.0;
    stands = subst (λ (n : HostModel P). StandsFor size n l y) (sym f.1.host_is.rest) (well refl new.device);
    answer_is = f.1.answer_is;
  }
  woken false h' a x y same well f = idle _ x same refl f

  prepared_step : (s : MoveStage) (e : ℕ) → h.stage ≡ s → Follows port_view (table.on_prepared h s e) w v answer new → IsStep size (λ r. model.on_prepared h.name g.side g e) v answer new
  prepared_step (Offering epoch totals) e at_stage f =
      over (λ x r. model.on_prepared h.name x.side x e) _ at_stage
      (tested (epoch == e) _ _ _ _ (at _ at_stage) (λ yes. record { host = refl; quiet = stands.quiet; ready = tt; record_pieces = stands.record_pieces; blob_pieces = stands.blob_pieces }) f)
  prepared_step (Released epoch) e at_stage f =
      over (λ x r. model.on_prepared h.name x.side x e) _ at_stage (tested (epoch == e) _ _ _ _ (at _ at_stage) (λ yes. stands_at _ at_stage) f)
  prepared_step Empty e at_stage f = over (λ x r. model.on_prepared h.name x.side x e) _ at_stage (idle _ _ (at _ at_stage) refl f)
  prepared_step Running e at_stage f = over (λ x r. model.on_prepared h.name x.side x e) _ at_stage (idle _ _ (at _ at_stage) refl f)
  prepared_step Draining e at_stage f = over (λ x r. model.on_prepared h.name x.side x e) _ at_stage (idle _ _ (at _ at_stage) refl f)
  prepared_step (Filling epoch totals next place) e at_stage f = over (λ x r. model.on_prepared h.name x.side x e) _ at_stage (idle _ _ (at _ at_stage) refl f)
  prepared_step (Prepared epoch) e at_stage f = over (λ x r. model.on_prepared h.name x.side x e) _ at_stage (idle _ _ (at _ at_stage) refl f)

  commit_step : (s : MoveStage) (e : ℕ) → h.stage ≡ s → Follows port_view (table.on_commit h s e) w v answer new → IsStep size (λ r. model.on_commit g.side g e) v answer new
  commit_step (Prepared epoch) e at_stage f =
      over (λ x r. model.on_commit x.side x e) _ at_stage
      (woken (epoch == e) _ _ _ _ (at _ at_stage) (λ yes d. record { host = refl; quiet = stands.quiet; ready = tt; record_pieces = stands.record_pieces; blob_pieces = stands.blob_pieces }) f)
  commit_step Empty e at_stage f = over (λ x r. model.on_commit x.side x e) _ at_stage (idle _ _ (at _ at_stage) refl f)
  commit_step Running e at_stage f = over (λ x r. model.on_commit x.side x e) _ at_stage (idle _ _ (at _ at_stage) refl f)
  commit_step Draining e at_stage f = over (λ x r. model.on_commit x.side x e) _ at_stage (idle _ _ (at _ at_stage) refl f)
  commit_step (Offering epoch totals) e at_stage f = over (λ x r. model.on_commit x.side x e) _ at_stage (idle _ _ (at _ at_stage) refl f)
  commit_step (Released epoch) e at_stage f = over (λ x r. model.on_commit x.side x e) _ at_stage (idle _ _ (at _ at_stage) refl f)
  commit_step (Filling epoch totals next place) e at_stage f = over (λ x r. model.on_commit x.side x e) _ at_stage (idle _ _ (at _ at_stage) refl f)

  refuse_step : (s : MoveStage) (e : ℕ) → h.stage ≡ s → Follows port_view (table.on_refuse h s e) w v answer new → IsStep size (λ r. model.on_refuse g.side g e) v answer new
  refuse_step (Offering epoch totals) e at_stage f =
      over (λ x r. model.on_refuse x.side x e) _ at_stage
      (woken (epoch == e) _ _ _ _ (at _ at_stage) (λ yes d. record { host = refl; quiet = stands.quiet; ready = tt; record_pieces = stands.record_pieces; blob_pieces = stands.blob_pieces }) f)
  refuse_step Empty e at_stage f = over (λ x r. model.on_refuse x.side x e) _ at_stage (idle _ _ (at _ at_stage) refl f)
  refuse_step Running e at_stage f = over (λ x r. model.on_refuse x.side x e) _ at_stage (idle _ _ (at _ at_stage) refl f)
  refuse_step Draining e at_stage f = over (λ x r. model.on_refuse x.side x e) _ at_stage (idle _ _ (at _ at_stage) refl f)
  refuse_step (Prepared epoch) e at_stage f = over (λ x r. model.on_refuse x.side x e) _ at_stage (idle _ _ (at _ at_stage) refl f)
  refuse_step (Released epoch) e at_stage f = over (λ x r. model.on_refuse x.side x e) _ at_stage (idle _ _ (at _ at_stage) refl f)
  refuse_step (Filling epoch totals next place) e at_stage f = over (λ x r. model.on_refuse x.side x e) _ at_stage (idle _ _ (at _ at_stage) refl f)

  abort_step : (s : MoveStage) (e : ℕ) → h.stage ≡ s → Follows port_view (table.on_abort h s e) w v answer new → IsStep size (λ r. model.on_abort g.side g e) v answer new
  abort_step (Filling epoch totals next place) e at_stage f =
      over (λ x r. model.on_abort x.side x e) _ at_stage
      (tested (epoch == e) _ _ _ _ (at _ at_stage) (λ yes. record { host = refl; quiet = stands.quiet; ready = tt; record_pieces = stands.record_pieces; blob_pieces = stands.blob_pieces }) f)
  abort_step (Prepared epoch) e at_stage f =
      over (λ x r. model.on_abort x.side x e) _ at_stage
      (tested (epoch == e) _ _ _ _ (at _ at_stage) (λ yes. record { host = refl; quiet = stands.quiet; ready = tt; record_pieces = stands.record_pieces; blob_pieces = stands.blob_pieces }) f)
  abort_step Empty e at_stage f = over (λ x r. model.on_abort x.side x e) _ at_stage (idle _ _ (at _ at_stage) refl f)
  abort_step Running e at_stage f = over (λ x r. model.on_abort x.side x e) _ at_stage (idle _ _ (at _ at_stage) refl f)
  abort_step Draining e at_stage f = over (λ x r. model.on_abort x.side x e) _ at_stage (idle _ _ (at _ at_stage) refl f)
  abort_step (Offering epoch totals) e at_stage f = over (λ x r. model.on_abort x.side x e) _ at_stage (idle _ _ (at _ at_stage) refl f)
  abort_step (Released epoch) e at_stage f = over (λ x r. model.on_abort x.side x e) _ at_stage (idle _ _ (at _ at_stage) refl f)

  -- ---- Piece

  keeps_at : (s : MoveStage) → h.stage ≡ s → HasRecord s h.record_bytes h.device
  keeps_at s is = subst (λ (s : MoveStage). HasRecord s h.record_bytes h.device) is placed.keeps

  -- a host that fills
  abbrev filling : List ℕ → Gathers → ℕ → List ℕ → Part → ℕ → HostState
  filling bytes gathers e totals part place = record { side = side.Filling e; top = h.top; content = gathered bytes gathers; totals = totals; next = part; place = place }

  -- more of a part is wanted, or the next one
  wanted : (row : Option Refusal → After) (kept : List ℕ) (device : DeviceModel P) (e : ℕ) (totals : List ℕ) (part : Part) (place : ℕ) (link : Link) (gathers : Gathers)
      → row None ≡ model.sends h.name (filling kept gathers e totals part place) e (body.Need part place)
      → v.link ≡ Some link → IsQuiet link → link.emulator.piece ≡ size.of_blob → link.emulator.on ≡ false → link.emulator.gathers ≡ gathers → HasVolatile part place totals gathers.volatile
      → EndsIn port_view (table.wants (record h { record_bytes = kept; device = device }) e totals part place) answer new → IsStep size row v answer new
  wanted row kept device e totals part place link gathers row_is same quiet piece off filled volatile made =
      ends port_view size row v answer new _ _ made
      (plain size row v _ _ link _ row_is same
      (record {
        host = ap (λ (x : Gathers). filling kept x e totals part place) filled;
        quiet = quiet;
        ready = (off, subst (λ (x : Gathers). HasVolatile part place totals x.volatile) (sym filled) volatile);
        record_pieces = stands.record_pieces;
        blob_pieces = piece;
      })
      refl)

  -- a piece is refused, and the host is empty
  turned_down : (refusal : Refusal) (e : ℕ) (totals : List ℕ) (part : Part) (place : ℕ) (bytes : List ℕ) (link : Link) → v.link ≡ Some link → (IsQuiet l → IsQuiet link) → link.emulator.piece ≡ l.emulator.piece
      → EndsIn port_view (table.refuses (emptied h) e refusal.reason refusal.value) answer new
      → IsStep size (λ r. model.takes_piece h.name (filling h.record_bytes l.emulator.gathers e totals part place) e bytes r) v answer new
  turned_down refusal e totals part place bytes link same quiet piece made =
      ends port_view size _ v answer new _ _ made
      (record { refusal = Some refusal; link = link; is_link = same; stands = empties h.top link (record (filling h.record_bytes l.emulator.gathers e totals part place) { content = refusal.left }) quiet piece; answer_is = refl })

  record_by : (b : Bool) (e : ℕ) (totals : List ℕ) (place : ℕ) (bytes : List ℕ) → nat_lt (place + length bytes) (total_of totals Record) ≡ b → h.stage ≡ Filling e totals Record place
      → Follows port_view (if b then Ends (table.wants (record h { record_bytes = h.record_bytes ++ bytes }) e totals Record (place + length bytes)) else Loads (h.record_bytes ++ bytes) (table.loads h e totals (h.record_bytes ++ bytes))) w v answer new
      → IsStep size (λ r. model.takes_piece h.name (filling h.record_bytes l.emulator.gathers e totals Record place) e bytes r) v answer new
  record_by true e totals place bytes test at_stage f =
      let ready = ready_at _ at_stage in
      wanted _ (h.record_bytes ++ bytes) h.device e totals Record (place + length bytes) l l.emulator.gathers (cond-true _ _ _ test) (untouched f.0) stands.quiet stands.blob_pieces ready.0 refl ready.1 f.1
  record_by false e totals place bytes test at_stage f = loaded f.0 f.3
    where
      loaded : (r : Result DeviceValues Malformed) → EndsIn port_view (table.loads h e totals (h.record_bytes ++ bytes) r) answer new → IsStep size (λ r. model.takes_piece h.name (filling h.record_bytes l.emulator.gathers e totals Record place) e bytes r) v answer new
      loaded (Ok values) made =
          let ready = ready_at _ at_stage in
          wanted _ (h.record_bytes ++ bytes) (restored values h.device) e totals Permanent 0 l l.emulator.gathers (cond-false _ _ _ test) (untouched f.2) stands.quiet stands.blob_pieces ready.0 refl ready.1 made
      loaded (Err fault) made =
          turned_down (record { client = LinkFault; reason = reason.Record; value = fault.place; left = nothing }) e totals Record place bytes l (untouched f.2) (λ q. q) refl made

  -- a blob's piece, behind which more of it is wanted or the next part
  blob_by : (b : Bool) (k : Kind) (part next : Part) (e : ℕ) (totals : List ℕ) (place : ℕ) (bytes : List ℕ) (r : Result (Unit {0}) ClientFault)
      → nat_lt (place + length bytes) (total_of totals part) ≡ b → part_after part ≡ Some next → h.stage ≡ Filling e totals part place → 0 < length bytes
      → put (gathered h.record_bytes l.emulator.gathers) part bytes ≡ gathered h.record_bytes (added k bytes l.emulator).gathers
      → (b ≡ true → HasVolatile part (place + length bytes) totals (added k bytes l.emulator).gathers.volatile) → (b ≡ false → HasVolatile next 0 totals (added k bytes l.emulator).gathers.volatile)
      → Asks (SetStateBlob 0 (type_of k) (length bytes)) bytes w v r
      → EndsIn port_view (table.took h e totals part (place + length bytes) r) answer new
      → IsStep size (λ r. model.takes_piece h.name (filling h.record_bytes l.emulator.gathers e totals part place) e bytes r) v answer new
  blob_by b k part next e totals place bytes (Err fault) test after at_stage some content more whole asks made =
      let leaves = put_done l k bytes (Err fault) v.link some (ready_at _ at_stage).0 (asked _ bytes w v l (Err fault) is stands.quiet asks) in
      turned_down (fault_of fault) e totals part place bytes leaves.link leaves.is_link leaves.quiet leaves.piece made
  blob_by true k part next e totals place bytes (Ok done) test after at_stage some content more whole asks made =
      let leaves = put_done l k bytes (Ok done) v.link some (ready_at _ at_stage).0 (asked _ bytes w v l (Ok done) is stands.quiet asks) in
      let emulator = leaves.done refl in
      wanted _ h.record_bytes h.device e totals part (place + length bytes) leaves.link (added k bytes l.emulator).gathers
      (cond-true _ _ _ test ∙ ap (λ (c : Parts). model.sends h.name (record { side = side.Filling e; top = h.top; content = c; totals = totals; next = part; place = place + length bytes }) e (body.Need part (place + length bytes))) content)
      leaves.is_link (leaves.quiet stands.quiet) (leaves.piece ∙ stands.blob_pieces) (ap (λ (d : EmulatorState). d.on) emulator ∙ (ready_at _ at_stage).0) (ap (λ (d : EmulatorState). d.gathers) emulator) (more refl)
      (subst (λ (a : table.After P). EndsIn port_view a answer new) (cond-true _ _ _ test) made)
  blob_by false k part next e totals place bytes (Ok done) test after at_stage some content more whole asks made =
      let leaves = put_done l k bytes (Ok done) v.link some (ready_at _ at_stage).0 (asked _ bytes w v l (Ok done) is stands.quiet asks) in
      let emulator = leaves.done refl in
      wanted _ h.record_bytes h.device e totals next 0 leaves.link (added k bytes l.emulator).gathers
      (cond-false _ _ _ test
      ∙ ap (λ (c : Parts). model.goes_on h.name (record { side = side.Filling e; top = h.top; content = c; totals = totals; next = part; place = place + length bytes }) e (part_after part)) content
      ∙ ap (λ (o : Option Part). model.goes_on h.name (record { side = side.Filling e; top = h.top; content = gathered h.record_bytes (added k bytes l.emulator).gathers; totals = totals; next = part; place = place + length bytes }) e o) after)
      leaves.is_link (leaves.quiet stands.quiet) (leaves.piece ∙ stands.blob_pieces) (ap (λ (d : EmulatorState). d.on) emulator ∙ (ready_at _ at_stage).0) (ap (λ (d : EmulatorState). d.gathers) emulator) (whole refl)
      (subst (λ (o : Option Part). EndsIn port_view (table.goes_to h e totals o) answer new) after (subst (λ (a : table.After P). EndsIn port_view a answer new) (cond-false _ _ _ test) made))

  -- the last piece, behind which the emulator is switched on
  prepares : (e : ℕ) (totals : List ℕ) (place : ℕ) (bytes : List ℕ) (r : Result (Unit {0}) ClientFault)
      → nat_lt (place + length bytes) (total_of totals Saved) ≡ false → h.stage ≡ Filling e totals Saved place → 0 < length bytes
      → (link : Link) → link.emulator ≡ added kind.Saved bytes l.emulator → (IsQuiet l → IsQuiet link)
      → Outcome (Init 0) [] link r v.link
      → EndsIn port_view (table.took h e totals Saved (place + length bytes) r) answer new
      → IsStep size (λ r. model.takes_piece h.name (filling h.record_bytes l.emulator.gathers e totals Saved place) e bytes r) v answer new
  prepares e totals place bytes r test at_stage some link emulator quiet out made = by_answer r refl made
    where
      volatile : 0 < length link.emulator.gathers.volatile
      volatile = omega (arith, ap (λ (d : EmulatorState). length d.gathers.volatile) emulator, (ready_at _ at_stage).1, (keeps_at _ at_stage).0.some Volatile)

      saved : 0 < length link.emulator.gathers.saved
      saved = omega (arith, ap (λ (d : EmulatorState). length d.gathers.saved) emulator, length-append l.emulator.gathers.saved bytes, some)

      piece : link.emulator.piece ≡ l.emulator.piece
      piece = ap (λ (d : EmulatorState). d.piece) emulator

      by_answer : (a : Result (Unit {0}) ClientFault) → r ≡ a → EndsIn port_view (table.took h e totals Saved (place + length bytes) a) answer new
          → IsStep size (λ r. model.takes_piece h.name (filling h.record_bytes l.emulator.gathers e totals Saved place) e bytes r) v answer new
      by_answer (Err fault) is_answer made =
          let leaves = switched link r v.link volatile saved out in
          turned_down (fault_of fault) e totals Saved place bytes leaves.link leaves.is_link (λ q. leaves.quiet (quiet q)) (leaves.piece ∙ piece) made
      by_answer (Ok done) is_answer made =
          let leaves = switched link r v.link volatile saved out in
          let on = leaves.done is_answer in
          let texts = texts_are _ _ _ on.tpm volatile saved on.assembled in
          let tpm : leaves.link.emulator.tpm ≡ Some on.tpm = ap (λ (d : EmulatorState). d.tpm) on.emulator in
          let content : port_state h.record_bytes leaves.link.emulator.tpm ≡ gathered h.record_bytes (added kind.Saved bytes l.emulator).gathers =
          ap (port_state h.record_bytes) tpm
          ∙ ap (λ (xs : List ℕ). record { record_bytes = h.record_bytes; permanent = xs; volatile = encode_blob kind.Volatile on.tpm; saved = encode_blob kind.Saved on.tpm }) texts.0
          ∙ ap (λ (xs : List ℕ). record { record_bytes = h.record_bytes; permanent = link.emulator.gathers.permanent; volatile = xs; saved = encode_blob kind.Saved on.tpm }) texts.1
          ∙ ap (λ (xs : List ℕ). record { record_bytes = h.record_bytes; permanent = link.emulator.gathers.permanent; volatile = link.emulator.gathers.volatile; saved = xs }) texts.2
          ∙ ap (λ (d : EmulatorState). gathered h.record_bytes d.gathers) emulator in
          ends port_view size _ v answer new _ _ (subst (λ (a : table.After P). EndsIn port_view a answer new) (cond-false _ _ _ test) made)
          (plain size _ v _ _ leaves.link _ (cond-false _ _ _ test) leaves.is_link
          (record {
            host = ap (λ (c : Parts). record { side = side.Prepared e; top = h.top; content = c; totals = totals; next = Saved; place = place + length bytes }) content;
            quiet = leaves.quiet (quiet stands.quiet);
            ready = (on.tpm, tpm, on.assembled.fit, record { on = ap (λ (d : EmulatorState). d.on) on.emulator; stored = ap (λ (d : EmulatorState). d.stored) on.emulator; gathers = ap (λ (d : EmulatorState). d.gathers) on.emulator });
            record_pieces = stands.record_pieces;
            blob_pieces = leaves.piece ∙ piece ∙ stands.blob_pieces;
          })
          refl)

  last_by : (e : ℕ) (totals : List ℕ) (place : ℕ) (bytes : List ℕ) (r given : Result (Unit {0}) ClientFault) (between : WiresView Schedule)
      → nat_lt (place + length bytes) (total_of totals Saved) ≡ false → h.stage ≡ Filling e totals Saved place → 0 < length bytes
      → Asks (SetStateBlob 0 (type_of kind.Saved) (length bytes)) bytes w between given → SwitchesOn given between v r
      → EndsIn port_view (table.took h e totals Saved (place + length bytes) r) answer new
      → IsStep size (λ r. model.takes_piece h.name (filling h.record_bytes l.emulator.gathers e totals Saved place) e bytes r) v answer new
  last_by e totals place bytes r (Err fault) between test at_stage some asks switches made =
      let leaves = put_done l kind.Saved bytes (Err fault) between.link some (ready_at _ at_stage).0 (asked _ bytes w between l (Err fault) is stands.quiet asks) in
      turned_down (fault_of fault) e totals Saved place bytes leaves.link (ap (λ (s : WiresView Schedule). s.link) switches.0 ∙ leaves.is_link) leaves.quiet leaves.piece
      (subst (λ (a : Result (Unit {0}) ClientFault). EndsIn port_view (table.took h e totals Saved (place + length bytes) a) answer new) switches.1 made)
  last_by e totals place bytes r (Ok done) between test at_stage some asks switches made =
      let leaves = put_done l kind.Saved bytes (Ok done) between.link some (ready_at _ at_stage).0 (asked _ bytes w between l (Ok done) is stands.quiet asks) in
      prepares e totals place bytes r test at_stage some leaves.link (leaves.done refl) leaves.quiet
      (asked (Init 0) [] between v leaves.link r leaves.is_link (leaves.quiet stands.quiet) switches) made

  saved_by : (b : Bool) (e : ℕ) (totals : List ℕ) (place : ℕ) (bytes : List ℕ) → nat_lt (place + length bytes) (total_of totals Saved) ≡ b → h.stage ≡ Filling e totals Saved place → 0 < length bytes
      → Follows port_view (if b then Gives kind.Saved bytes (table.took h e totals Saved (place + length bytes)) else GivesLast bytes (table.took h e totals Saved (place + length bytes))) w v answer new
      → IsStep size (λ r. model.takes_piece h.name (filling h.record_bytes l.emulator.gathers e totals Saved place) e bytes r) v answer new
  saved_by true e totals place bytes test at_stage some f =
      more f.0 f.1 f.2
    where
      more : (r : Result (Unit {0}) ClientFault) → Asks (SetStateBlob 0 (type_of kind.Saved) (length bytes)) bytes w v r → EndsIn port_view (table.took h e totals Saved (place + length bytes) r) answer new
          → IsStep size (λ r. model.takes_piece h.name (filling h.record_bytes l.emulator.gathers e totals Saved place) e bytes r) v answer new
      more (Err fault) asks made =
          let leaves = put_done l kind.Saved bytes (Err fault) v.link some (ready_at _ at_stage).0 (asked _ bytes w v l (Err fault) is stands.quiet asks) in
          turned_down (fault_of fault) e totals Saved place bytes leaves.link leaves.is_link leaves.quiet leaves.piece made
      more (Ok done) asks made =
          let leaves = put_done l kind.Saved bytes (Ok done) v.link some (ready_at _ at_stage).0 (asked _ bytes w v l (Ok done) is stands.quiet asks) in
          let emulator = leaves.done refl in
          wanted _ h.record_bytes h.device e totals Saved (place + length bytes) leaves.link (added kind.Saved bytes l.emulator).gathers (cond-true _ _ _ test)
          leaves.is_link (leaves.quiet stands.quiet) (leaves.piece ∙ stands.blob_pieces) (ap (λ (d : EmulatorState). d.on) emulator ∙ (ready_at _ at_stage).0) (ap (λ (d : EmulatorState). d.gathers) emulator) (ready_at _ at_stage).1
          (subst (λ (a : table.After P). EndsIn port_view a answer new) (cond-true _ _ _ test) made)
  saved_by false e totals place bytes test at_stage some f =
      last_by e totals place bytes f.0 f.1.given f.1.between test at_stage some f.1.gives f.1.switches f.2

  -- a piece that is the next one
  taken_step : (next : Part) (e : ℕ) (totals : List ℕ) (place : ℕ) (bytes : List ℕ) → h.stage ≡ Filling e totals next place → 0 < length bytes → place + length bytes ≤ total_of totals next
      → Follows port_view (table.takes_piece h e totals next (place + length bytes) bytes) w v answer new
      → IsStep size (λ r. model.takes_piece h.name (filling h.record_bytes l.emulator.gathers e totals next place) e bytes r) v answer new
  taken_step Record e totals place bytes at_stage some fits f = record_by (nat_lt (place + length bytes) (total_of totals Record)) e totals place bytes refl at_stage f
  taken_step Permanent e totals place bytes at_stage some fits f =
      blob_by (nat_lt (place + length bytes) (total_of totals Permanent)) kind.Permanent Permanent Volatile e totals place bytes f.0 refl refl at_stage some refl
      (λ yes. (ready_at _ at_stage).1) (λ no. ap length (ready_at _ at_stage).1) f.1 f.2
  taken_step Volatile e totals place bytes at_stage some fits f =
      blob_by (nat_lt (place + length bytes) (total_of totals Volatile)) kind.Volatile Volatile Saved e totals place bytes f.0 refl refl at_stage some refl
      (λ yes. omega (arith, length-append l.emulator.gathers.volatile bytes, (ready_at _ at_stage).1))
      (λ no. omega (arith, length-append l.emulator.gathers.volatile bytes, (ready_at _ at_stage).1, ltb-false _ _ no, fits)) f.1 f.2
  taken_step Saved e totals place bytes at_stage some fits f = saved_by (nat_lt (place + length bytes) (total_of totals Saved)) e totals place bytes refl at_stage some f

  piece_by : (b : Bool) (epoch e : ℕ) (totals : List ℕ) (next : Part) (place : ℕ) (bytes : List ℕ) → h.stage ≡ Filling epoch totals next place → 0 < length bytes
      → (b ≡ true → (epoch ≡ e) × (place + length bytes ≤ total_of totals next))
      → Follows port_view (if b then table.takes_piece h e totals next (place + length bytes) bytes else ignored h) w v answer new
      → IsStep size (λ r. if b then model.takes_piece h.name (filling h.record_bytes l.emulator.gathers epoch totals next place) e bytes r else model.ignores (filling h.record_bytes l.emulator.gathers epoch totals next place)) v answer new
  piece_by true epoch e totals next place bytes at_stage some known_is f =
      let fits = known_is refl in
      subst (λ (n : ℕ). IsStep size (λ r. model.takes_piece h.name (filling h.record_bytes l.emulator.gathers n totals next place) e bytes r) v answer new) (sym fits.0)
      (taken_step next e totals place bytes (at_stage ∙ ap (λ (n : ℕ). Filling n totals next place) fits.0) some fits.1 f)
  piece_by false epoch e totals next place bytes at_stage some known_is f = idle _ _ (at _ at_stage) refl f

  piece_step : (s : MoveStage) (e : ℕ) (part : Part) (offset : ℕ) (bytes : List ℕ) → h.stage ≡ s → 0 < length bytes → Follows port_view (table.on_piece h s e part offset bytes) w v answer new
      → IsStep size (λ r. model.on_piece h.name g.side g e part offset bytes r) v answer new
  piece_step (Filling epoch totals next place) e part offset bytes at_stage some f =
      over (λ x r. model.on_piece h.name x.side x e part offset bytes r) _ at_stage
      (piece_by (epoch == e && table.is_next totals next place part offset (length bytes)) epoch e totals next place bytes at_stage some
      (λ yes.
      let both = and_parts _ _ yes in
      (eqb-true epoch e both.0, leb-true _ _ (and_parts _ _ (and_parts _ _ both.1).1).1))
      f)
  piece_step Empty e part offset bytes at_stage some f = over (λ x r. model.on_piece h.name x.side x e part offset bytes r) _ at_stage (idle _ _ (at _ at_stage) refl f)
  piece_step Running e part offset bytes at_stage some f = over (λ x r. model.on_piece h.name x.side x e part offset bytes r) _ at_stage (idle _ _ (at _ at_stage) refl f)
  piece_step Draining e part offset bytes at_stage some f = over (λ x r. model.on_piece h.name x.side x e part offset bytes r) _ at_stage (idle _ _ (at _ at_stage) refl f)
  piece_step (Offering epoch totals) e part offset bytes at_stage some f = over (λ x r. model.on_piece h.name x.side x e part offset bytes r) _ at_stage (idle _ _ (at _ at_stage) refl f)
  piece_step (Released epoch) e part offset bytes at_stage some f = over (λ x r. model.on_piece h.name x.side x e part offset bytes r) _ at_stage (idle _ _ (at _ at_stage) refl f)
  piece_step (Prepared epoch) e part offset bytes at_stage some f = over (λ x r. model.on_piece h.name x.side x e part offset bytes r) _ at_stage (idle _ _ (at _ at_stage) refl f)

  -- ---- the whole

  message_step : (e : ℕ) (says : Body) → HasBytes says → Follows port_view (table.on_message h e says) w v answer new → IsStep size (λ r. model.on_message h.name size g e says r) v answer new
  message_step e (body.Offer totals) some f = offer_step e totals f
  message_step e (body.Need part offset) some f = need_step h.stage e part offset refl f
  message_step e (body.Piece part offset bytes) some f = piece_step h.stage e part offset bytes refl some f
  message_step e body.Prepared some f = prepared_step h.stage e refl f
  message_step e body.Commit some f = commit_step h.stage e refl f
  message_step e body.Abort some f = abort_step h.stage e refl f
  message_step e (body.Refuse why value) some f = refuse_step h.stage e refl f

  mine_by : (b : Bool) (m : Message) → HasBytes m.body → Follows port_view (if b then table.on_message h m.epoch m.body else ignored h) w v answer new
      → IsStep size (λ r. if b then model.on_message h.name size g m.epoch m.body r else model.ignores g) v answer new
  mine_by true m some f = message_step m.epoch m.body some f
  mine_by false m some f = idle _ g refl refl f

-- a delivery at a host over a quiet link is a delivery of the model
pub delivery : {P Schedule : Type 0} (port_view : P → PortView) (size : PieceSizes) (h : HostModel P) (m : Message) (w v : WiresView Schedule) (l : Link) (g : HostState) (answer : Delivered) (new : HostModel P)
    → w.link ≡ Some l → StandsFor size h l g → MatchesSide h → HasBytes m.body → Follows port_view (table.delivered h m) w v answer new
    → IsStep size (λ r. model.delivered h.name size g m r) v answer new
unfolding table.delivered
delivery port_view size h m w v l g answer new is stands placed some f = mine_by port_view size h w v l g answer new is stands placed (is_same h.name m.to) m some f
