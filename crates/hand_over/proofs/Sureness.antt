-- A delivery that has nothing to refuse isn't refused.
use Rattle.std.proofs.Common.{◌≡◌, ℕ, ◌+◌, ◌<◌, ◌≤◌, Bool, true, false, cond, List, [], ◌++◌, length, take, Option, Some, None, Ok, Err, refl, sym, ap, subst, ◌∙◌, arith, length-append}
use Rattle.std.specs.Prelude.{IfSome, ◌^◌, Result, nat_lt, ◌==◌, ◌&&◌, if◌then◌else◌}
use Rattle.std.proofs.lemmas.List.{take_all}
use Rattle.state_blobs.specs.Assembly.{IsFault}
use Rattle.std.proofs.lemmas.Bool.{cond-true, eq-eqb, ltb-true, ltb-false, and_parts}
use Rattle.vt_base.specs.declared.types.Kind.{Kind}
use Rattle.vt_base.specs.declared.types.Kind.TheVariants as kind
use Rattle.vt_base.specs.declared.types.Malformed.{Malformed}
use Rattle.crb_port.specs.Views.{PortView}
use Rattle.crb_machine.specs.Values.{DeviceValues}
use Rattle.device_record.specs.Records.{encode_record}
use Rattle.device_record.specs.Layouts.{IsRefused as IsRefusedRecord}
use Rattle.tpm_core.specs.declared.parts.TpmParts.{TpmParts}
use Rattle.state_blobs.specs.Encodings.{encode_blob}
use Rattle.state_blobs.specs.Refusals.{IsRefused}
use Rattle.ctrl_codec.specs.declared.request.Request.TheVariants.{Init, SetStateBlob, Stop}
use Rattle.ctrl_client.specs.declared.fault.ClientFault.{ClientFault}
use Rattle.ctrl_model.specs.Emulator.{EmulatorState, type_of, gather_of}
use Rattle.ctrl_model.specs.Link.{Link}
use Rattle.ctrl_client.specs.Exchange.{IsQuiet}
use Rattle.move_codec.specs.declared.message.Body.{Body}
use Rattle.move_codec.specs.declared.message.Body.TheVariants as body
use Rattle.vt_base.specs.declared.types.Reason.TheVariants as reason
use Rattle.move_codec.specs.declared.names.Part.{Part}
use Rattle.move_codec.specs.declared.names.Part.TheVariants.{Record, Permanent, Volatile, Saved}
use Rattle.move_core.specs.declared.answers.Delivered.{Delivered}
use Rattle.move_core.specs.declared.stage.MoveStage.{MoveStage}
use Rattle.move_core.specs.declared.stage.MoveStage.TheVariants.{Empty, Running, Draining, Offering, Released, Filling, Prepared}
use Rattle.move_core.specs.Model.{HostModel}
use Rattle.move_codec.specs.declared.message.Message.{Message}
use Rattle.move_core.specs.Sides.{is_same, total_of, first_bad, part_after, is_active}
use Rattle.move_core.specs.Hosts.{Decodes}
use Rattle.ctrl_client.specs.Pieces.{HasField, encode_blob_if_any}
use Rattle.move_core.specs.declared.asking.Fetched.{Fetched}
use Rattle.hand_over.specs.Fine.{IsUndisturbed}
use Rattle.hand_over.proofs.Pieces.{sent_sure}
use Rattle.move_core.specs.Requests.{WiresView, Asks, FetchesPiece, SwitchesOn}
use Rattle.move_core.specs.Table.{After, Row, answers, ignored}
use Rattle.move_core.specs.Table as table
use Rattle.move_core.specs.Table.Row.{Ends, Stops, Fetches, Gives, GivesLast, Loads}
use Rattle.move_core.specs.Calls.{EndsIn, Follows, HasBytes}
use Rattle.hand_over.specs.Parts.{Parts, part_of, filled, put}
use Rattle.hand_over.specs.Bridge.{gathered, IsReady}
use Rattle.hand_over.specs.Fine.{PieceLaws, HasSlice, HasParts, IsFineFor, IsNotRefused, offered_by}
use Rattle.hand_over.proofs.Slices.{total_is, put_slice}
use Rattle.hand_over.proofs.Sure.{obeyed, stop_done, put_sure, init_sure}
use Rattle.hand_over.proofs.Requests.{put as put_done}
use Rattle.hand_over.proofs.Bridging.{asked}

-- an end that is no refusal
record IsGood {P : Type 0} (after : After P) : Type 0 where
  good : IsNotRefused after.answer

good_end : {P : Type 0} (port_view : P → PortView) (after : After P) (answer : Delivered) (new : HostModel P) → IsGood after → EndsIn port_view after answer new → IsNotRefused answer
good_end port_view after answer new fine made = subst IsNotRefused (sym made.answer_is) fine.good

wants_good : {P : Type 0} (h : HostModel P) (e : ℕ) (totals : List ℕ) (part : Part) (place : ℕ) → IsGood (table.wants h e totals part place)
wants_good h e totals part place = record { good = tt }

goes_good : {P : Type 0} (h : HostModel P) (e : ℕ) (totals : List ℕ) (next : Option Part) → IsGood (table.goes_to h e totals next)
goes_good h e totals (Some part) = record { good = tt }
goes_good h e totals None = record { good = tt }

either : {A : Type 0} (b : Bool) (x y : A) (P : A → Type 0) → P x → P y → P (cond b x y)
either true x y P this that = this
either false x y P this that = that

took_good : {P : Type 0} (h : HostModel P) (e : ℕ) (totals : List ℕ) (part : Part) (place : ℕ) (r : Result (Unit {0}) ClientFault) → r ≡ Ok tt → IsGood (table.took h e totals part place r)
took_good h e totals part place (Ok done) is = either (nat_lt place (total_of totals part)) _ _ IsGood (wants_good h e totals part place) (goes_good h e totals (part_after part))
took_good h e totals part place (Err fault) is = absurd cc

loads_good : {P : Type 0} (h : HostModel P) (e : ℕ) (totals bytes : List ℕ) (r : Result DeviceValues Malformed) → ((f : Malformed) → IsRefusedRecord f bytes → ⊥) → Decodes bytes r → IsGood (table.loads h e totals bytes r)
loads_good h e totals bytes (Ok v) fine is_said = record { good = tt }
loads_good h e totals bytes (Err fault) fine is_said = absurd (fine fault is_said)

module _ {P Schedule : Type 0} (port_view : P → PortView) (laws : PieceLaws) (h : HostModel P) (w v : WiresView Schedule) (l : Link) (answer : Delivered) (new : HostModel P)
    (is : w.link ≡ Some l) (quiet : IsQuiet l) (fine : IsUndisturbed w) where
  -- the blob with this piece behind it is a prefix of the source's
  with_piece : (part : Part) (k : Kind) (totals bytes : List ℕ) (place : ℕ) (s : HasSlice totals part place bytes h l.emulator)
      → (xs : List ℕ) → part_of (put (gathered h.record_bytes l.emulator.gathers) part bytes) part ≡ xs → part_of (filled (offered_by s.values s.tpm) part (place + length bytes)) part ≡ take (place + length bytes) (part_of (offered_by s.values s.tpm) part)
      → xs ≡ take (place + length bytes) (part_of (offered_by s.values s.tpm) part)
  with_piece part k totals bytes place s xs is_put is_filled =
      sym is_put
      ∙ ap (λ (c : Parts). part_of (put c part bytes) part) s.prefix
      ∙ ap (λ (b : List ℕ). part_of (put (filled (offered_by s.values s.tpm) part place) part b) part) s.piece
      ∙ ap (λ (c : Parts). part_of c part) (put_slice (offered_by s.values s.tpm) part place (length bytes))
      ∙ is_filled

  gives_good : (k : Kind) (part : Part) (e : ℕ) (totals bytes : List ℕ) (place : ℕ) (t : TpmParts) (n : ℕ) → l.emulator.on ≡ false → gather_of k l.emulator.gathers ++ bytes ≡ take n (encode_blob k t) → ((f : Malformed) → IsRefused k f (take n (encode_blob k t)) → ⊥)
      → (r : Result (Unit {0}) ClientFault) → Asks (SetStateBlob 0 (type_of k) (length bytes)) bytes w v r → EndsIn port_view (table.took h e totals part place r) answer new → IsNotRefused answer
  gives_good k part e totals bytes place t n off prefix never r asks made =
      let o = obeyed (SetStateBlob 0 (type_of k) (length bytes)) bytes w v l r is quiet fine asks in
      let ok = put_sure l k bytes r off (λ f refused. never f (subst (IsRefused k f) prefix refused)) o.0 in
      good_end port_view _ answer new (took_good h e totals part place r ok) made

  total_at : (totals : List ℕ) (next : Part) (place : ℕ) (bytes : List ℕ) (s : HasSlice totals next place bytes h l.emulator) → total_of totals next ≡ length (part_of (offered_by s.values s.tpm) next)
  total_at totals next place bytes s = ap (λ (ts : List ℕ). total_of ts next) s.totals_are ∙ total_is (offered_by s.values s.tpm) next

  record_good : (b : Bool) (e : ℕ) (totals : List ℕ) (place : ℕ) (bytes : List ℕ) → nat_lt (place + length bytes) (total_of totals Record) ≡ b → HasSlice totals Record place bytes h l.emulator
      → Follows port_view (if◌then◌else◌ b (Ends (table.wants (record h { record_bytes = h.record_bytes ++ bytes }) e totals Record (place + length bytes))) (Loads (h.record_bytes ++ bytes) (table.loads h e totals (h.record_bytes ++ bytes)))) w v answer new
      → IsNotRefused answer
  record_good true e totals place bytes test s f = good_end port_view _ answer new (wants_good (record h { record_bytes = h.record_bytes ++ bytes }) e totals Record (place + length bytes)) f.1
  record_good false e totals place bytes test s f =
      let text = encode_record s.values in
      let size = total_at totals Record place bytes s in
      let whole : h.record_bytes ++ bytes ≡ text = with_piece Record kind.Permanent totals bytes place s (h.record_bytes ++ bytes) refl refl ∙ take_all (place + length bytes) text (omega (arith, size, ltb-false _ _ test)) in
      good_end port_view _ answer new
      (loads_good h e totals (h.record_bytes ++ bytes) f.0 (λ fault refused. laws.records s.values fault s.fit (subst (IsRefusedRecord fault) whole refused)) f.1) f.3

  -- the last piece of all
  last_good : (e : ℕ) (totals : List ℕ) (place : ℕ) (bytes : List ℕ) (given r : Result (Unit {0}) ClientFault) (between : WiresView Schedule) → nat_lt (place + length bytes) (total_of totals Saved) ≡ false
      → l.emulator.on ≡ false → 0 < length bytes → HasSlice totals Saved place bytes h l.emulator
      → Asks (SetStateBlob 0 (type_of kind.Saved) (length bytes)) bytes w between given → SwitchesOn given between v r
      → EndsIn port_view (table.took h e totals Saved (place + length bytes) r) answer new → IsNotRefused answer
  last_good e totals place bytes given r between test off some s gives switches made =
      let text = encode_blob kind.Saved s.tpm in
      let prefix = with_piece Saved kind.Saved totals bytes place s (l.emulator.gathers.saved ++ bytes) refl refl in
      let o = obeyed (SetStateBlob 0 (type_of kind.Saved) (length bytes)) bytes w between l given is quiet fine gives in
      let ok = put_sure l kind.Saved bytes given off (λ f refused. laws.fronts kind.Saved s.tpm (place + length bytes) f s.fit_too (subst (IsRefused kind.Saved f) prefix refused)) o.0 in
      let leaves = put_done l kind.Saved bytes given between.link some off (asked _ bytes w between l given is quiet gives) in
      let emulator = leaves.done ok in
      let init = subst (λ (g : Result (Unit {0}) ClientFault). SwitchesOn g between v r) ok switches in
      let size = total_at totals Saved place bytes s in
      let saved : leaves.link.emulator.gathers.saved ≡ text = ap (λ (d : EmulatorState). d.gathers.saved) emulator ∙ prefix ∙ take_all (place + length bytes) text (omega (arith, size, ltb-false _ _ test)) in
      let permanent : leaves.link.emulator.gathers.permanent ≡ encode_blob kind.Permanent s.tpm = ap (λ (d : EmulatorState). d.gathers.permanent) emulator ∙ ap (λ (c : Parts). c.permanent) s.prefix in
      let volatile : leaves.link.emulator.gathers.volatile ≡ encode_blob kind.Volatile s.tpm = ap (λ (d : EmulatorState). d.gathers.volatile) emulator ∙ ap (λ (c : Parts). c.volatile) s.prefix in
      let last : 0 < length leaves.link.emulator.gathers.saved = omega (arith, ap (λ (d : EmulatorState). length d.gathers.saved) emulator, length-append l.emulator.gathers.saved bytes, some) in
      let on = obeyed (Init 0) [] between v leaves.link r leaves.is_link (leaves.quiet quiet) o.1 init in
      let done = init_sure leaves.link r last
      (λ f fault. laws.assembles s.tpm f s.fit_too
      (subst (λ (z : List ℕ). IsFault (encode_blob kind.Permanent s.tpm) (encode_blob kind.Volatile s.tpm) z f) saved
      (subst (λ (y : List ℕ). IsFault (encode_blob kind.Permanent s.tpm) y leaves.link.emulator.gathers.saved f) volatile
      (subst (λ (x : List ℕ). IsFault x leaves.link.emulator.gathers.volatile leaves.link.emulator.gathers.saved f) permanent fault))))
      on.0 in
      good_end port_view _ answer new (took_good h e totals Saved (place + length bytes) r done) made

  saved_good : (b : Bool) (e : ℕ) (totals : List ℕ) (place : ℕ) (bytes : List ℕ) → nat_lt (place + length bytes) (total_of totals Saved) ≡ b → l.emulator.on ≡ false → 0 < length bytes → HasSlice totals Saved place bytes h l.emulator
      → Follows port_view (if◌then◌else◌ b (Gives kind.Saved bytes (table.took h e totals Saved (place + length bytes))) (GivesLast bytes (table.took h e totals Saved (place + length bytes)))) w v answer new
      → IsNotRefused answer
  saved_good true e totals place bytes test off some s f =
      gives_good kind.Saved Saved e totals bytes (place + length bytes) s.tpm (place + length bytes) off (with_piece Saved kind.Saved totals bytes place s (l.emulator.gathers.saved ++ bytes) refl refl)
      (λ fault. laws.fronts kind.Saved s.tpm (place + length bytes) fault s.fit_too) f.0 f.1 f.2
  saved_good false e totals place bytes test off some s f = last_good e totals place bytes f.1.given f.0 f.1.between test off some s f.1.gives f.1.switches f.2

  piece_good : (next : Part) (e : ℕ) (totals : List ℕ) (place : ℕ) (bytes : List ℕ) → l.emulator.on ≡ false → 0 < length bytes → HasSlice totals next place bytes h l.emulator
      → Follows port_view (table.takes_piece h e totals next (place + length bytes) bytes) w v answer new → IsNotRefused answer
  piece_good Record e totals place bytes off some s f = record_good (nat_lt (place + length bytes) (total_of totals Record)) e totals place bytes refl s f
  piece_good Permanent e totals place bytes off some s f =
      gives_good kind.Permanent Permanent e totals bytes (place + length bytes) s.tpm (place + length bytes) off (with_piece Permanent kind.Permanent totals bytes place s (l.emulator.gathers.permanent ++ bytes) refl refl)
      (λ fault. laws.fronts kind.Permanent s.tpm (place + length bytes) fault s.fit_too) f.0 f.1 f.2
  piece_good Volatile e totals place bytes off some s f =
      gives_good kind.Volatile Volatile e totals bytes (place + length bytes) s.tpm (place + length bytes) off (with_piece Volatile kind.Volatile totals bytes place s (l.emulator.gathers.volatile ++ bytes) refl refl)
      (λ fault. laws.fronts kind.Volatile s.tpm (place + length bytes) fault s.fit_too) f.0 f.1 f.2
  piece_good Saved e totals place bytes off some s f = saved_good (nat_lt (place + length bytes) (total_of totals Saved)) e totals place bytes refl off some s f

  -- ---- Need

  passed_good : (e total : ℕ) (part : Part) (offset : ℕ) (r : Result Fetched ClientFault) (p : Fetched) → r ≡ Ok p → p.total ≡ total → IsGood (table.passes_on h e total part offset r)
  passed_good e total part offset (Ok q) p is size =
      let same_piece : q ≡ p = cc in
      let same : q.total ≡ total = ap (λ (x : Fetched). x.total) same_piece ∙ size in
      subst (λ (a : After P). IsGood a) (sym (cond-true (q.total == total) _ _ (eq-eqb q.total total same))) (record { good = tt })
  passed_good e total part offset (Err fault) p is size = absurd cc

  blob_good : (k : Kind) (part : Part) (e : ℕ) (totals : List ℕ) (offset : ℕ) (s : HasParts totals h l.emulator) → HasField k l → total_of totals part ≡ length (encode_blob k s.tpm) → offset ≤ total_of totals part
      → (r : Result Fetched ClientFault) → FetchesPiece k offset w v r → EndsIn port_view (table.passes_on h e (total_of totals part) part offset r) answer new → IsNotRefused answer
  blob_good k part e totals offset s field size there r fetches made =
      let sent = sent_sure k offset w v l s.tpm r is field s.is_tpm (omega (arith, size)) s.least s.most fine.none fetches in
      good_end port_view _ answer new (passed_good e (total_of totals part) part offset r sent.got sent.answer_is (sent.total ∙ sym size)) made

  need_good : (part : Part) (e : ℕ) (totals : List ℕ) (offset : ℕ) → HasParts totals h l.emulator → ((k : Kind) → HasField k l) → offset ≤ total_of totals part
      → Follows port_view (table.gives h e (total_of totals part) part offset) w v answer new → IsNotRefused answer
  need_good Record e totals offset s field there f = good_end port_view _ answer new (record { good = tt }) f.1
  need_good Permanent e totals offset s field there f =
      blob_good kind.Permanent Permanent e totals offset s (field kind.Permanent) (ap (λ (ts : List ℕ). total_of ts Permanent) s.totals_are ∙ ap (λ o. length (encode_blob_if_any kind.Permanent o)) s.is_tpm) there f.0 f.1 f.2
  need_good Volatile e totals offset s field there f =
      blob_good kind.Volatile Volatile e totals offset s (field kind.Volatile) (ap (λ (ts : List ℕ). total_of ts Volatile) s.totals_are ∙ ap (λ o. length (encode_blob_if_any kind.Volatile o)) s.is_tpm) there f.0 f.1 f.2
  need_good Saved e totals offset s field there f =
      blob_good kind.Saved Saved e totals offset s (field kind.Saved) (ap (λ (ts : List ℕ). total_of ts Saved) s.totals_are ∙ ap (λ o. length (encode_blob_if_any kind.Saved o)) s.is_tpm) there f.0 f.1 f.2

  -- ---- Offer

  begins_good : (e : ℕ) (totals : List ℕ) (r : Result (Unit {0}) ClientFault) → r ≡ Ok tt → IsGood (table.begins (record h { top = e }) e totals r)
  begins_good e totals (Ok done) is = record { good = tt }
  begins_good e totals (Err fault) is = absurd cc

  offer_good : (newer : Bool) (e : ℕ) (totals : List ℕ)
      → Follows port_view (if◌then◌else◌ newer (table.takes_offer (record h { top = e }) e totals None) (ignored h)) w v answer new → IsNotRefused answer
  offer_good true e totals f =
      let o = obeyed Stop [] w v l f.0 is quiet fine f.1 in
      good_end port_view _ answer new (begins_good e totals f.0 (stop_done l f.0 o.0)) f.2
  offer_good false e totals f = good_end port_view _ answer new (record { good = tt }) f.1

  -- ---- the whole

  nothing_good : (b : Bool) (after : After P) → IsGood after → Follows port_view (if◌then◌else◌ b (Ends after) (ignored h)) w v answer new → IsNotRefused answer
  nothing_good true after fine f = good_end port_view after answer new fine f.1
  nothing_good false after fine f = good_end port_view _ answer new (record { good = tt }) f.1

  ignored_good : Follows port_view (ignored h) w v answer new → IsNotRefused answer
  ignored_good f = good_end port_view _ answer new (record { good = tt }) f.1

  offer_by : (newer active : Bool) (bad : Option ℕ) (e : ℕ) (totals : List ℕ) → active ≡ false → bad ≡ None
      → Follows port_view (if◌then◌else◌ newer (if◌then◌else◌ active (Ends (table.refuses h e reason.Busy 0)) (table.takes_offer (record h { top = e }) e totals bad)) (ignored h)) w v answer new → IsNotRefused answer
  offer_by newer false None e totals passive none f = offer_good newer e totals f
  offer_by newer true bad e totals passive none f = absurd cc
  offer_by newer false (Some part) e totals passive none f = absurd cc

  need_by : (b : Bool) (e : ℕ) (totals : List ℕ) (part : Part) (offset : ℕ) → (b ≡ true → offset ≤ total_of totals part) → HasParts totals h l.emulator → ((k : Kind) → HasField k l)
      → Follows port_view (if◌then◌else◌ b (table.gives h e (total_of totals part) part offset) (ignored h)) w v answer new → IsNotRefused answer
  need_by true e totals part offset there s field f = need_good part e totals offset s field (there refl) f
  need_by false e totals part offset there s field f = ignored_good f

  piece_by : (b : Bool) (e : ℕ) (totals : List ℕ) (next : Part) (place : ℕ) (bytes : List ℕ) → l.emulator.on ≡ false → 0 < length bytes → HasSlice totals next place bytes h l.emulator
      → Follows port_view (if◌then◌else◌ b (table.takes_piece h e totals next (place + length bytes) bytes) (ignored h)) w v answer new → IsNotRefused answer
  piece_by true e totals next place bytes off some s f = piece_good next e totals place bytes off some s f
  piece_by false e totals next place bytes off some s f = ignored_good f

  message_good : (s : MoveStage) (e : ℕ) (says : Body) → h.stage ≡ s → IsReady s l.emulator → HasBytes says → IsFineFor says s h l.emulator → Follows port_view (table.on_message h e says) w v answer new → IsNotRefused answer
  message_good s e (body.Offer totals) at_stage ready some fine_for f =
      offer_by (nat_lt h.top e) (is_active h.stage) (first_bad totals) e totals (ap is_active at_stage ∙ fine_for.0) fine_for.1 f
  message_good s e (body.Need part offset) at_stage ready some fine_for f = need_at s ready fine_for (subst (λ (s : MoveStage). Follows port_view (table.on_need h s e part offset) w v answer new) at_stage f)
    where
      need_at : (s : MoveStage) → IsReady s l.emulator → IsFineFor (body.Need part offset) s h l.emulator → Follows port_view (table.on_need h s e part offset) w v answer new → IsNotRefused answer
      need_at (Offering epoch totals) ready fine_for f =
          need_by (epoch == e && nat_lt offset (total_of totals part)) e totals part offset (λ yes. omega (arith, ltb-true offset (total_of totals part) (and_parts (epoch == e) (nat_lt offset (total_of totals part)) yes).1)) fine_for (λ k. record { quiet = quiet; total = subst (λ (o : Option TpmParts). IfSome o (λ t. length (encode_blob k t) < 2 ^ 32)) (sym ready.1) (ready.2 k) }) f
      need_at Empty ready fine_for f = ignored_good f
      need_at Running ready fine_for f = ignored_good f
      need_at Draining ready fine_for f = ignored_good f
      need_at (Released epoch) ready fine_for f = ignored_good f
      need_at (Filling epoch totals next place) ready fine_for f = ignored_good f
      need_at (Prepared epoch) ready fine_for f = ignored_good f
  message_good s e (body.Piece part offset bytes) at_stage ready some fine_for f = piece_at s ready fine_for (subst (λ (s : MoveStage). Follows port_view (table.on_piece h s e part offset bytes) w v answer new) at_stage f)
    where
      piece_at : (s : MoveStage) → IsReady s l.emulator → IsFineFor (body.Piece part offset bytes) s h l.emulator → Follows port_view (table.on_piece h s e part offset bytes) w v answer new → IsNotRefused answer
      piece_at (Filling epoch totals next place) ready fine_for f = piece_by (epoch == e && table.is_next totals next place part offset (length bytes)) e totals next place bytes ready.0 some fine_for f
      piece_at Empty ready fine_for f = ignored_good f
      piece_at Running ready fine_for f = ignored_good f
      piece_at Draining ready fine_for f = ignored_good f
      piece_at (Offering epoch totals) ready fine_for f = ignored_good f
      piece_at (Released epoch) ready fine_for f = ignored_good f
      piece_at (Prepared epoch) ready fine_for f = ignored_good f
  message_good s e body.Prepared at_stage ready some fine_for f = prepared_at h.stage f
    where
      prepared_at : (s : MoveStage) → Follows port_view (table.on_prepared h s e) w v answer new → IsNotRefused answer
      prepared_at (Offering epoch totals) f = nothing_good (epoch == e) _ (record { good = tt }) f
      prepared_at (Released epoch) f = nothing_good (epoch == e) _ (record { good = tt }) f
      prepared_at Empty f = ignored_good f
      prepared_at Running f = ignored_good f
      prepared_at Draining f = ignored_good f
      prepared_at (Filling epoch totals next place) f = ignored_good f
      prepared_at (Prepared epoch) f = ignored_good f
  message_good s e body.Commit at_stage ready some fine_for f = commit_at h.stage f
    where
      commit_at : (s : MoveStage) → Follows port_view (table.on_commit h s e) w v answer new → IsNotRefused answer
      commit_at (Prepared epoch) f = nothing_good (epoch == e) _ (record { good = tt }) f
      commit_at Empty f = ignored_good f
      commit_at Running f = ignored_good f
      commit_at Draining f = ignored_good f
      commit_at (Offering epoch totals) f = ignored_good f
      commit_at (Released epoch) f = ignored_good f
      commit_at (Filling epoch totals next place) f = ignored_good f
  message_good s e body.Abort at_stage ready some fine_for f = abort_at h.stage f
    where
      abort_at : (s : MoveStage) → Follows port_view (table.on_abort h s e) w v answer new → IsNotRefused answer
      abort_at (Filling epoch totals next place) f = nothing_good (epoch == e) _ (record { good = tt }) f
      abort_at (Prepared epoch) f = nothing_good (epoch == e) _ (record { good = tt }) f
      abort_at Empty f = ignored_good f
      abort_at Running f = ignored_good f
      abort_at Draining f = ignored_good f
      abort_at (Offering epoch totals) f = ignored_good f
      abort_at (Released epoch) f = ignored_good f
  message_good s e (body.Refuse why value) at_stage ready some fine_for f = refuse_at h.stage f
    where
      refuse_at : (s : MoveStage) → Follows port_view (table.on_refuse h s e) w v answer new → IsNotRefused answer
      refuse_at (Offering epoch totals) f = nothing_good (epoch == e) _ (record { good = tt }) f
      refuse_at Empty f = ignored_good f
      refuse_at Running f = ignored_good f
      refuse_at Draining f = ignored_good f
      refuse_at (Released epoch) f = ignored_good f
      refuse_at (Filling epoch totals next place) f = ignored_good f
      refuse_at (Prepared epoch) f = ignored_good f

pub not_refused : {P Schedule : Type 0} (port_view : P → PortView) (laws : PieceLaws) (h : HostModel P) (m : Message) (w v : WiresView Schedule) (l : Link) (answer : Delivered) (new : HostModel P)
    → w.link ≡ Some l → IsQuiet l → IsUndisturbed w → IsReady h.stage l.emulator → HasBytes m.body → IsFineFor m.body h.stage h l.emulator → Follows port_view (table.delivered h m) w v answer new → IsNotRefused answer
unfolding table.delivered
not_refused port_view laws h m w v l answer new is quiet fine ready some fine_for f = by (is_same h.name m.to) f
  where
    by : (b : Bool) → Follows port_view (if◌then◌else◌ b (table.on_message h m.epoch m.body) (ignored h)) w v answer new → IsNotRefused answer
    by true f = message_good port_view laws h w v l answer new is quiet fine h.stage m.epoch m.body refl ready some fine_for f
    by false f = ignored_good port_view laws h w v l answer new is quiet fine f
