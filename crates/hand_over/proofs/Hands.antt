-- One turn of a move from hand to hand.
use Rattle.std.proofs.Common.{◌≡◌, ℕ, suc, ◌+◌, ◌*◌, ◌<◌, ◌≤◌, Bool, true, false, List, [], ◌++◌, length, Option, Some, None, Ok, Err, refl, sym, ap, subst, ◌∙◌, arith}
use Rattle.std.specs.Prelude.{Result, IfSome, IsSomeAnd, ◌^◌, if◌then◌else◌, nat_lt, ◌==◌, ◌&&◌}
use Rattle.vt_base.specs.declared.types.Kind.{Kind}
use Rattle.vt_base.specs.declared.types.Kind.TheVariants as kind
use Rattle.crb_port.specs.Views.{PortView}
use Rattle.crb_machine.specs.Values.{DeviceValues, AreValid, held_values}
use Rattle.crb_machine.specs.Model.{DeviceModel}
use Rattle.ctrl_client.specs.declared.fault.ClientFault.{ClientFault}
use Rattle.ctrl_client.specs.declared.fault.ClientFault.TheVariants.{Reply as BadReply}
use Rattle.ctrl_model.specs.declared.profile.TheConstants.{TOTAL_PLACE}
use Rattle.move_core.specs.declared.asking.Fetched.{Fetched}
use Rattle.hand_over.proofs.Pieces.{got}
use Rattle.hand_over.proofs.PreparedHosts.{AreInjective, held}
use Rattle.device_record.specs.Records.{encode_record}
use Rattle.tpm_core.specs.declared.parts.TpmParts.{TpmParts}
use Rattle.tpm_core.specs.Steps.{IsValid}
use Rattle.state_blobs.specs.Encodings.{encode_blob}
use Rattle.ctrl_model.specs.Emulator.{EmulatorState}
use Rattle.ctrl_model.specs.Link.{Link}
use Rattle.ctrl_client.specs.Exchange.{IsQuiet}
use Rattle.ctrl_client.specs.Pieces.{HasField}
use Rattle.vt_base.specs.declared.types.HostName.{HostName}
use Rattle.vt_base.specs.declared.types.HostName.TheVariants.{A, B}
use Rattle.move_codec.specs.declared.names.Part.{Part}
use Rattle.move_codec.specs.declared.names.Part.TheVariants.{Record, Permanent, Volatile, Saved}
use Rattle.move_codec.specs.declared.message.Message.{Message}
use Rattle.move_codec.specs.declared.message.Body.TheVariants as body
use Rattle.move_core.specs.declared.stage.MoveStage.{MoveStage}
use Rattle.move_core.specs.declared.stage.MoveStage.TheVariants.{Empty, Running, Draining, Offering, Released, Filling, Prepared}
use Rattle.move_core.specs.declared.side.Side.TheVariants as side
use Rattle.move_core.specs.declared.answers.Delivered.{Delivered}
use Rattle.move_core.specs.declared.answers.Delivered.TheVariants as delivers
use Rattle.move_core.specs.Model.{HostModel}
use Rattle.move_core.specs.Sides.{side_of, is_same, total_of, holds_device}
use Rattle.move_core.specs.Sides as sides
use Rattle.move_core.specs.Hosts.{restored}
use Rattle.vt_base.specs.declared.types.Malformed.{Malformed}
use Rattle.move_core.specs.Hosts.{MatchesSide, IsConsistentHost}
use Rattle.move_core.specs.Requests.{WiresView}
use Rattle.move_core.specs.Table as table
use Rattle.move_core.specs.Table.{Row, ignored}
use Rattle.move_core.specs.Table.Row.{Ends as EndsRow, Stops, Fetches, Gives, GivesLast, Loads}
use Rattle.move_core.specs.Calls.{Follows, HasBytes, IsNeed, EndsIn, SettlesBy, Resumes}
use Rattle.hand_over.specs.Parts.{Parts, PieceSizes, size_for, part_of, lengths, slice, filled}
use Rattle.hand_over.specs.Host.{HostState, After, other}
use Rattle.hand_over.specs.Host as model
use Rattle.hand_over.specs.Bridge.{port_state, model_of, HasStarted, IsReady, StandsFor}
use Rattle.hand_over.specs.Fine.{IsFineFor, IsUndisturbed, IsSureStep, offered_by}
use Rattle.hand_over.specs.Moving.{fills, IsSource, ToTarget, ToSource, AreMoving, to_target, to_source, TargetGoes, IsHandedOver, IsSameTarget}
use Rattle.hand_over.specs.Counts.{blob_piece, tpm_behind, commands_at, sizes_at, parts_at, pieces_from, pieces_left, messages_after, messages_left}
use Rattle.hand_over.specs.Ends.{IsCalm}
use Rattle.hand_over.proofs.Ceilings.{left_step}
use Rattle.hand_over.specs.Moving.ToTarget.{PieceComes, CommitComes}
use Rattle.hand_over.specs.Moving.ToSource.{NeedComes, PreparedComes}
use Rattle.std.proofs.lemmas.Bool.{cond-true, eq-eqb}
use Rattle.hand_over.proofs.Slices.{slice_again}
use Rattle.hand_over.proofs.Turns.{same, Turned, piece_size, target_turns, source_turns}
use Rattle.hand_over.proofs.Turns.Turned.{Asks, Ends}
use Rattle.hand_over.proofs.Undisturbed.{FieldsFor, still}
use Rattle.hand_over.proofs.Commanding.{commands_kept}

pub either : {A : Type 0} (b : Bool) (x y : A) (P : A → Type 0) → P x → P y → P (if b then x else y)
either true x y P this that = this
either false x y P this that = that

-- ---- what a row needs of the link

fields : {P : Type 0} (row : Row P) (l : Link) → ((k : Kind) → HasField k l) → FieldsFor row l
fields (EndsRow after) l all = tt
fields (Stops next) l all = tt
fields (Fetches k offset next) l all = all k
fields (Gives k bytes next) l all = tt
fields (GivesLast bytes next) l all = tt
fields (Loads bytes next) l all = tt

pub record NeedsNoField {P : Type 0} (l : Link) (row : Row P) : Type 0 where
  pub none : FieldsFor row l

piece_none : {P : Type 0} (h : HostModel P) (l : Link) (s : MoveStage) (e : ℕ) (part : Part) (offset : ℕ) (bytes : List ℕ) → NeedsNoField l (table.on_piece h s e part offset bytes)
piece_none h l (Filling epoch totals Record place) e part offset bytes =
    either (epoch == e && table.is_next totals Record place part offset (length bytes)) _ _ (NeedsNoField l)
    (either (nat_lt (place + length bytes) (total_of totals Record)) _ _ (NeedsNoField l) (record { none = tt }) (record { none = tt })) (record { none = tt })
piece_none h l (Filling epoch totals Permanent place) e part offset bytes =
    either (epoch == e && table.is_next totals Permanent place part offset (length bytes)) _ _ (NeedsNoField l) (record { none = tt }) (record { none = tt })
piece_none h l (Filling epoch totals Volatile place) e part offset bytes =
    either (epoch == e && table.is_next totals Volatile place part offset (length bytes)) _ _ (NeedsNoField l) (record { none = tt }) (record { none = tt })
piece_none h l (Filling epoch totals Saved place) e part offset bytes =
    either (epoch == e && table.is_next totals Saved place part offset (length bytes)) _ _ (NeedsNoField l)
    (either (nat_lt (place + length bytes) (total_of totals Saved)) _ _ (NeedsNoField l) (record { none = tt }) (record { none = tt })) (record { none = tt })
piece_none h l Empty e part offset bytes = record { none = tt }
piece_none h l Running e part offset bytes = record { none = tt }
piece_none h l Draining e part offset bytes = record { none = tt }
piece_none h l (Offering epoch totals) e part offset bytes = record { none = tt }
piece_none h l (Released epoch) e part offset bytes = record { none = tt }
piece_none h l (Prepared epoch) e part offset bytes = record { none = tt }

commit_none : {P : Type 0} (h : HostModel P) (l : Link) (s : MoveStage) (e : ℕ) → NeedsNoField l (table.on_commit h s e)
commit_none h l (Prepared epoch) e = either (epoch == e) _ _ (NeedsNoField l) (record { none = tt }) (record { none = tt })
commit_none h l Empty e = record { none = tt }
commit_none h l Running e = record { none = tt }
commit_none h l Draining e = record { none = tt }
commit_none h l (Offering epoch totals) e = record { none = tt }
commit_none h l (Released epoch) e = record { none = tt }
commit_none h l (Filling epoch totals next place) e = record { none = tt }

target_none : {P : Type 0} (size : PieceSizes) (e : ℕ) (parts : Parts) (n : HostName) (x y : HostState) (h : HostModel P) (l : Link) (m : Message) → ToTarget size e parts n x y m → FieldsFor (table.delivered h m) l
unfolding table.delivered
target_none size e parts n x y h l m (PieceComes part place source target there is) =
    subst (λ (m : Message). FieldsFor (if is_same h.name m.to then table.on_message h m.epoch m.body else ignored h) l) (sym is)
    (either (is_same h.name (other n)) _ _ (NeedsNoField l) (piece_none h l h.stage e part place (slice (part_of parts part) place (size_for size part))) (record { none = tt })).none
target_none size e parts n x y h l m (CommitComes released side content is) =
    subst (λ (m : Message). FieldsFor (if is_same h.name m.to then table.on_message h m.epoch m.body else ignored h) l) (sym is)
    (either (is_same h.name (other n)) _ _ (NeedsNoField l) (commit_none h l h.stage e) (record { none = tt })).none

-- ---- what a message needs of what stands

pub side_is : {P : Type 0} (s : MoveStage) (h : HostModel P) (d : EmulatorState) (y : HostState) → model_of s h d y ≡ y → side_of s ≡ y.side
side_is Empty h d y is = ap (λ (g : HostState). g.side) is
side_is Running h d y is = ap (λ (g : HostState). g.side) is
side_is Draining h d y is = ap (λ (g : HostState). g.side) is
side_is (Offering e totals) h d y is = ap (λ (g : HostState). g.side) is
side_is (Released e) h d y is = ap (λ (g : HostState). g.side) is
side_is (Filling e totals part place) h d y is = ap (λ (g : HostState). g.side) is
side_is (Prepared e) h d y is = ap (λ (g : HostState). g.side) is

-- a piece that the source sent is the next slice
piece_fine : {P : Type 0} (s : MoveStage) (h : HostModel P) (d : EmulatorState) (values : DeviceValues) (tpm : TpmParts) (e : ℕ) (part : Part) (place size : ℕ) → AreValid values → IsValid tpm
    → model_of s h d (fills e (offered_by values tpm) part place) ≡ fills e (offered_by values tpm) part place
    → IsFineFor (body.Piece part place (slice (part_of (offered_by values tpm) part) place size)) s h d
piece_fine (Filling epoch totals next at) h d values tpm e part place size fit fit_too is =
    let parts = offered_by values tpm in
    let next_is : next ≡ part = ap (λ (g : HostState). g.next) is in
    let at_is : at ≡ place = ap (λ (g : HostState). g.place) is in
    record {
      values = values;
      tpm = tpm;
      fit = fit;
      fit_too = fit_too;
      totals_are = ap (λ (g : HostState). g.totals) is;
      prefix = ap (λ (g : HostState). g.content) is ∙ ap (λ (p : Part). filled parts p place) (sym next_is) ∙ ap (filled parts next) (sym at_is);
      piece =
          slice_again (part_of parts part) place size
          ∙ ap (λ (p : Part). slice (part_of parts p) place (length (slice (part_of parts part) place size))) (sym next_is)
          ∙ ap (λ (n : ℕ). slice (part_of parts next) n (length (slice (part_of parts part) place size))) (sym at_is);
    }
piece_fine Empty h d values tpm e part place size fit fit_too is = tt
piece_fine Running h d values tpm e part place size fit fit_too is = tt
piece_fine Draining h d values tpm e part place size fit fit_too is = tt
piece_fine (Offering epoch totals) h d values tpm e part place size fit fit_too is = tt
piece_fine (Released epoch) h d values tpm e part place size fit fit_too is = tt
piece_fine (Prepared epoch) h d values tpm e part place size fit fit_too is = tt

target_fine : {P : Type 0} (h : HostModel P) (l : Link) (values : DeviceValues) (tpm : TpmParts) (size their : PieceSizes) (e : ℕ) (n : HostName) (x y : HostState) (m : Message) → AreValid values → IsValid tpm → StandsFor their h l y
    → ToTarget size e (offered_by values tpm) n x y m → IsFineFor m.body h.stage h l.emulator
target_fine h l values tpm size their e n x y m fit fit_too stands (PieceComes part place source target there is) =
    subst (λ (m : Message). IsFineFor m.body h.stage h l.emulator) (sym is)
    (piece_fine h.stage h l.emulator values tpm e part place (size_for size part) fit fit_too (subst (λ (g : HostState). model_of h.stage h l.emulator g ≡ g) target stands.host))
target_fine h l values tpm size their e n x y m fit fit_too stands (CommitComes released side content is) = subst (λ (m : Message). IsFineFor m.body h.stage h l.emulator) (sym is) tt

pub target_bytes : (size : PieceSizes) (e : ℕ) (parts : Parts) (n : HostName) (x y : HostState) (m : Message) → ((p : Part) → 1 ≤ size_for size p) → ToTarget size e parts n x y m → HasBytes m.body
target_bytes size e parts n x y m least (PieceComes part place source target there is) =
    subst (λ (m : Message). HasBytes m.body) (sym is) (omega (arith, piece_size (part_of parts part) place (size_for size part), there, least part))
target_bytes size e parts n x y m least (CommitComes released side content is) = subst (λ (m : Message). HasBytes m.body) (sym is) tt

-- ---- the source

source_fields : {P : Type 0} (s : MoveStage) (h : HostModel P) (l : Link) (x : HostState) (e : ℕ) → model_of s h l.emulator x ≡ x → x.side ≡ side.Offering e → IsReady s l.emulator → IsQuiet l → (k : Kind) → HasField k l
source_fields (Offering epoch totals) h l x e is offers ready quiet k =
    record { quiet = quiet; total = subst (λ (o : Option TpmParts). IfSome o (λ t. length (encode_blob k t) < 2 ^ 32)) (sym ready.1) (ready.2 k) }
source_fields Empty h l x e is offers ready quiet k = absurd (let a = ap (λ (g : HostState). g.side) is ∙ offers in cc)
source_fields Running h l x e is offers ready quiet k = absurd (let a = ap (λ (g : HostState). g.side) is ∙ offers in cc)
source_fields Draining h l x e is offers ready quiet k = absurd (let a = ap (λ (g : HostState). g.side) is ∙ offers in cc)
source_fields (Released epoch) h l x e is offers ready quiet k = absurd (let a = ap (λ (g : HostState). g.side) is ∙ offers in cc)
source_fields (Filling epoch totals part place) h l x e is offers ready quiet k = absurd (let a = ap (λ (g : HostState). g.side) is ∙ offers in cc)
source_fields (Prepared epoch) h l x e is offers ready quiet k = absurd (let a = ap (λ (g : HostState). g.side) is ∙ offers in cc)

need_fine : {P : Type 0} (s : MoveStage) (h : HostModel P) (l : Link) (x : HostState) (e : ℕ) (parts : Parts) (part : Part) (place size : ℕ) → 1 ≤ size → size ≤ 4096 → l.emulator.piece ≡ size
    → model_of s h l.emulator x ≡ x → IsSource e parts x → IsReady s l.emulator → IsFineFor (body.Need part place) s h l.emulator
need_fine (Offering epoch totals) h l x e parts part place size least most piece is source ready = record {
  tpm = ready.0;
  is_tpm = ready.1;
  totals_are =
      ap (λ (g : HostState). g.totals) is ∙ source.totals
      ∙ ap lengths (sym source.content) ∙ ap lengths (sym (ap (λ (g : HostState). g.content) is));
  least = omega (arith, piece, least);
  most = omega (arith, piece, most);
}
need_fine Empty h l x e parts part place size least most piece is source ready = tt
need_fine Running h l x e parts part place size least most piece is source ready = tt
need_fine Draining h l x e parts part place size least most piece is source ready = tt
need_fine (Released epoch) h l x e parts part place size least most piece is source ready = tt
need_fine (Filling epoch totals next at) h l x e parts part place size least most piece is source ready = tt
need_fine (Prepared epoch) h l x e parts part place size least most piece is source ready = tt

source_fine : {P : Type 0} (h : HostModel P) (l : Link) (size : PieceSizes) (e : ℕ) (parts : Parts) (k : HostName) (x y : HostState) (m : Message) → 1 ≤ size.of_blob → size.of_blob ≤ 4096 → StandsFor size h l x → ToSource e parts k x y m → IsFineFor m.body h.stage h l.emulator
source_fine h l size e parts k x y m least most stands (NeedComes part place source target there is) =
    subst (λ (m : Message). IsFineFor m.body h.stage h l.emulator) (sym is) (need_fine h.stage h l x e parts part place size.of_blob least most stands.blob_pieces stands.host source stands.ready)
source_fine h l size e parts k x y m least most stands (PreparedComes source side content is) = subst (λ (m : Message). IsFineFor m.body h.stage h l.emulator) (sym is) tt

pub source_bytes : (e : ℕ) (parts : Parts) (k : HostName) (x y : HostState) (m : Message) → ToSource e parts k x y m → HasBytes m.body
source_bytes e parts k x y m (NeedComes part place source target there is) = subst (λ (m : Message). HasBytes m.body) (sym is) tt
source_bytes e parts k x y m (PreparedComes source side content is) = subst (λ (m : Message). HasBytes m.body) (sym is) tt

source_of : (e : ℕ) (parts : Parts) (k : HostName) (x y : HostState) (m : Message) → ToSource e parts k x y m → IsSource e parts x
source_of e parts k x y m (NeedComes part place source target there is) = source
source_of e parts k x y m (PreparedComes source side content is) = source

pub twice : (n k : HostName) → k ≡ other n → other k ≡ n
twice A k is = ap other is
twice B k is = ap other is

-- ---- the source keeps its device, and its link stays

-- only the side and the record may be others
abbrev pub IsSameSource : {P : Type 0} → HostModel P → HostModel P → Type 0
IsSameSource h new = new ≡ record h { stage = new.stage; record_bytes = new.record_bytes }

same_source : {P : Type 0} (h to new : HostModel P) → new ≡ to → IsSameSource h to → IsSameSource h new
same_source {P} h to new is same = subst (λ (n : HostModel P). IsSameSource h n) (sym is) same

pub record KeepsRow {P : Type 0} (Schedule : Type 0) (h : HostModel P) (l : Link) (row : Row P) : Type 0 where
  pub keeps : (port_view : P → PortView) (w v : WiresView Schedule) (answer : Delivered) (new : HostModel P) → w.link ≡ Some l → Follows port_view row w v answer new → IsSameSource h new × (v.link ≡ Some l)

ends_kept : {P Schedule : Type 0} (h : HostModel P) (l : Link) (to : HostModel P) (answer : Delivered) → IsSameSource h to → KeepsRow Schedule h l (EndsRow (table.answers to answer))
ends_kept {P} {Schedule} h l to answer same = record { keeps = λ port_view w v answer new is f. (same_source h to new f.1.host_is same, ap (λ (s : WiresView Schedule). s.link) f.0 ∙ is) }

passes_kept : {P : Type 0} (port_view : P → PortView) (h new : HostModel P) (e total : ℕ) (part : Part) (offset : ℕ) (answer : Delivered) (r : Result Fetched ClientFault) → EndsIn port_view (table.passes_on h e total part offset r) answer new → new ≡ h
passes_kept port_view h new e total part offset answer (Ok p) made = by (p.total == total) made
  where
    by : (fits : Bool) → EndsIn port_view (if fits then table.sends h e (body.Piece part offset p.bytes) else table.answers h (delivers.Wires (BadReply TOTAL_PLACE))) answer new → new ≡ h
    by true made = made.host_is
    by false made = made.host_is
passes_kept port_view h new e total part offset answer (Err fault) made = made.host_is

fetch_kept : {P Schedule : Type 0} (h : HostModel P) (l : Link) (k : Kind) (e total : ℕ) (part : Part) (offset : ℕ) → HasField k l → KeepsRow Schedule h l (Fetches k offset (table.passes_on h e total part offset))
fetch_kept {P} {Schedule} h l k e total part offset field = record {
  keeps = λ port_view w v answer new is f.
      (same_source h h new (passes_kept port_view h new e total part offset answer f.0 f.2) refl, (got k offset w v l f.0 is field f.1).0);
}

gives_kept : {P Schedule : Type 0} (h : HostModel P) (l : Link) (e total : ℕ) (part : Part) (offset : ℕ) → ((k : Kind) → HasField k l) → KeepsRow Schedule h l (table.gives h e total part offset)
gives_kept h l e total Record offset field = ends_kept h l h _ refl
gives_kept h l e total Permanent offset field = fetch_kept h l kind.Permanent e total Permanent offset (field kind.Permanent)
gives_kept h l e total Volatile offset field = fetch_kept h l kind.Volatile e total Volatile offset (field kind.Volatile)
gives_kept h l e total Saved offset field = fetch_kept h l kind.Saved e total Saved offset (field kind.Saved)

need_kept : {P Schedule : Type 0} (h : HostModel P) (l : Link) (s : MoveStage) (e : ℕ) (part : Part) (offset : ℕ) → ((k : Kind) → HasField k l) → KeepsRow Schedule h l (table.on_need h s e part offset)
need_kept {P} {Schedule} h l (Offering epoch totals) e part offset field =
    either (epoch == e && nat_lt offset (total_of totals part)) _ _ (KeepsRow Schedule h l) (gives_kept h l e (total_of totals part) part offset field) (ends_kept h l h _ refl)
need_kept h l Empty e part offset field = ends_kept h l h _ refl
need_kept h l Running e part offset field = ends_kept h l h _ refl
need_kept h l Draining e part offset field = ends_kept h l h _ refl
need_kept h l (Released epoch) e part offset field = ends_kept h l h _ refl
need_kept h l (Filling epoch totals next at) e part offset field = ends_kept h l h _ refl
need_kept h l (Prepared epoch) e part offset field = ends_kept h l h _ refl

prepared_kept : {P Schedule : Type 0} (h : HostModel P) (l : Link) (s : MoveStage) (e : ℕ) → KeepsRow Schedule h l (table.on_prepared h s e)
prepared_kept {P} {Schedule} h l (Offering epoch totals) e = either (epoch == e) _ _ (KeepsRow Schedule h l) (ends_kept h l (record h { stage = Released e; record_bytes = [] }) _ refl) (ends_kept h l h _ refl)
prepared_kept {P} {Schedule} h l (Released epoch) e = either (epoch == e) _ _ (KeepsRow Schedule h l) (ends_kept h l h _ refl) (ends_kept h l h _ refl)
prepared_kept h l Empty e = ends_kept h l h _ refl
prepared_kept h l Running e = ends_kept h l h _ refl
prepared_kept h l Draining e = ends_kept h l h _ refl
prepared_kept h l (Filling epoch totals next at) e = ends_kept h l h _ refl
prepared_kept h l (Prepared epoch) e = ends_kept h l h _ refl

source_kept : {P Schedule : Type 0} (port_view : P → PortView) (e : ℕ) (parts : Parts) (k : HostName) (x y : HostState) (h : HostModel P) (l : Link) (m : Message) → ((k : Kind) → HasField k l) → ToSource e parts k x y m
    → (w v : WiresView Schedule) (answer : Delivered) (new : HostModel P) → w.link ≡ Some l → Follows port_view (table.delivered h m) w v answer new → IsSameSource h new × (v.link ≡ Some l)
unfolding table.delivered
source_kept {P} {Schedule} port_view e parts k x y h l m field (NeedComes part place source target there says) w v answer new is follows =
    (either (is_same h.name (other k)) _ _ (KeepsRow Schedule h l) (need_kept h l h.stage e part place field) (ends_kept h l h _ refl)).keeps port_view w v answer new is
    (subst (λ (m : Message). Follows port_view (if is_same h.name m.to then table.on_message h m.epoch m.body else ignored h) w v answer new) says follows)
source_kept {P} {Schedule} port_view e parts k x y h l m field (PreparedComes source side content says) w v answer new is follows =
    (either (is_same h.name (other k)) _ _ (KeepsRow Schedule h l) (prepared_kept h l h.stage e) (ends_kept h l h _ refl)).keeps port_view w v answer new is
    (subst (λ (m : Message). Follows port_view (if is_same h.name m.to then table.on_message h m.epoch m.body else ignored h) w v answer new) says follows)

-- ---- a turn

-- that a fitting delivery is sure, as a fact
abbrev pub AreSure : {P : Type 0} → Type 0 → (P → PortView) → Type 0
AreSure {P} Schedule port_view =
    (size : PieceSizes) (h new : HostModel P) (m : Message) (w v : WiresView Schedule) (l : Link) (g : HostState) (answer : Delivered)
    → w.link ≡ Some l → IsUndisturbed w → StandsFor size h l g → MatchesSide h → HasBytes m.body → IsFineFor m.body h.stage h l.emulator
    → Follows port_view (table.delivered h m) w v answer new → IsSureStep size (model.delivered h.name size g m None) v answer new

-- what a move counts, by what is behind the source
sizes_same : (size : PieceSizes) (record_piece blob_piece : ℕ) → record_piece ≡ size.of_record → blob_piece ≡ size.of_blob → record { of_record = record_piece; of_blob = blob_piece } ≡ size
sizes_same size record_piece blob_piece first second =
    ap (λ (n : ℕ). record { of_record = n; of_blob = blob_piece }) first ∙ ap (λ (n : ℕ). record { of_record = size.of_record; of_blob = n }) second

pub sizes_are : {P Schedule : Type 0} (port_view : P → PortView) (Turn : PieceSizes → ℕ → Parts → HostName → HostName → HostState → HostState → Type 0) (source : HostModel P) (w : WiresView Schedule) (target : HostModel P) (v : WiresView Schedule)
    → (a : AreMoving port_view Turn source w target v) → sizes_at source w.link ≡ a.size
sizes_are port_view Turn source w target v a =
    sizes_same a.size source.piece (blob_piece w.link) a.source_stands.record_pieces (ap blob_piece a.from_is ∙ a.source_stands.blob_pieces)

pub parts_are : {P Schedule : Type 0} (port_view : P → PortView) (Turn : PieceSizes → ℕ → Parts → HostName → HostName → HostState → HostState → Type 0) (source : HostModel P) (w : WiresView Schedule) (target : HostModel P) (v : WiresView Schedule)
    → (a : AreMoving port_view Turn source w target v) → parts_at source w.link ≡ offered_by a.values a.tpm
parts_are port_view Turn source w target v a =
    ap (λ (values : DeviceValues). port_state (encode_record values) (tpm_behind w.link)) a.held
    ∙ ap (port_state (encode_record a.values)) (ap tpm_behind a.from_is ∙ a.has)

pub left_is : {P Schedule : Type 0} (port_view : P → PortView) (Turn : PieceSizes → ℕ → Parts → HostName → HostName → HostState → HostState → Type 0) (source : HostModel P) (w : WiresView Schedule) (target : HostModel P) (v : WiresView Schedule)
    → (a : AreMoving port_view Turn source w target v) (m : Message) → messages_left source w.link m ≡ messages_after a.size (offered_by a.values a.tpm) m.body
left_is port_view Turn source w target v a m =
    ap (λ (size : PieceSizes). messages_after size (parts_at source w.link) m.body) (sizes_are port_view Turn source w target v a)
    ∙ ap (λ (parts : Parts). messages_after a.size parts m.body) (parts_are port_view Turn source w target v a)

pub same_left : {P : Type 0} (h new : HostModel P) (l k : Option Link) (m : Message) → IsSameSource h new → k ≡ l → messages_left new k m ≡ messages_left h l m
same_left {P} h new l k m same link = ap (λ (n : HostModel P). messages_left n k m) same ∙ ap (λ (l : Option Link). messages_left h l m) link

pub same_pieces : {P : Type 0} (h new : HostModel P) (l k : Option Link) → IsSameSource h new → k ≡ l → pieces_from new k ≡ pieces_from h l
same_pieces {P} h new l k same link = ap (λ (n : HostModel P). pieces_from n k) same ∙ ap (λ (l : Option Link). pieces_from h l) link

-- ---- the target stays the same host

pub record IsQuietEnd {P : Type 0} (h : HostModel P) (after : table.After P) : Type 0 where
  pub stays : after.goes_on ≡ false
  pub same : IsSameTarget h after.host

made_same : {P : Type 0} (port_view : P → PortView) (h : HostModel P) (after : table.After P) (answer : Delivered) (new : HostModel P) → IsQuietEnd h after → EndsIn port_view after answer new → IsSameTarget h new
made_same {P} port_view h after answer new end made =
    let is : new ≡ after.host = subst (λ (b : Bool). SettlesBy b port_view after.host new) end.stays made.host_is in
    subst (λ (n : HostModel P). IsSameTarget h n) (sym is) end.same

same_with : {P : Type 0} (h to : HostModel P) (s : MoveStage) → IsSameTarget h to → IsSameTarget h (record to { stage = s })
same_with {P} h to s same = record { rest = ap (λ (x : HostModel P). record x { stage = s }) same.rest; port = same.port }

wants_end : {P : Type 0} (h to : HostModel P) (e : ℕ) (totals : List ℕ) (part : Part) (place : ℕ) → IsSameTarget h to → IsQuietEnd h (table.wants to e totals part place)
wants_end h to e totals part place same = record { stays = refl; same = same_with h to (Filling e totals part place) same }

goes_end : {P : Type 0} (h to : HostModel P) (e : ℕ) (totals : List ℕ) (next : Option Part) → IsSameTarget h to → IsQuietEnd h (table.goes_to to e totals next)
goes_end h to e totals (Some part) same = wants_end h to e totals part 0 same
goes_end h to e totals None same = record { stays = refl; same = same_with h to (Prepared e) same }

emptied_end : {P : Type 0} (h : HostModel P) (answer : Delivered) → IsQuietEnd h (table.answers (table.emptied h) answer)
emptied_end h answer = record { stays = refl; same = record { rest = refl; port = refl } }

pub itself : {P : Type 0} (h : HostModel P) → IsSameTarget h h
itself h = record { rest = refl; port = refl }

took_end : {P : Type 0} (h : HostModel P) (e : ℕ) (totals : List ℕ) (part : Part) (place : ℕ) (r : Result (Unit {0}) ClientFault) → IsQuietEnd h (table.took h e totals part place r)
took_end h e totals part place (Ok done) =
    either (nat_lt place (total_of totals part)) _ _ (IsQuietEnd h) (wants_end h h e totals part place (itself h)) (goes_end h h e totals (sides.part_after part) (itself h))
took_end h e totals part place (Err fault) = emptied_end h _

loads_end : {P : Type 0} (h : HostModel P) (e : ℕ) (totals bytes : List ℕ) (r : Result DeviceValues Malformed) → IsQuietEnd h (table.loads h e totals bytes r)
loads_end h e totals bytes (Ok values) = wants_end h (record h { record_bytes = bytes; device = restored values h.device }) e totals Permanent 0 (record { rest = refl; port = refl })
loads_end h e totals bytes (Err fault) = emptied_end h _

pub record StaysRow {P : Type 0} (Schedule : Type 0) (h : HostModel P) (row : Row P) : Type 0 where
  pub stays : (port_view : P → PortView) (w v : WiresView Schedule) (answer : Delivered) (new : HostModel P) → Follows port_view row w v answer new → IsSameTarget h new

ends_stays : {P Schedule : Type 0} (h : HostModel P) (after : table.After P) → IsQuietEnd h after → StaysRow Schedule h (EndsRow after)
ends_stays h after end = record { stays = λ port_view w v answer new f. made_same port_view h after answer new end f.1 }

gives_stays : {P Schedule : Type 0} (h : HostModel P) (k : Kind) (bytes : List ℕ) (e : ℕ) (totals : List ℕ) (part : Part) (place : ℕ) → StaysRow Schedule h (Gives k bytes (table.took h e totals part place))
gives_stays h k bytes e totals part place = record { stays = λ port_view w v answer new f. made_same port_view h _ answer new (took_end h e totals part place f.0) f.2 }

last_stays : {P Schedule : Type 0} (h : HostModel P) (bytes : List ℕ) (e : ℕ) (totals : List ℕ) (place : ℕ) → StaysRow Schedule h (GivesLast bytes (table.took h e totals Saved place))
last_stays h bytes e totals place = record { stays = λ port_view w v answer new f. made_same port_view h _ answer new (took_end h e totals Saved place f.0) f.2 }

loads_stays : {P Schedule : Type 0} (h : HostModel P) (e : ℕ) (totals bytes : List ℕ) → StaysRow Schedule h (Loads bytes (table.loads h e totals bytes))
loads_stays h e totals bytes = record { stays = λ port_view w v answer new f. made_same port_view h _ answer new (loads_end h e totals bytes f.0) f.3 }

piece_stays : {P Schedule : Type 0} (h : HostModel P) (s : MoveStage) (e : ℕ) (part : Part) (offset : ℕ) (bytes : List ℕ) → StaysRow Schedule h (table.on_piece h s e part offset bytes)
piece_stays {P} {Schedule} h (Filling epoch totals Record place) e part offset bytes =
    either (epoch == e && table.is_next totals Record place part offset (length bytes)) _ _ (StaysRow Schedule h)
    (either (nat_lt (place + length bytes) (total_of totals Record)) _ _ (StaysRow Schedule h)
    (ends_stays h _ (wants_end h (record h { record_bytes = h.record_bytes ++ bytes }) e totals Record (place + length bytes) (record { rest = refl; port = refl })))
    (loads_stays h e totals (h.record_bytes ++ bytes)))
    (ends_stays h _ (record { stays = refl; same = itself h }))
piece_stays {P} {Schedule} h (Filling epoch totals Permanent place) e part offset bytes =
    either (epoch == e && table.is_next totals Permanent place part offset (length bytes)) _ _ (StaysRow Schedule h) (gives_stays h kind.Permanent bytes e totals Permanent (place + length bytes)) (ends_stays h _ (record { stays = refl; same = itself h }))
piece_stays {P} {Schedule} h (Filling epoch totals Volatile place) e part offset bytes =
    either (epoch == e && table.is_next totals Volatile place part offset (length bytes)) _ _ (StaysRow Schedule h) (gives_stays h kind.Volatile bytes e totals Volatile (place + length bytes)) (ends_stays h _ (record { stays = refl; same = itself h }))
piece_stays {P} {Schedule} h (Filling epoch totals Saved place) e part offset bytes =
    either (epoch == e && table.is_next totals Saved place part offset (length bytes)) _ _ (StaysRow Schedule h)
    (either (nat_lt (place + length bytes) (total_of totals Saved)) _ _ (StaysRow Schedule h) (gives_stays h kind.Saved bytes e totals Saved (place + length bytes)) (last_stays h bytes e totals (place + length bytes)))
    (ends_stays h _ (record { stays = refl; same = itself h }))
piece_stays h Empty e part offset bytes = ends_stays h _ (record { stays = refl; same = itself h })
piece_stays h Running e part offset bytes = ends_stays h _ (record { stays = refl; same = itself h })
piece_stays h Draining e part offset bytes = ends_stays h _ (record { stays = refl; same = itself h })
piece_stays h (Offering epoch totals) e part offset bytes = ends_stays h _ (record { stays = refl; same = itself h })
piece_stays h (Released epoch) e part offset bytes = ends_stays h _ (record { stays = refl; same = itself h })
piece_stays h (Prepared epoch) e part offset bytes = ends_stays h _ (record { stays = refl; same = itself h })

-- at any message with a piece
piece_same : {P Schedule : Type 0} (port_view : P → PortView) (h : HostModel P) (n : HostName) (e : ℕ) (part : Part) (offset : ℕ) (bytes : List ℕ) (w v : WiresView Schedule) (answer : Delivered) (new : HostModel P)
    → Follows port_view (table.delivered h (model.message_from n e (body.Piece part offset bytes))) w v answer new → IsSameTarget h new
unfolding table.delivered
piece_same {P} {Schedule} port_view h n e part offset bytes w v answer new follows =
    (either (is_same h.name (other n)) _ _ (StaysRow Schedule h) (piece_stays h h.stage e part offset bytes) (ends_stays h _ (record { stays = refl; same = itself h }))).stays port_view w v answer new follows

-- ---- what the target's answer leads to

pub data TargetTurn {P Schedule : Type 0} (port_view : P → PortView) (source : HostModel P) (w : WiresView Schedule) (new : HostModel P) (v : WiresView Schedule) (left : ℕ) (answer : Delivered) : Type 0 where
  Asked : (reply : Message) → answer ≡ delivers.Sent reply → AreMoving port_view (to_source reply) source w new v → left ≡ suc (messages_left source w.link reply) → TargetTurn port_view source w new v left answer
  Ended : answer ≡ delivers.Runs → left ≡ 0 → TargetTurn port_view source w new v left answer

pub parts_some : ((k : Kind) (t : TpmParts) → 10 ≤ length (encode_blob k t)) → (values : DeviceValues) (tpm : TpmParts) (p : Part) → 0 < length (part_of (offered_by values tpm) p)
unfolding encode_record
parts_some least values tpm Record = omega arith
parts_some least values tpm Permanent = omega (arith, least kind.Permanent tpm)
parts_some least values tpm Volatile = omega (arith, least kind.Volatile tpm)
parts_some least values tpm Saved = omega (arith, least kind.Saved tpm)

module _ {P Schedule : Type 0} (port_view : P → PortView) (succeeds_if_promised : AreSure Schedule port_view) (source : HostModel P) (w : WiresView Schedule) (target new : HostModel P) (v after : WiresView Schedule) (m : Message) (answer : Delivered)
    (a : AreMoving port_view (to_target m) source w target v) (follows : Follows port_view (table.delivered target m) v after answer new) where
  pub target_step : IsSureStep a.their (model.delivered target.name a.their a.y m None) after answer new
  target_step =
      succeeds_if_promised a.their target new m v after a.to a.y answer a.to_is a.to_fine a.target_stands a.target_consistent.matches_side
      (target_bytes a.size a.epoch (offered_by a.values a.tpm) source.name a.x a.y m a.least a.turn)
      (target_fine target a.to a.values a.tpm a.size a.their a.epoch source.name a.x a.y m a.fit a.fit_too a.target_stands a.turn) follows

  pub target_still : IsUndisturbed after
  target_still = still port_view (table.delivered target m) v after a.to answer new a.to_is a.target_stands.quiet a.to_fine (target_none a.size a.epoch (offered_by a.values a.tpm) source.name a.x a.y target a.to m a.turn) follows

  -- the emulator's pieces stay as large
  pub target_pieces : blob_piece after.link ≡ blob_piece v.link
  target_pieces = ap blob_piece target_step.is_link ∙ target_step.stands.blob_pieces ∙ sym a.target_stands.blob_pieces ∙ sym (ap blob_piece a.to_is)

  -- and it holds the command that it held
  pub target_commands : commands_at after.link ≡ commands_at v.link
  target_commands =
      commands_kept port_view (table.delivered target m) v after a.to answer new a.to_is a.target_stands.quiet (target_none a.size a.epoch (offered_by a.values a.tpm) source.name a.x a.y target a.to m a.turn) follows
      ∙ sym (ap commands_at a.to_is)

  pub target_calm : IsCalm (blob_piece v.link) after
  target_calm = record {
    link = target_step.link;
    is_link = target_step.is_link;
    quiet = target_step.stands.quiet;
    pieces = target_step.stands.blob_pieces ∙ sym a.target_stands.blob_pieces ∙ sym (ap blob_piece a.to_is);
    undisturbed = target_still;
  }

  pub target_turn : ((k : Kind) (t : TpmParts) → 10 ≤ length (encode_blob k t)) → IsConsistentHost port_view new → new.name ≡ target.name → TargetTurn port_view source w new after (messages_left source w.link m) answer
  target_turn least consistent name = by (target_turns source.name target.name a.size a.their a.epoch (offered_by a.values a.tpm) a.x a.y m (sym a.names) a.least (parts_some least a.values a.tpm) a.turn)
    where
      by : Turned a.size a.epoch (offered_by a.values a.tpm) target.name a.x (messages_after a.size (offered_by a.values a.tpm) m.body) (model.delivered target.name a.their a.y m None)
          → TargetTurn port_view source w new after (messages_left source w.link m) answer
      by (Asks reply says turn left) =
          let y = (model.delivered target.name a.their a.y m None).host in
          Asked reply (target_step.answer_is ∙ says)
          (record {
            size = a.size;
            their = a.their;
            epoch = a.epoch;
            values = a.values;
            tpm = a.tpm;
            fit = a.fit;
            fit_too = a.fit_too;
            least = a.least;
            most = a.most;
            x = a.x;
            y = y;
            from = a.from;
            to = target_step.link;
            from_is = a.from_is;
            to_is = target_step.is_link;
            from_fine = a.from_fine;
            to_fine = target_still;
            source_stands = a.source_stands;
            target_stands = target_step.stands;
            source_consistent = a.source_consistent;
            target_consistent = consistent;
            names = name ∙ a.names;
            held = a.held;
            has = a.has;
            turn = subst (λ (k : HostName). ToSource a.epoch (offered_by a.values a.tpm) k a.x y reply) (sym name) turn;
          })
          (left_is port_view (to_target m) source w target v a m ∙ left ∙ ap suc (sym (left_is port_view (to_target m) source w target v a reply)))
      by (Ends says runs released left) = Ended (target_step.answer_is ∙ says) (left_is port_view (to_target m) source w target v a m ∙ left)

-- a message to the target is no Need
pub target_no_need : (size : PieceSizes) (e : ℕ) (parts : Parts) (n : HostName) (x y : HostState) (m : Message) → ToTarget size e parts n x y m → IsNeed m.body → ⊥
target_no_need size e parts n x y m (PieceComes part place source target there is) need = subst (λ (m : Message). IsNeed m.body) is need
target_no_need size e parts n x y m (CommitComes released side content is) need = subst (λ (m : Message). IsNeed m.body) is need

-- what the source's answer leads to
pub record SourceTurn {P Schedule : Type 0} (port_view : P → PortView) (source : HostModel P) (was : WiresView Schedule) (new : HostModel P) (w : WiresView Schedule) (target : HostModel P) (v : WiresView Schedule) (m : Message) (answer : Delivered) : Type 0 where
  pub next : Message
  pub says : answer ≡ delivers.Sent next
  pub same : IsSameSource source new
  pub link : w.link ≡ was.link
  pub moving : AreMoving port_view (to_target next) new w target v
  pub count : suc (messages_left new w.link next) ≡ messages_left source was.link m

pub source_turn : {P Schedule : Type 0} (port_view : P → PortView) → AreSure Schedule port_view
    → (source new : HostModel P) (w after : WiresView Schedule) (target : HostModel P) (v : WiresView Schedule) (m : Message) (answer : Delivered)
    → AreMoving port_view (to_source m) source w target v → Follows port_view (table.delivered source m) w after answer new → IsConsistentHost port_view new → new.name ≡ source.name
    → SourceTurn port_view source w new after target v m answer
source_turn {P} port_view succeeds_if_promised source new w after target v m answer a follows consistent name =
    let parts = offered_by a.values a.tpm in
    let is_source = source_of a.epoch parts target.name a.x a.y m a.turn in
    let step = succeeds_if_promised a.size source new m w after a.from a.x answer a.from_is a.from_fine a.source_stands a.source_consistent.matches_side
    (source_bytes a.epoch parts target.name a.x a.y m a.turn)
    (source_fine source a.from a.size a.epoch parts target.name a.x a.y m (a.least Permanent) (a.most Permanent) a.source_stands a.turn) follows in
    let turns = source_turns source.name target.name a.size a.epoch parts a.x a.y m (twice source.name target.name a.names) a.turn in
    let fine = still port_view (table.delivered source m) w after a.from answer new a.from_is a.source_stands.quiet a.from_fine
    (fields (table.delivered source m) a.from (source_fields source.stage source a.from a.x a.epoch a.source_stands.host is_source.side a.source_stands.ready a.source_stands.quiet)) follows in
    let same = source_kept port_view a.epoch parts target.name a.x a.y source a.from m
    (source_fields source.stage source a.from a.x a.epoch a.source_stands.host is_source.side a.source_stands.ready a.source_stands.quiet) a.turn w after answer new a.from_is follows in
    let alike : step.link ≡ a.from = let e = sym step.is_link ∙ same.1 in cc in
    let device : new.device ≡ source.device = ap (λ (h : HostModel P). h.device) same.0 in
    record {
      next = turns.0;
      says = step.answer_is ∙ turns.1;
      same = same.0;
      link = same.1 ∙ sym a.from_is;
      count =
          ap suc (same_left source new w.link after.link turns.0 same.0 (same.1 ∙ sym a.from_is) ∙ left_is port_view (to_source m) source w target v a turns.0)
          ∙ sym turns.3 ∙ sym (left_is port_view (to_source m) source w target v a m);
      moving = record {
        size = a.size;
        their = a.their;
        epoch = a.epoch;
        values = a.values;
        tpm = a.tpm;
        fit = a.fit;
        fit_too = a.fit_too;
        least = a.least;
        most = a.most;
        x = (model.delivered source.name a.size a.x m None).host;
        y = a.y;
        from = step.link;
        to = a.to;
        from_is = step.is_link;
        to_is = a.to_is;
        from_fine = fine;
        to_fine = a.to_fine;
        source_stands = step.stands;
        target_stands = a.target_stands;
        source_consistent = consistent;
        target_consistent = a.target_consistent;
        names = a.names ∙ ap other (sym name);
        held = ap (λ (d : DeviceModel P). held_values d) device ∙ a.held;
        has = ap (λ (l : Link). l.emulator.tpm) alike ∙ a.has;
        turn = subst (λ (n : HostName). ToTarget a.size a.epoch parts n (model.delivered source.name a.size a.x m None).host a.y turns.0) (sym name) turns.2;
      };
    }

-- ---- by what was answered

pub prepared_at : {P : Type 0} (s : MoveStage) (h : HostModel P) (d : EmulatorState) (y : HostState) (e : ℕ) → model_of s h d y ≡ y → y.side ≡ side.Prepared e → s ≡ Prepared e
prepared_at (Prepared epoch) h d y e is at = let a = ap (λ (g : HostState). g.side) is ∙ at in cc
prepared_at Empty h d y e is at = absurd (let a = ap (λ (g : HostState). g.side) is ∙ at in cc)
prepared_at Running h d y e is at = absurd (let a = ap (λ (g : HostState). g.side) is ∙ at in cc)
prepared_at Draining h d y e is at = absurd (let a = ap (λ (g : HostState). g.side) is ∙ at in cc)
prepared_at (Offering epoch totals) h d y e is at = absurd (let a = ap (λ (g : HostState). g.side) is ∙ at in cc)
prepared_at (Released epoch) h d y e is at = absurd (let a = ap (λ (g : HostState). g.side) is ∙ at in cc)
prepared_at (Filling epoch totals part place) h d y e is at = absurd (let a = ap (λ (g : HostState). g.side) is ∙ at in cc)

pub released_at : {P : Type 0} (s : MoveStage) (h : HostModel P) (d : EmulatorState) (x : HostState) (e : ℕ) → model_of s h d x ≡ x → x.side ≡ side.Released e → s ≡ Released e
released_at (Released epoch) h d y e is at = let a = ap (λ (g : HostState). g.side) is ∙ at in cc
released_at Empty h d y e is at = absurd (let a = ap (λ (g : HostState). g.side) is ∙ at in cc)
released_at Running h d y e is at = absurd (let a = ap (λ (g : HostState). g.side) is ∙ at in cc)
released_at Draining h d y e is at = absurd (let a = ap (λ (g : HostState). g.side) is ∙ at in cc)
released_at (Offering epoch totals) h d y e is at = absurd (let a = ap (λ (g : HostState). g.side) is ∙ at in cc)
released_at (Prepared epoch) h d y e is at = absurd (let a = ap (λ (g : HostState). g.side) is ∙ at in cc)
released_at (Filling epoch totals part place) h d y e is at = absurd (let a = ap (λ (g : HostState). g.side) is ∙ at in cc)

-- a prepared host goes on at the commit
pub record CommitGoes {P Schedule : Type 0} (port_view : P → PortView) (h new : HostModel P) (v after : WiresView Schedule) (answer : Delivered) : Type 0 where
  pub wires : after ≡ v
  pub answer_is : answer ≡ delivers.Runs
  pub resumes : Resumes port_view (record h { stage = Running; record_bytes = [] }) new

commit_goes : {P Schedule : Type 0} (port_view : P → PortView) (h new : HostModel P) (n : HostName) (e : ℕ) (v after : WiresView Schedule) (answer : Delivered) → other n ≡ h.name → h.stage ≡ Prepared e
    → Follows port_view (table.delivered h (model.message_from n e body.Commit)) v after answer new → CommitGoes port_view h new v after answer
unfolding table.delivered
commit_goes {P} {Schedule} port_view h new n e v after answer me at follows =
    let row : (if is_same h.name (other n) then table.on_commit h h.stage e else ignored h) ≡ EndsRow (table.resumes (record h { stage = Running; record_bytes = [] }) delivers.Runs) =
    cond-true (is_same h.name (other n)) _ _ (ap (is_same h.name) me ∙ same h.name)
    ∙ ap (λ (s : MoveStage). table.on_commit h s e) at
    ∙ cond-true (e == e) _ _ (eq-eqb e e refl) in
    let f = subst (λ (r : Row P). Follows port_view r v after answer new) row follows in
    record { wires = f.0; answer_is = f.1.answer_is; resumes = f.1.host_is }

module _ {P Schedule : Type 0} (port_view : P → PortView) (source : HostModel P) (w : WiresView Schedule) (target new : HostModel P) (v after : WiresView Schedule) (m : Message) (answer : Delivered)
    (a : AreMoving port_view (to_target m) source w target v) (follows : Follows port_view (table.delivered target m) v after answer new) where
  -- the target asks for more
  pub target_goes_on : (reply : Message) → answer ≡ delivers.Sent reply → TargetTurn port_view source w new after (messages_left source w.link m) answer
      → TargetGoes port_view source w target new after (Some reply) × (messages_left source w.link m ≡ suc (messages_left source w.link reply))
  target_goes_on reply said (Asked sent is moving left) =
      let alike : sent ≡ reply = let e = sym is ∙ said in cc in
      ((subst (λ (m : Message). AreMoving port_view (to_source m) source w new after) alike moving, same_by a.turn), left ∙ ap (λ (m : Message). suc (messages_left source w.link m)) alike)
    where
      same_by : ToTarget a.size a.epoch (offered_by a.values a.tpm) source.name a.x a.y m → IsSameTarget target new
      same_by (PieceComes part place offers stands there says) =
          piece_same port_view target source.name a.epoch part place (slice (part_of (offered_by a.values a.tpm) part) place (size_for a.size part)) v after answer new
          (subst (λ (m : Message). Follows port_view (table.delivered target m) v after answer new) says follows)
      same_by (CommitComes let_go at content says) =
          let goes = commit_goes port_view target new source.name a.epoch v after answer (sym a.names) (prepared_at target.stage target a.to.emulator a.y a.epoch a.target_stands.host at) (subst (λ (m : Message). Follows port_view (table.delivered target m) v after answer new) says follows) in
          absurd (let e = sym said ∙ goes.answer_is in cc)
  target_goes_on reply said (Ended is left) = absurd (let e = sym is ∙ said in cc)

  -- the move is done
  pub target_ends : AreInjective → ((m : Message) → answer ≡ delivers.Sent m → ⊥) → TargetTurn port_view source w new after (messages_left source w.link m) answer
      → IsHandedOver port_view source w target new after × (messages_left source w.link m ≡ 0)
  target_ends once silent (Asked reply is moving left) = absurd (silent reply is)
  target_ends once silent (Ended is left) = (by a.turn, left)
    where
      by : ToTarget a.size a.epoch (offered_by a.values a.tpm) source.name a.x a.y m → IsHandedOver port_view source w target new after
      by (PieceComes part place offers stands there says) =
          absurd (let more : messages_left source w.link m ≡ 2 * pieces_left a.size (offered_by a.values a.tpm) part place = left_is port_view (to_target m) source w target v a m ∙ ap (λ (m : Message). messages_after a.size (offered_by a.values a.tpm) m.body) says in
          omega (arith, more, left, left_step a.size (offered_by a.values a.tpm) part place a.least there))
      by (CommitComes let_go at content says) =
          let stage = prepared_at target.stage target a.to.emulator a.y a.epoch a.target_stands.host at in
          let goes = commit_goes port_view target new source.name a.epoch v after answer (sym a.names) stage (subst (λ (m : Message). Follows port_view (table.delivered target m) v after answer new) says follows) in
          let all = held once a.their target a.to a.y a.epoch a.values a.tpm a.fit a.fit_too a.target_stands a.target_consistent.matches_side stage content in
          record {
            rest = goes.resumes.rest;
            epoch = a.epoch;
            released = released_at source.stage source a.from.emulator a.x a.epoch a.source_stands.host let_go;
            prepared = stage;
            values = all.0 ∙ sym a.held;
            held = a.target_consistent.matches_side.held ∙ ap holds_device stage;
            consistent = a.target_consistent.device;
            goes_on = goes.resumes.device;
            calm = subst (λ (s : WiresView Schedule). IsCalm (blob_piece s.link) s) (sym goes.wires) (record { link = a.to; is_link = a.to_is; quiet = a.target_stands.quiet; pieces = sym (ap blob_piece a.to_is); undisturbed = a.to_fine });
            tpm = ap (λ (s : WiresView Schedule). tpm_behind s.link) goes.wires ∙ ap tpm_behind a.to_is ∙ all.1 ∙ sym (ap tpm_behind a.from_is ∙ a.has);
            started = subst (λ (o : Option Link). IsSomeAnd o (λ l. HasStarted l.emulator)) (sym (ap (λ (s : WiresView Schedule). s.link) goes.wires ∙ a.to_is))
                (subst (λ (s : MoveStage). IsReady s a.to.emulator) stage a.target_stands.ready).3;
          }

-- the source answers
pub source_goes_on : {P Schedule : Type 0} (port_view : P → PortView) (source : HostModel P) (was : WiresView Schedule) (new : HostModel P) (w : WiresView Schedule) (target : HostModel P) (v : WiresView Schedule) (m : Message) (answer : Delivered) (next : Message) → answer ≡ delivers.Sent next
    → SourceTurn port_view source was new w target v m answer → AreMoving port_view (to_target next) new w target v × (suc (messages_left new w.link next) ≡ messages_left source was.link m)
source_goes_on {P} {Schedule} port_view source was new w target v m answer next said turn =
    let alike : turn.next ≡ next = let e = sym turn.says ∙ said in cc in
    (subst (λ (m : Message). AreMoving port_view (to_target m) new w target v) alike turn.moving, ap (λ (m : Message). suc (messages_left new w.link m)) (sym alike) ∙ turn.count)
