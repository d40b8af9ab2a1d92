-- What is made good behind a loss.
use Rattle.std.proofs.Common.{◌≡◌, ℕ, ◌⊎◌, inl, inr, ◌+◌, ◌*◌, ◌<◌, ◌≤◌, Bool, true, false, List, [], Option, Some, None, refl, sym, ap, subst, ◌∙◌, arith}
use Rattle.std.specs.Prelude.{if◌then◌else◌, ◌==◌, IfSome}
use Rattle.std.proofs.lemmas.Bool.{cond-true, eq-eqb, eqb-true, lt-ltb, le-ltb, cases_lt}
use Rattle.crb_port.specs.Views.{PortView}
use Rattle.crb_machine.specs.Model.{DeviceModel}
use Rattle.tpm_core.specs.declared.parts.TpmParts.{TpmParts}
use Rattle.vt_base.specs.declared.types.HostName.{HostName}
use Rattle.move_codec.specs.declared.message.Message.{Message}
use Rattle.move_codec.specs.declared.message.Body.TheVariants as body
use Rattle.move_core.specs.declared.side.Side.TheVariants as side
use Rattle.move_core.specs.declared.stage.MoveStage.{MoveStage}
use Rattle.move_core.specs.declared.stage.MoveStage.TheVariants.{Empty, Running, Draining, Offering, Released, Filling, Prepared}
use Rattle.move_core.specs.declared.answers.Delivered.{Delivered}
use Rattle.move_core.specs.declared.answers.Delivered.TheVariants as delivers
use Rattle.move_core.specs.Model.{HostModel}
use Rattle.move_core.specs.Sides.{side_of, is_same}
use Rattle.move_core.specs.Hosts.{IsConsistentHost, IsAtTop, HasRecord}
use Rattle.move_core.specs.Requests.{WiresView}
use Rattle.move_core.specs.Table as table
use Rattle.move_core.specs.Table.{Row, ignored}
use Rattle.move_core.specs.Table.Row.{Ends as EndsRow}
use Rattle.move_core.specs.declared.answers.Gave.{Gave}
use Rattle.move_core.specs.declared.answers.Gave.TheVariants as gave
use Rattle.move_core.specs.Calls.{Follows, GivesUp, GivesUpAt, said_again}
use Rattle.hand_over.specs.Host.{HostState, other}
use Rattle.hand_over.specs.Host as model
use Rattle.hand_over.specs.Fine.{offered_by}
use Rattle.hand_over.specs.Counts.{tpm_behind, pieces_left, messages_after, messages_left}
use Rattle.hand_over.specs.Arrival.{loses, arrives}
use Rattle.hand_over.specs.Ends.{host_as, Arrives, IsTakenBack, Ends}
use Rattle.hand_over.specs.Moving.{AreMoving, ToTarget, ToSource, to_target, to_source, IsSameTarget, IsHandedOver}
use Rattle.hand_over.specs.Moving.ToTarget.{PieceComes, CommitComes}
use Rattle.hand_over.specs.Moving.ToSource.{NeedComes, PreparedComes}
use Rattle.hand_over.specs.Start.{emptied}
use Rattle.hand_over.specs.Losses.{has_let_go, Resumed, aborted}
use Rattle.hand_over.proofs.Turns.{same}
use Rattle.hand_over.proofs.Hands.{side_is, prepared_at, released_at, twice, IsSameSource, left_is}
use Rattle.hand_over.proofs.Ceilings.{left_step}

-- ---- a source that offers gives up

pub gives_back : {P : Type 0} (port_view : P → PortView) (h new : HostModel P) (m : Message) → side_of h.stage ≡ side.Offering h.top → GivesUp port_view h (gave.Abort m) new
    → (m ≡ table.message_from h.name h.top body.Abort) × Resumed port_view h new
gives_back {P} port_view h new m offers gives = by h.stage offers gives
  where
    by : (s : MoveStage) → side_of s ≡ side.Offering h.top → GivesUpAt s port_view h (gave.Abort m) new → (m ≡ table.message_from h.name h.top body.Abort) × Resumed port_view h new
    by (Offering e totals) offers gives =
        let epoch : e ≡ h.top = cc in
        let is : m ≡ table.message_from h.name e body.Abort = let a = gives.0 in cc in
        (is ∙ ap (λ (e : ℕ). table.message_from h.name e body.Abort) epoch, record { rest = gives.1.rest; goes_on = gives.1.device })
    by Empty offers gives = absurd cc
    by Running offers gives = absurd cc
    by Draining offers gives = absurd cc
    by (Released e) offers gives = absurd cc
    by (Filling e totals part place) offers gives = absurd cc
    by (Prepared e) offers gives = absurd cc

pub gives_some : {P : Type 0} (port_view : P → PortView) (h new : HostModel P) (answer : Gave) → side_of h.stage ≡ side.Offering h.top → GivesUp port_view h answer new
    → (m : Message) × (answer ≡ gave.Abort m)
gives_some {P} port_view h new answer offers gives = by h.stage offers gives
  where
    by : (s : MoveStage) → side_of s ≡ side.Offering h.top → GivesUpAt s port_view h answer new → (m : Message) × (answer ≡ gave.Abort m)
    by (Offering e totals) offers gives = (_, gives.0)
    by Empty offers gives = absurd cc
    by Running offers gives = absurd cc
    by Draining offers gives = absurd cc
    by (Released e) offers gives = absurd cc
    by (Filling e totals part place) offers gives = absurd cc
    by (Prepared e) offers gives = absurd cc

pub gives_not_none : {P : Type 0} (port_view : P → PortView) (h new : HostModel P) → side_of h.stage ≡ side.Offering h.top → GivesUp port_view h gave.NotOffering new → ⊥
gives_not_none port_view h new offers gives = let is = (gives_some port_view h new gave.NotOffering offers gives).1 in cc

pub gives_not_undrained : {P : Type 0} (port_view : P → PortView) (h new : HostModel P) → side_of h.stage ≡ side.Offering h.top → GivesUp port_view h gave.Undrained new → ⊥
gives_not_undrained port_view h new offers gives = let is = (gives_some port_view h new gave.Undrained offers gives).1 in cc

-- ---- an Abort comes

aborted_by : {P Schedule : Type 0} (port_view : P → PortView) (h new : HostModel P) (s : MoveStage) (e : ℕ) (v after : WiresView Schedule) (answer : Delivered) → Follows port_view (table.on_abort h s e) v after answer new → (after ≡ v) × (new ≡ aborted s e h)
aborted_by {P} {Schedule} port_view h new (Filling epoch totals part place) e v after answer f = by (epoch == e) f
  where
    by : (b : Bool) → Follows port_view (if b then EndsRow (table.answers (table.emptied h) delivers.Took) else ignored h) v after answer new → (after ≡ v) × (new ≡ (if b then emptied h else h))
    by true f = (f.0, f.1.host_is)
    by false f = (f.0, f.1.host_is)
aborted_by {P} {Schedule} port_view h new (Prepared epoch) e v after answer f = by (epoch == e) f
  where
    by : (b : Bool) → Follows port_view (if b then EndsRow (table.answers (table.emptied h) delivers.Took) else ignored h) v after answer new → (after ≡ v) × (new ≡ (if b then emptied h else h))
    by true f = (f.0, f.1.host_is)
    by false f = (f.0, f.1.host_is)
aborted_by port_view h new Empty e v after answer f = (f.0, f.1.host_is)
aborted_by port_view h new Running e v after answer f = (f.0, f.1.host_is)
aborted_by port_view h new Draining e v after answer f = (f.0, f.1.host_is)
aborted_by port_view h new (Offering epoch totals) e v after answer f = (f.0, f.1.host_is)
aborted_by port_view h new (Released epoch) e v after answer f = (f.0, f.1.host_is)

pub abort_comes : {P Schedule : Type 0} (port_view : P → PortView) (h new : HostModel P) (n : HostName) (e : ℕ) (m : Message) (v after : WiresView Schedule) (answer : Delivered) → m ≡ table.message_from n e body.Abort → h.name ≡ other n
    → Follows port_view (table.delivered h m) v after answer new → (after ≡ v) × (new ≡ aborted h.stage e h)
unfolding table.delivered
abort_comes {P} {Schedule} port_view h new n e m v after answer says me follows =
    let row : (if is_same h.name (other n) then table.on_abort h h.stage e else ignored h) ≡ table.on_abort h h.stage e =
    cond-true (is_same h.name (other n)) _ _ (ap (is_same h.name) (sym me) ∙ same h.name) in
    aborted_by port_view h new h.stage e v after answer
    (subst (λ (r : Row P). Follows port_view r v after answer new) row
    (subst (λ (m : Message). Follows port_view (if is_same h.name m.to then table.on_message h m.epoch m.body else ignored h) v after answer new) says follows))

-- ---- what an Abort finds

-- a host that takes parts, or has them all
abbrev HasTaken : MoveStage → ℕ → Type 0
HasTaken s e = (side_of s ≡ side.Filling e) ⊎ (side_of s ≡ side.Prepared e)

taken_top : (s : MoveStage) (e top : ℕ) → HasTaken s e → IsAtTop s top → e ≡ top
taken_top (Filling epoch totals part place) e top (inl is) at = let same : epoch ≡ e = cc in sym same ∙ at
taken_top (Prepared epoch) e top (inr is) at = let same : epoch ≡ e = cc in sym same ∙ at
taken_top (Filling epoch totals part place) e top (inr is) at = absurd cc
taken_top (Prepared epoch) e top (inl is) at = absurd cc
taken_top Empty e top (inl is) at = absurd cc
taken_top Empty e top (inr is) at = absurd cc
taken_top Running e top (inl is) at = absurd cc
taken_top Draining e top (inl is) at = absurd cc
taken_top Running e top (inr is) at = absurd cc
taken_top Draining e top (inr is) at = absurd cc
taken_top (Offering epoch totals) e top (inl is) at = absurd cc
taken_top (Offering epoch totals) e top (inr is) at = absurd cc
taken_top (Released epoch) e top (inl is) at = absurd cc
taken_top (Released epoch) e top (inr is) at = absurd cc

aborted_taken : {P : Type 0} (s : MoveStage) (h : HostModel P) (e top : ℕ) → HasTaken s e → e ≡ top → aborted s top h ≡ emptied h
aborted_taken (Filling epoch totals part place) h e top (inl is) at = cond-true (epoch == top) _ _ (eq-eqb epoch top (let same : epoch ≡ e = cc in same ∙ at))
aborted_taken (Prepared epoch) h e top (inr is) at = cond-true (epoch == top) _ _ (eq-eqb epoch top (let same : epoch ≡ e = cc in same ∙ at))
aborted_taken (Filling epoch totals part place) h e top (inr is) at = absurd cc
aborted_taken (Prepared epoch) h e top (inl is) at = absurd cc
aborted_taken Empty h e top (inl is) at = absurd cc
aborted_taken Empty h e top (inr is) at = absurd cc
aborted_taken Running h e top (inl is) at = absurd cc
aborted_taken Draining h e top (inl is) at = absurd cc
aborted_taken Running h e top (inr is) at = absurd cc
aborted_taken Draining h e top (inr is) at = absurd cc
aborted_taken (Offering epoch totals) h e top (inl is) at = absurd cc
aborted_taken (Offering epoch totals) h e top (inr is) at = absurd cc
aborted_taken (Released epoch) h e top (inl is) at = absurd cc
aborted_taken (Released epoch) h e top (inr is) at = absurd cc

source_top : (s : MoveStage) (e top : ℕ) → side_of s ≡ side.Offering e → IsAtTop s top → e ≡ top
source_top (Offering epoch totals) e top is at = let same : epoch ≡ e = cc in sym same ∙ at
source_top Empty e top is at = absurd cc
source_top Running e top is at = absurd cc
source_top Draining e top is at = absurd cc
source_top (Released epoch) e top is at = absurd cc
source_top (Filling epoch totals part place) e top is at = absurd cc
source_top (Prepared epoch) e top is at = absurd cc

-- two hosts of which the source offers, and the target has taken the offer
pub record AreApart {P : Type 0} (source target : HostModel P) : Type 0 where
  pub offers : side_of source.stage ≡ side.Offering source.top
  pub names : target.name ≡ other source.name
  pub top : target.top ≡ source.top
  pub abort : aborted target.stage source.top target ≡ emptied target

apart : {P : Type 0} (port_view : P → PortView) (source target : HostModel P) (e : ℕ) → IsConsistentHost port_view source → IsConsistentHost port_view target → target.name ≡ other source.name → side_of source.stage ≡ side.Offering e → HasTaken target.stage e → AreApart source target
apart port_view source target e consistent consistent_too names offers taken =
    let source_at = source_top source.stage e source.top offers consistent.matches_side.at_top in
    let target_at = taken_top target.stage e target.top taken consistent_too.matches_side.at_top in
    record { offers = offers ∙ ap side.Offering source_at; names = names; top = sym target_at ∙ source_at; abort = aborted_taken target.stage target e source.top taken source_at }

-- a message to the source is on the way
pub apart_before : {P Schedule : Type 0} (port_view : P → PortView) (source : HostModel P) (w : WiresView Schedule) (target : HostModel P) (v : WiresView Schedule) (m : Message) → AreMoving port_view (to_source m) source w target v → AreApart source target
apart_before {P} {Schedule} port_view source w target v m a = by a.turn
  where
    by : ToSource a.epoch (offered_by a.values a.tpm) target.name a.x a.y m → AreApart source target
    by (NeedComes part place offers there_is there is) =
        apart port_view source target a.epoch a.source_consistent a.target_consistent a.names (side_is source.stage source a.from.emulator a.x a.source_stands.host ∙ offers.side)
        (inl (side_is target.stage target a.to.emulator a.y a.target_stands.host ∙ ap (λ (y : HostState). y.side) there_is))
    by (PreparedComes offers at content is) =
        apart port_view source target a.epoch a.source_consistent a.target_consistent a.names (side_is source.stage source a.from.emulator a.x a.source_stands.host ∙ offers.side)
        (inr (side_is target.stage target a.to.emulator a.y a.target_stands.host ∙ at))

-- a message to the target is on the way: a Piece of a source that offers, or the Commit
pub data IsUnderWay {P Schedule : Type 0} (source : HostModel P) (w : WiresView Schedule) (target : HostModel P) (m : Message) : Type 0 where
  StillOffers : AreApart source target → has_let_go source.stage ≡ false → 2 ≤ messages_left source w.link m → IsUnderWay source w target m
  LetGo : (e : ℕ) → source.stage ≡ Released e → target.stage ≡ Prepared e → has_let_go source.stage ≡ true → messages_left source w.link m ≡ 0 → m ≡ table.message_from source.name e body.Commit → IsUnderWay source w target m

not_let_go : (s : MoveStage) (e : ℕ) → side_of s ≡ side.Offering e → has_let_go s ≡ false
not_let_go (Offering epoch totals) e is = refl
not_let_go Empty e is = absurd cc
not_let_go Running e is = absurd cc
not_let_go Draining e is = absurd cc
not_let_go (Released epoch) e is = absurd cc
not_let_go (Filling epoch totals part place) e is = absurd cc
not_let_go (Prepared epoch) e is = absurd cc

pub under_way : {P Schedule : Type 0} (port_view : P → PortView) (source : HostModel P) (w : WiresView Schedule) (target : HostModel P) (v : WiresView Schedule) (m : Message) → AreMoving port_view (to_target m) source w target v → IsUnderWay source w target m
under_way {P} {Schedule} port_view source w target v m a = by a.turn
  where
    by : ToTarget a.size a.epoch (offered_by a.values a.tpm) source.name a.x a.y m → IsUnderWay source w target m
    by (PieceComes part place offers there_is there is) =
        let at = side_is source.stage source a.from.emulator a.x a.source_stands.host ∙ offers.side in
        let left : messages_left source w.link m ≡ 2 * pieces_left a.size (offered_by a.values a.tpm) part place =
        left_is port_view (to_target m) source w target v a m ∙ ap (λ (m : Message). messages_after a.size (offered_by a.values a.tpm) m.body) is in
        StillOffers
        (apart port_view source target a.epoch a.source_consistent a.target_consistent a.names at (inl (side_is target.stage target a.to.emulator a.y a.target_stands.host ∙ ap (λ (y : HostState). y.side) there_is)))
        (not_let_go source.stage a.epoch at)
        (omega (arith, left, left_step a.size (offered_by a.values a.tpm) part place a.least there))
    by (CommitComes let_go at content is) =
        let released = released_at source.stage source a.from.emulator a.x a.epoch a.source_stands.host let_go in
        LetGo a.epoch released (prepared_at target.stage target a.to.emulator a.y a.epoch a.target_stands.host at) (ap has_let_go released)
        (left_is port_view (to_target m) source w target v a m ∙ ap (λ (m : Message). messages_after a.size (offered_by a.values a.tpm) m.body) is) is

-- ---- the Commit is said again

pub says_again : {P : Type 0} (h : HostModel P) (e : ℕ) → h.stage ≡ Prepared e → said_again h.stage h ≡ Some (table.message_from h.name e body.Prepared)
says_again h e at = ap (λ (s : MoveStage). said_again s h) at

pub record SaysCommit {P Schedule : Type 0} (h new : HostModel P) (e : ℕ) (v after : WiresView Schedule) (answer : Delivered) : Type 0 where
  pub wires : after ≡ v
  pub answer_is : answer ≡ delivers.Sent (table.message_from h.name e body.Commit)
  pub host_is : new ≡ h

pub commit_comes : {P Schedule : Type 0} (port_view : P → PortView) (h new : HostModel P) (k : HostName) (e : ℕ) (m : Message) (v after : WiresView Schedule) (answer : Delivered) → m ≡ table.message_from k e body.Prepared → k ≡ other h.name → h.stage ≡ Released e
    → Follows port_view (table.delivered h m) v after answer new → SaysCommit h new e v after answer
unfolding table.delivered
commit_comes {P} {Schedule} port_view h new k e m v after answer says me at follows =
    let row : (if is_same h.name (other k) then table.on_prepared h h.stage e else ignored h) ≡ EndsRow (table.sends h e body.Commit) =
    cond-true (is_same h.name (other k)) _ _ (ap (is_same h.name) (twice h.name k me) ∙ same h.name)
    ∙ ap (λ (s : MoveStage). table.on_prepared h s e) at
    ∙ cond-true (e == e) _ _ (eq-eqb e e refl) in
    let f = subst (λ (r : Row P). Follows port_view r v after answer new) row
    (subst (λ (m : Message). Follows port_view (if is_same h.name m.to then table.on_message h m.epoch m.body else ignored h) v after answer new) says follows) in
    record { wires = f.0; answer_is = f.1.answer_is; host_is = f.1.host_is }

pub moving_again : {P Schedule : Type 0} (port_view : P → PortView) (source new : HostModel P) (w after : WiresView Schedule) (target : HostModel P) (v : WiresView Schedule) (m n : Message) → AreMoving port_view (to_target m) source w target v
    → n ≡ m → new ≡ source → after ≡ w → AreMoving port_view (to_target n) new after target v
moving_again {P} {Schedule} port_view source new w after target v m n a message host wires =
    subst (λ (n : Message). AreMoving port_view (to_target n) new after target v) (sym message)
    (subst (λ (h : HostModel P). AreMoving port_view (to_target m) h after target v) (sym host)
    (subst (λ (s : WiresView Schedule). AreMoving port_view (to_target m) source s target v) (sym wires) a))

-- ---- how it ends

pub called_off : {P : Type 0} (port_view : P → PortView) (source target new_source new_target : HostModel P) → AreApart source target → Resumed port_view source new_source → new_target ≡ aborted target.stage source.top target
    → IsTakenBack port_view source source.device target source.top new_source new_target
called_off {P} port_view source target new_source new_target two resumes aborts = (
  record { source_is = resumes.rest; goes_on = resumes.goes_on },
  subst (λ (n : HostModel P). (n ≡ host_as Empty source.top n.device target) × (n.device.port ≡ target.device.port)) (sym (aborts ∙ two.abort))
      (ap (λ (t : ℕ). record target { stage = Empty; record_bytes = []; top = t }) two.top, refl),
)

released_top : {P : Type 0} (h : HostModel P) (e : ℕ) → h.stage ≡ Released e → IsAtTop h.stage h.top → e ≡ h.top
released_top h e at top = subst (λ (s : MoveStage). IsAtTop s h.top) at top

released_record : {P : Type 0} (h : HostModel P) (e : ℕ) → h.stage ≡ Released e → HasRecord h.stage h.record_bytes h.device → h.record_bytes ≡ []
released_record h e at record_is = subst (λ (s : MoveStage). HasRecord s h.record_bytes h.device) at record_is

prepared_top : {P : Type 0} (h : HostModel P) (e : ℕ) → h.stage ≡ Prepared e → IsAtTop h.stage h.top → e ≡ h.top
prepared_top h e at top = subst (λ (s : MoveStage). IsAtTop s h.top) at top

pub arrived : {P Schedule : Type 0} (port_view : P → PortView) (source : HostModel P) (w : WiresView Schedule) (target new : HostModel P) (v : WiresView Schedule) → IsConsistentHost port_view source → IsConsistentHost port_view target → IsHandedOver port_view source w target new v
    → Arrives port_view source source.device (tpm_behind w.link) target source.top source new v
arrived {P} {Schedule} port_view source w target new v consistent consistent_too handed =
    let source_at = released_top source handed.epoch handed.released consistent.matches_side.at_top in
    let target_at = prepared_top target handed.epoch handed.prepared consistent_too.matches_side.at_top in
    record {
      source_is =
          ap (λ (s : MoveStage). record source { stage = s }) (handed.released ∙ ap Released source_at)
          ∙ ap (λ (bytes : List ℕ). record source { stage = Released source.top; record_bytes = bytes }) (released_record source handed.epoch handed.released consistent.matches_side.keeps);
      target_is = handed.rest ∙ ap (λ (t : ℕ). record target { stage = Running; record_bytes = []; device = new.device; top = t }) (sym target_at ∙ source_at);
      filled = target.device;
      values = handed.values;
      port = refl;
      held = handed.held;
      consistent = handed.consistent;
      goes_on = handed.goes_on;
      tpm_is = handed.tpm;
      started = handed.started;
    }

-- the same of the hosts as they were before
pub ends_from : {P Schedule : Type 0} (b : Bool) (port_view : P → PortView) (first source target_first target : HostModel P) (tpm : Option TpmParts) (new_source new_target : HostModel P) (v : WiresView Schedule)
    → IsSameSource first source → IsSameTarget target_first target → Ends b port_view source source.device tpm target source.top new_source new_target v
    → Ends b port_view first first.device tpm target_first first.top new_source new_target v
ends_from {P} {Schedule} b port_view first source target_first target tpm new_source new_target v same_source same_target ends = at_target b (at_source b ends)
  where
    at_source : (b : Bool) → Ends b port_view source source.device tpm target source.top new_source new_target v → Ends b port_view first first.device tpm target first.top new_source new_target v
    at_source true e =
        let s = subst (λ (h : HostModel P). Arrives port_view h h.device tpm target h.top new_source new_target v) same_source e in
        record { source_is = s.source_is; target_is = s.target_is; filled = s.filled; values = s.values; port = s.port; held = s.held; consistent = s.consistent; goes_on = s.goes_on; tpm_is = s.tpm_is; started = s.started }
    at_source false e =
        let s = subst (λ (h : HostModel P). IsTakenBack port_view h h.device target h.top new_source new_target) same_source e in
        (record { source_is = s.0.source_is; goes_on = s.0.goes_on }, s.1)

    host_from : (s : MoveStage) (e : ℕ) (d : DeviceModel P) → host_as s e d target ≡ host_as s e d target_first
    host_from s e d = ap (λ (h : HostModel P). host_as s e d h) same_target.rest

    at_target : (b : Bool) → Ends b port_view first first.device tpm target first.top new_source new_target v → Ends b port_view first first.device tpm target_first first.top new_source new_target v
    at_target true e = record {
      source_is = e.source_is;
      target_is = e.target_is ∙ host_from Running first.top new_target.device;
      filled = e.filled;
      values = e.values;
      port = e.port ∙ same_target.port;
      held = e.held;
      consistent = e.consistent;
      goes_on = e.goes_on;
      tpm_is = e.tpm_is;
      started = e.started;
    }
    at_target false e = (e.0, (e.1.0 ∙ host_from Empty first.top new_target.device, e.1.1 ∙ same_target.port))

-- ---- which message is lost

pub lost_at : (lost : Option ℕ) (number : ℕ) → loses lost number ≡ true → lost ≡ Some number
lost_at (Some k) number is = ap Some (eqb-true k number is)
lost_at None number is = absurd cc

pub later_than : (lost : Option ℕ) (number : ℕ) → IfSome lost (λ k. number ≤ k) → loses lost number ≡ false → IfSome lost (λ k. number < k)
later_than (Some k) number ahead is = elim (cases_lt number k) [
  | inl less ↦ less
  | inr le ↦ absurd (let same : k ≡ number = omega (arith, ahead, le) in let hit = eq-eqb k number same in cc)
]
later_than None number ahead is = tt

pub arrives_without : (n : ℕ) (lost : Option ℕ) → IfSome lost (λ k. 2 * n + 3 < k) → arrives n lost ≡ true
arrives_without n (Some k) ahead = lt-ltb (2 * n + 2) k (omega (arith, ahead))
arrives_without n None ahead = refl

pub arrives_late : (n k : ℕ) → 2 * n + 2 < k → arrives n (Some k) ≡ true
arrives_late n k late = lt-ltb (2 * n + 2) k late

pub arrives_not : (n k : ℕ) → k ≤ 2 * n + 2 → arrives n (Some k) ≡ false
arrives_not n k early = le-ltb (2 * n + 2) k early

-- behind a message to the source at least one more follows
pub source_left : {P Schedule : Type 0} (port_view : P → PortView) (source : HostModel P) (w : WiresView Schedule) (target : HostModel P) (v : WiresView Schedule) (m : Message) → AreMoving port_view (to_source m) source w target v → 1 ≤ messages_left source w.link m
source_left {P} {Schedule} port_view source w target v m a = by a.turn
  where
    left : (n : Message) → m ≡ n → messages_left source w.link m ≡ messages_after a.size (offered_by a.values a.tpm) n.body
    left n is = left_is port_view (to_source m) source w target v a m ∙ ap (λ (m : Message). messages_after a.size (offered_by a.values a.tpm) m.body) is

    by : ToSource a.epoch (offered_by a.values a.tpm) target.name a.x a.y m → 1 ≤ messages_left source w.link m
    by (NeedComes part place offers there_is there is) = omega (arith, left (model.message_from target.name a.epoch (body.Need part place)) is)
    by (PreparedComes offers at content is) = omega (arith, left (model.message_from target.name a.epoch body.Prepared) is)
