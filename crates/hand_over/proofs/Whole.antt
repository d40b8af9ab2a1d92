-- A whole move from its beginning.
use Rattle.std.proofs.Common.{◌≡◌, ℕ, ◌+◌, ◌<◌, ◌≤◌, Bool, true, false, Option, Ok, refl, sym, ap, subst, ◌∙◌, arith}
use Rattle.std.specs.Prelude.{◌==◌, Result, Err, OnOk, OnErr}
use Rattle.std.proofs.lemmas.Bool.{cond-false, ne_eqb}
use Rattle.crb_port.specs.Views.{PortView}
use Rattle.crb_machine.specs.Over.{IsConsistentDevice, Stops as DeviceStops}
use Rattle.crb_machine.specs.Model.{DeviceModel}
use Rattle.ctrl_model.specs.Link.{Link}
use Rattle.move_codec.specs.declared.message.Message.{Message}
use Rattle.move_core.specs.Model.{HostModel}
use Rattle.move_core.specs.declared.side.Side.TheVariants as side
use Rattle.move_core.specs.declared.stage.MoveStage.{MoveStage}
use Rattle.move_core.specs.declared.stage.MoveStage.TheVariants.{Empty, Running, Draining, Offering, Released, Filling, Prepared}
use Rattle.move_core.specs.Hosts.{IsConsistentHost, IsAtTop}
use Rattle.move_core.specs.Sides.{side_of, holds_device}
use Rattle.move_core.specs.Requests.{WiresView}
use Rattle.hand_over.specs.Counts.{tpm_behind, pieces_from}
use Rattle.hand_over.specs.Arrival.{loses, arrives}
use Rattle.hand_over.specs.Ends.{host_as, RunsOn, IsLeft, IsTakenBack, Ends, MoveEnds, HasMoved, IsGivenUp}
use Rattle.hand_over.specs.Moving.{AreMoving}
use Rattle.hand_over.specs.Start.{to_begin}
use Rattle.hand_over.specs.Losses.{Resumed, aborted}
use Rattle.hand_over.proofs.Hands.{side_is}
use Rattle.hand_over.proofs.Starts.{offering_top}
use Rattle.hand_over.proofs.Losses.{lost_at, arrives_not}

-- the device of a host that runs isn't held
pub runs_free : {P : Type 0} (port_view : P → PortView) (h : HostModel P) → IsConsistentHost port_view h → h.stage ≡ Running → h.device.held ≡ false
runs_free port_view h consistent runs = consistent.matches_side.held ∙ ap holds_device runs

-- the host that offered, as it was before
abbrev pub HasOffered : {P : Type 0} → HostModel P → HostModel P → Type 0
HasOffered source new = new ≡ record source { top = source.top + 1; stage = new.stage; record_bytes = new.record_bytes; device = new.device }

abbrev pub HasTaken : {P : Type 0} → HostModel P → ℕ → HostModel P → Type 0
HasTaken target top new = new ≡ record target { top = top; stage = new.stage; record_bytes = new.record_bytes }

host_before : {P : Type 0} (source mid : HostModel P) (s : MoveStage) (e : ℕ) (d : DeviceModel P) → HasOffered source mid → host_as s e d mid ≡ host_as s e d source
host_before source mid s e d is = ap (λ (h : HostModel _). host_as s e d h) is

target_before : {P : Type 0} (target mid : HostModel P) (top : ℕ) (s : MoveStage) (e : ℕ) (d : DeviceModel P) → HasTaken target top mid → host_as s e d mid ≡ host_as s e d target
target_before target mid top s e d is = ap (λ (h : HostModel _). host_as s e d h) is

top_before : {P : Type 0} (source mid : HostModel P) → HasOffered source mid → mid.top ≡ source.top + 1
top_before source mid is = ap (λ (h : HostModel _). h.top) is

pieces_before : {P : Type 0} (source mid : HostModel P) (l k : Option Link) → HasOffered source mid → k ≡ l → pieces_from mid k ≡ pieces_from (record source { device = mid.device }) l
pieces_before {P} source mid l k is link = ap (λ (h : HostModel P). pieces_from h k) is ∙ ap (λ (l : Option Link). pieces_from (record source { device = mid.device }) l) link

runs_before : {P : Type 0} (port_view : P → PortView) (source mid new : HostModel P) (d : DeviceModel P) → HasOffered source mid → RunsOn port_view mid d mid.top new → RunsOn port_view source d (source.top + 1) new
runs_before {P} port_view source mid new d is runs = record {
  source_is = runs.source_is ∙ host_before source mid Running mid.top new.device is ∙ ap (λ (e : ℕ). host_as Running e new.device source) (top_before source mid is);
  goes_on = runs.goes_on;
}

left_before : {P : Type 0} (source mid target taken new : HostModel P) → HasOffered source mid → HasTaken target mid.top taken → IsLeft false taken mid.top new → IsLeft false target (source.top + 1) new
left_before source mid target taken new is takes left = (
  left.0 ∙ target_before target taken mid.top Empty mid.top new.device takes ∙ ap (λ (e : ℕ). host_as Empty e new.device target) (top_before source mid is),
  left.1 ∙ ap (λ (h : HostModel _). h.device.port) takes,
)

-- a move that began ends as its rest does
pub ends_before : {P Schedule : Type 0} (port_view : P → PortView) (source : HostModel P) (w : WiresView Schedule) (mid : HostModel P) (link : Option Link) (target taken : HostModel P) (lost : Option ℕ) (new_source new_target : HostModel P) (after : WiresView Schedule)
    → IsConsistentDevice port_view source.device → source.device.held ≡ false
    → DeviceStops port_view source.device (Ok tt) mid.device → HasOffered source mid → link ≡ w.link → HasTaken target mid.top taken → loses lost 1 ≡ false
    → Ends (arrives (pieces_from mid link) lost) port_view mid mid.device (tpm_behind link) taken mid.top new_source new_target after
    → HasMoved port_view source w target lost new_source new_target after
ends_before {P} {Schedule} port_view source w mid link target taken lost new_source new_target after consistent runs stops is same takes first ends = record {
  consistent = consistent;
  runs = runs;
  stopped = mid.device;
  stops = stops;
  ends = subst (λ (b : Bool). MoveEnds (arrives (pieces_from (record source { device = mid.device }) w.link) lost) b port_view source mid.device (tpm_behind w.link) target (source.top + 1) new_source new_target after) (sym first)
      (subst (λ (n : ℕ). MoveEnds (arrives n lost) false port_view source mid.device (tpm_behind w.link) target (source.top + 1) new_source new_target after) (pieces_before source mid w.link link is same)
      (subst (λ (l : Option Link). MoveEnds (arrives (pieces_from mid link) lost) false port_view source mid.device (tpm_behind l) target (source.top + 1) new_source new_target after) same
      (by (arrives (pieces_from mid link) lost) ends)));
}
  where
    by : (b : Bool) → Ends b port_view mid mid.device (tpm_behind link) taken mid.top new_source new_target after → MoveEnds b false port_view source mid.device (tpm_behind link) target (source.top + 1) new_source new_target after
    by true e = record {
      source_is = e.source_is ∙ host_before source mid (Released mid.top) mid.top mid.device is ∙ ap (λ (n : ℕ). host_as (Released n) n mid.device source) (top_before source mid is);
      target_is = e.target_is ∙ target_before target taken mid.top Running mid.top new_target.device takes ∙ ap (λ (n : ℕ). host_as Running n new_target.device target) (top_before source mid is);
      filled = e.filled;
      values = e.values;
      port = e.port ∙ ap (λ (h : HostModel P). h.device.port) takes;
      held = e.held;
      consistent = e.consistent;
      goes_on = e.goes_on;
      tpm_is = e.tpm_is;
      started = e.started;
    }
    by false e = (runs_before port_view source mid new_source mid.device is e.0, left_before source mid target taken new_target is takes e.1)

pub back_before : {P : Type 0} (port_view : P → PortView) (source mid target taken new_source new_target : HostModel P)
    → IsConsistentDevice port_view source.device → source.device.held ≡ false
    → DeviceStops port_view source.device (Ok tt) mid.device → HasOffered source mid → HasTaken target mid.top taken
    → IsTakenBack port_view mid mid.device taken mid.top new_source new_target → IsGivenUp port_view source target new_source new_target
back_before {P} port_view source mid target taken new_source new_target consistent runs stops is takes back = record {
  consistent = consistent;
  runs = runs;
  stopped = mid.device;
  stops = stops;
  taken_back = (runs_before port_view source mid new_source mid.device is back.0, left_before source mid target taken new_target is takes back.1);
}

-- an Abort of a later epoch is ignored
aborted_old : {P : Type 0} (s : MoveStage) (h : HostModel P) (e : ℕ) → IsAtTop s h.top → h.top < e → aborted s e h ≡ h
aborted_old (Filling epoch totals part place) h e at old = cond-false (epoch == e) _ _ (ne_eqb epoch e (λ same. absurd (omega (arith, same, at, old))))
aborted_old (Prepared epoch) h e at old = cond-false (epoch == e) _ _ (ne_eqb epoch e (λ same. absurd (omega (arith, same, at, old))))
aborted_old Empty h e at old = refl
aborted_old Running h e at old = refl
aborted_old Draining h e at old = refl
aborted_old (Offering epoch totals) h e at old = refl
aborted_old (Released epoch) h e at old = refl

-- a source that began offers at its top
pub begun_offers : {P Schedule : Type 0} (port_view : P → PortView) (source : HostModel P) (w : WiresView Schedule) (target : HostModel P) (v : WiresView Schedule) (m : Message) → AreMoving port_view (to_begin m) source w target v → side_of source.stage ≡ side.Offering source.top
begun_offers port_view source w target v m a =
    side_is source.stage source a.from.emulator a.x a.source_stands.host ∙ a.turn.source.side
    ∙ ap side.Offering (offering_top source.stage source a.from.emulator a.x a.epoch a.source_stands.host a.turn.source.side a.source_consistent.matches_side.at_top)

-- the Offer was lost
pub first_lost : {P Schedule : Type 0} (port_view : P → PortView) (source : HostModel P) (w : WiresView Schedule) (mid : HostModel P) (target : HostModel P) (lost : Option ℕ) (new_source new_target : HostModel P) (after : WiresView Schedule)
    → IsConsistentDevice port_view source.device → source.device.held ≡ false
    → DeviceStops port_view source.device (Ok tt) mid.device → HasOffered source mid → IsAtTop target.stage target.top → target.top ≤ source.top → loses lost 1 ≡ true
    → Resumed port_view mid new_source → new_target ≡ aborted target.stage mid.top target
    → HasMoved port_view source w target lost new_source new_target after
first_lost {P} {Schedule} port_view source w mid target lost new_source new_target after consistent runs stops is at below first resumes aborts = record {
  consistent = consistent;
  runs = runs;
  stopped = mid.device;
  stops = stops;
  ends = subst (λ (b : Bool). MoveEnds (arrives (pieces_from (record source { device = mid.device }) w.link) lost) b port_view source mid.device (tpm_behind w.link) target (source.top + 1) new_source new_target after) (sym first)
      (subst (λ (b : Bool). MoveEnds b true port_view source mid.device (tpm_behind w.link) target (source.top + 1) new_source new_target after)
      (sym (ap (arrives (pieces_from (record source { device = mid.device }) w.link)) (lost_at lost 1 first) ∙ arrives_not (pieces_from (record source { device = mid.device }) w.link) 1 (omega arith))) (
        runs_before port_view source mid new_source mid.device is (record { source_is = resumes.rest; goes_on = resumes.goes_on }),
        aborts ∙ aborted_old target.stage target mid.top at (omega (arith, below, top_before source mid is)),
      ));
}

-- ---- by how the rest of the move came out

pub ok_by : {T E A B : Type 0} (r : Result T E) → (A → B) → OnOk r A → OnOk r B
ok_by (Ok x) f a = f a
ok_by (Err e) f a = tt

pub err_by : {T E A B : Type 0} (r : Result T E) → (A → B) → OnErr r A → OnErr r B
err_by (Ok x) f a = tt
err_by (Err e) f a = f a
