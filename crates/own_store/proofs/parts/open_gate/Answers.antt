use Rattle.std.proofs.Common.{◌≡◌, ◌⊎◌, false, ℕ, sym, ◌∙◌, ap, subst}
use Rattle.std.proofs.lemmas.Result.{on_ok_weaker}
use Rattle.own_store.specs.Disk.{Image, Torn}
use Rattle.own_store.specs.Slots.{place, other, is_open, behind_gate, stored, in_force}
use Rattle.own_store.specs.Ledger.{IsNewer}
use Rattle.own_store.specs.declared.slot.Slot.{Slot}
use Rattle.own_store.proofs.Moments.{after_write, after_sync}
use Rattle.own_store.proofs.Slots.{opening, opened, opened_gate, opened_stored, gate_other_open}
use Rattle.own_store.proofs.Runs.{and_call}
use Rattle.own_store.proofs.parts.open_gate.Goals as goal

opening_at : (old : Image) (s : Slot) (at : ℕ) → at ≡ place s → is_open old s ≡ false → IsNewer (behind_gate old s) (in_force old)
    → (c : Image) → Torn at 1 old c → (in_force c ≡ in_force old) ⊎ (in_force c ≡ behind_gate old s)
opening_at old s at is shut newer_version c torn = opening old s shut newer_version c (subst (λ (n : ℕ). Torn n 1 old c) is torn)

pub returns-in_err-write_at-clause-any_moment : goal.returns-in_err-write_at-clause-any_moment
returns-in_err-write_at-clause-any_moment g c =
    let r = c.requires in
    after_write g.D.Disk.moment g.D.Disk.left_since g.D.Disk.may_leave g.D.Disk.content c.place.result 1
    (λ (d : Image). (in_force d ≡ in_force (g.D.Disk.content c.args.disk.now)) ⊎ (in_force d ≡ behind_gate (g.D.Disk.content c.args.disk.now) c.args.slot)) c.args.disk.now c.write_at.new.self
    (g.met.D.Disk.only_now c.args.disk.now) r.durable (opening_at _ c.args.slot _ c.place.ensures r.closed r.newer)
    c.write_at.ensures.crash c.write_at.ensures.time

pub returns-clause-any_moment : goal.returns-clause-any_moment
returns-clause-any_moment g c =
    let r = c.requires in
    after_sync g.D.Disk.moment g.D.Disk.left_since g.D.Disk.may_leave g.D.Disk.content c.place.result 1
    (λ (d : Image). (in_force d ≡ in_force (g.D.Disk.content c.args.disk.now)) ⊎ (in_force d ≡ behind_gate (g.D.Disk.content c.args.disk.now) c.args.slot)) c.args.disk.now c.write_at.new.self
    (g.met.D.Disk.only_now c.args.disk.now) r.durable (opening_at _ c.args.slot _ c.place.ensures r.closed r.newer)
    c.write_at.ensures.crash c.write_at.ensures.time c.sync.new.self c.sync.ensures.crash c.sync.ensures.time

pub returns-clause-opened : goal.returns-clause-opened
returns-clause-opened g c =
    on_ok_weaker c.sync.result (λ same. ap (λ (d : Image). is_open d c.args.slot) same ∙ opened_gate _ c.args.slot _ c.place.ensures c.in_ok-write_at.ensures.written.range) c.sync.ensures.content

pub returns-clause-force : goal.returns-clause-force
returns-clause-force g c =
    let r = c.requires in
    on_ok_weaker c.sync.result
    (λ same.
    ap in_force same
    ∙ opened _ c.args.slot r.closed r.newer _ (subst (λ (n : ℕ). Torn n 1 (g.D.Disk.content c.args.disk.now) (g.D.Disk.content c.write_at.new.self)) c.place.ensures c.in_ok-write_at.ensures.written.elsewhere)
    (opened_gate _ c.args.slot _ c.place.ensures c.in_ok-write_at.ensures.written.range))
    c.sync.ensures.content

pub returns-clause-stored : goal.returns-clause-stored
returns-clause-stored g c =
    let r = c.requires in
    on_ok_weaker c.sync.result
    (λ same.
    subst (λ (d : Image). in_force d ≡ stored d c.args.slot) (sym same)
    (opened_stored _ c.args.slot r.closed r.newer _ (subst (λ (n : ℕ). Torn n 1 (g.D.Disk.content c.args.disk.now) (g.D.Disk.content c.write_at.new.self)) c.place.ensures c.in_ok-write_at.ensures.written.elsewhere)
    (opened_gate _ c.args.slot _ c.place.ensures c.in_ok-write_at.ensures.written.range)))
    c.sync.ensures.content

pub returns-clause-other_gate : goal.returns-clause-other_gate
returns-clause-other_gate g c =
    on_ok_weaker c.sync.result
    (λ same.
    ap (λ (d : Image). is_open d (other c.args.slot)) same
    ∙ gate_other_open _ _ c.args.slot (subst (λ (n : ℕ). Torn n 1 (g.D.Disk.content c.args.disk.now) (g.D.Disk.content c.write_at.new.self)) c.place.ensures c.in_ok-write_at.ensures.written.elsewhere))
    c.sync.ensures.content

pub returns-clause-calls : goal.returns-clause-calls
returns-clause-calls g c =
    and_call g.D.Disk.calls_done g.D.Disk.fails_at g.met.D.Disk.calls_join g.met.D.Disk.failure_joins c.args.disk.now c.write_at.new.self c.sync.new.self 1 c.sync.result c.in_ok-write_at.ensures.calls c.sync.ensures.calls
