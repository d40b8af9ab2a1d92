use Rattle.std.proofs.Common.{◌≡◌, ◌+◌, ℕ, List, length, sym, ◌∙◌, ap, subst}
use Rattle.std.proofs.lemmas.Result.{on_ok_weaker}
use Rattle.own_store.specs.Disk.{Image, Torn, bytes_of}
use Rattle.own_store.specs.Slots.{place, other, is_open, body, in_force}
use Rattle.own_store.specs.declared.slot.Slot.{Slot}
use Rattle.own_store.proofs.Moments.{after_write, after_sync}
use Rattle.own_store.proofs.Slots.{writing, body_gate, body_other_open}
use Rattle.own_store.proofs.Runs.{and_call}
use Rattle.own_store.proofs.parts.write_body.Goals as goal

-- the range that the code computed
body_range : (old c : Image) (s : Slot) (at count : ℕ) → at ≡ place s → count ≡ 8191 → Torn (at + 1) count old c → Torn (place s + 1) 8191 old c
body_range old c s at count is size torn = subst (λ (n : ℕ). Torn (n + 1) 8191 old c) is (subst (λ (n : ℕ). Torn (at + 1) n old c) size torn)

written_body : (c : Image) (s : Slot) (at : ℕ) (bytes : List ℕ) → at ≡ place s → length bytes ≡ 8191 → bytes_of c (at + 1) (length bytes) ≡ bytes → body c s ≡ bytes
unfolding body
written_body c s at bytes is size range = (λ i. bytes_of c (sym is i + 1) (sym size i)) ∙ range

pub returns-in_err-write_at-clause-any_moment : goal.returns-in_err-write_at-clause-any_moment
returns-in_err-write_at-clause-any_moment g c =
    let r = c.requires in
    after_write g.D.Disk.moment g.D.Disk.left_since g.D.Disk.may_leave g.D.Disk.content (c.place.result + 1) (length c.args.bytes.now)
    (λ (d : Image). in_force d ≡ in_force (g.D.Disk.content c.args.disk.now)) c.args.disk.now c.write_at.new.self
    (g.met.D.Disk.only_now c.args.disk.now) r.durable
    (λ d torn. writing _ c.args.slot r.closed d (body_range _ d c.args.slot _ _ c.place.ensures r.length torn))
    c.write_at.ensures.crash c.write_at.ensures.time

pub returns-clause-any_moment : goal.returns-clause-any_moment
returns-clause-any_moment g c =
    let r = c.requires in
    after_sync g.D.Disk.moment g.D.Disk.left_since g.D.Disk.may_leave g.D.Disk.content (c.place.result + 1) (length c.args.bytes.now)
    (λ (d : Image). in_force d ≡ in_force (g.D.Disk.content c.args.disk.now)) c.args.disk.now c.write_at.new.self
    (g.met.D.Disk.only_now c.args.disk.now) r.durable
    (λ d torn. writing _ c.args.slot r.closed d (body_range _ d c.args.slot _ _ c.place.ensures r.length torn))
    c.write_at.ensures.crash c.write_at.ensures.time c.sync.new.self c.sync.ensures.crash c.sync.ensures.time

pub returns-clause-closed : goal.returns-clause-closed
returns-clause-closed g c =
    let r = c.requires in
    on_ok_weaker c.sync.result
    (λ same. ap (λ (d : Image). is_open d c.args.slot) same ∙ body_gate _ _ c.args.slot (body_range _ _ c.args.slot _ _ c.place.ensures r.length c.in_ok-write_at.ensures.written.elsewhere) ∙ r.closed)
    c.sync.ensures.content

pub returns-clause-body : goal.returns-clause-body
returns-clause-body g c =
    on_ok_weaker c.sync.result
    (λ same. ap (λ (d : Image). body d c.args.slot) same ∙ written_body _ c.args.slot _ _ c.place.ensures c.requires.length c.in_ok-write_at.ensures.written.range)
    c.sync.ensures.content

pub returns-clause-force : goal.returns-clause-force
returns-clause-force g c =
    let r = c.requires in
    on_ok_weaker c.sync.result
    (λ same. ap in_force same ∙ writing _ c.args.slot r.closed _ (body_range _ _ c.args.slot _ _ c.place.ensures r.length c.in_ok-write_at.ensures.written.elsewhere))
    c.sync.ensures.content

pub returns-clause-other_gate : goal.returns-clause-other_gate
returns-clause-other_gate g c =
    on_ok_weaker c.sync.result
    (λ same. ap (λ (d : Image). is_open d (other c.args.slot)) same ∙ body_other_open _ _ c.args.slot (body_range _ _ c.args.slot _ _ c.place.ensures c.requires.length c.in_ok-write_at.ensures.written.elsewhere))
    c.sync.ensures.content

pub returns-clause-calls : goal.returns-clause-calls
returns-clause-calls g c =
    and_call g.D.Disk.calls_done g.D.Disk.fails_at g.met.D.Disk.calls_join g.met.D.Disk.failure_joins c.args.disk.now c.write_at.new.self c.sync.new.self 1 c.sync.result c.in_ok-write_at.ensures.calls c.sync.ensures.calls
