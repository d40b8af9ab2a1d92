use Rattle.std.proofs.Common.{ℕ, List, false, sym, ◌∙◌, subst}
use Rattle.vt_base.specs.Buffer.{zeros}
use Rattle.own_store.specs.MemDisk.{IsConsistentDisk}
use Rattle.own_store.proofs.Replays.{consistent_at_start}
use Rattle.own_store.proofs.memory.MemDisk.new.Goals as goal

pub invariant_of-result : goal.invariant_of-result
invariant_of-result c =
    subst (λ (l : List ℕ). IsConsistentDisk l c.in_ok-zeroed-2.field-0.value c.reserve.new.self false 16) (sym c.in_ok-zeroed.ensures)
    (subst (λ (l : List ℕ). IsConsistentDisk (zeros 16384) l c.reserve.new.self false 16) (sym c.in_ok-zeroed-2.ensures)
    (consistent_at_start c.reserve.new.self (c.reserve.ensures.steps ∙ c.new-calls.ensures.none) c.in_ok-reserve.ensures.entries c.in_ok-reserve.ensures.bytes))
