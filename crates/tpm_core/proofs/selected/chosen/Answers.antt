use Rattle.std.proofs.Common.{◌≡◌, ◌<◌, ◌+◌, sym, subst, ◌∙◌, arith}
use Rattle.std.specs.Prelude.{All}
use Rattle.tpm_core.proofs.Chosen.{chosen_below, takes_one, takes_none, takes_no_more, all_chosen, below_more}
use Rattle.tpm_core.proofs.selected.chosen.Goals as goal
use Rattle.tpm_core.proofs.selected.chosen.Goals.{then-len-room+then-is_selected, else-len-room, else-len-room-via-then-len-room+else-is_selected, else-len-room-via-else-len-room}

exact : (c : goal.Joined-len-room) → c.if-len-room.indices ≡ chosen_below c.args.bits.now c.args.room (c.loop-i.i + 1)
exact c =
    elim c.if-len-room.branch [
      | then-len-room+then-is_selected w ↦ w.indices-is ∙ w.push.ensures
          ∙ takes_one c.args.bits.now c.args.room c.loop-i.i c.len.result c.loop-i.indices c.loop-i.invariant.exact c.len.ensures.size w.if-len-room.true (sym w.is_selected.ensures ∙ w.if-is_selected.true)
      | else-len-room w ↦ w.indices-is ∙ elim w.else-len-room.branch [
        | else-len-room-via-then-len-room+else-is_selected w' ↦ takes_none c.args.bits.now c.args.room c.loop-i.i c.loop-i.indices c.loop-i.invariant.exact (sym w'.is_selected.ensures ∙ w'.if-is_selected.false)
        | else-len-room-via-else-len-room w' ↦ takes_no_more c.args.bits.now c.args.room c.loop-i.i c.len.result c.loop-i.indices c.loop-i.invariant.exact c.len.ensures.size w'.if-len-room.false
      ]
    ]

there : (c : goal.Joined-len-room) → All (λ k. k < 24) c.if-len-room.indices
there c =
    elim c.if-len-room.branch [
      | then-len-room+then-is_selected w ↦ subst (All (λ k. k < 24)) (sym (w.indices-is ∙ w.push.ensures)) (below_more c.loop-i.indices c.loop-i.i c.loop-i.invariant.there c.loop-i-test.true)
      | else-len-room w ↦ subst (All (λ k. k < 24)) (sym w.indices-is) c.loop-i.invariant.there
    ]

pub loop-i-preserved : goal.loop-i-preserved
loop-i-preserved c = record { exact = exact c; there = there c }

pub returns-clause-registers : goal.returns-clause-registers
returns-clause-registers c = c.loop-i.invariant.exact ∙ all_chosen c.args.bits.now c.args.room c.loop-i.i (omega arith)
