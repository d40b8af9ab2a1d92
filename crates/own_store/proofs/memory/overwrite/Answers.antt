use Rattle.std.proofs.Common.{◌≡◌, ◌+◌, ◌-◌, length, refl, ◌∙◌, arith}
use Rattle.std.proofs.lemmas.List.Edits.{paste_all}
use Rattle.std.proofs.lemmas.Slice.{put_mid-paste}
use Rattle.own_store.specs.Steps.{overwritten}
use Rattle.own_store.proofs.memory.overwrite.Goals as goal

pub returns : goal.returns
unfolding overwritten
returns c =
    let n = length c.args.bytes.now in
    let size : n ≡ c.args.at + n - c.args.at = omega arith in
    put_mid-paste c.args.at (c.args.at + n - c.args.at) c.args.all.now c.copy_from_slice.new.self c.args.bytes.now n c.copy_from_slice.ensures.after size refl
    ∙ paste_all c.args.all.now c.args.at c.args.bytes.now n refl
