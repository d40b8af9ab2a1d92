use Rattle.std.proofs.Common.{◌≡◌, ◌+◌, ◌-◌, length, ap, arith}
use Rattle.std.proofs.lemmas.Slice.{drop-put_mid}
use Rattle.device_record.proofs.writing.put_at.Goals as goal

pub returns-clause-behind : goal.returns-clause-behind
returns-clause-behind c =
    let at = c.args.at in
    let count = length c.args.bytes.now in
    let size : length c.copy_from_slice.new.self ≡ at + count - at = omega (arith, ap length c.copy_from_slice.ensures.after) in
    drop-put_mid at (at + count - at) c.args.into.now c.copy_from_slice.new.self (at + count) (omega arith) (omega (arith, c.requires.room)) size
