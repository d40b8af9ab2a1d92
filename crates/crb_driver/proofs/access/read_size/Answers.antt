use Rattle.std.proofs.Common.{◌≡◌, length, rules, sym, ap}
use Rattle.std.proofs.lemmas.Nat.{be_bytes_4}
use Rattle.crb_driver.specs.Accesses.{byte_reads}
use Rattle.crb_driver.proofs.Reaching.{reaches-same}
use Rattle.crb_driver.proofs.access.read_size.Goals as goal

pub returns-clause-steps : goal.returns-clause-steps
returns-clause-steps g c =
    let bytes = c.read_bytes.new.into in
    let four : length bytes ≡ 4 = search rules in
    reaches-same g.B.Bus.step c.args.bus.now c.read_bytes.new.bus _ _ (ap (byte_reads 0x82) (sym (be_bytes_4 bytes c.from_be_bytes.result four c.read_bytes.ensures.bytes c.from_be_bytes.ensures))) c.read_bytes.ensures.steps
