use Rattle.state_blobs.proofs.Registers.{size_some, index_below, byte_below, set-registers, AreRegisters-set}
use Rattle.state_blobs.proofs.counted.set_register_byte.Goals as goal

pub nonzero_div-registers : goal.nonzero_div-registers
nonzero_div-registers g c = size_some g.row.N c.args.registers.now c.args.k c.requires.size c.requires.there

pub nonzero_rem-registers : goal.nonzero_rem-registers
nonzero_rem-registers g c = size_some g.row.N c.args.registers.now c.args.k c.requires.size c.requires.there

pub bounds-registers-k : goal.bounds-registers-k
bounds-registers-k g c = index_below g.row.N c.args.registers.now c.args.k c.requires.size c.requires.there

pub bounds-registers-k-2 : goal.bounds-registers-k-2
bounds-registers-k-2 g c = byte_below g.row.N c.args.registers.now c.args.k c.requires.size c.requires.there

pub returns-clause-bytes : goal.returns-clause-bytes
returns-clause-bytes g c = set-registers g.row.N c.args.registers.now c.args.k c.args.byte c.requires.size c.requires.there

pub returns-clause-size : goal.returns-clause-size
returns-clause-size g c = AreRegisters-set g.row.N c.args.registers.now c.args.k c.args.byte c.requires.size c.requires.there
