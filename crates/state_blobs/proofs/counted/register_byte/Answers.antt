use Rattle.std.proofs.Common.{◌<◌, ◌/◌, length, sym, arith}
use Rattle.state_blobs.proofs.Registers.{size_some, index_below, byte_below, get_or-registers}
use Rattle.state_blobs.proofs.counted.register_byte.Goals as goal

pub nonzero_div-result : goal.nonzero_div-result
nonzero_div-result g c = size_some g.row.N c.args.registers.now c.args.k c.requires.size c.requires.there

pub nonzero_rem-result : goal.nonzero_rem-result
nonzero_rem-result g c = size_some g.row.N c.args.registers.now c.args.k c.requires.size c.requires.there

pub offset_bounds-registers-k : goal.offset_bounds-registers-k
offset_bounds-registers-k g c =
    let below : c.args.k / g.row.N < length c.args.registers.now = index_below g.row.N c.args.registers.now c.args.k c.requires.size c.requires.there in
    omega (arith, below)

pub bounds-registers-k : goal.bounds-registers-k
bounds-registers-k g c = index_below g.row.N c.args.registers.now c.args.k c.requires.size c.requires.there

pub bounds-registers-k-2 : goal.bounds-registers-k-2
bounds-registers-k-2 g c = byte_below g.row.N c.args.registers.now c.args.k c.requires.size c.requires.there

pub returns : goal.returns
returns g c = sym (get_or-registers g.row.N c.args.registers.now c.args.k c.requires.size c.requires.there)
