use Rattle.std.proofs.Common.{◌*◌, length, sym, ◌∙◌, arith, rules}
use Rattle.std.specs.List.{concat}
use Rattle.std.proofs.lemmas.List.{length-append, get_or_append_left, get_or-append_right}
use Rattle.state_blobs.proofs.Registers.{length-concat}
use Rattle.state_blobs.proofs.counted.bank_byte.Goals as goal

pub register_byte-requires : goal.register_byte-requires
register_byte-requires c = (omega arith, (c.sha256_registers_are_valid.ensures, omega (arith, c.if-k-first.true, length-concat 32 c.args.pcr.now c.sha256_registers_are_valid.ensures)))

pub register_byte-requires-else-k-first : goal.register_byte-requires-else-k-first
register_byte-requires-else-k-first c =
    (omega arith, (search rules, omega (arith, c.if-k-first.false, c.requires.there, length-append (concat c.args.pcr.now) (concat c.args.pcr384.now), length-concat 32 c.args.pcr.now c.sha256_registers_are_valid.ensures)))

pub returns-then-k-first : goal.returns-then-k-first
returns-then-k-first c =
    c.register_byte.ensures
    ∙ sym (get_or_append_left (concat c.args.pcr.now) (concat c.args.pcr384.now) 0 c.args.k (omega (arith, c.if-k-first.true, length-concat 32 c.args.pcr.now c.sha256_registers_are_valid.ensures)))

pub returns-else-k-first : goal.returns-else-k-first
returns-else-k-first c =
    c.register_byte-else-k-first.ensures
    ∙ sym (get_or-append_right (concat c.args.pcr.now) (concat c.args.pcr384.now) (32 * length c.args.pcr.now) c.args.k 0
    (omega (arith, length-concat 32 c.args.pcr.now c.sha256_registers_are_valid.ensures)) (omega (arith, c.if-k-first.false)))
