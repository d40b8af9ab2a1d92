use Rattle.std.proofs.Common.{◌+◌, ◌*◌, ◌-◌, ◌<◌, take, arith}
use Rattle.std.specs.List.{concat}
use Rattle.tpm_core.specs.declared.algorithm.Algorithm.TheVariants.{Sha256, Sha384}
use Rattle.tpm_core.specs.declared.algorithm.Banks.TheVariants.{Two}
use Rattle.state_blobs.proofs.Registers.{length-concat, set-taken}
use Rattle.state_blobs.proofs.Widths.{set_first, set_second}
use Rattle.state_blobs.proofs.Places.{first_are, length-counted_in}
use Rattle.state_blobs.proofs.body_fields.set_counted_byte.Goals as goal

pub set_register_byte-requires : goal.set_register_byte-requires
set_register_byte-requires c =
    let valid = c.requires.valid in
    (omega arith, (valid.size Sha256, omega (arith, c.if-i-first.true, c.requires.count, length-concat 32 c.args.fields.now.pcr (valid.size Sha256), valid.count Sha256)))

pub set_register_byte-requires-else-i-first : goal.set_register_byte-requires-else-i-first
set_register_byte-requires-else-i-first c =
    let valid = c.requires.valid in
    let most = length-counted_in Two c.args.count c.args.fields.now c.requires.count valid in
    (omega arith, (valid.size Sha384, omega (arith, c.if-i-first.false, c.requires.there, most, c.requires.count, length-concat 48 c.args.fields.now.pcr384 (valid.size Sha384), valid.count Sha384)))

pub returns-then-i-first-clause-bytes : goal.returns-then-i-first-clause-bytes
returns-then-i-first-clause-bytes c =
    let f = c.args.fields.now in
    let n = c.args.count in
    let valid = c.requires.valid in
    let first = first_are n f c.requires.count valid in
    let below : c.args.i - 4 < n * 32 = omega (arith, c.if-i-first.true, c.if-i-lt-COUNTER_SIZE.false) in
    set_first f.counter c.args.i c.args.byte (concat (take n f.pcr)) (concat (take n c.set_register_byte.new.registers)) (concat (take n f.pcr384)) (omega (arith, c.if-i-lt-COUNTER_SIZE.false))
    (omega (arith, below, length-concat 32 (take n f.pcr) (first.size Sha256), first.count Sha256))
    (set-taken 32 n (c.args.i - 4) c.args.byte f.pcr c.set_register_byte.new.registers (valid.size Sha256) c.set_register_byte.ensures.size c.set_register_byte.ensures.bytes below)

pub returns-else-i-first-clause-bytes : goal.returns-else-i-first-clause-bytes
returns-else-i-first-clause-bytes c =
    let f = c.args.fields.now in
    let n = c.args.count in
    let valid = c.requires.valid in
    let first = first_are n f c.requires.count valid in
    let most = length-counted_in Two n f c.requires.count valid in
    let below : c.args.i - (4 + 32 * n) < n * 48 = omega (arith, c.requires.there, most, c.if-i-first.false) in
    set_second f.counter (32 * n) c.args.i c.args.byte (concat (take n f.pcr)) (concat (take n f.pcr384)) (concat (take n c.set_register_byte-else-i-first.new.registers))
    (omega (arith, length-concat 32 (take n f.pcr) (first.size Sha256), first.count Sha256)) (omega (arith, c.if-i-first.false))
    (set-taken 48 n (c.args.i - (4 + 32 * n)) c.args.byte f.pcr384 c.set_register_byte-else-i-first.new.registers (valid.size Sha384) c.set_register_byte-else-i-first.ensures.size c.set_register_byte-else-i-first.ensures.bytes below)
