use Rattle.std.proofs.Common.{arith}
use Rattle.saved_stream.specs.declared.part.Part.TheVariants.{Record}
use Rattle.saved_stream.proofs.Near.{record_few, refused_near}
use Rattle.saved_stream.proofs.Ends.{part_to_end, part_up_to, stopped}
use Rattle.saved_stream.proofs.reading.record_in.Goals as goal

pub returns-in_default-clause-part : goal.returns-in_default-clause-part
returns-in_default-clause-part c =
    part_to_end Record c.args.bytes.now c.split_at.result.1.now c.args.from c.split_at.ensures.back c.requires.from
    (record_few c.records_are_prefix_free.ensures.exact _ _ c.in_default.ensures.ok.1) c.in_default.ensures.ok

pub moved-requires : goal.moved-requires
moved-requires c = omega (arith, refused_near c.in-Err.fault _ c.in-Err.ensures.refused c.in_default-why.not-Extra)

pub returns-in_default-why-clause-refused : goal.returns-in_default-why-clause-refused
returns-in_default-why-clause-refused c =
    stopped Record c.args.from c.in-Err.fault c.moved.result _ _ c.split_at.ensures.back c.in-Err.ensures.refused c.in_default-why.not-Extra c.moved.ensures

pub returns-clause-part : goal.returns-clause-part
returns-clause-part c =
    let behind = c.records_are_prefix_free.ensures.extra c.in-Err.fault _ c.in-Err.ensures.refused c.in-Extra.is in
    part_up_to Record c.args.bytes.now c.split_at.result.1.now c.args.from c.in-Err.fault.place c.split_at.ensures.back c.requires.from
    behind.behind (record_few c.records_are_prefix_free.ensures.exact _ _ behind.is_record) (behind.values, behind.is_record)
