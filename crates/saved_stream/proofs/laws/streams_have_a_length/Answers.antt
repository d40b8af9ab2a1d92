use Rattle.std.proofs.Common.{arith}
use Rattle.std.specs.Prelude.{is_some}
use Rattle.saved_stream.proofs.Lengths.{stream_size, volatile_bounds, saved_bounds}
use Rattle.saved_stream.proofs.laws.streams_have_a_length.Goals as goal

pub returns-clause-least : goal.returns-clause-least
returns-clause-least c bytes b s =
    let blobs = c.blobs_have_a_length.ensures in
    let t = b.tpm in
    omega (
      arith,
      stream_size bytes b s,
      c.records_have_a_length.ensures.least b.device,
      blobs.permanent t s.fit.tpm,
      blobs.volatile t s.fit.tpm,
      (volatile_bounds t.started t.banks).0,
      blobs.saved t s.fit.tpm,
      (saved_bounds (is_some t.saved) t.banks).0,
    )

pub returns-clause-most : goal.returns-clause-most
returns-clause-most c bytes b s =
    let blobs = c.blobs_have_a_length.ensures in
    let t = b.tpm in
    omega (
      arith,
      stream_size bytes b s,
      c.records_have_a_length.ensures.most b.device s.fit.device,
      blobs.permanent t s.fit.tpm,
      blobs.volatile t s.fit.tpm,
      (volatile_bounds t.started t.banks).1,
      blobs.saved t s.fit.tpm,
      (saved_bounds (is_some t.saved) t.banks).1,
    )
