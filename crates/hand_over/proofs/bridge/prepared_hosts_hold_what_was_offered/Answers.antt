use Rattle.hand_over.proofs.PreparedHosts.{held}
use Rattle.hand_over.proofs.bridge.prepared_hosts_hold_what_was_offered.Goals as goal

pub returns : goal.returns
returns g c = λ size h l y e values tpm fit fit_too stands placed at_stage content.
    held (record { records = c.record_encoding_is_injective.ensures.once; assembled = c.tpms_are_assembled_once.ensures.once; blobs = c.tpms_are_assembled_once.ensures.blobs })
    size h l y e values tpm fit fit_too stands placed at_stage content
