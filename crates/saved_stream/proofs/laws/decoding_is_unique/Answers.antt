use Rattle.saved_stream.proofs.PartLaws.{LawsOfParts}
use Rattle.saved_stream.proofs.Decoding.{decoded_once, not_refused, refused_once, prefixes_cut, refused_stays, is_stream}
use Rattle.saved_stream.proofs.Asked.{asks, within, stops}
use Rattle.saved_stream.proofs.Behind.{goes_behind}
use Rattle.saved_stream.proofs.Wanting.{cut_wants}
use Rattle.saved_stream.proofs.laws.decoding_is_unique.Goals as goal

pub returns : goal.returns
returns c =
    let record_laws = c.records_are_prefix_free.ensures in
    let blob_laws = c.blobs_are_prefix_free.ensures in
    let tpm_laws = c.tpms_are_assembled_once.ensures in
    let laws_of_parts : LawsOfParts = record {
      record_not_refused = record_laws.not_refused;
      record_decoded = record_laws.exact;
      record_once = record_laws.refused_once;
      record_prefixes = record_laws.fronts;
      record_stays = record_laws.stays;
      record_cut = record_laws.cut;
      record_values = c.record_encoding_is_injective.ensures.once;
      blob_not_refused = blob_laws.not_refused;
      blob_decoded = blob_laws.blob;
      blob_spelled = blob_laws.spelled;
      blob_once = blob_laws.refused_once;
      blob_prefixes = blob_laws.fronts;
      blob_refused = blob_laws.refused;
      blob_stays = blob_laws.exact;
      tpm_once = tpm_laws.once;
      tpm_made = tpm_laws.blobs;
      tpm_or_fault = tpm_laws.not_both;
      one_fault = tpm_laws.one_fault;
    } in
    record {
      streams = is_stream;
      once = decoded_once laws_of_parts;
      not_refused = not_refused laws_of_parts;
      refused_once = refused_once laws_of_parts;
      behind = goes_behind;
      fronts = prefixes_cut laws_of_parts;
      asks = asks laws_of_parts;
      within = within laws_of_parts;
      stops = stops laws_of_parts;
      cut_wants = cut_wants laws_of_parts;
      stays = refused_stays laws_of_parts;
    }
