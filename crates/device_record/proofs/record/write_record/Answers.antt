use Rattle.std.proofs.Common.{◌≡◌, ◌∙◌, ap}
use Rattle.crb_machine.specs.Values.{DeviceValues, held_values}
use Rattle.device_record.proofs.Values.{text_written, length-encode_record}
use Rattle.device_record.proofs.record.write_record.Goals as goal

pub returns-clause-text : goal.returns-clause-text
returns-clause-text g c =
    text_written _ (held_values c.args.device.now) c.trimmed_length-count.result c.put_record.new.into (c.state.view_is ∙ c.state-state.ensures.values)
    c.trimmed_length-count.ensures.trimmed c.trimmed_length-count.ensures.within c.put_record.ensures.text

pub returns-clause-size : goal.returns-clause-size
returns-clause-size g c =
    length-encode_record (held_values c.args.device.now) c.trimmed_length-count.result _ (ap (λ (v : DeviceValues). v.content) (c.state.view_is ∙ c.state-state.ensures.values))
    c.trimmed_length-count.ensures.trimmed c.trimmed_length-count.ensures.within
