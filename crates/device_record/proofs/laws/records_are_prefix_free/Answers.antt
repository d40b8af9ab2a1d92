use Rattle.device_record.proofs.Apart.{text_not_refused, refused_once}
use Rattle.device_record.proofs.Reasons.{cut_is_cut, extra_goes_on}
use Rattle.device_record.proofs.laws.records_are_prefix_free.Goals as goal

pub returns-clause-not_refused : goal.returns-clause-not_refused
returns-clause-not_refused c = text_not_refused

pub returns-clause-refused_once : goal.returns-clause-refused_once
returns-clause-refused_once c = refused_once

pub returns-clause-cut : goal.returns-clause-cut
returns-clause-cut c = cut_is_cut

pub returns-clause-extra : goal.returns-clause-extra
returns-clause-extra c = extra_goes_on
