use Rattle.emulator_server.proofs.Once.{counted_once, complete_once}
use Rattle.emulator_server.proofs.laws.dialogues_are_unique.Goals as goal

pub returns-clause-counted : goal.returns-clause-counted
returns-clause-counted c =
    counted_once c.encodings_are_prefix_free.ensures.apart c.requests_are_prefix_free.ensures.requests c.requests_are_prefix_free.ensures.refusals c.requests_are_prefix_free.ensures.apart c.steps_are_deterministic.ensures

pub returns-clause-complete : goal.returns-clause-complete
returns-clause-complete c =
    complete_once c.encodings_are_prefix_free.ensures.apart c.requests_are_prefix_free.ensures.requests c.requests_are_prefix_free.ensures.refusals c.requests_are_prefix_free.ensures.apart c.steps_are_deterministic.ensures
