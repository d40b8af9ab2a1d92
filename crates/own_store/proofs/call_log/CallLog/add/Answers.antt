use Rattle.std.proofs.Common.{◌++◌, ◌∷◌, [], ◌∙◌, ap}
use Rattle.own_store.specs.Logged.{steps_of, written_length, bare, LoggedCalls}
use Rattle.own_store.proofs.Logging.{steps_of-bare, written_length-bare}
use Rattle.own_store.proofs.call_log.CallLog.add.Goals as goal

pub invariant_of-self : goal.invariant_of-self
invariant_of-self c = ap written_length c.push_reserved.ensures.items ∙ written_length-bare c.self.inside.calls.items c.args.call c.requires.bare ∙ c.self.invariant

pub returns-clause-steps : goal.returns-clause-steps
returns-clause-steps c =
    (λ i. steps_of (c.push_reserved.ensures.items i) c.self.inside.written.items)
    ∙ steps_of-bare c.self.inside.calls.items c.self.inside.written.items c.args.call c.requires.bare
    ∙ ap (λ (r : LoggedCalls). r.steps ++ bare c.args.call ∷ []) c.self.view_is
