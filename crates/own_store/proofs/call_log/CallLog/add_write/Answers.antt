use Rattle.std.proofs.Common.{◌≡◌, ℕ, ◌+◌, ◌++◌, ◌∷◌, [], Bool, true, if◌then◌else◌, List, length, sym, ◌∙◌, ap, length-append}
use Rattle.own_store.specs.Steps.Step.{Wrote}
use Rattle.own_store.specs.Logged.{steps_of, written_length, LoggedCalls}
use Rattle.own_store.proofs.Logging.{steps_of-write, written_length-write}
use Rattle.own_store.proofs.call_log.CallLog.add_write.Goals as goal

grown : (new old bytes : List ℕ) (ok given : Bool) → new ≡ (if ok then old ++ bytes else old) → given ≡ ok → given ≡ true → new ≡ old ++ bytes
grown new old bytes ok given is value holds = is ∙ (λ i. if (sym value ∙ holds) i then old ++ bytes else old)

pub invariant_of-self : goal.invariant_of-self
invariant_of-self c =
    let written_bytes = grown c.extend_from_slice.new.self.items c.self.inside.written.items c.args.bytes.now _ _ c.extend_from_slice.ensures.items c.is_ok.ensures.value c.if-is_ok.true in
    ap written_length c.push_reserved.ensures.items ∙ written_length-write c.self.inside.calls.items c.args.at (length c.args.bytes.now)
    ∙ ap (λ (n : ℕ). n + length c.args.bytes.now) c.self.invariant
    ∙ sym (ap length written_bytes ∙ length-append c.self.inside.written.items c.args.bytes.now)

pub returns-then-is_ok-clause-steps : goal.returns-then-is_ok-clause-steps
returns-then-is_ok-clause-steps c =
    let written_bytes = grown c.extend_from_slice.new.self.items c.self.inside.written.items c.args.bytes.now _ _ c.extend_from_slice.ensures.items c.is_ok.ensures.value c.if-is_ok.true in
    (λ i. steps_of (c.push_reserved.ensures.items i) (written_bytes i))
    ∙ steps_of-write c.self.inside.calls.items c.self.inside.written.items c.args.at c.args.bytes.now c.self.invariant
    ∙ ap (λ (r : LoggedCalls). r.steps ++ Wrote c.args.at c.args.bytes.now ∷ []) c.self.view_is
