use Rattle.std.proofs.Common.{◌≡◌, ◌∙◌, sym, ap, true, [], rules}
use Rattle.std.specs.Prelude.{is_some}
use Rattle.vt_emulator.specs.CoreStates.{CoreState}
use Rattle.vt_emulator.proofs.Running.{ran_held}
use Rattle.vt_emulator.proofs.emulator_core.EmulatorCore.run_held.Goals as goal

pub returns-clause-runs : goal.returns-clause-runs
returns-clause-runs c =
    let held : is_some c.args.self.now.emulator.held ≡ true = sym (ap (λ (b : CoreState). is_some b.emulator.held) c.self.view_is) ∙ sym c.holds.ensures.whole ∙ c.if-not-holds.false in
    let part : c.args.self.now.command ≡ [] = sym (ap (λ (b : CoreState). b.command) c.self.view_is) ∙ c.holds.ensures.no_part c.if-not-holds.false in
    ran_held c.args.self.now.emulator.held _ _ _ c.args.self.now c.respond-size.new.self _ held part c.respond-size.ensures.state c.respond-size.ensures.size c.respond-size.ensures.response (search rules)
