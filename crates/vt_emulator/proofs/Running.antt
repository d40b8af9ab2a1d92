-- The command that is held is answered and dropped.
use Rattle.std.proofs.Common.{◌≡◌, ℕ, Bool, true, false, not, cond, List, [], length, Option, Some, None, refl, sym, ap, ◌∙◌}
use Rattle.std.specs.Prelude.{is_some, IfSome, option_map, ◌&&◌}
use Rattle.vt_base.specs.Buffer.{followed_by_zeros}
use Rattle.ctrl_model.specs.Emulator.{EmulatorState, PendingCommand, response_to, executed_by, ran}
use Rattle.vt_emulator.specs.CoreStates.{CoreState, RunsHeld}

-- once it was answered, no command is held
pub ran_drops : (h : PendingCommand) (d : EmulatorState) → record (ran h d) { held = None } ≡ ran h d
ran_drops h d = go (d.on && not h.cancelled)
  where
    go : (b : Bool) → record (cond b (record d { tpm = option_map (executed_by h.command) d.tpm; stored = false; held = None }) (record d { held = None })) { held = None }
        ≡ cond b (record d { tpm = option_map (executed_by h.command) d.tpm; stored = false; held = None }) (record d { held = None })
    go true = refl
    go false = refl

-- a response stands ready, and the command is dropped
pub ran_held : (held : Option PendingCommand) (size : ℕ) (was into : List ℕ) (b m c : CoreState) → is_some held ≡ true → b.command ≡ []
    → IfSome held (λ h. m ≡ record b { emulator = record (ran h b.emulator) { held = Some h } })
    → IfSome held (λ h. size ≡ length (response_to h b.emulator)) → IfSome held (λ h. into ≡ followed_by_zeros (response_to h b.emulator))
    → c ≡ record { emulator = record m.emulator { held = None }; command = [] } → RunsHeld held size was into b c
ran_held None size was into b m c some part state length_is response is = absurd cc
ran_held (Some h) size was into b m c some part state length_is response is = record {
  state = is ∙ ap (λ (s : CoreState). record { emulator = record s.emulator { held = None }; command = [] }) state
      ∙ ap (λ (d : EmulatorState). record { emulator = d; command = [] }) (ran_drops h b.emulator) ∙ ap (λ (part : List ℕ). record { emulator = ran h b.emulator; command = part }) (sym part);
  size_is = length_is;
  response = response;
}
