-- From one step of the machine to the history of one entry.
use Rattle.std.proofs.Common.{◌≡◌, Bool, List, [], ◌∷◌, Result, Ok, sym, ap, subst, ◌∙◌, is_some}
use Rattle.std.specs.Prelude.{IfOk}
use Rattle.std.proofs.Common.{ℕ}
use Rattle.tpm_core.specs.declared.algorithm.Banks.{Banks}
use Rattle.tpm_core.specs.declared.parts.TpmParts.{TpmParts}
use Rattle.tpm_core.specs.declared.refusal.Refusal.{Refusal}
use Rattle.tpm_core.specs.declared.command.Command.{Command}
use Rattle.tpm_core.specs.Reading.{command_at}
use Rattle.tpm_core.specs.Answers.{Executed, change_if_read, read_by, reply_to, values_after, core_answer}
use Rattle.tpm_core.specs.Steps.{IsValid, after_change, IsInReach}
use Rattle.tpm_core.proofs.InReach.{command_reach}
use Rattle.tpm_core.proofs.Law.{fit-past, no_past, values_after-command}

-- what was read is what the values and the bytes give
pub read_is : (v : TpmParts) (bytes : List ℕ) (has_saved : Bool) (read : Result Command Refusal) → has_saved ≡ is_some v.saved → read ≡ command_at v.banks v.started has_saved bytes → read ≡ read_by v bytes
read_is v bytes has_saved read saved e = e ∙ ap (λ (b : Bool). command_at v.banks v.started b bytes) saved

pub in_reach : (banks : Banks) (on has_saved : Bool) (bytes : List ℕ) (command : Command) → Ok command ≡ command_at banks on has_saved bytes → IsInReach on command
in_reach banks on has_saved bytes command e = let P : Result Command Refusal → Type 0 = λ r. IfOk r (IsInReach on) in subst P (sym e) (command_reach banks on has_saved bytes)

pub executed_is : (v w : TpmParts) (bytes : List ℕ) (read : Result Command Refusal) → IsValid v → read ≡ read_by v bytes → w ≡ after_change v (change_if_read v read) → w ≡ values_after v (Executed bytes ∷ [])
executed_is v w bytes read fit e h = h ∙ ap (λ (r : Result Command Refusal). after_change v (change_if_read v r)) e ∙ sym (values_after-command v bytes fit)

pub stays_fit : (v w : TpmParts) (bytes : List ℕ) → IsValid v → w ≡ values_after v (Executed bytes ∷ []) → IsValid w
stays_fit v w bytes fit e = subst IsValid (sym e) (fit-past v (Executed bytes ∷ []) fit)

pub core_answer_is : (v : TpmParts) (bytes : List ℕ) (read : Result Command Refusal) → IsValid v → read ≡ read_by v bytes → reply_to v read ≡ core_answer v [] bytes
unfolding core_answer
core_answer_is v bytes read fit e = ap (reply_to v) e ∙ ap (λ (w : TpmParts). reply_to w (read_by w bytes)) (sym (no_past v fit))
