-- What comes after two histories is what comes after the second, from what comes after the first.
use Rattle.std.proofs.Common.{◌≡◌, ℕ, ◌<◌, Bool, true, false, List, [], ◌∷◌, ◌++◌, Option, Some, None, Result, Ok, Err, refl, sym, ap, subst, ◌∙◌, is_some, cond, eqb}
use Rattle.std.specs.Prelude.{IfOk}
use Rattle.tpm_core.specs.declared.algorithm.Measurement.{Measurement}
use Rattle.tpm_core.specs.declared.parts.TpmParts.{TpmParts}
use Rattle.tpm_core.specs.declared.refusal.Refusal.{Refusal}
use Rattle.tpm_core.specs.declared.command.Mode.TheVariants.{Clear, State}
use Rattle.tpm_core.specs.declared.command.Command.{Command}
use Rattle.tpm_core.specs.declared.command.Command.TheVariants.{Startup, Shutdown, GetRandom, PcrRead, PcrExtend}
use Rattle.tpm_core.specs.Past.{StateChange, booted, drew, values}
use Rattle.tpm_core.specs.Answers.{Entry, PowerOn, Executed, change_of, extend_change, change_if_read, read_by, with_change, state_changes, values_after, reply_to, core_answer, more_read_by, reply_to_more, answer}
use Rattle.tpm_core.specs.MoreCommands.{is_more_command}
use Rattle.tpm_core.specs.Steps.{IsValid, after, after_change, CanDoIfAny, IsInReach}
use Rattle.tpm_core.proofs.InReach.{command_reach}
use Rattle.tpm_core.proofs.Fit.{values-cons, values-nil, fit-after}

-- a state change that a fit TPM comes to can be done
can_extend : (v : TpmParts) (i : ℕ) (measurements : List Measurement) → v.started ≡ true → i < 24 → CanDoIfAny v (extend_change i measurements)
can_extend v i [] on lt = tt
can_extend v i (measurement ∷ others) on lt = (on, lt)

can_draw : (v : TpmParts) (b : Bool) → v.started ≡ true → CanDoIfAny v (cond b None (Some drew))
can_draw v true on = tt
can_draw v false on = on

can_do : (v : TpmParts) (command : Command) → IsValid v → IsInReach v.started command → CanDoIfAny v (change_of v command)
can_do v (Startup Clear) fit h = tt
can_do v (Startup State) fit h = fit.kept_fits
can_do v (Shutdown Clear) fit h = tt
can_do v (Shutdown State) fit h = refl
can_do v (GetRandom asked) fit h = can_draw v (eqb asked 0) h
can_do v (PcrRead selections) fit h = tt
can_do v (PcrExtend (None, measurements)) fit h = tt
can_do v (PcrExtend (Some i, measurements)) fit h = can_extend v i measurements h.0 h.1

can_do_read : (v : TpmParts) (read : Result Command Refusal) → IsValid v → IfOk read (IsInReach v.started) → CanDoIfAny v (change_if_read v read)
can_do_read v (Ok command) fit h = can_do v command fit h
can_do_read v (Err refusal) fit h = tt

pub can_do_bytes : (v : TpmParts) (bytes : List ℕ) → IsValid v → CanDoIfAny v (change_if_read v (read_by v bytes))
can_do_bytes v bytes fit = can_do_read v (read_by v bytes) fit (command_reach v.banks v.started (is_some v.saved) bytes)

-- ---- one entry more

values-with_change : (b : TpmParts) (past : List StateChange) (change : Option StateChange) → CanDoIfAny (values b past) change → values b (with_change change past) ≡ after_change (values b past) change
values-with_change b past None can = refl
values-with_change b past (Some change) can = values-cons b past change can

fit-after_change : (v : TpmParts) (change : Option StateChange) → IsValid v → CanDoIfAny v change → IsValid (after_change v change)
fit-after_change v None fit can = fit
fit-after_change v (Some change) fit can = fit-after v change fit can

-- what an entry makes of values
abbrev next : TpmParts → Entry → TpmParts
next v PowerOn = after v booted
next v (Executed bytes) = after_change v (change_if_read v (read_by v bytes))

fit-next : (v : TpmParts) (entry : Entry) → IsValid v → IsValid (next v entry)
fit-next v PowerOn fit = fit-after v booted fit tt
fit-next v (Executed bytes) fit = fit-after_change v (change_if_read v (read_by v bytes)) fit (can_do_bytes v bytes fit)

values-next : (b : TpmParts) (back : List Entry) (entry : Entry) → IsValid (values b (state_changes b back)) → values b (state_changes b (entry ∷ back)) ≡ next (values b (state_changes b back)) entry
unfolding state_changes
values-next b back PowerOn fit = values-cons b (state_changes b back) booted tt
values-next b back (Executed bytes) fit = values-with_change b (state_changes b back) (change_if_read (values b (state_changes b back)) (read_by (values b (state_changes b back)) bytes)) (can_do_bytes (values b (state_changes b back)) bytes fit)

fit-back : (b : TpmParts) (back : List Entry) → IsValid b → IsValid (values b (state_changes b back))
unfolding state_changes
fit-back b [] fit = subst IsValid (sym (values-nil b fit)) fit
fit-back b (entry ∷ back) fit =
    let before = fit-back b back fit in
    subst IsValid (sym (values-next b back entry before)) (fit-next (values b (state_changes b back)) entry before)

-- ---- the law

law-back : (b : TpmParts) (later sooner : List Entry) → IsValid b → values b (state_changes b (later ++ sooner)) ≡ values (values b (state_changes b sooner)) (state_changes (values b (state_changes b sooner)) later)
unfolding state_changes
law-back b [] sooner fit = sym (values-nil (values b (state_changes b sooner)) (fit-back b sooner fit))
law-back b (entry ∷ later) sooner fit =
    let v = values b (state_changes b sooner) in
    let fit-v : IsValid v = fit-back b sooner fit in
    values-next b (later ++ sooner) entry (fit-back b (later ++ sooner) fit)
    ∙ ap (λ (w : TpmParts). next w entry) (law-back b later sooner fit)
    ∙ sym (values-next v later entry (fit-back v later fit-v))

pub fit-past : (b : TpmParts) (past : List Entry) → IsValid b → IsValid (values_after b past)
unfolding values_after
fit-past b past fit = fit-back b past fit

pub values_after-append : (b : TpmParts) (later sooner : List Entry) → IsValid b → values_after b (later ++ sooner) ≡ values_after (values_after b sooner) later
unfolding values_after
values_after-append b later sooner fit = law-back b later sooner fit

core_answer-append : (b : TpmParts) (later sooner : List Entry) (bytes : List ℕ) → IsValid b → core_answer b (later ++ sooner) bytes ≡ core_answer (values_after b sooner) later bytes
unfolding core_answer
core_answer-append b later sooner bytes fit = ap (λ (v : TpmParts). reply_to v (read_by v bytes)) (values_after-append b later sooner fit)

pub answer-append : (b : TpmParts) (later sooner : List Entry) (bytes : List ℕ) → IsValid b → answer b (later ++ sooner) bytes ≡ answer (values_after b sooner) later bytes
unfolding answer core_answer
answer-append b later sooner bytes fit = ap (λ (v : TpmParts). cond (is_more_command bytes) (reply_to_more (more_read_by v bytes)) (reply_to v (read_by v bytes))) (values_after-append b later sooner fit)

pub no_past : (b : TpmParts) → IsValid b → values_after b [] ≡ b
unfolding values_after state_changes
no_past b fit = values-nil b fit

-- ---- what the code does

pub values_after-power_on : (b : TpmParts) → IsValid b → values_after b (PowerOn ∷ []) ≡ after b booted
unfolding values_after state_changes
values_after-power_on b fit = let e = values-nil b fit in values-next b [] PowerOn (fit-back b [] fit) ∙ ap (λ (v : TpmParts). after v booted) e

pub values_after-command : (b : TpmParts) (bytes : List ℕ) → IsValid b → values_after b (Executed bytes ∷ []) ≡ after_change b (change_if_read b (read_by b bytes))
unfolding values_after state_changes
values_after-command b bytes fit = values-next b [] (Executed bytes) (fit-back b [] fit) ∙ ap (λ (v : TpmParts). after_change v (change_if_read v (read_by v bytes))) (values-nil b fit)

-- ---- over any past that led here

pub values_after-more : (v w b : TpmParts) (past : List Entry) (entry : Entry) → IsValid b → v ≡ values_after b past → w ≡ values_after v (entry ∷ []) → w ≡ values_after b (entry ∷ past)
values_after-more v w b past entry fit here e = e ∙ ap (λ (x : TpmParts). values_after x (entry ∷ [])) here ∙ sym (values_after-append b (entry ∷ []) past fit)

pub core_answer-more : (v b : TpmParts) (past : List Entry) (bytes : List ℕ) → IsValid b → v ≡ values_after b past → core_answer v [] bytes ≡ core_answer b past bytes
core_answer-more v b past bytes fit here = ap (λ (x : TpmParts). core_answer x [] bytes) here ∙ sym (core_answer-append b [] past bytes fit)
