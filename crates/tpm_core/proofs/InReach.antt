-- What the checks make sure of in a command that they let through.
use Rattle.std.proofs.Common.{◌≡◌, ℕ, zero, suc, ◌<◌, ◌≤◌, ap, Bool, true, false, cond, eqb, ltb, List, length, drop, Result, Ok, Err, refl, sym, subst, not, ◌&&◌, arith}
use Rattle.std.proofs.lemmas.Bool.{ltb-true, ltb-false}
use Rattle.std.specs.Prelude.{IfOk, IfSome}
use Rattle.std.specs.Int.{w16, w32}
use Rattle.tpm_frame.specs.declared.Head.{Head}
use Rattle.tpm_frame.specs.Numbers.{cc_startup, cc_shutdown, cc_get_random, cc_pcr_read, cc_pcr_extend}
use Rattle.tpm_core.specs.declared.algorithm.Banks.{Banks}
use Rattle.tpm_core.specs.declared.refusal.Refusal.{Refusal}
use Rattle.tpm_core.specs.declared.refusal.Refusal.TheVariants as refusals
use Rattle.tpm_core.specs.declared.command.Command.{Command}
use Rattle.tpm_core.specs.declared.command.Command.TheVariants.{Startup, Shutdown, GetRandom, PcrRead, PcrExtend}
use Rattle.tpm_core.specs.Reading.{◌>>=◌, take_number, head_at, check_started_and_sessions, mode_at, startup_at, shutdown_at, get_random_at, handle_at, authorisation_at, digest_at, selection_at, many_at, count_at, pcr_read_at, pcr_extend_at, parameters_at, check_locality, is_closed, is_state, same, command_at}
use Rattle.tpm_core.specs.Steps.{IsInReach}

-- what holds of the value of a step holds of what comes of it
pub bind_ok : {A B : Type 0} (P : A → Type 0) (Q : B → Type 0) (r : Result A Refusal) (f : A → Result B Refusal) → IfOk r P → ((x : A) → P x → IfOk (f x) Q) → IfOk (r >>= f) Q
bind_ok P Q (Ok x) f h k = k x h
bind_ok P Q (Err e) f h k = tt

-- nothing is known of the value of a step
abbrev Any : {A : Type 0} → A → Type 0
Any x = Unit {0}

any : {A : Type 0} (r : Result A Refusal) → IfOk r Any
any (Ok x) = tt
any (Err e) = tt

pub then_ok : {A B : Type 0} (Q : B → Type 0) (r : Result A Refusal) (f : A → Result B Refusal) → ((x : A) → IfOk (f x) Q) → IfOk (r >>= f) Q
then_ok Q (Ok x) f k = k x
then_ok Q (Err e) f k = tt

pub if_ok : {A : Type 0} (Q : A → Type 0) (b : Bool) (x y : Result A Refusal) → (b ≡ true → IfOk x Q) → (b ≡ false → IfOk y Q) → IfOk (cond b x y) Q
if_ok Q true x y h k = h refl
if_ok Q false x y h k = k refl

handle_small : (bytes : List ℕ) → IfOk (handle_at bytes) (λ x. IfSome x.0 (λ i. i < 24))
unfolding handle_at
handle_small bytes = then_ok _ (take_number w32 refusals.HandleCut bytes) _ (λ n.
    if_ok _ (ltb n.0 24) _ _ (λ lt. ltb-true n.0 24 lt) (λ ge. if_ok _ (eqb n.0 1073741831) _ _ (λ e. tt) (λ e. tt)))

extend_small : (banks : Banks) (bytes : List ℕ) → IfOk (pcr_extend_at banks bytes) (λ x. IsInReach true x.0)
unfolding pcr_extend_at
extend_small banks bytes =
    bind_ok (λ x. IfSome x.0 (λ i. i < 24)) _ (handle_at bytes) _ (handle_small bytes) (λ register small.
    then_ok _ (authorisation_at register.1) _ (λ authorisation.
    then_ok _ (count_at authorisation.1) _ (λ count.
    then_ok _ (many_at (digest_at banks) count.0 count.1) _ (λ digests. (refl, small)))))

-- as many entries as were counted
many_counted : {A : Type 0} (entry_at : List ℕ → Result (A × List ℕ) Refusal) (n : ℕ) (bytes : List ℕ) → IfOk (many_at entry_at n bytes) (λ x. length x.0 ≡ n)
unfolding many_at
many_counted entry_at zero bytes = refl
many_counted entry_at (suc n) bytes =
    then_ok _ (entry_at bytes) _ (λ first.
    bind_ok (λ x. length x.0 ≡ n) _ (many_at entry_at n first.1) _ (many_counted entry_at n first.1) (λ others h. ap suc h))

count_small : (bytes : List ℕ) → IfOk (count_at bytes) (λ x. x.0 ≤ 16)
count_small bytes = then_ok _ (take_number w32 refusals.ParameterCut bytes) _ (λ count. if_ok _ (ltb 16 count.0) _ _ (λ e. tt) (λ e. ltb-false 16 count.0 e))

read_reach : (banks : Banks) (on : Bool) (bytes : List ℕ) → IfOk (pcr_read_at banks bytes) (λ x. IsInReach on x.0)
unfolding pcr_read_at
read_reach banks on bytes =
    bind_ok (λ x. x.0 ≤ 16) _ (count_at bytes) _ (count_small bytes) (λ count small.
    bind_ok (λ x. length x.0 ≡ count.0) _ (many_at (selection_at banks) count.0 count.1) _ (many_counted (selection_at banks) count.0 count.1) (λ selections h. omega (arith, h, small)))

startup_reach : (on has_saved : Bool) (bytes : List ℕ) → IfOk (startup_at has_saved bytes) (λ x. IsInReach on x.0)
unfolding startup_at
startup_reach on has_saved bytes = then_ok _ (mode_at bytes) _ (λ mode. if_ok _ (is_state mode.0 && not has_saved) _ _ (λ e. tt) (λ e. tt))

shutdown_reach : (on : Bool) (bytes : List ℕ) → IfOk (shutdown_at bytes) (λ x. IsInReach on x.0)
unfolding shutdown_at
shutdown_reach on bytes = then_ok _ (mode_at bytes) _ (λ mode. tt)

random_reach : (bytes : List ℕ) → IfOk (get_random_at bytes) (λ x. IsInReach true x.0)
unfolding get_random_at
random_reach bytes = then_ok _ (take_number w16 refusals.ParameterCut bytes) _ (λ n. refl)

on_from_apart : (on is_start : Bool) → same on is_start ≡ false → is_start ≡ false → on ≡ true
on_from_apart true is_start p q = refl
on_from_apart false true p q = absurd cc
on_from_apart false false p q = absurd cc

-- but for a start, commands are let through where the TPM is started
abbrev IsOnFor : Bool → Head → Type 0
IsOnFor on head = eqb head.code cc_startup ≡ false → on ≡ true

admitted_on : (on : Bool) (head : Head) → IfOk (check_started_and_sessions on head) (IsOnFor on)
admitted_on on head =
    if_ok _ (same on (eqb head.code cc_startup)) _ _ (λ e. tt) (λ apart.
    let known : IsOnFor on head = on_from_apart on (eqb head.code cc_startup) apart in
    if_ok _ (eqb head.code cc_pcr_extend) _ _
    (λ e. if_ok _ head.sessions _ _ (λ e. known) (λ e. tt))
    (λ e. if_ok _ head.sessions _ _ (λ e. tt) (λ e. known)))

parameters_reach : (banks : Banks) (on has_saved : Bool) (head : Head) (bytes : List ℕ) → IsOnFor on head → IfOk (parameters_at banks has_saved head.code bytes) (λ x. IsInReach on x.0)
unfolding parameters_at
parameters_reach banks on has_saved head bytes known =
    if_ok _ (eqb head.code cc_startup) _ _ (λ e. startup_reach on has_saved bytes) (λ no.
    let P : Bool → Type 0 = λ b. IfOk (cond (eqb head.code cc_shutdown) (shutdown_at bytes) (cond (eqb head.code cc_get_random) (get_random_at bytes) (cond (eqb head.code cc_pcr_read) (pcr_read_at banks bytes) (cond (eqb head.code cc_pcr_extend) (pcr_extend_at banks bytes) (Err refusals.CommandCode))))) (λ x. IsInReach b x.0) in
    subst P (sym (known no))
    (if_ok _ (eqb head.code cc_shutdown) _ _ (λ e. shutdown_reach true bytes) (λ e.
    if_ok _ (eqb head.code cc_get_random) _ _ (λ e. random_reach bytes) (λ e.
    if_ok _ (eqb head.code cc_pcr_read) _ _ (λ e. read_reach banks true bytes) (λ e.
    if_ok _ (eqb head.code cc_pcr_extend) _ _ (λ e. extend_small banks bytes) (λ e. tt))))))

locality_reach : (on : Bool) (command : Command) → IsInReach on command → IfOk (check_locality command) (IsInReach on)
locality_reach on (PcrExtend extension) h = if_ok _ (is_closed extension.0) _ _ (λ e. tt) (λ e. h)
locality_reach on (Startup mode) h = h
locality_reach on (Shutdown mode) h = h
locality_reach on (GetRandom asked) h = h
locality_reach on (PcrRead selections) h = h

pub command_reach : (banks : Banks) (on has_saved : Bool) (bytes : List ℕ) → IfOk (command_at banks on has_saved bytes) (IsInReach on)
unfolding command_at
command_reach banks on has_saved bytes =
    then_ok _ (head_at bytes) _ (λ seen.
    bind_ok (IsOnFor on) _ (check_started_and_sessions on seen) _ (admitted_on on seen) (λ head known.
    bind_ok (λ x. IsInReach on x.0) _ (parameters_at banks has_saved head.code (drop 10 bytes)) _ (parameters_reach banks on has_saved head (drop 10 bytes) known) (λ read h.
    if_ok _ (eqb (length read.1) 0) _ _ (λ e. locality_reach on read.0 h) (λ e. tt))))
