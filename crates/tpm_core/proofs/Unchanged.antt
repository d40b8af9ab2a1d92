-- SelfTest, GetCapability, GetTestResult and Hash aren't among the commands that the other reading knows, so they change
-- nothing.
use Rattle.std.proofs.Common.{◌≡◌, ℕ, true, false, eqb, leb, ltb, List, ◌∷◌, length, Result, Err, refl, ap, inl, inr}
use Rattle.std.specs.Prelude.{◌||◌, ◌&&◌}
use Rattle.std.specs.Int.{w16, w32}
use Rattle.std.proofs.lemmas.Bool.{and_parts, or_cases, eqb-true, leb-true, le-ltb}
use Rattle.vt_base.specs.Numbers.{big_endian_at}
use Rattle.tpm_frame.specs.Frame.{is_known, is_tag, head_of}
use Rattle.tpm_frame.specs.Numbers.{rc_command_code}
use Rattle.tpm_core.specs.declared.parts.TpmParts.{TpmParts}
use Rattle.tpm_core.specs.declared.refusal.Refusal.{Refusal}
use Rattle.tpm_core.specs.declared.refusal.Refusal.TheVariants as refusals
use Rattle.tpm_core.specs.declared.command.Command.{Command}
use Rattle.tpm_core.specs.Numbers.{cc_self_test, cc_get_capability, cc_get_test_result, cc_hash}
use Rattle.tpm_core.specs.Reading.{head_at, command_at}
use Rattle.tpm_core.specs.MoreCommands.{is_more, has_header, is_more_command}
use Rattle.tpm_core.specs.Past.{values}
use Rattle.tpm_core.specs.Answers.{Entry, Executed, change_if_read, read_by, with_change, state_changes, values_after}

-- no code is both
not_known : (code : ℕ) → is_more code ≡ true → is_known code ≡ false
not_known code e =
    elim (or_cases (eqb code cc_self_test || eqb code cc_get_capability || eqb code cc_get_test_result) (eqb code cc_hash) e) [
      | inr is ↦ ap is_known (eqb-true code cc_hash is)
      | inl three ↦ elim (or_cases (eqb code cc_self_test || eqb code cc_get_capability) (eqb code cc_get_test_result) three) [
        | inr is ↦ ap is_known (eqb-true code cc_get_test_result is)
        | inl two ↦ elim (or_cases (eqb code cc_self_test) (eqb code cc_get_capability) two) [
          | inl is ↦ ap is_known (eqb-true code cc_self_test is)
          | inr is ↦ ap is_known (eqb-true code cc_get_capability is)
        ]
      ]
    ]

-- the header is refused by its code
head_refused : (bytes : List ℕ) → is_more_command bytes ≡ true → head_of bytes ≡ Err rc_command_code
unfolding is_more_command head_of
head_refused bytes e =
    let parts = and_parts (has_header bytes) (is_more (big_endian_at w32 6 bytes)) e in
    let first = and_parts (leb 10 (length bytes) && is_tag (big_endian_at w16 0 bytes)) (eqb (big_endian_at w32 2 bytes) (length bytes)) parts.0 in
    let second = and_parts (leb 10 (length bytes)) (is_tag (big_endian_at w16 0 bytes)) first.0 in
    let long : ltb (length bytes) 10 ≡ false = le-ltb (length bytes) 10 (leb-true 10 (length bytes) second.0) in
    rw (long, second.1, first.1, not_known (big_endian_at w32 6 bytes) parts.1) refl

refused : (v : TpmParts) (bytes : List ℕ) → is_more_command bytes ≡ true → read_by v bytes ≡ Err refusals.CommandCode
unfolding command_at head_at
refused v bytes e = rw (head_refused bytes e) refl

pub unchanged : (b : TpmParts) (past : List Entry) (bytes : List ℕ) → is_more_command bytes ≡ true → values_after b (Executed bytes ∷ past) ≡ values_after b past
unfolding values_after state_changes
unchanged b past bytes e =
    let v = values b (state_changes b past) in
    ap (λ (r : Result Command Refusal). values b (with_change (change_if_read v r) (state_changes b past))) (refused v bytes e)
