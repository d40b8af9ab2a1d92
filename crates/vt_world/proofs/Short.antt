-- The record of a guest that prepares no command is its header alone.
use Rattle.std.proofs.Common.{◌≡◌, ℕ, zero, suc, ◌+◌, Bool, true, false, List, [], ◌∷◌, length, Option, Some, refl, sym, ap, subst, ◌∙◌, arith}
use Rattle.std.specs.Prelude.{if◌then◌else◌, slice_index}
use Rattle.vt_base.specs.Buffer.{zeros}
use Rattle.vt_base.proofs.Zeros.{get_or-zeros}
use Rattle.crb_regs.specs.Access.{Access}
use Rattle.crb_regs.specs.declared.phase.Phase.{Phase}
use Rattle.crb_regs.specs.declared.phase.Phase.TheVariants.{Idle, Ready, Reception, Execution, Completion, Lost}
use Rattle.crb_regs.specs.declared.effect.Effect.{Effect}
use Rattle.crb_regs.specs.declared.effect.Effect.TheVariants.{Buffer, CmdReady, GoIdle, Start, Cancel, Request, Relinquish, Nothing}
use Rattle.crb_port.specs.declared.job.Outcome.TheVariants.{Done, Cancelled, Lost as EndedLost}
use Rattle.crb_machine.specs.Phases.{is_accepted, phase_after}
use Rattle.crb_machine.specs.Values.{DeviceValues}
use Rattle.device_record.specs.Records.{trimmed, encode_record}
use Rattle.crb_history.specs.Snapshot.{Snapshot}
use Rattle.crb_history.specs.Bytes.{bytes_at}
use Rattle.crb_history.specs.Continued.{content_after, device_after}
use Rattle.crb_history.specs.Device.{phase_of, is_granted, phase_at_end, buffer, byte_after, effect_of}
use Rattle.crb_history.specs.Event.{History}
use Rattle.crb_history.specs.Event.Event.{Read, Write, Claim, Sent, Exec, Finish, Ask, Reset, ResetLost}
use Rattle.crb_history.specs.Legal.{Legal}
use Rattle.vt_transcript.specs.OneHost.{OneHost}
use Rattle.vt_seat.specs.Follows.{tpm_at}
use Rattle.vt_seat.specs.State.{WorldState}
use Rattle.vt_seat.specs.Moves.{CanGo, IsAtRest}
use Rattle.vt_world.specs.Bus.{IsBusAfter}
use Rattle.vt_world.specs.Placement.{pieces_by}
use Rattle.vt_world.specs.Movable.{values_in, pieces_at}
use Rattle.std.specs.Int.{div_ceil}
use Rattle.vt_base.specs.declared.types.Kind.TheVariants as kind
use Rattle.tpm_core.specs.declared.parts.TpmParts.{TpmParts}
use Rattle.state_blobs.specs.Encodings.{encode_blob}
use Rattle.hand_over.specs.Bridge.{port_state}
use Rattle.hand_over.specs.Counts.{pieces_of}

-- ---- the buffer of an idle device is zeros

-- a byte after a write that left the device idle
write_zero : (f : Effect) (granted : Bool) (phase : Phase) (a : Access) (i was : ℕ) → phase_after f granted phase ≡ Idle → (phase ≡ Idle → was ≡ 0) → (if is_accepted f granted phase then byte_after f a i was else was) ≡ 0
write_zero GoIdle granted Idle a i was idle before = before refl
write_zero GoIdle granted Ready a i was idle before = refl
write_zero GoIdle granted Reception a i was idle before = refl
write_zero GoIdle granted Execution a i was idle before = absurd cc
write_zero GoIdle granted Completion a i was idle before = refl
write_zero GoIdle granted Lost a i was idle before = absurd cc
write_zero CmdReady granted Idle a i was idle before = absurd cc
write_zero CmdReady granted Ready a i was idle before = absurd cc
write_zero CmdReady granted Reception a i was idle before = absurd cc
write_zero CmdReady granted Execution a i was idle before = absurd cc
write_zero CmdReady granted Completion a i was idle before = absurd cc
write_zero CmdReady granted Lost a i was idle before = absurd cc
write_zero Buffer granted Idle a i was idle before = before refl
write_zero Buffer granted Ready a i was idle before = absurd cc
write_zero Buffer granted Reception a i was idle before = absurd cc
write_zero Buffer granted Execution a i was idle before = absurd cc
write_zero Buffer granted Completion a i was idle before = absurd cc
write_zero Buffer granted Lost a i was idle before = absurd cc
write_zero Start true Idle a i was idle before = before refl
write_zero Start true Ready a i was idle before = absurd cc
write_zero Start true Reception a i was idle before = absurd cc
write_zero Start true Execution a i was idle before = absurd cc
write_zero Start true Completion a i was idle before = absurd cc
write_zero Start true Lost a i was idle before = absurd cc
write_zero Start false phase a i was idle before = before idle
write_zero (Cancel value) granted Idle a i was idle before = before refl
write_zero (Cancel value) granted Ready a i was idle before = absurd cc
write_zero (Cancel value) granted Reception a i was idle before = absurd cc
write_zero (Cancel value) granted Execution a i was idle before = absurd cc
write_zero (Cancel value) granted Completion a i was idle before = absurd cc
write_zero (Cancel value) granted Lost a i was idle before = absurd cc
write_zero Request granted Idle a i was idle before = before refl
write_zero Request granted Ready a i was idle before = absurd cc
write_zero Request granted Reception a i was idle before = absurd cc
write_zero Request granted Execution a i was idle before = absurd cc
write_zero Request granted Completion a i was idle before = absurd cc
write_zero Request granted Lost a i was idle before = absurd cc
write_zero Relinquish granted Idle a i was idle before = before refl
write_zero Relinquish granted Ready a i was idle before = absurd cc
write_zero Relinquish granted Reception a i was idle before = absurd cc
write_zero Relinquish granted Execution a i was idle before = absurd cc
write_zero Relinquish granted Completion a i was idle before = absurd cc
write_zero Relinquish granted Lost a i was idle before = absurd cc
write_zero Nothing granted phase a i was idle before = before idle

-- where this is so of the base
module _ (b : Snapshot) (starts : b.device.phase ≡ Idle → b.device.content ≡ zeros 3968) where
  buffer_zero : (p : History) (i : ℕ) → Legal b p → phase_of b p ≡ Idle → buffer b p i ≡ 0
  buffer_zero [] i legal idle = ap (λ (bytes : List ℕ). slice_index bytes i) (starts idle) ∙ get_or-zeros 3968 i
  buffer_zero (Write a ∷ p) i legal idle = write_zero (effect_of a) (is_granted b p) (phase_of b p) a i (buffer b p i) idle (λ now. buffer_zero p i legal.0 now)
  buffer_zero (Finish Done ∷ p) i legal idle = absurd (let ended = sym (ap (phase_at_end Done) legal.1.executing) ∙ idle in cc)
  buffer_zero (Finish Cancelled ∷ p) i legal idle = absurd (let ended = sym (ap (phase_at_end Cancelled) legal.1.0.executing) ∙ idle in cc)
  buffer_zero (Finish EndedLost ∷ p) i legal idle = absurd (let ended = sym (ap (phase_at_end EndedLost) legal.1.executing) ∙ idle in cc)
  buffer_zero (Reset ∷ p) i legal idle = refl
  buffer_zero (ResetLost ∷ p) i legal idle = refl
  buffer_zero (Read a value ∷ p) i legal idle = buffer_zero p i legal.0 idle
  buffer_zero (Claim ∷ p) i legal idle = buffer_zero p i legal.0 idle
  buffer_zero (Sent ∷ p) i legal idle = buffer_zero p i legal.0 idle
  buffer_zero (Exec ∷ p) i legal idle = buffer_zero p i legal.0 idle
  buffer_zero (Ask arrived ∷ p) i legal idle = buffer_zero p i legal.0 idle

-- ---- and nothing of it is spelled

zero_bytes : (byte : ℕ → ℕ) → ((i : ℕ) → byte i ≡ 0) → (at size : ℕ) → trimmed (bytes_at byte at size) ≡ []
zero_bytes byte none at zero = refl
zero_bytes byte none at (suc size) = rw (none at, zero_bytes byte none (at + 1) size) refl

text_short : (v : DeviceValues) → trimmed v.content ≡ [] → length (encode_record v) ≡ 23
unfolding encode_record
text_short v none = omega (arith, ap length none)

content_none : (b : Snapshot) (p : History) → ((i : ℕ) → buffer b p i ≡ 0) → trimmed (content_after b p) ≡ []
unfolding content_after
content_none b p none = zero_bytes (buffer b p) none 0 3968

pub short_at : (b : Snapshot) (p : History) (v : DeviceValues) → (b.device.phase ≡ Idle → b.device.content ≡ zeros 3968) → Legal b p → phase_of b p ≡ Idle → v ≡ device_after b p → length (encode_record v) ≡ 23
short_at b p v starts legal idle is =
    text_short v (ap (λ (v : DeviceValues). trimmed v.content) is ∙ content_none b p (λ i. buffer_zero b starts p i legal idle))

-- what is known of a guest that stands after a history
abbrev AtRestLaw : Type 0
AtRestLaw = (b : Snapshot) (s : OneHost) (w : WorldState) → CanGo b s w → IsAtRest b s w

module _ (law : AtRestLaw) (b : Snapshot) (p : History) (w : WorldState) (starts : b.device.phase ≡ Idle → b.device.content ≡ zeros 3968) (after : IsBusAfter b p w) (idle : phase_of b p ≡ Idle) where
  here : phase_of b after.host.history ≡ Idle
  here = ap (phase_of b) after.same ∙ idle

  rest : IsAtRest b after.host w
  rest = law b after.host w (record {
    follows = after.follows;
    unordered = after.unordered;
    working = λ lost. let wrong = sym here ∙ lost in cc;
    unclaimed = rw here refl;
  })

  -- it has the record of the history's values
  pub short_after : length (encode_record (values_in w)) ≡ 23
  short_after = short_at b after.host.history (values_in w) starts (subst (Legal b) (sym after.same) after.legal) here rest.values

  tpm_is : w.link.emulator.tpm ≡ Some (tpm_at b p)
  tpm_is = rest.emulator.emulator.tpm ∙ ap (λ (h : History). Some (tpm_at b h)) after.same

  pub pieces_after : (piece : ℕ) → pieces_at piece w ≡ pieces_by piece 23 (tpm_at b p)
  pieces_after piece =
      ap (λ (o : Option TpmParts). pieces_of (record { of_record = piece; of_blob = piece }) (port_state (encode_record (values_in w)) o)) tpm_is
      ∙ ap (λ (n : ℕ). div_ceil n piece
      + (div_ceil (length (encode_blob kind.Permanent (tpm_at b p))) piece + (div_ceil (length (encode_blob kind.Volatile (tpm_at b p))) piece + div_ceil (length (encode_blob kind.Saved (tpm_at b p))) piece))) short_after
