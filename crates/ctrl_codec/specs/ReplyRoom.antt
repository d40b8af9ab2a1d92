-- How long a reply is at most. (Own definitions.)
use Rattle.std.specs.Prelude.{ℕ, ◌≤◌, ◌-◌, slice_index, Err, nat_lt, eqb}
use Rattle.std.proofs.Common.{lit≤}
use Rattle.std.specs.Int.{from_be_bytes, w32}
use Rattle.std.proofs.lemmas.Bool.{ltb-false}
use Rattle.vt_base.specs.Layout.{Layout, Ends, IsWithin}
use Rattle.vt_base.specs.Within.{either_within}
use Rattle.ctrl_codec.specs.Numbers.{largest_message}
use Rattle.ctrl_codec.specs.declared.request_code.RequestCode.{RequestCode}
use Rattle.ctrl_codec.specs.declared.request_code.RequestCode.TheVariants.{GetCapability, GetEstablished, GetStateBlob, GetConfig, SetBufferSize}
use Rattle.ctrl_codec.specs.declared.reply.ReplyFault.TheVariants.{Value}
use Rattle.ctrl_codec.specs.Replies.{ReplyEnding, zero_then, replies_to}

zero_within : (place : ℕ) (next : Layout ReplyEnding) (room : ℕ) → 1 ≤ room → IsWithin next (room - 1) → IsWithin (zero_then place next) room
zero_within place next room le h = (le, λ b. either_within (eqb (slice_index b 0) 0) next (Ends (Err (Value place))) (room - 1) (λ _. h) (λ _. tt))

-- No reply has more bytes than there is room for.
pub replies_within : (c : RequestCode) → IsWithin (replies_to c) largest_message
unfolding replies_to
replies_within GetCapability = (lit≤ tt, λ _. tt)
replies_within GetEstablished = (lit≤ tt, λ _. (lit≤ tt, λ _. zero_within 5 _ 4107 (lit≤ tt) (zero_within 6 _ 4106 (lit≤ tt) (zero_within 7 _ 4105 (lit≤ tt) tt))))
replies_within GetStateBlob = (lit≤ tt, λ _. (lit≤ tt, λ _. (lit≤ tt, λ _. (lit≤ tt, λ len. either_within (nat_lt 4096 (from_be_bytes w32 len)) _ _ 4096 (λ _. tt) (λ fits. (ltb-false _ _ fits, λ _. tt))))))
replies_within GetConfig = (lit≤ tt, λ _. (lit≤ tt, λ _. tt))
replies_within SetBufferSize = (lit≤ tt, λ _. (lit≤ tt, λ _. (lit≤ tt, λ _. (lit≤ tt, λ _. tt))))
replies_within c = (lit≤ tt, λ _. tt)
