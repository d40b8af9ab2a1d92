-- How long a request is at most. (Own definitions.)
use Rattle.std.specs.Prelude.{ℕ, Option, Some, None, nat_lt}
use Rattle.std.proofs.Common.{lit≤}
use Rattle.std.specs.Int.{from_be_bytes, w32}
use Rattle.std.proofs.lemmas.Bool.{ltb-false}
use Rattle.vt_base.specs.Layout.{IsWithin}
use Rattle.vt_base.specs.Within.{either_within}
use Rattle.ctrl_codec.specs.Numbers.{largest_message}
use Rattle.ctrl_codec.specs.declared.request_code.RequestCode.{RequestCode}
use Rattle.ctrl_codec.specs.declared.request_code.RequestCode.TheVariants.{GetCapability, Init, Shutdown, GetEstablished, SetLocality, CancelCommand, StoreVolatile, ResetEstablished, GetStateBlob, SetStateBlob, Stop, GetConfig, SetBufferSize}
use Rattle.ctrl_codec.specs.Commands.{command_at}
use Rattle.ctrl_codec.specs.Requests.{requests, body_of, body_at}

body_within : (c : RequestCode) → IsWithin (body_of c) 4108
body_within GetCapability = tt
body_within Init = (lit≤ tt, λ _. tt)
body_within Shutdown = tt
body_within GetEstablished = tt
body_within SetLocality = (lit≤ tt, λ _. (lit≤ tt, λ _. tt))
body_within CancelCommand = tt
body_within StoreVolatile = tt
body_within ResetEstablished = (lit≤ tt, λ _. (lit≤ tt, λ _. tt))
body_within GetStateBlob = (lit≤ tt, λ _. (lit≤ tt, λ _. (lit≤ tt, λ _. tt)))
body_within SetStateBlob = (lit≤ tt, λ flags. (lit≤ tt, λ kind. (lit≤ tt, λ len. either_within (nat_lt 4096 (from_be_bytes w32 len)) _ _ 4096 (λ _. tt) (λ fits. (ltb-false _ _ fits, λ _. tt)))))
body_within Stop = tt
body_within GetConfig = tt
body_within SetBufferSize = (lit≤ tt, λ _. tt)

body_at_within : (code : ℕ) (o : Option RequestCode) → IsWithin (body_at code o) 4108
body_at_within code None = tt
body_at_within code (Some c) = body_within c

-- No request has more bytes than there is room for.
pub requests_within : IsWithin requests largest_message
unfolding requests
requests_within = (lit≤ tt, λ code. body_at_within (from_be_bytes w32 code) (command_at (from_be_bytes w32 code)))
