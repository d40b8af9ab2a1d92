-- Control requests as bytes. The commands and codes are those of swtpm's manual, the bodies our own.
use Rattle.std.specs.Prelude.{◌≡◌, ℕ, ◌≤◌, ◌<◌, ◌^◌, List, [], ◌∷◌, ◌++◌, length, nat_lt, if◌then◌else◌, Option, Some, None, Result, Ok, Err}
use Rattle.vt_base.specs.Numbers.{number}
use Rattle.vt_base.specs.Layout.{Layout, Ends, Field, byte_then, number_then}
use Rattle.ctrl_codec.specs.declared.request_code.RequestCode.{RequestCode}
use Rattle.ctrl_codec.specs.declared.request_code.RequestCode.TheVariants as command
use Rattle.ctrl_codec.specs.declared.request.Request.{Request}
use Rattle.ctrl_codec.specs.declared.request.Request.TheVariants.{GetCapability, Init, Shutdown, GetEstablished, SetLocality, CancelCommand, StoreVolatile, ResetEstablished, GetStateBlob, SetStateBlob, Stop, GetConfig, SetBufferSize}
use Rattle.ctrl_codec.specs.declared.request.RequestFault.{RequestFault}
use Rattle.ctrl_codec.specs.declared.request.RequestFault.TheVariants.{Code, Length}
use Rattle.ctrl_codec.specs.Commands.{code_of, command_at}
use Rattle.ctrl_codec.specs.Numbers.{largest_data}

-- the command of a request
abbrev pub command_of : Request → RequestCode
command_of GetCapability = command.GetCapability
command_of (Init flags) = command.Init
command_of Shutdown = command.Shutdown
command_of GetEstablished = command.GetEstablished
command_of (SetLocality locality) = command.SetLocality
command_of CancelCommand = command.CancelCommand
command_of StoreVolatile = command.StoreVolatile
command_of (ResetEstablished locality) = command.ResetEstablished
command_of (GetStateBlob flags kind offset) = command.GetStateBlob
command_of (SetStateBlob flags kind len) = command.SetStateBlob
command_of Stop = command.Stop
command_of GetConfig = command.GetConfig
command_of (SetBufferSize size) = command.SetBufferSize

-- ---- the one encoding of each request

-- a request, the three bytes that nobody looks at, where it has them, and its data
abbrev pub encode_request : Request → List ℕ → List ℕ → List ℕ
encode_request GetCapability ignored payload = number (code_of command.GetCapability)
encode_request (Init flags) ignored payload = number (code_of command.Init) ++ number flags
encode_request Shutdown ignored payload = number (code_of command.Shutdown)
encode_request GetEstablished ignored payload = number (code_of command.GetEstablished)
encode_request (SetLocality locality) ignored payload = number (code_of command.SetLocality) ++ locality ∷ ignored
encode_request CancelCommand ignored payload = number (code_of command.CancelCommand)
encode_request StoreVolatile ignored payload = number (code_of command.StoreVolatile)
encode_request (ResetEstablished locality) ignored payload = number (code_of command.ResetEstablished) ++ locality ∷ ignored
encode_request (GetStateBlob flags kind offset) ignored payload = number (code_of command.GetStateBlob) ++ number flags ++ number kind ++ number offset
encode_request (SetStateBlob flags kind len) ignored payload = number (code_of command.SetStateBlob) ++ number flags ++ number kind ++ number len ++ payload
encode_request Stop ignored payload = number (code_of command.Stop)
encode_request GetConfig ignored payload = number (code_of command.GetConfig)
encode_request (SetBufferSize size) ignored payload = number (code_of command.SetBufferSize) ++ number size

-- the data that goes with a request
abbrev pub HasData : Request → List ℕ → Type 0
HasData (SetStateBlob flags kind len) payload = (length payload ≡ len) × (len ≤ largest_data)
HasData q payload = payload ≡ []

-- its numbers are those of its types
abbrev pub IsInRange : Request → Type 0
IsInRange (Init flags) = flags < 2 ^ 32
IsInRange (SetLocality locality) = locality < 2 ^ 8
IsInRange (ResetEstablished locality) = locality < 2 ^ 8
IsInRange (GetStateBlob flags kind offset) = (flags < 2 ^ 32) × (kind < 2 ^ 32) × (offset < 2 ^ 32)
IsInRange (SetStateBlob flags kind len) = (flags < 2 ^ 32) × (kind < 2 ^ 32) × (len < 2 ^ 32)
IsInRange (SetBufferSize size) = size < 2 ^ 32
IsInRange q = Unit {0}

-- These bytes ask so, with this data; the ignored bytes may be any.
pub record Asks (q : Request) (payload bytes : List ℕ) : Type 0 where
  pub in_range : IsInRange q
  pub has_data : HasData q payload
  pub spelled : (ignored : List ℕ) × (length ignored ≡ 3) × (bytes ≡ encode_request q ignored payload)

-- These bytes end with the field for which they are refused: a code outside the profile, or a length above the limit.
abbrev pub Refuses : RequestFault → List ℕ → Type 0
Refuses (Code code) bytes = (code < 2 ^ 32) × (command_at code ≡ None) × (bytes ≡ number code)
Refuses (Length len) bytes = (len < 2 ^ 32) × (largest_data < len) × (flags : ℕ) × (kind : ℕ) × (flags < 2 ^ 32) × (kind < 2 ^ 32)
    × (bytes ≡ number (code_of command.SetStateBlob) ++ number flags ++ number kind ++ number len)

-- ---- the same, parsed from left to right

-- how a request ends
abbrev pub Ending : Type 0
Ending = Result Request RequestFault

abbrev pub with_request : Request → Layout Ending
with_request q = Ends (Ok q)

-- a locality, and three bytes that nobody looks at
abbrev pub locality_then : (ℕ → Layout Ending) → Layout Ending
locality_then next = byte_then (λ locality. Field 3 (λ ignored. next locality))

-- the body of a command
abbrev pub body_of : RequestCode → Layout Ending
body_of command.GetCapability = with_request GetCapability
body_of command.Init = number_then (λ flags. with_request (Init flags))
body_of command.Shutdown = with_request Shutdown
body_of command.GetEstablished = with_request GetEstablished
body_of command.SetLocality = locality_then (λ locality. with_request (SetLocality locality))
body_of command.CancelCommand = with_request CancelCommand
body_of command.StoreVolatile = with_request StoreVolatile
body_of command.ResetEstablished = locality_then (λ locality. with_request (ResetEstablished locality))
body_of command.GetStateBlob = number_then (λ flags. number_then (λ kind. number_then (λ offset. with_request (GetStateBlob flags kind offset))))
body_of command.SetStateBlob = number_then (λ flags. number_then (λ kind. number_then (λ len.
    if nat_lt largest_data len then Ends (Err (Length len)) else Field len (λ payload. with_request (SetStateBlob flags kind len)))))
body_of command.Stop = with_request Stop
body_of command.GetConfig = with_request GetConfig
body_of command.SetBufferSize = number_then (λ size. with_request (SetBufferSize size))

-- what follows a code
abbrev pub body_at : ℕ → Option RequestCode → Layout Ending
body_at code None = Ends (Err (Code code))
body_at code (Some command) = body_of command

-- a code, and its body
unfoldable pub requests : Layout Ending
requests = number_then (λ code. body_at code (command_at code))
