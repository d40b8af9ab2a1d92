-- The codes of control requests, after swtpm's manual.
use Rattle.std.specs.Prelude.{ℕ, ◌==◌, List, [], ◌∷◌, Option, find}
use Rattle.ctrl_codec.specs.declared.request_code.RequestCode.{RequestCode}
use Rattle.ctrl_codec.specs.declared.request_code.RequestCode.TheVariants.{GetCapability, Init, Shutdown, GetEstablished, SetLocality, CancelCommand, StoreVolatile, ResetEstablished, GetStateBlob, SetStateBlob, Stop, GetConfig, SetBufferSize}

-- the code of a command
abbrev pub code_of : RequestCode → ℕ
code_of GetCapability = 1
code_of Init = 2
code_of Shutdown = 3
code_of GetEstablished = 4
code_of SetLocality = 5
code_of CancelCommand = 9
code_of StoreVolatile = 10
code_of ResetEstablished = 11
code_of GetStateBlob = 12
code_of SetStateBlob = 13
code_of Stop = 14
code_of GetConfig = 15
code_of SetBufferSize = 17

-- the profile
abbrev pub commands : List RequestCode
commands = GetCapability ∷ Init ∷ Shutdown ∷ GetEstablished ∷ SetLocality ∷ CancelCommand ∷ StoreVolatile ∷ ResetEstablished ∷ GetStateBlob ∷ SetStateBlob ∷ Stop ∷ GetConfig ∷ SetBufferSize ∷ []

-- the command of a code, if the profile has one
abbrev pub command_at : ℕ → Option RequestCode
command_at code = find (λ c. code_of c == code) commands
