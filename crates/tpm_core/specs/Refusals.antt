-- The response codes of refusals.
use Rattle.std.specs.Prelude.{ℕ}
use Rattle.tpm_frame.specs.Numbers.{rc_bad_tag, rc_command_size, rc_command_code}
use Rattle.tpm_core.specs.declared.refusal.Refusal.{Refusal}
use Rattle.tpm_core.specs.declared.refusal.Refusal.TheVariants.{BadTag, CommandSize, CommandCode, Initialize, AuthMissing, AuthContext, HandleCut, HandleValue, AuthSize, SessionValue, BadAuth, ParameterCut, ParameterValue, ParameterSize, ParameterHash, Parameter2Cut, Parameter2Value, Parameter2Hash, Parameter3Cut, Parameter3Value, Parameter3Size, Locality}

-- the code by the TPM 2.0 Library, Part 2 (6.6, TPM_RC); those of a handle, a session or a parameter have its number
abbrev pub code_of : Refusal → ℕ
code_of BadTag = rc_bad_tag
code_of CommandSize = rc_command_size
code_of CommandCode = rc_command_code
code_of Initialize = 0x100
code_of AuthMissing = 0x125
code_of AuthContext = 0x145
code_of HandleCut = 0x19A
code_of HandleValue = 0x184
code_of AuthSize = 0x144
code_of SessionValue = 0x984
code_of BadAuth = 0x9A2
code_of ParameterCut = 0x1DA
code_of ParameterValue = 0x1C4
code_of ParameterSize = 0x1D5
code_of ParameterHash = 0x1C3
code_of Parameter2Cut = 0x2DA
code_of Parameter2Value = 0x2C4
code_of Parameter2Hash = 0x2C3
code_of Parameter3Cut = 0x3DA
code_of Parameter3Value = 0x3C4
code_of Parameter3Size = 0x3D5
code_of Locality = 0x907
