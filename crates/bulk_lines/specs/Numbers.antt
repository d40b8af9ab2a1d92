-- The numbers of the generator, and of the bodies of the commands that it makes.
use Rattle.std.specs.Prelude.{ℕ}

-- ---- the generator (own)

-- a state is multiplied by this ..
abbrev pub multiplier : ℕ
multiplier = 6364136223846793005

-- .. and this is added
abbrev pub increment : ℕ
increment = 1442695040888963407

-- ---- in the bodies of commands; tags and codes are tpm_frame's

-- TPM_SU_CLEAR (TPM 2.0 Library, part 2, section 6.10)
abbrev pub clear : ℕ
clear = 0

-- TPM_RS_PW, the session of a password (part 2, section 7.4)
abbrev pub password_session : ℕ
password_session = 0x40000009

-- continueSession, the one attribute of that session (part 2, section 8.4)
abbrev pub continue_session : ℕ
continue_session = 1

-- TPM_ALG_SHA256 (part 2, section 6.3)
abbrev pub sha256_algorithm : ℕ
sha256_algorithm = 0x000B
