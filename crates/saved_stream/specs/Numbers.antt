-- The number of the format. (Own.)
use Rattle.std.specs.Prelude.{ℕ}

-- the version behind the magic of the stream and of the record; that of a blob says which banks its TPM has
abbrev pub format_version : ℕ
format_version = 1
