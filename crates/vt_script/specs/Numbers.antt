-- The characters that separate words and end lines. (Own numbers.)
use Rattle.std.specs.Prelude.{ℕ}

-- a space stands between two words
abbrev pub space : ℕ
space = 32

-- a line feed ends a line, and each text that is printed
abbrev pub line_feed : ℕ
line_feed = 10
