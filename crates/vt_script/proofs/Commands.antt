-- Commands by their digits.
use Rattle.std.proofs.Common.{◌≡◌, ℕ, ◌/◌, Bool, true, false, List, [], ◌∷◌, ◌++◌, length, refl, sym, ap, ◌∙◌, arith, cond, Some, None, Result, Ok, Err}
use Rattle.std.specs.Prelude.{◌==◌, ◌↔◌, Option, option_and_then}
use Rattle.std.specs.List.{AllPass}
use Rattle.std.specs.Str.{bytes_eq}
use Rattle.std.proofs.lemmas.List.Splits.{join_with_byte-slice_split, slice_split_none}
use Rattle.std.proofs.lemmas.Slice.Eq.{bytes_eq-Decides}
use Rattle.std.proofs.lemmas.Bool.Decides.{nat_tests}
use lib.Chars.{codes}
use Rattle.hex.specs.Hex.{decode_of, encode_lower, is_hex_digit, IsBytes}
use Rattle.hex.specs.declared.error.FromHexError.{FromHexError}
use Rattle.hex.proofs.HexLemmas.{decode_of-ok, decode_of-encode_lower}
use Rattle.vt_script.specs.declared.drive.DriveLine.TheVariants.{Cmd, Move, MoveFail}
use Rattle.vt_script.specs.Script.{parts_of, ordinal_of}
use Rattle.tpm_frame.specs.Sizes.{IsLength, IsWellSized, is_well_sized}
use Rattle.tpm_frame.proofs.WellSized.{well_sized, test_of}
use Rattle.vt_script.specs.Drive.{sized_command, command_of, lost_message_of, drive_of_words, drive_of, SpellsCommand}

-- too few digits for the header of a command, or more than the buffer has room for
pub sized_command-None : (digits : List ℕ) → (IsLength (length digits / 2) → ⊥) → sized_command (decode_of digits) ≡ None
sized_command-None digits outside = go (decode_of digits) refl
  where
    go : (decoded : Result (List ℕ) FromHexError) → decode_of digits ≡ decoded → sized_command decoded ≡ None
    go (Ok bytes) is =
        let twice = (decode_of-ok digits bytes is).2 in
        let half : length digits / 2 ≡ length bytes = omega arith in
        let not_sized : is_well_sized bytes ≡ true → ⊥ = λ t. let sized = well_sized bytes t in outside (rw half sized.fits) in
        tested (is_well_sized bytes) not_sized
      where
        tested : (test : Bool) → (test ≡ true → ⊥) → cond test (Some (Cmd bytes)) None ≡ None
        tested true never = absurd (never refl)
        tested false never = refl
    go (Err fault) is = refl

-- what was decoded, where it is a command
sized_command-Some : (decoded : Result (List ℕ) FromHexError) (bytes : List ℕ) → sized_command decoded ≡ Some (Cmd bytes) → (decoded ≡ Ok bytes) × IsWellSized bytes
sized_command-Some (Err fault) bytes h = cc h
sized_command-Some (Ok found) bytes h = let same = go (is_well_sized found) refl h in (ap Ok same.0, same.1)
  where
    go : (test : Bool) → is_well_sized found ≡ test → cond test (Some (Cmd found)) None ≡ Some (Cmd bytes) → (found ≡ bytes) × IsWellSized bytes
    go true is h = let same : found ≡ bytes = cc h in (same, rw same at (well_sized found is))
    go false is h = cc h

-- the digits of a command
pub record Digits (words : List (List ℕ)) (bytes : List ℕ) : Type 0 where
  pub digits : List ℕ
  pub alone : words ≡ digits ∷ []
  pub decoded : decode_of digits ≡ Ok bytes
  pub sized : IsWellSized bytes

command_of-Some : (words : List (List ℕ)) (bytes : List ℕ) → command_of words ≡ Some (Cmd bytes) → Digits words bytes
command_of-Some [] bytes h = cc h
command_of-Some (digits ∷ []) bytes h =
    let found = sized_command-Some (decode_of digits) bytes h in
    record { digits = digits; alone = refl; decoded = found.0; sized = found.1 }
command_of-Some (digits ∷ more ∷ words) bytes h = cc h

-- `cmd` and the digits of a command spell it
spelled_by : (line name : List ℕ) (rest : List (List ℕ)) (bytes : List ℕ) → parts_of 32 line ≡ name ∷ rest → name ≡ codes "cmd" → Digits rest bytes → SpellsCommand bytes line
spelled_by line name rest bytes cut named found = record {
  digits = found.digits;
  spelling = sym (rw (cut, found.alone, named) at (join_with_byte-slice_split 32 line));
  decoded = found.decoded;
  sized = found.sized;
}

-- `movefail` asks for no command
not_lost : (words : List (List ℕ)) (bytes : List ℕ) → lost_message_of words ≡ Some (Cmd bytes) → ⊥
not_lost [] bytes h = cc
not_lost (message ∷ []) bytes h = go (ordinal_of message) h
  where
    go : (found : Option ℕ) → option_and_then (λ k. Some (MoveFail k)) found ≡ Some (Cmd bytes) → ⊥
    go None h = cc
    go (Some k) h = cc
not_lost (message ∷ more ∷ words) bytes h = cc

spells : (line : List ℕ) (parts : List (List ℕ)) (bytes : List ℕ) → parts_of 32 line ≡ parts → drive_of_words parts ≡ Some (Cmd bytes) → SpellsCommand bytes line
spells line [] bytes cut h = cc
spells line (word ∷ []) bytes cut h = go (bytes_eq word (codes "move")) h
  where
    go : (test : Bool) → cond test (Some Move) None ≡ Some (Cmd bytes) → SpellsCommand bytes line
    go true h = cc
    go false h = cc
spells line (name ∷ first ∷ words) bytes cut h = go (bytes_eq name (codes "cmd")) refl h
  where
    lost : (test : Bool) → cond test (lost_message_of (first ∷ words)) None ≡ Some (Cmd bytes) → ⊥
    lost true h = not_lost (first ∷ words) bytes h
    lost false h = cc

    go : (test : Bool) → bytes_eq name (codes "cmd") ≡ test → cond test (command_of (first ∷ words)) (cond (bytes_eq name (codes "movefail")) (lost_message_of (first ∷ words)) None) ≡ Some (Cmd bytes) → SpellsCommand bytes line
    go false is h = absurd (lost (bytes_eq name (codes "movefail")) h)
    go true is h = spelled_by line name (first ∷ words) bytes cut ((bytes_eq-Decides name (codes "cmd")).0 is) (command_of-Some (first ∷ words) bytes h)

no_space : (c : ℕ) → is_hex_digit c ≡ true → (c == 32) ≡ false
no_space c digit = grind (arith, nat_tests, digit)

-- digits are one word
one_word : (digits : List ℕ) → AllPass is_hex_digit digits → parts_of 32 digits ≡ digits ∷ []
one_word digits all = slice_split_none (λ b. b == 32) digits (λ k d lt. no_space _ (all k d lt))

is_read : (line bytes : List ℕ) → SpellsCommand bytes line → drive_of line ≡ Some (Cmd bytes)
unfolding drive_of
is_read line bytes s =
    let alone : parts_of 32 (codes "cmd " ++ s.digits) ≡ codes "cmd" ∷ s.digits ∷ [] =
    ap (λ (words : List (List ℕ)). codes "cmd" ∷ words) (one_word s.digits (decode_of-ok s.digits bytes s.decoded).1) in
    let sized : sized_command (Ok bytes) ≡ Some (Cmd bytes) = rw (test_of bytes s.sized) refl in
    ap drive_of_words (ap (parts_of 32) s.spelling ∙ alone) ∙ ap sized_command s.decoded ∙ sized

pub drive_of-Some : (line bytes : List ℕ) → (drive_of line ≡ Some (Cmd bytes)) ↔ SpellsCommand bytes line
unfolding drive_of
drive_of-Some line bytes = (λ h. spells line (parts_of 32 line) bytes refl h, is_read line bytes)

pub drive_of-encode_lower : (bytes : List ℕ) → IsBytes bytes → IsWellSized bytes → drive_of (codes "cmd " ++ encode_lower bytes) ≡ Some (Cmd bytes)
drive_of-encode_lower bytes fits sized =
    is_read (codes "cmd " ++ encode_lower bytes) bytes (record { digits = encode_lower bytes; spelling = refl; decoded = decode_of-encode_lower bytes fits; sized = sized })
