-- The lines of a script (own).
use Rattle.std.specs.Prelude.{ℕ, ◌≤◌, ◌+◌, ◌-◌, ◌*◌, ◌&&◌, ◌||◌, ◌==◌, nat_lt, nat_le, if◌then◌else◌, List, [], ◌∷◌, length, Option, Some, None, option_and_then, slice_index}
use Rattle.std.specs.List.{slice_split}
use Rattle.std.specs.Str.{bytes_eq}
use lib.Chars.{codes}
use Rattle.vt_base.specs.declared.types.HostName.{HostName}
use Rattle.vt_base.specs.declared.types.HostName.TheVariants.{A, B}
use Rattle.vt_script.specs.Numbers.{space, line_feed}
use Rattle.vt_script.specs.declared.event.Event.{Event}
use Rattle.vt_script.specs.declared.event.Event.TheVariants.{Access, Work, Ask, Reset, Offer, Deliver, GiveUp, Again, Show, Fail}

-- the parts between separators; there is one more of them than separators
abbrev pub parts_of : ℕ → List ℕ → List (List ℕ)
parts_of separator bytes = slice_split (λ b. b == separator) bytes

-- the parts but for a last one that is empty
abbrev pub without_empty_end : List (List ℕ) → List (List ℕ)
without_empty_end [] = []
without_empty_end ([] ∷ []) = []
without_empty_end (part ∷ parts) = part ∷ without_empty_end parts

-- the lines of a script: each is ended by LF, the last one by LF or by the end of the script
abbrev pub lines_of : List ℕ → List (List ℕ)
lines_of script = without_empty_end (parts_of line_feed script)

-- the value of a hexadecimal digit of either case
abbrev pub digit_of : ℕ → Option ℕ
digit_of b =
    if nat_le 48 b && nat_le b 57 then Some (b - 48)
    else (if nat_le 97 b && nat_le b 102 then Some (b - 87)
    else (if nat_le 65 b && nat_le b 70 then Some (b - 55)
    else None))

-- the value of a digit in this base, which is 16 at most
abbrev pub digit_in : ℕ → ℕ → Option ℕ
digit_in base b = option_and_then (λ digit. if nat_lt digit base then Some digit else None) (digit_of b)

-- the number that digits in this base spell after an earlier number
abbrev pub number_after : ℕ → ℕ → List ℕ → Option ℕ
number_after base number [] = Some number
number_after base number (b ∷ bs) = option_and_then (λ digit. number_after base (number * base + digit) bs) (digit_in base b)

-- the number that at least one and at most so many digits in this base spell
abbrev pub number_of : ℕ → ℕ → List ℕ → Option ℕ
number_of base most word = if nat_lt 0 (length word) && nat_le (length word) most then number_after base 0 word else None

-- which call or which message a word names, counted from 1: in decimal, without a leading zero
abbrev pub ordinal_of : List ℕ → Option ℕ
ordinal_of word = option_and_then (λ n. if slice_index word 0 == 48 || nat_lt n 1 || nat_lt 65535 n then None else Some n) (number_of 10 5 word)

-- an ordinal that a word can name
abbrev pub IsOrdinal : ℕ → Type 0
IsOrdinal n = (1 ≤ n) × (n ≤ 65535)

-- the offset that a word names
abbrev pub offset_of : List ℕ → Option ℕ
offset_of word = number_of 16 3 word

-- the value of so many bytes that a word names
abbrev pub value_of : ℕ → List ℕ → Option ℕ
value_of size word = number_of 16 (2 * size) word

-- the host that a word names
abbrev pub host_of : List ℕ → Option HostName
host_of word =
    if bytes_eq word (codes "a") then Some A
    else (if bytes_eq word (codes "b") then Some B
    else None)

-- the size that a word names
abbrev pub size_of : List ℕ → Option ℕ
size_of word =
    if bytes_eq word (codes "1") then Some 1
    else (if bytes_eq word (codes "2") then Some 2
    else (if bytes_eq word (codes "4") then Some 4
    else (if bytes_eq word (codes "8") then Some 8
    else None)))

-- an access of so many bytes at an offset, a write where there is a value, if it lies within the page
abbrev pub access_event : ℕ → ℕ → Option ℕ → Option Event
access_event offset size write =
    if nat_le (offset + size) 0x1000
    then Some (Access (record { offset = offset; size = size; write = write }))
    else None

-- what the words after `r` ask for: offset and size
abbrev pub read_of : List (List ℕ) → Option Event
read_of (offset ∷ size ∷ []) =
    option_and_then (λ at. option_and_then (λ n. access_event at n None) (size_of size)) (offset_of offset)
read_of _ = None

-- what the words after `w` ask for: offset, size and value
abbrev pub write_of : List (List ℕ) → Option Event
write_of (offset ∷ size ∷ value ∷ []) =
    option_and_then (λ at. option_and_then (λ n. option_and_then (λ v. access_event at n (Some v)) (value_of n value)) (size_of size)) (offset_of offset)
write_of _ = None

-- what the words after `fail` ask for: a host, and which call on its wires is to fail
abbrev pub fail_of : List (List ℕ) → Option Event
fail_of (host ∷ call ∷ []) = option_and_then (λ h. option_and_then (λ k. Some (Fail h k)) (ordinal_of call)) (host_of host)
fail_of _ = None

-- the one ordinal that these words are
abbrev pub only_ordinal : List (List ℕ) → Option ℕ
only_ordinal (word ∷ []) = ordinal_of word
only_ordinal _ = None

-- what a line of one word of a move asks for
abbrev pub move_word_event : List ℕ → Option Event
move_word_event word =
    if bytes_eq word (codes "offer") then Some Offer
    else (if bytes_eq word (codes "giveup") then Some GiveUp
    else (if bytes_eq word (codes "again") then Some Again
    else None))

-- what a line of one word asks for
abbrev pub word_event : List ℕ → Option Event
word_event word =
    if bytes_eq word (codes "work") then Some Work
    else (if bytes_eq word (codes "ask") then Some Ask
    else (if bytes_eq word (codes "reset") then Some Reset
    else move_word_event word))

-- what a line of a name and a message asks for
abbrev pub move_words_event : List ℕ → List (List ℕ) → Option Event
move_words_event name words =
    if bytes_eq name (codes "deliver") then option_and_then (λ k. Some (Deliver k)) (only_ordinal words)
    else (if bytes_eq name (codes "show") then option_and_then (λ k. Some (Show k)) (only_ordinal words)
    else None)

-- what a line of a name and more words asks for
abbrev pub words_event : List ℕ → List (List ℕ) → Option Event
words_event name words =
    if bytes_eq name (codes "r") then read_of words
    else (if bytes_eq name (codes "w") then write_of words
    else (if bytes_eq name (codes "fail") then fail_of words
    else move_words_event name words))

-- what the words of a line ask for
abbrev pub event_of_words : List (List ℕ) → Option Event
event_of_words [] = None
event_of_words (word ∷ []) = word_event word
event_of_words (name ∷ first ∷ words) = words_event name (first ∷ words)

-- what a line asks for; `None` where it isn't in the grammar
unfoldable pub event_of : List ℕ → Option Event
event_of line = event_of_words (parts_of space line)

-- the calls on wires and the messages have numbers from 1 on
abbrev pub HasNumber : Event → Type 0
HasNumber (Access access) = Unit {0}
HasNumber Work = Unit {0}
HasNumber Ask = Unit {0}
HasNumber Reset = Unit {0}
HasNumber Offer = Unit {0}
HasNumber (Deliver message) = 1 ≤ message
HasNumber GiveUp = Unit {0}
HasNumber Again = Unit {0}
HasNumber (Show message) = 1 ≤ message
HasNumber (Fail host call) = 1 ≤ call
