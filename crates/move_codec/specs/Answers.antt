-- What a piece of a stream makes of a reader of migration messages, and what it answers. (Own definitions.)
use Rattle.std.specs.Prelude.{ℕ, List, [], ◌++◌, Bool, true, false, ⊤}
use Rattle.vt_base.specs.declared.types.Malformed.{Malformed}
use Rattle.move_codec.specs.declared.message.Message.{Message}
use Rattle.move_codec.specs.declared.reader.FedMessage.{FedMessage}
use Rattle.move_codec.specs.declared.reader.FedMessage.TheVariants.{More, Whole, Bad, Failed}
use Rattle.move_codec.specs.Reading.{MessageReaderState}

-- ---- a fact for one answer

abbrev pub IfWhole : FedMessage → (Message → Type 0) → Type 0
IfWhole (Whole m) P = P m
IfWhole More P = ⊤
IfWhole (Bad fault) P = ⊤
IfWhole Failed P = ⊤

abbrev pub IfBad : FedMessage → (Malformed → Type 0) → Type 0
IfBad (Bad fault) P = P fault
IfBad More P = ⊤
IfBad (Whole m) P = ⊤
IfBad Failed P = ⊤

abbrev pub OnMore : FedMessage → Type 0 → Type 0
OnMore More P = P
OnMore (Whole m) P = ⊤
OnMore (Bad fault) P = ⊤
OnMore Failed P = ⊤

abbrev pub OnFailed : FedMessage → Type 0 → Type 0
OnFailed Failed P = P
OnFailed More P = ⊤
OnFailed (Whole m) P = ⊤
OnFailed (Bad fault) P = ⊤

abbrev pub is_failed : FedMessage → Bool
is_failed Failed = true
is_failed More = false
is_failed (Whole m) = false
is_failed (Bad fault) = false

-- the reader after it answered so to this piece
abbrev pub after : MessageReaderState → List ℕ → FedMessage → MessageReaderState
after old piece More = record { begun = old.begun ++ piece; failed = old.failed }
after old piece (Whole m) = record { begun = []; failed = old.failed }
after old piece (Bad fault) = record { begun = []; failed = true }
after old piece Failed = old
