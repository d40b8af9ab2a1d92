-- What a piece of a stream of messages came to, in the words of their layout. (Own definitions.)
use Rattle.std.specs.Prelude.{◌≡◌, ℕ, List, [], ◌++◌, length, take, drop, true, false, Result, Ok, Err, ⊤}
use Rattle.vt_base.specs.Numbers.{IsBytes}
use Rattle.vt_base.specs.Layout.{Layout, Encodes, IsOpen}
use Rattle.ctrl_codec.specs.declared.feed_result.FeedResult.{FeedResult}
use Rattle.ctrl_codec.specs.declared.feed_result.FeedResult.TheVariants.{More, Whole, Refused, Failed}
use Rattle.ctrl_codec.specs.Reading.{ReaderState}

-- the bytes so far end a message so
pub record EndsMessage {E : Type 0} (layout : Layout E) (end : E) (bytes : List ℕ) : Type 0 where
  pub spelled : Encodes layout end bytes
  pub fits : IsBytes bytes

-- the bytes so far, up to the last one taken, make this of the answer
abbrev pub AnswerIsExact : {V F : Type 0} → Layout (Result V F) → ReaderState → List ℕ → ℕ → FeedResult V F → Type 0
AnswerIsExact layout old piece used More = IsOpen layout (old.begun ++ piece)
AnswerIsExact layout old piece used (Whole v) = EndsMessage layout (Ok v) (old.begun ++ take used piece)
AnswerIsExact layout old piece used (Refused f) = EndsMessage layout (Err f) (old.begun ++ take used piece)
AnswerIsExact layout old piece used Failed = ⊤

-- what is held after an answer
abbrev pub IsLeft : {V F : Type 0} → ReaderState → List ℕ → ℕ → FeedResult V F → ReaderState → Type 0
IsLeft old piece used More new = (old.failed ≡ false) × (used ≡ length piece) × (new ≡ record old { begun = old.begun ++ piece })
IsLeft old piece used (Whole v) new = (old.failed ≡ false) × (new ≡ record old { begun = []; payload = drop 16 (old.begun ++ take used piece) })
IsLeft old piece used (Refused f) new = (old.failed ≡ false) × (new ≡ record old { begun = []; failed = true })
IsLeft old piece used Failed new = (old.failed ≡ true) × (used ≡ 0) × (new ≡ old)
