-- What is held after an answer begins no message.
use Rattle.std.proofs.Common.{ℕ, List, Result, sym, ap, subst}
use Rattle.vt_base.specs.Layout.{Layout, IsOpen, HasFirst}
use Rattle.vt_base.proofs.Layouts.{open_start}
use Rattle.ctrl_codec.specs.declared.feed_result.FeedResult.{FeedResult}
use Rattle.ctrl_codec.specs.declared.feed_result.FeedResult.TheVariants.{More, Whole, Refused, Failed}
use Rattle.ctrl_codec.specs.Reading.{ReaderState}
use Rattle.ctrl_codec.specs.Progress.{AnswerIsExact, IsLeft}

pub open_after : {V F : Type 0} (layout : Layout (Result V F)) (old new : ReaderState) (piece : List ℕ) (used : ℕ) (fed : FeedResult V F) → HasFirst layout → IsOpen layout old.begun
    → AnswerIsExact layout old piece used fed → IsLeft old piece used fed new → IsOpen layout new.begun
open_after layout old new piece used More first so_far exact left = subst (λ (bytes : List ℕ). IsOpen layout bytes) (sym (ap (λ (r : ReaderState). r.begun) left.2)) exact
open_after layout old new piece used (Whole v) first so_far exact left = open_start layout new.begun first (ap (λ (r : ReaderState). r.begun) left.1)
open_after layout old new piece used (Refused f) first so_far exact left = open_start layout new.begun first (ap (λ (r : ReaderState). r.begun) left.1)
open_after layout old new piece used Failed first so_far exact left = subst (λ (bytes : List ℕ). IsOpen layout bytes) (sym (ap (λ (r : ReaderState). r.begun) left.2)) so_far
