use Rattle.std.proofs.Common.{sym, subst}
use Rattle.std.specs.Prelude.{IfSome}
use Rattle.vt_script.specs.Script.{event_of, HasNumber, parts_of}
use Rattle.vt_script.specs.Numbers.{space}
use Rattle.vt_script.proofs.Cuts.{event_of_words-more}
use Rattle.vt_script.proofs.Ordinals.{word_numbered, words_numbered}
use Rattle.vt_script.proofs.event.parse_line.Goals as goal

pub returns-in-Some-clause-value : goal.returns-in-Some-clause-value
unfolding event_of
returns-in-Some-clause-value c =
    let parts = rw c.in-Some.is at c.first_part.ensures.parts in
    rw (parts, c.parse_words.ensures) (sym (event_of_words-more c.first_part.result.0.now c.in-Some.words.now))

pub returns-in-Some-clause-numbers : goal.returns-in-Some-clause-numbers
returns-in-Some-clause-numbers c =
    subst (λ o. IfSome o HasNumber) (sym c.parse_words.ensures) (words_numbered c.first_part.result.0.now (parts_of space c.in-Some.words.now))

pub returns-in-None-clause-numbers : goal.returns-in-None-clause-numbers
returns-in-None-clause-numbers c = subst (λ o. IfSome o HasNumber) (sym c.parse_word.ensures) (word_numbered c.first_part.result.0.now)
