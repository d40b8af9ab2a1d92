-- The lines that were given, and those that come.
use Rattle.std.proofs.Common.{◌≡◌, ℕ, ◌+◌, ◌<◌, ◌≤◌, List, [], ◌∷◌, ◌++◌, length, take, refl, sym, ap, subst, ◌∙◌, Some, None, Option, inl, inr, arith, append_assoc, add-one}
use Rattle.std.specs.List.{slice_get}
use Rattle.std.proofs.lemmas.List.{length-append, append-nil, take_at}
use Rattle.std.proofs.lemmas.Option.{slice_get-get_or}
use Rattle.std.proofs.Math.Seq.{get_or-append_seam}
use Rattle.std.specs.Io.KnownBytes.{prepend_known}
use Rattle.vt_script.specs.Script.{lines_of}
use Rattle.vt_script.specs.Reading.{first_line, after_line, has_line, Says, SaysOf}
use Rattle.vt_script.specs.declared.line_reader.Next.TheVariants as next
use lib.Chars.{codes}
use Rattle.std.specs.Prelude.{IfSome, false}
use Rattle.vt_script.specs.Replies.{numbered}
use Rattle.line_loop.specs.Inputs.{after_lines, AreShort, IsWithinLimits, IsLine, PassesLimitAt, HasRead}
use Rattle.line_loop.specs.Actors.{AreGiven, AreGivenOf}

-- none at the beginning
pub given-start : (input : List ℕ) → AreGiven input [] input
given-start input = record { within_limit = omega arith; short = tt; behind = refl; parts = refl }

pub given-start-of : (pending : List ℕ) (left : Option (List ℕ)) → pending ≡ [] → AreGivenOf left [] (prepend_known pending left)
given-start-of pending None none = tt
given-start-of pending (Some input) none = rw none (given-start input)

short-more : (lines : List (List ℕ)) (line : List ℕ) → AreShort lines → length line ≤ 8256 → AreShort (lines ++ line ∷ [])
short-more [] line all is = (is, tt)
short-more (first ∷ lines) line all is = (all.0, short-more lines line all.1 is)

-- one more
pub given-more : (input : List ℕ) (lines : List (List ℕ)) (rest line after : List ℕ) → AreGiven input lines rest → Says next.Line (length lines) rest line after → AreGiven input (lines ++ line ∷ []) after
given-more input lines rest line after given says =
    let size : length (lines ++ line ∷ []) ≡ length lines + 1 = length-append lines (line ∷ []) in
    record {
      within_limit = omega (arith, size, says.0);
      short = short-more lines line given.short says.2;
      behind = says.4 ∙ ap after_line given.behind ∙ sym (ap (λ n. after_lines n input) (size ∙ add-one (length lines)));
      parts = given.parts ∙ ap (λ t. lines ++ t) says.1 ∙ sym (append_assoc lines (line ∷ []) (lines_of after));
    }

-- the next one has the number that it should have
at_seam : (lines : List (List ℕ)) (line : List ℕ) (more : List (List ℕ)) → slice_get (lines ++ line ∷ more) (length lines) ≡ Some line
at_seam lines line more =
    let within : length lines < length (lines ++ line ∷ more) = omega (arith, length-append lines (line ∷ more)) in
    slice_get-get_or (lines ++ line ∷ more) (length lines) [] within ∙ ap Some (get_or-append_seam lines line more [])

pub given-line : (input : List ℕ) (lines : List (List ℕ)) (rest line : List ℕ) (more : List (List ℕ)) → AreGiven input lines rest → lines_of rest ≡ line ∷ more → slice_get (lines_of input) (length lines) ≡ Some line
given-line input lines rest line more given is = ap (λ t. slice_get t (length lines)) (given.parts ∙ ap (λ t. lines ++ t) is) ∙ at_seam lines line more

-- they are the first lines of the input
pub given-first : (input : List ℕ) (lines : List (List ℕ)) (rest : List ℕ) → AreGiven input lines rest → lines ≡ take (length lines) (lines_of input)
given-first input lines rest given = sym (ap (take (length lines)) given.parts ∙ take_at lines (lines_of rest) (length lines) refl)

-- and all of them at its end
pub given-all : (input : List ℕ) (lines : List (List ℕ)) (rest : List ℕ) → AreGiven input lines rest → rest ≡ [] → IsWithinLimits input × (lines ≡ lines_of input)
given-all input lines rest given none =
    let all : lines_of input ≡ lines = given.parts ∙ ap (λ t. lines ++ lines_of t) none ∙ append-nil lines in
    (rw all (given.short, given.within_limit), sym all)

-- ---- where the bytes of the source are known

pub given-more-of : (input : Option (List ℕ)) (lines : List (List ℕ)) (number : ℕ) (rest : Option (List ℕ)) (line : List ℕ) (after : Option (List ℕ)) → length lines ≡ number
    → AreGivenOf input lines rest → SaysOf next.Line number rest line after → AreGivenOf input (lines ++ line ∷ []) after
given-more-of None lines number rest line after count given says = tt
given-more-of (Some input) lines number None line after count given says = absurd given
given-more-of (Some input) lines number (Some rest) line None count given says = absurd says
given-more-of (Some input) lines number (Some rest) line (Some after) count given says = given-more input lines rest line after given (subst (λ n. Says next.Line n rest line after) (sym count) says)

-- the line that comes is one that may be read
pub given-is-line : (input : List ℕ) (lines : List (List ℕ)) (number : ℕ) (rest : Option (List ℕ)) (line : List ℕ) (after : Option (List ℕ)) → length lines ≡ number
    → AreGivenOf (Some input) lines rest → SaysOf next.Line number rest line after → IsLine input (length lines) line
given-is-line input lines number None line after count given says = absurd given
given-is-line input lines number (Some rest) line None count given says = absurd says
given-is-line input lines number (Some rest) line (Some after) count given says = (omega (arith, count, says.0), given-line input lines rest line (lines_of after) given says.1, says.2)

-- a limit is passed behind them
pub given-long : (input : List ℕ) (lines : List (List ℕ)) (number long : ℕ) (rest : Option (List ℕ)) (line : List ℕ) (after : Option (List ℕ)) → length lines ≡ number
    → AreGivenOf (Some input) lines rest → SaysOf (next.TooLong long) number rest line after → PassesLimitAt input (length lines) (numbered (codes "long line ") long)
given-long input lines number long None line after count given says = absurd given
given-long input lines number long (Some rest) line None count given says = absurd says
given-long input lines number long (Some rest) line (Some after) count given says =
    let same : long ≡ length lines + 1 = omega (arith, count, says.3) in
    inl (first_line rest, omega (arith, count, says.0), given-line input lines rest (first_line rest) (lines_of (after_line rest)) given says.1, says.2, ap (λ n. numbered (codes "long line ") n) same)

pub given-many : (input : List ℕ) (lines : List (List ℕ)) (number : ℕ) (rest : Option (List ℕ)) (line : List ℕ) (after : Option (List ℕ)) → length lines ≡ number
    → AreGivenOf (Some input) lines rest → SaysOf next.TooMany number rest line after → PassesLimitAt input (length lines) (codes "too many lines" ++ 10 ∷ [])
given-many input lines number None line after count given says = absurd given
given-many input lines number (Some rest) line None count given says = absurd says
given-many input lines number (Some rest) line (Some after) count given says =
    let full = given.within_limit in
    let all : length (lines_of input) ≡ length lines + length (lines_of rest) = ap length given.parts ∙ length-append lines (lines_of rest) in
    inr (omega (arith, count, says.0, full), omega (arith, count, says.0, full, all, says.1), refl)

-- a read failed behind them
pub given-fault : (input : List ℕ) (lines : List (List ℕ)) (number : ℕ) (rest : Option (List ℕ)) (line pending left : List ℕ) → length lines ≡ number
    → AreGivenOf (Some input) lines rest → SaysOf next.ReadFault number rest line (Some (pending ++ left)) → has_line pending ≡ false → HasRead input (length lines) left
given-fault input lines number None line pending left count given says none = absurd given
given-fault input lines number (Some rest) line pending left count given says none = (pending, sym given.behind ∙ sym says, none)

-- the input ends behind them
pub given-end : (input : Option (List ℕ)) (lines : List (List ℕ)) (number : ℕ) (rest : Option (List ℕ)) (line : List ℕ) (after : Option (List ℕ))
    → AreGivenOf input lines rest → SaysOf next.End number rest line after → IfSome input (λ bytes. IsWithinLimits bytes × (lines ≡ lines_of bytes))
given-end None lines number rest line after given says = tt
given-end (Some input) lines number None line after given says = absurd given
given-end (Some input) lines number (Some rest) line None given says = absurd says
given-end (Some input) lines number (Some rest) line (Some after) given says = given-all input lines rest given says.0
