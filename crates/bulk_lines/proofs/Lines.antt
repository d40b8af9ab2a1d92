-- The lines that are left.
use Rattle.std.proofs.Common.{◌≡◌, ℕ, zero, suc, ◌+◌, ◌-◌, ◌<◌, Bool, true, false, List, ◌∷◌, refl, sym, ap, ◌∙◌, arith}
use Rattle.std.specs.Prelude.{◌==◌, ◌≢◌, if◌then◌else◌}
use Rattle.std.proofs.lemmas.Bool.Decides.{nat_tests}
use Rattle.vt_script.specs.declared.drive.DriveLine.{DriveLine}
use Rattle.vt_script.specs.declared.drive.DriveLine.TheVariants.{Cmd}
use Rattle.bulk_lines.specs.Commands.{startup}
use Rattle.bulk_lines.specs.Generator.{state_after, drawn, drawn_line, drawn_lines, first_line, lines_left}

at_start : (at count state : ℕ) → at ≡ 0 → lines_left at count state ≡ first_line ∷ drawn_lines count 1 state
at_start at count state is = rw is refl

behind_start : (at count state : ℕ) → at ≢ 0 → lines_left at count state ≡ drawn_lines count at state
behind_start at count state not = go (at == 0) refl
  where
    go : (test : Bool) → (at == 0) ≡ test → (if test then first_line ∷ drawn_lines count 1 state else drawn_lines count at state) ≡ drawn_lines count at state
    go true is = absurd (not (grind (arith, nat_tests, is)))
    go false is = refl

one_drawn : (count at state : ℕ) → 0 < count → drawn_lines count at state ≡ drawn_line at (drawn (state_after state)) ∷ drawn_lines (count - 1) (at + 1) (state_after state)
one_drawn zero at state some = absurd (omega arith)
one_drawn (suc count) at state some = let less : suc count - 1 ≡ count = omega arith in rw less refl

-- line 0, and the lines after it
pub line_zero : (at count state : ℕ) (line : DriveLine) (all : List DriveLine) → lines_left at count state ≡ all → at ≡ 0 → line ≡ Cmd startup → all ≡ line ∷ drawn_lines count 1 state
unfolding first_line
line_zero at count state line all left first is = sym left ∙ at_start at count state first ∙ ap (λ (l : DriveLine). l ∷ drawn_lines count 1 state) (sym is)

-- a line that is drawn, and the lines after it
pub line_drawn : (at count state next : ℕ) (line : DriveLine) (all : List DriveLine) → lines_left at count state ≡ all → at ≢ 0 → 0 < count → next ≡ state_after state → line ≡ drawn_line at (drawn next)
    → all ≡ line ∷ lines_left (at + 1) (count - 1) next
line_drawn at count state next line all left later some draws is =
    let behind : lines_left (at + 1) (count - 1) next ≡ drawn_lines (count - 1) (at + 1) next = behind_start (at + 1) (count - 1) next (λ e. omega arith) in
    let one : drawn_lines count at state ≡ drawn_line at (drawn (state_after state)) ∷ drawn_lines (count - 1) (at + 1) (state_after state) = one_drawn count at state some in
    let same : drawn_line at (drawn (state_after state)) ∷ drawn_lines (count - 1) (at + 1) (state_after state) ≡ drawn_line at (drawn next) ∷ drawn_lines (count - 1) (at + 1) next =
    ap (λ (s : ℕ). drawn_line at (drawn s) ∷ drawn_lines (count - 1) (at + 1) s) (sym draws) in
    sym left ∙ behind_start at count state later ∙ one ∙ same ∙ ap (λ (l : DriveLine). l ∷ drawn_lines (count - 1) (at + 1) next) (sym is) ∙ ap (λ (ls : List DriveLine). line ∷ ls) (sym behind)
