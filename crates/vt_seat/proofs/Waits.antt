-- Bytes that wait.
use Rattle.std.proofs.Common.{◌≡◌, ℕ, ◌≤◌, List, [], ◌∷◌, length, take, drop, refl, ap, subst, ◌∙◌, arith}
use Rattle.std.specs.Prelude.{◌==◌}
use Rattle.std.proofs.lemmas.Bool.Decides.{nat_tests}
use Rattle.std.proofs.lemmas.List.{length-take, length-drop}
use Rattle.std.specs.Prelude.{Option, Some, None}
use Rattle.vt_base.proofs.Zeros.{length-followed_by_zeros}
use Rattle.ctrl_model.specs.Emulator.{is_nil, PendingCommand, response_to}
use Rattle.vt_emulator.specs.Emulator.{BufferedEmulator, Runs, RunsBy}
use Rattle.vt_seat.specs.Wires.{slice_between}

nil-length : (xs : List ℕ) → (length xs == 0) ≡ is_nil xs
nil-length [] = refl
nil-length (x ∷ xs) = grind (arith, nat_tests)

-- nothing is left where as many bytes were given as there are
pub none_left : (from : ℕ) (xs : List ℕ) → from ≤ length xs → (from == length xs) ≡ is_nil (drop from xs)
none_left from xs within = grind (arith, nat_tests, length-drop from xs) ∙ nil-length (drop from xs)

pub none_between : (from to : ℕ) (xs : List ℕ) → from ≤ to → to ≤ length xs → (from == to) ≡ is_nil (slice_between from to xs)
none_between from to xs ordered within = same ∙ none_left from (take to xs) (omega (arith, length-take to xs))
  where
    same : (from == to) ≡ (from == length (take to xs))
    same = ap (λ n. from == n) (omega (arith, length-take to xs))

-- the buffer stays whole
pub whole_after : (e f : BufferedEmulator) (size : ℕ) (was into : List ℕ) → length was ≡ 3968 → size ≤ 3968 → Runs size was into e f → length into ≡ 3968
whole_after e f size was into whole within_limit runs = go e.emulator.held runs
  where
    go : (held : Option PendingCommand) → RunsBy held size was into e f → length into ≡ 3968
    go None nothing = ap length nothing.kept ∙ whole
    go (Some h) answered =
        let short : length (response_to h e.emulator) ≤ 3968 = subst (λ n. n ≤ 3968) answered.size_is within_limit in
        ap length answered.response ∙ length-followed_by_zeros (response_to h e.emulator) short
