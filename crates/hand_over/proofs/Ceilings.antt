-- Pieces are counted one by one.
use Rattle.std.proofs.Common.{◌≡◌, ℕ, suc, ◌+◌, ◌-◌, ◌*◌, ◌<◌, ◌≤◌, inl, inr, min, length, Some, None, sym, ap, ◌∙◌, arith}
use Rattle.std.specs.Int.{div_ceil}
use Rattle.std.proofs.Math.Nat.{add-mul, one-mul}
use Rattle.std.proofs.lemmas.Bool.{cases_lt}
use Rattle.std.proofs.lemmas.Nat.{mul-le}
use Rattle.std.proofs.lemmas.Grind.{div_ceil_times}
use Rattle.move_codec.specs.declared.names.Part.{Part}
use Rattle.move_codec.specs.declared.names.Part.TheVariants.{Record, Permanent, Volatile, Saved}
use Rattle.hand_over.specs.Parts.{Parts, PieceSizes, size_for, part_of, part_after}
use Rattle.hand_over.specs.Counts.{pieces_of, pieces_left}

apart : (x y s a : ℕ) → x < y → a ≤ x * s → y * s < a + s → ⊥
apart x y s a less from to = absurd (omega (arith, mul-le (x + 1) s y s (omega (arith, less)) (omega arith), add-mul x 1 s, one-mul s, from, to))

-- only one number of pieces of one size is enough, and no more than that
same_ceil : (x y s a : ℕ) → a ≤ x * s → x * s < a + s → a ≤ y * s → y * s < a + s → x ≡ y
same_ceil x y s a enough least enough_too least_too = elim (cases_lt x y) [
  | inl less ↦ absurd (apart x y s a less enough least_too)
  | inr le ↦ elim (cases_lt y x) [
    | inl less ↦ absurd (apart y x s a less enough_too least)
    | inr ge ↦ omega (arith, le, ge)
  ]
]

ceil_zero : (s : ℕ) → 1 ≤ s → div_ceil 0 s ≡ 0
ceil_zero s some =
    let bounds = div_ceil_times 0 s (omega (arith, some)) in
    same_ceil (div_ceil 0 s) 0 s 0 (omega arith) bounds.1 (omega arith) (omega (arith, some))

-- a piece fewer is left behind one
ceil_step : (a s : ℕ) → 1 ≤ s → 0 < a → div_ceil a s ≡ suc (div_ceil (a - min s a) s)
ceil_step a s some more =
    let all = div_ceil_times a s (omega (arith, some)) in
    let rest = div_ceil_times (a - min s a) s (omega (arith, some)) in
    elim (cases_lt a s) [
      | inl short ↦
          let none : div_ceil (a - min s a) s ≡ 0 = ap (λ b. div_ceil b s) (omega (arith, short)) ∙ ceil_zero s some in
          same_ceil (div_ceil a s) 1 s a all.0 all.1 (omega (arith, one-mul s, short)) (omega (arith, one-mul s, more)) ∙ ap suc (sym none)
      | inr long ↦
          let one : (div_ceil (a - min s a) s + 1) * s ≡ div_ceil (a - min s a) s * s + s = add-mul (div_ceil (a - min s a) s) 1 s ∙ ap (λ n. div_ceil (a - min s a) s * s + n) (one-mul s) in
          same_ceil (div_ceil a s) (div_ceil (a - min s a) s + 1) s a all.0 all.1 (omega (arith, one, rest.0, long)) (omega (arith, one, rest.1, long)) ∙ omega arith
    ]

-- each piece has at least a byte
ceil_most : (a s : ℕ) → 1 ≤ s → div_ceil a s ≤ a
ceil_most a s some = elim (cases_lt a (div_ceil a s)) [
  | inl less ↦
      let bounds = div_ceil_times a s (omega (arith, some)) in
      absurd (omega (arith, mul-le (a + 1) s (div_ceil a s) s (omega (arith, less)) (omega arith), add-mul a 1 s, one-mul s, mul-le a 1 a s (omega arith) some, bounds.1))
  | inr le ↦ le
]

step_at : (t place s : ℕ) → 1 ≤ s → place < t → div_ceil (t - place) s ≡ suc (div_ceil (t - (place + min s (t - place))) s)
step_at t place s some there = ceil_step (t - place) s some (omega (arith, there)) ∙ ap (λ b. suc (div_ceil b s)) (omega arith)

end_at : (t s : ℕ) → 1 ≤ s → div_ceil (t - t) s ≡ 0
end_at t s some = ap (λ b. div_ceil b s) (omega arith) ∙ ceil_zero s some

from_start : (t s : ℕ) → div_ceil (t - 0) s ≡ div_ceil t s
from_start t s = ap (λ b. div_ceil b s) (omega arith)

-- a piece of this part fewer is left
pub left_step : (size : PieceSizes) (parts : Parts) (part : Part) (place : ℕ) → ((p : Part) → 1 ≤ size_for size p) → place < length (part_of parts part)
    → pieces_left size parts part place ≡ suc (pieces_left size parts part (place + min (size_for size part) (length (part_of parts part) - place)))
left_step size parts Record place least there = omega (arith, step_at (length parts.record_bytes) place size.of_record (least Record) there)
left_step size parts Permanent place least there = omega (arith, step_at (length parts.permanent) place size.of_blob (least Permanent) there)
left_step size parts Volatile place least there = omega (arith, step_at (length parts.volatile) place size.of_blob (least Volatile) there)
left_step size parts Saved place least there = step_at (length parts.saved) place size.of_blob (least Saved) there

-- behind a whole part the next one is left
pub left_next : (size : PieceSizes) (parts : Parts) (part q : Part) → ((p : Part) → 1 ≤ size_for size p) → part_after part ≡ Some q
    → pieces_left size parts part (length (part_of parts part)) ≡ pieces_left size parts q 0
left_next size parts Record Permanent least after = omega (arith, end_at (length parts.record_bytes) size.of_record (least Record), from_start (length parts.permanent) size.of_blob)
left_next size parts Permanent Volatile least after = omega (arith, end_at (length parts.permanent) size.of_blob (least Permanent), from_start (length parts.volatile) size.of_blob)
left_next size parts Volatile Saved least after = omega (arith, end_at (length parts.volatile) size.of_blob (least Volatile), from_start (length parts.saved) size.of_blob)
left_next size parts Record Record least after = absurd cc
left_next size parts Record Volatile least after = absurd cc
left_next size parts Record Saved least after = absurd cc
left_next size parts Permanent Record least after = absurd cc
left_next size parts Permanent Permanent least after = absurd cc
left_next size parts Permanent Saved least after = absurd cc
left_next size parts Volatile Record least after = absurd cc
left_next size parts Volatile Permanent least after = absurd cc
left_next size parts Volatile Volatile least after = absurd cc
left_next size parts Saved q least after = absurd cc

pub left_none : (size : PieceSizes) (parts : Parts) (part : Part) → ((p : Part) → 1 ≤ size_for size p) → part_after part ≡ None → pieces_left size parts part (length (part_of parts part)) ≡ 0
left_none size parts Saved least after = end_at (length parts.saved) size.of_blob (least Saved)
left_none size parts Record least after = absurd cc
left_none size parts Permanent least after = absurd cc
left_none size parts Volatile least after = absurd cc

-- at the beginning all are left
pub left_all : (size : PieceSizes) (parts : Parts) → pieces_left size parts Record 0 ≡ pieces_of size parts
left_all size parts = omega (arith, from_start (length parts.record_bytes) size.of_record)

pub pieces_most : (size : PieceSizes) (parts : Parts) → ((p : Part) → 1 ≤ size_for size p)
    → pieces_of size parts ≤ length parts.record_bytes + (length parts.permanent + (length parts.volatile + length parts.saved))
pieces_most size parts least =
    omega (
      arith,
      ceil_most (length parts.record_bytes) size.of_record (least Record),
      ceil_most (length parts.permanent) size.of_blob (least Permanent),
      ceil_most (length parts.volatile) size.of_blob (least Volatile),
      ceil_most (length parts.saved) size.of_blob (least Saved),
    )
