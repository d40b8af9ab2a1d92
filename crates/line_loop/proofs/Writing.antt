-- Texts that are written one after the other.
use Rattle.std.proofs.Common.{◌≡◌, ℕ, ◌+◌, ◌≤◌, List, [], ◌++◌, length, refl, ap, sym, ◌∙◌, append_assoc, arith}
use Rattle.std.proofs.lemmas.List.{length-append}
use Rattle.vt_base.proofs.CallsInARow.{Appends-more, Appends-nothing}
use Rattle.line_loop.specs.Output.{SinkView, Wrote, Breaks}

pub wrote-nothing : (a : SinkView) → Wrote a a []
wrote-nothing a = record { appends = Appends-nothing a.written; room = λ fits. omega arith; faults = refl }

-- the first text of two fits where both do, and then the second one
fits-first : (xs ys : List ℕ) (room : ℕ) → length (xs ++ ys) ≤ room → length xs ≤ room
fits-first xs ys room fits = omega (arith, fits, length-append xs ys)

fits-next : (xs ys : List ℕ) (room left : ℕ) → length (xs ++ ys) ≤ room → left + length xs ≡ room → length ys ≤ left
fits-next xs ys room left fits is = omega (arith, fits, is, length-append xs ys)

fits-both : (xs ys : List ℕ) (room left last : ℕ) → left + length xs ≡ room → last + length ys ≡ left → last + length (xs ++ ys) ≡ room
fits-both xs ys room left last first next = omega (arith, first, next, length-append xs ys)

pub wrote-more : (a b c : SinkView) (xs ys : List ℕ) → Wrote a b xs → Wrote b c ys → Wrote a c (xs ++ ys)
wrote-more a b c xs ys first next = record {
  appends = Appends-more a.written b.written c.written xs ys first.appends next.appends;
  room = λ fits.
      let left = first.room (fits-first xs ys a.room fits) in
      fits-both xs ys a.room b.room c.room left (next.room (fits-next xs ys a.room b.room fits left));
  faults = next.faults ∙ first.faults;
}

-- a prefix of some bytes is a prefix of more
pub breaks-longer : (a b : SinkView) (xs ys : List ℕ) → Breaks a b xs → Breaks a b (xs ++ ys)
breaks-longer a b xs ys broken =
    let prefix = broken.prefix in
    record {
      prefix = (prefix.0, prefix.1 ++ ys, sym (append_assoc prefix.0 prefix.1 ys) ∙ ap (λ z. z ++ ys) prefix.2, prefix.3);
      room = λ fits. broken.room (fits-first xs ys a.room fits);
      faults = broken.faults;
    }

-- bytes, and then a prefix of others
pub breaks-behind : (a b c : SinkView) (xs ys : List ℕ) → Wrote a b xs → Breaks b c ys → Breaks a c (xs ++ ys)
breaks-behind a b c xs ys first broken =
    let next = broken.prefix in
    record {
      prefix = (xs ++ next.0, next.1, append_assoc xs next.0 next.1 ∙ ap (λ z. xs ++ z) next.2, Appends-more a.written b.written c.written xs next.0 first.appends next.3);
      room = λ fits.
          let left = first.room (fits-first xs ys a.room fits) in
          broken.room (fits-next xs ys a.room b.room fits left);
      faults = rw (← first.faults) broken.faults;
    }
