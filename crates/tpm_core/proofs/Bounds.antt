-- What the types of the values make sure of, for every bank.
use Rattle.std.proofs.Common.{◌≡◌, ℕ, ◌^◌, ◌<◌, List, length, subst}
use Rattle.std.specs.Prelude.{IfSome}
use Rattle.tpm_core.specs.declared.algorithm.Algorithm.{Algorithm}
use Rattle.tpm_core.specs.declared.algorithm.Algorithm.TheVariants.{Sha256, Sha384}
use Rattle.tpm_core.specs.declared.parts.SavedParts.{SavedParts}
use Rattle.tpm_core.specs.declared.parts.TpmParts.{TpmParts}
use Rattle.tpm_core.specs.Banks.{bank_of, kept_bank_of}
use Rattle.tpm_core.specs.Steps.{IsConsistent, IsKept, IsValid, HaveWidth}

-- what holds of each bank
each : (P : Algorithm → Type 0) → P Sha256 → P Sha384 → (a : Algorithm) → P a
each P p q Sha256 = p
each P p q Sha384 = q

-- as many values as there are have the width that all have
counted : (a : Algorithm) (n : ℕ) (values : List (List ℕ)) → length values ≡ n → HaveWidth a (length values) values → HaveWidth a n values
counted a n values size width = subst (λ (k : ℕ). HaveWidth a k values) size width

pub state_is_kept : (s : SavedParts) → s.counter < 2 ^ 32 → length s.pcr ≡ 16 → HaveWidth Sha256 (length s.pcr) s.pcr → length s.pcr384 ≡ 16 → HaveWidth Sha384 (length s.pcr384) s.pcr384 → IsKept s
state_is_kept s counter n w m x = record {
  counter = counter;
  registers = each (λ a. length (kept_bank_of a s) ≡ 16) n m;
  width = each (λ a. HaveWidth a 16 (kept_bank_of a s)) (counted Sha256 16 s.pcr n w) (counted Sha384 16 s.pcr384 m x);
}

pub parts_are_valid : (v : TpmParts) → IsConsistent v → length v.seed ≡ 32 → v.boots < 2 ^ 64 → v.draws < 2 ^ 64 → v.counter < 2 ^ 32
    → length v.pcr ≡ 24 → HaveWidth Sha256 (length v.pcr) v.pcr → length v.pcr384 ≡ 24 → HaveWidth Sha384 (length v.pcr384) v.pcr384 → IfSome v.saved IsKept → IsValid v
parts_are_valid v agrees seed boots draws counter n w m x kept = record {
  seed = seed;
  boots = boots;
  draws = draws;
  counter = counter;
  registers = each (λ a. length (bank_of a v) ≡ 24) n m;
  width = each (λ a. HaveWidth a 24 (bank_of a v)) (counted Sha256 24 v.pcr n w) (counted Sha384 24 v.pcr384 m x);
  missing = agrees.missing;
  kept_missing = agrees.kept_missing;
  stopped = agrees.stopped;
  kept_fits = kept;
  kept_agrees = agrees.kept_agrees;
}
