-- How calls of a disk go on, or fail.
use Rattle.std.proofs.Common.{◌≡◌, ◌≤◌, ◌+◌, ℕ, ap, arith}
use Rattle.std.specs.Prelude.{Result, Ok, Err, IsErr, IsErrOf, OnOk, MatchResult}
use Rattle.own_store.specs.Disk.{MakesCalls, FailsWithin}

module _ {D : Type 0} (calls_done fails_at : D → ℕ → D → Type 0)
    (calls_join : (a b c : D) (m n : ℕ) → calls_done a m b → calls_done b n c → calls_done a (m + n) c)
    (failure_joins : (a b c : D) (m n : ℕ) → calls_done a m b → fails_at b n c → fails_at a (m + n) c) where
  pub and_off : (a b c : D) (m n most : ℕ) → m + n ≤ most → calls_done a m b → FailsWithin fails_at n b c → FailsWithin fails_at most a c
  and_off a b c m n most le one two = (m + two.0, omega (arith, le, two.1), failure_joins a b c m two.0 one two.2)

  pub and_then : {T E : Type 0} (a b c : D) (m n : ℕ) (r : Result T E) → calls_done a m b → MakesCalls calls_done fails_at n b c r → MakesCalls calls_done fails_at (m + n) a c r
  and_then a b c m n (Ok x) one two = calls_join a b c m n one two
  and_then a b c m n (Err e) one two = and_off a b c m n (m + n) (omega arith) one two

  -- one call more
  pub and_call : {T E : Type 0} (a b c : D) (m : ℕ) (r : Result T E) → calls_done a m b → MatchResult r (λ _. calls_done b 1 c) (λ _. fails_at b 1 c) → MakesCalls calls_done fails_at (m + 1) a c r
  and_call a b c m (Ok x) one two = calls_join a b c m 1 one two
  and_call a b c m (Err e) one two = and_off a b c m 1 (m + 1) (omega arith) one (1, omega arith, two)

-- a result that is an error
pub as_err : {D T E : Type 0} (calls_done fails_at : D → ℕ → D → Type 0) (count : ℕ) (a b : D) (r : Result T E) → IsErr r → FailsWithin fails_at count a b → MakesCalls calls_done fails_at count a b r
as_err calls_done fails_at count a b (Ok x) err run = absurd (cc err)
as_err calls_done fails_at count a b (Err e) err run = run

-- the same error of another result
pub same_err : {T U E : Type 0} (e d : E) → IsErrOf {T = T} (Err e) d → IsErrOf {T = U} (Err e) d
same_err e d is = let plain : e ≡ d = cc is in ap (λ x. Err x) plain

pub on_ok_always : {T E P : Type 0} (r : Result T E) → P → OnOk r P
on_ok_always (Ok x) p = p
on_ok_always (Err e) p = tt
