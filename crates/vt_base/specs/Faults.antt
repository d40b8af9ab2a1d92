-- What a count of faults says of a call that failed. (Own definitions.)
use Rattle.std.specs.Prelude.{◌≡◌, ℕ, ◌+◌, ◌-◌, ◌^◌, ◌≤◌, min, OnErr, MatchResult, Result}

-- one more, up to the counter's last value
abbrev pub counted : ℕ → ℕ
counted n = min (n + 1) (2 ^ 64 - 1)

-- the count rose, or stands at its last value
abbrev pub Rose : ℕ → ℕ → Type 0
Rose before now = counted before ≤ now

-- one more was counted, and the count did not fall
abbrev pub IsCounted : ℕ → ℕ → Type 0
IsCounted before now = (before ≤ now) × (now ≡ counted before)

-- a call that failed was counted once, and any other left the count
abbrev pub Counts : {T E : Type 0} → ℕ → ℕ → Result T E → Type 0
Counts before now result = MatchResult result (λ _. now ≡ before) (λ _. IsCounted before now)

-- the count never falls, and a call that failed raised it
pub record HasCause {T E : Type 0} (before now : ℕ) (result : Result T E) : Type 0 where
  pub later : before ≤ now
  pub failed : OnErr result (Rose before now)
