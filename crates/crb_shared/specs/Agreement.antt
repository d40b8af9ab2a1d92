-- How the four lists of a port are related. (Own definitions.)
use Rattle.std.specs.Prelude.{◌≡◌, ◌⊎◌, ℕ, List, [], ◌∷◌, ◌++◌, map, Bool}
use Rattle.crb_port.specs.declared.job.Job.{Job}
use Rattle.crb_port.specs.declared.job.Answer.{Answer}

-- ys has the elements of xs in their order, and maybe others: each place of ys is used at most once
pub data IsSubsequence {A : Type 0} : List A → List A → Type 0 where
  sub_end : IsSubsequence [] []
  sub_skip : (xs ys : List A) (y : A) → IsSubsequence xs ys → IsSubsequence xs (y ∷ ys)
  sub_take : (xs ys : List A) (x : A) → IsSubsequence xs ys → IsSubsequence (x ∷ xs) (x ∷ ys)

-- xs is ys, or ys without its last element
abbrev pub LacksAtMostLast : {A : Type 0} → List A → List A → Type 0
LacksAtMostLast {A} xs ys = (xs ≡ ys) ⊎ ((x : A) × (ys ≡ xs ++ x ∷ []))

abbrev pub job_number : Job → ℕ
job_number j = j.number

abbrev pub answer_number : Answer → ℕ
answer_number a = a.number

-- each answer has the number of its job
abbrev pub SameNumbers : List Answer → List Job → Type 0
SameNumbers answers jobs = map answer_number answers ≡ map job_number jobs

-- the number of the last job, or 0
abbrev pub last_number : List Job → ℕ
last_number [] = 0
last_number (x ∷ []) = x.number
last_number (x ∷ y ∷ ys) = last_number (y ∷ ys)

-- the job, cancelled or not
abbrev pub with_cancelled : Bool → Job → Job
with_cancelled b j = record j { cancelled = b }

-- The jobs that were taken are among those that were queued, with their bytes and whether they are cancelled. By number each
-- of them is answered, or all but the last. The answers that were collected are those that were posted, or all but the last.
abbrev pub ListsAgree : List Job → List Job → List Answer → List Answer → Type 0
ListsAgree queued taken posted collected = IsSubsequence taken queued × LacksAtMostLast (map answer_number posted) (map job_number taken) × LacksAtMostLast collected posted
