-- Lists that grow at their end.
use Rattle.std.proofs.Common.{◌≡◌, ℕ, List, [], ◌∷◌, ◌++◌, map, subst, refl, sym, ap, ◌∙◌, length, zero, suc, ◌⊎◌, inl, inr, ⊎_elim, arith}
use Rattle.std.proofs.lemmas.List.{map-append}
use Rattle.std.proofs.lemmas.Simd.{map-map}
use mathlib.Core.Option.{some, some-ne-none, some-injective}
use lib.ListN.{get_elem?}
use Rattle.crb_port.specs.Calls.{cancelled_job, cancel_last, last_of}
use Rattle.crb_port.specs.declared.job.Job.{Job}
use Rattle.crb_port.specs.declared.job.Answer.{Answer}
use Rattle.crb_shared.specs.Agreement.{IsSubsequence, sub_end, sub_skip, sub_take, SameNumbers, LacksAtMostLast, job_number, answer_number, last_number}
use Rattle.crb_shared.specs.Entries.{Entry, entry_number, of_job, of_answer}

pub last_of-snoc : {A : Type 0} (xs : List A) (x : A) → last_of (xs ++ x ∷ []) ≡ x ∷ []
last_of-snoc [] x = refl
last_of-snoc (y ∷ []) x = refl
last_of-snoc (y ∷ z ∷ zs) x = last_of-snoc (z ∷ zs) x

pub last_number-snoc : (xs : List Job) (x : Job) → last_number (xs ++ x ∷ []) ≡ x.number
last_number-snoc [] x = refl
last_number-snoc (y ∷ []) x = refl
last_number-snoc (y ∷ z ∷ zs) x = last_number-snoc (z ∷ zs) x

pub cancel_last-snoc : (xs : List Job) (x : Job) → cancel_last (xs ++ x ∷ []) ≡ xs ++ cancelled_job x ∷ []
cancel_last-snoc [] x = refl
cancel_last-snoc (y ∷ []) x = refl
cancel_last-snoc (y ∷ z ∷ zs) x = ap (λ l. y ∷ l) (cancel_last-snoc (z ∷ zs) x)

pub sub_later : {A : Type 0} (xs ys : List A) (y : A) → IsSubsequence xs ys → IsSubsequence xs (ys ++ y ∷ [])
sub_later _ _ y sub_end = sub_skip [] [] y sub_end
sub_later _ _ y (sub_skip xs ys z p) = sub_skip xs (ys ++ y ∷ []) z (sub_later xs ys y p)
sub_later _ _ y (sub_take xs ys x p) = sub_take xs (ys ++ y ∷ []) x (sub_later xs ys y p)

pub sub_both : {A : Type 0} (xs ys : List A) (x : A) → IsSubsequence xs ys → IsSubsequence (xs ++ x ∷ []) (ys ++ x ∷ [])
sub_both _ _ x sub_end = sub_take [] [] x sub_end
sub_both _ _ x (sub_skip xs ys z p) = sub_skip (xs ++ x ∷ []) (ys ++ x ∷ []) z (sub_both xs ys x p)
sub_both _ _ x (sub_take xs ys y p) = sub_take (xs ++ x ∷ []) (ys ++ x ∷ []) y (sub_both xs ys x p)

pub same_numbers_both : (answers : List Answer) (jobs : List Job) (a : Answer) (j : Job) → a.number ≡ j.number → SameNumbers answers jobs → SameNumbers (answers ++ a ∷ []) (jobs ++ j ∷ [])
same_numbers_both answers jobs a j e k = map-append answer_number answers (a ∷ []) ∙ (ap (λ l. l ++ a.number ∷ []) k ∙ (ap (λ n. map job_number jobs ++ n ∷ []) e ∙ sym (map-append job_number jobs (j ∷ []))))

-- the place of a list's end
pub at_end : {A : Type 0} (l : List A) (a b : A) (j : ℕ) → get_elem? (l ++ a ∷ []) j ≡ some b → (get_elem? l j ≡ some b) ⊎ ((a ≡ b) × (j ≡ length l))
at_end [] a b zero e = inr (some-injective a b e, refl)
at_end [] a b (suc j) e = absurd (some-ne-none b (sym e))
at_end (x ∷ xs) a b zero e = inl e
at_end (x ∷ xs) a b (suc j) e = ⊎_elim (λ t. inl t) (λ t. let t' = t.1 in inr (t.0, omega arith)) (at_end xs a b j e)

-- what is said of two lists is so of their images
pub sub_map : {A B : Type 0} (f : A → B) (xs ys : List A) → IsSubsequence xs ys → IsSubsequence (map f xs) (map f ys)
sub_map f _ _ sub_end = sub_end
sub_map f _ _ (sub_skip xs ys y p) = sub_skip (map f xs) (map f ys) (f y) (sub_map f xs ys p)
sub_map f _ _ (sub_take xs ys x p) = sub_take (map f xs) (map f ys) (f x) (sub_map f xs ys p)

pub jobs_entries : (a b : List Entry) (xs ys : List Job) → a ≡ map of_job xs → b ≡ map of_job ys → IsSubsequence xs ys → IsSubsequence a b
jobs_entries a b xs ys e f k = subst (λ (x : List Entry × List Entry). IsSubsequence x.0 x.1) (λ i. (sym e i, sym f i)) (sub_map of_job xs ys k)

pub numbers_entries : (a b : List Entry) (answers : List Answer) (jobs : List Job) → a ≡ map of_answer answers → b ≡ map of_job jobs
    → LacksAtMostLast (map answer_number answers) (map job_number jobs) → LacksAtMostLast (map entry_number a) (map entry_number b)
numbers_entries a b answers jobs e f k = subst (λ (x : List ℕ × List ℕ). LacksAtMostLast x.0 x.1)
    (λ i. (sym (ap (map entry_number) e ∙ map-map entry_number of_answer answers) i, sym (ap (map entry_number) f ∙ map-map entry_number of_job jobs) i)) k
