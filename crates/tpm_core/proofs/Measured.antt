-- The digests of one algorithm among measurements.
use Rattle.std.proofs.Common.{◌≡◌, ℕ, ◌+◌, ◌<◌, List, [], ◌∷◌, ◌++◌, length, get_or, take, map, filter, ap, ◌∙◌}
use Rattle.std.proofs.lemmas.List.{take_more, map-append}
use Rattle.std.proofs.lemmas.List.Elements.{filter-append}
use Rattle.std.proofs.lemmas.List.Sums.{fold-append}
use Rattle.tpm_core.specs.declared.algorithm.Algorithm.{Algorithm}
use Rattle.tpm_core.specs.declared.algorithm.Measurement.{Measurement}
use Rattle.tpm_core.specs.Algorithms.{digest_of, digest_in, is_by, digests_by}
use Rattle.tpm_core.specs.Banks.{hashed}

pub digests_by-append : (a : Algorithm) (xs ys : List Measurement) → digests_by a (xs ++ ys) ≡ digests_by a xs ++ digests_by a ys
unfolding digests_by
digests_by-append a xs ys = ap (map digest_in) (filter-append (is_by a) xs ys) ∙ map-append digest_in (filter (is_by a) xs) (filter (is_by a) ys)

pub hashed-append : (a : Algorithm) (old : List ℕ) (xs ys : List (List ℕ)) → hashed a old (xs ++ ys) ≡ hashed a (hashed a old xs) ys
hashed-append a old xs ys = fold-append (λ value digest. digest_of a (value ++ digest)) old xs ys

-- one measurement more
pub hashed_more : (a : Algorithm) (old value value' : List ℕ) (measurements : List Measurement) (i : ℕ) (d : Measurement) → i < length measurements → value ≡ hashed a old (digests_by a (take i measurements))
    → value' ≡ hashed a value (digests_by a (get_or measurements i d ∷ [])) → value' ≡ hashed a old (digests_by a (take (i + 1) measurements))
hashed_more a old value value' measurements i d lt before now =
    rw (take_more measurements i d lt, digests_by-append a (take i measurements) (get_or measurements i d ∷ []), hashed-append a old (digests_by a (take i measurements)) (digests_by a (get_or measurements i d ∷ [])), ← before) now
