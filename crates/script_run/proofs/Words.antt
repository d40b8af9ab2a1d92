-- Words one after the other, each option at most once.
use Rattle.std.proofs.Common.{◌≡◌, ◌≢◌, ◌<◌, ℕ, suc, Bool, true, false, List, [], ◌∷◌, ◌++◌, length, get_or, refl, ap, sym, ◌∙◌, subst, arith, Some, None, inl, inr}
use Rattle.std.specs.Prelude.{◌⊎◌, ◌==◌, map, String}
use Rattle.std.specs.String.{string_bytes}
use Rattle.std.specs.declared.alloc.Global.{Global}
use Rattle.std.proofs.lemmas.Bool.Decides.{nat_tests}
use Rattle.script_run.specs.declared.options.Options.{Options}
use Rattle.script_run.specs.Words.{AddInOrder, Adds, Splits}

-- ---- a word with `=`

-- a name has no `=`
abbrev pub IsPlain : List ℕ → Type 0
IsPlain name = (i : ℕ) → i < length name → get_or name i 0 ≢ 61

-- a word has one first `=`
one-cut : (a b v w : List ℕ) → IsPlain a → IsPlain b → a ++ 61 ∷ v ≡ b ++ 61 ∷ w → (a ≡ b) × (v ≡ w)
one-cut [] [] v w first next is = (refl, cc)
one-cut [] (y ∷ b) v w first next is = absurd (next 0 (omega arith) cc)
one-cut (x ∷ a) [] v w first next is = absurd (first 0 (omega arith) cc)
one-cut (x ∷ a) (y ∷ b) v w first next is =
    let rest = one-cut a b v w (λ i small. first (suc i) (omega (arith, small))) (λ i small. next (suc i) (omega (arith, small))) cc in
    (cc, rest.1)

-- a name isn't a word with `=`
not-cut : (a b v : List ℕ) → IsPlain a → a ≡ b ++ 61 ∷ v → ⊥
not-cut [] [] v plain is = cc
not-cut [] (y ∷ b) v plain is = cc
not-cut (x ∷ a) [] v plain is = plain 0 (omega arith) cc
not-cut (x ∷ a) (y ∷ b) v plain is = not-cut a b v (λ i small. plain (suc i) (omega (arith, small))) cc

-- ---- no words

pub none-left : (words : List (String Global)) (test : Bool) → test ≡ (length words == 0) → test ≡ true → map string_bytes words ≡ []
none-left [] test is none = refl
none-left (x ∷ words) test is none = absurd (grind (arith, nat_tests, is, none))

pub no-words : (words : List (String Global)) → length words ≡ 0 → map string_bytes words ≡ []
no-words [] none = refl
no-words (x ∷ words) none = absurd (omega arith)

pub some-left : (words : List (String Global)) (test : Bool) → test ≡ (length words == 0) → test ≡ false → map string_bytes words ≡ [] → ⊥
some-left [] test is some none = cc
some-left (x ∷ words) test is some none = cc

pub cut-words : (words rest : List (String Global)) (first : String Global) (name : List ℕ) → words ≡ first ∷ rest → name ≡ string_bytes first → map string_bytes words ≡ name ∷ map string_bytes rest
cut-words words rest first name is named = ap (map string_bytes) is ∙ ap (λ n. n ∷ map string_bytes rest) (sym named)

-- ---- the first option

record Same (a b v w : List ℕ) (x y : List (List ℕ)) : Type 0 where
  pub name : a ≡ b
  pub value : v ≡ w
  pub behind : x ≡ y

-- words begin with one option at most
one-split : (a b v w : List ℕ) (x y words : List (List ℕ)) → Splits a v x words → Splits b w y words → Same a b v w x y
one-split a b v w x y words first next = by first.spelled next.spelled
  where
    by : (words ≡ a ∷ v ∷ x) ⊎ (words ≡ (a ++ 61 ∷ v) ∷ x) → (words ≡ b ∷ w ∷ y) ⊎ (words ≡ (b ++ 61 ∷ w) ∷ y) → Same a b v w x y
    by (inl is) (inl too) = record { name = cc; value = cc; behind = cc }
    by (inl is) (inr too) = absurd (not-cut a b w first.plain cc)
    by (inr is) (inl too) = absurd (not-cut b a v next.plain cc)
    by (inr is) (inr too) =
        let same = one-cut a b v w first.plain next.plain cc in
        record { name = same.0; value = same.1; behind = cc }

-- ---- options so far, and the words behind them

-- with these options so far, all options are given once those of the words are added
abbrev pub Continues : Options → Options → List (List ℕ) → Type 0
Continues given all words = (options : List (List ℕ × List ℕ)) × AddInOrder options given all words

-- the words end here, or the next option is added
pub record NextOption (given all : Options) (words : List (List ℕ)) : Type 0 where
  pub name : List ℕ
  pub value : List ℕ
  pub behind : List (List ℕ)
  pub new : Options
  pub splits : Splits name value behind words
  pub adds : Adds given name value new
  pub rest : Continues new all behind

-- no option is left
pub ends-with : (given all : Options) (words : List (List ℕ)) → words ≡ [] → Continues given all words → all ≡ given
ends-with given all words none ([], (ends, is)) = is
ends-with given all words none (option ∷ options, (behind, new, splits, adds, rest)) = absurd (nowhere splits.spelled)
  where
    nowhere : (words ≡ option.0 ∷ option.1 ∷ behind) ⊎ (words ≡ (option.0 ++ 61 ∷ option.1) ∷ behind) → ⊥
    nowhere (inl is) = cc
    nowhere (inr is) = cc

-- and what is given is all that is given
pub ends-here : (given : Options) → Continues given given []
ends-here given = ([], (refl, refl))

-- words that don't end here begin with an option
pub some-first : (given all : Options) (words : List (List ℕ)) → (words ≡ [] → ⊥) → Continues given all words → NextOption given all words
some-first given all words some ([], (ends, is)) = absurd (some ends)
some-first given all words some (option ∷ options, (behind, new, splits, adds, rest)) = record {
  name = option.0;
  value = option.1;
  behind = behind;
  new = new;
  splits = splits;
  adds = adds;
  rest = (options, rest);
}

-- the option with which they begin is added
pub goes-on : (given all : Options) (name value : List ℕ) (behind words : List (List ℕ)) → Splits name value behind words → Continues given all words → (new : Options) × Adds given name value new × Continues new all behind
goes-on given all name value behind words splits continues =
    let next = some-first given all words (λ none. nowhere none splits.spelled) continues in
    let same = one-split name next.name value next.value behind next.behind words splits next.splits in
    let adds = subst (λ n. Adds given n next.value next.new) (sym same.name) next.adds in
    (next.new, subst (λ v. Adds given name v next.new) (sym same.value) adds, subst (Continues next.new all) (sym same.behind) next.rest)
  where
    nowhere : words ≡ [] → (words ≡ name ∷ value ∷ behind) ⊎ (words ≡ (name ++ 61 ∷ value) ∷ behind) → ⊥
    nowhere none (inl is) = cc
    nowhere none (inr is) = cc

-- what the words are, by the option that was added and the words behind it
pub goes-back : (given all : Options) (name value : List ℕ) (behind words : List (List ℕ)) (new : Options) → Splits name value behind words → Adds given name value new → Continues new all behind → Continues given all words
goes-back given all name value behind words new splits adds (options, rest) = ((name, value) ∷ options, (behind, new, splits, adds, rest))

-- ---- the first option of words

-- a word with `=` is an option
pub split-one : (words : List (List ℕ)) (first name value : List ℕ) (rest : List (List ℕ)) → words ≡ first ∷ rest → first ≡ name ++ 61 ∷ value → IsPlain name → Splits name value rest words
split-one words first name value rest is cut plain = record { plain = plain; spelled = inr (is ∙ ap (λ w. w ∷ rest) cut) }

-- a word without it is the name of one
pub split-two : (words : List (List ℕ)) (name value : List ℕ) (rest behind : List (List ℕ)) → words ≡ name ∷ rest → rest ≡ value ∷ behind → IsPlain name → Splits name value behind words
split-two words name value rest behind is next plain = record { plain = plain; spelled = inl (is ∙ ap (λ ws. name ∷ ws) next) }

-- a last word without it is none
pub no-split : (words : List (List ℕ)) (first : List ℕ) (rest : List (List ℕ)) → words ≡ first ∷ rest → rest ≡ [] → IsPlain first → (name value : List ℕ) (behind : List (List ℕ)) → Splits name value behind words → ⊥
no-split words first rest is none plain name value behind splits = by splits.spelled
  where
    by : (words ≡ name ∷ value ∷ behind) ⊎ (words ≡ (name ++ 61 ∷ value) ∷ behind) → ⊥
    by (inl two) = cc
    by (inr one) = not-cut first name value plain cc

-- ---- what is found

pub none-some : {A : Type 0} (x : A) → None ≡ Some x → ⊥
none-some x is = cc

pub one-some : {A : Type 0} (x y : A) → Some x ≡ Some y → x ≡ y
one-some x y is = cc
