-- Words that are those of one task.
use Rattle.std.proofs.Common.{◌≡◌, ◌≤◌, ◌<◌, ◌^◌, ℕ, List, [], ◌∷◌, length, get_or, refl, ap, sym, ◌∙◌, subst, arith, Some, None, Global, inl, inr}
use Rattle.std.specs.Prelude.{Option, String, map, option_map, unwrap_or, IfSome, if◌then◌else◌}
use Rattle.std.specs.String.{string_bytes}
use Rattle.std.specs.Fmt.{decimal}
use Rattle.std.specs.Str.{bytes_eq}
use lib.Chars.{codes}
use Rattle.script_run.specs.Start.{default_start}
use Rattle.script_run.specs.Words.{AddInOrder, Adds, AreOptions, BulkWords, HasPiece, IsPiece, ResumeWords, StartWords, TaskWords, no_options}
use Rattle.script_run.specs.declared.action.Action.{Action}
use Rattle.script_run.specs.declared.action.Action.TheVariants.{Replay, Drive, Suspend, Resume, Check}
use Rattle.script_run.specs.declared.action.Task.{Task}
use Rattle.script_run.specs.declared.action.Task.TheVariants.{Read, Bulk}
use Rattle.script_run.specs.declared.options.Options.{Options}
use Rattle.script_run.specs.declared.start.Start.{Start}
use Rattle.script_run.proofs.Numerals.{one-number}
use Rattle.script_run.proofs.Words.{one-some}

-- what a first word is
data FirstWord : Type 0 where
  IsReplay : FirstWord
  IsDrive : FirstWord
  IsSuspend : FirstWord
  IsResume : FirstWord
  IsCheck : FirstWord
  IsBulk : FirstWord
  IsOther : FirstWord

abbrev first_word : List ℕ → FirstWord
first_word name =
    if bytes_eq name (codes "replay") then IsReplay
    else (if bytes_eq name (codes "drive") then IsDrive
    else (if bytes_eq name (codes "suspend") then IsSuspend
    else (if bytes_eq name (codes "resume") then IsResume
    else (if bytes_eq name (codes "check") then IsCheck
    else (if bytes_eq name (codes "bulk") then IsBulk
    else IsOther)))))

-- what the words behind it ask for
abbrev AsksFor : FirstWord → List (List ℕ) → Task → Type 0
AsksFor IsReplay rest task = (start : Start) × (task ≡ Read (Replay start)) × StartWords start rest
AsksFor IsDrive rest task = (start : Start) × (task ≡ Read (Drive start)) × StartWords start rest
AsksFor IsSuspend rest task = (start : Start) × (task ≡ Read (Suspend start)) × StartWords start rest
AsksFor IsResume rest task = (piece : ℕ) × (task ≡ Read (Resume piece)) × ResumeWords piece rest
AsksFor IsCheck rest task = (task ≡ Read Check) × (rest ≡ [])
AsksFor IsBulk rest task = (seed : ℕ) × (count : ℕ) × (task ≡ Bulk seed count) × BulkWords seed count rest
AsksFor IsOther rest task = ⊥

first-is : (words : List (List ℕ)) (a b : List ℕ) (x y : List (List ℕ)) → words ≡ a ∷ x → words ≡ b ∷ y → a ≡ b
first-is words a b x y is too = cc

rest-is : (words : List (List ℕ)) (a b : List ℕ) (x y : List (List ℕ)) → words ≡ a ∷ x → words ≡ b ∷ y → x ≡ y
rest-is words a b x y is too = cc

asks : (task : Task) (words : List (List ℕ)) (name : List ℕ) (rest : List (List ℕ)) → words ≡ name ∷ rest → TaskWords task words → AsksFor (first_word name) rest task
asks (Read (Replay start)) words name rest is begins =
    rw (first-is words name (codes "replay") rest begins.rest is begins.spelled) (start, refl, subst (StartWords start) (rest-is words _ _ begins.rest rest begins.spelled is) begins.holds)
asks (Read (Drive start)) words name rest is begins =
    rw (first-is words name (codes "drive") rest begins.rest is begins.spelled) (start, refl, subst (StartWords start) (rest-is words _ _ begins.rest rest begins.spelled is) begins.holds)
asks (Read (Suspend start)) words name rest is begins =
    rw (first-is words name (codes "suspend") rest begins.rest is begins.spelled) (start, refl, subst (StartWords start) (rest-is words _ _ begins.rest rest begins.spelled is) begins.holds)
asks (Read (Resume piece)) words name rest is begins =
    rw (first-is words name (codes "resume") rest begins.rest is begins.spelled) (piece, refl, subst (ResumeWords piece) (rest-is words _ _ begins.rest rest begins.spelled is) begins.holds)
asks (Read Check) words name rest is begins =
    rw (first-is words name (codes "check") rest begins.rest is begins.spelled) (refl, rest-is words _ _ rest begins.rest is begins.spelled ∙ begins.holds)
asks (Bulk seed count) words name rest is begins =
    rw (first-is words name (codes "bulk") rest begins.rest is begins.spelled) (seed, count, refl, subst (BulkWords seed count) (rest-is words _ _ begins.rest rest begins.spelled is) begins.holds)

-- the words are those of no other task than the one that is found
module _ (task : Task) (words : List (List ℕ)) (name : List ℕ) (rest : List (List ℕ)) (is : words ≡ name ∷ rest) (asked : TaskWords task words) where
  named : (expected : List ℕ) → name ≡ expected → AsksFor (first_word expected) rest task
  named expected same = subst (λ n. AsksFor (first_word n) rest task) same (asks task words name rest is asked)

  by : {A : Type 0} (make : A → Task) (found : Option A) (result : Option Task) (a : A) → result ≡ option_map make found → task ≡ make a → found ≡ Some a → result ≡ Some task
  by make found result a made same found_is = made ∙ ap (option_map make) found_is ∙ ap Some (sym same)

  pub only-replay : (found : Option Start) (result : Option Task) → name ≡ codes "replay" → ((start : Start) → StartWords start rest → found ≡ Some start) → result ≡ option_map (λ s. Read (Replay s)) found → result ≡ Some task
  only-replay found result same only made = let (start, task_is, has) = named (codes "replay") same in by (λ s. Read (Replay s)) found result start made task_is (only start has)

  pub only-drive : (found : Option Start) (result : Option Task) → name ≡ codes "drive" → ((start : Start) → StartWords start rest → found ≡ Some start) → result ≡ option_map (λ s. Read (Drive s)) found → result ≡ Some task
  only-drive found result same only made = let (start, task_is, has) = named (codes "drive") same in by (λ s. Read (Drive s)) found result start made task_is (only start has)

  pub only-suspend : (found : Option Start) (result : Option Task) → name ≡ codes "suspend" → ((start : Start) → StartWords start rest → found ≡ Some start) → result ≡ option_map (λ s. Read (Suspend s)) found → result ≡ Some task
  only-suspend found result same only made = let (start, task_is, has) = named (codes "suspend") same in by (λ s. Read (Suspend s)) found result start made task_is (only start has)

  pub only-resume : (found : Option ℕ) (result : Option Task) → name ≡ codes "resume" → ((piece : ℕ) → ResumeWords piece rest → found ≡ Some piece) → result ≡ option_map (λ p. Read (Resume p)) found → result ≡ Some task
  only-resume found result same only made = let (piece, task_is, has) = named (codes "resume") same in by (λ p. Read (Resume p)) found result piece made task_is (only piece has)

  pub only-check : name ≡ codes "check" → (task ≡ Read Check) × (rest ≡ [])
  only-check same = named (codes "check") same

  pub only-bulk : (found : Option Task) → name ≡ codes "bulk" → ((seed count : ℕ) → BulkWords seed count rest → found ≡ Some (Bulk seed count)) → found ≡ Some task
  only-bulk found same only = let (seed, count, task_is, has) = named (codes "bulk") same in only seed count has ∙ ap Some (sym task_is)

-- a first word that names no command
pub unnamed : (task : Task) (words : List (List ℕ)) (name : List ℕ) (rest : List (List ℕ)) → words ≡ name ∷ rest → TaskWords task words
    → (name ≡ codes "replay" → ⊥) → (name ≡ codes "drive" → ⊥) → (name ≡ codes "suspend" → ⊥) → (name ≡ codes "resume" → ⊥) → (name ≡ codes "check" → ⊥) → (name ≡ codes "bulk" → ⊥) → ⊥
unnamed (Read (Replay start)) words name rest is begins replay drive suspend resume check bulk = replay (first-is words name _ rest begins.rest is begins.spelled)
unnamed (Read (Drive start)) words name rest is begins replay drive suspend resume check bulk = drive (first-is words name _ rest begins.rest is begins.spelled)
unnamed (Read (Suspend start)) words name rest is begins replay drive suspend resume check bulk = suspend (first-is words name _ rest begins.rest is begins.spelled)
unnamed (Read (Resume piece)) words name rest is begins replay drive suspend resume check bulk = resume (first-is words name _ rest begins.rest is begins.spelled)
unnamed (Read Check) words name rest is begins replay drive suspend resume check bulk = check (first-is words name _ rest begins.rest is begins.spelled)
unnamed (Bulk seed count) words name rest is begins replay drive suspend resume check bulk = bulk (first-is words name _ rest begins.rest is begins.spelled)

-- no words
nothing : (words : List (List ℕ)) (name : List ℕ) (rest : List (List ℕ)) → words ≡ [] → words ≡ name ∷ rest → ⊥
nothing words name rest none is = cc

pub none-asked : (task : Task) (words : List (List ℕ)) → words ≡ [] → TaskWords task words → ⊥
none-asked (Read (Replay start)) words none begins = absurd (nothing words _ _ none begins.spelled)
none-asked (Read (Drive start)) words none begins = absurd (nothing words _ _ none begins.spelled)
none-asked (Read (Suspend start)) words none begins = absurd (nothing words _ _ none begins.spelled)
none-asked (Read (Resume piece)) words none begins = absurd (nothing words _ _ none begins.spelled)
none-asked (Read Check) words none begins = absurd (nothing words _ _ none begins.spelled)
none-asked (Bulk seed count) words none begins = absurd (nothing words _ _ none begins.spelled)

-- ---- the words behind the first

pub some-rest : (words : List (String Global)) → 1 ≤ length words → map string_bytes words ≡ [] → ⊥
some-rest [] some none = absurd (omega arith)
some-rest (x ∷ words) some none = cc

pub bulk-named : (found : Option Task) (words : List (List ℕ)) (name : List ℕ) (rest : List (List ℕ)) → words ≡ name ∷ rest → name ≡ codes "bulk"
    → IfSome found (λ task. (seed : ℕ) × (count : ℕ) × (task ≡ Bulk seed count) × BulkWords seed count rest) → IfSome found (λ task. TaskWords task words)
bulk-named None words name rest is named has = tt
bulk-named (Some task) words name rest is named (seed, count, same, has) = rw same (record { rest = rest; spelled = is ∙ ap (λ n. n ∷ rest) named; holds = has })

-- ---- two numbers

pub two-words : (words : List (String Global)) (x y : String Global) → 2 ≤ length words → length words < 3 → x ≡ get_or words 0 x → y ≡ get_or words 1 y → map string_bytes words ≡ string_bytes x ∷ string_bytes y ∷ []
two-words [] x y least most first next = absurd (omega arith)
two-words (a ∷ []) x y least most first next = absurd (omega arith)
two-words (a ∷ b ∷ []) x y least most first next = rw (first, next) refl
two-words (a ∷ b ∷ c ∷ rest) x y least most first next = absurd (omega arith)

second-is : (words : List (List ℕ)) (a b c d : List ℕ) → words ≡ a ∷ b ∷ [] → words ≡ c ∷ d ∷ [] → b ≡ d
second-is words a b c d is too = cc

-- two words are two numbers at most
pub same-numbers : (words : List (List ℕ)) (x y : List ℕ) (n m seed count : ℕ) → words ≡ x ∷ y ∷ [] → x ≡ decimal n → n < 2 ^ 64 → y ≡ decimal m → m < 2 ^ 64 → BulkWords seed count words → (n ≡ seed) × (m ≡ count)
same-numbers words x y n m seed count is first small next few has = (
  one-number x n seed small (omega (arith, has.seed_is_valid)) first (first-is words x (decimal seed) (y ∷ []) (decimal count ∷ []) is has.spelled),
  one-number y m count few (omega (arith, has.count_fits)) next (second-is words x y (decimal seed) (decimal count) is has.spelled),
)

-- ---- the task that was found

module _ (found : Task) (a : Action) (is : found ≡ Read a) where
  pub same-action : (b : Action) → Some found ≡ Some (Read b) → a ≡ b
  same-action b same = read (sym is ∙ one-some found (Read b) same)
    where
      read : Read a ≡ Read b → a ≡ b
      read e = cc

  pub no-bulk : (seed count : ℕ) → Some found ≡ Some (Bulk seed count) → ⊥
  no-bulk seed count same = other (sym is ∙ one-some found (Bulk seed count) same)
    where
      other : Read a ≡ Bulk seed count → ⊥
      other e = cc

module _ (found : Task) (n m : ℕ) (is : found ≡ Bulk n m) where
  pub same-bulk : (seed count : ℕ) → Some found ≡ Some (Bulk seed count) → (n ≡ seed) × (m ≡ count)
  same-bulk seed count same = (first (sym is ∙ one-some found (Bulk seed count) same), next (sym is ∙ one-some found (Bulk seed count) same))
    where
      first : Bulk n m ≡ Bulk seed count → n ≡ seed
      first e = cc

      next : Bulk n m ≡ Bulk seed count → m ≡ count
      next e = cc

  pub no-action : (b : Action) → Some found ≡ Some (Read b) → ⊥
  no-action b same = other (sym is ∙ one-some found (Read b) same)
    where
      other : Bulk n m ≡ Read b → ⊥
      other e = cc

-- how many lines are drawn
pub few-lines : (seed count : ℕ) (words : List (List ℕ)) → TaskWords (Bulk seed count) words → count ≤ 100000
few-lines seed count words begins = begins.holds.count_fits

-- ---- pieces

pub default-piece : IsPiece default_start.piece
unfolding default_start
default-piece = record { least = omega arith; most = omega arith }

-- the pieces of options have a size that is allowed
abbrev GivenPiece : Options → Type 0
GivenPiece given = IfSome given.piece IsPiece

added-piece : (old new : Options) (name value : List ℕ) → Adds old name value new → GivenPiece old → GivenPiece new
added-piece old new name value (inl (named, none, piece, is, small, same)) before = rw same small
added-piece old new name value (inr (inl (named, none, seed, is, same))) before = rw same before
added-piece old new name value (inr (inr (named, none, banks, is, same))) before = rw same before

all-pieces : (options : List (List ℕ × List ℕ)) (given all : Options) (words : List (List ℕ)) → AddInOrder options given all words → GivenPiece given → GivenPiece all
all-pieces [] given all words (ends, is) before = rw is before
all-pieces (option ∷ options) given all words (behind, new, splits, adds, rest) before = all-pieces options new all behind rest (added-piece given new option.0 option.1 adds before)

piece-or : (given : Option ℕ) → IfSome given IsPiece → IsPiece (unwrap_or given default_start.piece)
piece-or None small = default-piece
piece-or (Some piece) small = small

given-piece : (all : Options) (words : List (List ℕ)) → AreOptions all words → IsPiece (unwrap_or all.piece default_start.piece)
given-piece all words (options, are) = piece-or all.piece (all-pieces options no_options all words are tt)

start-piece : (start : Start) (words : List (List ℕ)) → StartWords start words → IsPiece start.piece
start-piece start words has = subst IsPiece (sym (ap (λ s. s.piece) has.same)) (given-piece has.given words has.options)

-- so have those of each action
pub has-piece : (action : Action) (words : List (List ℕ)) → TaskWords (Read action) words → HasPiece action
has-piece (Replay start) words begins = start-piece start begins.rest begins.holds
has-piece (Drive start) words begins = start-piece start begins.rest begins.holds
has-piece (Suspend start) words begins = start-piece start begins.rest begins.holds
has-piece (Resume piece) words begins = subst IsPiece (sym begins.holds.same) (given-piece begins.holds.given begins.rest begins.holds.options)
has-piece Check words begins = tt
