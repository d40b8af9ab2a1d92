-- The words of a run, and what is written for others. (Own definitions.)
use Rattle.std.specs.Prelude.{◌≡◌, ◌≢◌, ◌<◌, ◌≤◌, ◌⊎◌, ◌-◌, ◌^◌, ℕ, List, [], ◌∷◌, ◌++◌, length, get_or, map, String, Some, None, Ok, unwrap_or}
use Rattle.std.specs.String.{string_bytes}
use Rattle.std.specs.declared.alloc.Global.{Global}
use Rattle.std.specs.Fmt.{decimal}
use lib.Chars.{codes}
use Rattle.hex.specs.Hex.{decode_of}
use Rattle.tpm_core.specs.declared.algorithm.Banks.{Banks}
use Rattle.tpm_core.specs.declared.algorithm.Banks.TheVariants.{One, Two}
use Rattle.script_run.specs.Start.{default_start}
use Rattle.script_run.specs.declared.action.Action.{Action}
use Rattle.script_run.specs.declared.action.Action.TheVariants.{Replay, Drive, Suspend, Resume, Check}
use Rattle.script_run.specs.declared.action.Task.{Task}
use Rattle.script_run.specs.declared.action.Task.TheVariants.{Read, Bulk}
use Rattle.script_run.specs.declared.options.Options.{Options}
use Rattle.script_run.specs.declared.start.Start.{Start}

-- ---- options

-- the words begin with an option of this name, which has no `=`, and of this value: two words, or one with `=` between
-- name and value
pub record Splits (name value : List ℕ) (behind words : List (List ℕ)) : Type 0 where
  pub plain : (i : ℕ) → i < length name → get_or name i 0 ≢ 61
  pub spelled : (words ≡ name ∷ value ∷ behind) ⊎ (words ≡ (name ++ 61 ∷ value) ∷ behind)

-- a piece has 1 to 4096 bytes
pub record IsPiece (piece : ℕ) : Type 0 where
  pub least : 1 ≤ piece
  pub most : piece ≤ 4096

-- 64 hexadecimal digits of either case are a seed, two for each byte, in the order of the bytes
pub record IsSeed (digits seed : List ℕ) : Type 0 where
  pub count : length digits ≡ 64
  pub bytes : decode_of digits ≡ Ok seed

-- a number of banks in decimal
abbrev pub banks_digits : Banks → List ℕ
banks_digits One = codes "1"
banks_digits Two = codes "2"

-- one more option of this name and this value, which isn't given yet; the number of `--piece` is in decimal without a sign
-- or a leading zero
abbrev pub Adds : Options → List ℕ → List ℕ → Options → Type 0
Adds old name value new =
    ((name ≡ codes "--piece") × (old.piece ≡ None) × (piece : ℕ) × (value ≡ decimal piece) × IsPiece piece × (new ≡ record old { piece = Some piece }))
    ⊎ (((name ≡ codes "--seed") × (old.seed ≡ None) × (seed : List ℕ) × IsSeed value seed × (new ≡ record old { seed = Some seed }))
    ⊎ ((name ≡ codes "--banks") × (old.banks ≡ None) × (banks : Banks) × (value ≡ banks_digits banks) × (new ≡ record old { banks = Some banks })))

-- no option
abbrev pub no_options : Options
no_options = record { piece = None; seed = None; banks = None }

-- the words are options of these names and values, one after the other; each is added to those before it
abbrev pub AddInOrder : List (List ℕ × List ℕ) → Options → Options → List (List ℕ) → Type 0
AddInOrder [] given all words = (words ≡ []) × (all ≡ given)
AddInOrder (option ∷ options) given all words = (behind : List (List ℕ)) × (new : Options) × Splits option.0 option.1 behind words × Adds given option.0 option.1 new × AddInOrder options new all behind

-- the words of options, each at most once, in any order
abbrev pub AreOptions : Options → List (List ℕ) → Type 0
AreOptions all words = (options : List (List ℕ × List ℕ)) × AddInOrder options no_options all words

-- how a run begins; what isn't given is as without options
abbrev pub start_by : Options → Start
start_by given = record { seed = unwrap_or given.seed default_start.seed; banks = unwrap_or given.banks default_start.banks; piece = unwrap_or given.piece default_start.piece }

-- the options of a run that begins so
pub record StartWords (start : Start) (words : List (List ℕ)) : Type 0 where
  pub given : Options
  pub options : AreOptions given words
  pub same : start ≡ start_by given

-- the options of a run that goes on from a saved stream; seed and banks are those of the stream
pub record ResumeWords (piece : ℕ) (words : List (List ℕ)) : Type 0 where
  pub given : Options
  pub options : AreOptions given words
  pub no_seed : given.seed ≡ None
  pub no_banks : given.banks ≡ None
  pub same : piece ≡ (start_by given).piece

-- ---- numbers of bulk

-- a number of 64 bits and a count of at most 100000, both in decimal without a sign or a leading zero
pub record BulkWords (seed count : ℕ) (words : List (List ℕ)) : Type 0 where
  pub spelled : words ≡ decimal seed ∷ decimal count ∷ []
  pub seed_is_valid : seed ≤ 2 ^ 64 - 1
  pub count_fits : count ≤ 100000

-- ---- all words

-- the first word is the command's name, and this holds of those behind it
pub record Begins (name : List ℕ) (Holds : List (List ℕ) → Type 0) (words : List (List ℕ)) : Type 0 where
  pub rest : List (List ℕ)
  pub spelled : words ≡ name ∷ rest
  pub holds : Holds rest

-- a piece of an action has 1 to 4096 bytes
abbrev pub HasPiece : Action → Type 0
HasPiece (Replay start) = IsPiece start.piece
HasPiece (Drive start) = IsPiece start.piece
HasPiece (Suspend start) = IsPiece start.piece
HasPiece (Resume piece) = IsPiece piece
HasPiece Check = Unit {0}

-- the words of each task
abbrev pub TaskWords : Task → List (List ℕ) → Type 0
TaskWords (Read (Replay start)) = Begins (codes "replay") (StartWords start)
TaskWords (Read (Drive start)) = Begins (codes "drive") (StartWords start)
TaskWords (Read (Suspend start)) = Begins (codes "suspend") (StartWords start)
TaskWords (Read (Resume piece)) = Begins (codes "resume") (ResumeWords piece)
TaskWords (Read Check) = Begins (codes "check") (λ rest. rest ≡ [])
TaskWords (Bulk seed count) = Begins (codes "bulk") (BulkWords seed count)

abbrev pub IsTask : Task → List (String Global) → Type 0
IsTask task words = TaskWords task (map string_bytes words)

-- these words are those of the action
abbrev pub IsAction : Action → List (String Global) → Type 0
IsAction action words = IsTask (Read action) words

-- these words are those of `bulk` with these numbers
abbrev pub IsBulk : ℕ → ℕ → List (String Global) → Type 0
IsBulk seed count words = IsTask (Bulk seed count) words

-- these words are in no grammar
abbrev pub IsUnknown : List (String Global) → Type 0
IsUnknown words = (task : Task) → IsTask task words → ⊥

-- what is written for other words
abbrev pub usage_text : List ℕ
usage_text = codes "usage: crbsim replay, drive, suspend, resume, check or bulk" ++ 10 ∷ []
