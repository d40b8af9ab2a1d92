-- Where the parts of a stream stand. (Own definitions.)
use Rattle.std.specs.Prelude.{ℕ, ◌+◌, ◌-◌, ◌≤◌, List, length}
use Rattle.vt_base.specs.declared.types.Kind.{Kind}
use Rattle.vt_base.specs.declared.types.Kind.TheVariants.{Permanent, Volatile, Saved}
use Rattle.state_blobs.specs.Encodings.{slice}
use Rattle.saved_stream.specs.declared.part.Part.{Part}
use Rattle.saved_stream.specs.declared.part.Part.TheVariants.{Record, Blob}
use Rattle.saved_stream.specs.declared.reading.Places.{Places}
use Rattle.saved_stream.specs.Parts.{IsWhole}

-- the bytes from one place to another
abbrev pub between : List ℕ → ℕ → ℕ → List ℕ
between bytes from end = slice bytes from (end - from)

-- where the blob of a kind begins
abbrev pub begin_of : Kind → Places → ℕ
begin_of Permanent at = at.permanent
begin_of Volatile at = at.volatile
begin_of Saved at = at.saved

-- The part stands from one place to another, at most 3991 bytes on.
pub record IsPartAt (part : Part) (bytes : List ℕ) (from end : ℕ) : Type 0 where
  pub order : from ≤ end
  pub within : end ≤ length bytes
  pub within_limit : end ≤ from + 3991
  pub whole : IsWhole part (between bytes from end)

-- The four parts stand one behind the other.
pub record AreAt (bytes : List ℕ) (at : Places) : Type 0 where
  pub device : IsPartAt Record bytes 9 at.permanent
  pub permanent : IsPartAt (Blob Permanent) bytes at.permanent at.volatile
  pub volatile : IsPartAt (Blob Volatile) bytes at.volatile at.saved
  pub saved : IsPartAt (Blob Saved) bytes at.saved at.end
