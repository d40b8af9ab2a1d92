-- The four parts of what a move carries.
use Rattle.std.specs.Prelude.{ℕ, List, [], ◌∷◌, ◌++◌, length, take}
pub use Rattle.state_blobs.specs.Encodings.{slice}
pub use Rattle.move_core.specs.Sides.{part_number, part_after, total_of, first_bad}
use Rattle.move_codec.specs.declared.names.Part.{Part}
use Rattle.move_codec.specs.declared.names.Part.TheVariants.{Record, Permanent, Volatile, Saved}

pub record Parts : Type 0 where
  pub record_bytes : List ℕ
  pub permanent : List ℕ
  pub volatile : List ℕ
  pub saved : List ℕ

abbrev pub part_of : Parts → Part → List ℕ
part_of parts Record = parts.record_bytes
part_of parts Permanent = parts.permanent
part_of parts Volatile = parts.volatile
part_of parts Saved = parts.saved

abbrev pub nothing : Parts
nothing = record { record_bytes = []; permanent = []; volatile = []; saved = [] }

-- the lengths of the parts, as an offer says them
abbrev pub lengths : Parts → List ℕ
lengths parts = length parts.record_bytes ∷ length parts.permanent ∷ length parts.volatile ∷ length parts.saved ∷ []

-- bytes put at the end of a part
abbrev pub put : Parts → Part → List ℕ → Parts
put parts Record bytes = record parts { record_bytes = parts.record_bytes ++ bytes }
put parts Permanent bytes = record parts { permanent = parts.permanent ++ bytes }
put parts Volatile bytes = record parts { volatile = parts.volatile ++ bytes }
put parts Saved bytes = record parts { saved = parts.saved ++ bytes }

-- the parts up to a place in one of them
abbrev pub filled : Parts → Part → ℕ → Parts
filled parts Record place = record { record_bytes = take place parts.record_bytes; permanent = []; volatile = []; saved = [] }
filled parts Permanent place = record { record_bytes = parts.record_bytes; permanent = take place parts.permanent; volatile = []; saved = [] }
filled parts Volatile place = record { record_bytes = parts.record_bytes; permanent = parts.permanent; volatile = take place parts.volatile; saved = [] }
filled parts Saved place = record { record_bytes = parts.record_bytes; permanent = parts.permanent; volatile = parts.volatile; saved = take place parts.saved }

-- how many bytes a piece of the record has at most, and a piece of a blob
pub record PieceSizes : Type 0 where
  pub of_record : ℕ
  pub of_blob : ℕ

abbrev pub size_for : PieceSizes → Part → ℕ
size_for size Record = size.of_record
size_for size Permanent = size.of_blob
size_for size Volatile = size.of_blob
size_for size Saved = size.of_blob
