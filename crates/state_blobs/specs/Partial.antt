-- A blob of which a part was read. (Own definitions.)
use Rattle.std.specs.Prelude.{◌≡◌, ℕ, ◌+◌, ◌^◌, ◌<◌, ◌≤◌, true, Bool, List, ◌∷◌, ◌++◌, length, take, slice_index, ◌==◌}
use Rattle.vt_base.specs.Numbers.{IsBytes, long}
use Rattle.vt_base.specs.declared.types.Kind.{Kind}
use Rattle.vt_base.specs.declared.types.Kind.TheVariants.{Permanent, Volatile, Saved}
use Rattle.tpm_core.specs.declared.algorithm.Algorithm.{Algorithm}
use Rattle.tpm_core.specs.declared.algorithm.Algorithm.TheVariants.{Sha256, Sha384}
use Rattle.tpm_core.specs.declared.algorithm.Banks.{Banks}
use Rattle.tpm_core.specs.declared.algorithm.Banks.TheVariants.{Two}
use Rattle.tpm_core.specs.Algorithms.{digest_size}
use Rattle.state_blobs.specs.declared.body_fields.Fields.{Fields}
use Rattle.state_blobs.specs.declared.reading.Header.{Header}
use Rattle.state_blobs.specs.declared.reading.Reading.{Reading}
use Rattle.state_blobs.specs.Encodings.{header_of, counted, is_length, flag_fits}
use Rattle.state_blobs.specs.Running.{AreRegisters}

-- the registers of a bank
abbrev pub bank_in : Algorithm → Fields → List (List ℕ)
bank_in Sha256 f = f.pcr
bank_in Sha384 f = f.pcr384

-- the counter and, of each bank that there is, so many registers
abbrev pub counted_in : Banks → ℕ → Fields → List ℕ
counted_in banks count f = counted banks f.counter (λ a. take count (bank_in a f))

-- those that a shutdown keeps
abbrev pub kept_in : Banks → Fields → List ℕ
kept_in banks f = counted_in banks 16 f

-- the longest body that fields make: that of all banks
abbrev pub body_in : Kind → Fields → List ℕ
body_in Permanent f = f.seed ++ long f.boots
body_in Volatile f = (f.flag ∷ long f.draws) ++ counted_in Two 24 f
body_in Saved f = f.flag ∷ counted_in Two 16 f

-- what stands before the body
abbrev pub header_in : Kind → Header → List ℕ
header_in kind header = header_of kind header.banks header.length

-- the bytes that were read
unfoldable pub bytes_read : Kind → Reading → List ℕ
bytes_read kind r = take r.place (header_in kind r.header ++ body_in kind r.fields)

-- whether they are all
abbrev pub is_whole : Reading → Bool
is_whole r = r.place == 9 + r.header.length

-- what the types of fields make sure of
pub record AreValid (f : Fields) : Type 0 where
  pub seed : length f.seed ≡ 32
  pub boots : f.boots < 2 ^ 64
  pub draws : f.draws < 2 ^ 64
  pub counter : f.counter < 2 ^ 32
  pub count : (a : Algorithm) → length (bank_in a f) ≡ 24
  pub size : (a : Algorithm) → AreRegisters (digest_size a) (bank_in a f)

-- whether so many bytes may follow a header
abbrev pub fits_header : Kind → Header → Bool
fits_header kind header = is_length kind header.banks header.length

-- No byte that was read is refused.
pub record IsReading (kind : Kind) (r : Reading) : Type 0 where
  pub valid : AreValid r.fields
  pub bytes : IsBytes (bytes_read kind r)
  pub sized : 9 ≤ r.place → fits_header kind r.header ≡ true
  pub flagged : 9 < r.place → flag_fits kind r.header.length (slice_index (body_in kind r.fields) 0) ≡ true
  pub within : 9 ≤ r.place → r.place ≤ 9 + r.header.length

-- both have read the same
pub record ReadTheSame (kind : Kind) (r s : Reading) : Type 0 where
  pub bytes : bytes_read kind s ≡ bytes_read kind r
  pub whole : is_whole s ≡ is_whole r
