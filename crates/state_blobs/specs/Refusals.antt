-- Why bytes are refused as a blob: the table of refusals, row by row. (Own definitions.)
use Rattle.std.specs.Prelude.{◌≡◌, ◌≢◌, ℕ, ◌<◌, ◌≤◌, true, false, List, [], ◌∷◌, ◌++◌, length, take, slice_index, None}
use Rattle.std.specs.Int.{w32, from_be_bytes}
use Rattle.vt_base.specs.declared.types.Kind.{Kind}
use Rattle.vt_base.specs.declared.types.Why.{Why}
use Rattle.vt_base.specs.declared.types.Why.TheVariants.{Magic, Version, Length, Value, Cut, Extra}
use Rattle.vt_base.specs.declared.types.Malformed.{Malformed}
use Rattle.tpm_core.specs.declared.algorithm.Banks.{Banks}
use Rattle.state_blobs.specs.Numbers.{version_of, banks_named, version_place, length_place, body_place}
use Rattle.state_blobs.specs.Encodings.{magic_of, slice, IsBlob, is_length, flag_fits}

-- the first place where a list isn't what is wanted
pub record FirstDiffersAt (place : ℕ) (bytes wanted : List ℕ) : Type 0 where
  pub there : place < length bytes
  pub named : place < length wanted
  pub same : take place bytes ≡ take place wanted
  pub differs : slice_index bytes place ≢ slice_index wanted place

-- the magic is there, and the version of the blobs of a TPM with these banks
abbrev pub BeginsAsBlob : Kind → Banks → List ℕ → Type 0
BeginsAsBlob kind banks bytes = take 5 bytes ≡ magic_of kind ++ version_of banks ∷ []

-- the number in the length field
abbrev pub length_field : List ℕ → ℕ
length_field bytes = from_be_bytes w32 (slice bytes length_place 4)

-- Each row says that the fields before its own are in order. A field is checked when it is whole; in a magic each byte is one.
abbrev pub IsRefusedFor : Kind → Why → ℕ → List ℕ → Type 0
IsRefusedFor kind Magic place bytes = FirstDiffersAt place bytes (magic_of kind)
IsRefusedFor kind Version place bytes = (place ≡ version_place) × (version_place < length bytes) × (take 4 bytes ≡ magic_of kind) × (banks_named (slice_index bytes version_place) ≡ None)
IsRefusedFor kind Length place bytes = (place ≡ length_place) × (body_place ≤ length bytes) × (banks : Banks) × BeginsAsBlob kind banks bytes × (is_length kind banks (length_field bytes) ≡ false)
IsRefusedFor kind Value place bytes =
    (place ≡ body_place) × (body_place < length bytes) × (banks : Banks) × BeginsAsBlob kind banks bytes × (is_length kind banks (length_field bytes) ≡ true)
    × (flag_fits kind (length_field bytes) (slice_index bytes body_place) ≡ false)
IsRefusedFor kind Cut place bytes = ⊥
IsRefusedFor kind Extra place bytes = (place < length bytes) × IsBlob kind (take place bytes)

-- Bytes so far are refused for this reason, at this place.
abbrev pub IsRefused : Kind → Malformed → List ℕ → Type 0
IsRefused kind fault bytes = IsRefusedFor kind fault.why fault.place bytes

-- The bytes end before a blob does: they are none, and no byte of them is refused.
pub record IsCut (kind : Kind) (bytes : List ℕ) : Type 0 where
  pub no_blob : IsBlob kind bytes → ⊥
  pub not_refused : (fault : Malformed) → IsRefused kind fault bytes → ⊥
