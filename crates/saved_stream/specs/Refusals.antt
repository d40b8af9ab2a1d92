-- Why bytes are refused as a stream: the first cause from the left, and then what only the whole shows. Places count
-- from the first byte. (Own definitions.)
use Rattle.std.specs.Prelude.{◌≡◌, ◌≢◌, ◌⊎◌, ℕ, ◌+◌, ◌<◌, ◌≤◌, List, [], ◌∷◌, ◌++◌, length, take, drop, Err, Ok}
use Rattle.vt_base.specs.Layout.{Layout, Ends, Field, Encodes, IsOpen}
use Rattle.vt_base.specs.Magics.{magic_then}
use Rattle.vt_base.specs.Refusing.{malformed, magic_byte_then}
use Rattle.vt_base.specs.declared.types.Kind.TheVariants.{Permanent, Volatile, Saved}
use Rattle.vt_base.specs.declared.types.Why.{Why}
use Rattle.vt_base.specs.declared.types.Why.TheVariants.{Version, Length, Value, Cut, Extra}
use Rattle.vt_base.specs.declared.types.Malformed.{Malformed}
use Rattle.state_blobs.specs.Blobs.{Ending}
use Rattle.state_blobs.specs.Refusals.{length_field}
use Rattle.state_blobs.specs.Numbers.{version_place}
use Rattle.state_blobs.specs.Assembly.{Disagrees, version_in}
use Rattle.crb_history.specs.Snapshot.{Snapshot}
use Rattle.saved_stream.specs.Numbers.{format_version}
use Rattle.saved_stream.specs.declared.part.Part.{Part}
use Rattle.saved_stream.specs.declared.part.Part.TheVariants.{Record, Blob}
use Rattle.saved_stream.specs.Parts.{parts, IsWhole, IsPartRefused}
use Rattle.saved_stream.specs.Streams.{magic, IsStream}

-- ---- the head

-- the version, and a length, which is compared only once the parts are whole
abbrev pub version_then : Layout Ending
version_then = magic_byte_then format_version Version 4 (Field 4 (λ length. Ends (Ok tt)))

-- a head
unfoldable pub head : Layout Ending
head = magic_then magic 0 version_then

-- The bytes end before a head does, or a field of it is refused.
abbrev pub IsHeadRefusedFor : Why → ℕ → List ℕ → Type 0
IsHeadRefusedFor Cut place bytes = (place ≡ length bytes) × IsOpen head bytes
IsHeadRefusedFor why place bytes = (n : ℕ) × Encodes head (Err (malformed why place)) (take n bytes)

abbrev pub IsHeadRefused : Malformed → List ℕ → Type 0
IsHeadRefused fault bytes = IsHeadRefusedFor fault.why fault.place bytes

-- a head is whole, whatever its length
pub record HasHead (bytes : List ℕ) : Type 0 where
  pub long : 9 ≤ length bytes
  pub begins : take 5 bytes ≡ magic ++ format_version ∷ []

-- ---- the parts

-- a fault in bytes that begin at this place
abbrev pub moved : ℕ → Malformed → Malformed
moved place fault = malformed fault.why (place + fault.place)

-- The part that begins at this place is refused, other than for bytes behind it.
pub record IsStopped (part : Part) (place : ℕ) (fault : Malformed) (bytes : List ℕ) : Type 0 where
  pub inner : Malformed
  pub refused : IsPartRefused part inner bytes
  pub not_behind : inner.why ≢ Extra
  pub named : fault ≡ moved place inner

-- The first part is refused, or it is whole and one of the others is refused behind it.
abbrev pub ArePartsRefused : List Part → ℕ → Malformed → List ℕ → Type 0
ArePartsRefused [] place fault bytes = ⊥
ArePartsRefused (part ∷ parts) place fault bytes =
    IsStopped part place fault bytes
    ⊎ ((prefix : List ℕ) × (after : List ℕ) × (bytes ≡ prefix ++ after) × IsWhole part prefix × ArePartsRefused parts (place + length prefix) fault after)

-- ---- what the whole shows

-- a head, the four parts, each whole, and what stands behind them
pub record HasParts (bytes : List ℕ) : Type 0 where
  pub head : HasHead bytes
  pub device : List ℕ
  pub permanent : List ℕ
  pub volatile : List ℕ
  pub saved : List ℕ
  pub after : List ℕ
  pub behind : drop 9 bytes ≡ device ++ permanent ++ volatile ++ saved ++ after
  pub is_record : IsWhole Record device
  pub is_permanent : IsWhole (Blob Permanent) permanent
  pub is_volatile : IsWhole (Blob Volatile) volatile
  pub is_saved : IsWhole (Blob Saved) saved

-- how many bytes the parts have
abbrev pub total : {bytes : List ℕ} → HasParts bytes → ℕ
total p = length (p.device ++ p.permanent ++ p.volatile ++ p.saved)

-- where the blobs of what the TPM loses with its power and of the saved state begin
abbrev pub place_of_volatile : {bytes : List ℕ} → HasParts bytes → ℕ
place_of_volatile p = 9 + length (p.device ++ p.permanent)

abbrev pub place_of_saved : {bytes : List ℕ} → HasParts bytes → ℕ
place_of_saved p = 9 + length (p.device ++ p.permanent ++ p.volatile)

-- The first blob that isn't of the permanent one's version has its version at this place.
abbrev pub OtherVersionAt : {bytes : List ℕ} → ℕ → HasParts bytes → Type 0
OtherVersionAt place p =
    ((place ≡ place_of_volatile p + version_place) × (version_in p.volatile ≢ version_in p.permanent))
    ⊎ ((place ≡ place_of_saved p + version_place) × (version_in p.volatile ≡ version_in p.permanent) × (version_in p.saved ≢ version_in p.permanent))

-- all blobs are of one version
abbrev pub AreOfOneVersion : {bytes : List ℕ} → HasParts bytes → Type 0
AreOfOneVersion p = (version_in p.volatile ≡ version_in p.permanent) × (version_in p.saved ≡ version_in p.permanent)

-- Each row says that those before it don't hold: the length isn't that of the parts; the blobs aren't of one version; the TPM
-- is started and the saved state isn't that of its registers; bytes stand behind a stream.
abbrev pub IsWholeRefusedFor : Why → ℕ → List ℕ → Type 0
IsWholeRefusedFor Length place bytes = (p : HasParts bytes) × (place ≡ 5) × (length_field bytes ≢ total p)
IsWholeRefusedFor Version place bytes = (p : HasParts bytes) × (length_field bytes ≡ total p) × OtherVersionAt place p
IsWholeRefusedFor Value place bytes =
    (p : HasParts bytes) × (length_field bytes ≡ total p) × AreOfOneVersion p × (inner : ℕ) × Disagrees inner p.volatile p.saved × (place ≡ place_of_saved p + inner)
IsWholeRefusedFor Extra place bytes = (place < length bytes) × (b : Snapshot) × IsStream (take place bytes) b
IsWholeRefusedFor why place bytes = ⊥

abbrev pub IsWholeRefused : Malformed → List ℕ → Type 0
IsWholeRefused fault bytes = IsWholeRefusedFor fault.why fault.place bytes

-- The bytes are no stream, for this reason and at this place.
abbrev pub IsStreamRefused : Malformed → List ℕ → Type 0
IsStreamRefused fault bytes =
    IsHeadRefused fault bytes
    ⊎ (HasHead bytes × ArePartsRefused parts 9 fault (drop 9 bytes))
    ⊎ IsWholeRefused fault bytes
