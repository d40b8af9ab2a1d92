-- Where a part ends, and why it doesn't.
use Rattle.std.proofs.Common.{◌≡◌, ◌≢◌, ℕ, ◌+◌, ◌-◌, ◌<◌, ◌≤◌, List, [], ◌++◌, length, take, drop, Ok, sym, ap, subst, ◌∙◌, arith, Bool, true, false}
use Rattle.std.specs.Bool.{OnTrue}
use Rattle.std.proofs.lemmas.List.{length-take, length-drop, take_all}
use Rattle.vt_base.specs.Layout.{Encodes}
use Rattle.vt_base.specs.declared.types.Kind.{Kind}
use Rattle.vt_base.specs.declared.types.Why.{Why}
use Rattle.vt_base.specs.declared.types.Why.TheVariants.{Magic, Version, Length, Value, Cut, Extra}
use Rattle.vt_base.specs.declared.types.Malformed.{Malformed}
use Rattle.crb_machine.specs.Values.{DeviceValues, AreValid}
use Rattle.device_record.specs.Records.{encode_record}
use Rattle.device_record.specs.Layouts as layouts
use Rattle.state_blobs.specs.Encodings.{IsBlob}
use Rattle.state_blobs.specs.Blobs.{blob}
use Rattle.state_blobs.specs.Room.{blob_within}
use Rattle.state_blobs.specs.Refusals.{IsRefusedFor, IsRefused}
use Rattle.saved_stream.specs.declared.part.Part.{Part}
use Rattle.saved_stream.specs.Parts.{IsWhole, IsPartRefused}
use Rattle.saved_stream.specs.Refusals.{moved, IsStopped}
use Rattle.saved_stream.specs.Places.{IsPartAt}
use Rattle.saved_stream.proofs.Near.{length_within}

-- ---- what laws of the parts give

abbrev pub RecordNotRefused : Type 0
RecordNotRefused = (v : DeviceValues) (fault : Malformed) → AreValid v → layouts.IsRefused fault (encode_record v) → ⊥

abbrev pub BlobIsDecoded : Type 0
BlobIsDecoded = (kind : Kind) (bytes : List ℕ) → IsBlob kind bytes → Encodes (blob kind) (Ok tt) bytes

abbrev pub BlobNotRefused : Type 0
BlobNotRefused = (kind : Kind) (fault : Malformed) (bytes : List ℕ) → IsBlob kind bytes → IsRefused kind fault bytes → ⊥

-- ---- any part

pub blob_few : BlobIsDecoded → (kind : Kind) (bytes : List ℕ) → IsBlob kind bytes → length bytes ≤ 3991
blob_few exact kind bytes is = let within_limit = length_within (blob kind) 1942 (Ok tt) bytes (blob_within kind) (exact kind bytes is) in omega arith

-- a part of so many bytes, behind those up to a place
pub part_up_to : (part : Part) (bytes rest : List ℕ) (from count : ℕ) → rest ≡ drop from bytes → from ≤ length bytes → count < length rest → length (take count rest) ≤ 3991 → IsWhole part (take count rest)
    → IsPartAt part bytes from (from + count)
part_up_to part bytes rest from count is within less within_limit whole = record {
  order = omega arith;
  within = omega (arith, ap length is, length-drop from bytes);
  within_limit = omega (arith, length-take count rest);
  whole = subst (IsWhole part) (ap (take count) is ∙ ap (λ (n : ℕ). take n (drop from bytes)) (omega arith)) whole;
}

-- a part of all bytes from a place on
pub part_to_end : (part : Part) (bytes rest : List ℕ) (from : ℕ) → rest ≡ drop from bytes → from ≤ length bytes → length rest ≤ 3991 → IsWhole part rest → IsPartAt part bytes from (length bytes)
part_to_end part bytes rest from is le within_limit whole = record {
  order = le;
  within = omega arith;
  within_limit = omega (arith, ap length is, length-drop from bytes);
  whole = subst (IsWhole part) (is ∙ sym (take_all (length bytes - from) (drop from bytes) (omega (arith, length-drop from bytes)))) whole;
}

pub stopped : (part : Part) (place : ℕ) (inner fault : Malformed) (bytes rest : List ℕ) → rest ≡ bytes → IsPartRefused part inner rest → inner.why ≢ Extra → fault ≡ moved place inner → IsStopped part place fault bytes
stopped part place inner fault bytes rest same refused other is = record { inner = inner; refused = subst (IsPartRefused part inner) same refused; not_behind = other; named = is }

-- ---- a blob

blob_behind_if : (kind : Kind) (why : Why) (place : ℕ) (bytes : List ℕ) → IsRefusedFor kind why place bytes → why ≡ Extra → (place < length bytes) × IsBlob kind (take place bytes)
blob_behind_if kind Extra place bytes refused is = refused
blob_behind_if kind Magic place bytes refused is = absurd cc
blob_behind_if kind Version place bytes refused is = absurd cc
blob_behind_if kind Length place bytes refused is = absurd cc
blob_behind_if kind Value place bytes refused is = absurd cc
blob_behind_if kind Cut place bytes refused is = absurd cc

-- a blob that others stand behind
pub blob_behind : (kind : Kind) (fault : Malformed) (bytes : List ℕ) → IsRefused kind fault bytes → fault.why ≡ Extra → (fault.place < length bytes) × IsBlob kind (take fault.place bytes)
blob_behind kind fault bytes refused is = blob_behind_if kind fault.why fault.place bytes refused is

-- ---- what a gather answers that has nothing yet

pub from_nothing : (P : List ℕ → Type 0) (begun bytes : List ℕ) → begun ≡ [] → P (begun ++ bytes) → P bytes
from_nothing P begun bytes none p = subst (λ (b : List ℕ). P (b ++ bytes)) none p

on_true : (whole : Bool) (P : Type 0) → whole ≡ true → OnTrue whole P → P
on_true true P is p = p
on_true false P is p = absurd cc

pub blob_if : (kind other : Kind) (begun bytes : List ℕ) (whole : Bool) → begun ≡ [] → kind ≡ other → whole ≡ true → OnTrue whole (IsBlob kind (begun ++ bytes)) → IsBlob other bytes
blob_if kind other begun bytes whole none same is exact = subst (λ (k : Kind). IsBlob k bytes) same (from_nothing (IsBlob kind) begun bytes none (on_true whole (IsBlob kind (begun ++ bytes)) is exact))

pub refused_if : (kind other : Kind) (begun bytes : List ℕ) (fault : Malformed) → begun ≡ [] → kind ≡ other → IsRefused kind fault (begun ++ bytes) → IsRefused other fault bytes
refused_if kind other begun bytes fault none same exact = subst (λ (k : Kind). IsRefused k fault bytes) same (from_nothing (IsRefused kind fault) begun bytes none exact)
