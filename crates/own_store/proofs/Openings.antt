-- What is read of a slot is what it has.
use Rattle.std.proofs.Common.{◌≡◌, ◌+◌, ◌==◌, ℕ, suc, Bool, List, ◌∷◌, drop, Option, None, if◌then◌else◌, refl, sym, ◌∙◌, ap, subst, ◌⊎◌, inl, inr, ⊎_elim, Some}
use Rattle.std.specs.Prelude.{slice_index, option_map}
use Rattle.own_store.specs.Disk.{Image, IsDurable, bytes_of}
use Rattle.own_store.specs.Body.{stored_in}
use Rattle.own_store.specs.Steps.{Step, state, byte_at, IsLeft}
use Rattle.own_store.specs.MemDisk.{MemoryDisk, memory_content}
use Rattle.own_store.specs.Slots.{place, other, is_open, body, stored, newer, in_force, entry_in_force}
use Rattle.own_store.specs.Finding.{IsReadingOf, IsReadingAt, reading_at, IsChosen, IsFound}
use Rattle.own_store.specs.Ledger.{IsReady, IsOldOrNew}
use Rattle.own_store.specs.declared.body.Stored.{Stored}
use Rattle.own_store.specs.declared.entry.Entry.{Entry}
use Rattle.own_store.proofs.Slots.{stored_open}
use Rattle.own_store.specs.declared.finding.Found.{Found}
use Rattle.own_store.specs.declared.finding.Reading.{Reading}
use Rattle.own_store.specs.declared.slot.Slot.{Slot}
use Rattle.own_store.specs.declared.slot.Slot.TheVariants.{First, Second}

first_byte : (image : Image) (at count : ℕ) → bytes_of image at (suc count) ≡ image at ∷ bytes_of image (at + 1) count
unfolding bytes_of
first_byte image at count = refl

slot_bytes : (image : Image) (s : Slot) (bytes : List ℕ) → bytes ≡ bytes_of image (place s) 8192 → bytes ≡ image (place s) ∷ body image s
unfolding body
slot_bytes image s bytes is = is ∙ first_byte image (place s) 8191

pub reads : (image : Image) (s : Slot) (bytes : List ℕ) (r : Reading) → bytes ≡ bytes_of image (place s) 8192 → IsReadingOf bytes r → IsReadingAt image s r
unfolding stored
reads image s bytes r is says =
    let whole = slot_bytes image s bytes is in
    let gate : r.was_open ≡ is_open image s = says.gate ∙ ap (λ (l : List ℕ). slice_index l 0 == 0xA5) whole in record {
      gate = gate;
      entry = says.entry ∙ (λ i. if gate i then stored_in (drop 1 (whole i)) else None);
    }

at_slot : (image : Image) (first second : Reading) (s : Slot) → IsReadingAt image First first → IsReadingAt image Second second → IsReadingAt image s (reading_at first second s)
at_slot image first second First one two = one
at_slot image first second Second one two = two

pub both : (image : Image) (first second : Reading) → IsReadingAt image First first → IsReadingAt image Second second → newer first.stored second.stored ≡ in_force image
unfolding in_force
both image first second one two = λ i. newer (one.entry i) (two.entry i)

pub finds : (image : Image) (first second : Reading) (f : Found) → IsReadingAt image First first → IsReadingAt image Second second → IsChosen first second f → IsFound image f
finds image first second f one two chosen = record {
  force = sym (both image first second one two) ∙ chosen.force;
  here = sym (at_slot image first second (other f.spare) one two).entry ∙ chosen.here;
  gate = sym (at_slot image first second f.spare one two).gate ∙ sym chosen.gate;
}

pub reads_at : (image : Image) (s : Slot) (at count : ℕ) (bytes got : List ℕ) (r : Reading) → bytes ≡ got → got ≡ bytes_of image at count → at ≡ place s → count ≡ 8192 → IsReadingOf bytes r → IsReadingAt image s r
reads_at image s at count bytes got r same is here size says = reads image s bytes r (same ∙ is ∙ (λ i. bytes_of image (here i) (size i))) says

-- both readings, of images that are the same
pub finds_in : (image one two : Image) (first second : Reading) (f : Found) → one ≡ image → two ≡ image → IsReadingAt one First first → IsReadingAt two Second second → IsChosen first second f → IsFound image f
finds_in image one two first second f here there a b chosen =
    finds image first second f (subst (λ (c : Image). IsReadingAt c First first) here a) (subst (λ (c : Image). IsReadingAt c Second second) there b) chosen

pub finds_none : (image one two : Image) (first second : Reading) → one ≡ image → two ≡ image → IsReadingAt one First first → IsReadingAt two Second second → newer first.stored second.stored ≡ None → in_force image ≡ None
finds_none image one two first second here there a b none =
    sym (both image first second (subst (λ (c : Image). IsReadingAt c First first) here a) (subst (λ (c : Image). IsReadingAt c Second second) there b)) ∙ none

-- a ledger over what was found
pub is_ready : {D : Type 0} (content : D → Image) (may_leave : D → Image → Type 0) (disk : D) (f : Found) → IsDurable (content disk) (may_leave disk) → IsFound (content disk) f → IsReady content may_leave disk f.spare f.spare_open f.stored.version
is_ready content may_leave disk f durable found = record {
  durable = durable;
  opened = stored_open (content disk) (other f.spare) f.stored found.here;
  gate = found.gate;
  unused = found.force ∙ sym found.here;
  known = ap (λ (o : Option Stored). option_map (λ s. s.version) o) found.force;
}

-- a ledger over a disk of the same content
pub is_ready_same : {D : Type 0} (content : D → Image) (may_leave : D → Image → Type 0) (a b : D) (spare : Slot) (spare_open : Bool) (version : ℕ) → content b ≡ content a → ((c : Image) → may_leave b c → may_leave a c)
    → IsReady content may_leave a spare spare_open version → IsReady content may_leave b spare spare_open version
is_ready_same content may_leave a b spare spare_open version same fewer s = record {
  durable = λ c left. s.durable c (fewer c left) ∙ sym same;
  opened = ap (λ (d : Image). is_open d (other spare)) same ∙ s.opened;
  gate = ap (λ (d : Image). is_open d spare) same ∙ s.gate;
  unused = ap in_force same ∙ s.unused ∙ ap (λ (d : Image). stored d (other spare)) (sym same);
  known = ap (λ (d : Image). option_map (λ s. s.version) (in_force d)) same ∙ s.known;
}

same_entry : (a b : Entry) → Some a ≡ Some b → a ≡ b
same_entry a b is = cc

-- the entry that is in force in what a put left
pub old_or_new : (old left : Image) (entry found : Entry) (version : ℕ) → IsOldOrNew old entry left → in_force left ≡ Some (record { version = version; entry = found }) → (entry_in_force old ≡ Some found) ⊎ (found ≡ entry)
old_or_new old left entry found version either force =
    let now : entry_in_force left ≡ Some found = ap (λ (o : Option Stored). option_map (λ s. s.entry) o) force in
    ⊎_elim (λ was. inl (sym was ∙ now)) (λ new. inr (same_entry found entry (sym now ∙ new))) either

-- a ledger over a disk in memory that has the same steps
pub is_ready_by_steps : (a b : MemoryDisk) (spare : Slot) (spare_open : Bool) (version : ℕ) → b.steps ≡ a.steps
    → IsReady memory_content (λ (d : MemoryDisk) (c : Image). IsLeft (state d.steps) c) a spare spare_open version → IsReady memory_content (λ (d : MemoryDisk) (c : Image). IsLeft (state d.steps) c) b spare spare_open version
is_ready_by_steps a b spare spare_open version same ready =
    is_ready_same memory_content (λ (d : MemoryDisk) (c : Image). IsLeft (state d.steps) c) a b spare spare_open version
    (ap (λ (l : List Step). byte_at (state l).content) same) (λ c left. subst (λ (l : List Step). IsLeft (state l) c) same left) ready
