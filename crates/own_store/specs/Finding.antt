-- What opening finds. (Own definitions.)
use Rattle.std.specs.Prelude.{◌≡◌, ◌==◌, ℕ, List, drop, slice_index, Some, None, if◌then◌else◌, Result, IsErrOf}
use Rattle.own_store.specs.Disk.{Image}
use Rattle.own_store.specs.Body.{stored_in}
use Rattle.own_store.specs.Slots.{other, is_open, stored, newer, in_force}
use Rattle.own_store.specs.declared.finding.Found.{Found}
use Rattle.own_store.specs.declared.finding.Reading.{Reading}
use Rattle.own_store.specs.declared.ledger.LedgerFault.{LedgerFault}
use Rattle.own_store.specs.declared.ledger.LedgerFault.TheVariants.{VersionEnd, Shut}
use Rattle.own_store.specs.declared.slot.Slot.{Slot}
use Rattle.own_store.specs.declared.slot.Slot.TheVariants.{First, Second}

-- the reading of these bytes
pub record IsReadingOf (bytes : List ℕ) (reading : Reading) : Type 0 where
  pub gate : reading.was_open ≡ (slice_index bytes 0 == 0xA5)
  pub entry : reading.stored ≡ (if reading.was_open then stored_in (drop 1 bytes) else None)

-- the reading of a slot
pub record IsReadingAt (image : Image) (slot : Slot) (reading : Reading) : Type 0 where
  pub gate : reading.was_open ≡ is_open image slot
  pub entry : reading.stored ≡ stored image slot

abbrev pub reading_at : Reading → Reading → Slot → Reading
reading_at first second First = first
reading_at first second Second = second

-- the one in force of two readings
pub record IsChosen (first second : Reading) (found : Found) : Type 0 where
  pub force : newer first.stored second.stored ≡ Some found.stored
  pub here : (reading_at first second (other found.spare)).stored ≡ Some found.stored
  pub gate : found.spare_open ≡ (reading_at first second found.spare).was_open

-- the one in force of an image
pub record IsFound (image : Image) (found : Found) : Type 0 where
  pub force : in_force image ≡ Some found.stored
  pub here : stored image (other found.spare) ≡ Some found.stored
  pub gate : is_open image found.spare ≡ found.spare_open

-- opening answers neither of these
pub record ExcludesPutFaults {T : Type 0} (result : Result T LedgerFault) : Type 0 where
  pub version_end : IsErrOf result VersionEnd → ⊥
  pub not_shut : IsErrOf result Shut → ⊥
