-- What the ledger keeps true between its calls. (Own definitions.)
use Rattle.std.specs.Prelude.{◌≡◌, ◌⊎◌, ◌<◌, ℕ, Bool, true, false, Option, Some, None, option_map}
use Rattle.own_store.specs.Disk.{Image, IsDurable}
use Rattle.own_store.specs.Slots.{other, is_open, stored, in_force, entry_in_force}
use Rattle.own_store.specs.declared.body.Stored.{Stored}
use Rattle.own_store.specs.declared.entry.Entry.{Entry}
use Rattle.own_store.specs.declared.slot.Slot.{Slot}

-- there is an entry, and its version is above that of the other, if there is another
abbrev pub IsNewer : Option Stored → Option Stored → Type 0
IsNewer None old = ⊥
IsNewer (Some next) None = Unit {0}
IsNewer (Some next) (Some old) = old.version < next.version

-- a ledger as its callers see it
pub record LedgerOver (D : Type 0) : Type 0 where
  pub disk : D
  pub version : ℕ
  pub shut : Bool

-- the version in force
abbrev pub version_in_force : Image → Option ℕ
version_in_force image = option_map (λ s. s.version) (in_force image)

-- the disk of a ledger that isn't shut
pub record IsReady {D : Type 0} (content : D → Image) (may_leave : D → Image → Type 0) (disk : D) (spare : Slot) (spare_open : Bool) (version : ℕ) : Type 0 where
  pub durable : IsDurable (content disk) (may_leave disk)
  pub opened : is_open (content disk) (other spare) ≡ true
  pub gate : is_open (content disk) spare ≡ spare_open
  pub unused : in_force (content disk) ≡ stored (content disk) (other spare)
  pub known : version_in_force (content disk) ≡ Some version

-- The entry is in force, and each crash leaves it so.
pub record IsInForce {D : Type 0} (content : D → Image) (may_leave : D → Image → Type 0) (ledger : LedgerOver D) (entry : Entry) : Type 0 where
  pub usable : ledger.shut ≡ false
  pub durable : IsDurable (content ledger.disk) (may_leave ledger.disk)
  pub force : in_force (content ledger.disk) ≡ Some (record { version = ledger.version; entry = entry })

-- the entry in force is that of the old image, or the new one
abbrev pub IsOldOrNew : Image → Entry → Image → Type 0
IsOldOrNew old entry image = (entry_in_force image ≡ entry_in_force old) ⊎ (entry_in_force image ≡ Some entry)
