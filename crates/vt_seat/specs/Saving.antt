-- A seat is saved, and made again from what was saved. (Own definitions.)
use Rattle.std.specs.Prelude.{◌≡◌, ◌≢◌, ℕ, true, List, [], ◌++◌, None, Result, Ok, Err}
use Rattle.vt_base.specs.declared.types.Malformed.{Malformed}
use Rattle.saved_stream.specs.Streams.{encode_stream, IsStream}
use Rattle.saved_stream.specs.Refusals.{IsStreamRefused}
use Rattle.crb_regs.specs.declared.phase.Phase.TheVariants.{Lost}
use Rattle.crb_port.specs.declared.job.PortState.{PortState}
use Rattle.crb_history.specs.Snapshot.{Snapshot, IsValidSnapshot}
use Rattle.crb_history.specs.Device.{phase_of, number_of}
use Rattle.crb_history.specs.Event.{History}
use Rattle.crb_history.specs.Continued.{snapshot_after, MaySuspend}
use Rattle.vt_transcript.specs.OneHost.{OneHost}
use Rattle.vt_transcript.specs.Replies.{is_under_way}
use Rattle.vt_base.specs.declared.types.HostName.{HostName}
use Rattle.vt_seat.specs.Follows.{RefinesOneHost, Refines}
use Rattle.vt_seat.specs.State.{WorldState, SeatState}
use Rattle.vt_seat.specs.Seats.{world_of, StartsAs}
use Rattle.vt_seat.specs.declared.saving.Saved.{Saved}
use Rattle.vt_seat.specs.declared.saving.Saved.TheVariants as saved

-- what is known of the host leads here, no call is ordered to fail, and the device isn't lost
pub record CanSave (b : Snapshot) (s : OneHost) (w : WorldState) : Type 0 where
  pub follows : RefinesOneHost b s w
  pub unordered : s.injected_fault ≡ None
  pub working : phase_of b s.history ≢ Lost

-- the saved stream of the values at the end of the history was appended
pub record SavesAll (b : Snapshot) (p : History) (old new : List ℕ) : Type 0 where
  pub may : MaySuspend b p
  pub fit : IsValidSnapshot (snapshot_after b p)
  pub appended : new ≡ old ++ encode_stream (snapshot_after b p)

-- what a save leaves, by its answer
abbrev pub Saves : Snapshot → History → Saved → List ℕ → List ℕ → Type 0
Saves b p saved.Whole old new = SavesAll b p old new
Saves b p (saved.NotYet number) old new = (is_under_way b p ≡ true) × (number ≡ number_of b p) × (new ≡ old)

-- what bytes are loaded as: a host that stands at the beginning of the values that they encode, or nothing
abbrev pub Loads : List ℕ → Result (SeatState PortState) Malformed → Type 0
Loads bytes (Ok s) = (b : Snapshot) × IsStream bytes b × Refines b [] (world_of s)
Loads bytes (Err fault) = IsStreamRefused fault bytes

-- the host that was loaded runs under this name, with pieces of this size
abbrev pub IsLoaded : HostName → ℕ → Result (SeatState PortState) Malformed → Type 0
IsLoaded name piece (Ok s) = StartsAs name piece s
IsLoaded name piece (Err fault) = Unit {0}
