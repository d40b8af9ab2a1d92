-- A world is saved, and made again from what was saved. (Own definitions.)
use Rattle.std.specs.Prelude.{◌≡◌, ◌≢◌, ℕ, List, Some, None}
use Rattle.vt_base.specs.declared.types.HostName.TheVariants.{A, B}
use Rattle.crb_regs.specs.declared.phase.Phase.TheVariants.{Lost}
use Rattle.saved_stream.specs.Streams.{IsStream}
use Rattle.saved_stream.specs.Refusals.{IsStreamRefused}
use Rattle.crb_history.specs.Snapshot.{Snapshot}
use Rattle.crb_history.specs.Device.{phase_of}
use Rattle.two_hosts.specs.Hosts.{TwoHosts, first_hosts}
use Rattle.two_seats.specs.Both.{TwoSeats, FollowsBoth, running_of}
use Rattle.vt_seat.specs.Seats.{StartsAs, IsEmptySeat}
use Rattle.vt_world.specs.declared.saving.Loaded.{Loaded}
use Rattle.vt_world.specs.declared.saving.Loaded.TheVariants as loaded

-- What is known of the hosts leads here, and A's guest runs. No call on A's wires is ordered to fail, and its device isn't lost.
pub record CanSave (b : Snapshot) (piece : ℕ) (t : TwoHosts) (w : TwoSeats) : Type 0 where
  pub follows : FollowsBoth b piece t w
  pub runs : running_of w ≡ Some A
  pub unordered : w.a.calls_to_fault ≡ None
  pub working : phase_of b t.history ≢ Lost

-- what bytes are loaded as: a world at the beginning of the values that they spell, or nothing
abbrev pub Loads : ℕ → List ℕ → Loaded → Type 0
Loads piece bytes (loaded.World w) = (b : Snapshot) × IsStream bytes b × FollowsBoth b piece (first_hosts b) w
Loads piece bytes (loaded.Bad fault) = IsStreamRefused fault bytes

-- no move was made: A's guest runs, and B is empty over an emulator without a TPM
pub record BeginsAs (piece : ℕ) (w : TwoSeats) : Type 0 where
  pub a : StartsAs A piece w.a
  pub b : IsEmptySeat B piece w.b

-- the world that was loaded, where one was
abbrev pub LoadedBegins : ℕ → Loaded → Type 0
LoadedBegins piece (loaded.World w) = BeginsAs piece w
LoadedBegins piece (loaded.Bad fault) = Unit {0}
