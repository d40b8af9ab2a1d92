-- What a driver does to a pair of hosts it does to the guest that runs.
use Rattle.std.proofs.Common.{◌≡◌, ◌∙◌, ℕ, Bool, true, false, List, [], ◌∷◌, refl, ap, sym, subst, Some, None}
use Rattle.std.proofs.lemmas.List.{append-nil}
use Rattle.std.specs.Prelude.{Option, ◌++◌, length, if◌then◌else◌, Result, Ok, Err, IfOk}
use Rattle.vt_base.specs.Buffer.{zeros}
use Rattle.crb_port.specs.declared.job.PortState.{PortState}
use Rattle.crb_regs.specs.Access.{Access}
use Rattle.crb_regs.specs.Registers.{is_lost}
use Rattle.crb_regs.specs.declared.phase.Phase.TheVariants.{Idle, Lost}
use Rattle.crb_driver.specs.Bus.{Exchange, Reaches}
use Rattle.crb_regs.specs.Numbers.{ctrl_sts}
use Rattle.vt_base.specs.Numbers.{number}
use Rattle.crb_driver.specs.Accesses.{register_read, request_accesses, ready_accesses, size_accesses, finish_accesses}
use Rattle.crb_driver.specs.Calls.{RunsThen, AnswersCall, Fails, wait_accesses, run_accesses}
use Rattle.crb_driver.specs.declared.fault.DriverFault.{DriverFault}
use Rattle.crb_driver.specs.declared.fault.DriverFault.TheVariants.{Size, NotGranted, NotReady, TimedOut, Fatal, BadResponse}
use Rattle.crb_history.specs.Snapshot.{Snapshot}
use Rattle.crb_history.specs.Event.{History}
use Rattle.crb_history.specs.Device.{phase_of}
use Rattle.vt_base.specs.declared.types.HostName.{HostName}
use Rattle.vt_base.specs.declared.types.HostName.TheVariants.{A, B}
use Rattle.move_core.specs.Sides.{is_running}
use Rattle.vt_seat.specs.Follows.{RefinesOneHost, Refines, tpm_at}
use Rattle.vt_seat.specs.State.{WorldState}
use Rattle.vt_seat.specs.Moves.{CanGo}
use Rattle.vt_seat.specs.Seats.{world_of}
use Rattle.vt_world.specs.Bus.{Leads}
use Rattle.vt_world.specs.Pairs.{PairLeads, IsRunning, running_world}
use Rattle.vt_world.specs.State.{PairState, running_host, runs_at_a, seat_of}
use Rattle.vt_world.specs.Placement.{Placement, first_placement, moved}
use Rattle.vt_world.specs.Movable.{IsMovable, pieces_at}
use Rattle.vt_script.specs.Drive.{hex_line}
use Rattle.vt_script.specs.declared.drive.DriveLine.TheVariants.{Cmd, Move}
use Rattle.script_run.specs.Calls.{Calls, IsAtRest, IsWaiting, Responds}
use Rattle.script_run.specs.Placed.{pieces_of_move}
use Rattle.script_run.specs.Calls.{HasDriven}
use Rattle.script_run.specs.Start.{base_of}
use Rattle.script_run.specs.declared.start.Start.{Start}
use Rattle.script_run.proofs.Prefixes.{driven-start}

-- ---- accesses

pub guest-reaches : (xs : List Exchange) (old new : PairState PortState) → Reaches PairLeads old xs new → Reaches Leads (running_world old) xs (running_world new)
guest-reaches [] old new is = ap running_world is
guest-reaches (x ∷ xs) old new (next, leads, rest) = (running_world next, leads.guest, guest-reaches xs next new rest)

guest-runs : (old new : PairState PortState) (command : List ℕ) (polls : ℕ) (end : List Exchange) → RunsThen PairLeads old command polls end new → RunsThen Leads (running_world old) command polls end (running_world new)
guest-runs old new command polls end runs =
    record { seen = runs.seen; waiting = runs.waiting; within = runs.within; reaches = guest-reaches (run_accesses command runs.seen ++ end) old new runs.reaches }

pub guest-answers : (old new : PairState PortState) (command : List ℕ) (polls : ℕ) (response : List ℕ) → AnswersCall PairLeads old command polls response new → AnswersCall Leads (running_world old) command polls response (running_world new)
guest-answers old new command polls response answers =
    record { ctrl_sts = answers.ctrl_sts; usable = answers.usable; runs = guest-runs old new command polls (finish_accesses answers.ctrl_sts (number (length response)) response) answers.runs }

pub guest-fails : (old new : PairState PortState) (command : List ℕ) (polls room : ℕ) (fault : DriverFault) → Fails PairLeads old command polls room fault new → Fails Leads (running_world old) command polls room fault (running_world new)
guest-fails old new command polls room (Size n) fails = (fails.0, ap running_world fails.1)
guest-fails old new command polls room (NotGranted n) fails = (fails.0, guest-reaches (request_accesses n) old new fails.1)
guest-fails old new command polls room (NotReady n) fails =
    record { loc_sts = fails.loc_sts; granted = fails.granted; idle = fails.idle; reaches = guest-reaches (ready_accesses fails.loc_sts n) old new fails.reaches }
guest-fails old new command polls room (TimedOut n) fails = (
  fails.0,
  record { seen = fails.1.seen; waiting = fails.1.waiting; every = fails.1.every; reaches = guest-reaches (wait_accesses command fails.1.seen fails.1.seen.busy) old new fails.1.reaches },
)
guest-fails old new command polls room (Fatal n) fails = (fails.0, guest-runs old new command polls (register_read ctrl_sts n ∷ []) fails.1)
guest-fails old new command polls room (BadResponse n) fails =
    record { ctrl_sts = fails.ctrl_sts; usable = fails.usable; bad = fails.bad; runs = guest-runs old new command polls (size_accesses fails.ctrl_sts (number n)) fails.runs }

-- an access leaves the guest where it is
abbrev pub AccessesKeepPlaces : Type 0
AccessesKeepPlaces =
    (piece : ℕ) (s : Placement) (old new : PairState PortState) (a : Access) (value : ℕ) → IsMovable piece s old → PairLeads old a value new → IsMovable piece s new

-- so do any accesses
pub place-kept : AccessesKeepPlaces → (piece : ℕ) (s : Placement) (xs : List Exchange) (old new : PairState PortState) → IsMovable piece s old → Reaches PairLeads old xs new → IsMovable piece s new
place-kept keeps piece s [] old new movable is = subst (IsMovable piece s) is movable
place-kept keeps piece s (x ∷ xs) old new movable (next, leads, rest) = place-kept keeps piece s xs next new (keeps piece s old next x.access x.value movable leads) rest

pub place-answers : AccessesKeepPlaces → (piece : ℕ) (s : Placement) (command : List ℕ) (polls : ℕ) (response : List ℕ) (old new : PairState PortState) → IsMovable piece s old → AnswersCall PairLeads old command polls response new → IsMovable piece s new
place-answers keeps piece s command polls response old new movable answers =
    place-kept keeps piece s (run_accesses command answers.runs.seen ++ finish_accesses answers.ctrl_sts (number (length response)) response) old new movable answers.runs.reaches

-- ---- the host whose guest runs

-- a guest runs
pub runs : (w : PairState PortState) (name : HostName) → running_host w ≡ Some name → IsRunning w
runs w name is = by (runs_at_a w) (is_running w.b.host.stage) is
  where
    by : (at_a at_b : Bool) → (if at_a then Some A else (if at_b then Some B else None)) ≡ Some name → (if at_a then true else at_b) ≡ true
    by true at_b is = refl
    by false true is = refl
    by false false is = absurd (none is)
      where
        none : None ≡ Some name → ⊥
        none is = cc

-- what it sees is what the guest of its host sees
pub world-of-running : (w : PairState PortState) (name : HostName) → running_host w ≡ Some name → running_world w ≡ world_of (seat_of name w)
world-of-running w name is = by (runs_at_a w) (is_running w.b.host.stage) name is
  where
    by : (at_a at_b : Bool) (host : HostName) → (if at_a then Some A else (if at_b then Some B else None)) ≡ Some host → (if at_a then world_of w.a else world_of w.b) ≡ world_of (seat_of host w)
    by true at_b A is = refl
    by true at_b B is = absurd (other is)
      where
        other : Some A ≡ Some B → ⊥
        other is = cc
    by false true A is = absurd (other is)
      where
        other : Some B ≡ Some A → ⊥
        other is = cc
    by false at_b B is = refl
    by false false A is = absurd (none is)
      where
        none : None ≡ Some A → ⊥
        none is = cc

-- ---- moves

-- where no command is under way, the emulator has the TPM of the history
pub tpm-known : (b : Snapshot) (p : History) (w : WorldState) → IsAtRest b p w → w.link.emulator.tpm ≡ Some (tpm_at b p)
tpm-known b p w rest =
    let h = rest.after.host.history in
    let idle : phase_of b h ≡ Idle = ap (phase_of b) rest.after.same ∙ rest.idle in
    let behind = rest.after.follows.stands.link (ap is_lost idle) in
    let has : w.link.emulator.tpm ≡ Some (tpm_at b h) = rw idle at behind.emulator.tpm in
    has ∙ ap (λ q. Some (tpm_at b q)) rest.after.same

-- a guest that waits for a command can be moved
pub can-go : (b : Snapshot) (p : History) (w : WorldState) (rest : IsAtRest b p w) → CanGo b rest.after.host w
can-go b p w rest =
    let idle : phase_of b rest.after.host.history ≡ Idle = ap (phase_of b) rest.after.same ∙ rest.idle in
    record { follows = rest.after.follows; unordered = rest.after.unordered; working = λ lost. idle-lost (subst (λ x. x ≡ Lost) idle lost); unclaimed = rw idle refl }
  where
    idle-lost : Idle ≡ Lost → ⊥
    idle-lost is = cc

-- it waits for the same command wherever it goes on
pub rests-on : (b : Snapshot) (p : History) (old new : WorldState) (rest : IsAtRest b p old) → RefinesOneHost b rest.after.host new → IsAtRest b p new
rests-on b p old new rest follows = record {
  after = record { host = rest.after.host; follows = follows; unordered = rest.after.unordered; same = rest.after.same; legal = rest.after.legal };
  idle = rest.idle;
}

-- the buffer of the guest's device begins with zeros
pub begins-with-zeros : (start : Start) → (base_of start).device.phase ≡ Idle → (base_of start).device.content ≡ zeros 3968
unfolding base_of
begins-with-zeros start idle = refl

pub waits-on : (start : Start) (p : History) (s : Placement) (lost : Option ℕ) (old new : PairState PortState) (waits : IsWaiting start p s old) → pieces_at start.piece (running_world old) ≡ pieces_of_move start.piece (tpm_at (base_of start) p)
    → IsMovable start.piece (moved (pieces_at start.piece (running_world old)) lost s) new → RefinesOneHost (base_of start) waits.rest.after.host (running_world new) → IsWaiting start p (moved (pieces_of_move start.piece (tpm_at (base_of start) p)) lost s) new
waits-on start p s lost old new waits pieces movable follows = record {
  rest = rests-on (base_of start) p (running_world old) (running_world new) waits.rest follows;
  movable = subst (λ (n : ℕ). IsMovable start.piece (moved n lost s) new) pieces movable;
}

-- ---- one line

-- a command was done
pub called_responds : (start : Start) (p : History) (s : Placement) (command response old new : List ℕ) (was w : PairState PortState) → IsWaiting start p s was → Calls (base_of start) p command response (running_world w)
    → ((place : Placement) → IsMovable start.piece place was → IsMovable start.piece place w) → new ≡ old ++ hex_line response → Responds start p s (Cmd command) old new w
called_responds start p s command response old new was w waits calls keeps appended = record {
  history = calls.history;
  waits = record { rest = calls.rest; movable = keeps s waits.movable };
  past = calls.past;
  appended = appended ∙ ap (λ r. old ++ hex_line r) calls.answered;
}

-- the guest was moved
pub moved_responds : (start : Start) (p : History) (s : Placement) (old : List ℕ) (w : PairState PortState) → IsWaiting start p (moved (pieces_of_move start.piece (tpm_at (base_of start) p)) None s) w → Responds start p s Move old old w
moved_responds start p s old w waits = record { history = p; waits = waits; past = refl; appended = sym (append-nil old) }

-- ---- the beginning

-- the hosts that were made wait for the first line
pub made : {E : Type 0} (start : Start) (r : Result (PairState PortState) E) → IfOk r (λ w. Refines (base_of start) [] (world_of w.a)) → IfOk r (IsMovable start.piece first_placement) → IfOk r (HasDriven start [])
made start (Ok w) follows movable = driven-start start w (subst (Refines (base_of start) []) (sym (world-of-running w A movable.placed.running)) follows) movable
made start (Err fault) follows movable = tt
