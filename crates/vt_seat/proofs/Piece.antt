-- How many bytes of a blob an emulator gives at most stays as it is.
use Rattle.std.proofs.Common.{◌≡◌, ℕ, Bool, true, false, List, [], ◌∷◌, ◌++◌, length, refl, ap, ◌∙◌, arith, Some, None, inl, inr}
use Rattle.std.specs.Prelude.{Option, Result}
use Rattle.std.proofs.lemmas.Bool.{cond_both}
use Rattle.vt_base.specs.declared.types.Chan.TheVariants.{Data}
use Rattle.vt_base.specs.declared.types.Kind.{Kind}
use Rattle.tpm_core.specs.declared.parts.TpmParts.{TpmParts}
use Rattle.ctrl_codec.specs.declared.request.Request.{Request}
use Rattle.ctrl_codec.specs.declared.request.Request.TheVariants.{GetCapability, Init, Shutdown, GetEstablished, SetLocality, CancelCommand, StoreVolatile, ResetEstablished, GetStateBlob, SetStateBlob, Stop, GetConfig, SetBufferSize}
use Rattle.ctrl_client.specs.declared.fault.ClientFault.{ClientFault}
use Rattle.ctrl_model.specs.Emulator.{EmulatorState, PendingCommand, RequestOutcome, HandlesRequest, InitsBy, StartsBy, Assembled, BlobTaken, TakesPiece, started_here, kind_of, is_nothing, volatile_taken}
use Rattle.ctrl_model.specs.Link.{Link, receivable, HandedBy, takes, with_frame, command_in, opened_by, received, SentBy}
use Rattle.ctrl_client.specs.Exchange.{Commands, CommandedBy, calls_of, sends_of}
use Rattle.ctrl_client.specs.Schedules.{fails_within}
use Rattle.crb_history.specs.Snapshot.{Snapshot}
use Rattle.vt_transcript.specs.OneHost.{OneHost}
use Rattle.crb_port.specs.Views.{PortView}
use Rattle.crb_port.specs.declared.job.Job.{Job}
use Rattle.crb_port.specs.declared.job.PortState.{PortState}
use Rattle.crb_machine.specs.Over.{plain_device}
use Rattle.crb_machine.specs.Model.{DeviceModel}
use Rattle.crb_worker.specs.Wires.{WorkerWires, worker_wires}
use Rattle.crb_worker.specs.Steps.{WorkerStep, is_longer, left_of, ReceivesRest}
use Rattle.crb_worker.specs.declared.progress.Progress.{Progress}
use Rattle.crb_worker.specs.declared.progress.Progress.TheVariants.{Free, Claimed as ClaimedJob, Sent as SentJob, HeaderReceived as RunJob}
use Rattle.crb_worker.specs.declared.progress.Step.{Step}
use Rattle.crb_worker.specs.declared.progress.Step.TheVariants.{Idle, Claim, Sent, Exec, Done, Cancelled, Lost}
use Rattle.vt_seat.specs.Wires.{fails_next, after_call}
use Rattle.vt_seat.specs.Follows.{RefinesOneHost}
use Rattle.vt_seat.proofs.Steps.{the_same, head_at_hand, no_head}
use Rattle.tpm_frame.specs.Frames.{first_frame}
use Rattle.vt_seat.proofs.WorkerSteps.{RestFacts, rest_facts}

-- ---- requests

-- what no request of a move changes: the size of a piece, whether the channel is closed, and the pending command
abbrev pub rest_of : EmulatorState → ℕ × Bool × Option PendingCommand
rest_of d = (d.piece, d.closed, d.held)

piece_started : (flags : ℕ) (tpm : Option TpmParts) (d : EmulatorState) (request_outcome : RequestOutcome) → request_outcome ≡ started_here flags tpm d → rest_of request_outcome.emulator ≡ rest_of d
piece_started flags None d request_outcome is = ap (λ (x : RequestOutcome). rest_of x.emulator) is
piece_started flags (Some t) d request_outcome is = ap (λ (x : RequestOutcome). rest_of x.emulator) is

piece_assembled : (volatile : List ℕ) (d : EmulatorState) (request_outcome : RequestOutcome) → Assembled volatile d request_outcome → rest_of request_outcome.emulator ≡ rest_of d
piece_assembled volatile d request_outcome (inl (t, is, same)) = ap (λ (x : RequestOutcome). rest_of x.emulator) same
piece_assembled volatile d request_outcome (inr (fault, is, same)) = ap (λ (x : RequestOutcome). rest_of x.emulator) same

piece_starts : (none : Bool) (flags : ℕ) (d : EmulatorState) (request_outcome : RequestOutcome) → StartsBy none flags d request_outcome → rest_of request_outcome.emulator ≡ rest_of d
piece_starts true flags d request_outcome is = piece_started flags d.tpm d request_outcome is
piece_starts false flags d request_outcome is = piece_assembled (volatile_taken flags d.gathers) d request_outcome is

piece_inits : (bad : Bool) (flags : ℕ) (d : EmulatorState) (request_outcome : RequestOutcome) → InitsBy bad flags d request_outcome → rest_of request_outcome.emulator ≡ rest_of d
piece_inits true flags d request_outcome is = ap (λ (x : RequestOutcome). rest_of x.emulator) is
piece_inits false flags d request_outcome is = piece_starts (is_nothing d.gathers) flags d request_outcome is

piece_takes : (kind : Option Kind) (bytes : List ℕ) (d : EmulatorState) (request_outcome : RequestOutcome) → TakesPiece kind bytes d request_outcome → rest_of request_outcome.emulator ≡ rest_of d
piece_takes None bytes d request_outcome is = ap (λ (x : RequestOutcome). rest_of x.emulator) is
piece_takes (Some kind) [] d request_outcome is = ap (λ (x : RequestOutcome). rest_of x.emulator) is
piece_takes (Some kind) (b ∷ bytes) d request_outcome (inl (none, same)) = ap (λ (x : RequestOutcome). rest_of x.emulator) same
piece_takes (Some kind) (b ∷ bytes) d request_outcome (inr (fault, is, same)) = ap (λ (x : RequestOutcome). rest_of x.emulator) same

piece_taken : (on plain : Bool) (type : ℕ) (bytes : List ℕ) (d : EmulatorState) (request_outcome : RequestOutcome) → BlobTaken on plain type bytes d request_outcome → rest_of request_outcome.emulator ≡ rest_of d
piece_taken true plain type bytes d request_outcome is = ap (λ (x : RequestOutcome). rest_of x.emulator) is
piece_taken false false type bytes d request_outcome is = ap (λ (x : RequestOutcome). rest_of x.emulator) is
piece_taken false true type bytes d request_outcome is = piece_takes (kind_of type) bytes d request_outcome is

-- the four requests that are answered by a result alone
abbrev pub IsPlain : Request → Type 0
IsPlain (Init flags) = Unit {0}
IsPlain CancelCommand = Unit {0}
IsPlain (SetStateBlob flags type size) = Unit {0}
IsPlain Stop = Unit {0}
IsPlain q = ⊥

-- the requests of a move
abbrev pub IsMoves : Request → Type 0
IsMoves (Init flags) = Unit {0}
IsMoves (SetStateBlob flags type size) = Unit {0}
IsMoves Stop = Unit {0}
IsMoves q = ⊥

pub obeys_rest : (q : Request) (bytes : List ℕ) (d : EmulatorState) (request_outcome : RequestOutcome) → IsMoves q → HandlesRequest q bytes d request_outcome → rest_of request_outcome.emulator ≡ rest_of d
obeys_rest (Init flags) bytes d request_outcome plain is = piece_inits _ flags d request_outcome is
obeys_rest (SetStateBlob flags type size) bytes d request_outcome plain is = piece_taken d.on _ type bytes d request_outcome is
obeys_rest Stop bytes d request_outcome plain is = ap (λ (x : RequestOutcome). rest_of x.emulator) is
obeys_rest CancelCommand bytes d request_outcome plain is = absurd plain
obeys_rest GetCapability bytes d request_outcome plain is = absurd plain
obeys_rest Shutdown bytes d request_outcome plain is = absurd plain
obeys_rest GetEstablished bytes d request_outcome plain is = absurd plain
obeys_rest (SetLocality l) bytes d request_outcome plain is = absurd plain
obeys_rest StoreVolatile bytes d request_outcome plain is = absurd plain
obeys_rest (ResetEstablished l) bytes d request_outcome plain is = absurd plain
obeys_rest (GetStateBlob flags type offset) bytes d request_outcome plain is = absurd plain
obeys_rest GetConfig bytes d request_outcome plain is = absurd plain
obeys_rest (SetBufferSize size) bytes d request_outcome plain is = absurd plain

pub obeys_piece : (q : Request) (bytes : List ℕ) (d : EmulatorState) (request_outcome : RequestOutcome) → IsPlain q → HandlesRequest q bytes d request_outcome → request_outcome.emulator.piece ≡ d.piece
obeys_piece (Init flags) bytes d request_outcome plain is = ap (λ (r : ℕ × Bool × Option PendingCommand). r.0) (obeys_rest (Init flags) bytes d request_outcome tt is)
obeys_piece CancelCommand bytes d request_outcome plain is = ap (λ (x : RequestOutcome). x.emulator.piece) is
obeys_piece (SetStateBlob flags type size) bytes d request_outcome plain is = ap (λ (r : ℕ × Bool × Option PendingCommand). r.0) (obeys_rest (SetStateBlob flags type size) bytes d request_outcome tt is)
obeys_piece Stop bytes d request_outcome plain is = ap (λ (r : ℕ × Bool × Option PendingCommand). r.0) (obeys_rest Stop bytes d request_outcome tt is)
obeys_piece GetCapability bytes d request_outcome plain is = absurd plain
obeys_piece Shutdown bytes d request_outcome plain is = absurd plain
obeys_piece GetEstablished bytes d request_outcome plain is = absurd plain
obeys_piece (SetLocality l) bytes d request_outcome plain is = absurd plain
obeys_piece StoreVolatile bytes d request_outcome plain is = absurd plain
obeys_piece (ResetEstablished l) bytes d request_outcome plain is = absurd plain
obeys_piece (GetStateBlob flags type offset) bytes d request_outcome plain is = absurd plain
obeys_piece GetConfig bytes d request_outcome plain is = absurd plain
obeys_piece (SetBufferSize size) bytes d request_outcome plain is = absurd plain

pub commands_piece : {P : Type 0} (fails : P → Bool) (later : P → P) (q : Request) (bytes : List ℕ) (l m : Link) (schedule : P) (answer : Result (Unit {0}) ClientFault) (now : P)
    → IsPlain q → Commands fails later q bytes l schedule answer (Some m) now → m.emulator.piece ≡ l.emulator.piece
commands_piece fails later q bytes l m schedule answer now plain exact = go (fails_within fails later (sends_of bytes) schedule) (fails_within fails later (calls_of bytes) schedule) exact.link
  where
    same : (x y : Link) → Some x ≡ Some y → x ≡ y
    same x y is = cc

    go : (first lost : Bool) → CommandedBy first lost q bytes l answer (Some m) → m.emulator.piece ≡ l.emulator.piece
    go true lost (answers, after) = ap (λ (x : Link). x.emulator.piece) (same _ _ after)
    go false lost (request_outcome, obeys, after, answers) = ap (λ (x : Link). x.emulator.piece) (same _ _ after) ∙ obeys_piece q bytes l.emulator request_outcome plain obeys

-- ---- the channel of commands

piece_opened : (pending : List ℕ) (held : Option PendingCommand) (l : Link) → (opened_by pending held l).emulator.piece ≡ l.emulator.piece
piece_opened (x ∷ xs) held l = refl
piece_opened [] None l = refl
piece_opened [] (Some h) l = cond_both _ _ _ (λ (d : EmulatorState). d.piece ≡ l.emulator.piece) (λ yes. refl) (λ no. refl)

pub received_piece : (ok : Bool) (count : ℕ) (l : Link) → (received ok Data count l).emulator.piece ≡ l.emulator.piece
received_piece true count l = piece_opened l.commands.pending l.emulator.held l
received_piece false count l = refl

-- ---- a step of the worker

sent_piece : (ok : Bool) (bytes : List ℕ) (l m : Link) → SentBy ok Data bytes l m → m.emulator.piece ≡ l.emulator.piece
sent_piece false bytes l m same = ap (λ (x : Link). x.emulator.piece) same
sent_piece true bytes l m handed = go (takes Data l) handed
  where
    held : (found : Option (List ℕ)) (all : List ℕ) → (with_frame found all l).emulator.piece ≡ l.emulator.piece
    held None all = refl
    held (Some command) all = refl

    go : (listens : Bool) → HandedBy listens Data bytes l m → m.emulator.piece ≡ l.emulator.piece
    go false same = ap (λ (x : Link). x.emulator.piece) same
    go true same = ap (λ (x : Link). x.emulator.piece) same ∙ held (command_in (l.commands.begun ++ bytes)) (l.commands.begun ++ bytes)

untouched : (l m : Link) (calls_to_fault calls_to_fault' : Option ℕ) (faults faults' : ℕ) → worker_wires fails_next after_call (Some m) calls_to_fault' faults' None ≡ worker_wires fails_next after_call (Some l) calls_to_fault faults None → m.emulator.piece ≡ l.emulator.piece
untouched l m calls_to_fault calls_to_fault' faults faults' same = ap (λ (x : Link). x.emulator.piece) (the_same m l (ap (λ (s : WorkerWires (Option ℕ)). s.link) same))

once_piece : (ok : Bool) (count : ℕ) (l m : Link) → Some m ≡ Some (received ok Data count l) → m.emulator.piece ≡ l.emulator.piece
once_piece ok count l m is = ap (λ (x : Link). x.emulator.piece) (the_same m _ is) ∙ received_piece ok count l

rest_piece : (longer : Bool) (b : Snapshot) (t : OneHost) (d : DeviceModel PortState) (job : Job) (head rest : List ℕ) (l m : Link) (calls_to_fault calls_to_fault' : Option ℕ) (faults faults' : ℕ)
    → RefinesOneHost b t (record { device = d; progress = RunJob job head; link = l; calls_to_fault = calls_to_fault; faults = 0 })
    → ReceivesRest longer (left_of head) rest (worker_wires fails_next after_call (Some l) calls_to_fault faults None) (worker_wires fails_next after_call (Some m) calls_to_fault' faults' None) → m.emulator.piece ≡ l.emulator.piece
rest_piece false b t d job head rest l m calls_to_fault calls_to_fault' faults faults' follows (none, same) = untouched l m calls_to_fault calls_to_fault' faults faults' same
rest_piece true b t d job head rest l m calls_to_fault calls_to_fault' faults faults' follows (next_are, receives) =
    let facts : RestFacts b (t.history) head l = rest_facts b (t.history) (plain_device d) l job head follows.fit follows.stands in
    let whole : length (receivable Data l) ≡ left_of head = ap length facts.there ∙ facts.left in
    once_piece true (left_of head) l m (receives.exact (omega (arith, whole))).link

pub work_piece : (b : Snapshot) (t : OneHost) (d : DeviceModel PortState) (progress next : Progress) (l m : Link) (calls_to_fault calls_to_fault' : Option ℕ) (faults faults' : ℕ) (step : Step) (j k : PortView)
    → RefinesOneHost b t (record { device = d; progress = progress; link = l; calls_to_fault = calls_to_fault; faults = 0 })
    → WorkerStep progress j (worker_wires fails_next after_call (Some l) calls_to_fault faults None) step next k (worker_wires fails_next after_call (Some m) calls_to_fault' faults' None) → m.emulator.piece ≡ l.emulator.piece
work_piece b t d Free next l m calls_to_fault calls_to_fault' faults faults' step j k follows works = untouched l m calls_to_fault calls_to_fault' faults faults' works.1
work_piece b t d (ClaimedJob job) next l m calls_to_fault calls_to_fault' faults faults' (Cancelled number) j k follows (held, named, free, posts, same) = untouched l m calls_to_fault calls_to_fault' faults faults' same
work_piece b t d (ClaimedJob job) next l m calls_to_fault calls_to_fault' faults faults' (Sent number) j k follows (held, named, now, same, sends) = sent_piece true (first_frame job.buf) l m sends.link
work_piece b t d (ClaimedJob job) next l m calls_to_fault calls_to_fault' faults faults' (Lost number) j k follows (held, up, sends) = sent_piece false (first_frame job.buf) l m sends.link
work_piece b t d (ClaimedJob job) next l m calls_to_fault calls_to_fault' faults faults' Idle j k follows works = absurd works
work_piece b t d (ClaimedJob job) next l m calls_to_fault calls_to_fault' faults faults' (Claim number) j k follows works = absurd works
work_piece b t d (ClaimedJob job) next l m calls_to_fault calls_to_fault' faults faults' (Exec number) j k follows works = absurd works
work_piece b t d (ClaimedJob job) next l m calls_to_fault calls_to_fault' faults faults' (Done number) j k follows works = absurd works
work_piece b t d (SentJob job) next l m calls_to_fault calls_to_fault' faults faults' (Exec number) j k follows (head, named, now, is, same, next_are, receives) =
    once_piece true 10 l m (receives.exact (head_at_hand b t d job l calls_to_fault follows)).link
work_piece b t d (SentJob job) next l m calls_to_fault calls_to_fault' faults faults' (Lost number) j k follows (up, inl receives) =
    once_piece false 10 l m (receives.exact (head_at_hand b t d job l calls_to_fault follows)).link
work_piece b t d (SentJob job) next l m calls_to_fault calls_to_fault' faults faults' (Lost number) j k follows (up, inr (head, none, next_are, receives)) =
    absurd (no_head b t d job l calls_to_fault head follows (next_are.exact (head_at_hand b t d job l calls_to_fault follows)) none)
work_piece b t d (SentJob job) next l m calls_to_fault calls_to_fault' faults faults' Idle j k follows works = absurd works
work_piece b t d (SentJob job) next l m calls_to_fault calls_to_fault' faults faults' (Claim number) j k follows works = absurd works
work_piece b t d (SentJob job) next l m calls_to_fault calls_to_fault' faults faults' (Sent number) j k follows works = absurd works
work_piece b t d (SentJob job) next l m calls_to_fault calls_to_fault' faults faults' (Done number) j k follows works = absurd works
work_piece b t d (SentJob job) next l m calls_to_fault calls_to_fault' faults faults' (Cancelled number) j k follows works = absurd works
work_piece b t d (RunJob job head) next l m calls_to_fault calls_to_fault' faults faults' (Done number) j k follows (response, named, free, posts, (rest, is, exact, took)) =
    rest_piece (is_longer head) b t d job head rest l m calls_to_fault calls_to_fault' faults faults' follows took
work_piece b t d (RunJob job head) next l m calls_to_fault calls_to_fault' faults faults' (Cancelled number) j k follows (response, named, free, posts, (rest, is, exact, took)) =
    rest_piece (is_longer head) b t d job head rest l m calls_to_fault calls_to_fault' faults faults' follows took
work_piece b t d (RunJob job head) next l m calls_to_fault calls_to_fault' faults faults' (Lost number) j k follows (up, long, receives) =
    let facts : RestFacts b (t.history) head l = rest_facts b (t.history) (plain_device d) l job head follows.fit follows.stands in
    let whole : length (receivable Data l) ≡ left_of head = ap length facts.there ∙ facts.left in
    once_piece false (left_of head) l m (receives.exact (omega (arith, whole))).link
work_piece b t d (RunJob job head) next l m calls_to_fault calls_to_fault' faults faults' Idle j k follows works = absurd works
work_piece b t d (RunJob job head) next l m calls_to_fault calls_to_fault' faults faults' (Claim number) j k follows works = absurd works
work_piece b t d (RunJob job head) next l m calls_to_fault calls_to_fault' faults faults' (Sent number) j k follows works = absurd works
work_piece b t d (RunJob job head) next l m calls_to_fault calls_to_fault' faults faults' (Exec number) j k follows works = absurd works
