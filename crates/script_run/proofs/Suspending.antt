-- The lines of a script are done, and then the host is saved.
use Rattle.std.proofs.Common.{◌≡◌, ℕ, take, true, false, List, [], ◌∷◌, ◌++◌, length, map, refl, ap, sym, subst, ◌∙◌, Some, None, inl, inr}
use Rattle.std.specs.Prelude.{◌≢◌, Bool, if◌then◌else◌, Option, option_and_then, IfSome}
use Rattle.std.specs.Io.KnownBytes.{IsAtEnd}
use Rattle.vt_base.specs.declared.status.Status.{Status}
use Rattle.vt_base.specs.declared.status.Status.TheVariants.{Ok, Memory, NotYet}
use Rattle.crb_regs.specs.declared.phase.Phase.TheVariants.{Idle, Lost}
use Rattle.vt_script.specs.declared.event.Event.{Event as Line}
use Rattle.vt_script.specs.declared.event.Event.TheVariants.{Access, Work, Ask, Reset, Offer, Deliver, GiveUp, Again, Show, Fail}
use Rattle.vt_script.specs.declared.reply.Reply.{Reply}
use Rattle.vt_script.specs.Script.{lines_of, event_of}
use Rattle.crb_history.specs.Snapshot.{Snapshot}
use Rattle.crb_history.specs.Device.{phase_of}
use Rattle.crb_history.specs.Event.{History}
use Rattle.vt_transcript.specs.Plain.{is_plain, ArePlain, plain, plain_history}
use Rattle.vt_transcript.specs.OneHost.{OneHost, one_after, one_of_transcript}
use Rattle.vt_transcript.specs.Replies.{Transcript, exchange, line_of, history, injected_fault_of, call_count, IsRun}
use Rattle.vt_base.specs.declared.types.HostName.{HostName}
use Rattle.vt_base.specs.declared.types.HostName.TheVariants.{A, B}
use Rattle.two_hosts.specs.Hosts.{TwoHosts, first_hosts, running_host, working_host, is_working, guest_line_on_any, after_work, after_work_at, after_line}
use Rattle.two_hosts.proofs.InvariantKept.{running_stage}
use Rattle.move_core.specs.Sides.{is_running}
use Rattle.move_core.specs.declared.stage.MoveStage.{MoveStage}
use Rattle.move_core.specs.declared.stage.MoveStage.TheVariants.{Running}
use Rattle.two_seats.specs.Both.{TwoSeats, FollowsBoth, StepsBoth, one_of, running_of, draining_of}
use Rattle.vt_seat.specs.Follows.{Refines, StepRefines, IsInjected}
use Rattle.vt_seat.specs.Seats.{world_of}
use Rattle.vt_world.specs.Saving.{CanSave}
use Rattle.vt_seat.specs.Saving.{Saves}
use Rattle.vt_seat.specs.declared.saving.Saved.TheVariants as saved
use Rattle.script_run.specs.Start.{base_of}
use Rattle.script_run.specs.declared.start.Start.{Start}
use Rattle.script_run.specs.Output.{SinkView, Wrote, Finishes, FinishesAlone}
use Rattle.script_run.specs.Run.{IsWithinLimits, Leaves, in_order, meanings}
use Rattle.line_loop.specs.Actors.{GivesBy, done_by, HasEnded}
use Rattle.script_run.specs.declared.suspend.SuspendedWorld.{SuspendedWorld}
use Rattle.script_run.specs.Saved.{plain_line, plain_event_of, AreLines, GuestLines, SuspendsAt, suspended, not_yet_text}
use Rattle.script_run.specs.Causes.{HasCauses}
use Rattle.script_run.specs.Loop.{Suspends, HasSuspended, WritesSaved}
use Rattle.std.proofs.lemmas.List.{append-nil}
use Rattle.script_run.proofs.Endings.{leaves-too, leaves-end, finishes-behind, finished-causes, told-causes, memory-causes}
use Rattle.script_run.proofs.Prefixes.{are-more, are-first}

-- host A at the beginning
runs_first : (b : Snapshot) (piece : ℕ) (world : TwoSeats) → FollowsBoth b piece (first_hosts b) world → (Refines b [] (world_of world.a)) × (running_of world ≡ Some A)
runs_first b piece world f = (record { fit = f.fit; stands = (f.seats A).stands; calls_to_fault = (f.seats A).calls_to_fault }, rw (f.seats A).stage_is refl)

pub suspended-start : (start : Start) (world : TwoSeats) → FollowsBoth (base_of start) start.piece (first_hosts (base_of start)) world → HasSuspended start [] world
suspended-start start world f =
    let first = runs_first (base_of start) start.piece world f in
    record {
      done = [];
      transcript = [];
      are = refl;
      plain = tt;
      same = refl;
      run = record { legal = tt; in_turn = tt };
      follows = first.0;
      hosts = first_hosts (base_of start);
      same_host = refl;
      both = f;
      here = first.1;
    }

line_is : (x line : Line) → Some x ≡ Some line → x ≡ line
line_is x line same = cc

-- a line that is done lets no call fail
plain_by : (found : Option Line) (line : Line) → option_and_then plain_line found ≡ Some line → is_plain line ≡ true
plain_by None line is = cc
plain_by (Some (Access access)) line is = rw (← line_is (Access access) line is) refl
plain_by (Some Work) line is = rw (← line_is Work line is) refl
plain_by (Some Ask) line is = rw (← line_is Ask line is) refl
plain_by (Some Reset) line is = rw (← line_is Reset line is) refl
plain_by (Some Offer) line is = cc
plain_by (Some (Deliver message)) line is = cc
plain_by (Some GiveUp) line is = cc
plain_by (Some Again) line is = cc
plain_by (Some (Show message)) line is = cc
plain_by (Some (Fail host call)) line is = cc

-- the stage of a host whose guest runs
a_runs : (t : TwoHosts) → running_host t ≡ Some A → t.a.side.stage ≡ Running
a_runs t here = by (is_running t.a.side.stage) (is_running t.b.side.stage) refl here
  where
    by : (x y : Bool) → is_running t.a.side.stage ≡ x → (if x then Some A else (if y then Some B else None)) ≡ Some A → t.a.side.stage ≡ Running
    by true y a is = running_stage t.a.side.stage a
    by false true a is = absurd cc
    by false false a is = absurd cc

-- a line of the guest leads host A on as it leads one host
one_led : (b : Snapshot) (piece : ℕ) (t : TwoHosts) (line : Line) (reply : Reply) → is_plain line ≡ true → running_host t ≡ Some A → one_of (after_line b piece t line reply) A ≡ one_after b (one_of t A) line reply
one_led b piece t (Access access) reply is here = ap (λ (found : Option HostName). one_of (guest_line_on_any b t found (Access access) reply) A) here
one_led b piece t Work reply is here =
    let at = a_runs t here in
    let found : working_host t ≡ Some A = ap (λ (s : MoveStage). if is_working s then Some A else (if is_working t.b.side.stage then Some B else None)) at in
    ap (λ (k : Option HostName). one_of (after_work b t k reply) A) found ∙ ap (λ (s : MoveStage). one_of (after_work_at b t A s reply) A) at
one_led b piece t Ask reply is here = ap (λ (found : Option HostName). one_of (guest_line_on_any b t found Ask reply) A) here
one_led b piece t Reset reply is here = ap (λ (found : Option HostName). one_of (guest_line_on_any b t found Reset reply) A) here
one_led b piece t Offer reply is here = absurd cc
one_led b piece t (Deliver message) reply is here = absurd cc
one_led b piece t GiveUp reply is here = absurd cc
one_led b piece t Again reply is here = absurd cc
one_led b piece t (Show message) reply is here = absurd cc
one_led b piece t (Fail host call) reply is here = absurd cc

-- where A's guest runs, `work` isn't a line of a host that drains
pub not_draining : (w : TwoSeats) → running_of w ≡ Some A → running_of w ≡ None → draining_of w ≡ None
not_draining w here none = absurd (let wrong : Some A ≡ None = sym here ∙ none in cc)

-- the host whose guest runs is the one that is known to
runs_as_known : (b : Snapshot) (piece : ℕ) (t : TwoHosts) (w : TwoSeats) → FollowsBoth b piece t w → running_of w ≡ Some A → running_host t ≡ Some A
runs_as_known b piece t w f here = let same : running_of w ≡ running_host t = rw ((f.seats A).stage_is, (f.seats B).stage_is) refl in sym same ∙ here

-- one more line
pub suspended-more : (start : Start) (lines : List (List ℕ)) (old new : TwoSeats) (text : List ℕ) (line : Line) (reply : Reply) (d : HasSuspended start lines old) → plain_event_of text ≡ Some line
    → StepRefines (base_of start) d.transcript line reply (world_of new.a) → StepsBoth (base_of start) start.piece d.hosts line reply new → running_of new ≡ running_of old → HasSuspended start (lines ++ text ∷ []) new
suspended-more start lines old new text line reply d is steps both stays =
    let plain = plain_by (event_of text) line is in
    let led = one_led (base_of start) start.piece d.hosts line reply plain (runs_as_known (base_of start) start.piece d.hosts old d.both d.here) in
    record {
      done = line ∷ d.done;
      transcript = exchange line reply ∷ d.transcript;
      are = are-more plain_event_of Some lines d.done text line d.are is;
      plain = (d.plain, plain);
      same = ap (λ rest. Some line ∷ rest) d.same;
      run = record { legal = steps.legal d.run.legal; in_turn = (d.run.in_turn, steps.answers) };
      follows = steps.follows;
      hosts = after_line (base_of start) start.piece d.hosts line reply;
      same_host = led ∙ ap (λ (s : OneHost). one_after (base_of start) s line reply) d.same_host;
      both = both.follows;
      here = stays ∙ d.here;
    }

-- the lines so far give nothing
suspended-gives : (start : Start) (script : List ℕ) (lines : List (List ℕ)) (output : List ℕ) (world : TwoSeats) (n : ℕ) → lines ≡ take n (lines_of script) → length lines ≡ n → output ≡ [] → HasSuspended start lines world → GuestLines script n output
suspended-gives start script lines output world n is count none d =
    let first = are-first plain_event_of Some script lines d.done n is count d.are in
    (d.done, first.0, first.1, none)

idle_works : Idle ≡ Lost → ⊥
idle_works is = cc

-- the history of the hosts is the one that the lines have
saved-history : (start : Start) (lines : List (List ℕ)) (world : TwoSeats) (d : HasSuspended start lines world) → d.transcript ≡ plain (base_of start) d.done → d.hosts.history ≡ plain_history (base_of start) d.done
saved-history start lines world d one = ap (λ (s : OneHost). s.history) d.same_host ∙ ap (history (base_of start)) one

-- the host can be saved
pub can_save : (start : Start) (lines : List (List ℕ)) (world : TwoSeats) (d : HasSuspended start lines world)
    → ((b : Snapshot) (ls : List Line) (u : Transcript) → ArePlain ls → map line_of u ≡ map Some ls → IsRun b u → u ≡ plain b ls)
    → ((b : Snapshot) (ls : List Line) → ArePlain ls → injected_fault_of (plain b ls) ≡ None)
    → ((b : Snapshot) (ls : List Line) → ArePlain ls → b.device.phase ≢ Lost → phase_of b (plain_history b ls) ≢ Lost)
    → CanSave (base_of start) start.piece d.hosts world
unfolding base_of
can_save start lines world d one unordered working =
    let same : d.transcript ≡ plain (base_of start) d.done = one (base_of start) d.done d.transcript d.plain d.same d.run in
    let none : injected_fault_of d.transcript ≡ None = ap injected_fault_of same ∙ unordered (base_of start) d.done d.plain in
    record {
      follows = d.both;
      runs = d.here;
      unordered = subst (λ (f : Option ℕ). IsInjected f (call_count (base_of start) d.transcript) world.a.calls_to_fault) none d.follows.calls_to_fault;
      working = λ lost. working (base_of start) d.done d.plain idle_works (ap (phase_of (base_of start)) (sym (saved-history start lines world d same)) ∙ lost);
    }

-- what is written then
module _ (start : Start) (script : List ℕ) (lines : List (List ℕ)) (world : TwoSeats) (d : HasSuspended start lines world) (within : IsWithinLimits script) (all : lines ≡ lines_of script) (one : d.transcript ≡ plain (base_of start) d.done) where
  are-all : AreLines script d.done
  are-all = sym (ap (map plain_event_of) all) ∙ d.are

  suspends-whole : (stream : List ℕ) (result : Status) (left : Option (List ℕ)) (a b : SinkView) → Saves (base_of start) d.hosts.history saved.Whole [] stream → Finishes Ok (stream ++ []) result a b → Leaves result (suspended start script) left a b
  suspends-whole stream result left a b saves finishes =
      let ends : (suspended start script).Ends Ok stream =
      (d.done, within, are-all, subst (λ (p : History). SuspendsAt (base_of start) p Ok stream) (saved-history start lines world d one) (saves.may, saves.appended)) in
      leaves-end (suspended start script) Ok result left a b stream tt ends (subst (λ (text : List ℕ). Finishes Ok text result a b) (append-nil stream) finishes)

  suspends-early : (number : ℕ) (stream : List ℕ) (result : Status) (left : Option (List ℕ)) (a b : SinkView) → Saves (base_of start) d.hosts.history (saved.NotYet number) [] stream → Finishes NotYet (not_yet_text number) result a b → Leaves result (suspended start script) left a b
  suspends-early number stream result left a b saves finishes =
      let ends : (suspended start script).Ends NotYet (not_yet_text number) =
      (d.done, within, are-all, subst (λ (p : History). SuspendsAt (base_of start) p NotYet (not_yet_text number)) (saved-history start lines world d one) (saves.0, ap not_yet_text saves.1)) in
      leaves-end (suspended start script) NotYet result left a b (not_yet_text number) tt ends finishes

  no_memory : (left : Option (List ℕ)) (result : Status) (a b c : SinkView) → Wrote a b [] → result ≡ Memory → c ≡ b → Leaves result (suspended start script) left a c
  no_memory left result a b c first is kept = rw (is, kept) ([], first, inl refl)

  pub suspends-saved : (result : Status) (left : Option (List ℕ)) (a b c : SinkView) → Wrote a b [] → WritesSaved (base_of start) d.hosts.history result b c → Leaves result (suspended start script) left a c
  suspends-saved result left a b c first (inl (stream, saves, finishes)) = suspends-whole stream result left a c saves (finishes-behind Ok (stream ++ []) result a b c first finishes)
  suspends-saved result left a b c first (inr (inl (number, stream, saves, inl (is, kept)))) = no_memory left result a b c first is kept
  suspends-saved result left a b c first (inr (inl (number, stream, saves, inr finishes))) = suspends-early number stream result left a c saves (finishes-behind NotYet (not_yet_text number) result a b c first finishes)
  suspends-saved result left a b c first (inr (inr (is, kept))) = no_memory left result a b c first is kept

pub saved-causes : (b : Snapshot) (p : History) (result : Status) (old new : SinkView) (sure : Bool) (left : Option (List ℕ)) (reads reads_now writes : ℕ) → IsAtEnd left → old.faults ≡ writes → WritesSaved b p result old new
    → HasCauses result sure left reads reads_now writes new.faults
saved-causes b p result old new sure left reads reads_now writes ended same (inl (stream, saves, finishes)) = finished-causes Ok result (stream ++ []) old new sure left reads reads_now writes tt (λ e. ended) same finishes
saved-causes b p result old new sure left reads reads_now writes ended same (inr (inl (number, stream, saves, exact))) = told-causes NotYet result (not_yet_text number) old new sure left reads reads_now writes tt (λ e. ended) same exact
saved-causes b p result old new sure left reads reads_now writes ended same (inr (inr (is, kept))) = rw is (memory-causes sure left reads reads_now writes new.faults)

-- ---- the loop over the lines

module _ (first now : SuspendedWorld) (left : Option (List ℕ)) (a c : SinkView) where
  nothing : (script : List ℕ) (n : ℕ) (output : List ℕ) → GivesBy Suspends first script n output → GuestLines script n output
  nothing script n output g = suspended-gives first.start script g.lines output g.now.world n g.are g.count g.goes_here.1 g.goes_here.2

  -- it ended early
  pub suspended-stops : (input : Option (List ℕ)) (s : Status) → s ≢ Ok → IfSome input (λ script. Leaves s (done_by Suspends (λ line. plain_event_of line ≡ None) first script) left a c) → IfSome input (λ script. Leaves s (suspended first.start script) left a c)
  suspended-stops None s early stopped = tt
  suspended-stops (Some script) s early stopped =
      leaves-too (done_by Suspends (λ line. plain_event_of line ≡ None) first script) (suspended first.start script) (nothing script) (λ n bad. bad) (λ n text passes. passes)
      (λ output rest fault. (fault.0, nothing script fault.0 output fault.1, fault.2)) (λ status output ends. inl (length (lines_of script), nothing script (length (lines_of script)) output ends.2)) s left a c
      (λ output ends. absurd (early ends.0)) stopped

  -- all lines are done, and the host was saved
  pub suspended-ends : (input : Option (List ℕ)) (e : HasEnded Suspends first now input a c) (d : SinkView) (result : Status) (one : e.goes_here.2.transcript ≡ plain (base_of first.start) e.goes_here.2.done)
      → WritesSaved (base_of first.start) e.goes_here.2.hosts.history result c d → IfSome input (λ script. Leaves result (suspended first.start script) left a d)
  suspended-ends None e d result one writes = tt
  suspended-ends (Some script) e d result one writes =
      let wrote : Wrote a c [] = subst (λ (z : List ℕ). Wrote a c z) e.goes_here.1 e.wrote in
      suspends-saved first.start script e.lines now.world e.goes_here.2 e.all.0 e.all.1 one result left a c d wrote writes
