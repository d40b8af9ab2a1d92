-- What a run leaves, and what a caller may know of it.
use Rattle.std.proofs.Common.{◌≡◌, ◌≢◌, ℕ, List, [], ◌++◌, length, refl, sym, subst, ◌∙◌, inl, inr, Some, None, Option}
use Rattle.std.specs.Prelude.{IfSome, IfNone, IsTrue, Bool, unwrap_or}
use Rattle.std.specs.Io.KnownBytes.{IsAtEnd}
use Rattle.vt_base.specs.Faults.{Rose}
use Rattle.vt_base.specs.declared.status.Status.{Status}
use Rattle.vt_base.specs.declared.status.Status.TheVariants.{Ok, Usage, Script, ReadFault, WriteFault, Memory, Limit, Refused, NotYet}
use Rattle.script_run.specs.Output.{SinkView, Wrote, Finishes, FinishesAlone}
use Rattle.script_run.specs.Run.{InputReading, IsToPrint, PrintsFault, Leaves, Writes, IsCramped}
use Rattle.script_run.specs.Causes.{HasCauses}
use Rattle.line_loop.proofs.Endings.{leaves-nothing}
use Rattle.line_loop.proofs.Writing.{wrote-more, breaks-behind}

-- ---- another reading of an input

-- where the second reading says all that the first one says
module _ (r q : InputReading) (gives : (n : ℕ) (output : List ℕ) → r.Gives n output → q.Gives n output) (bad : (n : ℕ) → r.IsBad n → q.IsBad n)
    (passes : (n : ℕ) (text : List ℕ) → r.PassesLimit n text → q.PassesLimit n text) (faults : (output left : List ℕ) → r.Faults output left → q.Faults output left)
    (prints : (status : Status) (output : List ℕ) → r.Ends status output → IsToPrint q output) where
  print-too : (all : List ℕ) → IsToPrint r all → IsToPrint q all
  print-too all (inl (n, g)) = inl (n, gives n all g)
  print-too all (inr (inl (n, before, g, b, is))) = inr (inl (n, before, gives n before g, bad n b, is))
  print-too all (inr (inr (inl (n, before, text, g, p, is)))) = inr (inr (inl (n, before, text, gives n before g, passes n text p, is)))
  print-too all (inr (inr (inr (status, e)))) = prints status all e

  fault-too : (left : Option (List ℕ)) (output : List ℕ) → PrintsFault r left output → PrintsFault q left output
  fault-too None output fault = tt
  fault-too (Some left) output fault = faults output left fault

  pub leaves-too : (status : Status) (left : Option (List ℕ)) (a b : SinkView) → ((output : List ℕ) → r.Ends status output → q.Ends status output) → Leaves status r left a b → Leaves status q left a b
  leaves-too Ok left a b ends (output, wrote, e) = (output, wrote, ends output e)
  leaves-too Refused left a b ends (output, wrote, e) = (output, wrote, ends output e)
  leaves-too NotYet left a b ends (output, wrote, e) = (output, wrote, ends output e)
  leaves-too Script left a b ends (output, wrote, (n, before, g, bd, is)) = (output, wrote, (n, before, gives n before g, bad n bd, is))
  leaves-too Limit left a b ends (output, wrote, (n, before, text, g, p, is)) = (output, wrote, (n, before, text, gives n before g, passes n text p, is))
  leaves-too Memory left a b ends (output, wrote, inl none) = (output, wrote, inl none)
  leaves-too Memory left a b ends (output, wrote, inr (n, g)) = (output, wrote, inr (n, gives n output g))
  leaves-too ReadFault left a b ends (output, wrote, fault) = (output, wrote, fault-too left output fault)
  leaves-too WriteFault left a b ends (all, is, broken) = (all, print-too all is, broken)
  leaves-too Usage left a b ends (output, wrote, nothing) = absurd nothing

-- ---- a last text

-- the statuses that a last text comes with
abbrev pub IsLast : Status → Type 0
IsLast Ok = Unit {0}
IsLast Refused = Unit {0}
IsLast NotYet = Unit {0}
IsLast status = ⊥

ends-with : (r : InputReading) (status : Status) (left : Option (List ℕ)) (a b : SinkView) (text : List ℕ) → IsLast status → r.Ends status text → Wrote a b text → Leaves status r left a b
ends-with r Ok left a b text last ends wrote = (text, wrote, ends)
ends-with r Refused left a b text last ends wrote = (text, wrote, ends)
ends-with r NotYet left a b text last ends wrote = (text, wrote, ends)
ends-with r Usage left a b text last ends wrote = absurd last
ends-with r Script left a b text last ends wrote = absurd last
ends-with r ReadFault left a b text last ends wrote = absurd last
ends-with r WriteFault left a b text last ends wrote = absurd last
ends-with r Memory left a b text last ends wrote = absurd last
ends-with r Limit left a b text last ends wrote = absurd last

pub leaves-end : (r : InputReading) (status result : Status) (left : Option (List ℕ)) (a b : SinkView) (text : List ℕ) → IsLast status → r.Ends status text → Finishes status text result a b → Leaves result r left a b
leaves-end r status result left a b text last ends (inl (is, wrote)) = rw is (ends-with r status left a b text last ends wrote)
leaves-end r status result left a b text last ends (inr (is, broken)) = rw is (text, inr (inr (inr (status, ends))), broken)

pub leaves-exact : (r : InputReading) (status result : Status) (left : Option (List ℕ)) (a b : SinkView) (text : List ℕ) → IsLast status → r.Ends status text → FinishesAlone status text result a b → Leaves result r left a b
leaves-exact r status result left a b text last ends (inl (is, kept)) = rw (is, kept) (leaves-nothing a r left)
leaves-exact r status result left a b text last ends (inr finishes) = leaves-end r status result left a b text last ends finishes

-- ---- what a caller may know of a run that left this

pub leaves-writes : (status : Status) (r : InputReading) (left : Option (List ℕ)) (a b : SinkView) → Leaves status r left a b → Writes status r left a.written b.written
leaves-writes Ok r left a b (output, wrote, prints) = (output, wrote.appends, prints)
leaves-writes Usage r left a b (output, wrote, prints) = absurd prints
leaves-writes Script r left a b (output, wrote, prints) = (output, wrote.appends, prints)
leaves-writes ReadFault r left a b (output, wrote, prints) = (output, wrote.appends, prints)
leaves-writes WriteFault r left a b (all, is, broken) = (broken.prefix.0, broken.prefix.3, (broken.prefix.1, rw broken.prefix.2 is))
leaves-writes Memory r left a b (output, wrote, prints) = (output, wrote.appends, prints)
leaves-writes Limit r left a b (output, wrote, prints) = (output, wrote.appends, prints)
leaves-writes Refused r left a b (output, wrote, prints) = (output, wrote.appends, prints)
leaves-writes NotYet r left a b (output, wrote, prints) = (output, wrote.appends, prints)

pub leaves-cramped : (status : Status) (r : InputReading) (left : Option (List ℕ)) (a b : SinkView) → Leaves status r left a b → status ≡ WriteFault → IsCramped r a.room
leaves-cramped status r left a b leaves is = let found = rw is at leaves in (found.0, found.1, found.2.room)

-- where the bytes of the source are known
pub of-any : {A : Type 0} {P : Type 0} (input : Option A) → P → IfSome input (λ _. P)
of-any None p = tt
of-any (Some bytes) p = p

pub all-writes : (status : Status) (reading : List ℕ → InputReading) (input left : Option (List ℕ)) (a b : SinkView) → IfSome input (λ bytes. Leaves status (reading bytes) left a b) → IfSome input (λ bytes. Writes status (reading bytes) left a.written b.written)
all-writes status reading None left a b leaves = tt
all-writes status reading (Some bytes) left a b leaves = leaves-writes status (reading bytes) left a b leaves

pub all-cramped : (status : Status) (reading : List ℕ → InputReading) (input left : Option (List ℕ)) (a b : SinkView) → IfSome input (λ bytes. Leaves status (reading bytes) left a b) → IfSome input (λ bytes. status ≡ WriteFault → IsCramped (reading bytes) a.room)
all-cramped status reading None left a b leaves = tt
all-cramped status reading (Some bytes) left a b leaves = leaves-cramped status (reading bytes) left a b leaves

-- ---- the causes of a status

pub loop-causes : (end : Option Status) (sure : Bool) (left : Option (List ℕ)) (reads reads_now writes writes_now : ℕ) → IfNone end (IsAtEnd left) → IfSome end (λ s. s ≡ ReadFault → Rose reads reads_now) → IfSome end (λ s. s ≡ WriteFault → Rose writes writes_now)
    → (IsTrue sure → IfSome end (λ s. s ≢ ReadFault)) → IfSome end (λ s. s ≢ Ok) → IfSome end (λ s. s ≢ Usage) → HasCauses (unwrap_or end Ok) sure left reads reads_now writes writes_now
loop-causes None sure left reads reads_now writes writes_now ended read write promised not_ok not_usage = record {
  read_to_end = λ e. ended;
  read_fault = λ e. absurd (no e);
  write_fault = λ e. absurd (none e);
  reads_if_promised = λ p e. no e;
  not_usage = λ e. other e;
}
  where
    no : Ok ≡ ReadFault → ⊥
    no e = cc

    none : Ok ≡ WriteFault → ⊥
    none e = cc

    other : Ok ≡ Usage → ⊥
    other e = cc
loop-causes (Some s) sure left reads reads_now writes writes_now ended read write promised not_ok not_usage = record {
  read_to_end = λ e. absurd (not_ok e);
  read_fault = read;
  write_fault = write;
  reads_if_promised = promised;
  not_usage = not_usage;
}

memory-fault : Memory ≡ ReadFault → ⊥
memory-fault e = cc

-- lack of memory has no cause
pub memory-causes : (sure : Bool) (left : Option (List ℕ)) (reads reads_now writes writes_now : ℕ) → HasCauses Memory sure left reads reads_now writes writes_now
memory-causes sure left reads reads_now writes writes_now = record { read_to_end = λ e. cc; read_fault = λ e. cc; write_fault = λ e. cc; reads_if_promised = λ p e. memory-fault e; not_usage = λ e. cc }

last-read : (status : Status) → IsLast status → status ≡ ReadFault → ⊥
last-read Ok last e = cc
last-read Refused last e = cc
last-read NotYet last e = cc
last-read Usage last e = absurd last
last-read Script last e = absurd last
last-read ReadFault last e = absurd last
last-read WriteFault last e = absurd last
last-read Memory last e = absurd last
last-read Limit last e = absurd last

last-write : (status : Status) → IsLast status → status ≡ WriteFault → ⊥
last-write Ok last e = cc
last-write Refused last e = cc
last-write NotYet last e = cc
last-write Usage last e = absurd last
last-write Script last e = absurd last
last-write ReadFault last e = absurd last
last-write WriteFault last e = absurd last
last-write Memory last e = absurd last
last-write Limit last e = absurd last

last-usage : (status : Status) → IsLast status → status ≡ Usage → ⊥
last-usage Ok last e = cc
last-usage Refused last e = cc
last-usage NotYet last e = cc
last-usage Usage last e = absurd last
last-usage Script last e = absurd last
last-usage ReadFault last e = absurd last
last-usage WriteFault last e = absurd last
last-usage Memory last e = absurd last
last-usage Limit last e = absurd last

fault-read : WriteFault ≡ ReadFault → ⊥
fault-read e = cc

-- a last text, where it is at the end of the input if all is well
pub finished-causes : (status result : Status) (text : List ℕ) (a b : SinkView) (sure : Bool) (left : Option (List ℕ)) (reads reads_now writes : ℕ) → IsLast status → (status ≡ Ok → IsAtEnd left) → a.faults ≡ writes → Finishes status text result a b
    → HasCauses result sure left reads reads_now writes b.faults
finished-causes status result text a b sure left reads reads_now writes last ended same (inl (is, wrote)) = rw is (record {
  read_to_end = ended;
  read_fault = λ e. absurd (last-read status last e);
  write_fault = λ e. absurd (last-write status last e);
  reads_if_promised = λ p e. last-read status last e;
  not_usage = λ e. last-usage status last e;
})
finished-causes status result text a b sure left reads reads_now writes last ended same (inr (is, broken)) = rw is (record {
  read_to_end = λ e. cc;
  read_fault = λ e. cc;
  write_fault = λ e. rw (← same) broken.faults;
  reads_if_promised = λ p e. fault-read e;
  not_usage = λ e. cc;
})

pub told-causes : (status result : Status) (text : List ℕ) (a b : SinkView) (sure : Bool) (left : Option (List ℕ)) (reads reads_now writes : ℕ) → IsLast status → (status ≡ Ok → IsAtEnd left) → a.faults ≡ writes → FinishesAlone status text result a b
    → HasCauses result sure left reads reads_now writes b.faults
told-causes status result text a b sure left reads reads_now writes last ended same (inl (is, kept)) = rw is (memory-causes sure left reads reads_now writes b.faults)
told-causes status result text a b sure left reads reads_now writes last ended same (inr finishes) = finished-causes status result text a b sure left reads reads_now writes last ended same finishes

-- where nothing was written before
pub finishes-behind : (status : Status) (text : List ℕ) (result : Status) (a b c : SinkView) → Wrote a b [] → Finishes status text result b c → Finishes status text result a c
finishes-behind status text result a b c first (inl (is, wrote)) = inl (is, wrote-more a b c [] text first wrote)
finishes-behind status text result a b c first (inr (is, broken)) = inr (is, breaks-behind a b c [] text first broken)
