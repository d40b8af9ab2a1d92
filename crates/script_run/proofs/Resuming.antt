-- The front of an input is read as a saved stream, and what stands behind it as a script, or not at all.
use Rattle.std.proofs.Common.{◌≡◌, ◌≢◌, ℕ, ◌+◌, ◌<◌, List, [], ◌++◌, length, take, refl, sym, ap, subst, ◌∙◌, arith, Some, None, Option, inl, inr}
use Rattle.std.specs.Prelude.{◌⊎◌, IfSome, IsTrue, Bool}
use Rattle.std.specs.Io.KnownBytes.{Consumes, IsAtEnd}
use Rattle.std.proofs.lemmas.List.{length-append, append-nil, take_at}
use Rattle.vt_base.specs.Faults.{Rose}
use Rattle.vt_base.specs.Numbers.{IsBytes}
use Rattle.vt_base.specs.Refusing.{malformed}
use Rattle.vt_base.specs.declared.status.Status.{Status}
use Rattle.vt_base.specs.declared.status.Status.TheVariants.{Ok, Usage, Script, ReadFault, WriteFault, Memory, Limit, Refused, NotYet}
use Rattle.vt_base.specs.declared.types.Malformed.{Malformed}
use Rattle.vt_base.specs.declared.types.Why.TheVariants.{Extra}
use Rattle.crb_history.specs.Snapshot.{Snapshot}
use Rattle.saved_stream.specs.Headers.{wanted_after, EndsNoStream}
use Rattle.saved_stream.specs.Streams.{IsStream}
use Rattle.saved_stream.specs.Refusals.{IsStreamRefused}
use Rattle.line_loop.proofs.Endings.{leaves-nothing}
use Rattle.line_loop.proofs.Writing.{wrote-nothing}
use Rattle.script_run.specs.Ends.{HandsOut, HandsWorld, HandsResumed}
use Rattle.script_run.specs.Fronts.{IsFront, HasFront}
use Rattle.script_run.specs.Causes.{HasCauses}
use Rattle.script_run.specs.Output.{SinkView, FinishesAlone}
use Rattle.script_run.specs.Run.{Leaves, followed}
use Rattle.script_run.specs.Saved.{Resumption, ResumesTo, IsFrontRefused, resumed, checked, refused_text, whole_text}
use Rattle.script_run.specs.declared.ran.End.{End}
use Rattle.script_run.specs.declared.ran.End.TheVariants.{Nothing}
use Rattle.script_run.proofs.Endings.{leaves-too, leaves-exact, memory-causes}
use Rattle.script_run.proofs.Handing.{resumed-hands, nothing-out}

-- ---- a stream, and behind it a script

pub refused-ok : {A : Type 0} → Refused ≡ Ok → A
refused-ok e = cc

-- the end of the lines is an end of the input
ends_too : (piece : ℕ) (input : List ℕ) (from : Resumption input) (status : Status) (output : List ℕ) → (followed from.base piece from.script).Ends status output → ResumesTo piece input status output
ends_too piece input from Ok output ends = (from, ends)
ends_too piece input from Usage output ends = (from, ends)
ends_too piece input from Script output ends = (from, ends)
ends_too piece input from ReadFault output ends = (from, ends)
ends_too piece input from WriteFault output ends = (from, ends)
ends_too piece input from Memory output ends = (from, ends)
ends_too piece input from Limit output ends = (from, ends)
ends_too piece input from NotYet output ends = (from, ends)
ends_too piece input from Refused output ends = refused-ok ends.0

-- what the lines leave is what the input leaves
resumed-leaves : (piece : ℕ) (input : List ℕ) (from : Resumption input) (result : Status) (left : Option (List ℕ)) (a b : SinkView) → Leaves result (followed from.base piece from.script) left a b → Leaves result (resumed piece input) left a b
resumed-leaves piece input from result left a b leaves =
    leaves-too (followed from.base piece from.script) (resumed piece input) (λ n output gives. (from, gives)) (λ n bad. (from, bad)) (λ n text passes. (from, passes))
    (λ output rest fault. inr (from, fault)) (λ status output ends. inr (inr (inr (status, ends_too piece input from status output ends)))) result left a b
    (λ output ends. ends_too piece input from result output ends) leaves

-- these bytes of the input are a stream
abbrev resumption : (input front rest : List ℕ) (b : Snapshot) → IsStream front b → input ≡ front ++ rest → Resumption input
resumption input front rest b is whole = record { base = b; stream = front; script = rest; whole = whole; spells = is }

pub front-resumed : (piece : ℕ) (old now left : Option (List ℕ)) (front : List ℕ) (b : Snapshot) (result : Status) (x y : SinkView) → Consumes old now front → IsStream front b
    → IfSome now (λ script. Leaves result (followed b piece script) left x y) → IfSome old (λ input. Leaves result (resumed piece input) left x y)
front-resumed piece None now left front b result x y taken is leaves = tt
front-resumed piece (Some input) None left front b result x y taken is leaves = absurd taken
front-resumed piece (Some input) (Some rest) left front b result x y taken is leaves = resumed-leaves piece input (resumption input front rest b is taken) result left x y leaves

pub front-hands : (piece : ℕ) (old now : Option (List ℕ)) (front : List ℕ) (b : Snapshot) (status : Status) (end : End) → Consumes old now front → IsStream front b
    → IfSome now (λ script. HandsOut (HandsWorld b piece script) status end) → IfSome old (λ input. HandsOut (HandsResumed piece input) status end)
front-hands piece None now front b status end taken is hands = tt
front-hands piece (Some input) None front b status end taken is hands = absurd taken
front-hands piece (Some input) (Some rest) front b status end taken is hands = resumed-hands piece input (resumption input front rest b is taken) status end hands

-- ---- no stream

-- what is refused of the bytes that were read is refused of the input
abbrev pub RefusalsStay : Type 0
RefusalsStay = (bytes rest : List ℕ) (fault : Malformed) → IsBytes bytes → EndsNoStream bytes → (wanted_after bytes ≡ 0) ⊎ (rest ≡ []) → IsStreamRefused fault bytes → IsStreamRefused fault (bytes ++ rest) × (fault.why ≢ Extra)

no_more : (front rest : List ℕ) → (wanted_after front ≡ 0) ⊎ IsAtEnd (Some rest) → (wanted_after front ≡ 0) ⊎ (rest ≡ [])
no_more front rest (inl none) = inl none
no_more front rest (inr ended) = inr ended

front-refused : RefusalsStay → (input rest front : List ℕ) (fault : Malformed) → IsBytes front → IsFront (Some input) (Some rest) front → (wanted_after front ≡ 0) ⊎ IsAtEnd (Some rest) → IsStreamRefused fault front → IsFrontRefused fault input
front-refused stay input rest front fault bytes f enough refused = subst (IsFrontRefused fault) (sym f.taken) (stay front rest fault bytes f.none_inside (no_more front rest enough) refused)

pub resumed-refused : RefusalsStay → (piece : ℕ) (old now : Option (List ℕ)) (front : List ℕ) (fault : Malformed) (result : Status) (a b : SinkView) → IsBytes front → IsFront old now front → (wanted_after front ≡ 0) ⊎ IsAtEnd now → IsStreamRefused fault front
    → FinishesAlone Refused (refused_text fault) result a b → IfSome old (λ input. Leaves result (resumed piece input) now a b)
resumed-refused stay piece None now front fault result a b bytes f enough refused exact = tt
resumed-refused stay piece (Some input) None front fault result a b bytes f enough refused exact = absurd f.taken
resumed-refused stay piece (Some input) (Some rest) front fault result a b bytes f enough refused exact =
    leaves-exact (resumed piece input) Refused result (Some rest) a b (refused_text fault) tt (fault, front-refused stay input rest front fault bytes f enough refused, refl) exact

pub checked-refused : RefusalsStay → (old now : Option (List ℕ)) (front : List ℕ) (fault : Malformed) (result : Status) (a b : SinkView) → IsBytes front → IsFront old now front → (wanted_after front ≡ 0) ⊎ IsAtEnd now → IsStreamRefused fault front
    → FinishesAlone Refused (refused_text fault) result a b → IfSome old (λ input. Leaves result (checked input) now a b)
checked-refused stay None now front fault result a b bytes f enough refused exact = tt
checked-refused stay (Some input) None front fault result a b bytes f enough refused exact = absurd f.taken
checked-refused stay (Some input) (Some rest) front fault result a b bytes f enough refused exact =
    leaves-exact (checked input) Refused result (Some rest) a b (refused_text fault) tt (fault, (front-refused stay input rest front fault bytes f enough refused).0, refl) exact

-- ---- the front isn't read to its end

-- a run that ends there has written nothing
pub resumed-in-front : (piece : ℕ) (status : Status) (old now : Option (List ℕ)) (front : List ℕ) (a : SinkView) → HasFront (Some status) old now front → IfSome old (λ input. Leaves status (resumed piece input) now a a)
resumed-in-front piece status None now front a has = tt
resumed-in-front piece ReadFault (Some input) None front a has = absurd has.0.taken
resumed-in-front piece ReadFault (Some input) (Some rest) front a has = ([], wrote-nothing a, inl (refl, (front, has.0.taken, has.1)))
resumed-in-front piece Memory (Some input) now front a has = leaves-nothing a (resumed piece input) now
resumed-in-front piece Ok (Some input) now front a has = absurd has
resumed-in-front piece Usage (Some input) now front a has = absurd has
resumed-in-front piece Script (Some input) now front a has = absurd has
resumed-in-front piece WriteFault (Some input) now front a has = absurd has
resumed-in-front piece Limit (Some input) now front a has = absurd has
resumed-in-front piece Refused (Some input) now front a has = absurd has
resumed-in-front piece NotYet (Some input) now front a has = absurd has

fault-checked : (input : List ℕ) (left : Option (List ℕ)) (a : SinkView) → Leaves ReadFault (checked input) left a a
fault-checked input None a = ([], wrote-nothing a, tt)
fault-checked input (Some rest) a = ([], wrote-nothing a, refl)

pub checked-in-front : (status : Status) (old now : Option (List ℕ)) (front : List ℕ) (a : SinkView) → HasFront (Some status) old now front → IfSome old (λ input. Leaves status (checked input) now a a)
checked-in-front status None now front a has = tt
checked-in-front ReadFault (Some input) now front a has = fault-checked input now a
checked-in-front Memory (Some input) now front a has = leaves-nothing a (checked input) now
checked-in-front Ok (Some input) now front a has = absurd has
checked-in-front Usage (Some input) now front a has = absurd has
checked-in-front Script (Some input) now front a has = absurd has
checked-in-front WriteFault (Some input) now front a has = absurd has
checked-in-front Limit (Some input) now front a has = absurd has
checked-in-front Refused (Some input) now front a has = absurd has
checked-in-front NotYet (Some input) now front a has = absurd has

-- nor does it hand out anything
pub early-front : (status : Status) (old now : Option (List ℕ)) (front : List ℕ) → HasFront (Some status) old now front → status ≢ Ok
early-front Ok old now front has e = has
early-front ReadFault old now front has e = cc
early-front Memory old now front has e = cc
early-front Usage old now front has e = has
early-front Script old now front has e = has
early-front WriteFault old now front has e = has
early-front Limit old now front has e = has
early-front Refused old now front has e = has
early-front NotYet old now front has e = has

pub early-hands : (piece : ℕ) (status : Status) (old : Option (List ℕ)) → status ≢ Ok → IfSome old (λ input. HandsOut (HandsResumed piece input) status Nothing)
early-hands piece status None early = tt
early-hands piece status (Some input) early = nothing-out (HandsResumed piece input) status early

-- the causes of its status
pub front-causes : (status : Status) (old now : Option (List ℕ)) (front : List ℕ) (sure : Bool) (left : Option (List ℕ)) (reads reads_now writes : ℕ) → HasFront (Some status) old now front → (status ≡ ReadFault → Rose reads reads_now) → (IsTrue sure → status ≢ ReadFault)
    → HasCauses status sure left reads reads_now writes writes
front-causes ReadFault old now front sure left reads reads_now writes has rose promised =
    record { read_to_end = λ e. cc; read_fault = rose; write_fault = λ e. cc; reads_if_promised = promised; not_usage = λ e. cc }
front-causes Memory old now front sure left reads reads_now writes has rose promised = memory-causes sure left reads reads_now writes writes
front-causes Ok old now front sure left reads reads_now writes has rose promised = absurd has
front-causes Usage old now front sure left reads reads_now writes has rose promised = absurd has
front-causes Script old now front sure left reads reads_now writes has rose promised = absurd has
front-causes WriteFault old now front sure left reads reads_now writes has rose promised = absurd has
front-causes Limit old now front sure left reads reads_now writes has rose promised = absurd has
front-causes Refused old now front sure left reads reads_now writes has rose promised = absurd has
front-causes NotYet old now front sure left reads reads_now writes has rose promised = absurd has

-- no read failed before
pub causes-behind : (result : Status) (sure sure_now : Bool) (left : Option (List ℕ)) (first reads reads_now writes writes_now : ℕ) → reads ≡ first → (IsTrue sure → IsTrue sure_now) → HasCauses result sure_now left reads reads_now writes writes_now
    → HasCauses result sure left first reads_now writes writes_now
causes-behind result sure sure_now left first reads reads_now writes writes_now same promises causes = record {
  read_to_end = causes.read_to_end;
  read_fault = λ e. subst (λ (n : ℕ). Rose n reads_now) same (causes.read_fault e);
  write_fault = causes.write_fault;
  reads_if_promised = λ p. causes.reads_if_promised (promises p);
  not_usage = causes.not_usage;
}

-- a refusal isn't a good end
pub not-ok-told : (status : Status) (text : List ℕ) (result : Status) (a b : SinkView) → status ≢ Ok → FinishesAlone status text result a b → result ≢ Ok
not-ok-told status text result a b other (inl (is, same)) = rw is (λ e. cc)
not-ok-told status text result a b other (inr (inl (is, wrote))) = rw is other
not-ok-told status text result a b other (inr (inr (is, broken))) = rw is (λ e. cc)

-- ---- a stream alone

-- nothing stands behind it
pub behind-none : (front rest : List ℕ) (b : Snapshot) (result : Status) (left : Option (List ℕ)) (x y : SinkView) → IsStream front b → rest ≡ [] → FinishesAlone Ok (whole_text (length front)) result x y → Leaves result (checked (front ++ rest)) left x y
behind-none front rest b result left x y is none exact =
    let same : front ++ rest ≡ front = ap (λ r. front ++ r) none ∙ append-nil front in
    rw same (leaves-exact (checked front) Ok result left x y (whole_text (length front)) tt (b, is, refl) exact)

-- bytes stand behind it
pub behind-more : (front rest : List ℕ) (b : Snapshot) (result : Status) (left : Option (List ℕ)) (x y : SinkView) → IsStream front b → 0 < length rest → FinishesAlone Refused (refused_text (malformed Extra (length front))) result x y
    → Leaves result (checked (front ++ rest)) left x y
behind-more front rest b result left x y is more exact =
    let inside : length front < length (front ++ rest) = omega (arith, more, length-append front rest) in
    let stream : IsStream (take (length front) (front ++ rest)) b = subst (λ (t : List ℕ). IsStream t b) (sym (take_at front rest (length front) refl)) is in
    let refused : IsStreamRefused (malformed Extra (length front)) (front ++ rest) = inr (inr (inside, b, stream)) in
    leaves-exact (checked (front ++ rest)) Refused result left x y (refused_text (malformed Extra (length front))) tt (malformed Extra (length front), refused, refl) exact

-- what was read behind it
pub read-none : (old now : Option (List ℕ)) (got front : List ℕ) (b : Snapshot) (size : ℕ) (result : Status) (x y : SinkView) → Consumes old now got → got ≡ [] → IsAtEnd now → IsStream front b → length front ≡ size → FinishesAlone Ok (whole_text size) result x y
    → IfSome old (λ rest. Leaves result (checked (front ++ rest)) now x y)
read-none None now got front b size result x y taken nothing ended is count exact = tt
read-none (Some rest) None got front b size result x y taken nothing ended is count exact = absurd taken
read-none (Some rest) (Some left) got front b size result x y taken nothing ended is count exact =
    let none : rest ≡ [] = taken ∙ ap (λ (t : List ℕ). t ++ left) nothing ∙ ended in
    behind-none front rest b result (Some left) x y is none (subst (λ (n : ℕ). FinishesAlone Ok (whole_text n) result x y) (sym count) exact)

pub read-more : (old now : Option (List ℕ)) (got front : List ℕ) (b : Snapshot) (size : ℕ) (result : Status) (x y : SinkView) → Consumes old now got → 0 < length got → IsStream front b → length front ≡ size → FinishesAlone Refused (refused_text (malformed Extra size)) result x y
    → IfSome old (λ rest. Leaves result (checked (front ++ rest)) now x y)
read-more None now got front b size result x y taken some is count exact = tt
read-more (Some rest) None got front b size result x y taken some is count exact = absurd taken
read-more (Some rest) (Some left) got front b size result x y taken some is count exact =
    let more : 0 < length rest = omega (arith, some, ap length taken, length-append got left) in
    behind-more front rest b result (Some left) x y is more (subst (λ (n : ℕ). FinishesAlone Refused (refused_text (malformed Extra n)) result x y) (sym count) exact)

-- of the input
pub checked-behind : (old now left : Option (List ℕ)) (front : List ℕ) (b : Snapshot) (result : Status) (x y : SinkView) → Consumes old now front
    → IfSome now (λ rest. Leaves result (checked (front ++ rest)) left x y) → IfSome old (λ input. Leaves result (checked input) left x y)
checked-behind None now left front b result x y taken leaves = tt
checked-behind (Some input) None left front b result x y taken leaves = absurd taken
checked-behind (Some input) (Some rest) left front b result x y taken leaves = rw taken leaves
