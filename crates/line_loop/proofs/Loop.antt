-- One step of the loop over the lines, and its ends.
use Rattle.std.proofs.Common.{◌≡◌, ◌≢◌, ℕ, ◌+◌, ◌<◌, List, [], ◌∷◌, ◌++◌, length, refl, sym, subst, ◌∙◌, Some, None, Option, inl, inr, arith}
use Rattle.std.specs.Prelude.{false, IfSome, IfNone}
use Rattle.std.specs.Io.KnownBytes.{prepend_known}
use Rattle.std.proofs.lemmas.List.{length-append}
use lib.Chars.{codes}
use Rattle.vt_base.specs.Faults.{Rose}
use Rattle.vt_base.specs.declared.status.Status.{Status}
use Rattle.vt_base.specs.declared.status.Status.TheVariants.{Ok, Usage, Script, ReadFault, WriteFault, Memory, Limit}
use Rattle.vt_script.specs.Replies.{numbered}
use Rattle.vt_script.specs.Reading.{has_line, SaysOf, CountsLine, CountsFault}
use Rattle.vt_script.specs.declared.line_reader.Next.{Next}
use Rattle.vt_script.specs.declared.line_reader.Next.TheVariants as next
use Rattle.line_loop.specs.Output.{SinkView, Wrote, Breaks, Finishes, Flushes, FinishesBehind, HasWritten}
use Rattle.line_loop.specs.Inputs.{Leaves}
use Rattle.line_loop.specs.Actors.{Course, MayAct, GivesBy, done_by, HasDone, HasEnded, GoesOn, EndsHere, EndsAt}
use Rattle.line_loop.proofs.Writing.{wrote-more}
use Rattle.line_loop.proofs.Endings.{leaves-bad, leaves-memory, leaves-limit, leaves-passed, leaves-fault, leaves-unflushed, pends-more, pends-less, nothing-written}
use Rattle.line_loop.proofs.Given.{given-start-of, given-more-of, given-is-line, given-long, given-many, given-fault, given-end, given-first}

-- the faults of a sink after a last text
pub finished-fault : (status : Status) (text : List ℕ) (result : Status) (a b : SinkView) (first : ℕ) → b.faults ≡ first → Finishes status text result b a → (status ≡ WriteFault → ⊥) → result ≡ WriteFault → Rose first a.faults
finished-fault status text result a b first same (inl (is, wrote)) other fault = absurd (other (sym is ∙ fault))
finished-fault status text result a b first same (inr (is, broken)) other fault = rw (← same) broken.faults

-- the statuses that come with a last text
finished-as : (status : Status) (text : List ℕ) (result : Status) (b c : SinkView) (P : Status → Type 0) → P status → P WriteFault → Finishes status text result b c → P result
finished-as status text result b c P p q (inl (is, wrote)) = rw is p
finished-as status text result b c P p q (inr (is, broken)) = rw is q

-- the statuses that come then
pub no-line-as : (n : Next) (pending : List ℕ) (status : Status) (b c : SinkView) (P : Status → Type 0) → P Memory → P Limit → (n ≡ next.ReadFault → P ReadFault) → P WriteFault → EndsAt n pending (Some status) b c → P status
no-line-as next.Line pending status b c P m l r w ends = absurd ends
no-line-as next.End pending status b c P m l r w (inl (is, wrote)) = absurd cc
no-line-as next.End pending status b c P m l r w (inr (is, broken)) = let same : status ≡ WriteFault = cc in rw same w
no-line-as (next.TooLong long) pending status b c P m l r w (inl finishes) = finished-as Memory (pending ++ []) status b c P m w finishes
no-line-as (next.TooLong long) pending status b c P m l r w (inr finishes) = finished-as Limit (pending ++ numbered (codes "long line ") long) status b c P l w finishes
no-line-as next.TooMany pending status b c P m l r w finishes = finished-as Limit (pending ++ (codes "too many lines" ++ 10 ∷ [])) status b c P l w finishes
no-line-as next.ReadFault pending status b c P m l r w finishes = finished-as ReadFault (pending ++ []) status b c P (r refl) w finishes

pub no-line-fault : (n : Next) (pending : List ℕ) (status : Status) (b c : SinkView) (start : ℕ) → b.faults ≡ start → EndsAt n pending (Some status) b c → status ≡ WriteFault → Rose start c.faults
no-line-fault next.Line pending status b c start same ends fault = absurd ends
no-line-fault next.End pending status b c start same (inl (is, wrote)) fault = absurd cc
no-line-fault next.End pending status b c start same (inr (is, broken)) fault = rw (← same) broken.faults
no-line-fault (next.TooLong long) pending status b c start same (inl finishes) fault = finished-fault Memory (pending ++ []) status c b start same finishes (λ e. cc) fault
no-line-fault (next.TooLong long) pending status b c start same (inr finishes) fault = finished-fault Limit (pending ++ numbered (codes "long line ") long) status c b start same finishes (λ e. cc) fault
no-line-fault next.TooMany pending status b c start same finishes fault = finished-fault Limit (pending ++ (codes "too many lines" ++ 10 ∷ [])) status c b start same finishes (λ e. cc) fault
no-line-fault next.ReadFault pending status b c start same finishes fault = finished-fault ReadFault (pending ++ []) status c b start same finishes (λ e. cc) fault

module _ {X : Type 0} (goes : Course X) (outside : List ℕ → Type 0) (first : X) where
  pub done-start : (input : Option (List ℕ)) (pending : List ℕ) (given : ℕ) (a : SinkView) (waits : List ℕ) → goes first [] [] first → pending ≡ [] → given ≡ 0 → waits ≡ []
      → HasDone goes first first given input (prepend_known pending input) a a waits
  done-start input pending given a waits begins none zero nothing = record {
    lines = [];
    output = [];
    goes_here = begins;
    count = sym zero;
    written = subst (λ (p : List ℕ). HasWritten a a p []) (sym nothing) (nothing-written a);
    given = given-start-of pending input none;
  }

  -- it may do one more
  pub done-may : (now : X) (given : ℕ) (input rest : Option (List ℕ)) (a b : SinkView) (pending : List ℕ) → HasDone goes first now given input rest a b pending → given < 1000000 → MayAct goes now
  done-may now given input rest a b pending d few = record { first = first; lines = d.lines; output = d.output; here = d.goes_here; few = omega (arith, few, d.count) }

  -- what is pending was written
  pub done-flushed : (now : X) (given : ℕ) (input rest : Option (List ℕ)) (a b c : SinkView) (pending after : List ℕ) → HasDone goes first now given input rest a b pending → Flushes b c pending after
      → HasDone goes first now given input rest a c after
  done-flushed now given input rest a b c pending after d flushes = record {
    lines = d.lines;
    output = d.output;
    goes_here = d.goes_here;
    count = d.count;
    written = pends-less a b c pending after d.output d.written flushes;
    given = d.given;
  }

  -- one more line
  pub done-more : (old new : X) (given next_given : ℕ) (input rest : Option (List ℕ)) (line : List ℕ) (rest_after : Option (List ℕ)) (a b c : SinkView) (pending after : List ℕ) → HasDone goes first old given input rest a b pending
      → SaysOf next.Line given rest line rest_after → next_given ≡ given + 1 → GoesOn goes outside line old new pending after b c → HasDone goes first new next_given input rest_after a c after
  done-more old new given next_given input rest line rest_after a b c pending after d says count on =
      let acts = on.1 in
      record {
        lines = d.lines ++ line ∷ [];
        output = d.output ++ acts.0;
        goes_here = acts.2 first d.lines d.output d.goes_here;
        count = omega (arith, count, d.count, length-append d.lines (line ∷ []));
        written = pends-less a b c on.0 after (d.output ++ acts.0) (pends-more a b pending on.0 acts.0 d.output d.written acts.1) on.2;
        given = given-more-of input d.lines given rest line rest_after d.count d.given says;
      }

  -- the lines so far give this
  gives-so-far : (now : X) (given : ℕ) (input : List ℕ) (rest : Option (List ℕ)) (a b : SinkView) (pending : List ℕ) (d : HasDone goes first now given (Some input) rest a b pending) → GivesBy goes first input (length d.lines) d.output
  gives-so-far now given input None a b pending d = absurd d.given
  gives-so-far now given input (Some rest) a b pending d = record { lines = d.lines; now = now; are = given-first input d.lines rest d.given; count = refl; goes_here = d.goes_here }

  -- what is pending can't be written
  pub done-unflushed : (now : X) (given : ℕ) (input rest left : Option (List ℕ)) (a b c : SinkView) (pending : List ℕ) → HasDone goes first now given input rest a b pending → Breaks b c pending
      → IfSome input (λ bytes. Leaves WriteFault (done_by goes outside first bytes) left a c)
  done-unflushed now given None rest left a b c pending d broken = tt
  done-unflushed now given (Some input) rest left a b c pending d broken =
      leaves-unflushed (done_by goes outside first input) left a b c (length d.lines) pending d.output (gives-so-far now given input rest a b pending d) d.written broken

  pub done-memory : (now : X) (given : ℕ) (input rest left : Option (List ℕ)) (a b c : SinkView) (pending : List ℕ) (result : Status) → HasDone goes first now given input rest a b pending → Finishes Memory (pending ++ []) result b c
      → IfSome input (λ bytes. Leaves result (done_by goes outside first bytes) left a c)
  done-memory now given None rest left a b c pending result d finishes = tt
  done-memory now given (Some input) rest left a b c pending result d finishes =
      leaves-memory (done_by goes outside first input) left a b c (length d.lines) pending d.output (gives-so-far now given input rest a b pending d) d.written result finishes

  -- a line ends the run
  pub done-ends : (old new : X) (given number : ℕ) (input rest : Option (List ℕ)) (line : List ℕ) (rest_after left : Option (List ℕ)) (a b c : SinkView) (pending : List ℕ) (result : Status) → HasDone goes first old given input rest a b pending
      → SaysOf next.Line given rest line rest_after → number ≡ given + 1 → EndsHere goes outside line old new number pending result b c → IfSome input (λ bytes. Leaves result (done_by goes outside first bytes) left a c)
  done-ends old new given number None rest line rest_after left a b c pending result d says count ends = tt
  done-ends old new given number (Some input) rest line rest_after left a b c pending result d says count (inl (bad, tells)) =
      leaves-bad (done_by goes outside first input) left a b c (length d.lines) pending d.output (gives-so-far old given input rest a b pending d) d.written number result
      (line, given-is-line input d.lines given rest line rest_after d.count d.given says, bad) (omega (arith, count, d.count)) tells
  done-ends old new given number (Some input) rest line rest_after left a b c pending result d says count (inr (inl finishes)) =
      leaves-memory (done_by goes outside first input) left a b c (length d.lines) pending d.output (gives-so-far old given input rest a b pending d) d.written result finishes
  done-ends old new given number (Some input) rest line rest_after left a b c pending result d says count (inr (inr (is, now, acts, broken))) =
      let more : HasDone goes first new (given + 1) (Some input) rest_after a b now = record {
        lines = d.lines ++ line ∷ [];
        output = d.output ++ acts.0;
        goes_here = acts.2 first d.lines d.output d.goes_here;
        count = omega (arith, d.count, length-append d.lines (line ∷ []));
        written = pends-more a b pending now acts.0 d.output d.written acts.1;
        given = given-more-of (Some input) d.lines given rest line rest_after d.count d.given says;
      } in
      rw is (done-unflushed new (given + 1) (Some input) rest_after left a b c now more broken)

  -- and what the faults of the sink are then
  pub ends-fault : (old new : X) (line : List ℕ) (number : ℕ) (pending : List ℕ) (result : Status) (b c : SinkView) (start : ℕ) → b.faults ≡ start → EndsHere goes outside line old new number pending result b c → result ≡ WriteFault → Rose start c.faults
  ends-fault old new line number pending result b c start same (inl (bad, inl finishes)) fault = finished-fault Memory (pending ++ []) result c b start same finishes (λ e. cc) fault
  ends-fault old new line number pending result b c start same (inl (bad, inr finishes)) fault = finished-fault Script (pending ++ numbered (codes "bad line ") number) result c b start same finishes (λ e. cc) fault
  ends-fault old new line number pending result b c start same (inr (inl finishes)) fault = finished-fault Memory (pending ++ []) result c b start same finishes (λ e. cc) fault
  ends-fault old new line number pending result b c start same (inr (inr (is, now, acts, broken))) fault = rw (← same) broken.faults

  pub ends-as : (old new : X) (line : List ℕ) (number : ℕ) (pending : List ℕ) (result : Status) (b c : SinkView) (P : Status → Type 0) → P Memory → P Script → P WriteFault → EndsHere goes outside line old new number pending result b c → P result
  ends-as old new line number pending result b c P m s w (inl (bad, inl finishes)) = finished-as Memory (pending ++ []) result b c P m w finishes
  ends-as old new line number pending result b c P m s w (inl (bad, inr finishes)) = finished-as Script (pending ++ numbered (codes "bad line ") number) result b c P s w finishes
  ends-as old new line number pending result b c P m s w (inr (inl finishes)) = finished-as Memory (pending ++ []) result b c P m w finishes
  ends-as old new line number pending result b c P m s w (inr (inr (is, now, acts, broken))) = rw is w

  -- ---- no line comes

  -- what a run leaves that ends there
  abbrev pub Ended : Option (List ℕ) → Option (List ℕ) → X → SinkView → SinkView → Option Status → Type 0
  Ended input left now a c None = HasEnded goes first now input a c
  Ended input left now a c (Some status) = IfSome input (λ bytes. Leaves status (done_by goes outside first bytes) left a c)

  end-written : (now : X) (given : ℕ) (input rest : Option (List ℕ)) (line : List ℕ) (after : Option (List ℕ)) (a b c : SinkView) (pending : List ℕ) → HasDone goes first now given input rest a b pending
      → SaysOf next.End given rest line after → Wrote b c pending → HasEnded goes first now input a c
  end-written now given input rest line after a b c pending d says wrote = record {
    lines = d.lines;
    output = d.output;
    goes_here = d.goes_here;
    wrote = subst (λ (z : List ℕ). Wrote a c z) d.written.parts (wrote-more a b c d.written.written pending d.written.wrote wrote);
    all = given-end input d.lines given rest line after d.given says;
  }

  at-long : (now : X) (given long : ℕ) (input rest left : Option (List ℕ)) (line : List ℕ) (after : Option (List ℕ)) (a b c : SinkView) (pending : List ℕ) (status : Status) → HasDone goes first now given input rest a b pending
      → SaysOf (next.TooLong long) given rest line after → FinishesBehind Limit pending (numbered (codes "long line ") long) status b c → IfSome input (λ bytes. Leaves status (done_by goes outside first bytes) left a c)
  at-long now given long None rest left line after a b c pending status d says tells = tt
  at-long now given long (Some input) rest left line after a b c pending status d says tells =
      leaves-limit (done_by goes outside first input) left a b c (length d.lines) pending d.output (gives-so-far now given input rest a b pending d) d.written (numbered (codes "long line ") long) status
      (given-long input d.lines given long rest line after d.count d.given says) tells

  at-many : (now : X) (given : ℕ) (input rest left : Option (List ℕ)) (line : List ℕ) (after : Option (List ℕ)) (a b c : SinkView) (pending : List ℕ) (status : Status) → HasDone goes first now given input rest a b pending
      → SaysOf next.TooMany given rest line after → Finishes Limit (pending ++ (codes "too many lines" ++ 10 ∷ [])) status b c → IfSome input (λ bytes. Leaves status (done_by goes outside first bytes) left a c)
  at-many now given None rest left line after a b c pending status d says finishes = tt
  at-many now given (Some input) rest left line after a b c pending status d says finishes =
      leaves-passed (done_by goes outside first input) left a b c (length d.lines) pending d.output (gives-so-far now given input rest a b pending d) d.written (codes "too many lines" ++ 10 ∷ []) status
      (given-many input d.lines given rest line after d.count d.given says) finishes

  at-fault : (now : X) (given : ℕ) (input rest left : Option (List ℕ)) (line held : List ℕ) (a b c : SinkView) (pending : List ℕ) (status : Status) → HasDone goes first now given input rest a b pending
      → SaysOf next.ReadFault given rest line (prepend_known held left) → has_line held ≡ false → Finishes ReadFault (pending ++ []) status b c → IfSome input (λ bytes. Leaves status (done_by goes outside first bytes) left a c)
  at-fault now given None rest left line held a b c pending status d says none finishes = tt
  at-fault now given (Some input) None left line held a b c pending status d says none finishes = absurd d.given
  at-fault now given (Some input) (Some rest) None line held a b c pending status d says none finishes = absurd says
  at-fault now given (Some input) (Some rest) (Some left) line held a b c pending status d says none finishes =
      leaves-fault (done_by goes outside first input) (Some left) a b c (length d.lines) pending d.output (gives-so-far now given input (Some rest) a b pending d) d.written status
      (length d.lines, gives-so-far now given input (Some rest) a b pending d, given-fault input d.lines given (Some rest) line held left d.count d.given says none) finishes

  pub no-line : (n : Next) (now : X) (given : ℕ) (input rest left : Option (List ℕ)) (line held : List ℕ) (a b c : SinkView) (pending : List ℕ) (result : Option Status) → HasDone goes first now given input rest a b pending
      → SaysOf n given rest line (prepend_known held left) → (n ≡ next.ReadFault → has_line held ≡ false) → EndsAt n pending result b c → Ended input left now a c result
  no-line next.Line now given input rest left line held a b c pending result d says none ends = absurd ends
  no-line next.End now given input rest left line held a b c pending result d says none (inl (is, wrote)) = rw is (end-written now given input rest line (prepend_known held left) a b c pending d says wrote)
  no-line next.End now given input rest left line held a b c pending result d says none (inr (is, broken)) = rw is (done-unflushed now given input rest left a b c pending d broken)
  no-line (next.TooLong long) now given input rest left line held a b c pending None d says none ends = absurd ends
  no-line (next.TooLong long) now given input rest left line held a b c pending (Some status) d says none ends = at-long now given long input rest left line (prepend_known held left) a b c pending status d says ends
  no-line next.TooMany now given input rest left line held a b c pending None d says none ends = absurd ends
  no-line next.TooMany now given input rest left line held a b c pending (Some status) d says none ends = at-many now given input rest left line (prepend_known held left) a b c pending status d says ends
  no-line next.ReadFault now given input rest left line held a b c pending None d says none ends = absurd ends
  no-line next.ReadFault now given input rest left line held a b c pending (Some status) d says none ends = at-fault now given input rest left line held a b c pending status d says (none refl) ends

-- ---- what came of a line that isn't there

pub if-some : (result : Option Status) (P : Status → Type 0) → ((status : Status) → result ≡ Some status → P status) → IfSome result P
if-some None P holds = tt
if-some (Some status) P holds = holds status refl

pub none-at-end : (n : Next) (pending : List ℕ) (result : Option Status) (b c : SinkView) → EndsAt n pending result b c → IfNone result (n ≡ next.End)
none-at-end n pending (Some status) b c ends = tt
none-at-end next.Line pending None b c ends = absurd ends
none-at-end next.End pending None b c ends = refl
none-at-end (next.TooLong long) pending None b c ends = absurd ends
none-at-end next.TooMany pending None b c ends = absurd ends
none-at-end next.ReadFault pending None b c ends = absurd ends

pub if-none : (result : Option Status) (P Q : Type 0) → IfNone result P → (P → Q) → IfNone result Q
if-none None P Q p f = f p
if-none (Some status) P Q p f = tt

pub counted-rose : (n : Next) (before now start : ℕ) → before ≡ start → n ≡ next.ReadFault → CountsFault n before now → Rose start now
counted-rose n before now start same is counts = let counted = rw is at counts in omega (arith, same, counted.1)

module _ {X : Type 0} (goes : Course X) (outside : List ℕ → Type 0) (first : X) (input left : Option (List ℕ)) (now : X) (a c : SinkView) where
  pub ended-done : (result : Option Status) → Ended goes outside first input left now a c result → IfNone result (HasEnded goes first now input a c)
  ended-done None ended = ended
  ended-done (Some status) ended = tt

  pub ended-stopped : (result : Option Status) → Ended goes outside first input left now a c result → IfSome result (λ status. IfSome input (λ bytes. Leaves status (done_by goes outside first bytes) left a c))
  ended-stopped None ended = tt
  ended-stopped (Some status) ended = ended

-- a line that is the one that comes
pub says-line : (n : Next) (given : ℕ) (rest : Option (List ℕ)) (line lent : List ℕ) (after : Option (List ℕ)) → n ≡ next.Line → lent ≡ line → SaysOf n given rest line after → SaysOf next.Line given rest lent after
says-line n given rest line lent after is same says = subst (λ (l : List ℕ). SaysOf next.Line given rest l after) (sym same) (subst (λ (m : Next). SaysOf m given rest line after) is says)

pub counts-line : (n : Next) (before now : ℕ) → n ≡ next.Line → CountsLine n before now → now ≡ before + 1
counts-line n before now is counts = subst (λ (m : Next). CountsLine m before now) is counts

pub counts-no-fault : (n : Next) (before now : ℕ) → n ≡ next.Line → CountsFault n before now → now ≡ before
counts-no-fault n before now is counts = subst (λ (m : Next). CountsFault m before now) is counts

-- what holds of a run that ends where no line comes
module _ (n : Next) (pending : List ℕ) (result : Option Status) (b c : SinkView) (ends : EndsAt n pending result b c) where
  pub ends-read-fault : (before now start : ℕ) → before ≡ start → CountsFault n before now → IfSome result (λ s. s ≡ ReadFault → Rose start now)
  ends-read-fault before now start same counts = if-some result (λ s. s ≡ ReadFault → Rose start now) (λ s is.
      no-line-as n pending s b c (λ (x : Status). x ≡ ReadFault → Rose start now) (λ e. cc) (λ e. cc) (λ m _. counted-rose n before now start same m counts) (λ e. cc) (subst (λ (r : Option Status). EndsAt n pending r b c) is ends))

  pub ends-write-fault : (start : ℕ) → b.faults ≡ start → IfSome result (λ s. s ≡ WriteFault → Rose start c.faults)
  ends-write-fault start same = if-some result (λ s. s ≡ WriteFault → Rose start c.faults) (λ s is. no-line-fault n pending s b c start same (subst (λ (r : Option Status). EndsAt n pending r b c) is ends))

  pub ends-reads : (n ≡ next.ReadFault → ⊥) → IfSome result (λ s. s ≢ ReadFault)
  ends-reads none = if-some result (λ s. s ≢ ReadFault) (λ s is.
      no-line-as n pending s b c (λ (x : Status). x ≢ ReadFault) (λ e. cc) (λ e. cc) (λ m _. none m) (λ e. cc) (subst (λ (r : Option Status). EndsAt n pending r b c) is ends))

  pub ends-not-ok : IfSome result (λ s. s ≢ Ok)
  ends-not-ok = if-some result (λ s. s ≢ Ok) (λ s is.
      no-line-as n pending s b c (λ (x : Status). x ≢ Ok) (λ e. cc) (λ e. cc) (λ m e. cc) (λ e. cc) (subst (λ (r : Option Status). EndsAt n pending r b c) is ends))

  pub ends-not-usage : IfSome result (λ s. s ≢ Usage)
  ends-not-usage = if-some result (λ s. s ≢ Usage) (λ s is.
      no-line-as n pending s b c (λ (x : Status). x ≢ Usage) (λ e. cc) (λ e. cc) (λ m e. cc) (λ e. cc) (subst (λ (r : Option Status). EndsAt n pending r b c) is ends))
