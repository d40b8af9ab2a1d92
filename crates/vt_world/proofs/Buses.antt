-- A line of the script as an access of a driver.
use Rattle.std.proofs.Common.{◌≡◌, ◌≢◌, ℕ, ◌+◌, Bool, true, false, ◌&&◌, ◌∷◌, refl, ap, sym, ◌∙◌, subst, Some, None, arith}
use Rattle.std.specs.Prelude.{◌==◌, Option, IsSome, is_none, if◌then◌else◌}
use Rattle.std.proofs.lemmas.Bool.Decides.{nat_tests}
use Rattle.crb_regs.specs.Access.{Access}
use Rattle.crb_history.specs.Snapshot.{Snapshot}
use Rattle.crb_history.specs.Event.{History}
use Rattle.crb_history.specs.Event.Event.{Read, Write}
use Rattle.crb_history.specs.Legal.{Legal}
use Rattle.vt_transcript.specs.Replies.{none_fails, reaches, worker_reply, with_event, is_fault}
use Rattle.vt_transcript.specs.OneHost.{OneHost, fails_in, one_after}
use Rattle.vt_script.specs.declared.event.Event.TheVariants.{Access as AccessLine, Work}
use Rattle.vt_script.specs.declared.reply.Reply.{Reply}
use Rattle.vt_script.specs.declared.reply.Reply.TheVariants as replied
use Rattle.vt_world.specs.Bus.{IsBusAfter, IsReady, Leads, after_access, after_turn, event_by}
use Rattle.vt_transcript.proofs.WithoutFault.{still_none}
use Rattle.vt_seat.specs.Follows.{RefinesOneHost, StepRefinesOneHost}
use Rattle.vt_seat.specs.State.{WorldState}

is_there : (at : ℕ) → at ≡ 0x4C → (at == 0x4C) ≡ true
is_there at here = rw here refl

is_elsewhere : (at : ℕ) → at ≢ 0x4C → (at == 0x4C) ≡ false
is_elsewhere at away = grind (arith, nat_tests)

after-elsewhere : (b : Snapshot) (p : History) (a : Access) (value : ℕ) (write : Option ℕ) (start : Bool) → write ≡ None → start ≡ false
    → Read a value ∷ p ≡ (if is_none write && start then after_turn b (event_by write a value ∷ p) else event_by write a value ∷ p)
after-elsewhere b p a value write start none away = rw (none, away) refl

after-start : (b : Snapshot) (p : History) (a : Access) (value : ℕ) (write : Option ℕ) (start : Bool) → write ≡ None → start ≡ true
    → after_turn b (Read a value ∷ p) ≡ (if is_none write && start then after_turn b (event_by write a value ∷ p) else event_by write a value ∷ p)
after-start b p a value write start none here = rw (none, here) refl

-- ---- the accesses

-- after a read
pub read-after : (b : Snapshot) (p : History) (old new : WorldState) (a : Access) (value size : ℕ)
    → ((t : OneHost) → RefinesOneHost b t old → StepRefinesOneHost b t (AccessLine a) (replied.Value value size) new)
    → IsBusAfter b p old → IsBusAfter b (Read a value ∷ p) new
read-after b p old new a value size steps after =
    let t : OneHost = after.host in
    let one = steps t after.follows in
    let same : Read a value ∷ t.history ≡ Read a value ∷ p = ap (λ (h : History). Read a value ∷ h) after.same in
    record {
      host = one_after b t (AccessLine a) (replied.Value value size);
      follows = one.follows;
      unordered = after.unordered;
      same = same;
      legal = subst (Legal b) same (one.legal (subst (Legal b) (sym after.same) after.legal));
    }

-- after a step of the worker
turn-after : (b : Snapshot) (p : History) (old new : WorldState) (reply : Reply)
    → ((t : OneHost) → RefinesOneHost b t old → StepRefinesOneHost b t Work reply new)
    → IsBusAfter b p old → IsBusAfter b (after_turn b p) new
turn-after b p old new reply steps after =
    let t : OneHost = after.host in
    let one = steps t after.follows in
    let is : reply ≡ worker_reply b t.history none_fails = one.answers ∙ ap (λ (o : Option ℕ). worker_reply b t.history (λ calls. reaches o (t.count + calls))) after.unordered in
    let same : with_event (Some Work) reply (fails_in t) t.history ≡ after_turn b p =
    ap (λ (o : Option ℕ). with_event (Some Work) reply (λ calls. reaches o (t.count + calls)) t.history) after.unordered ∙ ap (λ (r : Reply). with_event (Some Work) r none_fails t.history) is ∙ ap (after_turn b) after.same in
    record {
      host = one_after b t Work reply;
      follows = one.follows;
      unordered = still_none t.injected_fault (is_fault reply) after.unordered;
      same = same;
      legal = subst (Legal b) same (one.legal (subst (Legal b) (sym after.same) after.legal));
    }

-- a read elsewhere than at START
pub read-leads : (old new : WorldState) (a : Access) (value size : ℕ) → a.write ≡ None → a.offset ≢ 0x4C
    → ((b : Snapshot) (t : OneHost) → RefinesOneHost b t old → StepRefinesOneHost b t (AccessLine a) (replied.Value value size) new)
    → Leads old a value new
read-leads old new a value size none away steps = λ b p after.
    subst (λ (h : History). IsBusAfter b h new) (after-elsewhere b p a value a.write (a.offset == 0x4C) none (is_elsewhere a.offset away)) (read-after b p old new a value size (steps b) after)

-- a read of START, and a step of the worker
pub start-leads : (old middle new : WorldState) (a : Access) (value size : ℕ) (reply : Reply) → a.write ≡ None → a.offset ≡ 0x4C
    → ((b : Snapshot) (t : OneHost) → RefinesOneHost b t old → StepRefinesOneHost b t (AccessLine a) (replied.Value value size) middle)
    → ((b : Snapshot) (t : OneHost) → RefinesOneHost b t middle → StepRefinesOneHost b t Work reply new)
    → Leads old a value new
start-leads old middle new a value size reply none here steps works = λ b p after.
    let one : IsBusAfter b (Read a value ∷ p) middle = read-after b p old middle a value size (steps b) after in
    let two : IsBusAfter b (after_turn b (Read a value ∷ p)) new = turn-after b (Read a value ∷ p) middle new reply (works b) one in
    subst (λ (h : History). IsBusAfter b h new) (after-start b p a value a.write (a.offset == 0x4C) none (is_there a.offset here)) two

clash : (write : Option ℕ) → IsSome write → write ≡ None → ⊥
clash (Some w) some none = cc
clash None some none = cc

-- the reply to a write
accepted : (b : Snapshot) (t : OneHost) (a : Access) (reply : Reply) (new : WorldState) → IsSome a.write → StepRefinesOneHost b t (AccessLine a) reply new → reply ≡ replied.Accepted
accepted b t a replied.Accepted new some one = refl
accepted b t a (replied.Value v s) new some one = absurd (clash a.write some one.answers.0)
accepted b t a _ new some one = absurd one.answers

after-write : (b : Snapshot) (p : History) (a : Access) (value : ℕ) (write : Option ℕ) (start : Bool) → IsSome write
    → Write a ∷ p ≡ (if is_none write && start then after_turn b (event_by write a value ∷ p) else event_by write a value ∷ p)
after-write b p a value (Some w) start some = refl
after-write b p a value None start some = absurd (clash None some refl)

-- a write
pub write-leads : (old new : WorldState) (a : Access) (value : ℕ) (reply : Reply) → IsSome a.write
    → ((b : Snapshot) (t : OneHost) → RefinesOneHost b t old → StepRefinesOneHost b t (AccessLine a) reply new)
    → Leads old a value new
write-leads old new a value reply some steps = λ b p after.
    let s : OneHost = after.host in
    let is : reply ≡ replied.Accepted = accepted b s a reply new some (steps b s after.follows) in
    let one : StepRefinesOneHost b s (AccessLine a) replied.Accepted new = subst (λ (r : Reply). StepRefinesOneHost b s (AccessLine a) r new) is (steps b s after.follows) in
    let same : Write a ∷ s.history ≡ Write a ∷ p = ap (λ (h : History). Write a ∷ h) after.same in
    let here : IsBusAfter b (Write a ∷ p) new = record {
      host = one_after b s (AccessLine a) replied.Accepted;
      follows = one.follows;
      unordered = after.unordered;
      same = same;
      legal = subst (Legal b) same (one.legal (subst (Legal b) (sym after.same) after.legal));
    } in
    subst (λ (h : History). IsBusAfter b h new) (after-write b p a value a.write (a.offset == 0x4C) some) here

-- a world stays ready
pub ready-on : (old new : WorldState) (a : Access) (value : ℕ) → IsReady old → Leads old a value new → IsReady new
ready-on old new a value ready leads = (ready.0, after_access ready.0 ready.1 a value, leads ready.0 ready.1 ready.2)
