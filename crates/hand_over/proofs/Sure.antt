-- Where no call is to fail and the pieces are those of one host's parts, nothing is refused.
use Rattle.std.proofs.Common.{◌≡◌, ℕ, zero, suc, ◌<◌, inl, inr, Bool, true, false, List, [], ◌∷◌, ◌++◌, length, Option, Some, Ok, refl, sym, ap, subst, ◌∙◌, arith}
use Rattle.std.specs.Prelude.{Result, IfSome, ◌||◌, ◌&&◌}
use Rattle.std.proofs.lemmas.Bool.{cond-false}
use Rattle.vt_base.specs.declared.types.Kind.{Kind}
use Rattle.vt_base.specs.declared.types.Kind.TheVariants as kind
use Rattle.vt_base.specs.declared.types.Malformed.{Malformed}
use Rattle.state_blobs.specs.Refusals.{IsRefused}
use Rattle.state_blobs.specs.Assembly.{IsFault}
use Rattle.state_blobs.specs.declared.types.BlobFault.{BlobFault}
use Rattle.ctrl_codec.specs.declared.request.Request.{Request}
use Rattle.ctrl_codec.specs.declared.request.Request.TheVariants.{Init, SetStateBlob, Stop}
use Rattle.ctrl_client.specs.declared.fault.ClientFault.{ClientFault}
use Rattle.ctrl_model.specs.Emulator.{RequestOutcome, HandlesRequest, BlobTaken, TakesPiece, StartsBy, Assembled, kind_of, type_of, gather_of, is_nil}
use Rattle.ctrl_model.specs.Link.{Link}
use Rattle.ctrl_client.specs.Schedules.{fails_within, schedule_after}
use Rattle.ctrl_client.specs.Exchange.{IsQuiet, Commands, CommandedBy, checked_result, result_of, sends_of, calls_of}
use Rattle.move_core.specs.Requests.{WiresView, Asks}
use Rattle.hand_over.specs.Fine.{IsUndisturbed}

or_false : (a b : Bool) → (a || b) ≡ false → (a ≡ false) × (b ≡ false)
or_false false b is = (refl, is)
or_false true b is = absurd cc

after_fine : {Schedule : Type 0} (fails : Schedule → Bool) (later : Schedule → Schedule) (n : ℕ) (schedule : Schedule) → ((m : ℕ) → fails_within fails later m schedule ≡ false) → (m : ℕ) → fails_within fails later m (schedule_after fails later n schedule) ≡ false
after_fine fails later zero schedule none m = none m
after_fine fails later (suc n) schedule none m =
    let first = (or_false (fails schedule) (fails_within fails later zero (later schedule)) (none (suc zero))).0 in
    subst (λ p. fails_within fails later m p ≡ false) (sym (cond-false (fails schedule) (later schedule) (schedule_after fails later n (later schedule)) first))
    (after_fine fails later n (later schedule) (λ k. (or_false (fails schedule) (fails_within fails later k (later schedule)) (none (suc k))).1) m)

-- and none is afterwards
pub undisturbed_after : {Schedule : Type 0} (w v : WiresView Schedule) (n : ℕ) → IsUndisturbed w → v.fails ≡ w.fails → v.later ≡ w.later → v.schedule ≡ schedule_after w.fails w.later n w.schedule → IsUndisturbed v
undisturbed_after {Schedule} w v n fine fails later schedule = record {
  none = λ m.
      ap (λ (f : Schedule → Bool). fails_within f v.later m v.schedule) fails
      ∙ ap (λ (g : Schedule → Schedule). fails_within w.fails g m v.schedule) later
      ∙ ap (λ (p : Schedule). fails_within w.fails w.later m p) schedule
      ∙ after_fine w.fails w.later n w.schedule fine.none m;
}

-- ---- a request is obeyed, and its reply comes
pub record IsObeyed (q : Request) (bytes : List ℕ) (l : Link) (r : Result (Unit {0}) ClientFault) : Type 0 where
  pub request_outcome : RequestOutcome
  pub obeys : HandlesRequest q bytes l.emulator request_outcome
  pub answer : r ≡ checked_result (result_of request_outcome.reply)

obeyed_by : (unsent lost : Bool) (q : Request) (bytes : List ℕ) (l : Link) (r : Result (Unit {0}) ClientFault) (after : Option Link) → unsent ≡ false → lost ≡ false → CommandedBy unsent lost q bytes l r after → IsObeyed q bytes l r
obeyed_by false false q bytes l r after sent got p = record { request_outcome = p.0; obeys = p.1; answer = p.3 }
obeyed_by false true q bytes l r after sent got p = absurd cc
obeyed_by true lost q bytes l r after sent got p = absurd cc

exact : {Schedule : Type 0} (q : Request) (bytes : List ℕ) (w v : WiresView Schedule) (l : Link) (r : Result (Unit {0}) ClientFault) → w.link ≡ Some l → IsQuiet l → Asks q bytes w v r → Commands w.fails w.later q bytes l w.schedule r v.link v.schedule
exact q bytes w v l r is quiet a = subst (λ (link : Option Link). IfSome link (λ l. IsQuiet l → Commands w.fails w.later q bytes l w.schedule r v.link v.schedule)) is a.exact quiet

pub obeyed : {Schedule : Type 0} (q : Request) (bytes : List ℕ) (w v : WiresView Schedule) (l : Link) (r : Result (Unit {0}) ClientFault) → w.link ≡ Some l → IsQuiet l → IsUndisturbed w → Asks q bytes w v r → IsObeyed q bytes l r × IsUndisturbed v
obeyed q bytes w v l r is quiet fine a =
    let c = exact q bytes w v l r is quiet a in (
      obeyed_by (fails_within w.fails w.later (sends_of bytes) w.schedule) (fails_within w.fails w.later (calls_of bytes) w.schedule) q bytes l r v.link (fine.none (sends_of bytes)) (fine.none (calls_of bytes)) c.link,
      undisturbed_after w v (calls_of bytes) fine a.same_fails a.same_later c.schedule_is,
    )

pub stop_done : (l : Link) (r : Result (Unit {0}) ClientFault) → IsObeyed Stop [] l r → r ≡ Ok tt
stop_done l r o = o.answer ∙ ap (λ (t : RequestOutcome). checked_result (result_of t.reply)) o.obeys

kind_again : (k : Kind) → kind_of (type_of k) ≡ Some k
kind_again kind.Permanent = refl
kind_again kind.Volatile = refl
kind_again kind.Saved = refl

taken : (l : Link) (k : Kind) (bytes : List ℕ) (request_outcome : RequestOutcome) → ((f : Malformed) → IsRefused k f (gather_of k l.emulator.gathers ++ bytes) → ⊥) → TakesPiece (Some k) bytes l.emulator request_outcome → checked_result (result_of request_outcome.reply) ≡ Ok tt
taken l k [] request_outcome fine takes = ap (λ (t : RequestOutcome). checked_result (result_of t.reply)) takes
taken l k (b ∷ bytes) request_outcome fine (inl took) = ap (λ (t : RequestOutcome). checked_result (result_of t.reply)) took.1
taken l k (b ∷ bytes) request_outcome fine (inr refused) = absurd (fine refused.0 refused.1)

pub put_sure : (l : Link) (k : Kind) (bytes : List ℕ) (r : Result (Unit {0}) ClientFault) → l.emulator.on ≡ false → ((f : Malformed) → IsRefused k f (gather_of k l.emulator.gathers ++ bytes) → ⊥)
    → IsObeyed (SetStateBlob 0 (type_of k) (length bytes)) bytes l r → r ≡ Ok tt
put_sure l k bytes r off fine o =
    o.answer ∙ taken l k bytes o.request_outcome fine
    (subst (λ (found : Option Kind). TakesPiece found bytes l.emulator o.request_outcome) (kind_again k) (subst (λ (on : Bool). BlobTaken on true (type_of k) bytes l.emulator o.request_outcome) off o.obeys))

and_false : (a b : Bool) → b ≡ false → (a && b) ≡ false
and_false true b is = is
and_false false b is = refl

not_nil : (xs : List ℕ) → 0 < length xs → is_nil xs ≡ false
not_nil [] some = absurd (omega (arith, some))
not_nil (x ∷ xs) some = refl

assembled : (l : Link) (request_outcome : RequestOutcome) → ((f : BlobFault) → IsFault l.emulator.gathers.permanent l.emulator.gathers.volatile l.emulator.gathers.saved f → ⊥) → Assembled l.emulator.gathers.volatile l.emulator request_outcome → checked_result (result_of request_outcome.reply) ≡ Ok tt
assembled l request_outcome fine (inl made) = ap (λ (t : RequestOutcome). checked_result (result_of t.reply)) made.2
assembled l request_outcome fine (inr bad) = absurd (fine bad.0 bad.1)

pub init_sure : (l : Link) (r : Result (Unit {0}) ClientFault) → 0 < length l.emulator.gathers.saved → ((f : BlobFault) → IsFault l.emulator.gathers.permanent l.emulator.gathers.volatile l.emulator.gathers.saved f → ⊥)
    → IsObeyed (Init 0) [] l r → r ≡ Ok tt
init_sure l r some fine o =
    o.answer ∙ assembled l o.request_outcome fine
    (subst (λ (nothing : Bool). StartsBy nothing 0 l.emulator o.request_outcome) (and_false (is_nil l.emulator.gathers.permanent && is_nil l.emulator.gathers.volatile) (is_nil l.emulator.gathers.saved) (not_nil _ some)) o.obeys)
