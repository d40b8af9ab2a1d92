-- A request and the first bytes of its reply.
use Rattle.std.proofs.Common.{◌≡◌, ℕ, zero, suc, ◌≤◌, Bool, true, false, not, List, length, take, Option, Some, None, Result, Ok, Err, is_ok, refl, sym, ap, subst, ◌∙◌}
use Rattle.std.specs.Prelude.{IfSome, OnOk, ◌||◌, cond}
use Rattle.vt_base.specs.declared.types.Chan.TheVariants.{Ctrl}
use Rattle.vt_base.specs.declared.types.Failed.{Failed}
use Rattle.ctrl_codec.specs.declared.request.Request.{Request}
use Rattle.ctrl_codec.specs.Replies.{encode_reply}
use Rattle.ctrl_model.specs.Emulator.{EmulatorState, RequestOutcome, HandlesRequest}
use Rattle.ctrl_model.specs.Link.{Link, receivable, received, with_outcome}
use Rattle.ctrl_client.specs.Schedules.{fails_within, schedule_after}
use Rattle.ctrl_client.specs.Receiving.{ReceivesExact}
use Rattle.ctrl_client.specs.Exchange.{IsQuiet, SentOut, SendsRequest, sends_of, calls_of, ExchangedBy, Exchanges}
use Rattle.ctrl_client.proofs.Sending.{or-false}

pub not_true : (b : Bool) → true ≡ not b → b ≡ false
not_true true is = absurd cc
not_true false is = refl

pub neither : (a b : Bool) → (a || b) ≡ false → (a ≡ false) × (b ≡ false)
neither true b is = absurd cc
neither false b is = (refl, is)

module _ {P : Type 0} (fails : P → Bool) (later : P → P) where
  -- after so many calls that didn't fail, the next one decides
  pub last_fails : (n : ℕ) (schedule : P) → fails_within fails later n schedule ≡ false → fails_within fails later (suc n) schedule ≡ fails (schedule_after fails later n schedule)
  last_fails zero schedule none = or-false (fails schedule)
  last_fails (suc n) schedule none =
      let both = neither (fails schedule) (fails_within fails later n (later schedule)) none in
      rw both.0 (last_fails n (later schedule) both.1)

  pub last_schedule : (n : ℕ) (schedule : P) → fails_within fails later n schedule ≡ false → schedule_after fails later (suc n) schedule ≡ later (schedule_after fails later n schedule)
  last_schedule zero schedule none = go (fails schedule)
    where
      go : (b : Bool) → cond b (later schedule) (later schedule) ≡ later schedule
      go true = refl
      go false = refl
  last_schedule (suc n) schedule none =
      let both = neither (fails schedule) (fails_within fails later n (later schedule)) none in
      rw both.0 (last_schedule n (later schedule) both.1)

  read : (q : Request) (bytes into : List ℕ) (count : ℕ) (l : Link) (request_outcome : RequestOutcome) (result : Result (Unit {0}) Failed) (lost : Bool) (after : Option Link)
      → HandlesRequest q bytes l.emulator request_outcome → after ≡ Some (received (not lost) Ctrl count (with_outcome request_outcome l)) → is_ok result ≡ not lost → OnOk result (into ≡ take count (encode_reply request_outcome.reply request_outcome.payload))
      → ExchangedBy false lost q bytes count l into after
  read q bytes into count l request_outcome (Ok done) true after obeys is answers exact = absurd cc
  read q bytes into count l request_outcome (Ok done) false after obeys is answers exact = (request_outcome, obeys, is, λ _. exact)
  read q bytes into count l request_outcome (Err fault) true after obeys is answers exact = (request_outcome, obeys, is, λ never. absurd cc)
  read q bytes into count l request_outcome (Err fault) false after obeys is answers exact = absurd cc

  pub exchanges : (q : Request) (bytes into : List ℕ) (count : ℕ) (o mid after : Option Link) (schedule schedule_mid schedule_now : P) (result : Result (Unit {0}) Failed)
      → ((d : EmulatorState) (request_outcome : RequestOutcome) → HandlesRequest q bytes d request_outcome → count ≤ length (encode_reply request_outcome.reply request_outcome.payload)) → length into ≡ count
      → IfSome o (λ l. IsQuiet l → SendsRequest fails later q bytes l schedule true mid schedule_mid)
      → IfSome mid (λ m. count ≤ length (receivable Ctrl m) → ReceivesExact fails later Ctrl m schedule_mid count result into after schedule_now)
      → IfSome o (λ l. IsQuiet l → Exchanges fails later q bytes l schedule (is_ok result) into after schedule_now)
  exchanges q bytes into count None mid after schedule schedule_mid schedule_now result room size sends receives = tt
  exchanges q bytes into count (Some l) mid after schedule schedule_mid schedule_now result room size sends receives = λ quiet.
      let sent = sends quiet in
      let none : fails_within fails later (sends_of bytes) schedule ≡ false = not_true _ sent.sent_is in
      let out : SentOut false q bytes l mid = subst (λ (lost : Bool). SentOut lost q bytes l mid) none sent.link in
      let request_outcome = out.0 in
      let exact : IfSome (Some (with_outcome request_outcome l)) (λ m. count ≤ length (receivable Ctrl m) → ReceivesExact fails later Ctrl m schedule_mid count result into after schedule_now) =
      subst (λ (o : Option Link). IfSome o (λ m. count ≤ length (receivable Ctrl m) → ReceivesExact fails later Ctrl m schedule_mid count result into after schedule_now)) out.2 receives in
      let got = exact (room l.emulator request_outcome out.1) in
      let last : fails_within fails later (calls_of bytes) schedule ≡ fails schedule_mid = last_fails (sends_of bytes) schedule none ∙ ap fails (sym sent.schedule_is) in
      record {
        schedule_is = got.schedule_after ∙ ap later sent.schedule_is ∙ sym (last_schedule (sends_of bytes) schedule none);
        got_is = got.answers ∙ ap not (sym last);
        link = subst (λ (b : Bool). ExchangedBy b (fails_within fails later (calls_of bytes) schedule) q bytes (length into) l into after) (sym none)
            (subst (λ (b : Bool). ExchangedBy false b q bytes (length into) l into after) (sym last)
            (subst (λ (n : ℕ). ExchangedBy false (fails schedule_mid) q bytes n l into after) (sym size)
            (read q bytes into count l request_outcome result (fails schedule_mid) after out.1 got.link got.answers got.bytes)));
      }
