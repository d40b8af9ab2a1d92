-- A command from its start to its end.
use Rattle.std.proofs.Common.{◌≢◌, ℕ, ◌+◌, ◌<◌, true, false, List, [], ◌∷◌, ◌++◌, refl, subst, arith, rules}
use Rattle.std.proofs.lemmas.Grind.{common_steps}
use Rattle.std.proofs.lemmas.List.{map-append}
use Rattle.std.proofs.lemmas.List.Elements.{All-push}
use Rattle.crb_driver.specs.declared.fault.DriverFault.{DriverFault}
use Rattle.crb_driver.specs.declared.fault.DriverFault.TheVariants.{Size, NotGranted, NotReady, TimedOut, Fatal, BadResponse}
use Rattle.crb_driver.specs.Bus.{Exchange, Relation, Reaches}
use Rattle.crb_driver.specs.Accesses.{start_accesses, poll_accesses}
use Rattle.crb_driver.specs.Calls.{Starts, Polls, StaysBusy, Ends, RunsThen, TimesOut, Finishes, AnswersCall, FailsToFinish, Fails}
use Rattle.crb_driver.proofs.Reaching.{reaches-append}

module _ {S : Type 0} (step : Relation S) (old begun waited : S) where
  -- a command that was started and never ended
  pub times_out : (command : List ℕ) (polls : ℕ) → Starts step old command begun → StaysBusy step begun polls waited → TimesOut step old command polls waited
  times_out command polls s w = record {
    seen = record { loc_sts = s.loc_sts; ctrl_sts = s.ctrl_sts; busy = w.0 };
    waiting = record { granted = s.granted; ready = s.ready; busy = w.1 };
    every = w.2;
    reaches = reaches-append step old begun waited (start_accesses command s.loc_sts s.ctrl_sts) (poll_accesses w.0) s.reaches w.3;
  }

  -- a command that was started and ended, and what was done then
  pub runs_then : (new : S) (command : List ℕ) (polls : ℕ) (end : List Exchange) → Starts step old command begun → Ends step begun polls waited → Reaches step waited end new → RunsThen step old command polls end new
  runs_then new command polls end s w then = record {
    seen = record { loc_sts = s.loc_sts; ctrl_sts = s.ctrl_sts; busy = w.0 };
    waiting = record { granted = s.granted; ready = s.ready; busy = w.1 };
    within = w.2;
    reaches = reaches-append step old waited new (start_accesses command s.loc_sts s.ctrl_sts ++ poll_accesses (w.0 ++ 0 ∷ [])) end
        (reaches-append step old begun waited (start_accesses command s.loc_sts s.ctrl_sts) (poll_accesses (w.0 ++ 0 ∷ [])) s.reaches w.3) then;
  }

  -- the response that was read at the end
  pub answers : (new : S) (command : List ℕ) (polls : ℕ) (response : List ℕ) → Starts step old command begun → Ends step begun polls waited → Finishes step waited response new → AnswersCall step old command polls response new
  answers new command polls response s w f = record { ctrl_sts = f.ctrl_sts; usable = f.usable; runs = runs_then new command polls _ s w f.reaches }

  -- the fault that was found at the end
  pub fails : (new : S) (command : List ℕ) (polls : ℕ) (room : ℕ) (fault : DriverFault) → Starts step old command begun → Ends step begun polls waited → FailsToFinish step waited room fault new → Fails step old command polls room fault new
  fails new command polls room (Fatal n) s w f = (f.0, runs_then new command polls _ s w f.1)
  fails new command polls room (BadResponse n) s w f = record { ctrl_sts = f.ctrl_sts; usable = f.usable; bad = f.bad; runs = runs_then new command polls _ s w f.reaches }
  fails new command polls room (Size n) s w f = absurd f
  fails new command polls room (NotGranted n) s w f = absurd f
  fails new command polls room (NotReady n) s w f = absurd f
  fails new command polls room (TimedOut n) s w f = absurd f

  -- one more poll
  pub polls-more : (middle : S) (busy : List ℕ) (value : ℕ) → Reaches step begun (poll_accesses busy) middle → Reaches step middle (poll_accesses (value ∷ [])) waited → Reaches step begun (poll_accesses (busy ++ value ∷ [])) waited
  polls-more middle busy value a b = rw map-append (reaches-append step begun middle waited (poll_accesses busy) (poll_accesses (value ∷ [])) a b)

  -- a poll that found the end
  pub ends : (middle : S) (turn polls : ℕ) → StaysBusy step begun turn middle → turn < polls → Polls step middle true waited → Ends step begun polls waited
  ends middle turn polls b more p =
      (b.0, b.1, omega (arith, b.2, more), polls-more middle b.0 0 b.3 (subst (λ (v : ℕ). Reaches step middle (poll_accesses (v ∷ [])) waited) (p.answer.0 refl) p.reaches))

  -- a poll that didn't
  pub stays : (middle : S) (turn : ℕ) → StaysBusy step begun turn middle → Polls step middle false waited → StaysBusy step begun (turn + 1) waited
  stays middle turn b p =
      (b.0 ++ p.value ∷ [], All-push (λ value. value ≢ 0) b.0 p.value b.1 (λ zero. search (rules, p.answer.1 zero)), grind (arith, common_steps, b.2), polls-more middle b.0 p.value b.3 p.reaches)
