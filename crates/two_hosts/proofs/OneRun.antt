-- Lines have one run.
use Rattle.std.proofs.Common.{◌≡◌, ℕ, Bool, List, [], ◌∷◌, Option, Some, None, refl, sym, ap, subst, ◌∙◌}
use Rattle.std.specs.Prelude.{map, IsSome}
use Rattle.crb_regs.specs.Access.{Access}
use Rattle.vt_script.specs.declared.event.Event.{Event}
use Rattle.vt_script.specs.declared.event.Event.TheVariants as line
use Rattle.vt_script.specs.declared.reply.Reply.{Reply}
use Rattle.crb_history.specs.Snapshot.{Snapshot}
use Rattle.crb_history.specs.Event.{History}
use Rattle.crb_history.specs.Legal.{Legal}
use Rattle.vt_transcript.specs.Replies.{IsReplyTo, ask_reply, reset_reply, with_event, Exchange, line_of, Transcript}
use Rattle.vt_base.specs.declared.types.HostName.{HostName}
use Rattle.move_codec.specs.declared.message.Message.{Message}
use Rattle.move_core.specs.declared.stage.MoveStage.{MoveStage}
use Rattle.move_core.specs.declared.stage.MoveStage.TheVariants as stage
use Rattle.vt_script.specs.declared.event.Event.TheVariants.{Offer, Deliver, GiveUp, Again, Show}
use Rattle.vt_script.specs.declared.reply.Reply.TheVariants as reply
use Rattle.two_hosts.specs.Hosts.{TwoHosts, host_of, stage_at, running_host, working_host, host_where, is_leaving, is_prepared, fails_at, guest_line_on, guest_line_on_any, worker_part, after_drained, after_work_at, after_work, after_exchange, after_offer, after_delivery, after_give_up, after_again, message_at, hosts_after}
use Rattle.two_hosts.specs.Replies.{AnswersIn, AnswersOn, AnswersWork, AnswersWorkAt, IsRun}

-- a read or a write, on the host that is found
values_once : (b : Snapshot) (t : TwoHosts) (n : HostName) (a : Access) (r q : Reply) (fails : ℕ → Bool) → IsReplyTo b t.history fails (Some (line.Access a)) r → IsReplyTo b t.history fails (Some (line.Access a)) q
    → Legal b (guest_line_on_any b t (Some n) (line.Access a) r).history → Legal b (guest_line_on_any b t (Some n) (line.Access a) q).history → r ≡ q
values_once b t n a (reply.Value v size) (reply.Value u other) fails one two here there =
    ap (λ k. reply.Value k size) (here.1.1 ∙ sym there.1.1) ∙ ap (reply.Value u) (one.1 ∙ sym two.1)
values_once b t n a reply.Accepted reply.Accepted fails one two here there = refl
values_once b t n a (reply.Value v size) reply.Accepted fails one two here there = absurd (none a.write one.0 two)
  where
    none : (w : Option ℕ) → w ≡ None → IsSome w → ⊥
    none None is some = cc
    none (Some x) is some = cc
values_once b t n a reply.Accepted (reply.Value u other) fails one two here there = absurd (none a.write two.0 one)
  where
    none : (w : Option ℕ) → w ≡ None → IsSome w → ⊥
    none None is some = cc
    none (Some x) is some = cc
values_once b t n a (reply.Value v size) _ fails one two here there = absurd two
values_once b t n a reply.Accepted _ fails one two here there = absurd two
values_once b t n a _ _ fails one two here there = absurd one

-- an access
access_once : (b : Snapshot) (t : TwoHosts) (found : Option HostName) (a : Access) (r q : Reply) → AnswersOn b t found (line.Access a) r → AnswersOn b t found (line.Access a) q
    → Legal b (guest_line_on_any b t found (line.Access a) r).history → Legal b (guest_line_on_any b t found (line.Access a) q).history → r ≡ q
access_once b t None a r q one two here there = one ∙ sym two
access_once b t (Some n) a r q one two here there = values_once b t n a r q (fails_at (host_of t n)) one two here there

-- the others: each has its one reply
on_once : (b : Snapshot) (t : TwoHosts) (found : Option HostName) (l : Event) (due : (ℕ → Bool) → Reply) (r q : Reply) → ((fails : ℕ → Bool) (x : Reply) → IsReplyTo b t.history fails (Some l) x → x ≡ due fails) → AnswersOn b t found l r → AnswersOn b t found l q → r ≡ q
on_once b t None l due r q only one two = one ∙ sym two
on_once b t (Some n) l due r q only one two = only (fails_at (host_of t n)) r one ∙ sym (only (fails_at (host_of t n)) q two)

work_once_at : (b : Snapshot) (t : TwoHosts) (n : HostName) (g : MoveStage) (r q : Reply) → AnswersWorkAt b t n g r → AnswersWorkAt b t n g q → r ≡ q
work_once_at b t n stage.Draining r q one two = one ∙ sym two
work_once_at b t n _ r q one two = one ∙ sym two

work_once : (b : Snapshot) (t : TwoHosts) (found : Option HostName) (r q : Reply) → AnswersWork b t found r → AnswersWork b t found q → r ≡ q
work_once b t None r q one two = one ∙ sym two
work_once b t (Some n) r q one two = work_once_at b t n (stage_at t n) r q one two

reply_once : (b : Snapshot) (piece : ℕ) (t : TwoHosts) (l : Option Event) (r q : Reply) → AnswersIn b piece t l r → AnswersIn b piece t l q → Legal b (after_exchange b piece t l r).history → Legal b (after_exchange b piece t l q).history → r ≡ q
reply_once b piece t None r q one two here there = absurd one
reply_once b piece t (Some (line.Fail host call)) r q one two here there = one ∙ sym two
reply_once b piece t (Some (line.Access a)) r q one two here there = access_once b t (running_host t) a r q one two here there
reply_once b piece t (Some line.Work) r q one two here there = work_once b t (working_host t) r q one two
reply_once b piece t (Some line.Ask) r q one two here there = on_once b t (running_host t) line.Ask ask_reply r q (λ fails x is. is) one two
reply_once b piece t (Some line.Reset) r q one two here there = on_once b t (running_host t) line.Reset (reset_reply b t.history) r q (λ fails x is. is) one two
reply_once b piece t (Some Offer) r q one two here there = one ∙ sym two
reply_once b piece t (Some (Deliver k)) r q one two here there = one ∙ sym two
reply_once b piece t (Some GiveUp) r q one two here there = one ∙ sym two
reply_once b piece t (Some Again) r q one two here there = one ∙ sym two
reply_once b piece t (Some (Show k)) r q one two here there = one ∙ sym two

-- ---- a prefix of a legal history is legal

event_before : (b : Snapshot) (l : Event) (r : Reply) (fails : ℕ → Bool) (p : History) → Legal b (with_event (Some l) r fails p) → Legal b p
event_before b (line.Access a) (reply.Value v size) fails p h = h.0
event_before b (line.Access a) reply.Accepted fails p h = h.0
event_before b line.Work (reply.Claim k) fails p h = h.0
event_before b line.Work (reply.Sent k) fails p h = h.0
event_before b line.Work (reply.Exec k) fails p h = h.0
event_before b line.Work (reply.Done k) fails p h = h.0
event_before b line.Work (reply.Cancelled k) fails p h = h.0
event_before b line.Work (reply.Lost k) fails p h = h.0
event_before b line.Ask reply.Asked fails p h = h.0
event_before b line.Ask reply.Link fails p h = h.0
event_before b line.Reset reply.Reset fails p h = h.0
event_before b line.Reset reply.Link fails p h = h.0
event_before b _ _ fails p h = h

on_before : (b : Snapshot) (t : TwoHosts) (found : Option HostName) (l : Event) (r : Reply) → Legal b (guest_line_on_any b t found l r).history → Legal b t.history
on_before b t None l r h = h
on_before b t (Some n) l r h = event_before b l r (fails_at (host_of t n)) t.history h

-- what follows the worker's step adds no event
drained_before : (b : Snapshot) (t : TwoHosts) (n : HostName) (r : Reply) → Legal b (after_drained b t n r).history → Legal b t.history
drained_before b t n (reply.DoneOffered k e m) h = h
drained_before b t n (reply.CancelledOffered k e m) h = h
drained_before b t n (reply.DoneLink k) h = h
drained_before b t n (reply.CancelledLink k) h = h
drained_before b t n (reply.Lost k) h = h
drained_before b t n _ h = h

work_before_at : (b : Snapshot) (t : TwoHosts) (n : HostName) (g : MoveStage) (r : Reply) → Legal b (after_work_at b t n g r).history → Legal b t.history
work_before_at b t n stage.Draining r h = event_before b line.Work (worker_part r) (fails_at (host_of t n)) t.history (drained_before b (guest_line_on b t n line.Work (worker_part r)) n r h)
work_before_at b t n _ r h = event_before b line.Work r (fails_at (host_of t n)) t.history h

work_before : (b : Snapshot) (t : TwoHosts) (found : Option HostName) (r : Reply) → Legal b (after_work b t found r).history → Legal b t.history
work_before b t None r h = h
work_before b t (Some n) r h = work_before_at b t n (stage_at t n) r h

offers_before : (b : Snapshot) (t : TwoHosts) (found : Option HostName) (r : Reply) → Legal b (after_offer b t found r).history → Legal b t.history
offers_before b t None r h = h
offers_before b t (Some n) (reply.Offered e m) h = h
offers_before b t (Some n) (reply.Draining k) h = h
offers_before b t (Some n) _ h = h

comes_before : (b : Snapshot) (piece : ℕ) (t : TwoHosts) (found : Option Message) (r : Reply) → Legal b (after_delivery piece t found r).history → Legal b t.history
comes_before b piece t None r h = h
comes_before b piece t (Some m) r h = h

gives_before : (b : Snapshot) (t : TwoHosts) (found : Option HostName) → Legal b (after_give_up t found).history → Legal b t.history
gives_before b t None h = h
gives_before b t (Some n) h = h

says_before : (b : Snapshot) (t : TwoHosts) (found : Option HostName) → Legal b (after_again t found).history → Legal b t.history
says_before b t None h = h
says_before b t (Some n) h = h

exchange_before : (b : Snapshot) (piece : ℕ) (t : TwoHosts) (l : Option Event) (r : Reply) → Legal b (after_exchange b piece t l r).history → Legal b t.history
exchange_before b piece t None r h = h
exchange_before b piece t (Some (line.Fail host call)) r h = event_before b (line.Fail host call) r (fails_at (host_of t host)) t.history h
exchange_before b piece t (Some (line.Access a)) r h = on_before b t (running_host t) (line.Access a) r h
exchange_before b piece t (Some line.Work) r h = work_before b t (working_host t) r h
exchange_before b piece t (Some line.Ask) r h = on_before b t (running_host t) line.Ask r h
exchange_before b piece t (Some line.Reset) r h = on_before b t (running_host t) line.Reset r h
exchange_before b piece t (Some Offer) r h = offers_before b t (running_host t) r h
exchange_before b piece t (Some (Deliver k)) r h = comes_before b piece t (message_at t.sent k) r h
exchange_before b piece t (Some GiveUp) r h = gives_before b t (host_where is_leaving t) h
exchange_before b piece t (Some Again) r h = says_before b t (host_where is_prepared t) h
exchange_before b piece t (Some (Show k)) r h = h

-- ---- one run

same_exchange : (x y : Exchange) → x.line ≡ y.line → x.reply ≡ y.reply → x ≡ y
same_exchange x y one two = ap (λ l. record { line = l; reply = x.reply }) one ∙ ap (λ r. record { line = y.line; reply = r }) two

pub runs_are_one : (b : Snapshot) (piece : ℕ) (t u : Transcript) → map line_of t ≡ map line_of u → IsRun b piece t → IsRun b piece u → t ≡ u
runs_are_one b piece [] [] lines one two = refl
runs_are_one b piece [] (y ∷ u) lines one two = absurd cc
runs_are_one b piece (x ∷ t) [] lines one two = absurd cc
runs_are_one b piece (x ∷ t) (y ∷ u) lines one two =
    let line_is : x.line ≡ y.line = heads x.line y.line (map line_of t) (map line_of u) lines in
    let tail_is : map line_of t ≡ map line_of u = tails x.line y.line (map line_of t) (map line_of u) lines in
    let rest : t ≡ u = runs_are_one b piece t u tail_is (record { legal = exchange_before b piece (hosts_after b piece t) x.line x.reply one.legal; in_turn = one.in_turn.0 })
    (record { legal = exchange_before b piece (hosts_after b piece u) y.line y.reply two.legal; in_turn = two.in_turn.0 }) in
    let back : hosts_after b piece u ≡ hosts_after b piece t = ap (hosts_after b piece) (sym rest) in
    let answers : AnswersIn b piece (hosts_after b piece t) x.line y.reply = subst (λ l. AnswersIn b piece (hosts_after b piece t) l y.reply) (sym line_is) (subst (λ (s : TwoHosts). AnswersIn b piece s y.line y.reply) back two.in_turn.1) in
    let legal : Legal b (after_exchange b piece (hosts_after b piece t) x.line y.reply).history = subst (λ l. Legal b (after_exchange b piece (hosts_after b piece t) l y.reply).history) (sym line_is) (subst (λ (s : TwoHosts). Legal b (after_exchange b piece s y.line y.reply).history) back two.legal) in
    let reply_is : x.reply ≡ y.reply = reply_once b piece (hosts_after b piece t) x.line x.reply y.reply one.in_turn.1 answers one.legal legal in
    ap (λ (k : Exchange). k ∷ t) (same_exchange x y line_is reply_is) ∙ ap (λ (k : Transcript). y ∷ k) rest
  where
    heads : (a c : Option Event) (l k : List (Option Event)) → a ∷ l ≡ c ∷ k → a ≡ c
    heads a c l k is = cc

    tails : (a c : Option Event) (l k : List (Option Event)) → a ∷ l ≡ c ∷ k → l ≡ k
    tails a c l k is = cc
