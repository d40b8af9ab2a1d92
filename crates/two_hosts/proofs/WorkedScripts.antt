-- Scripts with their replies, computed from the definitions.
use Rattle.std.proofs.Common.{◌≡◌, ℕ, Bool, true, false, ◌&&◌, ◌+◌, List, [], ◌∷◌, length, Option, Some, None, refl, sym, subst, lit≤}
use Rattle.std.specs.Prelude.{replicate, ⊤, if◌then◌else◌}
use Rattle.vt_script.specs.declared.event.Event.{Event}
use Rattle.vt_script.specs.declared.event.Event.TheVariants.{Access, Work, Ask as AskLine, Reset as ResetLine, Offer, Deliver, GiveUp, Again, Show, Fail}
use Rattle.vt_script.specs.declared.reply.Reply.{Reply}
use Rattle.vt_script.specs.declared.reply.Reply.TheVariants as reply
use Rattle.device_record.specs.Records.{encode_record}
use Rattle.state_blobs.specs.Encodings.{encode_blob}
use Rattle.crb_machine.specs.Values.{fresh_device}
use Rattle.tpm_core.specs.declared.algorithm.Banks.TheVariants.{Two}
use Rattle.crb_history.specs.Snapshot.{Snapshot, fresh}
use Rattle.crb_history.specs.Event.{History}
use Rattle.vt_transcript.specs.Replies.{Exchange, Transcript, worker_reply, has_rest, response_length}
use Rattle.crb_history.specs.Legal.{Legal}
use Rattle.crb_history.specs.Continued.{snapshot_after}
use Rattle.crb_history.specs.Device.JobStage.{Waiting, Claimed, HasSent}
use Rattle.vt_base.specs.declared.types.HostName.{HostName}
use Rattle.vt_base.specs.declared.types.HostName.TheVariants.{A, B}
use Rattle.vt_base.specs.declared.types.Reason.TheVariants as reason
use Rattle.move_codec.specs.declared.message.Message.{Message}
use Rattle.move_core.specs.declared.stage.MoveStage.{MoveStage}
use Rattle.move_core.specs.declared.stage.MoveStage.TheVariants.{Draining}
use Rattle.two_hosts.specs.Hosts.{TwoHosts, fails_at, first_hosts, hosts_after, stage_at, running_host, working_host, guest_line_on, offered_by, after_offer, after_work, after_work_at, after_exchange, next_number, message_at, bag_size}
use Rattle.two_hosts.specs.Replies.{AnswersIn, draining_reply}
use Rattle.two_hosts.specs.WholeMove.{piece_count}

never : (c : Bool) → (c && false) ≡ false
never true = refl
never false = refl

sent_waits : HasSent ≡ Waiting → ⊥
sent_waits is = cc

claimed_waits : Claimed ≡ Waiting → ⊥
claimed_waits is = cc

-- a line and its reply
abbrev said : Event → Reply → Exchange
said line r = record { line = Some line; reply = r }

-- ---- With another function for the values at the end of a history, since those of a whole buffer take too many steps to compute
-- here. With the function of the definitions it is `hosts_after` itself (`same_hosts`).

abbrev offered_with : Snapshot → TwoHosts → Option HostName → TwoHosts
offered_with values t None = t
offered_with values t (Some n) = offered_by values t n

abbrev worked_with_at : (History → Snapshot) → Snapshot → TwoHosts → HostName → MoveStage → Reply → TwoHosts
worked_with_at save b t n Draining (reply.DoneOffered number epoch message) = let after = guest_line_on b t n Work (reply.Done number) in offered_by (save after.history) after n
worked_with_at save b t n Draining (reply.CancelledOffered number epoch message) = let after = guest_line_on b t n Work (reply.Cancelled number) in offered_by (save after.history) after n
worked_with_at save b t n stage r = after_work_at b t n stage r

abbrev worked_with : (History → Snapshot) → Snapshot → TwoHosts → Option HostName → Reply → TwoHosts
worked_with save b t None r = t
worked_with save b t (Some n) r = worked_with_at save b t n (stage_at t n) r

abbrev exchanged_with : (History → Snapshot) → Snapshot → ℕ → TwoHosts → Option Event → Reply → TwoHosts
exchanged_with save b piece t (Some Offer) (reply.Offered epoch message) = offered_with (save t.history) t (running_host t)
exchanged_with save b piece t (Some Work) r = worked_with save b t (working_host t) r
exchanged_with save b piece t line r = after_exchange b piece t line r

abbrev hosts_with : (History → Snapshot) → Snapshot → ℕ → Transcript → TwoHosts
hosts_with save b piece [] = first_hosts b
hosts_with save b piece (y ∷ t) = exchanged_with save b piece (hosts_with save b piece t) y.line y.reply

abbrev InTurnBy : (History → Snapshot) → Snapshot → ℕ → Transcript → Type 0
InTurnBy save b piece [] = ⊤
InTurnBy save b piece (y ∷ t) = InTurnBy save b piece t × AnswersIn b piece (hosts_with save b piece t) y.line y.reply

record IsRunBy (save : History → Snapshot) (b : Snapshot) (piece : ℕ) (t : Transcript) : Type 0 where
  legal : Legal b (hosts_with save b piece t).history
  in_turn : InTurnBy save b piece t

same_exchange : (b : Snapshot) (piece : ℕ) (t : TwoHosts) (line : Option Event) (r : Reply) → exchanged_with (snapshot_after b) b piece t line r ≡ after_exchange b piece t line r
same_exchange b piece t (Some Offer) (reply.Offered epoch message) = go (running_host t)
  where
    go : (n : Option HostName) → offered_with (snapshot_after b t.history) t n ≡ after_offer b t n (reply.Offered epoch message)
    go None = refl
    go (Some n) = refl
same_exchange b piece t (Some Work) r = go (working_host t)
  where
    at : (n : HostName) (stage : MoveStage) (r : Reply) → worked_with_at (snapshot_after b) b t n stage r ≡ after_work_at b t n stage r
    at n Draining (reply.DoneOffered number epoch message) = refl
    at n Draining (reply.CancelledOffered number epoch message) = refl
    at n _ _ = refl

    go : (n : Option HostName) → worked_with (snapshot_after b) b t n r ≡ after_work b t n r
    go None = refl
    go (Some n) = at n (stage_at t n) r
same_exchange b piece t _ _ = refl

same_hosts : (b : Snapshot) (piece : ℕ) (t : Transcript) → hosts_with (snapshot_after b) b piece t ≡ hosts_after b piece t
same_hosts b piece [] = refl
same_hosts b piece (y ∷ t) = rw (same_hosts b piece t) (same_exchange b piece (hosts_after b piece t) y.line y.reply)

-- A fresh device over a TPM with two banks whose seed is zeros. The empty list stands for the zeros of the buffer: the byte at each place is
-- the same.
abbrev blank : Snapshot
blank = record (fresh (replicate 32 0) Two) { device = record fresh_device { content = [] } }

-- the lines before the last step of the worker
abbrev draining_now : Transcript
draining_now =
    said Work (reply.Exec 1) ∷
    said Work (reply.Sent 1) ∷
    said ResetLine reply.Stopped ∷
    said (Access (record { offset = 0; size = 4; write = None })) reply.Stopped ∷
    said Offer (reply.Draining 1) ∷
    said ResetLine reply.NotYet ∷
    said Work (reply.Claim 1) ∷
    said (Access (record { offset = 76; size = 4; write = Some 1 })) reply.Accepted ∷
    said (Access (record { offset = 136; size = 4; write = Some 17409 })) reply.Accepted ∷
    said (Access (record { offset = 132; size = 4; write = Some 3072 })) reply.Accepted ∷
    said (Access (record { offset = 128; size = 4; write = Some 384 })) reply.Accepted ∷
    said (Access (record { offset = 64; size = 4; write = Some 1 })) reply.Accepted ∷
    said (Access (record { offset = 8; size = 4; write = Some 1 })) reply.Accepted ∷
    []

abbrev hosts_now : TwoHosts
hosts_now = hosts_with (λ history. blank) blank 4096 draining_now

-- whatever the length of the response is, no call fails
done_now : worker_reply blank hosts_now.history (fails_at hosts_now.a) ≡ reply.Done 1
unfolding encode_record encode_blob bag_size
done_now = ends (has_rest (response_length blank hosts_now.history))
  where
    ends : (c : Bool) → (if c && false then reply.Lost 1 else reply.Done 1) ≡ reply.Done 1
    ends true = refl
    ends false = refl

drained_now : reply.DoneOffered 1 1 1 ≡ draining_reply blank hosts_now A (worker_reply blank hosts_now.history (fails_at hosts_now.a))
unfolding encode_record encode_blob bag_size
drained_now = subst (λ (q : Reply). reply.DoneOffered 1 1 1 ≡ draining_reply blank hosts_now A q) (sym done_now) refl

-- While a command is claimed the host that offers drains: no line of the guest is answered, and the offer comes with the end of the command.
--   w 8 4 1 > ok, w 40 4 1 > ok, w 80 4 180 > ok, w 84 4 c00 > ok, w 88 4 4401 > ok, w 4c 4 1 > ok, work > claim 1
--   reset > not yet, offer > draining 1, r 0 4 > stopped, reset > stopped, work > sent 1, work > exec 1
--   work > done 1 offered 1 sent 1, work > stopped
offers_wait_for_commands : IsRunBy (λ history. blank) blank 4096 (
    said Work reply.Stopped ∷
    said Work (reply.DoneOffered 1 1 1) ∷
    said Work (reply.Exec 1) ∷
    said Work (reply.Sent 1) ∷
    said ResetLine reply.Stopped ∷
    said (Access (record { offset = 0; size = 4; write = None })) reply.Stopped ∷
    said Offer (reply.Draining 1) ∷
    said ResetLine reply.NotYet ∷
    said Work (reply.Claim 1) ∷
    said (Access (record { offset = 76; size = 4; write = Some 1 })) reply.Accepted ∷
    said (Access (record { offset = 136; size = 4; write = Some 17409 })) reply.Accepted ∷
    said (Access (record { offset = 132; size = 4; write = Some 3072 })) reply.Accepted ∷
    said (Access (record { offset = 128; size = 4; write = Some 384 })) reply.Accepted ∷
    said (Access (record { offset = 64; size = 4; write = Some 1 })) reply.Accepted ∷
    said (Access (record { offset = 8; size = 4; write = Some 1 })) reply.Accepted ∷
    [])
unfolding encode_record encode_blob bag_size
offers_wait_for_commands = record { legal = ((((((((((tt, tt), tt), tt), tt), tt), tt), record { executing = refl; reached = refl }), record { executing = refl; reached = refl }), record { executing = refl; reached = refl }), record { executing = refl; reached = refl }); in_turn = (((((((((((((((tt, refl), refl), refl), refl), refl), refl), refl), refl), refl), refl), refl), refl), refl), drained_now), refl) }

-- A host that drains gives up: its guest runs on, and nothing was sent.
--   w 8 4 1 > ok, w 40 4 1 > ok, w 80 4 180 > ok, w 84 4 c00 > ok, w 88 4 4401 > ok, w 4c 4 1 > ok, work > claim 1
--   offer > draining 1, giveup > resumed, r 4c 4 > 00000001, work > sent 1, work > exec 1, work > done 1, giveup > not offering
drained_and_given_up : IsRunBy (λ history. blank) blank 4096 (
    said GiveUp reply.NotOffering ∷
    said Work (reply.Done 1) ∷
    said Work (reply.Exec 1) ∷
    said Work (reply.Sent 1) ∷
    said (Access (record { offset = 76; size = 4; write = None })) (reply.Value 1 4) ∷
    said GiveUp reply.Resumed ∷
    said Offer (reply.Draining 1) ∷
    said Work (reply.Claim 1) ∷
    said (Access (record { offset = 76; size = 4; write = Some 1 })) reply.Accepted ∷
    said (Access (record { offset = 136; size = 4; write = Some 17409 })) reply.Accepted ∷
    said (Access (record { offset = 132; size = 4; write = Some 3072 })) reply.Accepted ∷
    said (Access (record { offset = 128; size = 4; write = Some 384 })) reply.Accepted ∷
    said (Access (record { offset = 64; size = 4; write = Some 1 })) reply.Accepted ∷
    said (Access (record { offset = 8; size = 4; write = Some 1 })) reply.Accepted ∷
    [])
unfolding encode_record encode_blob bag_size
drained_and_given_up = record { legal = (((((((((((tt, tt), tt), tt), tt), tt), tt), record { executing = refl; reached = refl }), (lit≤ tt, refl)), record { executing = refl; reached = refl }), record { executing = refl; reached = refl }), record { executing = refl; reached = refl }); in_turn = ((((((((((((((tt, refl), refl), refl), refl), refl), refl), refl), refl), refl), (refl, refl)), refl), refl), rw never refl), refl) }

-- The command of a host that drains is lost: the host offers nothing.
--   fail a 2 > ok, w 8 4 1 > ok, w 40 4 1 > ok, w 80 4 180 > ok, w 84 4 c00 > ok, w 88 4 4401 > ok, w 4c 4 1 > ok
--   work > claim 1, offer > draining 1, work > sent 1, work > lost 1, r 44 4 > 00000001, offer > failed device
drained_and_lost : IsRunBy (λ history. blank) blank 4096 (
    said Offer reply.FailedDevice ∷
    said (Access (record { offset = 68; size = 4; write = None })) (reply.Value 1 4) ∷
    said Work (reply.Lost 1) ∷
    said Work (reply.Sent 1) ∷
    said Offer (reply.Draining 1) ∷
    said Work (reply.Claim 1) ∷
    said (Access (record { offset = 76; size = 4; write = Some 1 })) reply.Accepted ∷
    said (Access (record { offset = 136; size = 4; write = Some 17409 })) reply.Accepted ∷
    said (Access (record { offset = 132; size = 4; write = Some 3072 })) reply.Accepted ∷
    said (Access (record { offset = 128; size = 4; write = Some 384 })) reply.Accepted ∷
    said (Access (record { offset = 64; size = 4; write = Some 1 })) reply.Accepted ∷
    said (Access (record { offset = 8; size = 4; write = Some 1 })) reply.Accepted ∷
    said (Fail A 2) reply.Accepted ∷
    [])
unfolding encode_record encode_blob bag_size
drained_and_lost = record { legal = ((((((((((tt, tt), tt), tt), tt), tt), tt), record { executing = refl; reached = refl }), record { executing = refl; reached = refl }), record { executing = refl; claimed = λ is. sent_waits is }), (lit≤ tt, refl)); in_turn = (((((((((((((tt, refl), refl), refl), refl), refl), refl), refl), refl), refl), refl), refl), (refl, refl)), refl) }

-- The command of a host that drains was cancelled before its claim. The ninth call of the offer behind it fails, so that the guest runs
-- again; the next offer is made at once.
--   fail a 9 > ok, w 8 4 1 > ok, w 40 4 1 > ok, w 80 4 180 > ok, w 84 4 c00 > ok, w 88 4 4401 > ok, w 4c 4 1 > ok
--   w 48 4 1 > ok, work > claim 1, offer > draining 1, work > cancelled 1 link, offer > offered 1 sent 1, r 0 4 > stopped
drained_and_cancelled : IsRunBy (λ history. blank) blank 4096 (
    said (Access (record { offset = 0; size = 4; write = None })) reply.Stopped ∷
    said Offer (reply.Offered 1 1) ∷
    said Work (reply.CancelledLink 1) ∷
    said Offer (reply.Draining 1) ∷
    said Work (reply.Claim 1) ∷
    said (Access (record { offset = 72; size = 4; write = Some 1 })) reply.Accepted ∷
    said (Access (record { offset = 76; size = 4; write = Some 1 })) reply.Accepted ∷
    said (Access (record { offset = 136; size = 4; write = Some 17409 })) reply.Accepted ∷
    said (Access (record { offset = 132; size = 4; write = Some 3072 })) reply.Accepted ∷
    said (Access (record { offset = 128; size = 4; write = Some 384 })) reply.Accepted ∷
    said (Access (record { offset = 64; size = 4; write = Some 1 })) reply.Accepted ∷
    said (Access (record { offset = 8; size = 4; write = Some 1 })) reply.Accepted ∷
    said (Fail A 9) reply.Accepted ∷
    [])
unfolding encode_record encode_blob bag_size
drained_and_cancelled = record { legal = (((((((((tt, tt), tt), tt), tt), tt), tt), tt), record { executing = refl; reached = refl }), (record { executing = refl; claimed = λ is. claimed_waits is }, refl)); in_turn = (((((((((((((tt, refl), refl), refl), refl), refl), refl), refl), refl), refl), refl), refl), refl), refl) }

-- The tenth call isn't one of the offer.
--   fail a 10 > ok, w 8 4 1 > ok, w 40 4 1 > ok, w 80 4 180 > ok, w 84 4 c00 > ok, w 88 4 4401 > ok, w 4c 4 1 > ok
--   w 48 4 1 > ok, work > claim 1, offer > draining 1, work > cancelled 1 offered 1 sent 1, r 0 4 > stopped
cancelled_and_offered : IsRunBy (λ history. blank) blank 4096 (
    said (Access (record { offset = 0; size = 4; write = None })) reply.Stopped ∷
    said Work (reply.CancelledOffered 1 1 1) ∷
    said Offer (reply.Draining 1) ∷
    said Work (reply.Claim 1) ∷
    said (Access (record { offset = 72; size = 4; write = Some 1 })) reply.Accepted ∷
    said (Access (record { offset = 76; size = 4; write = Some 1 })) reply.Accepted ∷
    said (Access (record { offset = 136; size = 4; write = Some 17409 })) reply.Accepted ∷
    said (Access (record { offset = 132; size = 4; write = Some 3072 })) reply.Accepted ∷
    said (Access (record { offset = 128; size = 4; write = Some 384 })) reply.Accepted ∷
    said (Access (record { offset = 64; size = 4; write = Some 1 })) reply.Accepted ∷
    said (Access (record { offset = 8; size = 4; write = Some 1 })) reply.Accepted ∷
    said (Fail A 10) reply.Accepted ∷
    [])
unfolding encode_record encode_blob bag_size
cancelled_and_offered = record { legal = (((((((((tt, tt), tt), tt), tt), tt), tt), tt), record { executing = refl; reached = refl }), (record { executing = refl; claimed = λ is. claimed_waits is }, refl)); in_turn = ((((((((((((tt, refl), refl), refl), refl), refl), refl), refl), refl), refl), refl), refl), refl) }

-- A whole move: message 10 is Prepared, message 11 is Commit.
--   offer > offered 1 sent 1, deliver 1 > sent 2, deliver 2 > sent 3, deliver 3 > sent 4, deliver 4 > sent 5
--   deliver 5 > sent 6, deliver 6 > sent 7, deliver 7 > sent 8, deliver 8 > sent 9, deliver 9 > sent 10
--   deliver 10 > sent 11, deliver 11 > running, r 0 4 > 00000081
whole_move : IsRunBy (λ history. blank) blank 4096 (
    said (Access (record { offset = 0; size = 4; write = None })) (reply.Value 129 4) ∷
    said (Deliver 11) reply.Running ∷
    said (Deliver 10) (reply.SentMessage 11) ∷
    said (Deliver 9) (reply.SentMessage 10) ∷
    said (Deliver 8) (reply.SentMessage 9) ∷
    said (Deliver 7) (reply.SentMessage 8) ∷
    said (Deliver 6) (reply.SentMessage 7) ∷
    said (Deliver 5) (reply.SentMessage 6) ∷
    said (Deliver 4) (reply.SentMessage 5) ∷
    said (Deliver 3) (reply.SentMessage 4) ∷
    said (Deliver 2) (reply.SentMessage 3) ∷
    said (Deliver 1) (reply.SentMessage 2) ∷
    said Offer (reply.Offered 1 1) ∷
    [])
unfolding encode_record encode_blob bag_size
whole_move = record { legal = (tt, (lit≤ tt, refl)); in_turn = (((((((((((((tt, refl), refl), refl), refl), refl), refl), refl), refl), refl), refl), refl), refl), (refl, refl)) }

-- The offer is given up before the Prepared comes.
--   offer > offered 1 sent 1, deliver 1 > sent 2, deliver 2 > sent 3, deliver 3 > sent 4, deliver 4 > sent 5
--   deliver 5 > sent 6, deliver 6 > sent 7, deliver 7 > sent 8, deliver 8 > sent 9, deliver 9 > sent 10
--   giveup > resumed sent 11, deliver 10 > ignored, r 0 4 > 00000081, deliver 11 > took, giveup > not offering
given_up_before_the_commit : IsRunBy (λ history. blank) blank 4096 (
    said GiveUp reply.NotOffering ∷
    said (Deliver 11) reply.Took ∷
    said (Access (record { offset = 0; size = 4; write = None })) (reply.Value 129 4) ∷
    said (Deliver 10) reply.Ignored ∷
    said GiveUp (reply.ResumedSent 11) ∷
    said (Deliver 9) (reply.SentMessage 10) ∷
    said (Deliver 8) (reply.SentMessage 9) ∷
    said (Deliver 7) (reply.SentMessage 8) ∷
    said (Deliver 6) (reply.SentMessage 7) ∷
    said (Deliver 5) (reply.SentMessage 6) ∷
    said (Deliver 4) (reply.SentMessage 5) ∷
    said (Deliver 3) (reply.SentMessage 4) ∷
    said (Deliver 2) (reply.SentMessage 3) ∷
    said (Deliver 1) (reply.SentMessage 2) ∷
    said Offer (reply.Offered 1 1) ∷
    [])
unfolding encode_record encode_blob bag_size
given_up_before_the_commit = record { legal = (tt, (lit≤ tt, refl)); in_turn = (((((((((((((((tt, refl), refl), refl), refl), refl), refl), refl), refl), refl), refl), refl), refl), (refl, refl)), refl), refl) }

-- The Commit is late; the target says again that it is prepared, and gets another one.
--   offer > offered 1 sent 1, deliver 1 > sent 2, deliver 2 > sent 3, deliver 3 > sent 4, deliver 4 > sent 5
--   deliver 5 > sent 6, deliver 6 > sent 7, deliver 7 > sent 8, deliver 8 > sent 9, deliver 9 > sent 10
--   deliver 10 > sent 11, r 0 4 > stopped, again > sent 12, deliver 12 > sent 13, deliver 13 > running, r 0 4 > 00000081
--   deliver 11 > ignored, again > not prepared
commit_sent_again : IsRunBy (λ history. blank) blank 4096 (
    said Again reply.NotPrepared ∷
    said (Deliver 11) reply.Ignored ∷
    said (Access (record { offset = 0; size = 4; write = None })) (reply.Value 129 4) ∷
    said (Deliver 13) reply.Running ∷
    said (Deliver 12) (reply.SentMessage 13) ∷
    said Again (reply.SentMessage 12) ∷
    said (Access (record { offset = 0; size = 4; write = None })) reply.Stopped ∷
    said (Deliver 10) (reply.SentMessage 11) ∷
    said (Deliver 9) (reply.SentMessage 10) ∷
    said (Deliver 8) (reply.SentMessage 9) ∷
    said (Deliver 7) (reply.SentMessage 8) ∷
    said (Deliver 6) (reply.SentMessage 7) ∷
    said (Deliver 5) (reply.SentMessage 6) ∷
    said (Deliver 4) (reply.SentMessage 5) ∷
    said (Deliver 3) (reply.SentMessage 4) ∷
    said (Deliver 2) (reply.SentMessage 3) ∷
    said (Deliver 1) (reply.SentMessage 2) ∷
    said Offer (reply.Offered 1 1) ∷
    [])
unfolding encode_record encode_blob bag_size
commit_sent_again = record { legal = (tt, (lit≤ tt, refl)); in_turn = ((((((((((((((((((tt, refl), refl), refl), refl), refl), refl), refl), refl), refl), refl), refl), refl), refl), refl), refl), (refl, refl)), refl), refl) }

-- There and back; then messages that come too late, and one that was never sent.
--   offer > offered 1 sent 1, deliver 1 > sent 2, deliver 2 > sent 3, deliver 3 > sent 4, deliver 4 > sent 5
--   deliver 5 > sent 6, deliver 6 > sent 7, deliver 7 > sent 8, deliver 8 > sent 9, deliver 9 > sent 10
--   deliver 10 > sent 11, deliver 11 > running, r 0 4 > 00000081, offer > offered 2 sent 12, deliver 12 > sent 13
--   deliver 13 > sent 14, deliver 14 > sent 15, deliver 15 > sent 16, deliver 16 > sent 17, deliver 17 > sent 18
--   deliver 18 > sent 19, deliver 19 > sent 20, deliver 20 > sent 21, deliver 21 > sent 22, deliver 22 > running
--   deliver 1 > ignored, deliver 11 > ignored, deliver 23 > no message
there_and_back : IsRunBy (λ history. blank) blank 4096 (
    said (Deliver 23) reply.NoMessage ∷
    said (Deliver 11) reply.Ignored ∷
    said (Deliver 1) reply.Ignored ∷
    said (Deliver 22) reply.Running ∷
    said (Deliver 21) (reply.SentMessage 22) ∷
    said (Deliver 20) (reply.SentMessage 21) ∷
    said (Deliver 19) (reply.SentMessage 20) ∷
    said (Deliver 18) (reply.SentMessage 19) ∷
    said (Deliver 17) (reply.SentMessage 18) ∷
    said (Deliver 16) (reply.SentMessage 17) ∷
    said (Deliver 15) (reply.SentMessage 16) ∷
    said (Deliver 14) (reply.SentMessage 15) ∷
    said (Deliver 13) (reply.SentMessage 14) ∷
    said (Deliver 12) (reply.SentMessage 13) ∷
    said Offer (reply.Offered 2 12) ∷
    said (Access (record { offset = 0; size = 4; write = None })) (reply.Value 129 4) ∷
    said (Deliver 11) reply.Running ∷
    said (Deliver 10) (reply.SentMessage 11) ∷
    said (Deliver 9) (reply.SentMessage 10) ∷
    said (Deliver 8) (reply.SentMessage 9) ∷
    said (Deliver 7) (reply.SentMessage 8) ∷
    said (Deliver 6) (reply.SentMessage 7) ∷
    said (Deliver 5) (reply.SentMessage 6) ∷
    said (Deliver 4) (reply.SentMessage 5) ∷
    said (Deliver 3) (reply.SentMessage 4) ∷
    said (Deliver 2) (reply.SentMessage 3) ∷
    said (Deliver 1) (reply.SentMessage 2) ∷
    said Offer (reply.Offered 1 1) ∷
    [])
unfolding encode_record encode_blob bag_size
there_and_back = record { legal = (tt, (lit≤ tt, refl)); in_turn = ((((((((((((((((((((((((((((tt, refl), refl), refl), refl), refl), refl), refl), refl), refl), refl), refl), refl), (refl, refl)), refl), refl), refl), refl), refl), refl), refl), refl), refl), refl), refl), refl), refl), refl), refl) }

-- The bytes of an Offer.
--   offer > offered 1 sent 1, show 1 > 4352424d010000001a0101000000000000000100000017000000310000000a0000000a
offer_shown : IsRunBy (λ history. blank) blank 4096 (
    said (Show 1) (reply.Shown (67 ∷ 82 ∷ 66 ∷ 77 ∷ 1 ∷ 0 ∷ 0 ∷ 0 ∷ 26 ∷ 1 ∷ 1 ∷ 0 ∷ 0 ∷ 0 ∷ 0 ∷ 0 ∷ 0 ∷ 0 ∷ 1 ∷ 0 ∷ 0 ∷ 0 ∷ 23 ∷ 0 ∷ 0 ∷ 0 ∷ 49 ∷ 0 ∷ 0 ∷ 0 ∷ 10 ∷ 0 ∷ 0 ∷ 0 ∷ 10 ∷ [])) ∷
    said Offer (reply.Offered 1 1) ∷
    [])
unfolding encode_record encode_blob bag_size
offer_shown = record { legal = tt; in_turn = ((tt, refl), refl) }

-- A call fails while a command is sent: the device is lost for good.
--   fail a 2 > ok, w 8 4 1 > ok, w 40 4 1 > ok, w 80 4 180 > ok, w 84 4 c00 > ok, w 88 4 4401 > ok, w 4c 4 1 > ok
--   work > claim 1, work > sent 1, work > lost 1, r 44 4 > 00000001, r 4c 4 > 00000000, w 40 4 1 > ok, r 44 4 > 00000001
--   offer > failed device, reset > failed device
command_lost : IsRunBy (λ history. blank) blank 4096 (
    said ResetLine reply.FailedDevice ∷
    said Offer reply.FailedDevice ∷
    said (Access (record { offset = 68; size = 4; write = None })) (reply.Value 1 4) ∷
    said (Access (record { offset = 64; size = 4; write = Some 1 })) reply.Accepted ∷
    said (Access (record { offset = 76; size = 4; write = None })) (reply.Value 0 4) ∷
    said (Access (record { offset = 68; size = 4; write = None })) (reply.Value 1 4) ∷
    said Work (reply.Lost 1) ∷
    said Work (reply.Sent 1) ∷
    said Work (reply.Claim 1) ∷
    said (Access (record { offset = 76; size = 4; write = Some 1 })) reply.Accepted ∷
    said (Access (record { offset = 136; size = 4; write = Some 17409 })) reply.Accepted ∷
    said (Access (record { offset = 132; size = 4; write = Some 3072 })) reply.Accepted ∷
    said (Access (record { offset = 128; size = 4; write = Some 384 })) reply.Accepted ∷
    said (Access (record { offset = 64; size = 4; write = Some 1 })) reply.Accepted ∷
    said (Access (record { offset = 8; size = 4; write = Some 1 })) reply.Accepted ∷
    said (Fail A 2) reply.Accepted ∷
    [])
unfolding encode_record encode_blob bag_size
command_lost = record { legal = (((((((((((((tt, tt), tt), tt), tt), tt), tt), record { executing = refl; reached = refl }), record { executing = refl; reached = refl }), record { executing = refl; claimed = λ is. sent_waits is }), (lit≤ tt, refl)), (lit≤ tt, refl)), tt), (lit≤ tt, refl)); in_turn = ((((((((((((((((tt, refl), refl), refl), refl), refl), refl), refl), refl), refl), refl), (refl, refl)), (refl, refl)), refl), (refl, refl)), refl), refl) }

-- A call fails in an offer, and one in its delivery.
--   fail a 1 > ok, offer > link, r 0 4 > 00000081, fail b 1 > ok, offer > offered 1 sent 1
--   deliver 1 > refused link sent 2, deliver 2 > resumed, deliver 1 > ignored, offer > offered 2 sent 3
calls_fail : IsRunBy (λ history. blank) blank 4096 (
    said Offer (reply.Offered 2 3) ∷
    said (Deliver 1) reply.Ignored ∷
    said (Deliver 2) reply.Resumed ∷
    said (Deliver 1) (reply.RefusedSent reason.Link 2) ∷
    said Offer (reply.Offered 1 1) ∷
    said (Fail B 1) reply.Accepted ∷
    said (Access (record { offset = 0; size = 4; write = None })) (reply.Value 129 4) ∷
    said Offer reply.Link ∷
    said (Fail A 1) reply.Accepted ∷
    [])
unfolding encode_record encode_blob bag_size
calls_fail = record { legal = (tt, (lit≤ tt, refl)); in_turn = (((((((((tt, refl), refl), (refl, refl)), refl), refl), refl), refl), refl), refl) }

-- An offer makes nine calls: the ninth fails.
--   fail a 9 > ok, offer > link, offer > offered 1 sent 1
ninth_call_fails : IsRunBy (λ history. blank) blank 4096 (
    said Offer (reply.Offered 1 1) ∷
    said Offer reply.Link ∷
    said (Fail A 9) reply.Accepted ∷
    [])
unfolding encode_record encode_blob bag_size
ninth_call_fails = record { legal = tt; in_turn = (((tt, refl), refl), refl) }

-- Behind the nine calls of the offer the first blob's piece takes three: the twelfth call is the last of these.
--   fail a 12 > ok, offer > offered 1 sent 1, deliver 1 > sent 2, deliver 2 > sent 3, deliver 3 > sent 4
--   deliver 4 > link, deliver 4 > sent 5
twelfth_call_fails : IsRunBy (λ history. blank) blank 4096 (
    said (Deliver 4) (reply.SentMessage 5) ∷
    said (Deliver 4) reply.Link ∷
    said (Deliver 3) (reply.SentMessage 4) ∷
    said (Deliver 2) (reply.SentMessage 3) ∷
    said (Deliver 1) (reply.SentMessage 2) ∷
    said Offer (reply.Offered 1 1) ∷
    said (Fail A 12) reply.Accepted ∷
    [])
unfolding encode_record encode_blob bag_size
twelfth_call_fails = record { legal = tt; in_turn = (((((((tt, refl), refl), refl), refl), refl), refl), refl) }

-- The thirteenth is the first one for the second blob.
--   fail a 13 > ok, offer > offered 1 sent 1, deliver 1 > sent 2, deliver 2 > sent 3, deliver 3 > sent 4
--   deliver 4 > sent 5, deliver 5 > sent 6, deliver 6 > link
thirteenth_call_fails : IsRunBy (λ history. blank) blank 4096 (
    said (Deliver 6) reply.Link ∷
    said (Deliver 5) (reply.SentMessage 6) ∷
    said (Deliver 4) (reply.SentMessage 5) ∷
    said (Deliver 3) (reply.SentMessage 4) ∷
    said (Deliver 2) (reply.SentMessage 3) ∷
    said (Deliver 1) (reply.SentMessage 2) ∷
    said Offer (reply.Offered 1 1) ∷
    said (Fail A 13) reply.Accepted ∷
    [])
unfolding encode_record encode_blob bag_size
thirteenth_call_fails = record { legal = tt; in_turn = ((((((((tt, refl), refl), refl), refl), refl), refl), refl), refl) }

-- A call of the source fails: the message is delivered once more.
--   fail a 10 > ok, offer > offered 1 sent 1, deliver 1 > sent 2, deliver 2 > sent 3, deliver 3 > sent 4
--   deliver 4 > link, deliver 4 > sent 5, deliver 5 > sent 6
source_fails : IsRunBy (λ history. blank) blank 4096 (
    said (Deliver 5) (reply.SentMessage 6) ∷
    said (Deliver 4) (reply.SentMessage 5) ∷
    said (Deliver 4) reply.Link ∷
    said (Deliver 3) (reply.SentMessage 4) ∷
    said (Deliver 2) (reply.SentMessage 3) ∷
    said (Deliver 1) (reply.SentMessage 2) ∷
    said Offer (reply.Offered 1 1) ∷
    said (Fail A 10) reply.Accepted ∷
    [])
unfolding encode_record encode_blob bag_size
source_fails = record { legal = tt; in_turn = ((((((((tt, refl), refl), refl), refl), refl), refl), refl), refl) }

-- The fifth call for the last piece fails.
--   fail b 13 > ok, offer > offered 1 sent 1, deliver 1 > sent 2, deliver 2 > sent 3, deliver 3 > sent 4
--   deliver 4 > sent 5, deliver 5 > sent 6, deliver 6 > sent 7, deliver 7 > sent 8, deliver 8 > sent 9
--   deliver 9 > refused link sent 10, r 0 4 > stopped, deliver 10 > resumed, deliver 9 > ignored, r 0 4 > 00000081
last_piece_fails : IsRunBy (λ history. blank) blank 4096 (
    said (Access (record { offset = 0; size = 4; write = None })) (reply.Value 129 4) ∷
    said (Deliver 9) reply.Ignored ∷
    said (Deliver 10) reply.Resumed ∷
    said (Access (record { offset = 0; size = 4; write = None })) reply.Stopped ∷
    said (Deliver 9) (reply.RefusedSent reason.Link 10) ∷
    said (Deliver 8) (reply.SentMessage 9) ∷
    said (Deliver 7) (reply.SentMessage 8) ∷
    said (Deliver 6) (reply.SentMessage 7) ∷
    said (Deliver 5) (reply.SentMessage 6) ∷
    said (Deliver 4) (reply.SentMessage 5) ∷
    said (Deliver 3) (reply.SentMessage 4) ∷
    said (Deliver 2) (reply.SentMessage 3) ∷
    said (Deliver 1) (reply.SentMessage 2) ∷
    said Offer (reply.Offered 1 1) ∷
    said (Fail B 13) reply.Accepted ∷
    [])
unfolding encode_record encode_blob bag_size
last_piece_fails = record { legal = (tt, (lit≤ tt, refl)); in_turn = (((((((((((((((tt, refl), refl), refl), refl), refl), refl), refl), refl), refl), refl), refl), refl), refl), refl), (refl, refl)) }

-- A fault that a whole move doesn't reach waits for the next one.
--   fail b 14 > ok, offer > offered 1 sent 1, deliver 1 > sent 2, deliver 2 > sent 3, deliver 3 > sent 4
--   deliver 4 > sent 5, deliver 5 > sent 6, deliver 6 > sent 7, deliver 7 > sent 8, deliver 8 > sent 9
--   deliver 9 > sent 10, deliver 10 > sent 11, deliver 11 > running, ask > link, fail a 1 > ok, ask > asked
--   offer > offered 2 sent 12, deliver 12 > refused link sent 13, deliver 13 > resumed
fault_waits : IsRunBy (λ history. blank) blank 4096 (
    said (Deliver 13) reply.Resumed ∷
    said (Deliver 12) (reply.RefusedSent reason.Link 13) ∷
    said Offer (reply.Offered 2 12) ∷
    said AskLine reply.Asked ∷
    said (Fail A 1) reply.Accepted ∷
    said AskLine reply.Link ∷
    said (Deliver 11) reply.Running ∷
    said (Deliver 10) (reply.SentMessage 11) ∷
    said (Deliver 9) (reply.SentMessage 10) ∷
    said (Deliver 8) (reply.SentMessage 9) ∷
    said (Deliver 7) (reply.SentMessage 8) ∷
    said (Deliver 6) (reply.SentMessage 7) ∷
    said (Deliver 5) (reply.SentMessage 6) ∷
    said (Deliver 4) (reply.SentMessage 5) ∷
    said (Deliver 3) (reply.SentMessage 4) ∷
    said (Deliver 2) (reply.SentMessage 3) ∷
    said (Deliver 1) (reply.SentMessage 2) ∷
    said Offer (reply.Offered 1 1) ∷
    said (Fail B 14) reply.Accepted ∷
    [])
unfolding encode_record encode_blob bag_size
fault_waits = record { legal = ((tt, tt), tt); in_turn = (((((((((((((((((((tt, refl), refl), refl), refl), refl), refl), refl), refl), refl), refl), refl), refl), refl), refl), refl), refl), refl), refl), refl) }

-- Either call of an ask fails.
--   fail a 1 > ok, ask > link, fail a 2 > ok, ask > link, ask > asked
asks_fail : IsRunBy (λ history. blank) blank 4096 (
    said AskLine reply.Asked ∷
    said AskLine reply.Link ∷
    said (Fail A 2) reply.Accepted ∷
    said AskLine reply.Link ∷
    said (Fail A 1) reply.Accepted ∷
    [])
unfolding encode_record encode_blob bag_size
asks_fail = record { legal = (((tt, tt), tt), tt); in_turn = (((((tt, refl), refl), refl), refl), refl) }

-- ---- the bag

full_bag : (sent : List Message) → length sent ≡ 16384 → next_number sent ≡ 0
unfolding bag_size
full_bag sent is = rw is refl

last_place : (sent : List Message) → length sent ≡ 16383 → next_number sent ≡ 16384
unfolding bag_size
last_place sent is = rw is refl

past_bag : (sent : List Message) → message_at sent 16385 ≡ None
unfolding bag_size
past_bag sent = refl

-- ---- pieces

-- a device whose command waits has parts of 33, 49, 10 and 10 bytes: with one byte in a piece these are 102 pieces
many_pieces : piece_count 1 33 + (piece_count 1 49 + (piece_count 1 10 + piece_count 1 10)) ≡ 102
many_pieces = refl

few_pieces : piece_count 4096 33 + (piece_count 4096 49 + (piece_count 4096 10 + piece_count 4096 10)) ≡ 4
few_pieces = refl
