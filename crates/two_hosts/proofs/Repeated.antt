-- What a message does that comes too late.
use Rattle.std.proofs.Common.{◌≡◌, ◌≢◌, ℕ, ◌+◌, Bool, false, List, [], ◌∷◌, ◌++◌, Some, refl, sym, ◌∙◌, ap, arith, append-nil}
use Rattle.std.specs.Prelude.{nat_lt, ◌==◌}
use Rattle.std.proofs.lemmas.Bool.{cond_both, cond-true, cond-false, eqb-true, eq-eqb, le-ltb}
use Rattle.vt_base.specs.declared.types.HostName.{HostName}
use Rattle.vt_base.specs.declared.types.HostName.TheVariants.{A, B}
use Rattle.move_codec.specs.declared.message.Message.{Message}
use Rattle.move_codec.specs.declared.message.Body.{Body}
use Rattle.move_codec.specs.declared.message.Body.TheVariants as body
use Rattle.move_core.specs.declared.stage.MoveStage.{MoveStage}
use Rattle.move_core.specs.declared.stage.MoveStage.TheVariants as stage
use Rattle.move_core.specs.declared.side.Side.TheVariants.{Empty, Running, Draining, Offering, Released, Filling, Prepared}
use Rattle.move_core.specs.declared.answers.Delivered.TheVariants as delivers
use Rattle.move_core.specs.Sides.{side_of}
use Rattle.move_core.specs.Messages.{message_from}
use Rattle.vt_script.specs.declared.reply.Reply.TheVariants as reply
use Rattle.two_hosts.specs.Deliveries.{SideState, Outcome, DeliveryContext, ignored, sends, delivered, on_prepared, on_commit, calls_at}
use Rattle.two_hosts.specs.Hosts.{TwoHosts, HostState, host_of, with_host, with_outcome, counted, context_for, after_message, after_delivery, next_number}
use Rattle.two_hosts.specs.Replies.{deliver_reply, delivery_reply, meets_fault}
use Rattle.two_hosts.specs.Invariant.{shown_side, side_at}
use Rattle.two_hosts.specs.Laws.{IsStale}

commit_stale : (g : MoveStage) (s : SideState) (e : ℕ) → s.stage ≡ g → shown_side s ≢ Prepared e → on_commit s g e ≡ ignored s
commit_stale (stage.Prepared d) s e is other = cond_both (d == e) _ _ (λ o. o ≡ ignored s) (λ yes. absurd (other (ap side_of is ∙ ap Prepared (eqb-true d e yes)))) (λ no. refl)
commit_stale stage.Empty s e is other = refl
commit_stale stage.Running s e is other = refl
commit_stale stage.Draining s e is other = refl
commit_stale (stage.Offering d totals) s e is other = refl
commit_stale (stage.Released d) s e is other = refl
commit_stale (stage.Filling d totals part place) s e is other = refl

prepared_stale : (x : DeliveryContext) (g : MoveStage) (s : SideState) (e : ℕ) → s.stage ≡ g → shown_side s ≢ Offering e → shown_side s ≢ Released e → on_prepared x s g e ≡ ignored s
prepared_stale x (stage.Offering d totals) s e is offering released = cond_both (d == e) _ _ (λ o. o ≡ ignored s) (λ yes. absurd (offering (ap side_of is ∙ ap Offering (eqb-true d e yes)))) (λ no. refl)
prepared_stale x (stage.Released d) s e is offering released = cond_both (d == e) _ _ (λ o. o ≡ ignored s) (λ yes. absurd (released (ap side_of is ∙ ap Released (eqb-true d e yes)))) (λ no. refl)
prepared_stale x stage.Empty s e is offering released = refl
prepared_stale x stage.Running s e is offering released = refl
prepared_stale x stage.Draining s e is offering released = refl
prepared_stale x (stage.Filling d totals part place) s e is offering released = refl
prepared_stale x (stage.Prepared d) s e is offering released = refl

stale_ignored : (x : DeliveryContext) (s : SideState) (e : ℕ) (b : Body) → IsStale s e b → delivered x s e b ≡ ignored s
stale_ignored x s e (body.Offer totals) stale = cond-false (nat_lt s.top e) _ _ (le-ltb s.top e stale)
stale_ignored x s e body.Commit stale = commit_stale s.stage s e refl stale
stale_ignored x s e body.Prepared stale = prepared_stale x s.stage s e refl stale.0 stale.1
stale_ignored x s e (body.Need part offset) stale = absurd stale
stale_ignored x s e (body.Piece part offset bytes) stale = absurd stale
stale_ignored x s e body.Abort stale = absurd stale
stale_ignored x s e (body.Refuse why value) stale = absurd stale

again_committed : (x : DeliveryContext) (g : MoveStage) (s : SideState) (e : ℕ) → s.stage ≡ g → shown_side s ≡ Released e → on_prepared x s g e ≡ sends x s e body.Commit
again_committed x (stage.Released d) s e is released = let same : d ≡ e = cc in cond-true (d == e) _ _ (eq-eqb d e same)
again_committed x stage.Empty s e is released = absurd (let wrong : Empty ≡ Released e = sym (ap side_of is) ∙ released in cc)
again_committed x stage.Running s e is released = absurd (let wrong : Running ≡ Released e = sym (ap side_of is) ∙ released in cc)
again_committed x stage.Draining s e is released = absurd (let wrong : Draining ≡ Released e = sym (ap side_of is) ∙ released in cc)
again_committed x (stage.Offering d totals) s e is released = absurd (let wrong : Offering d ≡ Released e = sym (ap side_of is) ∙ released in cc)
again_committed x (stage.Filling d totals part place) s e is released = absurd (let wrong : Filling d ≡ Released e = sym (ap side_of is) ∙ released in cc)
again_committed x (stage.Prepared d) s e is released = absurd (let wrong : Prepared d ≡ Released e = sym (ap side_of is) ∙ released in cc)

-- ---- in the world

-- a host as it is
uncounted : (h : HostState) → record h { injected_fault = h.injected_fault; calls = h.calls + 0 } ≡ h
uncounted h = let same : h.calls + 0 ≡ h.calls = omega arith in ap (λ k. record h { calls = k }) same

replaced : (t : TwoHosts) (n : HostName) (sent : List Message) → record (with_host t n (host_of t n)) { sent = sent } ≡ record t { sent = sent }
replaced t A sent = refl
replaced t B sent = refl

no_more : (sent : List Message) → sent ++ [] ≡ sent
no_more sent = rw append-nil refl

ignored_reply : (piece : ℕ) (t : TwoHosts) (m : Message) → IsStale (side_at t m.to) m.epoch m.body → deliver_reply piece t (Some m) ≡ reply.Ignored
ignored_reply piece t m stale = ap (λ (o : Outcome). delivery_reply t.sent o.answer) (stale_ignored (context_for piece t m.to (meets_fault piece t m)) (side_at t m.to) m.epoch m.body stale)

nothing_changed : (piece : ℕ) (t : TwoHosts) (m : Message) → IsStale (side_at t m.to) m.epoch m.body → after_message piece t m reply.Ignored ≡ t
nothing_changed piece t m stale =
    let s = side_at t m.to in
    let x = context_for piece t m.to false in
    let is : delivered (context_for piece t m.to false) (side_at t m.to) m.epoch m.body ≡ ignored (side_at t m.to) = stale_ignored (context_for piece t m.to false) (side_at t m.to) m.epoch m.body stale in
    ap (λ (o : Outcome). with_outcome t m.to (counted reply.Ignored (calls_at m.body o.side.stage o.answer) (host_of t m.to)) o) is
    ∙ ap (λ (h : HostState). record (with_host t m.to h) { sent = t.sent ++ [] }) (uncounted (host_of t m.to))
    ∙ replaced t m.to (t.sent ++ []) ∙ ap (λ (sent : List Message). record t { sent = sent }) (no_more t.sent)

pub stale_is_ignored : (piece : ℕ) (t : TwoHosts) (m : Message) → IsStale (side_at t m.to) m.epoch m.body → (deliver_reply piece t (Some m) ≡ reply.Ignored) × (after_delivery piece t (Some m) reply.Ignored ≡ t)
stale_is_ignored piece t m stale = (ignored_reply piece t m stale, nothing_changed piece t m stale)

pub commits_again : (piece : ℕ) (t : TwoHosts) (m : Message) → m.body ≡ body.Prepared → shown_side (side_at t m.to) ≡ Released m.epoch
    → (deliver_reply piece t (Some m) ≡ reply.SentMessage (next_number t.sent))
    × (after_delivery piece t (Some m) (reply.SentMessage (next_number t.sent)) ≡ record t { sent = t.sent ++ message_from m.to m.epoch body.Commit ∷ [] })
commits_again piece t m prepared released = (
  ap (λ (o : Outcome). delivery_reply t.sent o.answer) (sends_commit (meets_fault piece t m)),
  ap (λ (o : Outcome). with_outcome t m.to (counted (reply.SentMessage (next_number t.sent)) (calls_at m.body o.side.stage o.answer) (host_of t m.to)) o) (sends_commit false)
      ∙ ap (λ b. record (with_host t m.to (counted (reply.SentMessage (next_number t.sent)) (calls_at b (side_at t m.to).stage (delivers.Sent (message_from m.to m.epoch body.Commit))) (host_of t m.to))) { sent = t.sent ++ message_from m.to m.epoch body.Commit ∷ [] }) prepared
      ∙ ap (λ (h : HostState). record (with_host t m.to h) { sent = t.sent ++ message_from m.to m.epoch body.Commit ∷ [] }) (uncounted (host_of t m.to))
      ∙ replaced t m.to (t.sent ++ message_from m.to m.epoch body.Commit ∷ []),
)
  where
    sends_commit : (fails : Bool) → delivered (context_for piece t m.to fails) (side_at t m.to) m.epoch m.body ≡ sends (context_for piece t m.to fails) (side_at t m.to) m.epoch body.Commit
    sends_commit fails = ap (delivered (context_for piece t m.to fails) (side_at t m.to) m.epoch) prepared ∙ again_committed (context_for piece t m.to fails) (side_at t m.to).stage (side_at t m.to) m.epoch refl released
