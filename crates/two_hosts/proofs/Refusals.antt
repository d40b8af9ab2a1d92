-- Which refusals come: those of a failed call alone.
use Rattle.std.proofs.Common.{◌≡◌, ℕ, ◌+◌, ◌≤◌, true, false, ◌&&◌, List, length, Option, Some, None, refl, sym, ◌∙◌, ap, subst, arith, ◌⊎◌, inl, inr}
use Rattle.std.specs.Prelude.{nat_lt, ◌==◌}
use Rattle.std.proofs.lemmas.Bool.{cond_both, ltb-true}
use Rattle.crb_history.specs.Snapshot.{Snapshot}
use Rattle.vt_base.specs.declared.types.HostName.{HostName}
use Rattle.vt_base.specs.declared.types.HostName.TheVariants.{A, B}
use Rattle.vt_base.specs.declared.types.Reason.{Reason}
use Rattle.vt_base.specs.declared.types.Reason.TheVariants as reason
use Rattle.move_codec.specs.declared.names.Part.{Part}
use Rattle.move_codec.specs.declared.message.Message.{Message}
use Rattle.move_codec.specs.declared.message.Body.{Body}
use Rattle.move_codec.specs.declared.message.Body.TheVariants as body
use Rattle.move_core.specs.declared.stage.MoveStage.{MoveStage}
use Rattle.move_core.specs.declared.stage.MoveStage.TheVariants as stage
use Rattle.move_core.specs.declared.answers.Delivered.{Delivered}
use Rattle.move_core.specs.declared.answers.Delivered.TheVariants as delivers
use Rattle.move_core.specs.Sides.{side_of, is_active, total_of, part_after, first_bad}
use Rattle.move_core.specs.Messages.{is_next}
use Rattle.vt_script.specs.declared.reply.Reply.{Reply}
use Rattle.vt_script.specs.declared.reply.Reply.TheVariants as reply
use Rattle.two_hosts.specs.Parts.{totals_of}
use Rattle.two_hosts.specs.Deliveries.{SideState, Outcome, DeliveryContext, delivered, on_offer, on_need, on_piece, on_prepared, on_commit, on_abort, on_refuse, takes_offer, goes_to}
use Rattle.two_hosts.specs.Hosts.{TwoHosts, context_for, message_at}
use Rattle.two_hosts.specs.Replies.{deliver_reply, delivery_reply, reason_in, meets_fault}
use Rattle.two_hosts.specs.Invariant.{HostsInvariant, IsConsistent, Says, IsSent, IsPassive, side_at, shown_side}
use Rattle.two_hosts.proofs.InvariantKept.{in_bag_sent}
use Rattle.two_hosts.proofs.RestActs as rest

-- what an answer says of calls: it is no refusal, or one by a failed call
abbrev IsByCall : Delivered → Type 0
IsByCall (delivers.Refused m) = reason_in m.body ≡ reason.Link
IsByCall _ = Unit {0}

abbrev ByCall : Outcome → Type 0
ByCall after = IsByCall after.answer

-- ---- each kind of message

taken_by_call : (x : DeliveryContext) (s : SideState) (e : ℕ) (totals : List ℕ) (bad : Option ℕ) → bad ≡ None → ByCall (takes_offer x s e totals bad)
taken_by_call x s e totals None is = cond_both x.fails _ _ ByCall (λ yes. refl) (λ no. tt)
taken_by_call x s e totals (Some bad) is = absurd cc

-- an Offer to a host that has seen its epoch, or that takes part in no other move and may take these totals
offer_by_call : (x : DeliveryContext) (s : SideState) (e : ℕ) (totals : List ℕ) → (e ≤ s.top) ⊎ ((is_active s.stage ≡ false) × (first_bad totals ≡ None)) → ByCall (on_offer x s e totals)
offer_by_call x s e totals (inl late) = cond_both (nat_lt s.top e) _ _ ByCall (λ newer. absurd (omega (arith, late, ltb-true s.top e newer))) (λ old. tt)
offer_by_call x s e totals (inr may) = cond_both (nat_lt s.top e) _ _ ByCall
    (λ newer. cond_both (is_active s.stage) _ _ ByCall (λ active. absurd (let wrong : true ≡ false = sym active ∙ may.0 in cc)) (λ passive. taken_by_call x (record s { top = e }) e totals (first_bad totals) may.1)) (λ old. tt)

need_by_call : (x : DeliveryContext) (g : MoveStage) (s : SideState) (e : ℕ) (part : Part) (offset : ℕ) → ByCall (on_need x s g e part offset)
need_by_call x (stage.Offering d totals) s e part offset = cond_both (d == e && nat_lt offset (total_of totals part)) _ _ ByCall (λ yes. cond_both x.fails _ _ ByCall (λ fails. tt) (λ works. tt)) (λ no. tt)
need_by_call x stage.Empty s e part offset = tt
need_by_call x stage.Running s e part offset = tt
need_by_call x stage.Draining s e part offset = tt
need_by_call x (stage.Released d) s e part offset = tt
need_by_call x (stage.Filling d totals next place) s e part offset = tt
need_by_call x (stage.Prepared d) s e part offset = tt

piece_by_call : (x : DeliveryContext) (g : MoveStage) (s : SideState) (e : ℕ) (part : Part) (offset : ℕ) (bytes : List ℕ) → ByCall (on_piece x s g e part offset bytes)
piece_by_call x (stage.Filling d totals next place) s e part offset bytes = cond_both (d == e && is_next totals next place part offset (length bytes)) _ _ ByCall
    (λ yes. cond_both x.fails _ _ ByCall (λ fails. refl) (λ works. cond_both (nat_lt (place + length bytes) (total_of totals next)) _ _ ByCall (λ more. tt) (λ full. full_end (part_after next)))) (λ no. tt)
  where
    full_end : (next : Option Part) → ByCall (goes_to x s e totals next)
    full_end (Some q) = tt
    full_end None = tt
piece_by_call x stage.Empty s e part offset bytes = tt
piece_by_call x stage.Running s e part offset bytes = tt
piece_by_call x stage.Draining s e part offset bytes = tt
piece_by_call x (stage.Offering d totals) s e part offset bytes = tt
piece_by_call x (stage.Released d) s e part offset bytes = tt
piece_by_call x (stage.Prepared d) s e part offset bytes = tt

prepared_by_call : (x : DeliveryContext) (g : MoveStage) (s : SideState) (e : ℕ) → ByCall (on_prepared x s g e)
prepared_by_call x (stage.Offering d totals) s e = cond_both (d == e) _ _ ByCall (λ yes. tt) (λ no. tt)
prepared_by_call x (stage.Released d) s e = cond_both (d == e) _ _ ByCall (λ yes. tt) (λ no. tt)
prepared_by_call x stage.Empty s e = tt
prepared_by_call x stage.Running s e = tt
prepared_by_call x stage.Draining s e = tt
prepared_by_call x (stage.Filling d totals part place) s e = tt
prepared_by_call x (stage.Prepared d) s e = tt

commit_by_call : (g : MoveStage) (s : SideState) (e : ℕ) → ByCall (on_commit s g e)
commit_by_call (stage.Prepared d) s e = cond_both (d == e) _ _ ByCall (λ yes. tt) (λ no. tt)
commit_by_call stage.Empty s e = tt
commit_by_call stage.Running s e = tt
commit_by_call stage.Draining s e = tt
commit_by_call (stage.Offering d totals) s e = tt
commit_by_call (stage.Released d) s e = tt
commit_by_call (stage.Filling d totals part place) s e = tt

abort_by_call : (g : MoveStage) (s : SideState) (e : ℕ) → ByCall (on_abort s g e)
abort_by_call (stage.Filling d totals part place) s e = cond_both (d == e) _ _ ByCall (λ yes. tt) (λ no. tt)
abort_by_call (stage.Prepared d) s e = cond_both (d == e) _ _ ByCall (λ yes. tt) (λ no. tt)
abort_by_call stage.Empty s e = tt
abort_by_call stage.Running s e = tt
abort_by_call stage.Draining s e = tt
abort_by_call (stage.Offering d totals) s e = tt
abort_by_call (stage.Released d) s e = tt

refuse_by_call : (g : MoveStage) (s : SideState) (e : ℕ) → ByCall (on_refuse s g e)
refuse_by_call (stage.Offering d totals) s e = cond_both (d == e) _ _ ByCall (λ yes. tt) (λ no. tt)
refuse_by_call stage.Empty s e = tt
refuse_by_call stage.Running s e = tt
refuse_by_call stage.Draining s e = tt
refuse_by_call (stage.Released d) s e = tt
refuse_by_call (stage.Filling d totals part place) s e = tt
refuse_by_call (stage.Prepared d) s e = tt

-- an Offer that is neither too late nor refused for the receiver's side or the totals; any other message
abbrev pub MayBeTaken : SideState → ℕ → Body → Type 0
MayBeTaken s e (body.Offer totals) = (e ≤ s.top) ⊎ ((is_active s.stage ≡ false) × (first_bad totals ≡ None))
MayBeTaken s e _ = Unit {0}

by_call : (x : DeliveryContext) (s : SideState) (e : ℕ) (b : Body) → MayBeTaken s e b → ByCall (delivered x s e b)
by_call x s e (body.Offer totals) may = offer_by_call x s e totals may
by_call x s e (body.Need part offset) may = need_by_call x s.stage s e part offset
by_call x s e (body.Piece part offset bytes) may = piece_by_call x s.stage s e part offset bytes
by_call x s e body.Prepared may = prepared_by_call x s.stage s e
by_call x s e body.Commit may = commit_by_call s.stage s e
by_call x s e body.Abort may = abort_by_call s.stage s e
by_call x s e (body.Refuse why value) may = refuse_by_call s.stage s e

-- ---- messages that were sent

-- what was offered in any epoch may be taken
abbrev pub GoodTotals : (ℕ → Snapshot) → Type 0
GoodTotals offered = (e : ℕ) → first_bad (totals_of (offered e)) ≡ None

passive_off : (g : MoveStage) → IsPassive (side_of g) → is_active g ≡ false
passive_off stage.Empty is = refl
passive_off (stage.Released d) is = refl
passive_off (stage.Filling d totals part place) is = refl
passive_off (stage.Prepared d) is = refl
passive_off stage.Running is = absurd is
passive_off stage.Draining is = absurd is
passive_off (stage.Offering d totals) is = absurd is

holder_may : (n k : HostName) (x y : SideState) (offered : ℕ → Snapshot) (e : ℕ) (b : Body) → e ≤ x.top → MayBeTaken x e b
holder_may n k x y offered e (body.Offer totals) le = inl le
holder_may n k x y offered e (body.Need part offset) le = tt
holder_may n k x y offered e (body.Piece part offset bytes) le = tt
holder_may n k x y offered e body.Prepared le = tt
holder_may n k x y offered e body.Commit le = tt
holder_may n k x y offered e body.Abort le = tt
holder_may n k x y offered e (body.Refuse why value) le = tt

rest_may : (n k : HostName) (x y : SideState) (offered : ℕ → Snapshot) (to : HostName) (e : ℕ) (b : Body) → GoodTotals offered → IsPassive (shown_side y) → Says n k x y offered to e b → MayBeTaken y e b
rest_may n k x y offered to e (body.Offer totals) good passive says = inr (passive_off y.stage passive, ap first_bad says ∙ good e)
rest_may n k x y offered to e (body.Need part offset) good passive says = tt
rest_may n k x y offered to e (body.Piece part offset bytes) good passive says = tt
rest_may n k x y offered to e body.Prepared good passive says = tt
rest_may n k x y offered to e body.Commit good passive says = tt
rest_may n k x y offered to e body.Abort good passive says = tt
rest_may n k x y offered to e (body.Refuse why value) good passive says = tt

pub sent_may : (b : Snapshot) (t : TwoHosts) (m : Message) → HostsInvariant b t → GoodTotals t.offered → IsSent t.sent m → MayBeTaken (side_at t m.to) m.epoch m.body
sent_may b t m (A, kept) good is = go m.to (kept.each m is)
  where
    go : (to : HostName) → IsConsistent A B t.a.side t.b.side t.offered m → MayBeTaken (side_at t to) m.epoch m.body
    go A fits = holder_may A B t.a.side t.b.side t.offered m.epoch m.body fits.epoch
    go B fits = rest_may A B t.a.side t.b.side t.offered m.to m.epoch m.body good (rest.rests A B t.a.side t.b.side t.offered _ t.sent kept (shown_side t.b.side) refl) fits.says
sent_may b t m (B, kept) good is = go m.to (kept.each m is)
  where
    go : (to : HostName) → IsConsistent B A t.b.side t.a.side t.offered m → MayBeTaken (side_at t to) m.epoch m.body
    go B fits = holder_may B A t.b.side t.a.side t.offered m.epoch m.body fits.epoch
    go A fits = rest_may B A t.b.side t.a.side t.offered m.to m.epoch m.body good (rest.rests B A t.b.side t.a.side t.offered _ t.sent kept (shown_side t.a.side) refl) fits.says

-- ---- the reply

abbrev IsLinkRefusal : Reply → Type 0
IsLinkRefusal (reply.RefusedSent why number) = why ≡ reason.Link
IsLinkRefusal _ = Unit {0}

reply_by_call : (sent : List Message) (a : Delivered) → IsByCall a → IsLinkRefusal (delivery_reply sent a)
reply_by_call sent delivers.Ignored is = tt
reply_by_call sent delivers.Took is = tt
reply_by_call sent (delivers.Sent m) is = tt
reply_by_call sent delivers.Runs is = tt
reply_by_call sent delivers.Resumed is = tt
reply_by_call sent (delivers.Refused m) is = is
reply_by_call sent (delivers.Wires fault) is = tt

found_by_call : (b : Snapshot) (piece : ℕ) (t : TwoHosts) (found : Option Message) → HostsInvariant b t → GoodTotals t.offered → ((m : Message) → found ≡ Some m → IsSent t.sent m) → IsLinkRefusal (deliver_reply piece t found)
found_by_call b piece t None kept good is = tt
found_by_call b piece t (Some m) kept good is = reply_by_call t.sent _ (by_call (context_for piece t m.to (meets_fault piece t m)) (side_at t m.to) m.epoch m.body (sent_may b t m kept good (is m refl)))

pub refusals_by_calls : (b : Snapshot) (piece : ℕ) (t : TwoHosts) (k number : ℕ) (why : Reason) → HostsInvariant b t → GoodTotals t.offered → deliver_reply piece t (message_at t.sent k) ≡ reply.RefusedSent why number → why ≡ reason.Link
refusals_by_calls b piece t k number why kept good is = subst IsLinkRefusal is (found_by_call b piece t (message_at t.sent k) kept good (in_bag_sent t.sent k))
