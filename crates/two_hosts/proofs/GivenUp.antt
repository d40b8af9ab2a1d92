-- What leaves the history as it was.
use Rattle.std.proofs.Common.{◌≡◌, ℕ, Bool, true, false, [], ◌∷◌, ◌++◌, Option, Some, None, refl, ◌∙◌, ap, append-nil}
use Rattle.std.specs.Prelude.{if◌then◌else◌}
use Rattle.std.proofs.lemmas.Bool.{cond-true, cond-false}
use Rattle.crb_history.specs.Snapshot.{Snapshot}
use Rattle.vt_script.specs.declared.event.Event.{Event}
use Rattle.vt_script.specs.declared.event.Event.TheVariants as line
use Rattle.vt_script.specs.declared.reply.Reply.{Reply}
use Rattle.vt_base.specs.declared.types.HostName.{HostName}
use Rattle.vt_base.specs.declared.types.HostName.TheVariants.{A, B}
use Rattle.move_codec.specs.declared.message.Message.{Message}
use Rattle.move_core.specs.declared.stage.MoveStage.{MoveStage}
use Rattle.move_core.specs.declared.stage.MoveStage.TheVariants as stage
use Rattle.move_core.specs.Sides.{side_of, is_running}
use Rattle.move_core.specs.declared.side.Side.TheVariants.{Offering}
use Rattle.vt_script.specs.declared.event.Event.TheVariants.{Offer, Deliver, GiveUp, Again, Show}
use Rattle.vt_script.specs.declared.reply.Reply.TheVariants as reply
use Rattle.two_hosts.specs.Hosts.{TwoHosts, hosts_after, stage_at, host_where, running_host, working_host, is_working, is_leaving, is_prepared, message_at, after_delivery, after_offer, after_work, aborts_in, after_give_up, after_again, guest_line_on, guest_line_on_any, after_line, after_exchange}
use Rattle.vt_transcript.specs.Replies.{Transcript}
use Rattle.two_hosts.specs.Replies.{InTurn}
use Rattle.two_hosts.specs.Invariant.{HostsInvariant, IsPassive}
use Rattle.two_hosts.specs.Laws.{IsMoveLine, StaysOffering, IsOffering}
use Rattle.two_hosts.proofs.InvariantKept.{run_kept}
use Rattle.two_hosts.proofs.RunningSets.{shown, alone, idle}
use Rattle.two_hosts.proofs.Shifts.{working_on, runs_on, active_on}

offer_history : (b : Snapshot) (t : TwoHosts) (found : Option HostName) (q : Reply) → (after_offer b t found q).history ≡ t.history
offer_history b t None q = refl
offer_history b t (Some n) (reply.Offered e m) = refl
offer_history b t (Some n) (reply.Draining k) = refl
offer_history b t (Some n) _ = refl

delivery_history : (piece : ℕ) (t : TwoHosts) (found : Option Message) (q : Reply) → (after_delivery piece t found q).history ≡ t.history
delivery_history piece t None q = refl
delivery_history piece t (Some m) q = refl

give_up_history : (t : TwoHosts) (found : Option HostName) → (after_give_up t found).history ≡ t.history
give_up_history t None = refl
give_up_history t (Some n) = refl

again_history : (t : TwoHosts) (found : Option HostName) → (after_again t found).history ≡ t.history
again_history t None = refl
again_history t (Some n) = refl

-- a line of a move
pub moves_leave : (b : Snapshot) (piece : ℕ) (t : TwoHosts) (l : Event) (q : Reply) → IsMoveLine l → (after_line b piece t l q).history ≡ t.history
moves_leave b piece t (line.Access a) q is = absurd is
moves_leave b piece t line.Work q is = absurd is
moves_leave b piece t line.Ask q is = absurd is
moves_leave b piece t line.Reset q is = absurd is
moves_leave b piece t (line.Fail host call) q is = absurd is
moves_leave b piece t Offer q is = offer_history b t (running_host t) q
moves_leave b piece t (Deliver k) q is = delivery_history piece t (message_at t.sent k) q
moves_leave b piece t GiveUp q is = give_up_history t (host_where is_leaving t)
moves_leave b piece t Again q is = again_history t (host_where is_prepared t)
moves_leave b piece t (Show k) q is = refl

-- ---- where no host runs

fault_history : (b : Snapshot) (t : TwoHosts) (n host : HostName) (call : ℕ) (g : Reply) → (guest_line_on b t n (line.Fail host call) g).history ≡ t.history
fault_history b t n host call g = refl

nothing_on : (b : Snapshot) (t : TwoHosts) (e : Event) (g : Reply) (found : Option HostName) → found ≡ None → (guest_line_on_any b t found e g).history ≡ t.history
nothing_on b t e g found none = ap (λ (k : Option HostName). (guest_line_on_any b t k e g).history) none

no_work : (b : Snapshot) (t : TwoHosts) (q : Reply) (found : Option HostName) → found ≡ None → (after_work b t found q).history ≡ t.history
no_work b t q found none = ap (λ (k : Option HostName). (after_work b t k q).history) none

-- where no worker goes on no guest runs
run_works : (s : MoveStage) → is_working s ≡ false → is_running s ≡ false
run_works stage.Empty is = refl
run_works stage.Running is = absurd cc
run_works stage.Draining is = refl
run_works (stage.Offering e totals) is = refl
run_works (stage.Released e) is = refl
run_works (stage.Filling e totals part place) is = refl
run_works (stage.Prepared e) is = refl

no_run : (t : TwoHosts) → working_host t ≡ None → running_host t ≡ None
no_run t none = go (is_working t.a.side.stage) (is_working t.b.side.stage) refl refl none
  where
    go : (a b : Bool) → is_working t.a.side.stage ≡ a → is_working t.b.side.stage ≡ b → (if a then Some A else (if b then Some B else None)) ≡ None → running_host t ≡ None
    go true b at_a at_b is = absurd cc
    go false true at_a at_b is = absurd cc
    go false false at_a at_b is = cond-false (is_running t.a.side.stage) _ _ (run_works t.a.side.stage at_a) ∙ cond-false (is_running t.b.side.stage) _ _ (run_works t.b.side.stage at_b)

pub stopped_leaves : (b : Snapshot) (piece : ℕ) (t : TwoHosts) (l : Event) (q : Reply) → working_host t ≡ None → (after_line b piece t l q).history ≡ t.history
stopped_leaves b piece t (line.Access a) q none = nothing_on b t (line.Access a) q (running_host t) (no_run t none)
stopped_leaves b piece t line.Work q none = no_work b t q (working_host t) none
stopped_leaves b piece t line.Ask q none = nothing_on b t line.Ask q (running_host t) (no_run t none)
stopped_leaves b piece t line.Reset q none = nothing_on b t line.Reset q (running_host t) (no_run t none)
stopped_leaves b piece t (line.Fail host call) q none = refl
stopped_leaves b piece t Offer q none = offer_history b t (running_host t) q
stopped_leaves b piece t (Deliver k) q none = delivery_history piece t (message_at t.sent k) q
stopped_leaves b piece t GiveUp q none = give_up_history t (host_where is_leaving t)
stopped_leaves b piece t Again q none = again_history t (host_where is_prepared t)
stopped_leaves b piece t (Show k) q none = refl

exchange_leaves : (b : Snapshot) (piece : ℕ) (t : TwoHosts) (l : Option Event) (q : Reply) → working_host t ≡ None → (after_exchange b piece t l q).history ≡ t.history
exchange_leaves b piece t None q none = refl
exchange_leaves b piece t (Some l) q none = stopped_leaves b piece t l q none

-- where a host offers no worker goes on
none_works : (t : TwoHosts) → is_working t.a.side.stage ≡ false → is_working t.b.side.stage ≡ false → working_host t ≡ None
none_works t a b = cond-false (is_working t.a.side.stage) _ _ a ∙ cond-false (is_working t.b.side.stage) _ _ b

offering_stops : (b : Snapshot) (t : TwoHosts) (n : HostName) (e : ℕ) → HostsInvariant b t → shown t n ≡ Offering e → working_host t ≡ None
offering_stops b t A e kept is = none_works t (working_on t.a.side.stage ∙ ap runs_on is) (working_on t.b.side.stage ∙ idle (shown t B) (alone b t kept A (ap active_on is)))
offering_stops b t B e kept is = none_works t (working_on t.a.side.stage ∙ idle (shown t A) (alone b t kept B (ap active_on is))) (working_on t.b.side.stage ∙ ap runs_on is)

-- while a host offers, the history stays
pub offering_leaves : (b : Snapshot) (piece : ℕ) (n : HostName) (e : ℕ) (more t : Transcript) → InTurn b piece (more ++ t) → StaysOffering b piece n e more t
    → (hosts_after b piece (more ++ t)).history ≡ (hosts_after b piece t).history
offering_leaves b piece n e [] t in_turn stays = refl
offering_leaves b piece n e (x ∷ more) t in_turn stays =
    exchange_leaves b piece (hosts_after b piece (more ++ t)) x.line x.reply (offering_stops b (hosts_after b piece (more ++ t)) n e (run_kept b piece (more ++ t) in_turn.0) stays.1)
    ∙ offering_leaves b piece n e more t in_turn.0 stays.0

-- ---- given up

offers_at : (g : MoveStage) (e : ℕ) → side_of g ≡ Offering e → is_leaving g ≡ true
offers_at (stage.Offering d totals) e is = refl
offers_at stage.Empty e is = absurd cc
offers_at stage.Running e is = absurd cc
offers_at stage.Draining e is = absurd cc
offers_at (stage.Released d) e is = absurd cc
offers_at (stage.Filling d totals part place) e is = absurd cc
offers_at (stage.Prepared d) e is = absurd cc

passive_at : (g : MoveStage) → IsPassive (side_of g) → is_leaving g ≡ false
passive_at stage.Empty is = refl
passive_at (stage.Released d) is = refl
passive_at (stage.Filling d totals part place) is = refl
passive_at (stage.Prepared d) is = refl
passive_at stage.Running is = absurd is
passive_at stage.Draining is = absurd is
passive_at (stage.Offering d totals) is = absurd is

pub offering_host : (b : Snapshot) (t : TwoHosts) (n : HostName) (e : ℕ) → HostsInvariant b t → IsOffering t n e → host_where is_leaving t ≡ Some n
offering_host b t A e kept is = cond-true (is_leaving t.a.side.stage) _ _ (offers_at t.a.side.stage e is)
offering_host b t B e kept is = cond-false (is_leaving t.a.side.stage) _ _ (passive_at t.a.side.stage (alone b t kept B (ap active_on is))) ∙ cond-true (is_leaving t.b.side.stage) _ _ (offers_at t.b.side.stage e is)

runs_again : (t : TwoHosts) (n : HostName) → is_running (stage_at (after_give_up t (Some n)) n) ≡ true
runs_again t A = refl
runs_again t B = refl

pub given_up : (b : Snapshot) (piece : ℕ) (n : HostName) (e : ℕ) (more t : Transcript) (q : Reply) → InTurn b piece (more ++ t) → StaysOffering b piece n e more t → IsOffering (hosts_after b piece (more ++ t)) n e
    → ((after_line b piece (hosts_after b piece (more ++ t)) GiveUp q).history ≡ (hosts_after b piece t).history)
    × (is_running (stage_at (after_line b piece (hosts_after b piece (more ++ t)) GiveUp q) n) ≡ true)
given_up b piece n e more t q in_turn stays is = (
  give_up_history (hosts_after b piece (more ++ t)) _ ∙ offering_leaves b piece n e more t in_turn stays,
  ap (λ (found : Option HostName). is_running (stage_at (after_give_up (hosts_after b piece (more ++ t)) found) n)) (offering_host b (hosts_after b piece (more ++ t)) n e (run_kept b piece (more ++ t) in_turn) is)
      ∙ runs_again (hosts_after b piece (more ++ t)) n,
)

-- a host that drained and gives up runs again, and nothing else changes
pub undrained : (t : TwoHosts) (n : HostName) → stage_at t n ≡ stage.Draining
    → (((after_give_up t (Some n)).history ≡ t.history) × ((after_give_up t (Some n)).sent ≡ t.sent)) × (is_running (stage_at (after_give_up t (Some n)) n) ≡ true)
undrained t n is = ((refl, ap (λ (g : MoveStage). t.sent ++ aborts_in n g) is ∙ append-nil t.sent), runs_again t n)
