-- What the delivery of the last message makes of two hosts, where no call is to fail.
use Rattle.std.proofs.Common.{◌≡◌, ℕ, zero, suc, ◌+◌, ◌-◌, ◌≤◌, ◌<◌, Bool, true, false, ◌&&◌, List, [], ◌∷◌, ◌++◌, length, Some, None, refl, sym, ◌∙◌, ap, subst, arith}
use Rattle.std.specs.Prelude.{slice_get, nat_lt}
use Rattle.std.proofs.lemmas.Bool.{cond-true, lt-ltb}
use Rattle.std.proofs.lemmas.List.{length_push}
use Rattle.vt_base.specs.declared.types.HostName.{HostName}
use Rattle.vt_base.specs.declared.types.HostName.TheVariants.{A, B}
use Rattle.move_codec.specs.declared.message.Message.{Message}
use Rattle.move_codec.specs.declared.message.Body.{Body}
use Rattle.move_core.specs.declared.answers.Delivered.{Delivered}
use Rattle.move_core.specs.declared.answers.Delivered.TheVariants as delivers
use Rattle.move_core.specs.Sides.{other}
use Rattle.vt_script.specs.declared.reply.Reply.{Reply}
use Rattle.vt_script.specs.declared.reply.Reply.TheVariants as reply
use Rattle.two_hosts.specs.Deliveries.{SideState, Outcome, delivered, calls_of_delivery}
use Rattle.two_hosts.specs.Hosts.{TwoHosts, HostState, host_of, with_outcome, counted, context_for, message_at, next_number, bag_size, fails_at, after_message, after_delivery}
use Rattle.vt_transcript.specs.Replies.{is_fault}
use Rattle.two_hosts.specs.Replies.{deliver_reply, delivery_reply, meets_fault}
use Rattle.two_hosts.specs.Invariant.{side_at}

-- no call is to fail on the wires of either host
abbrev pub WorkerStep : TwoHosts → Type 0
WorkerStep w = (n : HostName) → (host_of w n).injected_fault ≡ None

-- the message that was sent last
pub record Last (w : TwoHosts) (count : ℕ) (m : Message) : Type 0 where
  pub amount : length w.sent ≡ count
  pub some : 0 < count
  pub last : slice_get w.sent (count - 1) ≡ Some m

get_last : (xs : List Message) (m : Message) → slice_get (xs ++ m ∷ []) (length xs) ≡ Some m
get_last [] m = refl
get_last (x ∷ xs) m = get_last xs m

pub last_pushed : (w : TwoHosts) (sent : List Message) (count : ℕ) (m : Message) → w.sent ≡ sent ++ m ∷ [] → length sent ≡ count → Last w (count + 1) m
last_pushed w sent count m is size = record {
  amount = ap length is ∙ length_push sent m ∙ ap (λ k. k + 1) size;
  some = omega arith;
  last = let back : count + 1 - 1 ≡ length sent = omega (arith, size) in ap (slice_get w.sent) back ∙ ap (λ xs. slice_get xs (length sent)) is ∙ get_last sent m;
}

pub last_found : (w : TwoHosts) (count : ℕ) (m : Message) → Last w count m → count ≤ bag_size → message_at w.sent (length w.sent) ≡ Some m
last_found w count m last room =
    let next : length w.sent ≡ suc (count - 1) = omega (arith, last.amount, last.some) in
    let inside : count - 1 < bag_size = omega (arith, last.some) in
    ap (message_at w.sent) next ∙ cond-true (nat_lt (count - 1) bag_size) (slice_get w.sent (count - 1)) None (lt-ltb (count - 1) bag_size inside) ∙ last.last

and_never : (c d : Bool) → d ≡ false → (c && d) ≡ false
and_never true d is = is
and_never false d is = refl

-- the injected fault doesn't occur
unmet : (piece : ℕ) (w : TwoHosts) (m : Message) → WorkerStep w → meets_fault piece w m ≡ false
unmet piece w m works =
    let calls = calls_of_delivery (context_for piece w m.to false) (host_of w m.to).side m.epoch m.body in
    and_never (nat_lt 0 calls) (fails_at (host_of w m.to) calls) (ap (λ order. Rattle.vt_transcript.specs.Replies.reaches order ((host_of w m.to).calls + calls)) (works m.to))

module _ (piece : ℕ) where
  abbrev pub last_reply : TwoHosts → Reply
  last_reply w = deliver_reply piece w (message_at w.sent (length w.sent))

  abbrev pub turn_last : TwoHosts → TwoHosts
  turn_last w = after_delivery piece w (message_at w.sent (length w.sent)) (last_reply w)

  abbrev pub often : ℕ → TwoHosts → TwoHosts
  often zero w = w
  often (suc k) w = turn_last (often k w)

  pub often_more : (k : ℕ) (w : TwoHosts) → often (suc k) w ≡ often k (turn_last w)
  often_more zero w = refl
  often_more (suc k) w = ap turn_last (often_more k w)

  -- the delivery is answered so
  abbrev Answers : TwoHosts → Message → SideState → Delivered → Type 0
  Answers w m g a = delivered (context_for piece w m.to false) (side_at w m.to) m.epoch m.body ≡ record { side = g; answer = a }

  replied : (w : TwoHosts) (count : ℕ) (m : Message) (g : SideState) (a : Delivered) → Last w count m → count ≤ bag_size → WorkerStep w → Answers w m g a → last_reply w ≡ delivery_reply w.sent a
  replied w count m g a last room works answers =
      ap (deliver_reply piece w) (last_found w count m last room)
      ∙ ap (λ fails. delivery_reply w.sent (delivered (context_for piece w m.to fails) (side_at w m.to) m.epoch m.body).answer) (unmet piece w m works)
      ∙ ap (λ (o : Outcome). delivery_reply w.sent o.answer) answers

  led : (w : TwoHosts) (count : ℕ) (m : Message) (g : SideState) (a : Delivered) (q : Reply) → Last w count m → count ≤ bag_size → WorkerStep w → Answers w m g a → last_reply w ≡ q → is_fault q ≡ false
      → turn_last w ≡ with_outcome w m.to (counted q (calls_of_delivery (context_for piece w m.to false) (side_at w m.to) m.epoch m.body) (host_of w m.to)) (record { side = g; answer = a })
  led w count m g a q last room works answers is clean =
      ap (λ found. after_delivery piece w found (last_reply w)) (last_found w count m last room)
      ∙ ap (after_message piece w m) is
      ∙ ap (λ fails. with_outcome w m.to (counted q (calls_of_delivery (context_for piece w m.to fails) (side_at w m.to) m.epoch m.body) (host_of w m.to)) (delivered (context_for piece w m.to fails) (side_at w m.to) m.epoch m.body)) clean
      ∙ ap (with_outcome w m.to (counted q (calls_of_delivery (context_for piece w m.to false) (side_at w m.to) m.epoch m.body) (host_of w m.to))) answers

  -- the last message is answered by another one
  pub record Turned (w : TwoHosts) (to : HostName) (g : SideState) (count : ℕ) (m : Message) : Type 0 where
    pub replies : last_reply w ≡ reply.SentMessage (count + 1)
    pub acted : side_at (turn_last w) to ≡ g
    pub still : side_at (turn_last w) (other to) ≡ side_at w (other to)
    pub offered : (turn_last w).offered ≡ w.offered
    pub works : WorkerStep (turn_last w)
    pub last : Last (turn_last w) (count + 1) m

  outcome_acted : (w : TwoHosts) (n : HostName) (h : HostState) (o : Outcome) → side_at (with_outcome w n h o) n ≡ o.side
  outcome_acted w A h o = refl
  outcome_acted w B h o = refl

  outcome_still : (w : TwoHosts) (n : HostName) (h : HostState) (o : Outcome) → side_at (with_outcome w n h o) (other n) ≡ side_at w (other n)
  outcome_still w A h o = refl
  outcome_still w B h o = refl

  outcome_works : (w : TwoHosts) (n : HostName) (h : HostState) (o : Outcome) → h.injected_fault ≡ None → WorkerStep w → WorkerStep (with_outcome w n h o)
  outcome_works w A h o none works A = none
  outcome_works w A h o none works B = works B
  outcome_works w B h o none works A = works A
  outcome_works w B h o none works B = none

  -- the receiver after its calls
  abbrev receiver : TwoHosts → ℕ → HostName → ℕ → Body → HostState
  receiver w count to e b = counted (reply.SentMessage (count + 1)) (calls_of_delivery (context_for piece w to false) (side_at w to) e b) (host_of w to)

  abbrev sends : SideState → Message → Outcome
  sends g m = record { side = g; answer = delivers.Sent m }

  pub turned : (w : TwoHosts) (count : ℕ) (to : HostName) (e : ℕ) (b : Body) (g : SideState) (m : Message) → Last w count (record { to = to; epoch = e; body = b }) → count < bag_size → WorkerStep w
      → delivered (context_for piece w to false) (side_at w to) e b ≡ record { side = g; answer = delivers.Sent m } → Turned w to g count m
  turned w count to e b g m last room works answers = record {
    replies = says;
    acted = ap (λ (t : TwoHosts). side_at t to) new ∙ outcome_acted w to (receiver w count to e b) (sends g m);
    still = ap (λ (t : TwoHosts). side_at t (other to)) new ∙ outcome_still w to (receiver w count to e b) (sends g m);
    offered = ap (λ (t : TwoHosts). t.offered) new;
    works = subst WorkerStep (sym new) (outcome_works w to (receiver w count to e b) (sends g m) (works to) works);
    last = last_pushed (turn_last w) w.sent count m (ap (λ (t : TwoHosts). t.sent) new) last.amount;
  }
    where
      number : next_number w.sent ≡ count + 1
      number = cond-true (nat_lt (length w.sent) bag_size) _ _ (lt-ltb (length w.sent) bag_size (omega (arith, last.amount))) ∙ ap (λ k. k + 1) last.amount

      says : last_reply w ≡ reply.SentMessage (count + 1)
      says = replied w count (record { to = to; epoch = e; body = b }) g (delivers.Sent m) last (omega (arith, room)) works answers ∙ ap reply.SentMessage number

      new : turn_last w ≡ with_outcome w to (counted (reply.SentMessage (count + 1)) (calls_of_delivery (context_for piece w to false) (side_at w to) e b) (host_of w to)) (record { side = g; answer = delivers.Sent m })
      new = led w count (record { to = to; epoch = e; body = b }) g (delivers.Sent m) (reply.SentMessage (count + 1)) last (omega (arith, room)) works answers says refl

  -- the last message makes its receiver run
  pub record Ran (w : TwoHosts) (to : HostName) (g : SideState) : Type 0 where
    pub replies : last_reply w ≡ reply.Running
    pub acted : side_at (turn_last w) to ≡ g

  pub ran : (w : TwoHosts) (count : ℕ) (to : HostName) (e : ℕ) (b : Body) (g : SideState) → Last w count (record { to = to; epoch = e; body = b }) → count ≤ bag_size → WorkerStep w
      → delivered (context_for piece w to false) (side_at w to) e b ≡ record { side = g; answer = delivers.Runs } → Ran w to g
  ran w count to e b g last room works answers =
      let says : last_reply w ≡ reply.Running = replied w count (record { to = to; epoch = e; body = b }) g delivers.Runs last room works answers in
      record {
        replies = says;
        acted = ap (λ (t : TwoHosts). side_at t to) (led w count (record { to = to; epoch = e; body = b }) g delivers.Runs reply.Running last room works answers says refl)
            ∙ outcome_acted w to (counted reply.Running (calls_of_delivery (context_for piece w to false) (side_at w to) e b) (host_of w to)) (record { side = g; answer = delivers.Runs });
      }
