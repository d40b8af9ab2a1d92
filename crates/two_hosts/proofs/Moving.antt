-- The pieces of a move that nothing disturbs.
use Rattle.std.proofs.Common.{◌≡◌, ℕ, zero, suc, ◌+◌, ◌-◌, ◌*◌, ◌≤◌, ◌<◌, ◌⊎◌, inl, inr, true, false, ◌&&◌, min, List, length, drop, Option, Some, None, refl, sym, ◌∙◌, ap, subst, arith}
use Rattle.std.specs.Prelude.{nat_lt, ◌==◌}
use Rattle.std.proofs.lemmas.Bool.{cond-true, cond-false, eq-eqb, lt-ltb, le-ltb, le-leb, and_from, cases_lt}
use Rattle.std.proofs.lemmas.List.{length-take, length-drop}
use Rattle.state_blobs.specs.Encodings.{slice}
use Rattle.crb_history.specs.Snapshot.{Snapshot}
use Rattle.vt_base.specs.declared.types.HostName.{HostName}
use Rattle.move_codec.specs.declared.names.Part.{Part}
use Rattle.move_codec.specs.declared.message.Message.{Message}
use Rattle.move_codec.specs.declared.message.Body.{Body}
use Rattle.move_codec.specs.declared.message.Body.TheVariants as body
use Rattle.move_core.specs.declared.stage.MoveStage.TheVariants as stage
use Rattle.move_core.specs.declared.answers.Delivered.TheVariants.{Sent}
use Rattle.move_core.specs.Sides.{other, part_after, part_number, total_of}
use Rattle.move_core.specs.Messages.{message_from, is_next}
use Rattle.vt_script.specs.declared.reply.Reply.TheVariants as reply
use Rattle.two_hosts.specs.Parts.{part_bytes, totals_of}
use Rattle.two_hosts.specs.Deliveries.{SideState, DeliveryContext, delivered, on_need, reaches, goes_to}
use Rattle.two_hosts.specs.Hosts.{TwoHosts, context_for, bag_size}
use Rattle.two_hosts.specs.Invariant.{side_at}
use Rattle.two_hosts.proofs.RunningSets.{twice_other}
use Rattle.two_hosts.proofs.Counts.{size_of, total_is, left_of, left_some, left_less, left_next, left_last}
use Rattle.two_hosts.proofs.LastTurns.{WorkerStep, Last, Turned, last_reply, turn_last, often, often_more, turned}

-- a host that fills
abbrev pub fills : ℕ → ℕ → Snapshot → Part → ℕ → SideState
fills top e v p place = record { stage = stage.Filling e (totals_of v) p place; top = top }

-- a move of these values, in which the last message is this one
pub record Moving (w : TwoHosts) (n : HostName) (e : ℕ) (v : Snapshot) (p : Part) (place count : ℕ) (to : HostName) (b : Body) : Type 0 where
  pub source : (side_at w n).stage ≡ stage.Offering e (totals_of v)
  pub values : w.offered e ≡ v
  pub top : ℕ
  pub target : side_at w (other n) ≡ fills top e v p place
  pub works : WorkerStep w
  pub last : Last w count (record { to = to; epoch = e; body = b })

-- the target is prepared, and says so
pub record Finished (w : TwoHosts) (n : HostName) (e : ℕ) (v : Snapshot) (count : ℕ) : Type 0 where
  pub source : (side_at w n).stage ≡ stage.Offering e (totals_of v)
  pub target : (side_at w (other n)).stage ≡ stage.Prepared e
  pub works : WorkerStep w
  pub last : Last w count (record { to = n; epoch = e; body = body.Prepared })

-- the target takes a piece: it needs the next one, or is prepared
pub data Onward (w : TwoHosts) (n : HostName) (e : ℕ) (v : Snapshot) (p : Part) (place count size : ℕ) : Type 0 where
  needs : (q : Part) (next : ℕ) → Moving w n e v q next count n (body.Need q next) → next < size_of v q → left_of size (size_of v) p place ≡ left_of size (size_of v) q next + 1 → Onward w n e v p place count size
  ends : Finished w n e v count → left_of size (size_of v) p place ≡ 1 → Onward w n e v p place count size

module _ (piece : ℕ) (w : TwoHosts) (n : HostName) (e : ℕ) (v : Snapshot) (p : Part) (place count : ℕ) (room : count < bag_size) (more : place < size_of v p) where
  abbrev new : TwoHosts
  new = turn_last piece w

  abbrev bytes : List ℕ
  bytes = slice (part_bytes v p) place piece

  -- ---- the source answers a Need

  module _ (m : Moving w n e v p place count n (body.Need p place)) where
    within : (e == e && nat_lt place (total_of (totals_of v) p)) ≡ true
    within = and_from _ _ (eq-eqb e e refl) (lt-ltb place (total_of (totals_of v) p) (omega (arith, total_is v p)))

    gives_piece : delivered (context_for piece w n false) (side_at w n) e (body.Need p place) ≡ record { side = side_at w n; answer = Sent (message_from n e (body.Piece p place bytes)) }
    gives_piece = ap (λ g. on_need (context_for piece w n false) (side_at w n) g e p place) m.source
        ∙ cond-true (e == e && nat_lt place (total_of (totals_of v) p)) _ _ within
        ∙ ap (λ (u : Snapshot). record { side = side_at w n; answer = Sent (message_from n e (body.Piece p place (slice (part_bytes u p) place piece))) }) m.values

    pub needed : Turned piece w n (side_at w n) count (message_from n e (body.Piece p place bytes))
    needed = turned piece w count n e (body.Need p place) (side_at w n) (message_from n e (body.Piece p place bytes)) m.last room m.works gives_piece

    pub piece_sent : Moving new n e v p place (count + 1) (other n) (body.Piece p place bytes)
    piece_sent = record {
      source = ap (λ (g : SideState). g.stage) needed.acted ∙ m.source;
      values = ap (λ f. f e) needed.offered ∙ m.values;
      top = m.top;
      target = needed.still ∙ m.target;
      works = needed.works;
      last = needed.last;
    }

  -- ---- the target takes a Piece

  module _ (pos : 0 < piece) (good : (q : Part) → 0 < size_of v q) (m : Moving w n e v p place count (other n) (body.Piece p place bytes)) where
    size_is : length bytes ≡ min piece (size_of v p - place)
    size_is = length-take piece (drop place (part_bytes v p)) ∙ ap (min piece) (length-drop place (part_bytes v p))

    abbrev x : DeliveryContext
    x = context_for piece w (other n) false

    abbrev y : SideState
    y = fills m.top e v p place

    tests : (e == e && is_next (totals_of v) p place p place (length bytes)) ≡ true
    tests = and_from _ _ (eq-eqb e e refl) (and_from _ _ (eq-eqb (part_number p) (part_number p) refl) (and_from _ _ (eq-eqb place place refl) (le-leb (place + length bytes) (total_of (totals_of v) p) (omega (arith, size_is, total_is v p)))))

    takes : delivered (context_for piece w (other n) false) (side_at w (other n)) e (body.Piece p place bytes) ≡ reaches x y e (totals_of v) p (place + length bytes)
    takes = ap (λ (g : SideState). delivered (context_for piece w (other n) false) g e (body.Piece p place bytes)) m.target ∙ cond-true _ _ _ tests

    -- the piece is answered by a message to the source
    replied : (g : SideState) (b : Body) → reaches x y e (totals_of v) p (place + length bytes) ≡ record { side = g; answer = Sent (message_from (other n) e b) } → Turned piece w (other n) g count (record { to = n; epoch = e; body = b })
    replied g b is = turned piece w count (other n) e (body.Piece p place bytes) g (record { to = n; epoch = e; body = b }) m.last room m.works
        (takes ∙ is ∙ ap (λ to. record { side = g; answer = Sent (record { to = to; epoch = e; body = b }) }) (twice_other n))

    source_still : (g : SideState) (q : Message) → Turned piece w (other n) g count q → side_at new n ≡ side_at w n
    source_still g q t = subst (λ k. side_at new k ≡ side_at w k) (twice_other n) t.still

    needs_more : (q : Part) (next : ℕ) → Turned piece w (other n) (fills m.top e v q next) count (record { to = n; epoch = e; body = body.Need q next }) → Moving new n e v q next (count + 1) n (body.Need q next)
    needs_more q next t = record {
      source = ap (λ (g : SideState). g.stage) (source_still (fills m.top e v q next) (record { to = n; epoch = e; body = body.Need q next }) t) ∙ m.source;
      values = ap (λ f. f e) t.offered ∙ m.values;
      top = m.top;
      target = t.acted;
      works = t.works;
      last = t.last;
    }

    -- it is answered, and what follows
    pub record Pieced : Type 0 where
      pub replies : last_reply piece w ≡ reply.SentMessage (count + 1)
      pub onward : Onward new n e v p place (count + 1) piece

    goes : (next : Option Part) → part_after p ≡ next → size_of v p ≤ place + length bytes → reaches x y e (totals_of v) p (place + length bytes) ≡ goes_to x y e (totals_of v) next → Pieced
    goes (Some q) after full is =
        let t : Turned piece w (other n) (fills m.top e v q 0) count (record { to = n; epoch = e; body = body.Need q 0 }) = replied (fills m.top e v q 0) (body.Need q 0) is in
        record { replies = t.replies; onward = needs q 0 (needs_more q 0 t) (good q) (left_next piece (size_of v) p q place after more (omega (arith, size_is))) }
    goes None after full is =
        let t : Turned piece w (other n) (record y { stage = stage.Prepared e }) count (record { to = n; epoch = e; body = body.Prepared }) = replied (record y { stage = stage.Prepared e }) body.Prepared is in
        record {
          replies = t.replies;
          onward = ends (record {
            source = ap (λ (g : SideState). g.stage) (source_still (record y { stage = stage.Prepared e }) (record { to = n; epoch = e; body = body.Prepared }) t) ∙ m.source;
            target = ap (λ (g : SideState). g.stage) t.acted;
            works = t.works;
            last = t.last;
          }) (left_last piece (size_of v) p place after more (omega (arith, size_is)));
        }

    pub pieced : Pieced
    pieced = by_size (cases_lt (place + length bytes) (size_of v p))
      where
        by_size : (place + length bytes < size_of v p) ⊎ (size_of v p ≤ place + length bytes) → Pieced
        by_size (inl below) =
            let whole : length bytes ≡ piece = omega (arith, size_is) in
            let t : Turned piece w (other n) (fills m.top e v p (place + length bytes)) count (record { to = n; epoch = e; body = body.Need p (place + length bytes) }) = replied (fills m.top e v p (place + length bytes)) (body.Need p (place + length bytes))
            (cond-true (nat_lt (place + length bytes) (total_of (totals_of v) p)) _ _ (lt-ltb (place + length bytes) (total_of (totals_of v) p) (omega (arith, total_is v p)))) in
            record { replies = t.replies; onward = needs p (place + length bytes) (needs_more p (place + length bytes) t) below (left_less piece (size_of v) p place pos (omega arith) ∙ ap (λ k. left_of piece (size_of v) p (place + k) + 1) (sym whole)) }
        by_size (inr full) = goes (part_after p) refl full (cond-false (nat_lt (place + length bytes) (total_of (totals_of v) p)) _ _ (le-ltb (place + length bytes) (total_of (totals_of v) p) (omega (arith, total_is v p))))

-- ---- all pieces

-- each of so many deliveries is answered by one more message
abbrev pub AllSent : ℕ → TwoHosts → ℕ → ℕ → Type 0
AllSent piece w count turns = (j : ℕ) → j < turns → last_reply piece (often piece j w) ≡ reply.SentMessage (count + 1 + j)

-- so many deliveries leave the target prepared
pub record Ended (piece : ℕ) (w : TwoHosts) (n : HostName) (e : ℕ) (v : Snapshot) (count turns : ℕ) : Type 0 where
  pub finished : Finished (often piece turns w) n e v (count + turns)
  pub sent : AllSent piece w count turns

-- two deliveries, and those that follow
two_more : (piece : ℕ) (w : TwoHosts) (count turns : ℕ) → last_reply piece w ≡ reply.SentMessage (count + 1) → last_reply piece (turn_last piece w) ≡ reply.SentMessage (count + 1 + 1)
    → AllSent piece (turn_last piece (turn_last piece w)) (count + 1 + 1) turns → AllSent piece w count (suc (suc turns))
two_more piece w count turns one two rest zero low = let same : count + 1 ≡ count + 1 + 0 = omega arith in one ∙ ap reply.SentMessage same
two_more piece w count turns one two rest (suc zero) low = two
two_more piece w count turns one two rest (suc (suc j)) low =
    let same : count + 1 + 1 + 1 + j ≡ count + 1 + suc (suc j) = omega arith in
    ap (last_reply piece) (often_more piece (suc j) w ∙ often_more piece j (turn_last piece w)) ∙ rest j (omega arith) ∙ ap reply.SentMessage same

module _ (piece : ℕ) (n : HostName) (e : ℕ) (v : Snapshot) (pos : 0 < piece) (good : (q : Part) → 0 < size_of v q) where
  onward_on : (k : ℕ) (w : TwoHosts) (p : Part) (place count : ℕ) → last_reply piece w ≡ reply.SentMessage (count + 1) → last_reply piece (turn_last piece w) ≡ reply.SentMessage (count + 1 + 1)
      → ((q : Part) (next : ℕ) → Moving (turn_last piece (turn_last piece w)) n e v q next (count + 1 + 1) n (body.Need q next) → next < size_of v q → left_of piece (size_of v) q next ≡ k → Ended piece (turn_last piece (turn_last piece w)) n e v (count + 1 + 1) (2 * k))
      → left_of piece (size_of v) p place ≡ suc k → Onward (turn_last piece (turn_last piece w)) n e v p place (count + 1 + 1) piece
      → Ended piece w n e v count (2 * suc k)
  onward_on k w p place count one two further is (needs q next m more step) =
      let done : Ended piece (turn_last piece (turn_last piece w)) n e v (count + 1 + 1) (2 * k) = further q next m more (omega (arith, is, step)) in
      let twice : 2 * suc k ≡ suc (suc (2 * k)) = omega arith in
      let total : count + 1 + 1 + 2 * k ≡ count + suc (suc (2 * k)) = omega arith in
      subst (Ended piece w n e v count) (sym twice) (record {
        finished = subst (λ (u : TwoHosts). Finished u n e v (count + suc (suc (2 * k)))) (sym (often_more piece (suc (2 * k)) w ∙ often_more piece (2 * k) (turn_last piece w)))
            (subst (Finished (often piece (2 * k) (turn_last piece (turn_last piece w))) n e v) total done.finished);
        sent = two_more piece w count (2 * k) one two done.sent;
      })
  onward_on k w p place count one two further is (ends done step) =
      let twice : 2 * suc k ≡ suc (suc zero) = omega (arith, is, step) in
      let total : count + 1 + 1 ≡ count + suc (suc zero) = omega arith in
      subst (Ended piece w n e v count) (sym twice) (record {
        finished = subst (Finished (turn_last piece (turn_last piece w)) n e v) total done;
        sent = two_more piece w count zero one two (λ j low. absurd (omega arith));
      })

  -- one piece, and those that follow
  one_piece : (k : ℕ) (w : TwoHosts) (p : Part) (place count : ℕ) → Moving w n e v p place count n (body.Need p place) → place < size_of v p → count + 1 < bag_size
      → ((q : Part) (next : ℕ) → Moving (turn_last piece (turn_last piece w)) n e v q next (count + 1 + 1) n (body.Need q next) → next < size_of v q → left_of piece (size_of v) q next ≡ k → Ended piece (turn_last piece (turn_last piece w)) n e v (count + 1 + 1) (2 * k))
      → left_of piece (size_of v) p place ≡ suc k → Ended piece w n e v count (2 * suc k)
  one_piece k w p place count m more room further is =
      let low : count < bag_size = omega arith in
      let given = needed piece w n e v p place count low more m in
      let sent = piece_sent piece w n e v p place count low more m in
      let taken = pieced piece (turn_last piece w) n e v p place (count + 1) room more pos good sent in
      onward_on k w p place count given.replies taken.replies further is taken.onward

  pub carries_on : (left : ℕ) (w : TwoHosts) (p : Part) (place count : ℕ) → Moving w n e v p place count n (body.Need p place) → place < size_of v p
      → left_of piece (size_of v) p place ≡ left → count + (2 * left + 1) ≤ bag_size → Ended piece w n e v count (2 * left)
  carries_on zero w p place count m more is room = absurd (let some = left_some piece (size_of v) p place pos more in omega (arith, some, is))
  carries_on (suc k) w p place count m more is room = one_piece k w p place count m more (omega arith)
      (λ q next m' more' left. carries_on k (turn_last piece (turn_last piece w)) q next (count + 1 + 1) m' more' left (omega arith)) is
