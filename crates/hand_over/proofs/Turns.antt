-- The model's hosts in a move that nothing disturbs.
use Rattle.std.proofs.Common.{◌≡◌, ℕ, suc, ◌+◌, ◌-◌, ◌*◌, ◌<◌, ◌≤◌, inl, inr, true, List, length, drop, min, Option, Some, None, refl, sym, ap, subst, ◌∙◌, arith}
use Rattle.std.specs.Prelude.{nat_lt, ◌==◌, ◌&&◌}
use Rattle.std.proofs.lemmas.Bool.{cond-true, cond-false, eq-eqb, ltb-true, lt-ltb, le-ltb, le-leb, and_from, cases_lt}
use Rattle.std.proofs.lemmas.List.{length-take, length-drop}
use Rattle.vt_base.specs.declared.types.HostName.{HostName}
use Rattle.vt_base.specs.declared.types.HostName.TheVariants.{A, B}
use Rattle.move_codec.specs.declared.names.Part.{Part}
use Rattle.move_codec.specs.declared.message.Message.{Message}
use Rattle.move_codec.specs.declared.message.Body.TheVariants as body
use Rattle.move_core.specs.declared.side.Side.TheVariants.{Running, Released, Filling, Prepared}
use Rattle.move_core.specs.declared.answers.Delivered.TheVariants as delivers
use Rattle.hand_over.specs.Parts.{Parts, PieceSizes, size_for, part_of, part_after, lengths, total_of, slice, put, filled}
use Rattle.hand_over.specs.Host.{HostState, After, other, is_same, message_from, delivered, on_need, on_prepared, on_commit, takes_piece, goes_on, is_next}
use Rattle.hand_over.specs.Moving.{fills, IsSource, ToTarget, ToSource}
use Rattle.hand_over.specs.Counts.{pieces_left, messages_after}
use Rattle.hand_over.proofs.Ceilings.{left_step, left_next, left_none}
use Rattle.hand_over.specs.Moving.ToTarget.{PieceComes, CommitComes}
use Rattle.hand_over.specs.Moving.ToSource.{NeedComes, PreparedComes}
use Rattle.hand_over.proofs.Slices.{total_is, put_slice, part_full, all_full, slice_again}

same_again : (n : HostName) → is_same n (other (other n)) ≡ true
same_again A = refl
same_again B = refl

pub same : (n : HostName) → is_same n n ≡ true
same A = refl
same B = refl

-- ---- at the source

-- the source answers a Need by the piece
need_answered : (n k : HostName) (size : PieceSizes) (e : ℕ) (parts : Parts) (x : HostState) (part : Part) (place : ℕ) → other k ≡ n → IsSource e parts x → place < length (part_of parts part)
    → delivered n size x (message_from k e (body.Need part place)) None ≡ record { host = x; answer = delivers.Sent (message_from n e (body.Piece part place (slice (part_of parts part) place (size_for size part)))) }
need_answered n k size e parts x part place me source there =
    cond-true (is_same n (other k)) _ _ (ap (is_same n) me ∙ same n)
    ∙ ap (λ side. on_need n size side x e part place None) source.side
    ∙ cond-true (e == e && nat_lt place (total_of x.totals part)) _ _ (and_from _ _ (eq-eqb e e refl) (lt-ltb place (total_of x.totals part) (omega (arith, ap (λ ts. total_of ts part) source.totals, total_is parts part, there))))
    ∙ ap (λ c. record { host = x; answer = delivers.Sent (message_from n e (body.Piece part place (slice (part_of c part) place (size_for size part)))) }) source.content

-- and Prepared by the commit
prepared_answered : (n k : HostName) (size : PieceSizes) (e : ℕ) (parts : Parts) (x : HostState) → other k ≡ n → IsSource e parts x
    → delivered n size x (message_from k e body.Prepared) None ≡ record { host = record x { side = Released e }; answer = delivers.Sent (message_from n e body.Commit) }
prepared_answered n k size e parts x me source =
    cond-true (is_same n (other k)) _ _ (ap (is_same n) me ∙ same n)
    ∙ ap (λ side. on_prepared n side x e) source.side
    ∙ cond-true (e == e) _ _ (eq-eqb e e refl)

pub source_turns : (n k : HostName) (size : PieceSizes) (e : ℕ) (parts : Parts) (x y : HostState) (m : Message) → other k ≡ n → ToSource e parts k x y m
    → (next : Message) × ((delivered n size x m None).answer ≡ delivers.Sent next) × ToTarget size e parts n (delivered n size x m None).host y next × (messages_after size parts m.body ≡ suc (messages_after size parts next.body))
source_turns n k size e parts x y m me (NeedComes part place source target there is) =
    let row = ap (λ m. delivered n size x m None) is ∙ need_answered n k size e parts x part place me source there in
    let next = message_from n e (body.Piece part place (slice (part_of parts part) place (size_for size part))) in (
      next,
      ap (λ (a : After). a.answer) row,
      subst (λ (h : HostState). ToTarget size e parts n h y next) (sym (ap (λ (a : After). a.host) row)) (PieceComes part place source target there refl),
      ap (λ (b : Message). messages_after size parts b.body) is ∙ omega arith,
    )
source_turns n k size e parts x y m me (PreparedComes source side content is) =
    let row = ap (λ m. delivered n size x m None) is ∙ prepared_answered n k size e parts x me source in (
      message_from n e body.Commit,
      ap (λ (a : After). a.answer) row,
      subst (λ (h : HostState). ToTarget size e parts n h y (message_from n e body.Commit)) (sym (ap (λ (a : After). a.host) row)) (CommitComes refl side content refl),
      ap (λ (b : Message). messages_after size parts b.body) is,
    )

-- ---- at the target

-- how many bytes come with a piece
pub piece_size : (xs : List ℕ) (place size : ℕ) → length (slice xs place size) ≡ min size (length xs - place)
piece_size xs place size = length-take size (drop place xs) ∙ ap (min size) (length-drop place xs)

put_piece : (parts : Parts) (part : Part) (place size : ℕ) → put (filled parts part place) part (slice (part_of parts part) place size) ≡ filled parts part (place + length (slice (part_of parts part) place size))
put_piece parts part place size = ap (put (filled parts part place) part) (slice_again (part_of parts part) place size) ∙ put_slice parts part place (length (slice (part_of parts part) place size))

-- what the target makes of a message: it asks for more, says that it is prepared, or runs
pub data Turned (size : PieceSizes) (e : ℕ) (parts : Parts) (k : HostName) (x : HostState) (left : ℕ) (after : After) : Type 0 where
  Asks : (reply : Message) → after.answer ≡ delivers.Sent reply → ToSource e parts k x after.host reply → left ≡ suc (messages_after size parts reply.body) → Turned size e parts k x left after
  Ends : after.answer ≡ delivers.Runs → after.host.side ≡ Running → x.side ≡ Released e → left ≡ 0 → Turned size e parts k x left after

module _ (n k : HostName) (size their : PieceSizes) (e : ℕ) (parts : Parts) (x : HostState) (me : other n ≡ k) (least : (p : Part) → 1 ≤ size_for size p) (some : (p : Part) → 0 < length (part_of parts p)) (source : IsSource e parts x)
    (part : Part) (place : ℕ) (there : place < length (part_of parts part)) where
  abbrev bytes : List ℕ
  bytes = slice (part_of parts part) place (size_for size part)

  abbrev reached : ℕ
  reached = place + length (slice (part_of parts part) place (size_for size part))

  count : length (slice (part_of parts part) place (size_for size part)) ≡ min (size_for size part) (length (part_of parts part) - place)
  count = piece_size (part_of parts part) place (size_for size part)

  fits : reached ≤ length (part_of parts part)
  fits = omega (arith, count, there)

  amount : 1 ≤ length (slice (part_of parts part) place (size_for size part))
  amount = omega (arith, count, there, least part)

  abbrev grown : HostState
  grown = record { side = Filling e; top = e; content = put (filled parts part place) part bytes; totals = lengths parts; next = part; place = reached }

  abbrev left : ℕ
  left = 2 * pieces_left size parts part place

  -- one piece fewer is left
  fewer : pieces_left size parts part place ≡ suc (pieces_left size parts part reached)
  fewer = left_step size parts part place least there ∙ ap (λ (n : ℕ). suc (pieces_left size parts part (place + n))) (sym count)

  -- more of the part is wanted
  more : nat_lt reached (total_of (lengths parts) part) ≡ true → Turned size e parts k x left (takes_piece k (fills e parts part place) e bytes None)
  more lt =
      let row = cond-true (nat_lt reached (total_of (lengths parts) part)) _ _ lt in
      let host : grown ≡ fills e parts part reached = ap (λ c. record (fills e parts part reached) { content = c }) (put_piece parts part place (size_for size part)) in
      let inside : reached < length (part_of parts part) = omega (arith, ltb-true reached (total_of (lengths parts) part) lt, total_is parts part) in
      subst (Turned size e parts k x left) (sym row)
      (Asks (message_from k e (body.Need part reached)) refl (NeedComes part reached source host inside refl) (omega (arith, fewer)))

  -- the part is whole
  full : reached ≡ length (part_of parts part) → (after : Option Part) → part_after part ≡ after → Turned size e parts k x left (goes_on k grown e after)
  full whole (Some q) after =
      let host : record grown { next = q; place = 0 } ≡ fills e parts q 0 =
      ap (λ c. record (fills e parts q 0) { content = c }) (put_piece parts part place (size_for size part) ∙ ap (filled parts part) whole ∙ part_full parts part q after) in
      Asks (message_from k e (body.Need q 0)) refl (NeedComes q 0 source host (some q) refl)
      (omega (arith, fewer, ap (pieces_left size parts part) whole, left_next size parts part q least after))
  full whole None after =
      Asks (message_from k e body.Prepared) refl
      (PreparedComes source refl (put_piece parts part place (size_for size part) ∙ ap (filled parts part) whole ∙ all_full parts part after) refl)
      (omega (arith, fewer, ap (pieces_left size parts part) whole, left_none size parts part least after))

  taken : Turned size e parts k x left (takes_piece k (fills e parts part place) e bytes None)
  taken = elim (cases_lt reached (total_of (lengths parts) part)) [
    | inl lt ↦ more (lt-ltb _ _ lt)
    | inr le ↦ subst (Turned size e parts k x left) (sym (cond-false (nat_lt reached (total_of (lengths parts) part)) _ _ (le-ltb _ _ le))) (full (omega (arith, le, fits, total_is parts part)) (part_after part) refl)
  ]

  piece_row : delivered k their (fills e parts part place) (message_from n e (body.Piece part place bytes)) None ≡ takes_piece k (fills e parts part place) e bytes None
  piece_row =
      cond-true (is_same k (other n)) _ _ (ap (is_same k) me ∙ same k)
      ∙ cond-true (e == e && is_next (fills e parts part place) part place (length bytes)) _ _
      (and_from _ _ (eq-eqb e e refl) (and_from _ _ (eq-eqb _ _ refl) (and_from _ _ (eq-eqb place place refl) (le-leb reached (total_of (lengths parts) part) (omega (arith, fits, total_is parts part))))))

commit_row : (n k : HostName) (size : PieceSizes) (e : ℕ) (y : HostState) → other n ≡ k → y.side ≡ Prepared e
    → delivered k size y (message_from n e body.Commit) None ≡ record { host = record y { side = Running }; answer = delivers.Runs }
commit_row n k size e y me side =
    cond-true (is_same k (other n)) _ _ (ap (is_same k) me ∙ same k)
    ∙ ap (λ s. on_commit s y e) side
    ∙ cond-true (e == e) _ _ (eq-eqb e e refl)

pub target_turns : (n k : HostName) (size their : PieceSizes) (e : ℕ) (parts : Parts) (x y : HostState) (m : Message) → other n ≡ k → ((p : Part) → 1 ≤ size_for size p) → ((p : Part) → 0 < length (part_of parts p)) → ToTarget size e parts n x y m
    → Turned size e parts k x (messages_after size parts m.body) (delivered k their y m None)
target_turns n k size their e parts x y m me least some (PieceComes part place source target there is) =
    subst (λ (b : Message). Turned size e parts k x (messages_after size parts b.body) (delivered k their y b None)) (sym is)
    (subst (λ (h : HostState). Turned size e parts k x (2 * pieces_left size parts part place) (delivered k their h (message_from n e (body.Piece part place (slice (part_of parts part) place (size_for size part)))) None)) (sym target)
    (subst (Turned size e parts k x (2 * pieces_left size parts part place)) (sym (piece_row n k size their e parts x me least some source part place there))
    (taken n k size their e parts x me least some source part place there)))
target_turns n k size their e parts x y m me least some (CommitComes released side content is) =
    subst (λ (b : Message). Turned size e parts k x (messages_after size parts b.body) (delivered k their y b None)) (sym is)
    (subst (Turned size e parts k x 0) (sym (commit_row n k their e y me side)) (Ends refl refl released refl))
