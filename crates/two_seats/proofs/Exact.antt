-- What a request over a link in memory comes to, exactly: it fails where an injected fault is met, and else the emulator does it.
use Rattle.std.proofs.Common.{◌≡◌, ℕ, zero, suc, ◌≤◌, ◌<◌, ◌+◌, ◌-◌, ◌^◌, Bool, true, false, ◌||◌, List, [], ◌∷◌, length, take, drop, ◌++◌, refl, sym, ap, subst, ◌∙◌, arith, Some, Ok, Err, cond}
use Rattle.std.specs.Prelude.{Option, Result, IfSome, if◌then◌else◌, nat_lt, ◌==◌, min}
use Rattle.ctrl_codec.specs.declared.request.Request.{Request}
use Rattle.ctrl_model.specs.declared.profile.TheConstants.{SUCCESS}
use Rattle.ctrl_client.specs.declared.fault.ClientFault.{ClientFault}
use Rattle.ctrl_client.specs.declared.fault.ClientFault.TheVariants.{Link as LinkFault}
use Rattle.ctrl_model.specs.Emulator.{RequestOutcome, HandlesRequest}
use Rattle.ctrl_model.specs.Link.{Link}
use Rattle.ctrl_client.specs.Exchange.{IsQuiet, Commands, CommandedBy, calls_of, sends_of, result_of, checked_result}
use Rattle.ctrl_client.specs.Schedules.{fails_within, schedule_after}
use Rattle.move_core.specs.Requests.{WiresView, Asks, FetchesPiece, fetched, GetsTotals, ThenGets, total_in, before}
use Rattle.move_core.specs.declared.asking.Fetched.{Fetched}
use Rattle.ctrl_client.specs.Pieces.{HasField, Fetches, BlobFields, is_misfit, fields_at, fields_of_tpm, encode_blob_if_any, bytes_at, calls_for, piece_given, checked_fields, bytes_given}
use Rattle.state_blobs.specs.Encodings.{encode_blob, slice}
use Rattle.state_blobs.specs.declared.types.Piece.{Piece}
use Rattle.tpm_core.specs.declared.parts.TpmParts.{TpmParts}
use Rattle.vt_base.specs.declared.types.Kind.{Kind}
use Rattle.std.proofs.lemmas.Bool.Decides.{nat_tests}
use Rattle.vt_seat.specs.Wires.{fails_next, after_call}
use Rattle.std.proofs.lemmas.List.{length-take, length-drop}
use Rattle.std.proofs.Math.Seq.{take-append_seam}
use Rattle.hand_over.proofs.Pieces.{slice_end}
use Rattle.vt_seat.proofs.Piece.{rest_of, IsMoves, obeys_rest}

-- wires that give this link, and which of the calls to come is to fail
pub record Wired (w : WiresView (Option ℕ)) (l : Link) (calls_to_fault : Option ℕ) : Type 0 where
  pub fails : w.fails ≡ fails_next
  pub later : w.later ≡ after_call
  pub link : w.link ≡ Some l
  pub schedule : w.schedule ≡ calls_to_fault

-- the emulator may have done something, but what a host that is at rest needs of it is as before
pub record Rested (l m : Link) : Type 0 where
  pub control : m.control ≡ l.control
  pub commands : m.commands ≡ l.commands
  pub rest : rest_of m.emulator ≡ rest_of l.emulator

pub record Asked (q : Request) (bytes : List ℕ) (l : Link) (calls_to_fault : Option ℕ) (v : WiresView (Option ℕ)) (r : Result (Unit {0}) ClientFault) : Type 0 where
  pub link : Link
  pub wired : Wired v link (schedule_after fails_next after_call (calls_of bytes) calls_to_fault)
  pub rested : Rested l link
  pub done : fails_within fails_next after_call (calls_of bytes) calls_to_fault ≡ false → (r ≡ Ok tt) × ((request_outcome : RequestOutcome) × HandlesRequest q bytes l.emulator request_outcome × (link.emulator ≡ request_outcome.emulator))
  pub lost : fails_within fails_next after_call (calls_of bytes) calls_to_fault ≡ true → r ≡ Err LinkFault

-- a failed send is a failed call
pub within_more : (n m : ℕ) (calls_to_fault : Option ℕ) → n ≤ m → fails_within fails_next after_call n calls_to_fault ≡ true → fails_within fails_next after_call m calls_to_fault ≡ true
within_more zero m calls_to_fault le is = cc
within_more (suc n) zero calls_to_fault le is = absurd (omega (arith, le))
within_more (suc n) (suc m) calls_to_fault le is = go (fails_next calls_to_fault) is (within_more n m (after_call calls_to_fault) (omega (arith, le)))
  where
    go : (b : Bool) → (b || fails_within fails_next after_call n (after_call calls_to_fault)) ≡ true → (fails_within fails_next after_call n (after_call calls_to_fault) ≡ true → fails_within fails_next after_call m (after_call calls_to_fault) ≡ true) → (b || fails_within fails_next after_call m (after_call calls_to_fault)) ≡ true
    go true at more = refl
    go false at more = more at

pub true-false : true ≡ false → ⊥
true-false is = cc

exact_here : (q : Request) (bytes : List ℕ) (fails : Option ℕ → Bool) (later : Option ℕ → Option ℕ) (link : Option Link) (schedule : Option ℕ) (l : Link) (calls_to_fault : Option ℕ) (r : Result (Unit {0}) ClientFault) (after : Option Link) (now : Option ℕ)
    → fails ≡ fails_next → later ≡ after_call → link ≡ Some l → schedule ≡ calls_to_fault → IfSome link (λ m. IsQuiet m → Commands fails later q bytes m schedule r after now) → IsQuiet l → Commands fails_next after_call q bytes l calls_to_fault r after now
exact_here q bytes fails later link schedule l calls_to_fault r after now is_fails is_later is_link is_schedule exact quiet =
    subst (λ (f : Option ℕ → Bool). Commands f after_call q bytes l calls_to_fault r after now) is_fails
    (subst (λ (g : Option ℕ → Option ℕ). Commands fails g q bytes l calls_to_fault r after now) is_later
    (subst (λ (p : Option ℕ). Commands fails later q bytes l p r after now) is_schedule
    ((subst (λ (o : Option Link). IfSome o (λ m. IsQuiet m → Commands fails later q bytes m schedule r after now)) is_link exact) quiet)))

success : (n : ℕ) → n ≡ SUCCESS → checked_result n ≡ Ok tt
success n is = rw is refl

pub asks_exact : (q : Request) (bytes : List ℕ) (w v : WiresView (Option ℕ)) (l : Link) (calls_to_fault : Option ℕ) (r : Result (Unit {0}) ClientFault)
    → Wired w l calls_to_fault → IsQuiet l → IsMoves q → ((request_outcome : RequestOutcome) → HandlesRequest q bytes l.emulator request_outcome → result_of request_outcome.reply ≡ SUCCESS) → Asks q bytes w v r → Asked q bytes l calls_to_fault v r
asks_exact q bytes w v l calls_to_fault r wired quiet moves succeeds_if_promised asks = go (fails_within fails_next after_call (sends_of bytes) calls_to_fault) (fails_within fails_next after_call (calls_of bytes) calls_to_fault) refl refl exact.link
  where
    exact : Commands fails_next after_call q bytes l calls_to_fault r v.link v.schedule
    exact = exact_here q bytes w.fails w.later w.link w.schedule l calls_to_fault r v.link v.schedule wired.fails wired.later wired.link wired.schedule asks.exact quiet

    wired_at : (m : Link) → v.link ≡ Some m → Wired v m (schedule_after fails_next after_call (calls_of bytes) calls_to_fault)
    wired_at m is = record { fails = asks.same_fails ∙ wired.fails; later = asks.same_later ∙ wired.later; link = is; schedule = exact.schedule_is }

    go : (first lost : Bool) → fails_within fails_next after_call (sends_of bytes) calls_to_fault ≡ first → fails_within fails_next after_call (calls_of bytes) calls_to_fault ≡ lost → CommandedBy first lost q bytes l r v.link → Asked q bytes l calls_to_fault v r
    go true false one all (answer, after) = absurd (true-false (sym (within_more (sends_of bytes) (calls_of bytes) calls_to_fault (omega arith) one) ∙ all))
    go true true one all (answer, after) = record {
      link = l;
      wired = wired_at l after;
      rested = record { control = refl; commands = refl; rest = refl };
      done = λ none. absurd (true-false (sym all ∙ none));
      lost = λ met. answer;
    }
    go false true one all (request_outcome, obeys, after, answer) = record {
      link = record l { emulator = request_outcome.emulator };
      wired = wired_at (record l { emulator = request_outcome.emulator }) after;
      rested = record { control = refl; commands = refl; rest = obeys_rest q bytes l.emulator request_outcome moves obeys };
      done = λ none. absurd (true-false (sym all ∙ none));
      lost = λ met. answer;
    }
    go false false one all (request_outcome, obeys, after, answer) = record {
      link = record l { emulator = request_outcome.emulator };
      wired = wired_at (record l { emulator = request_outcome.emulator }) after;
      rested = record { control = refl; commands = refl; rest = obeys_rest q bytes l.emulator request_outcome moves obeys };
      done = λ none. (answer ∙ success (result_of request_outcome.reply) (succeeds_if_promised request_outcome obeys), (request_outcome, obeys, refl));
      lost = λ met. absurd (true-false (sym met ∙ all));
    }

-- ---- a piece of a blob is asked for

-- there is a TPM behind a quiet link, whose blobs have lengths that fit their field and go in pieces of 1 to 4096 bytes
pub record Gives (l : Link) (t : TpmParts) : Type 0 where
  pub quiet : IsQuiet l
  pub tpm : l.emulator.tpm ≡ Some t
  pub fields : (k : Kind) → length (encode_blob k t) < 2 ^ 32
  pub least : 1 ≤ l.emulator.piece
  pub most : l.emulator.piece ≤ 4096

pub record Fetched3 (kind : Kind) (offset : ℕ) (l : Link) (t : TpmParts) (calls_to_fault : Option ℕ) (v : WiresView (Option ℕ)) (r : Result Fetched ClientFault) : Type 0 where
  pub wired : Wired v l (schedule_after fails_next after_call 3 calls_to_fault)
  pub done : fails_within fails_next after_call 3 calls_to_fault ≡ false → r ≡ Ok (record { total = length (encode_blob kind t); bytes = slice (encode_blob kind t) offset l.emulator.piece })
  pub lost : fails_within fails_next after_call 3 calls_to_fault ≡ true → r ≡ Err LinkFault

fetches_here : (kind : Kind) (offset room : ℕ) (fails : Option ℕ → Bool) (later : Option ℕ → Option ℕ) (link : Option Link) (schedule : Option ℕ) (l : Link) (calls_to_fault : Option ℕ) (r : Result Piece ClientFault) (old new : List ℕ) (after : Option Link) (now : Option ℕ)
    → fails ≡ fails_next → later ≡ after_call → link ≡ Some l → schedule ≡ calls_to_fault → IfSome link (λ m. HasField kind m → Fetches fails later kind offset room m schedule r old new after now) → HasField kind l → Fetches fails_next after_call kind offset room l calls_to_fault r old new after now
fetches_here kind offset room fails later link schedule l calls_to_fault r old new after now is_fails is_later is_link is_schedule exact field =
    subst (λ (f : Option ℕ → Bool). Fetches f after_call kind offset room l calls_to_fault r old new after now) is_fails
    (subst (λ (g : Option ℕ → Option ℕ). Fetches fails g kind offset room l calls_to_fault r old new after now) is_later
    (subst (λ (p : Option ℕ). Fetches fails later kind offset room l p r old new after now) is_schedule
    ((subst (λ (o : Option Link). IfSome o (λ m. HasField kind m → Fetches fails later kind offset room m schedule r old new after now)) is_link exact) field)))

misfit_within : (most left room : ℕ) → most ≤ room → 1 ≤ most → is_misfit (min most left) left room ≡ false
misfit_within most zero room fits some =
    let none : min most 0 ≡ 0 = omega arith in
    let held : nat_lt room 0 ≡ false = grind (arith, nat_tests) in
    rw (none, held) refl
misfit_within most (suc left) room fits some =
    let far : nat_lt (suc left) (min most (suc left)) ≡ false = grind (arith, nat_tests) in
    let held : nat_lt room (min most (suc left)) ≡ false = grind (arith, nat_tests) in
    let there : (min most (suc left) == 0) ≡ false = grind (arith, nat_tests) in
    rw (far, held, there) refl

given_sure : (text : List ℕ) (from most room : ℕ) → from ≤ length text → most ≤ room → 1 ≤ most
    → checked_fields (fields_at text from most) from room ≡ Ok (record { total = length text; length = min most (length text - from) })
given_sure text from most room within fits some =
    let far : nat_lt (length text) from ≡ false = grind (arith, nat_tests) in
    let fields : fields_at text from most ≡ record { result = 0; flags = 0; total = length text; size = min most (length text - from) } = rw far refl in
    ap (λ (f : BlobFields). checked_fields f from room) fields ∙ rw (far, misfit_within most (length text - from) room fits some) refl

three : (p : Piece) → 0 < p.length → calls_for (Ok p) ≡ 3
three p some = let is : nat_lt 0 p.length ≡ true = grind (arith, nat_tests) in rw is refl

prefix_of : (xs ys : List ℕ) (n : ℕ) → length xs ≡ n → take n (xs ++ ys) ≡ xs
prefix_of xs ys n is = subst (λ k. take k (xs ++ ys) ≡ xs) is (take-append_seam xs ys)

pub fetches_exact : (kind : Kind) (offset : ℕ) (w v : WiresView (Option ℕ)) (l : Link) (t : TpmParts) (calls_to_fault : Option ℕ) (r : Result Fetched ClientFault)
    → Wired w l calls_to_fault → Gives l t → offset < length (encode_blob kind t) → FetchesPiece kind offset w v r → Fetched3 kind offset l t calls_to_fault v r
fetches_exact kind offset w v l t calls_to_fault r wired gives within f = record {
  wired = record { fails = f.gets.same_fails ∙ wired.fails; later = f.gets.same_later ∙ wired.later; link = exact.link; schedule = subst (λ n. v.schedule ≡ schedule_after fails_next after_call n calls_to_fault) calls exact.schedule_is };
  done = λ none.
      let unmet : fails_within fails_next after_call (calls_for (piece_given kind offset 4096 l.emulator)) calls_to_fault ≡ false = subst (λ n. fails_within fails_next after_call n calls_to_fault ≡ false) (sym calls) none in
      let piece : f.piece ≡ Ok (record { total = length (encode_blob kind t); length = size }) = exact.answer_is ∙ ap (λ (failed : Bool). if failed then Err LinkFault else piece_given kind offset 4096 l.emulator) unmet ∙ given in
      let bytes : f.into ≡ slice (encode_blob kind t) offset size ++ drop (length (bytes_given kind offset 4096 l.emulator)) f.room = exact.bytes unmet ∙ ap (λ b. b ++ drop (length (bytes_given kind offset 4096 l.emulator)) f.room) given_bytes in
      f.answer_is ∙ ap (fetched f.into) piece
      ∙ ap (λ (b : List ℕ). Ok (record { total = length (encode_blob kind t); bytes = b })) (ap (take size) bytes ∙ prefix_of (slice (encode_blob kind t) offset size) _ size sized ∙ slice_end (encode_blob kind t) offset l.emulator.piece);
  lost = λ met.
      let failed : fails_within fails_next after_call (calls_for (piece_given kind offset 4096 l.emulator)) calls_to_fault ≡ true = subst (λ n. fails_within fails_next after_call n calls_to_fault ≡ true) (sym calls) met in
      f.answer_is ∙ ap (fetched f.into) (exact.answer_is ∙ ap (λ (failed : Bool). if failed then Err LinkFault else piece_given kind offset 4096 l.emulator) failed);
}
  where
    size : ℕ
    size = min l.emulator.piece (length (encode_blob kind t) - offset)

    field : HasField kind l
    field = record { quiet = gives.quiet; total = subst (λ (o : Option TpmParts). IfSome o (λ t. length (encode_blob kind t) < 2 ^ 32)) (sym gives.tpm) (gives.fields kind) }

    exact : Fetches fails_next after_call kind offset 4096 l calls_to_fault f.piece f.room f.into v.link v.schedule
    exact = subst (λ (n : ℕ). Fetches fails_next after_call kind offset n l calls_to_fault f.piece f.room f.into v.link v.schedule) f.size
        (fetches_here kind offset (length f.room) w.fails w.later w.link w.schedule l calls_to_fault f.piece f.room f.into v.link v.schedule wired.fails wired.later wired.link wired.schedule f.gets.exact field)

    given : piece_given kind offset 4096 l.emulator ≡ Ok (record { total = length (encode_blob kind t); length = size })
    given = ap (λ (o : Option TpmParts). checked_fields (fields_of_tpm kind offset l.emulator.piece o) offset 4096) gives.tpm ∙ given_sure (encode_blob kind t) offset l.emulator.piece 4096 (omega (arith, within)) gives.most gives.least

    calls : calls_for (piece_given kind offset 4096 l.emulator) ≡ 3
    calls = ap calls_for given ∙ three (record { total = length (encode_blob kind t); length = size }) (omega (arith, within, gives.least))

    given_bytes : bytes_given kind offset 4096 l.emulator ≡ slice (encode_blob kind t) offset size
    given_bytes = ap (λ r. bytes_at r (encode_blob_if_any kind l.emulator.tpm) offset) given ∙ ap (λ (o : Option TpmParts). slice (encode_blob_if_any kind o) offset size) gives.tpm

    sized : length (slice (encode_blob kind t) offset size) ≡ size
    sized = omega (arith, length-take size (drop offset (encode_blob kind t)), length-drop offset (encode_blob kind t))

-- ---- calls after calls

pub within_joined : (n m : ℕ) (calls_to_fault : Option ℕ) → fails_within fails_next after_call n calls_to_fault ≡ false → fails_within fails_next after_call (n + m) calls_to_fault ≡ fails_within fails_next after_call m (schedule_after fails_next after_call n calls_to_fault)
within_joined zero m calls_to_fault none = let e : m ≡ 0 + m = omega arith in subst (λ k. fails_within fails_next after_call k calls_to_fault ≡ fails_within fails_next after_call m calls_to_fault) e refl
within_joined (suc n) m calls_to_fault none = let e : suc (n + m) ≡ suc n + m = omega arith in subst (λ k. fails_within fails_next after_call k calls_to_fault ≡ fails_within fails_next after_call m (schedule_after fails_next after_call (suc n) calls_to_fault)) e (go (fails_next calls_to_fault) (within_joined n m (after_call calls_to_fault)) none)
  where
    go : (b : Bool) → (fails_within fails_next after_call n (after_call calls_to_fault) ≡ false → fails_within fails_next after_call (n + m) (after_call calls_to_fault) ≡ fails_within fails_next after_call m (schedule_after fails_next after_call n (after_call calls_to_fault)))
        → (b || fails_within fails_next after_call n (after_call calls_to_fault)) ≡ false
        → (b || fails_within fails_next after_call (n + m) (after_call calls_to_fault)) ≡ fails_within fails_next after_call m (cond b (after_call calls_to_fault) (schedule_after fails_next after_call n (after_call calls_to_fault)))
    go true more at = absurd (true-false at)
    go false more at = more at

pub schedule_joined : (n m : ℕ) (calls_to_fault : Option ℕ) → fails_within fails_next after_call n calls_to_fault ≡ false → schedule_after fails_next after_call (n + m) calls_to_fault ≡ schedule_after fails_next after_call m (schedule_after fails_next after_call n calls_to_fault)
schedule_joined zero m calls_to_fault none = let e : m ≡ 0 + m = omega arith in subst (λ k. schedule_after fails_next after_call k calls_to_fault ≡ schedule_after fails_next after_call m calls_to_fault) e refl
schedule_joined (suc n) m calls_to_fault none = let e : suc (n + m) ≡ suc n + m = omega arith in subst (λ k. schedule_after fails_next after_call k calls_to_fault ≡ schedule_after fails_next after_call m (schedule_after fails_next after_call (suc n) calls_to_fault)) e (go (fails_next calls_to_fault) (schedule_joined n m (after_call calls_to_fault)) none)
  where
    go : (b : Bool) → (fails_within fails_next after_call n (after_call calls_to_fault) ≡ false → schedule_after fails_next after_call (n + m) (after_call calls_to_fault) ≡ schedule_after fails_next after_call m (schedule_after fails_next after_call n (after_call calls_to_fault)))
        → (b || fails_within fails_next after_call n (after_call calls_to_fault)) ≡ false
        → cond b (after_call calls_to_fault) (schedule_after fails_next after_call (n + m) (after_call calls_to_fault)) ≡ schedule_after fails_next after_call m (cond b (after_call calls_to_fault) (schedule_after fails_next after_call n (after_call calls_to_fault)))
    go true more at = absurd (true-false at)
    go false more at = more at

-- behind a call that failed none follows
pub schedule_failed : (n m : ℕ) (calls_to_fault : Option ℕ) → fails_within fails_next after_call n calls_to_fault ≡ true → schedule_after fails_next after_call (n + m) calls_to_fault ≡ schedule_after fails_next after_call n calls_to_fault
schedule_failed zero m calls_to_fault met = absurd (true-false (sym met))
schedule_failed (suc n) m calls_to_fault met = let e : suc (n + m) ≡ suc n + m = omega arith in subst (λ k. schedule_after fails_next after_call k calls_to_fault ≡ schedule_after fails_next after_call (suc n) calls_to_fault) e (go (fails_next calls_to_fault) (schedule_failed n m (after_call calls_to_fault)) met)
  where
    go : (b : Bool) → (fails_within fails_next after_call n (after_call calls_to_fault) ≡ true → schedule_after fails_next after_call (n + m) (after_call calls_to_fault) ≡ schedule_after fails_next after_call n (after_call calls_to_fault))
        → (b || fails_within fails_next after_call n (after_call calls_to_fault)) ≡ true
        → cond b (after_call calls_to_fault) (schedule_after fails_next after_call (n + m) (after_call calls_to_fault)) ≡ cond b (after_call calls_to_fault) (schedule_after fails_next after_call n (after_call calls_to_fault))
    go true more at = refl
    go false more at = more at

-- ---- the lengths of blobs

abbrev pub lengths_of : List Kind → TpmParts → List ℕ
lengths_of [] t = []
lengths_of (k ∷ ks) t = length (encode_blob k t) ∷ lengths_of ks t

abbrev pub calls_for_all : List Kind → ℕ
calls_for_all [] = 0
calls_for_all (k ∷ ks) = 3 + calls_for_all ks

pub record Totals (ks : List Kind) (l : Link) (t : TpmParts) (calls_to_fault : Option ℕ) (v : WiresView (Option ℕ)) (r : Result (List ℕ) ClientFault) : Type 0 where
  pub wired : Wired v l (schedule_after fails_next after_call (calls_for_all ks) calls_to_fault)
  pub done : fails_within fails_next after_call (calls_for_all ks) calls_to_fault ≡ false → r ≡ Ok (lengths_of ks t)
  pub lost : fails_within fails_next after_call (calls_for_all ks) calls_to_fault ≡ true → r ≡ Err LinkFault

wired_same : (w v : WiresView (Option ℕ)) (l : Link) (calls_to_fault calls_to_fault' : Option ℕ) → v ≡ w → calls_to_fault ≡ calls_to_fault' → Wired w l calls_to_fault → Wired v l calls_to_fault'
wired_same w v l calls_to_fault calls_to_fault' same is wired = subst (λ (x : WiresView (Option ℕ)). Wired x l calls_to_fault') (sym same) (subst (Wired w l) is wired)

pub totals_exact : (ks : List Kind) (w v : WiresView (Option ℕ)) (l : Link) (t : TpmParts) (calls_to_fault : Option ℕ) (r : Result (List ℕ) ClientFault)
    → Wired w l calls_to_fault → Gives l t → ((k : Kind) → 0 < length (encode_blob k t)) → GetsTotals ks w v r → Totals ks l t calls_to_fault v r
totals_exact [] w v l t calls_to_fault r wired gives some (same, is) = record { wired = wired_same w v l calls_to_fault calls_to_fault same refl wired; done = λ none. is; lost = λ met. absurd (true-false (sym met)) }
totals_exact (k ∷ ks) w v l t calls_to_fault r wired gives some (between, first, one, more) =
    go (fails_within fails_next after_call 3 calls_to_fault) refl first refl more
    (λ others gets. totals_exact ks between v l t (schedule_after fails_next after_call 3 calls_to_fault) others (fetches_exact k 0 w between l t calls_to_fault one.piece wired gives (some k) one.fetches).wired gives some gets)
  where
    fetched_one : Fetched3 k 0 l t calls_to_fault between one.piece
    fetched_one = fetches_exact k 0 w between l t calls_to_fault one.piece wired gives (some k) one.fetches

    go : (failed : Bool) → fails_within fails_next after_call 3 calls_to_fault ≡ failed → (f : Result ℕ ClientFault) → first ≡ f → ThenGets f (GetsTotals ks between v) between v r
        → ((others : Result (List ℕ) ClientFault) → GetsTotals ks between v others → Totals ks l t (schedule_after fails_next after_call 3 calls_to_fault) v others) → Totals (k ∷ ks) l t calls_to_fault v r
    go true met f is rest again =
        let lost : f ≡ Err LinkFault = sym is ∙ one.answer_is ∙ ap total_in (fetched_one.lost met) in
        let ended : (v ≡ between) × (r ≡ Err LinkFault) = subst (λ x. ThenGets x (GetsTotals ks between v) between v r) lost rest in
        let all : fails_within fails_next after_call (3 + calls_for_all ks) calls_to_fault ≡ true = within_more 3 (3 + calls_for_all ks) calls_to_fault (omega arith) met in
        record {
          wired = wired_same between v l (schedule_after fails_next after_call 3 calls_to_fault) (schedule_after fails_next after_call (3 + calls_for_all ks) calls_to_fault) ended.0 (sym (schedule_failed 3 (calls_for_all ks) calls_to_fault met)) fetched_one.wired;
          done = λ none. absurd (true-false (sym all ∙ none));
          lost = λ m. ended.1;
        }
    go false none f is rest again =
        let found : f ≡ Ok (length (encode_blob k t)) = sym is ∙ one.answer_is ∙ ap total_in (fetched_one.done none) in
        let led : (others : Result (List ℕ) ClientFault) × GetsTotals ks between v others × (r ≡ before (length (encode_blob k t)) others) = subst (λ x. ThenGets x (GetsTotals ks between v) between v r) found rest in
        let left = again led.0 led.1 in
        let joined = within_joined 3 (calls_for_all ks) calls_to_fault none in
        record {
          wired = wired_same v v l (schedule_after fails_next after_call (calls_for_all ks) (schedule_after fails_next after_call 3 calls_to_fault)) (schedule_after fails_next after_call (3 + calls_for_all ks) calls_to_fault) refl (sym (schedule_joined 3 (calls_for_all ks) calls_to_fault none)) left.wired;
          done = λ unmet. led.2 ∙ ap (before (length (encode_blob k t))) (left.done (sym joined ∙ unmet));
          lost = λ met. led.2 ∙ ap (before (length (encode_blob k t))) (left.lost (sym joined ∙ met));
        }
