-- Bytes that pass one call after the other.
use Rattle.std.proofs.Common.{◌≡◌, ◌≢◌, ℕ, ◌+◌, ◌<◌, ◌≤◌, Bool, false, List, [], ◌++◌, length, take, drop, Option, Some, None, Result, Ok, Err, refl, sym, ap, subst, ◌∙◌, append_assoc, append-nil, arith, cond, inr}
use Rattle.std.specs.Prelude.{option_map, IfSome, IfOk, IfErr, OnOk, OnErr}
use Rattle.std.proofs.Math.Seq.{take-append-add}
use Rattle.std.proofs.lemmas.List.{length-take, length-take-le, take-append-le, take-take, length-append, map-append}
use Rattle.vt_base.specs.declared.types.Chan.{Chan}
use Rattle.vt_base.specs.declared.types.Chan.TheVariants.{Ctrl}
use Rattle.state_blobs.specs.declared.types.Piece.{Piece}
use Rattle.ctrl_codec.specs.declared.request.Request.{Request}
use Rattle.ctrl_client.specs.declared.fault.ClientFault.{ClientFault}
use Rattle.ctrl_client.specs.declared.fault.ClientFault.TheVariants.{Link as LinkFault}
use Rattle.ctrl_client.specs.Pieces.{checked_fields, leaves_bytes}
use Rattle.ctrl_model.specs.Link.{Link, empty_channel, cut}
use Rattle.ctrl_client.specs.Traffic.{Traffic, over, with_sent, with_received, Came, CamePart, Passed, encode_zeroed_request, fields_in, AnswersPiece, CutsForBytes, LeavesSlice}

-- bytes behind others, and both over one channel
behind : (chan : Chan) (was : List (Chan × ℕ)) (first bytes : List ℕ) → (was ++ over chan first) ++ over chan bytes ≡ was ++ over chan (first ++ bytes)
behind chan was first bytes = append_assoc was (over chan first) (over chan bytes) ∙ ap (λ (more : List (Chan × ℕ)). was ++ more) (sym (map-append (λ (byte : ℕ). (chan, byte)) first bytes))

-- bytes and the bytes behind them
pub came_joins : (chan : Chan) (first bytes : List ℕ) (before mid after : Option Traffic) → Came chan first before mid → Came chan bytes mid after → Came chan (first ++ bytes) before after
came_joins chan first bytes None mid after is more = more ∙ ap (option_map (with_received chan bytes)) is
came_joins chan first bytes (Some t) mid after is more =
    more ∙ ap (option_map (with_received chan bytes)) is ∙ ap (λ (all : List (Chan × ℕ)). Some (record t { received = all })) (behind chan t.received first bytes)

-- and more of the reply
passed_joins : (q : Request) (payload first bytes : List ℕ) (before mid after : Option Traffic) → Passed q payload first before mid → Came Ctrl bytes mid after → Passed q payload (first ++ bytes) before after
passed_joins q payload first bytes None mid after is more = more ∙ ap (option_map (with_received Ctrl bytes)) is
passed_joins q payload first bytes (Some t) mid after is more =
    more ∙ ap (option_map (with_received Ctrl bytes)) is
    ∙ ap (λ (all : List (Chan × ℕ)). Some (record (with_sent Ctrl (encode_zeroed_request q payload) t) { received = all })) (behind Ctrl t.received first bytes)

-- a slice that is filled from its start on
pub came_behind : (chan : Chan) (done count : ℕ) (into part behind : List ℕ) (before mid after : Option Traffic) → done ≤ length into → count ≤ length part
    → Came chan (take done into) before mid → Came chan (take count part) mid after → Came chan (take (done + count) (take done into ++ (part ++ behind))) before after
came_behind chan done count into part behind before mid after within within_limit first more =
    let prefix : take (done + count) (take done into ++ (part ++ behind)) ≡ take done into ++ take count (part ++ behind) =
    ap (λ (n : ℕ). take (n + count) (take done into ++ (part ++ behind))) (sym (length-take-le done into within)) ∙ take-append-add (take done into) (part ++ behind) count in
    rw (prefix, take-append-le count part behind within_limit) (came_joins chan (take done into) (take count part) before mid after first more)

-- and one that is filled in part
pub came_part : {E : Type 0} (answer : Result (Unit {0}) E) (chan : Chan) (count : ℕ) (into part behind : List ℕ) (before mid after : Option Traffic) → count ≤ length into
    → Came chan (take count into) before mid → OnErr answer (CamePart chan part mid after) → OnErr answer (CamePart chan (take count into ++ (part ++ behind)) before after)
came_part (Ok done) chan count into part behind before mid after within first more = more
came_part (Err fault) chan count into part behind before mid after within first (n, less, more) =
    let size : length (take count into ++ (part ++ behind)) ≡ count + (length part + length behind) =
    length-append (take count into) (part ++ behind) ∙ ap (λ (k : ℕ). k + length (part ++ behind)) (length-take-le count into within) ∙ ap (λ (k : ℕ). count + k) (length-append part behind) in
    (count + n, omega (arith, size, less), came_behind chan count n into part behind before mid after within (omega (arith, less)) first more)

-- a piece that its fields give, with its data
pub answers_piece : (q : Request) (offset : ℕ) (before mid after : Option Traffic) (link : Option Link) (fixed old new : List ℕ) (checked answer : Result Piece ClientFault) (piece : Piece)
    → length fixed ≡ 16 → Passed q [] fixed before mid → checked ≡ checked_fields (fields_in fixed) offset (length old) → checked ≡ Ok piece
    → IfOk answer (λ p. p ≡ piece) → IfErr answer (λ fault. fault ≡ LinkFault) → OnOk answer (Came Ctrl (take piece.length new) mid after) → drop piece.length new ≡ drop piece.length old
    → answer ≢ Err LinkFault → AnswersPiece q offset before after link old new answer
answers_piece q offset before mid after link fixed old new checked (Ok p) piece size first exact is same failed came rest answered =
    record {
      fixed = fixed;
      size = size;
      passed = rw same (passed_joins q [] fixed (take piece.length new) before mid after first came);
      answer_is = ap Ok same ∙ sym is ∙ exact;
      rest = rw same rest;
      forgotten = λ left. absurd cc;
    }
answers_piece q offset before mid after link fixed old new checked (Err fault) piece size first exact is same failed came rest answered = absurd (answered (ap Err failed))

-- so no channel was cut
pub no_cut : (q : Request) (offset room : ℕ) (before mid after : Option Traffic) (cuts_before cuts_after : ℕ) (fixed new : List ℕ) (checked answer : Result Piece ClientFault) (piece : Piece)
    → length fixed ≡ 16 → Passed q [] fixed before mid → checked ≡ checked_fields (fields_in fixed) offset room → checked ≡ Ok piece
    → IfOk answer (λ p. p ≡ piece) → IfErr answer (λ fault. fault ≡ LinkFault) → OnOk answer (Came Ctrl (take piece.length new) mid after)
    → cuts_after ≡ cuts_before → answer ≢ Err LinkFault → CutsForBytes q offset room before after cuts_before cuts_after answer
no_cut q offset room before mid after cuts_before cuts_after fixed new checked (Ok p) piece size first exact is same failed came uncut answered =
    record {
      fixed = fixed;
      size = size;
      payload = take piece.length new;
      passed = passed_joins q [] fixed (take piece.length new) before mid after first came;
      answer_is = ap Ok same ∙ sym is ∙ exact;
      uncut = λ none. uncut;
    }
no_cut q offset room before mid after cuts_before cuts_after fixed new checked (Err fault) piece size first exact is same failed came uncut answered = absurd (answered (ap Err failed))

-- nothing waits on a channel that was cut
cut_empties : (mid link : Option Link) → link ≡ option_map (cut Ctrl) mid → IfSome link (λ l. l.control ≡ empty_channel)
cut_empties None link is = subst (λ (o : Option Link). IfSome o (λ l. l.control ≡ empty_channel)) (sym is) tt
cut_empties (Some m) link is = subst (λ (o : Option Link). IfSome o (λ l. l.control ≡ empty_channel)) (sym is) refl

-- fields that give no piece
pub answers_refusal : (q : Request) (offset : ℕ) (before after : Option Traffic) (mid link : Option Link) (fixed old : List ℕ) (checked : Result Piece ClientFault) (fault : ClientFault)
    → length fixed ≡ 16 → Passed q [] fixed before after → checked ≡ checked_fields (fields_in fixed) offset (length old) → checked ≡ Err fault
    → link ≡ cond (leaves_bytes (Err fault) (fields_in fixed).size) (option_map (cut Ctrl) mid) mid
    → AnswersPiece q offset before after link old old (Err fault)
answers_refusal q offset before after mid link fixed old checked fault size passed exact is cuts =
    record {
      fixed = fixed;
      size = size;
      passed = subst (λ (xs : List ℕ). Passed q [] xs before after) (sym (append-nil fixed)) passed;
      answer_is = sym is ∙ exact;
      rest = refl;
      forgotten = λ left. cut_empties mid link (cuts ∙ ap (λ (b : Bool). cond b (option_map (cut Ctrl) mid) mid) left);
    }

-- and what is cut then
pub cut_for_bytes : (q : Request) (offset room : ℕ) (before after : Option Traffic) (cuts_before cuts_after : ℕ) (fixed : List ℕ) (checked : Result Piece ClientFault) (fault : ClientFault)
    → length fixed ≡ 16 → Passed q [] fixed before after → checked ≡ checked_fields (fields_in fixed) offset room → checked ≡ Err fault
    → (leaves_bytes (Err fault) (fields_in fixed).size ≡ false → cuts_after ≡ cuts_before)
    → CutsForBytes q offset room before after cuts_before cuts_after (Err fault)
cut_for_bytes q offset room before after cuts_before cuts_after fixed checked fault size passed exact is uncut =
    record {
      fixed = fixed;
      size = size;
      payload = [];
      passed = subst (λ (xs : List ℕ). Passed q [] xs before after) (sym (append-nil fixed)) passed;
      answer_is = sym is ∙ exact;
      uncut = uncut;
    }

-- a piece that its fields give, and whose data was lost
pub loses_data : (q : Request) (offset : ℕ) (before mid after : Option Traffic) (fixed old new : List ℕ) (checked answer : Result Piece ClientFault) (piece : Piece)
    → length fixed ≡ 16 → Passed q [] fixed before mid → checked ≡ checked_fields (fields_in fixed) offset (length old) → checked ≡ Ok piece
    → OnErr answer (CamePart Ctrl (take piece.length new) mid after) → drop piece.length new ≡ drop piece.length old
    → answer ≡ Err LinkFault → LeavesSlice q offset before after old new
loses_data q offset before mid after fixed old new checked (Ok p) piece size first exact is part rest lost = absurd cc
loses_data q offset before mid after fixed old new checked (Err fault) piece size first exact is (n, less, came) rest lost =
    let fewer : n < piece.length = omega (arith, less, length-take piece.length new) in
    inr (record {
      fixed = fixed;
      size = size;
      piece = piece;
      piece_is = sym exact ∙ is;
      count = n;
      fewer = fewer;
      passed = subst (λ (xs : List ℕ). Passed q [] (fixed ++ xs) before after) (take-take n piece.length new (omega (arith, fewer)))
          (passed_joins q [] fixed (take n (take piece.length new)) before mid after first came);
      rest = rest;
    })
