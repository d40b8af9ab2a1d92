-- A stream is read in one way, however it comes.
use Rattle.std.proofs.Common.{◌≡◌, ℕ, List, [], ◌∷◌, ◌++◌, length, take, drop, map, Option, Some, None, refl, sym, ap, subst, ◌∙◌, append_assoc}
use Rattle.std.specs.List.{concat}
use Rattle.std.proofs.lemmas.List.{append_cancel_left, take_at, take-append-drop}
use Rattle.std.proofs.lemmas.List.Elements.{All-append, All-cons, All-nil, All-tail, All-head}
use Rattle.vt_base.specs.declared.types.Malformed.{Malformed}
use Rattle.move_codec.specs.declared.message.Message.{Message}
use Rattle.move_codec.specs.Encoding.{Moves, encode_message}
use Rattle.move_codec.specs.Streams.{Carries, Stops}
use Rattle.move_codec.proofs.Decoding.{same_message, same_refusal, prefix_free}

abbrev IsSpelled : Message → Type 0
IsSpelled m = Moves m (encode_message m)

abbrev bytes_of : List Message → List ℕ
bytes_of sent = concat (map encode_message sent)

bytes_of-append : (sent : List Message) (m : Message) → bytes_of (sent ++ m ∷ []) ≡ bytes_of sent ++ (encode_message m ++ [])
bytes_of-append [] m = refl
bytes_of-append (n ∷ sent) m = ap (λ (t : List ℕ). encode_message n ++ t) (bytes_of-append sent m) ∙ sym (append_assoc (encode_message n) (bytes_of sent) (encode_message m ++ []))

encoded_so : (m : Message) (prefix : List ℕ) → Moves m prefix → IsSpelled m
encoded_so m prefix moves = subst (λ (t : List ℕ). Moves m t) moves.spelled moves

pub sent_more : (sent : List Message) (stream rest piece prefix back : List ℕ) (m : Message) → Carries sent stream rest → rest ++ piece ≡ prefix ++ back → Moves m prefix → Carries (sent ++ m ∷ []) (stream ++ piece) back
sent_more sent stream rest piece prefix back m so_far parts moves =
    let is : prefix ≡ encode_message m = moves.spelled in
    let ends : bytes_of sent ++ (prefix ++ back) ≡ bytes_of (sent ++ m ∷ []) ++ back =
    sym (rw (bytes_of-append sent m, is) (simp append_assoc)) in
    record {
      each = All-append IsSpelled sent (m ∷ []) so_far.each (All-cons IsSpelled m [] (encoded_so m prefix moves) (All-nil IsSpelled));
      joined = ap (λ (s : List ℕ). s ++ piece) so_far.joined ∙ append_assoc (bytes_of sent) rest piece ∙ ap (λ (s : List ℕ). bytes_of sent ++ s) parts ∙ ends;
    }

-- where a reading stops no message begins
no_first : (stop : Option Malformed) (m : Message) (rest back : List ℕ) → Stops stop rest → rest ≡ encode_message m ++ back → IsSpelled m → ⊥
no_first None m rest back none is moves =
    let prefix : Moves m (take (length (encode_message m)) rest) = rw (is, take_at (encode_message m) back (length (encode_message m)) refl) moves in
    none.no_message (length (encode_message m)) m prefix
no_first (Some fault) m rest back (n, refuses) is moves =
    prefix_free m fault (encode_message m) (take n rest) back (drop n rest) moves refuses (sym is ∙ sym (take-append-drop n rest))

-- and it stops there for one cause
one_stop : (stop end : Option Malformed) (rest : List ℕ) → Stops stop rest → Stops end rest → stop ≡ end
one_stop None None rest p q = refl
one_stop None (Some g) rest none (n, refuses) = absurd (none.no_refusal n g refuses)
one_stop (Some f) None rest (n, refuses) none = absurd (none.no_refusal n f refuses)
one_stop (Some f) (Some g) rest (n, first) (k, second) =
    ap Some (same_refusal f g (take n rest) (take k rest) (drop n rest) (drop k rest) first second (take-append-drop n rest ∙ sym (take-append-drop k rest))).0

pub one_reading : (sent others : List Message) (stream rest left : List ℕ) (stop end : Option Malformed) → Carries sent stream rest → Stops stop rest → Carries others stream left → Stops end left
    → (sent ≡ others) × (rest ≡ left) × (stop ≡ end)
one_reading [] [] stream rest left stop end p first q second =
    let same : rest ≡ left = sym p.joined ∙ q.joined in
    (refl, same, one_stop stop end left (subst (λ (t : List ℕ). Stops stop t) same first) second)
one_reading [] (n ∷ others) stream rest left stop end p first q second =
    absurd (no_first stop n rest (bytes_of others ++ left) first (sym p.joined ∙ q.joined ∙ append_assoc (encode_message n) (bytes_of others) left) (All-head IsSpelled n others q.each))
one_reading (m ∷ sent) [] stream rest left stop end p first q second =
    absurd (no_first end m left (bytes_of sent ++ rest) second (sym q.joined ∙ p.joined ∙ append_assoc (encode_message m) (bytes_of sent) rest) (All-head IsSpelled m sent p.each))
one_reading (m ∷ sent) (n ∷ others) stream rest left stop end p first q second =
    let both : encode_message m ++ (bytes_of sent ++ rest) ≡ encode_message n ++ (bytes_of others ++ left) =
    sym (append_assoc (encode_message m) (bytes_of sent) rest) ∙ sym p.joined ∙ q.joined ∙ append_assoc (encode_message n) (bytes_of others) left in
    let same = same_message m n (encode_message m) (encode_message n) (bytes_of sent ++ rest) (bytes_of others ++ left) (All-head IsSpelled m sent p.each) (All-head IsSpelled n others q.each) both in
    let behind : bytes_of sent ++ rest ≡ bytes_of others ++ left = append_cancel_left (encode_message m) _ _ (both ∙ ap (λ (s : List ℕ). s ++ (bytes_of others ++ left)) (sym same.1)) in
    let tail = one_reading sent others (bytes_of sent ++ rest) rest left stop end (record { each = All-tail IsSpelled m sent p.each; joined = refl }) first (record { each = All-tail IsSpelled n others q.each; joined = behind }) second in
    (ap (λ (x : Message). x ∷ sent) same.0 ∙ ap (λ (ms : List Message). n ∷ ms) tail.0, tail.1, tail.2)
