-- What a reader that stands on the layout answers is what the rows say, and each message has one encoding.
use Rattle.std.proofs.Common.{◌≡◌, ℕ, List, ◌++◌, take, drop, Result, Ok, Err, refl, sym, ap, subst, ◌∙◌}
use Rattle.std.specs.Prelude.{IfOk}
use Rattle.vt_base.specs.declared.types.Malformed.{Malformed}
use Rattle.vt_base.specs.Layout.{IsOpen}
use Rattle.vt_base.proofs.Layouts.{one_encoding}
use Rattle.move_codec.specs.declared.message.Message.{Message}
use Rattle.move_codec.specs.declared.message.Body.{Body}
use Rattle.move_codec.specs.declared.message.Body.TheVariants.{Offer, Need, Piece, Prepared, Commit, Abort, Refuse}
use Rattle.move_codec.specs.declared.outline.Outline.{Outline}
use Rattle.move_codec.specs.declared.reader.FedMessage.{FedMessage}
use Rattle.move_codec.specs.declared.reader.FedMessage.TheVariants.{More, Whole, Bad, Failed}
use Rattle.move_codec.specs.Encoding.{Moves, fields_of}
use Rattle.move_codec.specs.Refusals.{Refuses, IsUndecided}
use Rattle.move_codec.specs.Messages.{Ending, outline, messages}
use Rattle.move_codec.specs.Outlines.{body_of, message_of}
use Rattle.move_codec.specs.Answers.{IfWhole, IfBad, OnMore}
use Rattle.move_codec.specs.Ends.{EndsMessage, Fills}
use Rattle.move_codec.proofs.Says.{says}
use Rattle.move_codec.proofs.Back.{shape_of, moves_back, refuses_back}

-- ---- answers

filled_says : (m : Message) (bytes : List ℕ) → Fills m bytes → Moves m bytes
filled_says m bytes fills = subst (λ (x : Message). Moves x bytes) (sym fills.filled) (says (Ok fills.outline) bytes fills.exact.fits fills.exact.spelled)

whole_says : (answer : FedMessage) (bytes : List ℕ) → IfWhole answer (λ m. Fills m bytes) → IfWhole answer (λ m. Moves m bytes)
whole_says (Whole m) bytes fills = filled_says m bytes fills
whole_says More bytes fills = tt
whole_says (Bad fault) bytes fills = tt
whole_says Failed bytes fills = tt

bad_says : (answer : FedMessage) (bytes : List ℕ) → IfBad answer (λ fault. EndsMessage (Err fault) bytes) → IfBad answer (λ fault. Refuses fault bytes)
bad_says (Bad fault) bytes exact = says (Err fault) bytes exact.fits exact.spelled
bad_says More bytes exact = tt
bad_says (Whole m) bytes exact = tt
bad_says Failed bytes exact = tt

undecided : (bytes : List ℕ) → IsOpen messages bytes → IsUndecided bytes
undecided bytes none = record {
  no_message = λ n m moves. none (Ok (outline m.to m.epoch (shape_of m.body))) n (moves_back m (take n bytes) moves);
  no_refusal = λ n fault refuses. none (Err fault) n (refuses_back fault (take n bytes) refuses);
}

more_says : (answer : FedMessage) (all : Type 0) (bytes : List ℕ) → OnMore answer (all × IsOpen messages bytes) → OnMore answer (all × IsUndecided bytes)
more_says More all bytes (taken, none) = (taken, undecided bytes none)
more_says (Whole m) all bytes exact = tt
more_says (Bad fault) all bytes exact = tt
more_says Failed all bytes exact = tt

-- ---- the same of what `feed` returns

pub fed_whole : {E : Type 0} (result : Result (ℕ × FedMessage) E) (text : ℕ → List ℕ) → IfOk result (λ fed. IfWhole fed.1 (λ m. Fills m (text fed.0))) → IfOk result (λ fed. IfWhole fed.1 (λ m. Moves m (text fed.0)))
fed_whole (Ok fed) text exact = whole_says fed.1 (text fed.0) exact
fed_whole (Err e) text exact = tt

pub fed_bad : {E : Type 0} (result : Result (ℕ × FedMessage) E) (text : ℕ → List ℕ) → IfOk result (λ fed. IfBad fed.1 (λ fault. EndsMessage (Err fault) (text fed.0))) → IfOk result (λ fed. IfBad fed.1 (λ fault. Refuses fault (text fed.0)))
fed_bad (Ok fed) text exact = bad_says fed.1 (text fed.0) exact
fed_bad (Err e) text exact = tt

pub fed_more : {E : Type 0} (result : Result (ℕ × FedMessage) E) (all : ℕ → Type 0) (bytes : List ℕ) → IfOk result (λ fed. OnMore fed.1 (all fed.0 × IsOpen messages bytes)) → IfOk result (λ fed. OnMore fed.1 (all fed.0 × IsUndecided bytes))
fed_more (Ok fed) all bytes exact = more_says fed.1 (all fed.0) bytes exact
fed_more (Err e) all bytes exact = tt

-- ---- no encoding begins another

abbrev ended : Outline → Ending
ended o = Ok o

body_again : (b : Body) → body_of (shape_of b) (drop 7 (fields_of b)) ≡ b
body_again (Offer totals) = refl
body_again (Need part offset) = refl
body_again (Piece part offset bytes) = refl
body_again Prepared = refl
body_again Commit = refl
body_again Abort = refl
body_again (Refuse reason value) = refl

-- a message is what its outline and its bytes make
message_again : (m : Message) (bytes : List ℕ) → Moves m bytes → message_of (outline m.to m.epoch (shape_of m.body)) (drop 26 bytes) ≡ m
message_again m bytes moves =
    let same : body_of (shape_of m.body) (drop 26 bytes) ≡ m.body = ap (λ (t : List ℕ). body_of (shape_of m.body) (drop 26 t)) moves.spelled ∙ body_again m.body in
    ap (λ (b : Body). record { to = m.to; epoch = m.epoch; body = b }) same

same_made : (o p : Outline) (m n : Message) (a b : List ℕ) → ended o ≡ ended p → a ≡ b → message_of o (drop 26 a) ≡ m → message_of p (drop 26 b) ≡ n → m ≡ n
same_made o p m n a b ends bytes made_m made_n =
    let outlines : o ≡ p = cc in
    sym made_m ∙ ap (λ (x : Outline). message_of x (drop 26 a)) outlines ∙ ap (λ (t : List ℕ). message_of p (drop 26 t)) bytes ∙ made_n

pub same_message : (m n : Message) (a b x y : List ℕ) → Moves m a → Moves n b → a ++ x ≡ b ++ y → (m ≡ n) × (a ≡ b)
same_message m n a b x y first second same =
    let o = outline m.to m.epoch (shape_of m.body) in
    let p = outline n.to n.epoch (shape_of n.body) in
    let one = one_encoding messages (ended o) (ended p) a b x y (moves_back m a first) (moves_back n b second) same in
    (same_made o p m n a b one.0 one.1 (message_again m a first) (message_again n b second), one.1)

abbrev failed : Malformed → Ending
failed fault = Err fault

pub same_refusal : (f g : Malformed) (a b x y : List ℕ) → Refuses f a → Refuses g b → a ++ x ≡ b ++ y → (f ≡ g) × (a ≡ b)
same_refusal f g a b x y first second same =
    let one = one_encoding messages (failed f) (failed g) a b x y (refuses_back f a first) (refuses_back g b second) same in
    let faults : failed f ≡ failed g = one.0 in
    (cc, one.1)

pub prefix_free : (m : Message) (f : Malformed) (a b x y : List ℕ) → Moves m a → Refuses f b → a ++ x ≡ b ++ y → ⊥
prefix_free m f a b x y first second same =
    let o = outline m.to m.epoch (shape_of m.body) in
    let one = one_encoding messages (ended o) (failed f) a b x y (moves_back m a first) (refuses_back f b second) same in
    let never : ended o ≡ failed f = one.0 in
    absurd cc
