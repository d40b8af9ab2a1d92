-- Blobs over a quiet link, none of whose calls fails.
use Rattle.std.proofs.Common.{◌≡◌, ℕ, zero, suc, ◌+◌, ◌-◌, ◌^◌, ◌<◌, ◌≤◌, Bool, true, false, ◌&&◌, List, [], ◌∷◌, ◌++◌, length, take, drop, Option, Some, None, Result, Ok, Err, refl, sym, ap, subst, ◌∙◌, arith, inl, inr}
use Rattle.std.specs.Prelude.{nat_lt, min, ◌==◌, ◌≢◌, if◌then◌else◌, IfSome}
use Rattle.std.proofs.lemmas.Bool.Decides.{nat_tests}
use Rattle.std.proofs.lemmas.List.{length-drop, length-take, take_all, take-append-drop}
use Rattle.vt_base.specs.Layout.{Layout, Ends, Field, Encodes, IsWithin}
use Rattle.vt_base.specs.declared.types.Kind.{Kind}
use Rattle.vt_base.specs.declared.types.Kind.TheVariants.{Permanent, Volatile, Saved}
use Rattle.vt_base.specs.declared.types.Malformed.{Malformed}
use Rattle.tpm_core.specs.declared.parts.TpmParts.{TpmParts}
use Rattle.vt_base.specs.Numbers.{number}
use Rattle.state_blobs.specs.Numbers.{largest_blob, version_of}
use Rattle.state_blobs.specs.Encodings.{letter_of, body_of, encode_blob, slice}
use Rattle.state_blobs.specs.Blobs.{blob}
use Rattle.state_blobs.specs.Room.{blob_within}
use Rattle.state_blobs.specs.Refusals.{IsRefused}
use Rattle.state_blobs.specs.Assembly.{IsAssembled, IsFault}
use Rattle.state_blobs.specs.declared.types.Piece.{Piece}
use Rattle.state_blobs.specs.declared.types.BlobFault.{BlobFault}
use Rattle.ctrl_codec.specs.declared.request.Request.TheVariants.{Init, SetStateBlob}
use Rattle.ctrl_client.specs.declared.fault.ClientFault.{ClientFault}
use Rattle.ctrl_model.specs.Emulator.{RequestOutcome, type_of, kind_of, gather_of, with_gather, switched_on, started_with, BlobTaken, TakesPiece, Assembled, resulted}
use Rattle.ctrl_model.specs.Link.{Link}
use Rattle.ctrl_client.specs.Exchange.{IsQuiet, Commands, CommandedBy}
use Rattle.ctrl_client.specs.Pieces.{is_misfit, checked_fields, fields_at, piece_given, bytes_given, Fetches}
use Rattle.ctrl_client.specs.Pieces.{BlobFields, calls_for, HasField}
use Rattle.ctrl_client.specs.Schedules.{fails_within, schedule_after}
use Rattle.ctrl_client.specs.declared.fault.ClientFault.TheVariants.{Link as LinkFault}
use Rattle.ctrl_model.specs.declared.profile.TheConstants.{SUCCESS}
use Rattle.ctrl_client.specs.Exchange.{checked_result, result_of}
use Rattle.ctrl_model.specs.Emulator.{is_nil, is_nothing, StartsBy}
use Rattle.vt_seat.specs.Wires.{WiresState, fresh_wires, fails_next, after_call}
use Rattle.vt_seat.proofs.Steps.{the_same}
use Rattle.vt_seat.specs.Blobs.{IsReadable, HasRest, IsAwaiting, given_blob}

-- what encodes a message of a layout is no longer than the layout's messages are
spells-within : {E : Type 0} (layout : Layout E) (end : E) (room : ℕ) (bytes : List ℕ) → Encodes layout end bytes → IsWithin layout room → length bytes ≤ room
spells-within (Ends e) end room bytes spells within = rw spells.1 (omega arith)
spells-within (Field n next) end room bytes spells within =
    let rest : length (drop n bytes) ≤ room - n = spells-within (next (take n bytes)) end (room - n) (drop n bytes) spells.1 (within.1 (take n bytes)) in
    omega (arith, rest, length-drop n bytes, within.0, spells.0)

-- a blob has at most as many bytes as the longest
pub blob-length : (kind : Kind) (bytes : List ℕ) → Encodes (blob kind) (Ok tt) bytes → length bytes ≤ largest_blob
blob-length kind bytes spells = spells-within (blob kind) (Ok tt) largest_blob bytes spells (blob_within kind)

-- ---- a piece is asked for

-- the length of a piece that has room stands: it has a byte where one is left
none_misfit : (most left room : ℕ) → left ≤ room → 1 ≤ most → is_misfit (min most left) left room ≡ false
none_misfit most zero room fits some =
    let none : min most 0 ≡ 0 = omega arith in
    let held : nat_lt room 0 ≡ false = grind (arith, nat_tests) in
    rw (none, held) refl
none_misfit most (suc left) room fits some =
    let far : nat_lt (suc left) (min most (suc left)) ≡ false = grind (arith, nat_tests) in
    let held : nat_lt room (min most (suc left)) ≡ false = grind (arith, nat_tests) in
    let there : (min most (suc left) == 0) ≡ false = grind (arith, nat_tests) in
    rw (far, held, there) refl

-- so its fields stand
given-is : (text : List ℕ) (from most room : ℕ) → from ≤ length text → length text - from ≤ room → 1 ≤ most
    → checked_fields (fields_at text from most) from room ≡ Ok (record { total = length text; length = min most (length text - from) })
given-is text from most room within fits some =
    let far : nat_lt (length text) from ≡ false = grind (arith, nat_tests) in
    let fields : fields_at text from most ≡ record { result = SUCCESS; flags = 0; total = length text; size = min most (length text - from) } = rw far refl in
    ap (λ (f : BlobFields). checked_fields f from room) fields ∙ rw (far, none_misfit most (length text - from) room fits some) refl

-- what came of it
pub record Fetched (kind : Kind) (t : TpmParts) (from : ℕ) (w : WiresState) (answer : Result Piece ClientFault) (old new : List ℕ) (m : Link) (calls_to_fault : Option ℕ) : Type 0 where
  pub got : Piece
  pub answer_is : answer ≡ Ok got
  pub total : got.total ≡ length (encode_blob kind t)
  pub size : got.length ≡ min w.link.emulator.piece (length (encode_blob kind t) - from)
  pub bytes : new ≡ slice (encode_blob kind t) from got.length ++ drop (length (slice (encode_blob kind t) from got.length)) old
  pub link : m ≡ w.link
  pub none : calls_to_fault ≡ None

never : (calls : ℕ) → fails_within fails_next after_call calls None ≡ false
never zero = refl
never (suc calls) = never calls

none_after : (calls : ℕ) → schedule_after fails_next after_call calls None ≡ None
none_after zero = refl
none_after (suc calls) = none_after calls

has_field : (kind : Kind) (t : TpmParts) (w : WiresState) → IsReadable w t → length (encode_blob kind t) ≤ largest_blob → HasField kind w.link
has_field kind t w ready within_limit = record { quiet = ready.quiet; total = subst (λ (o : Option TpmParts). IfSome o (λ v. length (encode_blob kind v) < 2 ^ 32)) (sym ready.tpm) (omega (arith, within_limit)) }

pub fetched : (kind : Kind) (t : TpmParts) (from : ℕ) (w : WiresState) (answer : Result Piece ClientFault) (old new : List ℕ) (m : Link) (calls_to_fault : Option ℕ)
    → Encodes (blob kind) (Ok tt) (encode_blob kind t) → IsReadable w t → HasRest kind t from (length old)
    → (HasField kind w.link → Fetches fails_next after_call kind from (length old) w.link w.calls_to_fault answer old new (Some m) calls_to_fault) → Fetched kind t from w answer old new m calls_to_fault
fetched kind t from w answer old new m calls_to_fault spells ready rest is_said =
    let exact = is_said (has_field kind t w ready (blob-length kind (encode_blob kind t) spells)) in
    let given : piece_given kind from (length old) w.link.emulator ≡ Ok (record { total = length (encode_blob kind t); length = min w.link.emulator.piece (length (encode_blob kind t) - from) }) =
    rw ready.tpm (given-is (encode_blob kind t) from w.link.emulator.piece (length old) rest.within rest.fits ready.some) in
    let unmet : fails_within fails_next after_call (calls_for (piece_given kind from (length old) w.link.emulator)) w.calls_to_fault ≡ false = rw ready.unordered (never (calls_for (piece_given kind from (length old) w.link.emulator))) in
    let bytes : bytes_given kind from (length old) w.link.emulator ≡ slice (encode_blob kind t) from (min w.link.emulator.piece (length (encode_blob kind t) - from)) = rw (given, ready.tpm) refl in
    record {
      got = record { total = length (encode_blob kind t); length = min w.link.emulator.piece (length (encode_blob kind t) - from) };
      answer_is = exact.answer_is ∙ ap (λ (fails : Bool). if fails then Err LinkFault else piece_given kind from (length old) w.link.emulator) unmet ∙ given;
      total = refl;
      size = refl;
      bytes = exact.bytes unmet ∙ ap (λ (got : List ℕ). got ++ drop (length got) old) bytes;
      link = the_same m w.link exact.link;
      none = exact.schedule_is ∙ ap (schedule_after fails_next after_call (calls_for (piece_given kind from (length old) w.link.emulator))) ready.unordered ∙ none_after (calls_for (piece_given kind from (length old) w.link.emulator));
    }

piece_or : Piece → Result Piece ClientFault → Piece
piece_or other (Ok p) = p
piece_or other (Err fault) = other

-- the piece that an answer has is the one that came
same_piece : (answer : Result Piece ClientFault) (p q : Piece) → answer ≡ Ok p → answer ≡ Ok q → p ≡ q
unfolding piece_or
same_piece answer p q first second = ap (piece_or p) (sym first ∙ second)

-- there is room for all of it
pub whole_rest : (kind : Kind) (t : TpmParts) → Encodes (blob kind) (Ok tt) (encode_blob kind t) → HasRest kind t 0 largest_blob
whole_rest kind t spells = let within_limit = blob-length kind (encode_blob kind t) spells in record { within = omega arith; fits = omega (arith, within_limit) }

-- ---- pieces are joined

take-prefix : {A : Type 0} (xs ys : List A) (n : ℕ) → n ≡ length xs → take n (xs ++ ys) ≡ xs
take-prefix [] ys n is = rw is refl
take-prefix (x ∷ xs) ys n is = rw is (ap (λ rest. x ∷ rest) (take-prefix xs ys (length xs) refl))

take-more : {A : Type 0} (xs ys : List A) (a b : ℕ) → length xs ≡ a → take (a + b) (xs ++ ys) ≡ xs ++ take b ys
take-more [] ys a b is = let none : a + b ≡ b = omega (arith, is) in rw none refl
take-more (x ∷ xs) ys zero b is = absurd (omega arith)
take-more (x ∷ xs) ys (suc a) b is =
    let more : suc a + b ≡ suc (a + b) = omega arith in
    rw more (ap (λ rest. x ∷ rest) (take-more xs ys a b (omega arith)))

nothing : List ℕ
nothing = []

drop-nothing : (n : ℕ) → drop n nothing ≡ []
unfolding nothing
drop-nothing zero = refl
drop-nothing (suc n) = refl

drop-sum : (xs : List ℕ) (a b : ℕ) → drop (a + b) xs ≡ drop b (drop a xs)
unfolding nothing
drop-sum xs zero b = let none : 0 + b ≡ b = omega arith in rw none refl
drop-sum [] (suc a) b = drop-nothing (suc a + b) ∙ sym (drop-nothing b)
drop-sum (x ∷ xs) (suc a) b = let more : suc a + b ≡ suc (a + b) = omega arith in rw more (drop-sum xs a b)

-- so many bytes from a place on, where as many are left
length-slice : (text : List ℕ) (from n : ℕ) → n ≤ length text - from → length (slice text from n) ≡ n
length-slice text from n fits = length-take n (drop from text) ∙ (let left = length-drop from text in omega (arith, left, fits))

-- the last piece
pub last_piece : (kind : Kind) (t : TpmParts) (from : ℕ) (w : WiresState) (answer : Result Piece ClientFault) (old new : List ℕ) (m : Link) (calls_to_fault : Option ℕ) (p : Piece) (f : Fetched kind t from w answer old new m calls_to_fault)
    → answer ≡ Ok p → p.length ≡ p.total - from → take p.length new ≡ drop from (encode_blob kind t)
last_piece kind t from w answer old new m calls_to_fault p f is whole =
    let same : p ≡ f.got = same_piece answer p f.got is f.answer_is in
    let size : p.length ≡ length (encode_blob kind t) - from = whole ∙ ap (λ (q : Piece). q.total - from) same ∙ ap (λ (n : ℕ). n - from) f.total in
    let got : f.got.length ≡ p.length = ap (λ (q : Piece). q.length) (sym same) in
    let left = length-drop from (encode_blob kind t) in
    let all : slice (encode_blob kind t) from f.got.length ≡ drop from (encode_blob kind t) = take_all f.got.length (drop from (encode_blob kind t)) (omega (arith, left, size, got)) in
    ap (take p.length) f.bytes ∙ take-prefix (slice (encode_blob kind t) from f.got.length) (drop (length (slice (encode_blob kind t) from f.got.length)) old) p.length
    (sym got ∙ sym (length-slice (encode_blob kind t) from f.got.length (omega (arith, size, got)))) ∙ all

-- a piece that isn't the last has bytes, and the rest of the blob is behind it
pub record GoesOn (kind : Kind) (t : TpmParts) (from room : ℕ) (p : Piece) : Type 0 where
  pub some : 0 < p.length
  pub fits : p.length ≤ room
  pub rest : HasRest kind t (from + p.length) (room - p.length)

pub goes_on : (kind : Kind) (t : TpmParts) (from : ℕ) (w : WiresState) (answer : Result Piece ClientFault) (old new : List ℕ) (m : Link) (calls_to_fault : Option ℕ) (p : Piece) (f : Fetched kind t from w answer old new m calls_to_fault)
    → IsReadable w t → HasRest kind t from (length old) → answer ≡ Ok p → p.length ≢ p.total - from → GoesOn kind t from (length old) p
goes_on kind t from w answer old new m calls_to_fault p f ready rest is more =
    let same : p ≡ f.got = same_piece answer p f.got is f.answer_is in
    let total : p.total ≡ length (encode_blob kind t) = ap (λ (q : Piece). q.total) same ∙ f.total in
    let size : p.length ≡ min w.link.emulator.piece (length (encode_blob kind t) - from) = ap (λ (q : Piece). q.length) same ∙ f.size in
    let differs : (p.length ≡ length (encode_blob kind t) - from) → ⊥ = λ all. more (all ∙ ap (λ (n : ℕ). n - from) (sym total)) in
    record {
      some = omega (arith, size, differs, rest.within, ready.some);
      fits = omega (arith, size, rest.fits);
      rest = record { within = omega (arith, size, rest.within); fits = omega (arith, size, rest.within, rest.fits) };
    }

-- the link is as it was
pub readable_on : (w u : WiresState) (t : TpmParts) → u.link ≡ w.link → u.calls_to_fault ≡ None → IsReadable w t → IsReadable u t
readable_on w u t same none ready = record {
  quiet = subst IsQuiet (sym same) ready.quiet;
  unordered = none;
  tpm = ap (λ (l : Link). l.emulator.tpm) same ∙ ready.tpm;
  fit = ready.fit;
  some = subst (λ (l : Link). 1 ≤ l.emulator.piece) (sym same) ready.some;
}

-- a piece and what follows it
pub joined_pieces : (kind : Kind) (t : TpmParts) (from : ℕ) (w : WiresState) (answer : Result Piece ClientFault) (old new prefix back : List ℕ) (m : Link) (calls_to_fault : Option ℕ) (p : Piece) (count : ℕ) (f : Fetched kind t from w answer old new m calls_to_fault)
    → answer ≡ Ok p → from + p.length ≤ length (encode_blob kind t) → prefix ≡ take p.length new → take count back ≡ drop (from + p.length) (encode_blob kind t)
    → take (p.length + count) (prefix ++ back) ≡ drop from (encode_blob kind t)
joined_pieces kind t from w answer old new prefix back m calls_to_fault p count f is within first next =
    let same : p ≡ f.got = same_piece answer p f.got is f.answer_is in
    let got : f.got.length ≡ p.length = ap (λ (q : Piece). q.length) (sym same) in
    let size : length (slice (encode_blob kind t) from p.length) ≡ p.length = length-slice (encode_blob kind t) from p.length (omega (arith, within)) in
    let cut : take p.length new ≡ slice (encode_blob kind t) from p.length =
    ap (take p.length) (f.bytes ∙ ap (λ (n : ℕ). slice (encode_blob kind t) from n ++ drop (length (slice (encode_blob kind t) from n)) old) got)
    ∙ take-prefix (slice (encode_blob kind t) from p.length) (drop (length (slice (encode_blob kind t) from p.length)) old) p.length (sym size) in
    let prefix_is : prefix ≡ slice (encode_blob kind t) from p.length = first ∙ cut in
    take-more prefix back p.length count (ap length prefix_is ∙ size) ∙ ap (λ (xs : List ℕ). xs ++ take count back) prefix_is ∙ ap (λ (ys : List ℕ). slice (encode_blob kind t) from p.length ++ ys) (next ∙ drop-sum (encode_blob kind t) from p.length)
    ∙ take-append-drop p.length (drop from (encode_blob kind t))

-- ---- a blob is given

-- all of it at once, where there is room
pub whole_piece : (kind : Kind) (t : TpmParts) (old new : List ℕ) (count : ℕ) → length (encode_blob kind t) ≤ largest_blob → length old ≡ largest_blob
    → count ≡ min (length old) (length (encode_blob kind t) - 0) → new ≡ slice (encode_blob kind t) 0 count ++ drop count old → take count new ≡ encode_blob kind t
whole_piece kind t old new count within_limit room size is =
    let all : count ≡ length (encode_blob kind t) = omega (arith, within_limit, room, size) in
    let cut : slice (encode_blob kind t) 0 count ≡ encode_blob kind t = take_all count (encode_blob kind t) (omega (arith, all)) in
    ap (take count) (is ∙ ap (λ (xs : List ℕ). xs ++ drop count old) cut) ∙ take-prefix (encode_blob kind t) (drop count old) count all

-- the blob was taken
pub record Given (kind : Kind) (t : TpmParts) (l m : Link) (answer : Result (Unit {0}) ClientFault) (calls_to_fault : Option ℕ) : Type 0 where
  pub answer_is : answer ≡ Ok tt
  pub link : m ≡ given_blob kind t l
  pub none : calls_to_fault ≡ None

own_type : (kind : Kind) → kind_of (type_of kind) ≡ Some kind
own_type Permanent = refl
own_type Volatile = refl
own_type Saved = refl

some-by : (xs all : List ℕ) (x : ℕ) → all ≡ x ∷ xs → 0 < length all
some-by xs all x is = rw is (omega arith)

-- the text of a blob isn't empty
pub text-some : (kind : Kind) (t : TpmParts) → 0 < length (encode_blob kind t)
unfolding encode_blob
text-some kind t = some-by (82 ∷ 66 ∷ letter_of kind ∷ version_of t.banks ∷ (number (length (body_of kind t)) ++ body_of kind t)) (encode_blob kind t) 67 refl

pub put-given : (kind : Kind) (t : TpmParts) (bytes : List ℕ) (w : WiresState) (m : Link) (calls_to_fault : Option ℕ) (answer : Result (Unit {0}) ClientFault)
    → bytes ≡ encode_blob kind t → ((fault : Malformed) → IsRefused kind fault (encode_blob kind t) → ⊥) → IsAwaiting kind w
    → Commands fails_next after_call (SetStateBlob 0 (type_of kind) (length bytes)) bytes w.link w.calls_to_fault answer (Some m) calls_to_fault → Given kind t w.link m answer calls_to_fault
put-given kind t [] w m calls_to_fault answer is fine awaits exact = absurd (go (text-some kind t) (ap length is))
  where
    go : 0 < length (encode_blob kind t) → 0 ≡ length (encode_blob kind t) → ⊥
    go some none = omega (arith, some, none)
put-given kind t (b ∷ bytes) w m calls_to_fault answer is fine awaits exact = by_link (rw awaits.unordered at exact.link)
  where
    by_piece : (request_outcome : RequestOutcome) → TakesPiece (Some kind) (b ∷ bytes) w.link.emulator request_outcome → Some m ≡ Some (record w.link { emulator = request_outcome.emulator }) → answer ≡ (if false then Err LinkFault else checked_result (result_of request_outcome.reply)) → Given kind t w.link m answer calls_to_fault
    by_piece request_outcome (inl (not_refused, done)) after answers =
        let all : gather_of kind w.link.emulator.gathers ++ b ∷ bytes ≡ encode_blob kind t = ap (λ (g : List ℕ). g ++ b ∷ bytes) awaits.none ∙ is in
        let now : request_outcome ≡ resulted SUCCESS (record w.link.emulator { gathers = with_gather kind (encode_blob kind t) w.link.emulator.gathers }) = done ∙ ap (λ (g : List ℕ). resulted SUCCESS (record w.link.emulator { gathers = with_gather kind g w.link.emulator.gathers })) all in
        record {
          answer_is = answers ∙ ap (λ (x : RequestOutcome). checked_result (result_of x.reply)) now;
          link = the_same m _ after ∙ ap (λ (x : RequestOutcome). record w.link { emulator = x.emulator }) now;
          none = exact.schedule_is ∙ rw awaits.unordered refl;
        }
    by_piece request_outcome (inr (fault, refused, done)) after answers =
        absurd (fine fault (subst (IsRefused kind fault) (ap (λ (g : List ℕ). g ++ b ∷ bytes) awaits.none ∙ is) refused))

    by_link : CommandedBy false false (SetStateBlob 0 (type_of kind) (length (b ∷ bytes))) (b ∷ bytes) w.link answer (Some m) → Given kind t w.link m answer calls_to_fault
    by_link (request_outcome, obeys, after, answers) =
        let off : BlobTaken false true (type_of kind) (b ∷ bytes) w.link.emulator request_outcome = subst (λ (on : Bool). BlobTaken on true (type_of kind) (b ∷ bytes) w.link.emulator request_outcome) awaits.off obeys in
        by_piece request_outcome (subst (λ (k : Option Kind). TakesPiece k (b ∷ bytes) w.link.emulator request_outcome) (own_type kind) off) after answers

-- ---- the TPM is switched on

pub record Switched (t : TpmParts) (l m : Link) (answer : Result (Unit {0}) ClientFault) (calls_to_fault : Option ℕ) : Type 0 where
  pub answer_is : answer ≡ Ok tt
  pub link : m ≡ record l { emulator = switched_on t l.emulator }
  pub none : calls_to_fault ≡ None

-- what three blobs make
pub record MakesOne (t : TpmParts) : Type 0 where
  pub once : (a : TpmParts) → IsAssembled (encode_blob Permanent t) (encode_blob Volatile t) (encode_blob Saved t) a → a ≡ t
  pub no_fault : (fault : BlobFault) → IsFault (encode_blob Permanent t) (encode_blob Volatile t) (encode_blob Saved t) fault → ⊥

some-nil : (xs : List ℕ) → 0 < length xs → is_nil xs ≡ false
some-nil [] some = absurd (omega arith)
some-nil (x ∷ xs) some = refl

some-started : (xs : List ℕ) (t : TpmParts) → 0 < length xs → started_with xs t ≡ t
some-started [] t some = absurd (omega arith)
some-started (x ∷ xs) t some = refl

pub init-switches : (t : TpmParts) (l : Link) (m : Link) (calls_to_fault : Option ℕ) (answer : Result (Unit {0}) ClientFault) → MakesOne t
    → Commands fails_next after_call (Init 0) [] (given_blob Saved t (given_blob Volatile t (given_blob Permanent t l))) None answer (Some m) calls_to_fault → Switched t l m answer calls_to_fault
init-switches t l m calls_to_fault answer one exact = by_link exact.link
  where
    given : Link
    given = given_blob Saved t (given_blob Volatile t (given_blob Permanent t l))

    by_tpm : (request_outcome : RequestOutcome) → Assembled (encode_blob Volatile t) given.emulator request_outcome → Some m ≡ Some (record given { emulator = request_outcome.emulator }) → answer ≡ checked_result (result_of request_outcome.reply) → Switched t l m answer calls_to_fault
    by_tpm request_outcome (inl (a, assembled, done)) after answers =
        let same : started_with (encode_blob Volatile t) a ≡ t = some-started (encode_blob Volatile t) a (text-some Volatile t) ∙ one.once a assembled in
        let now : request_outcome ≡ resulted SUCCESS (switched_on t given.emulator) = done ∙ ap (λ (v : TpmParts). resulted SUCCESS (switched_on v given.emulator)) same in
        record {
          answer_is = answers ∙ ap (λ (x : RequestOutcome). checked_result (result_of x.reply)) now;
          link = the_same m _ after ∙ ap (λ (x : RequestOutcome). record given { emulator = x.emulator }) now;
          none = exact.schedule_is;
        }
    by_tpm request_outcome (inr (fault, is, done)) after answers = absurd (one.no_fault fault is)

    by_link : CommandedBy false false (Init 0) [] given answer (Some m) → Switched t l m answer calls_to_fault
    by_link (request_outcome, obeys, after, answers) =
        let some : is_nothing given.emulator.gathers ≡ false = ap (λ (none : Bool). none && is_nil (encode_blob Volatile t) && is_nil (encode_blob Saved t)) (some-nil (encode_blob Permanent t) (text-some Permanent t)) in
        by_tpm request_outcome (subst (λ (nothing : Bool). StartsBy nothing 0 given.emulator request_outcome) some obeys) after answers

-- an emulator that was given its blobs goes on listening
given_quiet : (t : TpmParts) (piece : ℕ) → IsQuiet (given_blob Saved t (given_blob Volatile t (given_blob Permanent t (fresh_wires None piece).link)))
given_quiet t piece = record { nothing = refl; listens = refl }

-- all of it: three blobs were given to a new emulator, and then it was switched on
pub switches : (t : TpmParts) (piece : ℕ) (w : WiresState) (l m : Link) (calls_to_fault calls_to_fault' : Option ℕ) (answer : Result (Unit {0}) ClientFault) → MakesOne t → w ≡ fresh_wires None piece
    → l ≡ given_blob Saved t (given_blob Volatile t (given_blob Permanent t w.link)) → calls_to_fault ≡ None
    → (IsQuiet l → Commands fails_next after_call (Init 0) [] l calls_to_fault answer (Some m) calls_to_fault') → Switched t w.link m answer calls_to_fault'
switches t piece w l m calls_to_fault calls_to_fault' answer one fresh is none is_said =
    let from : l ≡ given_blob Saved t (given_blob Volatile t (given_blob Permanent t (fresh_wires None piece).link)) =
    is ∙ ap (λ (x : WiresState). given_blob Saved t (given_blob Volatile t (given_blob Permanent t x.link))) fresh in
    let exact = is_said (subst IsQuiet (sym from) (given_quiet t piece)) in
    let unordered = subst (λ (d : Option ℕ). Commands fails_next after_call (Init 0) [] l d answer (Some m) calls_to_fault') none exact in
    init-switches t w.link m calls_to_fault' answer one (subst (λ (x : Link). Commands fails_next after_call (Init 0) [] x None answer (Some m) calls_to_fault') is unordered)
