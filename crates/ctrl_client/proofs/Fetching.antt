-- A piece of a blob, and the size of the buffer, over a link that is quiet.
use Rattle.std.proofs.Common.{◌≡◌, ℕ, zero, suc, ◌-◌, ◌^◌, ◌<◌, ◌≤◌, Bool, true, false, not, ◌||◌, List, [], ◌∷◌, ◌++◌, length, take, drop, Option, Some, None, Result, Ok, Err, refl, sym, ap, subst, ◌∙◌, arith, cond}
use Rattle.std.specs.Prelude.{IfSome, option_map, nat_lt, min, ◌==◌}
use Rattle.std.specs.Int.{w32}
use Rattle.std.proofs.lemmas.Bool.Decides.{nat_tests}
use Rattle.std.proofs.lemmas.Nat.{from_be_bytes-to_be_bytes_4}
use Rattle.std.proofs.lemmas.List.{take_all, drop_all, length-take, length-drop}
use Rattle.vt_base.specs.Numbers.{number, big_endian_at}
use Rattle.vt_base.specs.declared.types.Chan.TheVariants.{Ctrl}
use Rattle.vt_base.specs.declared.types.Kind.{Kind}
use Rattle.tpm_core.specs.declared.parts.TpmParts.{TpmParts}
use Rattle.state_blobs.specs.Encodings.{encode_blob, slice}
use Rattle.state_blobs.specs.declared.types.Piece.{Piece}
use Rattle.ctrl_codec.specs.declared.request.Request.TheVariants.{GetStateBlob}
use Rattle.ctrl_codec.specs.Replies.{encode_reply}
use Rattle.ctrl_client.specs.declared.fault.ClientFault.{ClientFault}
use Rattle.ctrl_client.specs.declared.fault.ClientFault.TheVariants.{Link as LinkFault, Result as BadResult, Reply as BadReply}
use Rattle.ctrl_model.specs.Numbers.{success, bad_ordinal, bad_parameter, flags_place, total_place, length_place}
use Rattle.ctrl_model.specs.Emulator.{EmulatorState, RequestOutcome, HandlesRequest, blob_given, piece_of, no_blob, kind_of}
use Rattle.ctrl_model.specs.Link.{Link, ChannelState, empty_channel, receivable, received, cut}
use Rattle.ctrl_client.specs.Schedules.{fails_within, schedule_after}
use Rattle.ctrl_client.specs.Exchange.{IsQuiet, Exchanges, ExchangedBy}
use Rattle.ctrl_client.specs.Pieces.{BlobFields, checked_fields, leaves_bytes, is_misfit, refused_fields, fields_at, fields_of_tpm, fields_of_reply, bytes_at, encode_blob_if_any, piece_given, bytes_given, calls_for, HasField, Fetches, TakesData}
use Rattle.ctrl_client.proofs.Exchanging.{last_fails, last_schedule, neither, not_true}

-- ---- the fixed fields

abbrev pub four : ℕ → ℕ → ℕ → ℕ → List ℕ → List ℕ
four a b c d rest = number a ++ number b ++ number c ++ number d ++ rest

abbrev pub fields_in : List ℕ → BlobFields
fields_in bytes = record { result = big_endian_at w32 0 bytes; flags = big_endian_at w32 4 bytes; total = big_endian_at w32 8 bytes; size = big_endian_at w32 12 bytes }

-- the four numbers are read as they were written
pub four-read : (a b c d : ℕ) (rest : List ℕ) → a < 2 ^ 32 → b < 2 ^ 32 → c < 2 ^ 32 → d < 2 ^ 32 → fields_in (take 16 (four a b c d rest)) ≡ record { result = a; flags = b; total = c; size = d }
four-read a b c d rest first second third fourth =
    let one : big_endian_at w32 0 (take 16 (four a b c d rest)) ≡ a = from_be_bytes-to_be_bytes_4 a first in
    let two : big_endian_at w32 4 (take 16 (four a b c d rest)) ≡ b = from_be_bytes-to_be_bytes_4 b second in
    let three : big_endian_at w32 8 (take 16 (four a b c d rest)) ≡ c = from_be_bytes-to_be_bytes_4 c third in
    let last : big_endian_at w32 12 (take 16 (four a b c d rest)) ≡ d = from_be_bytes-to_be_bytes_4 d fourth in
    ap (λ (x : ℕ). record { result = x; flags = big_endian_at w32 4 (take 16 (four a b c d rest)); total = big_endian_at w32 8 (take 16 (four a b c d rest)); size = big_endian_at w32 12 (take 16 (four a b c d rest)) }) one
    ∙ ap (λ (x : ℕ). record { result = a; flags = x; total = big_endian_at w32 8 (take 16 (four a b c d rest)); size = big_endian_at w32 12 (take 16 (four a b c d rest)) }) two
    ∙ ap (λ (x : ℕ). record { result = a; flags = b; total = x; size = big_endian_at w32 12 (take 16 (four a b c d rest)) }) three
    ∙ ap (λ (x : ℕ). record { result = a; flags = b; total = c; size = x }) last

-- ---- what an emulator gives

-- the fields that are read of its reply, and what is left
record Decoded (fixed left : List ℕ) (kind : Kind) (offset most : ℕ) (tpm : Option TpmParts) : Type 0 where
  read : fields_in fixed ≡ fields_of_tpm kind offset most tpm
  data_is : left ≡ slice (encode_blob_if_any kind tpm) offset (fields_of_tpm kind offset most tpm).size

emulator-of : (kind : Kind) (offset : ℕ) (tpm : Option TpmParts) (d : EmulatorState) → (blob_given (Some kind) offset tpm d).emulator ≡ d
emulator-of kind offset None d = refl
emulator-of kind offset (Some t) d = go (nat_lt (length (encode_blob kind t)) offset)
  where
    go : (past : Bool) → (cond past (record { emulator = d; reply = (blob_given None offset None d).reply; payload = [] }) (piece_of (encode_blob kind t) offset d)).emulator ≡ d
    go true = refl
    go false = refl

-- of a reply that is this turn's
decoded_of : (request_outcome now : RequestOutcome) (fields : BlobFields) (kind : Kind) (offset most : ℕ) (tpm : Option TpmParts) → request_outcome ≡ now
    → fields_in (take 16 (encode_reply now.reply now.payload)) ≡ fields → fields ≡ fields_of_tpm kind offset most tpm
    → drop 16 (encode_reply now.reply now.payload) ≡ slice (encode_blob_if_any kind tpm) offset fields.size
    → Decoded (take 16 (encode_reply request_outcome.reply request_outcome.payload)) (drop 16 (encode_reply request_outcome.reply request_outcome.payload)) kind offset most tpm
decoded_of request_outcome now fields kind offset most tpm is read same left = record {
  read = ap (λ (x : RequestOutcome). fields_in (take 16 (encode_reply x.reply x.payload))) is ∙ read ∙ same;
  data_is = ap (λ (x : RequestOutcome). drop 16 (encode_reply x.reply x.payload)) is ∙ left ∙ ap (λ (f : BlobFields). slice (encode_blob_if_any kind tpm) offset f.size) same;
}

-- by whether there is a TPM, and whether the place is past its blob
decoded_by : (kind : Kind) (offset : ℕ) (tpm : Option TpmParts) (d : EmulatorState) (request_outcome : RequestOutcome) → IfSome tpm (λ t. length (encode_blob kind t) < 2 ^ 32) → request_outcome ≡ blob_given (Some kind) offset tpm d
    → Decoded (take 16 (encode_reply request_outcome.reply request_outcome.payload)) (drop 16 (encode_reply request_outcome.reply request_outcome.payload)) kind offset d.piece tpm
decoded_by kind offset None d request_outcome small given =
    decoded_of request_outcome (no_blob bad_ordinal d) (refused_fields bad_ordinal) kind offset d.piece None given
    (four-read 10 0 0 0 [] (omega arith) (omega arith) (omega arith) (omega arith)) refl refl
decoded_by kind offset (Some t) d request_outcome small given = go (nat_lt (length (encode_blob kind t)) offset) refl
  where
    go : (past : Bool) → nat_lt (length (encode_blob kind t)) offset ≡ past → Decoded (take 16 (encode_reply request_outcome.reply request_outcome.payload)) (drop 16 (encode_reply request_outcome.reply request_outcome.payload)) kind offset d.piece (Some t)
    go true past =
        let text : List ℕ = encode_blob kind t in
        let now : request_outcome ≡ no_blob bad_parameter d = given ∙ ap (λ (c : Bool). cond c (no_blob bad_parameter d) (piece_of text offset d)) past in
        let is_said : fields_at text offset d.piece ≡ refused_fields bad_parameter = ap (λ (c : Bool). cond c (refused_fields bad_parameter) (record { result = 0; flags = 0; total = length text; size = min d.piece (length text - offset) })) past in
        decoded_of request_outcome (no_blob bad_parameter d) (refused_fields bad_parameter) kind offset d.piece (Some t) now
        (four-read 3 0 0 0 [] (omega arith) (omega arith) (omega arith) (omega arith)) (sym is_said) refl
    go false past =
        let text : List ℕ = encode_blob kind t in
        let size : ℕ = min d.piece (length text - offset) in
        let now : request_outcome ≡ piece_of text offset d = given ∙ ap (λ (c : Bool). cond c (no_blob bad_parameter d) (piece_of text offset d)) past in
        let is_said : fields_at text offset d.piece ≡ record { result = 0; flags = 0; total = length text; size = size } = ap (λ (c : Bool). cond c (refused_fields bad_parameter) (record { result = 0; flags = 0; total = length text; size = size })) past in
        decoded_of request_outcome (piece_of text offset d) (record { result = 0; flags = 0; total = length text; size = size }) kind offset d.piece (Some t) now
        (four-read 0 0 (length text) size (slice text offset size) (omega arith) (omega arith) small (omega (arith, small))) (sym is_said) refl

-- the turn of a request for a piece
turn_is : (kind : Kind) (type offset : ℕ) (d : EmulatorState) (request_outcome : RequestOutcome) → kind_of type ≡ Some kind → HandlesRequest (GetStateBlob 0 type offset) [] d request_outcome → request_outcome ≡ blob_given (Some kind) offset d.tpm d
turn_is kind type offset d request_outcome is obeys = obeys ∙ ap (λ (k : Option Kind). blob_given k offset d.tpm d) is

-- ---- the data behind the fields

-- the bytes that come with the fields
abbrev sent : Kind → ℕ → EmulatorState → List ℕ
sent kind offset d = slice (encode_blob_if_any kind d.tpm) offset (fields_of_reply kind offset d).size

-- they are as many as the fields say
sent_length : (kind : Kind) (offset : ℕ) (d : EmulatorState) → length (sent kind offset d) ≡ (fields_of_reply kind offset d).size
sent_length kind offset d = by_tpm d.tpm
  where
    by_text : (text : List ℕ) (past : Bool) (size : ℕ) → size ≤ length text - offset
        → length (slice text offset (cond past (refused_fields bad_parameter) (record { result = 0; flags = 0; total = length text; size = size })).size) ≡ (cond past (refused_fields bad_parameter) (record { result = 0; flags = 0; total = length text; size = size })).size
    by_text text true size most = refl
    by_text text false size most = omega (arith, length-take size (drop offset text), length-drop offset text)

    by_tpm : (tpm : Option TpmParts) → length (slice (encode_blob_if_any kind tpm) offset (fields_of_tpm kind offset d.piece tpm).size) ≡ (fields_of_tpm kind offset d.piece tpm).size
    by_tpm None = refl
    by_tpm (Some t) = by_text (encode_blob kind t) (nat_lt (length (encode_blob kind t)) offset) (min d.piece (length (encode_blob kind t) - offset)) (omega arith)

-- a piece is as long as the fields say
checked_size : (f : BlobFields) (offset room : ℕ) (p : Piece) → checked_fields f offset room ≡ Ok p → p.length ≡ f.size
checked_size f offset room p is = go (not (f.result == success)) (not (f.flags == 0)) (nat_lt f.total offset) (is_misfit f.size (f.total - offset) room) is
  where
    go : (refused flagged past misfit : Bool)
        → ◌≡◌ {A = Result Piece ClientFault} (cond refused (Err (BadResult f.result)) (cond flagged (Err (BadReply flags_place)) (cond past (Err (BadReply total_place)) (cond misfit (Err (BadReply length_place)) (Ok (record { total = f.total; length = f.size })))))) (Ok p)
        → p.length ≡ f.size
    go true flagged past misfit is = absurd cc
    go false true past misfit is = absurd cc
    go false false true misfit is = absurd cc
    go false false false true is = absurd cc
    go false false false false is = ap length_of (sym is)
      where
        length_of : Result Piece ClientFault → ℕ
        length_of (Ok q) = q.length
        length_of (Err fault) = 0

-- the bytes of a piece that is taken are all that come
sent_bytes : (kind : Kind) (offset room : ℕ) (d : EmulatorState) (p : Piece) → piece_given kind offset room d ≡ Ok p → bytes_given kind offset room d ≡ sent kind offset d
sent_bytes kind offset room d p gives =
    ap (λ (r : Result Piece ClientFault). bytes_at r (encode_blob_if_any kind d.tpm) offset) gives
    ∙ ap (λ n. slice (encode_blob_if_any kind d.tpm) offset n) (checked_size (fields_of_reply kind offset d) offset room p gives)

empty : (xs : List ℕ) → length xs ≡ 0 → xs ≡ []
empty [] none = refl
empty (x ∷ xs) none = cc

zero_is : (n : ℕ) → nat_lt 0 n ≡ false → n ≡ 0
zero_is zero none = refl
zero_is (suc n) none = grind (arith, nat_tests, none)

-- ---- the calls

-- a refusal that leaves no bytes names none
none_left : (fault : ClientFault) (size : ℕ) → leaves_bytes (Err fault) size ≡ false → size ≡ 0
none_left LinkFault size none = zero_is size none
none_left (BadResult result) size none = zero_is size none
none_left (BadReply place) size none = absurd cc

module _ {P : Type 0} (fails : P → Bool) (later : P → P) where
  -- once a call failed no more are made
  pub more_fail : (n : ℕ) (schedule : P) → fails_within fails later n schedule ≡ true → fails_within fails later (suc n) schedule ≡ true
  more_fail zero schedule met = absurd cc
  more_fail (suc n) schedule met = go (fails schedule) refl met (more_fail n (later schedule))
    where
      go : (b : Bool) → fails schedule ≡ b → (fails schedule || fails_within fails later n (later schedule)) ≡ true → (fails_within fails later n (later schedule) ≡ true → fails_within fails later (suc n) (later schedule) ≡ true) → (fails schedule || fails_within fails later (suc n) (later schedule)) ≡ true
      go true is met more = rw is refl
      go false is met more = let rest : fails_within fails later n (later schedule) ≡ true = rw is at met in rw is (more rest)

  pub more_schedule : (n : ℕ) (schedule : P) → fails_within fails later n schedule ≡ true → schedule_after fails later (suc n) schedule ≡ schedule_after fails later n schedule
  more_schedule zero schedule met = absurd cc
  more_schedule (suc n) schedule met = go (fails schedule) refl met (more_schedule n (later schedule))
    where
      go : (b : Bool) → fails schedule ≡ b → (fails schedule || fails_within fails later n (later schedule)) ≡ true → (fails_within fails later n (later schedule) ≡ true → schedule_after fails later (suc n) (later schedule) ≡ schedule_after fails later n (later schedule))
          → cond (fails schedule) (later schedule) (schedule_after fails later (suc n) (later schedule)) ≡ cond (fails schedule) (later schedule) (schedule_after fails later n (later schedule))
      go true is met more = rw is refl
      go false is met more = let rest : fails_within fails later n (later schedule) ≡ true = rw is at met in rw is (more rest)

  -- two calls or three
  two_or_three : (r : Result Piece ClientFault) (schedule : P) → fails_within fails later 2 schedule ≡ true → (fails_within fails later (calls_for r) schedule ≡ true) × (schedule_after fails later (calls_for r) schedule ≡ schedule_after fails later 2 schedule)
  two_or_three (Err fault) schedule met = (met, refl)
  two_or_three (Ok p) schedule met = go (nat_lt 0 p.length)
    where
      go : (some : Bool) → (fails_within fails later (cond some 3 2) schedule ≡ true) × (schedule_after fails later (cond some 3 2) schedule ≡ schedule_after fails later 2 schedule)
      go true = (more_fail 2 schedule met, more_schedule 2 schedule met)
      go false = (met, refl)

  -- the request failed
  not_fetched : (kind : Kind) (type offset room : ℕ) (l : Link) (schedule schedule_now : P) (fixed old : List ℕ) (after : Option Link) → kind_of type ≡ Some kind → IsQuiet l
      → Exchanges fails later (GetStateBlob 0 type offset) [] l schedule false fixed after schedule_now → Fetches fails later kind offset room l schedule (Err LinkFault) old old after schedule_now
  not_fetched kind type offset room l schedule schedule_now fixed old after is quiet exact =
      let lost : fails_within fails later 2 schedule ≡ true = negated (fails_within fails later 2 schedule) exact.got_is in
      let both = two_or_three (piece_given kind offset room l.emulator) schedule lost in
      record {
        schedule_is = exact.schedule_is ∙ sym both.1;
        link = go (fails_within fails later 1 schedule) (subst (λ (b : Bool). ExchangedBy (fails_within fails later 1 schedule) b (GetStateBlob 0 type offset) [] (length fixed) l fixed after) lost exact.link);
        answer_is = rw both.0 refl;
        bytes = λ none. absurd (clash none both.0);
        rest = refl;
        untouched = λ fails. refl;
      }
    where
      negated : (b : Bool) → false ≡ not b → b ≡ true
      negated true is = refl
      negated false is = absurd cc

      clash : fails_within fails later (calls_for (piece_given kind offset room l.emulator)) schedule ≡ false → fails_within fails later (calls_for (piece_given kind offset room l.emulator)) schedule ≡ true → ⊥
      clash none met = let wrong : false ≡ true = sym none ∙ met in cc

      go : (first : Bool) → ExchangedBy first true (GetStateBlob 0 type offset) [] (length fixed) l fixed after → after ≡ Some l
      go true link = link
      go false (request_outcome, obeys, here, read) =
          let emulator : request_outcome.emulator ≡ l.emulator = ap (λ (x : RequestOutcome). x.emulator) (turn_is kind type offset l.emulator request_outcome is obeys) ∙ emulator-of kind offset l.emulator.tpm l.emulator in
          here ∙ ap (λ (x : EmulatorState). Some (record l { emulator = x; control = empty_channel })) emulator ∙ ap (λ (x : ChannelState). Some (record l { control = x })) (sym quiet.nothing)

  -- the fixed fields are here, and the data waits
  record IsHere (kind : Kind) (offset : ℕ) (l : Link) (schedule schedule_now : P) (fixed : List ℕ) (after : Option Link) : Type 0 where
    none : fails_within fails later 2 schedule ≡ false
    schedule_is : schedule_now ≡ schedule_after fails later 2 schedule
    read : fields_in fixed ≡ fields_of_reply kind offset l.emulator
    link : after ≡ Some (record l { control = record { begun = []; pending = sent kind offset l.emulator } })

  here : (kind : Kind) (type offset : ℕ) (l : Link) (schedule schedule_now : P) (fixed : List ℕ) (after : Option Link) → kind_of type ≡ Some kind → HasField kind l → length fixed ≡ 16
      → Exchanges fails later (GetStateBlob 0 type offset) [] l schedule true fixed after schedule_now → IsHere kind offset l schedule schedule_now fixed after
  here kind type offset l schedule schedule_now fixed after is ready whole exact =
      let none : fails_within fails later 2 schedule ≡ false = not_true (fails_within fails later 2 schedule) exact.got_is in
      let first : fails_within fails later 1 schedule ≡ false = less schedule none in
      let link : ExchangedBy false false (GetStateBlob 0 type offset) [] 16 l fixed after =
      subst (λ (n : ℕ). ExchangedBy false false (GetStateBlob 0 type offset) [] n l fixed after) whole
      (subst (λ (b : Bool). ExchangedBy false b (GetStateBlob 0 type offset) [] (length fixed) l fixed after) none
      (subst (λ (b : Bool). ExchangedBy b (fails_within fails later 2 schedule) (GetStateBlob 0 type offset) [] (length fixed) l fixed after) first exact.link)) in
      go none link
    where
      less : (schedule : P) → fails_within fails later 2 schedule ≡ false → fails_within fails later 1 schedule ≡ false
      less schedule none = let both = neither (fails schedule) (fails_within fails later 1 (later schedule)) none in rw both.0 refl

      go : fails_within fails later 2 schedule ≡ false → ExchangedBy false false (GetStateBlob 0 type offset) [] 16 l fixed after → IsHere kind offset l schedule schedule_now fixed after
      go none (request_outcome, obeys, now, read) =
          let given = turn_is kind type offset l.emulator request_outcome is obeys in
          let emulator : request_outcome.emulator ≡ l.emulator = ap (λ (x : RequestOutcome). x.emulator) given ∙ emulator-of kind offset l.emulator.tpm l.emulator in
          let facts : Decoded (take 16 (encode_reply request_outcome.reply request_outcome.payload)) (drop 16 (encode_reply request_outcome.reply request_outcome.payload)) kind offset l.emulator.piece l.emulator.tpm = decoded_by kind offset l.emulator.tpm l.emulator request_outcome ready.total given in
          record {
            none = none;
            schedule_is = exact.schedule_is;
            read = ap fields_in (read refl) ∙ facts.read;
            link = now ∙ ap (λ (x : EmulatorState). Some (record l { emulator = x; control = record { begun = []; pending = drop 16 (encode_reply request_outcome.reply request_outcome.payload) } })) emulator
                ∙ ap (λ (x : List ℕ). Some (record l { control = record { begun = []; pending = x } })) facts.data_is;
          }

  -- the answer of the fields is that of the emulator's reply
  record Stand (kind : Kind) (offset room : ℕ) (l : Link) (schedule schedule_now : P) (size : ℕ) (checked : Result Piece ClientFault) (after : Option Link) : Type 0 where
    quiet : IsQuiet l
    size_is : size ≡ (fields_of_reply kind offset l.emulator).size
    none : fails_within fails later 2 schedule ≡ false
    schedule_is : schedule_now ≡ schedule_after fails later 2 schedule
    given : piece_given kind offset room l.emulator ≡ checked
    link : after ≡ Some (record l { control = record { begun = []; pending = sent kind offset l.emulator } })

  stand : (kind : Kind) (type offset room : ℕ) (l : Link) (schedule schedule_now : P) (fixed : List ℕ) (after : Option Link) (fields : BlobFields) (checked r : Result Piece ClientFault) (got : Bool) → kind_of type ≡ Some kind → length fixed ≡ 16 → got ≡ true
      → (IsQuiet l → Exchanges fails later (GetStateBlob 0 type offset) [] l schedule got fixed after schedule_now)
      → checked ≡ checked_fields fields offset room → checked ≡ r → fields ≡ fields_in fixed → HasField kind l → Stand kind offset room l schedule schedule_now fields.size r after
  stand kind type offset room l schedule schedule_now fixed after fields checked r got is whole sent_it exact decoded_fields taken read ready =
      let exchanged : Exchanges fails later (GetStateBlob 0 type offset) [] l schedule true fixed after schedule_now = subst (λ (b : Bool). Exchanges fails later (GetStateBlob 0 type offset) [] l schedule b fixed after schedule_now) sent_it (exact ready.quiet) in
      let facts : IsHere kind offset l schedule schedule_now fixed after = here kind type offset l schedule schedule_now fixed after is ready whole exchanged in
      record {
        quiet = ready.quiet;
        size_is = ap (λ (f : BlobFields). f.size) (read ∙ facts.read);
        none = facts.none;
        schedule_is = facts.schedule_is;
        given = ap (λ (f : BlobFields). checked_fields f offset room) (sym facts.read ∙ sym read) ∙ sym decoded_fields ∙ taken;
        link = facts.link;
      }

  -- the fields make no piece
  not_given : (kind : Kind) (offset room size : ℕ) (l : Link) (schedule schedule_mid schedule_now : P) (old : List ℕ) (mid after : Option Link) (fault : ClientFault) → Stand kind offset room l schedule schedule_mid size (Err fault) mid
      → after ≡ cond (leaves_bytes (Err fault) size) (option_map (cut Ctrl) mid) mid → schedule_now ≡ schedule_mid
      → Fetches fails later kind offset room l schedule (Err fault) old old after schedule_now
  not_given kind offset room size l schedule schedule_mid schedule_now old mid after fault is cuts planned = record {
    schedule_is = planned ∙ is.schedule_is ∙ ap (λ (r : Result Piece ClientFault). schedule_after fails later (calls_for r) schedule) (sym is.given);
    link = go (leaves_bytes (Err fault) size) refl cuts;
    answer_is = sym (ap (λ (r : Result Piece ClientFault). cond (fails_within fails later (calls_for r) schedule) (Err LinkFault) r) is.given ∙ ap (λ (c : Bool). cond c (Err LinkFault) (Err fault)) is.none);
    bytes = λ made. ap (λ (r : Result Piece ClientFault). bytes_at r (encode_blob_if_any kind l.emulator.tpm) offset ++ drop (length (bytes_at r (encode_blob_if_any kind l.emulator.tpm) offset)) old) (sym is.given);
    rest = refl;
    untouched = λ fails. refl;
  }
    where
      go : (b : Bool) → leaves_bytes (Err fault) size ≡ b → after ≡ cond b (option_map (cut Ctrl) mid) mid → after ≡ Some l
      go true left cuts = cuts ∙ ap (option_map (cut Ctrl)) is.link ∙ ap (λ (x : ChannelState). Some (record l { control = x })) (sym is.quiet.nothing)
      go false left kept =
          let nothing : sent kind offset l.emulator ≡ [] = empty (sent kind offset l.emulator) (sent_length kind offset l.emulator ∙ sym is.size_is ∙ none_left fault size left) in
          kept ∙ is.link ∙ ap (λ (x : List ℕ). Some (record l { control = record { begun = []; pending = x } })) nothing ∙ ap (λ (x : ChannelState). Some (record l { control = x })) (sym is.quiet.nothing)

  -- nothing is left on the channel
  emptied : (l : Link) (count : ℕ) (bytes : List ℕ) (lost : Bool) → IsQuiet l → drop count bytes ≡ [] → ◌≡◌ {A = Option Link} (Some (received (not lost) Ctrl count (record l { control = record { begun = []; pending = bytes } }))) (Some l)
  emptied l count bytes true quiet left = ap (λ (x : ChannelState). Some (record l { control = x })) (sym quiet.nothing)
  emptied l count bytes false quiet left = ap (λ (x : List ℕ). Some (record l { control = record { begun = []; pending = x } })) left ∙ ap (λ (x : ChannelState). Some (record l { control = x })) (sym quiet.nothing)

  -- what came of a request that was answered so, with these bytes
  record Ends (l : Link) (schedule : P) (r : Result Piece ClientFault) (prefix : List ℕ) (answer : Result Piece ClientFault) (old new : List ℕ) (after : Option Link) (schedule_now : P) : Type 0 where
    schedule_is : schedule_now ≡ schedule_after fails later (calls_for r) schedule
    link : after ≡ Some l
    answer_is : answer ≡ cond (fails_within fails later (calls_for r) schedule) (Err LinkFault) r
    bytes : fails_within fails later (calls_for r) schedule ≡ false → new ≡ prefix ++ drop (length prefix) old
    rest : drop (length prefix) new ≡ drop (length prefix) old

  -- a piece is taken, by whether it has data
  taken_whole : (l : Link) (schedule schedule_mid schedule_now : P) (bytes old new : List ℕ) (after : Option Link) (p : Piece) (answer : Result Piece ClientFault) → IsQuiet l → fails_within fails later 2 schedule ≡ false → schedule_mid ≡ schedule_after fails later 2 schedule → length bytes ≡ p.length
      → TakesData (nat_lt 0 p.length) fails later p (record l { control = record { begun = []; pending = bytes } }) schedule_mid answer old new after schedule_now
      → Ends l schedule (Ok p) bytes answer old new after schedule_now
  taken_whole l schedule schedule_mid schedule_now bytes old new after p answer quiet none planned whole got = go (nat_lt 0 p.length) refl got
    where
      go : (some : Bool) → nat_lt 0 p.length ≡ some → TakesData some fails later p (record l { control = record { begun = []; pending = bytes } }) schedule_mid answer old new after schedule_now → Ends l schedule (Ok p) bytes answer old new after schedule_now
      go false no_data (answered, kept, link, schedule_is) =
          let calls : calls_for (Ok p) ≡ 2 = ap (λ (b : Bool). cond b 3 2) no_data in
          let nothing : bytes ≡ [] = empty bytes (omega (arith, whole, zero_is p.length no_data)) in
          record {
            schedule_is = schedule_is ∙ planned ∙ ap (λ n. schedule_after fails later n schedule) (sym calls);
            link = link ∙ ap (λ (x : List ℕ). Some (record l { control = record { begun = []; pending = x } })) nothing ∙ ap (λ (x : ChannelState). Some (record l { control = x })) (sym quiet.nothing);
            answer_is = answered ∙ sym (ap (λ n. cond (fails_within fails later n schedule) (Err LinkFault) (Ok p)) calls ∙ ap (λ (c : Bool). cond c (Err LinkFault) (Ok p)) none);
            bytes = λ made. kept ∙ ap (λ (x : List ℕ). x ++ drop (length x) old) (sym nothing);
            rest = ap (drop (length bytes)) kept;
          }
      go true some_data (answered, filled, link, schedule_is, kept) =
          let calls : calls_for (Ok p) ≡ 3 = ap (λ (b : Bool). cond b 3 2) some_data in
          let last : fails_within fails later 3 schedule ≡ fails schedule_mid = last_fails fails later 2 schedule none ∙ ap fails (sym planned) in
          let all : take p.length bytes ≡ bytes = take_all p.length bytes (omega (arith, whole)) in
          let left : drop p.length bytes ≡ [] = drop_all p.length bytes (omega (arith, whole)) in
          record {
            schedule_is = schedule_is ∙ ap later planned ∙ sym (last_schedule fails later 2 schedule none) ∙ ap (λ n. schedule_after fails later n schedule) (sym calls);
            link = link ∙ emptied l p.length bytes (fails schedule_mid) quiet left;
            answer_is = answered ∙ sym (ap (λ n. cond (fails_within fails later n schedule) (Err LinkFault) (Ok p)) calls ∙ ap (λ (c : Bool). cond c (Err LinkFault) (Ok p)) last);
            bytes = λ made. filled (sym last ∙ ap (λ n. fails_within fails later n schedule) (sym calls) ∙ made) ∙ ap (λ (x : List ℕ). x ++ drop p.length old) all ∙ ap (λ n. bytes ++ drop n old) (sym whole);
            rest = ap (λ n. drop n new) whole ∙ kept ∙ sym (ap (λ n. drop n old) whole);
          }

  -- the piece is received
  given : (kind : Kind) (offset room exact : ℕ) (l : Link) (schedule schedule_mid schedule_now : P) (old new : List ℕ) (mid after : Option Link) (p : Piece) (answer : Result Piece ClientFault) → Stand kind offset room l schedule schedule_mid exact (Ok p) mid
      → IfSome mid (λ m. p.length ≤ length (receivable Ctrl m) → TakesData (nat_lt 0 p.length) fails later p m schedule_mid answer old new after schedule_now)
      → Fetches fails later kind offset room l schedule answer old new after schedule_now
  given kind offset room exact l schedule schedule_mid schedule_now old new mid after p answer is takes =
      let size : p.length ≡ (fields_of_reply kind offset l.emulator).size = checked_size (fields_of_reply kind offset l.emulator) offset room p is.given in
      let all : bytes_given kind offset room l.emulator ≡ sent kind offset l.emulator = sent_bytes kind offset room l.emulator p is.given in
      let whole : length (sent kind offset l.emulator) ≡ p.length = sent_length kind offset l.emulator ∙ sym size in
      let m : Link = record l { control = record { begun = []; pending = sent kind offset l.emulator } } in
      let waits : IfSome (Some m) (λ m. p.length ≤ length (receivable Ctrl m) → TakesData (nat_lt 0 p.length) fails later p m schedule_mid answer old new after schedule_now) =
      subst (λ (o : Option Link). IfSome o (λ m. p.length ≤ length (receivable Ctrl m) → TakesData (nat_lt 0 p.length) fails later p m schedule_mid answer old new after schedule_now)) is.link takes in
      let gives : Ends l schedule (Ok p) (sent kind offset l.emulator) answer old new after schedule_now = taken_whole l schedule schedule_mid schedule_now (sent kind offset l.emulator) old new after p answer is.quiet is.none is.schedule_is whole (waits (omega (arith, whole))) in
      let now : Ends l schedule (piece_given kind offset room l.emulator) (bytes_given kind offset room l.emulator) answer old new after schedule_now =
      subst (λ (r : Result Piece ClientFault). Ends l schedule r (bytes_given kind offset room l.emulator) answer old new after schedule_now) (sym is.given)
      (subst (λ (prefix : List ℕ). Ends l schedule (Ok p) prefix answer old new after schedule_now) (sym all) gives) in
      record { schedule_is = now.schedule_is; link = now.link; answer_is = now.answer_is; bytes = now.bytes; rest = now.rest; untouched = λ fails. absurd (clash is.none fails) }
    where
      clash : fails_within fails later 2 schedule ≡ false → fails_within fails later 2 schedule ≡ true → ⊥
      clash none met = let wrong : false ≡ true = sym none ∙ met in cc

  -- over wires whose link is known
  pub fetch_failed : (kind : Kind) (type offset room : ℕ) (o : Option Link) (schedule schedule_now : P) (fixed old : List ℕ) (after : Option Link) (got : Bool) → kind_of type ≡ Some kind → got ≡ false
      → IfSome o (λ l. IsQuiet l → Exchanges fails later (GetStateBlob 0 type offset) [] l schedule got fixed after schedule_now)
      → IfSome o (λ l. HasField kind l → Fetches fails later kind offset room l schedule (Err LinkFault) old old after schedule_now)
  fetch_failed kind type offset room None schedule schedule_now fixed old after got is lost exact = tt
  fetch_failed kind type offset room (Some l) schedule schedule_now fixed old after got is lost exact = λ ready.
      not_fetched kind type offset room l schedule schedule_now fixed old after is ready.quiet (subst (λ (b : Bool). Exchanges fails later (GetStateBlob 0 type offset) [] l schedule b fixed after schedule_now) lost (exact ready.quiet))

  pub fetch_given : (kind : Kind) (type offset room : ℕ) (o : Option Link) (schedule schedule_mid schedule_now : P) (fixed old new : List ℕ) (mid after : Option Link) (fields : BlobFields) (checked : Result Piece ClientFault) (p : Piece) (answer : Result Piece ClientFault) (got : Bool)
      → kind_of type ≡ Some kind → length fixed ≡ 16 → got ≡ true
      → IfSome o (λ l. IsQuiet l → Exchanges fails later (GetStateBlob 0 type offset) [] l schedule got fixed mid schedule_mid)
      → checked ≡ checked_fields fields offset room → checked ≡ Ok p → fields ≡ fields_in fixed
      → IfSome mid (λ m. p.length ≤ length (receivable Ctrl m) → TakesData (nat_lt 0 p.length) fails later p m schedule_mid answer old new after schedule_now)
      → IfSome o (λ l. HasField kind l → Fetches fails later kind offset room l schedule answer old new after schedule_now)
  fetch_given kind type offset room None schedule schedule_mid schedule_now fixed old new mid after fields checked p answer got is whole sent_it exact decoded_fields ok read takes = tt
  fetch_given kind type offset room (Some l) schedule schedule_mid schedule_now fixed old new mid after fields checked p answer got is whole sent_it exact decoded_fields ok read takes = λ ready.
      given kind offset room fields.size l schedule schedule_mid schedule_now old new mid after p answer
      (stand kind type offset room l schedule schedule_mid fixed mid fields checked (Ok p) got is whole sent_it exact decoded_fields ok read ready) takes

  pub fetch_refused : (kind : Kind) (type offset room : ℕ) (o : Option Link) (schedule schedule_mid schedule_now : P) (fixed old : List ℕ) (mid after : Option Link) (fields : BlobFields) (checked : Result Piece ClientFault) (fault : ClientFault) (got : Bool)
      → kind_of type ≡ Some kind → length fixed ≡ 16 → got ≡ true
      → IfSome o (λ l. IsQuiet l → Exchanges fails later (GetStateBlob 0 type offset) [] l schedule got fixed mid schedule_mid)
      → checked ≡ checked_fields fields offset room → checked ≡ Err fault → fields ≡ fields_in fixed
      → after ≡ cond (leaves_bytes (Err fault) fields.size) (option_map (cut Ctrl) mid) mid → IfSome mid (λ m. schedule_now ≡ schedule_mid)
      → IfSome o (λ l. HasField kind l → Fetches fails later kind offset room l schedule (Err fault) old old after schedule_now)
  fetch_refused kind type offset room None schedule schedule_mid schedule_now fixed old mid after fields checked fault got is whole sent_it exact decoded_fields err read cuts planned = tt
  fetch_refused kind type offset room (Some l) schedule schedule_mid schedule_now fixed old mid after fields checked fault got is whole sent_it exact decoded_fields err read cuts planned = λ ready.
      let facts : Stand kind offset room l schedule schedule_mid fields.size (Err fault) mid = stand kind type offset room l schedule schedule_mid fixed mid fields checked (Err fault) got is whole sent_it exact decoded_fields err read ready in
      let same : schedule_now ≡ schedule_mid = subst (λ (o : Option Link). IfSome o (λ m. schedule_now ≡ schedule_mid)) facts.link planned in
      not_given kind offset room fields.size l schedule schedule_mid schedule_now old mid after fault facts cuts same
