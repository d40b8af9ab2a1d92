-- What a piece that was fetched over a quiet link says of the emulator.
use Rattle.std.proofs.Common.{◌≡◌, ℕ, zero, suc, ◌-◌, ◌≤◌, Bool, true, false, List, ◌++◌, length, take, drop, min, Option, Some, None, Ok, Err, refl, sym, ap, subst, ◌∙◌, arith}
use Rattle.std.specs.Prelude.{IfSome, Result, nat_lt, ◌==◌, if◌then◌else◌}
use Rattle.std.proofs.lemmas.Bool.Decides.{nat_tests}
use Rattle.std.proofs.lemmas.List.{take_min, length-take, length-drop, take_at}
use Rattle.vt_base.specs.declared.types.Kind.{Kind}
use Rattle.tpm_core.specs.declared.parts.TpmParts.{TpmParts}
use Rattle.state_blobs.specs.Encodings.{encode_blob, slice}
use Rattle.state_blobs.specs.declared.types.Piece.{Piece}
use Rattle.ctrl_client.specs.declared.fault.ClientFault.{ClientFault}
use Rattle.ctrl_client.specs.declared.fault.ClientFault.TheVariants.{Link as LinkFault, Reply as BadReply}
use Rattle.ctrl_model.specs.declared.profile.TheConstants.{TOTAL_PLACE, LENGTH_PLACE}
use Rattle.ctrl_model.specs.Emulator.{EmulatorState}
use Rattle.ctrl_model.specs.Link.{Link}
use Rattle.ctrl_client.specs.Schedules.{fails_within}
use Rattle.ctrl_client.specs.Pieces.{BlobFields, HasField, Fetches, checked_fields, is_misfit, fields_of_tpm, fields_at, refused_fields, piece_given, bytes_given, bytes_at, calls_for, encode_blob_if_any}
use Rattle.move_core.specs.declared.asking.Fetched.{Fetched}
use Rattle.move_core.specs.Requests.{WiresView, FetchesPiece, fetched}

-- a piece was given of this TPM's blob
record IsGiven (kind : Kind) (offset most : ℕ) (tpm : Option TpmParts) (p : Piece) : Type 0 where
  values : TpmParts
  is_tpm : tpm ≡ Some values
  total : p.total ≡ length (encode_blob kind values)
  count : p.length ≡ min most (length (encode_blob kind values) - offset)

fitting : (misfit : Bool) (q p : Piece) → (if misfit then Err (BadReply LENGTH_PLACE) else Ok q) ≡ Ok p → q ≡ p
fitting false q p is = cc
fitting true q p is = absurd cc

within : (beyond : Bool) (rest : Result Piece ClientFault) (p : Piece) → (if beyond then Err (BadReply TOTAL_PLACE) else rest) ≡ Ok p → rest ≡ Ok p
within false rest p is = is
within true rest p is = absurd cc

port_view : (beyond : Bool) (f : BlobFields) (offset room : ℕ) (p : Piece) → checked_fields (if beyond then refused_fields 3 else f) offset room ≡ Ok p → checked_fields f offset room ≡ Ok p
port_view false f offset room p is = is
port_view true f offset room p is = absurd cc

given : (kind : Kind) (offset most room : ℕ) (tpm : Option TpmParts) (p : Piece) → checked_fields (fields_of_tpm kind offset most tpm) offset room ≡ Ok p → IsGiven kind offset most tpm p
given kind offset most room None p is = absurd cc
given kind offset most room (Some t) p is =
    let text = encode_blob kind t in
    let size = min most (length text - offset) in
    let f : BlobFields = record { result = 0; flags = 0; total = length text; size = size } in
    let q : Piece = record { total = length text; length = size } in
    let one = port_view (nat_lt (length text) offset) f offset room p is in
    let same : q ≡ p = fitting (is_misfit size (length text - offset) room) q p (within (nat_lt (length text) offset) _ p one) in
    record { values = t; is_tpm = refl; total = ap (λ (x : Piece). x.total) (sym same); count = ap (λ (x : Piece). x.length) (sym same) }

-- a slice ends where the list does
pub slice_end : (xs : List ℕ) (offset size : ℕ) → slice xs offset (min size (length xs - offset)) ≡ slice xs offset size
slice_end xs offset size = ap (λ n. take (min size n) (drop offset xs)) (sym (length-drop offset xs)) ∙ take_min size (drop offset xs)

-- what was fetched: a fault, or a piece of the blob as long as the emulator gives one
pub data Got (kind : Kind) (offset : ℕ) (d : EmulatorState) (answer : Result Fetched ClientFault) : Type 0 where
  Fault : (fault : ClientFault) → answer ≡ Err fault → Got kind offset d answer
  Part : (t : TpmParts) (got : Fetched) → d.tpm ≡ Some t → answer ≡ Ok got → got.bytes ≡ slice (encode_blob kind t) offset d.piece → got.total ≡ length (encode_blob kind t) → Got kind offset d answer

got_by : (failed : Bool) (kind : Kind) (offset : ℕ) (d : EmulatorState) (into old : List ℕ) (piece : Result Piece ClientFault) (given_is : Result Piece ClientFault)
    → piece_given kind offset 4096 d ≡ given_is → piece ≡ (if failed then Err LinkFault else given_is)
    → (failed ≡ false → into ≡ bytes_at given_is (encode_blob_if_any kind d.tpm) offset ++ old) → Got kind offset d (fetched into piece)
got_by true kind offset d into old piece given_is is answer bytes = Fault LinkFault (ap (fetched into) answer)
got_by false kind offset d into old piece (Err fault) is answer bytes = Fault fault (ap (fetched into) answer)
got_by false kind offset d into old piece (Ok p) is answer bytes =
    let g = given kind offset d.piece 4096 d.tpm p is in
    let text = encode_blob kind g.values in
    let blob : encode_blob_if_any kind d.tpm ≡ text = ap (encode_blob_if_any kind) g.is_tpm in
    let prefix : into ≡ slice text offset p.length ++ old = bytes refl ∙ ap (λ xs. slice xs offset p.length ++ old) blob in
    let size : length (slice text offset p.length) ≡ p.length = omega (arith, length-take p.length (drop offset text), length-drop offset text, g.count) in
    Part g.values (record { total = p.total; bytes = take p.length into }) g.is_tpm (ap (fetched into) answer)
    (ap (take p.length) prefix ∙ take_at (slice text offset p.length) old p.length size ∙ ap (slice text offset) g.count ∙ slice_end text offset d.piece) g.total

pub got : {Schedule : Type 0} (kind : Kind) (offset : ℕ) (w v : WiresView Schedule) (l : Link) (answer : Result Fetched ClientFault) → w.link ≡ Some l → HasField kind l → FetchesPiece kind offset w v answer
    → (v.link ≡ Some l) × Got kind offset l.emulator answer
got kind offset w v l answer is field f =
    let fetches = subst (λ (link : Option Link). IfSome link (λ l. HasField kind l → Fetches w.fails w.later kind offset (length f.room) l w.schedule f.piece f.room f.into v.link v.schedule)) is f.gets.exact field in
    let sized = subst (λ (n : ℕ). Fetches w.fails w.later kind offset n l w.schedule f.piece f.room f.into v.link v.schedule) f.size fetches in (
      sized.link,
      subst (Got kind offset l.emulator) (sym f.answer_is)
          (got_by (fails_within w.fails w.later (calls_for (piece_given kind offset 4096 l.emulator)) w.schedule) kind offset l.emulator f.into (drop (length (bytes_given kind offset 4096 l.emulator)) f.room) f.piece (piece_given kind offset 4096 l.emulator) refl sized.answer_is sized.bytes),
    )

-- ---- where no call is to fail

misfit_within : (most left room : ℕ) → most ≤ room → 1 ≤ most → is_misfit (min most left) left room ≡ false
misfit_within most zero room fits some =
    let none : min most 0 ≡ 0 = omega arith in
    let held : nat_lt room 0 ≡ false = grind (arith, nat_tests) in
    rw (none, held) refl
misfit_within most (suc left) room fits some =
    let far : nat_lt (suc left) (min most (suc left)) ≡ false = grind (arith, nat_tests) in
    let held : nat_lt room (min most (suc left)) ≡ false = grind (arith, nat_tests) in
    let there : (min most (suc left) == 0) ≡ false = grind (arith, nat_tests) in
    rw (far, held, there) refl

given_sure : (text : List ℕ) (from most room : ℕ) → from ≤ length text → most ≤ room → 1 ≤ most
    → checked_fields (fields_at text from most) from room ≡ Ok (record { total = length text; length = min most (length text - from) })
given_sure text from most room within fits some =
    let far : nat_lt (length text) from ≡ false = grind (arith, nat_tests) in
    let fields : fields_at text from most ≡ record { result = 0; flags = 0; total = length text; size = min most (length text - from) } = rw far refl in
    ap (λ (f : BlobFields). checked_fields f from room) fields ∙ rw (far, misfit_within most (length text - from) room fits some) refl

-- a piece of the TPM's blob comes
pub record IsSent (kind : Kind) (offset : ℕ) (t : TpmParts) (answer : Result Fetched ClientFault) : Type 0 where
  pub got : Fetched
  pub answer_is : answer ≡ Ok got
  pub total : got.total ≡ length (encode_blob kind t)

pub sent_sure : {Schedule : Type 0} (kind : Kind) (offset : ℕ) (w v : WiresView Schedule) (l : Link) (t : TpmParts) (answer : Result Fetched ClientFault) → w.link ≡ Some l → HasField kind l → l.emulator.tpm ≡ Some t
    → offset ≤ length (encode_blob kind t) → 1 ≤ l.emulator.piece → l.emulator.piece ≤ 4096 → ((n : ℕ) → fails_within w.fails w.later n w.schedule ≡ false) → FetchesPiece kind offset w v answer → IsSent kind offset t answer
sent_sure kind offset w v l t answer is field tpm there least most none f =
    let fetches = subst (λ (link : Option Link). IfSome link (λ l. HasField kind l → Fetches w.fails w.later kind offset (length f.room) l w.schedule f.piece f.room f.into v.link v.schedule)) is f.gets.exact field in
    let sized = subst (λ (n : ℕ). Fetches w.fails w.later kind offset n l w.schedule f.piece f.room f.into v.link v.schedule) f.size fetches in
    let given : piece_given kind offset 4096 l.emulator ≡ Ok (record { total = length (encode_blob kind t); length = min l.emulator.piece (length (encode_blob kind t) - offset) }) =
    ap (λ (o : Option TpmParts). checked_fields (fields_of_tpm kind offset l.emulator.piece o) offset 4096) tpm ∙ given_sure (encode_blob kind t) offset l.emulator.piece 4096 there most least in
    let piece = sized.answer_is ∙ ap (λ (failed : Bool). if failed then Err LinkFault else piece_given kind offset 4096 l.emulator) (none (calls_for (piece_given kind offset 4096 l.emulator))) ∙ given in
    record {
      got = record { total = length (encode_blob kind t); bytes = take (min l.emulator.piece (length (encode_blob kind t) - offset)) f.into };
      answer_is = f.answer_is ∙ ap (fetched f.into) piece;
      total = refl;
    }
