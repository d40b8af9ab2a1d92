-- What the rows say is what the layout of messages says.
use Rattle.std.proofs.Common.{◌≡◌, ◌≢◌, ℕ, suc, ◌+◌, ◌^◌, ◌<◌, ◌≤◌, Bool, true, false, cond, eqb, List, [], ◌∷◌, ◌++◌, length, take, Ok, Err, refl, sym, subst, arith, inl, inr, ◌⊎◌, eq-eqb}
use Rattle.std.specs.Prelude.{◌||◌, nat_lt, slice_index}
use Rattle.std.specs.List.{AllByRecursion}
use Rattle.std.proofs.lemmas.Bool.{le-ltb, lt-ltb}
use Rattle.std.proofs.lemmas.List.{drop_all}
use Rattle.vt_base.specs.Numbers.{short, number, long}
use Rattle.vt_base.specs.Layout.{Field, Encodes, number_then, short_then, long_then}
use Rattle.vt_base.specs.declared.types.Why.TheVariants.{Magic, Version, Length, Value}
use Rattle.vt_base.specs.declared.types.Malformed.{Malformed}
use Rattle.vt_base.specs.Refusing.{malformed, refuse}
use Rattle.vt_base.proofs.Numbers.{encodes_number}
use Rattle.move_codec.specs.declared.message.Message.{Message}
use Rattle.move_codec.specs.declared.message.Body.{Body}
use Rattle.move_codec.specs.declared.message.Body.TheVariants.{Offer, Need, Piece, Prepared, Commit, Abort, Refuse}
use Rattle.vt_base.specs.declared.types.HostName.{HostName}
use Rattle.move_codec.specs.declared.names.Part.{Part}
use Rattle.vt_base.specs.declared.types.Reason.{Reason}
use Rattle.move_codec.specs.declared.names.Kind.{Kind}
use Rattle.move_codec.specs.declared.names.Kind.TheVariants as kind
use Rattle.move_codec.specs.declared.outline.Shape.{Shape}
use Rattle.move_codec.specs.declared.outline.Shape.TheVariants as shape
use Rattle.move_codec.specs.Names.{host_byte, hosts, part_byte, parts, reason_byte, reasons, kind_byte, kinds, fits}
use Rattle.move_codec.specs.Messages.{Ending, outline, with_message, name_then, offer, need, piece, bytes_of, refusal, body_of, receiver, after_kind, after_length, after_magic, messages}
use Rattle.move_codec.specs.Encoding.{Moves, HasPiece, IsInRange, magic, before_kind, before_receiver, before_body, kind_of, fields_of, numbers}
use Rattle.move_codec.specs.Refusals.{Refuses, IsOutside, IsLength, Fits, BeginsWithPart, wrong_magic, wrong_version, no_length, no_kind, unfit_length, no_receiver, no_part, no_reason, no_count, unfit_count}
use Rattle.move_codec.proofs.Named.{differs, nameless, host_back, part_back, reason_back, kind_back, hosts_row, parts_row, reasons_row, kinds_row}
use Rattle.vt_base.proofs.Magics.{magic_byte_encodes, magic_encode}
use Rattle.move_codec.proofs.Steps.{encodes_short, encodes_long, encodes_other, encodes_other_magic, encodes_name, encodes_nameless}
use Rattle.move_codec.proofs.Writes.{length-numbers, fields_room}

abbrev failed : Malformed → Ending
failed fault = Err fault

-- ---- the header

to_length : (len : ℕ) (end : Ending) (rest : List ℕ) → len < 2 ^ 32 → Encodes (after_length len) end rest → Encodes messages end (before_kind len ++ rest)
unfolding messages
to_length len end rest lt spelled =
    magic_encode magic 0 after_magic end (1 ∷ (number len ++ rest))
    (magic_byte_encodes 1 Version 4 (number_then after_length) end (number len ++ rest) (encodes_number after_length end len rest lt spelled))

within : (len : ℕ) → IsLength len → (nat_lt len 10 || nat_lt 4113 len) ≡ false
within len some = rw (le-ltb len 10 some.0, le-ltb 4113 len some.1) refl

to_name : (len : ℕ) (end : Ending) (rest : List ℕ) → IsLength len → Encodes (name_then kind_byte kinds 9 (λ k. after_kind len k)) end rest → Encodes messages end (before_kind len ++ rest)
to_name len end rest some spelled =
    let after : Encodes (after_length len) end rest = subst (λ (b : Bool). Encodes (cond b (refuse Length 5) (name_then kind_byte kinds 9 (λ k. after_kind len k))) end rest) (sym (within len some)) spelled in
    to_length len end rest (omega (arith, some.1)) after

to_kind : (len : ℕ) (k : Kind) (end : Ending) (rest : List ℕ) → IsLength len → Encodes (after_kind len k) end rest → Encodes messages end (before_receiver len k ++ rest)
to_kind len k end rest some spelled = to_name len end (kind_byte k ∷ rest) some (encodes_name kind_byte kinds 9 (λ k. after_kind len k) end k rest (kind_back k) spelled)

to_receiver : (len : ℕ) (k : Kind) (end : Ending) (rest : List ℕ) → Fits k len → Encodes (receiver k len) end rest → Encodes messages end (before_receiver len k ++ rest)
to_receiver len k end rest fit spelled =
    let after : Encodes (after_kind len k) end rest = subst (λ (b : Bool). Encodes (cond b (receiver k len) (refuse Length 5)) end rest) (sym fit.1) spelled in
    to_kind len k end rest fit.0 after

to_body : (len : ℕ) (k : Kind) (to : HostName) (epoch : ℕ) (end : Ending) (rest : List ℕ) → Fits k len → epoch < 2 ^ 64 → Encodes (body_of k len to epoch) end rest → Encodes messages end (before_body len k to epoch ++ rest)
to_body len k to epoch end rest fit lt spelled =
    to_receiver len k end (host_byte to ∷ long epoch ++ rest) fit (encodes_name host_byte hosts 10 (λ to. long_then (λ epoch. body_of k len to epoch)) end to (long epoch ++ rest) (host_back to) (encodes_long (λ epoch. body_of k len to epoch) end epoch rest lt spelled))

-- ---- bodies

abbrev pub shape_of : Body → Shape
shape_of (Offer totals) = shape.Offer totals
shape_of (Need part offset) = shape.Need part offset
shape_of (Piece part offset bytes) = shape.Piece part offset
shape_of Prepared = shape.Prepared
shape_of Commit = shape.Commit
shape_of Abort = shape.Abort
shape_of (Refuse reason value) = shape.Refuse reason value

abbrev exact : HostName → ℕ → Shape → Ending
exact to epoch s = Ok (outline to epoch s)

offer_back : (totals : List ℕ) (to : HostName) (epoch : ℕ) → length totals ≡ 4 → AllByRecursion (λ n. n < 2 ^ 32) totals → Encodes (offer to epoch) (exact to epoch (shape.Offer totals)) (numbers totals)
offer_back [] to epoch len each = absurd (omega (arith, len))
offer_back (a ∷ []) to epoch len each = absurd (omega (arith, len))
offer_back (a ∷ b ∷ []) to epoch len each = absurd (omega (arith, len))
offer_back (a ∷ b ∷ c ∷ []) to epoch len each = absurd (omega (arith, len))
offer_back (a ∷ b ∷ c ∷ d ∷ []) to epoch len each =
    encodes_number (λ a. number_then (λ b. number_then (λ c. number_then (λ d. with_message to epoch (shape.Offer (a ∷ b ∷ c ∷ d ∷ [])))))) _ a (number b ++ (number c ++ number d)) each.0
    (encodes_number (λ b. number_then (λ c. number_then (λ d. with_message to epoch (shape.Offer (a ∷ b ∷ c ∷ d ∷ []))))) _ b (number c ++ number d) each.1.0
    (encodes_number (λ c. number_then (λ d. with_message to epoch (shape.Offer (a ∷ b ∷ c ∷ d ∷ [])))) _ c (number d) each.1.1.0
    (encodes_number (λ d. with_message to epoch (shape.Offer (a ∷ b ∷ c ∷ d ∷ []))) _ d [] each.1.1.1.0 (refl, refl))))
offer_back (a ∷ b ∷ c ∷ d ∷ f ∷ more) to epoch len each = absurd (omega (arith, len))

need_back : (part : Part) (offset : ℕ) (to : HostName) (epoch : ℕ) → offset < 2 ^ 32 → Encodes (need to epoch) (exact to epoch (shape.Need part offset)) (part_byte part ∷ number offset)
need_back part offset to epoch lt =
    encodes_name part_byte parts 19 (λ part. number_then (λ offset. with_message to epoch (shape.Need part offset))) _ part (number offset) (part_back part)
    (encodes_number (λ offset. with_message to epoch (shape.Need part offset)) _ offset [] lt (refl, refl))

refusal_back : (reason : Reason) (value : ℕ) (to : HostName) (epoch : ℕ) → value < 2 ^ 32 → Encodes (refusal to epoch) (exact to epoch (shape.Refuse reason value)) (reason_byte reason ∷ number value)
refusal_back reason value to epoch lt =
    encodes_name reason_byte reasons 19 (λ reason. number_then (λ value. with_message to epoch (shape.Refuse reason value))) _ reason (number value) (reason_back reason)
    (encodes_number (λ value. with_message to epoch (shape.Refuse reason value)) _ value [] lt (refl, refl))

-- as far as the bytes of a piece
to_bytes : (len : ℕ) (to : HostName) (epoch : ℕ) (part : Part) (offset count : ℕ) (end : Ending) (rest : List ℕ) → offset < 2 ^ 32 → count < 2 ^ 16
    → Encodes (bytes_of len to epoch part offset count) end rest → Encodes (piece len to epoch) end (part_byte part ∷ number offset ++ short count ++ rest)
to_bytes len to epoch part offset count end rest o_lt c_lt spelled =
    encodes_name part_byte parts 19 (λ part. number_then (λ offset. short_then (λ count. bytes_of len to epoch part offset count))) end part (number offset ++ short count ++ rest) (part_back part)
    (encodes_number (λ offset. short_then (λ count. bytes_of len to epoch part offset count)) end offset (short count ++ rest) o_lt
    (encodes_short (λ count. bytes_of len to epoch part offset count) end count rest c_lt spelled))

counted : (len : ℕ) (to : HostName) (epoch : ℕ) (part : Part) (offset count : ℕ) (end : Ending) (rest : List ℕ) → 1 ≤ count → count ≤ 4096
    → Encodes (cond (eqb (17 + count) len) (Field count (λ _. with_message to epoch (shape.Piece part offset))) (refuse Length 24)) end rest → Encodes (bytes_of len to epoch part offset count) end rest
counted len to epoch part offset count end rest some within_limit spelled =
    let through : (eqb count 0 || nat_lt 4096 count) ≡ false = rw (differs count 0 (λ none. omega (arith, some, none)), le-ltb 4096 count within_limit) refl in
    subst (λ (b : Bool). Encodes (cond b (refuse Value 24) (cond (eqb (17 + count) len) (Field count (λ _. with_message to epoch (shape.Piece part offset))) (refuse Length 24))) end rest) (sym through) spelled

piece_back : (part : Part) (offset len : ℕ) (bytes : List ℕ) (to : HostName) (epoch : ℕ) → offset < 2 ^ 32 → 0 < length bytes → length bytes ≤ 4096 → 17 + length bytes ≡ len
    → Encodes (piece len to epoch) (exact to epoch (shape.Piece part offset)) (part_byte part ∷ number offset ++ short (length bytes) ++ bytes)
piece_back part offset len bytes to epoch lt some within_limit size =
    let count = length bytes in
    let end = exact to epoch (shape.Piece part offset) in
    let all : Encodes (Field count (λ _. with_message to epoch (shape.Piece part offset))) end bytes = (omega arith, (refl, drop_all count bytes (omega arith))) in
    let chosen : Encodes (cond (eqb (17 + count) len) (Field count (λ _. with_message to epoch (shape.Piece part offset))) (refuse Length 24)) end bytes =
    subst (λ (b : Bool). Encodes (cond b (Field count (λ _. with_message to epoch (shape.Piece part offset))) (refuse Length 24)) end bytes) (sym (eq-eqb _ _ size)) all in
    to_bytes len to epoch part offset count end bytes lt (omega (arith, within_limit)) (counted len to epoch part offset count end bytes some within_limit chosen)

body_back : (b : Body) (to : HostName) (epoch : ℕ) → IsInRange b → HasPiece b → Encodes (body_of (kind_of b) (10 + length (fields_of b)) to epoch) (exact to epoch (shape_of b)) (fields_of b)
body_back (Offer totals) to epoch lt piece = offer_back totals to epoch lt.0 lt.1
body_back (Need part offset) to epoch lt piece = need_back part offset to epoch lt
body_back (Piece part offset bytes) to epoch lt piece = piece_back part offset (10 + length (fields_of (Piece part offset bytes))) bytes to epoch lt piece.0 piece.1 (omega arith)
body_back Prepared to epoch lt piece = (refl, refl)
body_back Commit to epoch lt piece = (refl, refl)
body_back Abort to epoch lt piece = (refl, refl)
body_back (Refuse reason value) to epoch lt piece = refusal_back reason value to epoch lt

fit_back : (b : Body) → IsInRange b → HasPiece b → fits (kind_of b) (10 + length (fields_of b)) ≡ true
fit_back (Offer totals) lt piece = eq-eqb _ _ (omega (arith, length-numbers totals, lt.0))
fit_back (Need part offset) lt piece = refl
fit_back (Piece part offset bytes) lt piece = lt-ltb _ _ (omega (arith, piece.0))
fit_back Prepared lt piece = refl
fit_back Commit lt piece = refl
fit_back Abort lt piece = refl
fit_back (Refuse reason value) lt piece = refl

pub moves_back : (m : Message) (bytes : List ℕ) → Moves m bytes → Encodes messages (exact m.to m.epoch (shape_of m.body)) bytes
moves_back m bytes moves =
    let within_limit = fields_room m.body moves.piece moves.in_range in
    let len = 10 + length (fields_of m.body) in
    let fit : Fits (kind_of m.body) len = ((omega arith, omega (arith, within_limit)), fit_back m.body moves.in_range moves.piece) in
    subst (λ (t : List ℕ). Encodes messages (exact m.to m.epoch (shape_of m.body)) t) (sym moves.spelled)
    (to_body len (kind_of m.body) m.to m.epoch (exact m.to m.epoch (shape_of m.body)) (fields_of m.body) fit moves.epoch (body_back m.body m.to m.epoch moves.in_range moves.piece))

-- ---- refusals

magic_back : (place byte : ℕ) → place < 4 → byte ≢ slice_index magic place → Encodes messages (failed (malformed Magic place)) (take place magic ++ byte ∷ [])
unfolding messages
magic_back place byte lt ne = encodes_other_magic magic 0 after_magic place place byte lt (omega arith) ne

version_back : (byte : ℕ) → byte ≢ 1 → Encodes messages (failed (malformed Version 4)) (magic ++ byte ∷ [])
unfolding messages
version_back byte ne = magic_encode magic 0 after_magic (failed (malformed Version 4)) (byte ∷ []) (encodes_other 1 Version 4 (number_then after_length) byte ne)

or_right : (a b : Bool) → b ≡ true → (a || b) ≡ true
or_right true b e = refl
or_right false b e = e

-- a test that keeps numbers out
kept_out : (low high n : ℕ) → IsOutside low high n → (nat_lt n low || nat_lt high n) ≡ true
kept_out low high n (inl less) = rw (lt-ltb n low less) refl
kept_out low high n (inr more) = or_right (nat_lt n low) (nat_lt high n) (lt-ltb high n more)

length_back : (len : ℕ) → IsOutside 10 4113 len → Encodes (after_length len) (failed (malformed Length 5)) []
length_back len out = subst (λ (b : Bool). Encodes (cond b (refuse Length 5) (name_then kind_byte kinds 9 (λ k. after_kind len k))) (failed (malformed Length 5)) []) (sym (kept_out 10 4113 len out)) (refl, refl)

unfit_back : (len : ℕ) (k : Kind) → fits k len ≡ false → Encodes (after_kind len k) (failed (malformed Length 5)) []
unfit_back len k unfit = subst (λ (b : Bool). Encodes (cond b (receiver k len) (refuse Length 5)) (failed (malformed Length 5)) []) (sym unfit) (refl, refl)

part_next : (k : Kind) (len : ℕ) (to : HostName) (epoch byte : ℕ) → BeginsWithPart k → 3 < byte → Encodes (body_of k len to epoch) (failed (malformed Value 19)) (byte ∷ [])
part_next kind.Need len to epoch byte has over = encodes_nameless part_byte parts 19 (λ part. number_then (λ offset. with_message to epoch (shape.Need part offset))) byte (nameless part_byte parts 0 byte parts_row (inr (omega (arith, over))))
part_next kind.Piece len to epoch byte has over = encodes_nameless part_byte parts 19 (λ part. number_then (λ offset. short_then (λ count. bytes_of len to epoch part offset count))) byte (nameless part_byte parts 0 byte parts_row (inr (omega (arith, over))))
part_next kind.Offer len to epoch byte has over = absurd has
part_next kind.Prepared len to epoch byte has over = absurd has
part_next kind.Commit len to epoch byte has over = absurd has
part_next kind.Abort len to epoch byte has over = absurd has
part_next kind.Refuse len to epoch byte has over = absurd has

above : (low high over b : ℕ) → over ≡ suc high → IsOutside low high b → (b < low) ⊎ (over ≤ b)
above low high over b is (inl less) = inl less
above low high over b is (inr more) = inr (omega (arith, more, is))

count_out : (count : ℕ) → IsOutside 1 4096 count → (eqb count 0 || nat_lt 4096 count) ≡ true
count_out count (inl less) = let none : count ≡ 0 = omega (arith, less) in rw (eq-eqb count 0 none) refl
count_out count (inr more) = or_right (eqb count 0) (nat_lt 4096 count) (lt-ltb 4096 count more)

count_back : (len : ℕ) (to : HostName) (epoch : ℕ) (part : Part) (offset count : ℕ) → IsOutside 1 4096 count → Encodes (bytes_of len to epoch part offset count) (failed (malformed Value 24)) []
count_back len to epoch part offset count out =
    subst (λ (b : Bool). Encodes (cond b (refuse Value 24) (cond (eqb (17 + count) len) (Field count (λ _. with_message to epoch (shape.Piece part offset))) (refuse Length 24))) (failed (malformed Value 24)) []) (sym (count_out count out)) (refl, refl)

unfit_count_back : (len : ℕ) (to : HostName) (epoch : ℕ) (part : Part) (offset count : ℕ) → 1 ≤ count → count ≤ 4096 → 17 + count ≢ len → Encodes (bytes_of len to epoch part offset count) (failed (malformed Length 24)) []
unfit_count_back len to epoch part offset count some within_limit unfit =
    counted len to epoch part offset count (failed (malformed Length 24)) [] some within_limit
    (subst (λ (b : Bool). Encodes (cond b (Field count (λ _. with_message to epoch (shape.Piece part offset))) (refuse Length 24)) (failed (malformed Length 24)) []) (sym (differs (17 + count) len unfit)) (refl, refl))

pub refuses_back : (fault : Malformed) (bytes : List ℕ) → Refuses fault bytes → Encodes messages (failed fault) bytes
refuses_back fault bytes (wrong_magic place byte lt ne) = magic_back place byte lt ne
refuses_back fault bytes (wrong_version byte ne) = version_back byte ne
refuses_back fault bytes (no_length len lt out) = to_length len (failed (malformed Length 5)) [] lt (length_back len out)
refuses_back fault bytes (no_kind len byte some out) =
    to_name len (failed (malformed Value 9)) (byte ∷ []) some (encodes_nameless kind_byte kinds 9 (λ k. after_kind len k) byte (nameless kind_byte kinds 1 byte kinds_row (above 1 7 8 byte refl out)))
refuses_back fault bytes (unfit_length len k some unfit) = to_kind len k (failed (malformed Length 5)) [] some (unfit_back len k unfit)
refuses_back fault bytes (no_receiver len k byte fit over) =
    to_receiver len k (failed (malformed Value 10)) (byte ∷ []) fit (encodes_nameless host_byte hosts 10 (λ to. long_then (λ epoch. body_of k len to epoch)) byte (nameless host_byte hosts 0 byte hosts_row (inr (omega (arith, over)))))
refuses_back fault bytes (no_part len k to epoch byte fit has lt over) = to_body len k to epoch (failed (malformed Value 19)) (byte ∷ []) fit lt (part_next k len to epoch byte has over)
refuses_back fault bytes (no_reason len to epoch byte fit lt out) =
    to_body len kind.Refuse to epoch (failed (malformed Value 19)) (byte ∷ []) fit lt
    (encodes_nameless reason_byte reasons 19 (λ reason. number_then (λ value. with_message to epoch (shape.Refuse reason value))) byte (nameless reason_byte reasons 1 byte reasons_row (above 1 6 7 byte refl out)))
refuses_back fault bytes (no_count len to epoch part offset count fit lt o_lt c_lt out) =
    to_body len kind.Piece to epoch (failed (malformed Value 24)) (part_byte part ∷ number offset ++ short count) fit lt
    (to_bytes len to epoch part offset count (failed (malformed Value 24)) [] o_lt c_lt (count_back len to epoch part offset count out))
refuses_back fault bytes (unfit_count len to epoch part offset count fit lt o_lt some within_limit unfit) =
    to_body len kind.Piece to epoch (failed (malformed Length 24)) (part_byte part ∷ number offset ++ short count) fit lt
    (to_bytes len to epoch part offset count (failed (malformed Length 24)) [] o_lt (omega (arith, within_limit)) (unfit_count_back len to epoch part offset count some within_limit unfit))
