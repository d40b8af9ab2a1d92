-- What the head of a stream is, parsed from left to right.
use Rattle.std.proofs.Common.{◌≡◌, ◌≢◌, ℕ, ◌+◌, ◌<◌, ◌≤◌, Bool, true, false, cond, eqb, List, [], ◌∷◌, ◌++◌, length, take, drop, get_or, Result, Ok, Err, refl, sym, ap, subst, ◌∙◌, arith, lit≤}
use Rattle.std.proofs.lemmas.Bool.{eqb-true}
use Rattle.std.proofs.lemmas.List.{length-take, length-drop, length-append, take-take, take_at, drop_all}
use Rattle.std.proofs.Math.Seq.{take-add}
use Rattle.vt_base.specs.declared.types.Why.{Why}
use Rattle.vt_base.specs.declared.types.Why.TheVariants.{Magic, Version, Length, Value, Cut, Extra}
use Rattle.vt_base.specs.declared.types.Malformed.{Malformed}
use Rattle.vt_base.specs.declared.grammar.Missing.{Missing}
use Rattle.vt_base.specs.Layout.{Layout, Ends, Field, Encodes, IsOpen, IsWithin}
use Rattle.vt_base.specs.Parsing.{parsed}
use Rattle.vt_base.specs.Refusing.{malformed, refuse, magic_byte_then}
use Rattle.vt_base.specs.Within.{magic_byte_within}
use Rattle.vt_base.proofs.Prefixes.{passed}
use Rattle.vt_base.proofs.Layouts.{open_wants, encodes_prefix, wants_within, wants_positive}
use Rattle.vt_base.specs.Magics.{magic_then}
use Rattle.vt_base.proofs.Magics.{magic_byte_encodes, magic_encode}
use Rattle.state_blobs.specs.Blobs.{Ending}
use Rattle.saved_stream.specs.Numbers.{format_version}
use Rattle.saved_stream.specs.Streams.{magic}
use Rattle.saved_stream.specs.Refusals.{version_then, head, IsHeadRefusedFor, IsHeadRefused, HasHead}

-- ---- all refusals of a layout

-- each refusal of the layout is one of these
abbrev pub RefusesOnly : {V : Type 0} → (Malformed → Type 0) → Layout (Result V Malformed) → Type 0
RefusesOnly P (Ends (Ok v)) = Unit {0}
RefusesOnly P (Ends (Err fault)) = P fault
RefusesOnly P (Field n next) = (field : List ℕ) → RefusesOnly P (next field)

pub only_refusals : {V : Type 0} (P : Malformed → Type 0) (layout : Layout (Result V Malformed)) (fault : Malformed) (bytes : List ℕ) → RefusesOnly P layout → Encodes layout (Err fault) bytes → P fault
only_refusals P (Ends (Ok v)) fault bytes only spelled = absurd cc
only_refusals P (Ends (Err f)) fault bytes only spelled = let same : f ≡ fault = cc in subst P same only
only_refusals P (Field n next) fault bytes only spelled = only_refusals P (next (take n bytes)) fault (drop n bytes) (only (take n bytes)) spelled.1

pub either_refuses : {V : Type 0} (P : Malformed → Type 0) (b : Bool) (p q : Layout (Result V Malformed)) → RefusesOnly P p → RefusesOnly P q → RefusesOnly P (cond b p q)
either_refuses P true p q h k = h
either_refuses P false p q h k = k

-- ---- a magic byte that was passed

pub magic_byte_decoded : {V : Type 0} (byte : ℕ) (why : Why) (place : ℕ) (next : Layout (Result V Malformed)) (v : V) (bytes : List ℕ) → Encodes (magic_byte_then byte why place next) (Ok v) bytes
    → (rest : List ℕ) × (bytes ≡ byte ∷ rest) × Encodes next (Ok v) rest
magic_byte_decoded byte why place next v [] spelled = absurd (omega (arith, spelled.0))
magic_byte_decoded byte why place next v (b ∷ rest) spelled =
    let same = passed (eqb b byte) next (malformed why place) v rest spelled.1 in
    (rest, ap (λ (x : ℕ). x ∷ rest) (eqb-true _ _ same.0), same.1)

-- the bytes of a magic
pub magic_decoded : (marks : List ℕ) (place : ℕ) (next : Layout Ending) (bytes : List ℕ) → Encodes (magic_then marks place next) (Ok tt) bytes
    → (rest : List ℕ) × (bytes ≡ marks ++ rest) × Encodes next (Ok tt) rest
magic_decoded [] place next bytes spelled = (bytes, refl, spelled)
magic_decoded (mark ∷ marks) place next bytes spelled =
    let first = magic_byte_decoded mark Magic place (magic_then marks (place + 1) next) tt bytes spelled in
    let others = magic_decoded marks (place + 1) next first.0 first.2 in
    (others.0, first.1 ∙ ap (λ (r : List ℕ). mark ∷ r) others.1, others.2)

-- ---- the head

-- the magic and the version
abbrev pub begin : List ℕ
begin = magic ++ format_version ∷ []

-- a refusal of the head is no cut, and says of nothing behind it
abbrev pub IsOfHead : Malformed → Type 0
IsOfHead fault = (fault.why ≢ Cut) × (fault.why ≢ Extra)

pub head_refuses : RefusesOnly IsOfHead head
unfolding head
head_refuses =
    λ b. either_refuses IsOfHead (eqb (get_or b 0 0) 67) _ (refuse Magic 0) (λ b. either_refuses IsOfHead (eqb (get_or b 0 0) 82) _ (refuse Magic 1)
    (λ b. either_refuses IsOfHead (eqb (get_or b 0 0) 66) _ (refuse Magic 2) (λ b. either_refuses IsOfHead (eqb (get_or b 0 0) 83) _ (refuse Magic 3)
    (λ b. either_refuses IsOfHead (eqb (get_or b 0 0) format_version) _ (refuse Version 4) (λ _. tt) (λ e. cc, λ e. cc)) magic_refused) magic_refused) magic_refused) magic_refused
  where
    magic_refused : (Magic ≢ Cut) × (Magic ≢ Extra)
    magic_refused = (λ e. cc, λ e. cc)

head_within : IsWithin head 9
unfolding head
head_within =
    magic_byte_within 67 Magic 0 _ 9 (lit≤ tt) (magic_byte_within 82 Magic 1 _ 8 (lit≤ tt) (magic_byte_within 66 Magic 2 _ 7 (lit≤ tt) (magic_byte_within 83 Magic 3 _ 6 (lit≤ tt)
    (magic_byte_within format_version Version 4 _ 5 (lit≤ tt) (lit≤ tt, λ _. tt)))))

-- the length, of which nothing is checked
abbrev length_then : Layout Ending
length_then = Field 4 (λ length. Ends (Ok tt))

-- the version, and the length

-- a head that is decoded has nine bytes, the first of them the magic and the version
pub head_decoded : (bytes : List ℕ) → Encodes head (Ok tt) bytes → (rest : List ℕ) × (bytes ≡ begin ++ rest) × (length rest ≡ 4)
unfolding head
head_decoded bytes spelled =
    let marks = magic_decoded magic 0 version_then bytes spelled in
    let version = magic_byte_decoded format_version Version 4 length_then tt marks.0 marks.2 in
    let none : drop 4 version.0 ≡ [] = version.2.1.1 in
    (version.0, marks.1 ∙ ap (λ (t : List ℕ). magic ++ t) version.1, omega (arith, version.2.0, ap length none, length-drop 4 version.0))

-- and so it is decoded
pub head_encodes : (bytes : List ℕ) → HasHead bytes → Encodes head (Ok tt) (take 9 bytes)
unfolding head
head_encodes bytes h =
    let field : List ℕ = take 4 (drop 5 bytes) in
    let prefix : take 9 bytes ≡ begin ++ field = take-add 5 4 bytes ∙ ap (λ (f : List ℕ). f ++ take 4 (drop 5 bytes)) h.begins in
    let size : length field ≡ 4 = omega (arith, length-take 4 (drop 5 bytes), length-drop 5 bytes, h.long) in
    let last : Encodes length_then (Ok tt) field = (omega (arith, size), (refl, drop_all 4 field (omega (arith, size)))) in
    subst (Encodes head (Ok tt)) (sym prefix) (magic_encode magic 0 version_then (Ok tt) (format_version ∷ field) (magic_byte_encodes format_version Version 4 length_then (Ok tt) field last))

-- ---- for the parser

pub cut_if_open : (bytes : List ℕ) (lack : Missing) → parsed head bytes ≡ Err lack → (length bytes < 9) × IsOpen head bytes
cut_if_open bytes lack is =
    let some = wants_positive head bytes lack.0 is in
    (omega (arith, wants_within head 9 bytes lack.0 head_within is, some), open_wants head bytes lack.0 is)

table : (why : Why) (place : ℕ) (bytes : List ℕ) → why ≢ Cut → (n : ℕ) × Encodes head (Err (malformed why place)) (take n bytes) → IsHeadRefusedFor why place bytes
table Magic place bytes other exact = exact
table Version place bytes other exact = exact
table Length place bytes other exact = exact
table Value place bytes other exact = exact
table Cut place bytes other exact = absurd (other refl)
table Extra place bytes other exact = exact

pub refused_if_decoded : (bytes : List ℕ) (fault : Malformed) → parsed head bytes ≡ Ok (Err fault) → IsHeadRefused fault bytes
refused_if_decoded bytes fault is =
    let prefix = encodes_prefix head bytes (Err fault) is in
    table fault.why fault.place bytes (only_refusals IsOfHead head fault (take prefix.0 bytes) head_refuses prefix.2).0 (prefix.0, prefix.2)

pub head_if_decoded : (bytes : List ℕ) → parsed head bytes ≡ Ok (Ok tt) → HasHead bytes
head_if_decoded bytes is =
    let prefix = encodes_prefix head bytes (Ok tt) is in
    let exact = head_decoded (take prefix.0 bytes) prefix.2 in
    let nine : 9 ≤ length bytes = omega (arith, ap length exact.1, length-append begin exact.0, exact.2, length-take prefix.0 bytes) in
    let begins : take 5 (take prefix.0 bytes) ≡ begin = ap (take 5) exact.1 ∙ take_at begin exact.0 5 refl in
    let long : 5 ≤ prefix.0 = omega (arith, ap length exact.1, length-append begin exact.0, exact.2, length-take prefix.0 bytes) in
    record { long = nine; begins = sym (take-take 5 prefix.0 bytes long) ∙ begins }
