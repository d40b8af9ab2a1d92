-- What the layout of messages says is what the rows say: a message by its encoding, or a refusal.
use Rattle.std.proofs.Common.{◌≡◌, ◌≢◌, ℕ, ◌+◌, ◌^◌, ◌<◌, ◌≤◌, Bool, true, false, cond, eqb, List, [], ◌∷◌, ◌++◌, length, take, drop, None, Ok, Err, refl, sym, ap, subst, arith, inl, inr, ◌⊎◌}
use Rattle.std.specs.Prelude.{◌||◌, nat_lt}
use Rattle.std.proofs.lemmas.Bool.{eqb-true, eqb-false, ltb-true, ltb-false}
use Rattle.std.proofs.lemmas.List.{length-drop}
use Rattle.vt_base.specs.Numbers.{IsBytes, short, number, long}
use Rattle.vt_base.specs.Layout.{Field, Encodes, number_then, short_then, long_then}
use Rattle.vt_base.specs.declared.types.Why.TheVariants.{Magic, Version, Length, Value}
use Rattle.vt_base.specs.declared.types.Malformed.{Malformed}
use Rattle.vt_base.specs.Refusing.{malformed, refuse}
use Rattle.vt_base.proofs.Prefixes.{number_prefix, long_prefix, short_prefix, chosen}
use Rattle.move_codec.specs.declared.message.Message.{Message}
use Rattle.move_codec.specs.declared.message.Body.{Body}
use Rattle.move_codec.specs.declared.message.Body.TheVariants as body
use Rattle.vt_base.specs.declared.types.HostName.{HostName}
use Rattle.move_codec.specs.declared.names.Part.{Part}
use Rattle.move_codec.specs.declared.names.Kind.{Kind}
use Rattle.move_codec.specs.declared.names.Kind.TheVariants as kind
use Rattle.move_codec.specs.declared.outline.Outline.{Outline}
use Rattle.move_codec.specs.declared.outline.Shape.TheVariants as shape
use Rattle.move_codec.specs.Names.{named, host_byte, hosts, part_byte, parts, reason_byte, reasons, kind_byte, kinds, fits}
use Rattle.move_codec.specs.Messages.{Ending, outline, with_message, name_then, offer, need, piece, bytes_of, refusal, body_of, receiver, after_kind, after_length, after_magic, messages}
use Rattle.move_codec.specs.Outlines.{message_of}
use Rattle.move_codec.specs.Encoding.{Moves, HasPiece, IsInRange, magic, before_length, before_kind, before_receiver, before_body, kind_of, fields_of}
use Rattle.move_codec.specs.Refusals.{Refuses, IsOutside, IsLength, Fits, BeginsWithPart, before_bytes, wrong_magic, wrong_version, no_length, no_kind, unfit_length, no_receiver, no_part, no_reason, no_count, unfit_count}
use Rattle.move_codec.proofs.Named.{unnamed, hosts_row, parts_row, reasons_row, kinds_row}
use Rattle.move_codec.proofs.Steps.{prefix_case, magic_byte_case, magic_case, name_case}

abbrev pub Says : Ending → List ℕ → Type 0
Says (Ok o) bytes = Moves (message_of o (drop 26 bytes)) bytes
Says (Err fault) bytes = Refuses fault bytes

abbrev ended : Outline → Ending
ended o = Ok o

abbrev failed : Malformed → Ending
failed fault = Err fault

refused : (fault : Malformed) (end : Ending) (bytes : List ℕ) → failed fault ≡ end → Refuses fault bytes → Says end bytes
refused fault end bytes is refuses = subst (λ (e : Ending). Says e bytes) is refuses

refused_here : (fault : Malformed) (end : Ending) (text : List ℕ → List ℕ) (rest : List ℕ) → failed fault ≡ end → rest ≡ [] → Refuses fault (text []) → Says end (text rest)
refused_here fault end text rest is none refuses = subst (λ (r : List ℕ). Says end (text r)) (sym none) (refused fault end (text []) is refuses)

-- a message that ends here
whole_says : (o : Outline) (end : Ending) (text : List ℕ → List ℕ) (rest : List ℕ) → (ended o ≡ end) × (rest ≡ []) → Says (ended o) (text []) → Says end (text rest)
whole_says o end text rest (is, none) says = subst (λ (r : List ℕ). Says end (text r)) (sym none) (subst (λ (e : Ending). Says e (text [])) is says)

abbrev message : HostName → ℕ → Body → Message
message to epoch b = record { to = to; epoch = epoch; body = b }

body_moves : (b : Body) (len : ℕ) (to : HostName) (epoch : ℕ) → epoch < 2 ^ 64 → IsInRange b → HasPiece b → len ≡ 10 + length (fields_of b) → Moves (message to epoch b) (before_body len (kind_of b) to epoch ++ fields_of b)
body_moves b len to epoch lt in_range piece size = record { epoch = lt; in_range = in_range; piece = piece; spelled = ap (λ (n : ℕ). before_body n (kind_of b) to epoch ++ fields_of b) size }

-- ---- bodies

offer_says : (len : ℕ) (to : HostName) (epoch : ℕ) (end : Ending) (rest : List ℕ) → Fits kind.Offer len → epoch < 2 ^ 64 → IsBytes rest → Encodes (offer to epoch) end rest → Says end (before_body len kind.Offer to epoch ++ rest)
offer_says len to epoch end rest fit lt fits spelled =
    let prefix = before_body len kind.Offer to epoch in
    prefix_case (λ t. Says end (prefix ++ t)) _ end (2 ^ 32) number rest (number_prefix (λ a. number_then (λ b. number_then (λ c. number_then (λ d. with_message to epoch (shape.Offer (a ∷ b ∷ c ∷ d ∷ [])))))) end rest fits spelled) (λ a r a_lt f s.
    prefix_case (λ t. Says end (prefix ++ number a ++ t)) _ end (2 ^ 32) number r (number_prefix (λ b. number_then (λ c. number_then (λ d. with_message to epoch (shape.Offer (a ∷ b ∷ c ∷ d ∷ []))))) end r f s) (λ b r b_lt f s.
    prefix_case (λ t. Says end (prefix ++ number a ++ number b ++ t)) _ end (2 ^ 32) number r (number_prefix (λ c. number_then (λ d. with_message to epoch (shape.Offer (a ∷ b ∷ c ∷ d ∷ [])))) end r f s) (λ c r c_lt f s.
    prefix_case (λ t. Says end (prefix ++ number a ++ number b ++ number c ++ t)) _ end (2 ^ 32) number r (number_prefix (λ d. with_message to epoch (shape.Offer (a ∷ b ∷ c ∷ d ∷ []))) end r f s) (λ d r d_lt f s.
    let totals = a ∷ b ∷ c ∷ d ∷ [] in
    whole_says (outline to epoch (shape.Offer totals)) end (λ t. prefix ++ number a ++ number b ++ number c ++ number d ++ t) r s
    (body_moves (body.Offer totals) len to epoch lt (refl, (a_lt, (b_lt, (c_lt, (d_lt, tt))))) tt (eqb-true _ _ fit.1))))))

no_part_says : (k : Kind) (len : ℕ) (to : HostName) (epoch : ℕ) (end : Ending) (b : ℕ) → Fits k len → BeginsWithPart k → epoch < 2 ^ 64 → named part_byte parts b ≡ None → failed (malformed Value 19) ≡ end → Says end (before_body len k to epoch ++ b ∷ [])
no_part_says k len to epoch end b fit has lt none is =
    let over : 3 < b = elim (unnamed part_byte parts 0 b parts_row none) [
      | inl less ↦ absurd (omega (arith, less))
      | inr more ↦ omega (arith, more)
    ] in
    refused (malformed Value 19) end (before_body len k to epoch ++ b ∷ []) is (no_part len k to epoch b fit has lt over)

need_says : (len : ℕ) (to : HostName) (epoch : ℕ) (end : Ending) (rest : List ℕ) → Fits kind.Need len → epoch < 2 ^ 64 → IsBytes rest → Encodes (need to epoch) end rest → Says end (before_body len kind.Need to epoch ++ rest)
need_says len to epoch end rest fit lt fits spelled =
    let prefix = before_body len kind.Need to epoch in
    name_case (λ t. Says end (prefix ++ t)) part_byte parts 19 (λ part. number_then (λ offset. with_message to epoch (shape.Need part offset))) end rest fits spelled
    (λ b none is. no_part_says kind.Need len to epoch end b fit tt lt none is) (λ part r f s.
    prefix_case (λ t. Says end (prefix ++ part_byte part ∷ t)) _ end (2 ^ 32) number r (number_prefix (λ offset. with_message to epoch (shape.Need part offset)) end r f s) (λ offset r o_lt f s.
    whole_says (outline to epoch (shape.Need part offset)) end (λ t. prefix ++ part_byte part ∷ number offset ++ t) r s
    (body_moves (body.Need part offset) len to epoch lt o_lt tt (eqb-true _ _ fit.1))))

or_true : (a b : Bool) → (a || b) ≡ true → (a ≡ true) ⊎ (b ≡ true)
or_true true b e = inl refl
or_true false b e = inr e

or_false : (a b : Bool) → (a || b) ≡ false → (a ≡ false) × (b ≡ false)
or_false true b e = absurd cc
or_false false b e = (refl, e)

-- a number that two tests keep out, and one that they let through
outside : (low high n : ℕ) → ((nat_lt n low) || (nat_lt high n)) ≡ true → IsOutside low high n
outside low high n out = elim (or_true (nat_lt n low) (nat_lt high n) out) [
  | inl less ↦ inl (ltb-true _ _ less)
  | inr more ↦ inr (ltb-true _ _ more)
]

no_bytes : (count : ℕ) → ((eqb count 0) || (nat_lt 4096 count)) ≡ true → IsOutside 1 4096 count
no_bytes count out = elim (or_true (eqb count 0) (nat_lt 4096 count) out) [
  | inl none ↦ let is : count ≡ 0 = eqb-true _ _ none in inl (omega (arith, is))
  | inr more ↦ inr (ltb-true _ _ more)
]

bytes_says : (len : ℕ) (to : HostName) (epoch : ℕ) (part : Part) (offset count : ℕ) (end : Ending) (rest : List ℕ) → Fits kind.Piece len → epoch < 2 ^ 64 → offset < 2 ^ 32 → count < 2 ^ 16
    → Encodes (bytes_of len to epoch part offset count) end rest → Says end (before_bytes len to epoch part offset count ++ rest)
bytes_says len to epoch part offset count end rest fit lt o_lt c_lt spelled =
    let bytes_then = Field count (λ _. with_message to epoch (shape.Piece part offset)) in
    let prefix = before_bytes len to epoch part offset count in
    elim (chosen (eqb count 0 || nat_lt 4096 count) (refuse Value 24) (cond (eqb (17 + count) len) bytes_then (refuse Length 24)) end rest spelled) [
      | inl (out, (is, none)) ↦ refused_here (malformed Value 24) end (λ t. prefix ++ t) rest is none (no_count len to epoch part offset count fit lt o_lt c_lt (no_bytes count out))
      | inr (some, then) ↦
          let bounds = or_false (eqb count 0) (nat_lt 4096 count) some in
          let nonzero : count ≢ 0 = eqb-false _ _ bounds.0 in
          let most : count ≤ 4096 = ltb-false _ _ bounds.1 in
          elim (chosen (eqb (17 + count) len) bytes_then (refuse Length 24) end rest then) [
            | inl (same, (enough, (is, none))) ↦
                let size : 17 + count ≡ len = eqb-true _ _ same in
                let all : length rest ≡ count = omega (arith, enough, length-drop count rest, ap length none) in
                let moves : Moves (message to epoch (body.Piece part offset rest)) (before_bytes len to epoch part offset (length rest) ++ rest) =
                body_moves (body.Piece part offset rest) len to epoch lt o_lt (omega (arith, all, nonzero), omega (arith, all, most)) (omega (arith, all, size)) in
                let says : Says (ended (outline to epoch (shape.Piece part offset))) (before_bytes len to epoch part offset (length rest) ++ rest) = moves in
                subst (λ (e : Ending). Says e (before_bytes len to epoch part offset count ++ rest)) is
                (subst (λ (n : ℕ). Says (ended (outline to epoch (shape.Piece part offset))) (before_bytes len to epoch part offset n ++ rest)) all says)
            | inr (differs, (is, none)) ↦ refused_here (malformed Length 24) end (λ t. prefix ++ t) rest is none (unfit_count len to epoch part offset count fit lt o_lt (omega (arith, nonzero)) most (eqb-false _ _ differs))
          ]
    ]

piece_says : (len : ℕ) (to : HostName) (epoch : ℕ) (end : Ending) (rest : List ℕ) → Fits kind.Piece len → epoch < 2 ^ 64 → IsBytes rest → Encodes (piece len to epoch) end rest → Says end (before_body len kind.Piece to epoch ++ rest)
piece_says len to epoch end rest fit lt fits spelled =
    let prefix = before_body len kind.Piece to epoch in
    name_case (λ t. Says end (prefix ++ t)) part_byte parts 19 (λ part. number_then (λ offset. short_then (λ count. bytes_of len to epoch part offset count))) end rest fits spelled
    (λ b none is. no_part_says kind.Piece len to epoch end b fit tt lt none is) (λ part r f s.
    prefix_case (λ t. Says end (prefix ++ part_byte part ∷ t)) _ end (2 ^ 32) number r (number_prefix (λ offset. short_then (λ count. bytes_of len to epoch part offset count)) end r f s) (λ offset r o_lt f s.
    prefix_case (λ t. Says end (prefix ++ part_byte part ∷ number offset ++ t)) _ end (2 ^ 16) short r (short_prefix (λ count. bytes_of len to epoch part offset count) end r f s) (λ count r c_lt f s.
    bytes_says len to epoch part offset count end r fit lt o_lt c_lt s)))

refusal_says : (len : ℕ) (to : HostName) (epoch : ℕ) (end : Ending) (rest : List ℕ) → Fits kind.Refuse len → epoch < 2 ^ 64 → IsBytes rest → Encodes (refusal to epoch) end rest → Says end (before_body len kind.Refuse to epoch ++ rest)
refusal_says len to epoch end rest fit lt fits spelled =
    let prefix = before_body len kind.Refuse to epoch in
    name_case (λ t. Says end (prefix ++ t)) reason_byte reasons 19 (λ reason. number_then (λ value. with_message to epoch (shape.Refuse reason value))) end rest fits spelled
    (λ b none is.
    let out : IsOutside 1 6 b = elim (unnamed reason_byte reasons 1 b reasons_row none) [
      | inl less ↦ inl less
      | inr more ↦ inr (omega (arith, more))
    ] in
    refused (malformed Value 19) end (prefix ++ b ∷ []) is (no_reason len to epoch b fit lt out)) (λ reason r f s.
    prefix_case (λ t. Says end (prefix ++ reason_byte reason ∷ t)) _ end (2 ^ 32) number r (number_prefix (λ value. with_message to epoch (shape.Refuse reason value)) end r f s) (λ value r v_lt f s.
    whole_says (outline to epoch (shape.Refuse reason value)) end (λ t. prefix ++ reason_byte reason ∷ number value ++ t) r s
    (body_moves (body.Refuse reason value) len to epoch lt v_lt tt (eqb-true _ _ fit.1))))

body_says : (k : Kind) (len : ℕ) (to : HostName) (epoch : ℕ) (end : Ending) (rest : List ℕ) → Fits k len → epoch < 2 ^ 64 → IsBytes rest → Encodes (body_of k len to epoch) end rest → Says end (before_body len k to epoch ++ rest)
body_says kind.Offer len to epoch end rest fit lt fits spelled = offer_says len to epoch end rest fit lt fits spelled
body_says kind.Need len to epoch end rest fit lt fits spelled = need_says len to epoch end rest fit lt fits spelled
body_says kind.Piece len to epoch end rest fit lt fits spelled = piece_says len to epoch end rest fit lt fits spelled
body_says kind.Prepared len to epoch end rest fit lt fits spelled = whole_says (outline to epoch shape.Prepared) end (λ t. before_body len kind.Prepared to epoch ++ t) rest spelled (body_moves body.Prepared len to epoch lt tt tt (eqb-true _ _ fit.1))
body_says kind.Commit len to epoch end rest fit lt fits spelled = whole_says (outline to epoch shape.Commit) end (λ t. before_body len kind.Commit to epoch ++ t) rest spelled (body_moves body.Commit len to epoch lt tt tt (eqb-true _ _ fit.1))
body_says kind.Abort len to epoch end rest fit lt fits spelled = whole_says (outline to epoch shape.Abort) end (λ t. before_body len kind.Abort to epoch ++ t) rest spelled (body_moves body.Abort len to epoch lt tt tt (eqb-true _ _ fit.1))
body_says kind.Refuse len to epoch end rest fit lt fits spelled = refusal_says len to epoch end rest fit lt fits spelled

-- ---- the header

receiver_says : (k : Kind) (len : ℕ) (end : Ending) (rest : List ℕ) → Fits k len → IsBytes rest → Encodes (receiver k len) end rest → Says end (before_receiver len k ++ rest)
receiver_says k len end rest fit fits spelled =
    let prefix = before_receiver len k in
    name_case (λ t. Says end (prefix ++ t)) host_byte hosts 10 (λ to. long_then (λ epoch. body_of k len to epoch)) end rest fits spelled
    (λ b none is.
    let over : 1 < b = elim (unnamed host_byte hosts 0 b hosts_row none) [
      | inl less ↦ absurd (omega (arith, less))
      | inr more ↦ omega (arith, more)
    ] in
    refused (malformed Value 10) end (prefix ++ b ∷ []) is (no_receiver len k b fit over)) (λ to r f s.
    prefix_case (λ t. Says end (prefix ++ host_byte to ∷ t)) _ end (2 ^ 64) long r (long_prefix (λ epoch. body_of k len to epoch) end r f s) (λ epoch r lt f s.
    body_says k len to epoch end r fit lt f s))

kind_says : (len : ℕ) (k : Kind) (end : Ending) (rest : List ℕ) → IsLength len → IsBytes rest → Encodes (after_kind len k) end rest → Says end (before_receiver len k ++ rest)
kind_says len k end rest some bytes spelled =
    elim (chosen (fits k len) (receiver k len) (refuse Length 5) end rest spelled) [
      | inl (fit, then) ↦ receiver_says k len end rest (some, fit) bytes then
      | inr (unfit, (is, none)) ↦ refused_here (malformed Length 5) end (λ t. before_receiver len k ++ t) rest is none (unfit_length len k some unfit)
    ]

length_says : (len : ℕ) (end : Ending) (rest : List ℕ) → len < 2 ^ 32 → IsBytes rest → Encodes (after_length len) end rest → Says end (before_kind len ++ rest)
length_says len end rest lt bytes spelled =
    let prefix = before_kind len in
    elim (chosen (nat_lt len 10 || nat_lt 4113 len) (refuse Length 5) (name_then kind_byte kinds 9 (λ k. after_kind len k)) end rest spelled) [
      | inl (out, (is, none)) ↦ refused_here (malformed Length 5) end (λ t. prefix ++ t) rest is none (no_length len lt (outside 10 4113 len out))
      | inr (some, then) ↦
          let bounds = or_false (nat_lt len 10) (nat_lt 4113 len) some in
          let is_length : IsLength len = (ltb-false _ _ bounds.0, ltb-false _ _ bounds.1) in
          name_case (λ t. Says end (prefix ++ t)) kind_byte kinds 9 (λ k. after_kind len k) end rest bytes then
          (λ b none is.
          let out : IsOutside 1 7 b = elim (unnamed kind_byte kinds 1 b kinds_row none) [
            | inl less ↦ inl less
            | inr more ↦ inr (omega (arith, more))
          ] in
          refused (malformed Value 9) end (prefix ++ b ∷ []) is (no_kind len b is_length out)) (λ k r f s. kind_says len k end r is_length f s)
    ]

at_start : (place n : ℕ) → place ≡ 0 + n → place ≡ n
at_start place n at = omega (arith, at)

pub says : (end : Ending) (bytes : List ℕ) → IsBytes bytes → Encodes messages end bytes → Says end bytes
unfolding messages
says end bytes fits spelled =
    magic_case (λ t. Says end t) magic 0 after_magic end bytes fits spelled
    (λ n place b lt at ne is. refused (malformed Magic n) end (take n magic ++ b ∷ []) (subst (λ (p : ℕ). failed (malformed Magic p) ≡ end) (at_start place n at) is) (wrong_magic n b lt ne)) (λ r f s.
    magic_byte_case (λ t. Says end (magic ++ t)) 1 Version 4 (number_then after_length) end r f s (λ b ne is. refused (malformed Version 4) end (magic ++ b ∷ []) is (wrong_version b ne)) (λ r f s.
    prefix_case (λ t. Says end (before_length ++ t)) _ end (2 ^ 32) number r (number_prefix after_length end r f s) (λ len r lt f s. length_says len end r lt f s)))
