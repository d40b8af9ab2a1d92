-- What is decoded as refused is refused by the table, and the other way round.
use Rattle.std.proofs.Common.{◌≡◌, ℕ, ◌+◌, ◌-◌, ◌<◌, ◌≤◌, suc, Bool, true, false, cond, List, [], ◌∷◌, ◌++◌, length, take, drop, get_or, None, Ok, Err, refl, sym, ap, subst, ◌∙◌, arith, inl, inr, ◌⊎◌, zero-add}
use Rattle.std.specs.Int.{w32, from_be_bytes}
use Rattle.std.proofs.Math.Seq.{take-add}
use Rattle.std.proofs.lemmas.List.{length-append, length-take, length-drop, take-append-le, get_or_append_left, take_more, get_or-drop, drop-drop}
use Rattle.vt_base.specs.Layout.{Layout, Ends, Field, Encodes, number_then}
use Rattle.vt_base.specs.Refusing.{malformed, refuse}
use Rattle.vt_base.proofs.Numbers.{encodes_field}
use Rattle.vt_base.proofs.Prefixes.{chosen}
use Rattle.vt_base.specs.declared.types.Kind.{Kind}
use Rattle.vt_base.specs.declared.types.Why.{Why}
use Rattle.vt_base.specs.declared.types.Why.TheVariants.{Magic, Version, Length, Value, Cut, Extra}
use Rattle.vt_base.specs.declared.types.Malformed.{Malformed}
use Rattle.tpm_core.specs.declared.algorithm.Banks.{Banks}
use Rattle.state_blobs.specs.Numbers.{version_of, banks_named}
use Rattle.state_blobs.specs.Encodings.{magic_of, slice, IsBlob, is_length, flag_fits}
use Rattle.state_blobs.specs.Blobs.{Ending, body_then, sized_then, after_magic, blob}
use Rattle.state_blobs.specs.Refusals.{FirstDiffersAt, BeginsAsBlob, length_field, IsRefusedFor, IsRefused}
use Rattle.vt_base.proofs.Magics.{magic_encode}
use Rattle.state_blobs.proofs.Magics.{magic_refuse, magic_cases, version_encodes, version_refuses, version_cases}

-- ---- from what is decoded to the table

differs_more : (i : ℕ) (prefix more wanted : List ℕ) → FirstDiffersAt i prefix wanted → FirstDiffersAt i (prefix ++ more) wanted
differs_more i prefix more wanted first = record {
  there = omega (arith, first.there, length-append prefix more);
  named = first.named;
  same = take-append-le i prefix more (omega (arith, first.there)) ∙ first.same;
  differs = λ e. first.differs (sym (get_or_append_left prefix more 0 i first.there) ∙ e);
}

-- a refusal, as a message may end
abbrev pub refused_with : Malformed → Ending
refused_with fault = Err fault

pub same_fault : (f g : Malformed) → refused_with g ≡ refused_with f → f ≡ g
same_fault f g e = cc

pub whole_or_refused : (f : Malformed) → ◌≡◌ {A = Ending} (Ok tt) (Err f) → ⊥
whole_or_refused f e = cc

-- the first byte of the body
body_refused : (kind : Kind) (banks : Banks) (fault : Malformed) (a b c d : ℕ) (rest more : List ℕ) → is_length kind banks (from_be_bytes w32 (a ∷ b ∷ c ∷ d ∷ [])) ≡ true
    → Encodes (body_then kind (from_be_bytes w32 (a ∷ b ∷ c ∷ d ∷ []))) (Err fault) rest → IsRefused kind fault ((magic_of kind ++ version_of banks ∷ a ∷ b ∷ c ∷ d ∷ rest) ++ more)
body_refused kind banks fault a b c d [] more is spelled = absurd (omega (arith, spelled.0))
body_refused kind banks fault a b c d (flag ∷ rest) more is spelled =
    elim (chosen (flag_fits kind (from_be_bytes w32 (a ∷ b ∷ c ∷ d ∷ [])) flag) (Field (from_be_bytes w32 (a ∷ b ∷ c ∷ d ∷ []) - 1) (λ _. Ends (Ok tt))) (refuse Value 9) (Err fault) rest spelled.1) [
      | inl (fits, then) ↦ absurd (whole_or_refused fault then.1.0)
      | inr (differs, ends) ↦
          subst (λ (f : Malformed). IsRefused kind f ((magic_of kind ++ version_of banks ∷ a ∷ b ∷ c ∷ d ∷ flag ∷ rest) ++ more)) (sym (same_fault fault (malformed Value 9) ends.0))
          (refl, omega arith, banks, refl, is, differs)
    ]

-- the length, and what follows it
length_refused : (kind : Kind) (banks : Banks) (fault : Malformed) (rest more : List ℕ) → Encodes (number_then (sized_then kind banks)) (Err fault) rest → IsRefused kind fault ((magic_of kind ++ version_of banks ∷ rest) ++ more)
length_refused kind banks fault [] more spelled = absurd (omega (arith, spelled.0))
length_refused kind banks fault (a ∷ []) more spelled = absurd (omega (arith, spelled.0))
length_refused kind banks fault (a ∷ b ∷ []) more spelled = absurd (omega (arith, spelled.0))
length_refused kind banks fault (a ∷ b ∷ c ∷ []) more spelled = absurd (omega (arith, spelled.0))
length_refused kind banks fault (a ∷ b ∷ c ∷ d ∷ rest) more spelled =
    elim (chosen (is_length kind banks (from_be_bytes w32 (a ∷ b ∷ c ∷ d ∷ []))) (body_then kind (from_be_bytes w32 (a ∷ b ∷ c ∷ d ∷ []))) (refuse Length 5) (Err fault) rest spelled.1) [
      | inr (is, ends) ↦
          subst (λ (f : Malformed). IsRefused kind f ((magic_of kind ++ version_of banks ∷ a ∷ b ∷ c ∷ d ∷ rest) ++ more)) (sym (same_fault fault (malformed Length 5) ends.0))
          (refl, omega arith, banks, refl, is)
      | inl (is, then) ↦ body_refused kind banks fault a b c d rest more is then
    ]

-- A prefix that is decoded as refused is refused by the table, whatever follows it.
pub prefix_refused : (kind : Kind) (fault : Malformed) (prefix more : List ℕ) → Encodes (blob kind) (Err fault) prefix → IsRefused kind fault (prefix ++ more)
unfolding blob
prefix_refused kind fault prefix more spelled =
    elim (magic_cases (magic_of kind) 0 (after_magic kind) (Err fault) prefix spelled) [
      | inr (i, first, ends) ↦
          subst (λ (f : Malformed). IsRefused kind f (prefix ++ more)) (sym (same_fault fault (malformed Magic i) (ap (λ (n : ℕ). refused_with (malformed Magic n)) (sym (zero-add i)) ∙ sym ends)))
          (differs_more i prefix more (magic_of kind) first)
      | inl (rest, is, then) ↦
          subst (λ (bytes : List ℕ). IsRefused kind fault (bytes ++ more)) (sym is)
          (elim (version_cases kind (Err fault) rest then) [
            | inr (other, unnamed, was, ends) ↦ version_refused kind fault other rest more unnamed was (same_fault fault (malformed Version 4) (sym ends))
            | inl (banks, behind, are, counted) ↦ subst (λ (bytes : List ℕ). IsRefused kind fault ((magic_of kind ++ bytes) ++ more)) (sym are) (length_refused kind banks fault behind more counted)
          ])
    ]
  where
    version_refused : (kind : Kind) (fault : Malformed) (other : ℕ) (rest more : List ℕ) → banks_named other ≡ None → rest ≡ other ∷ [] → fault ≡ malformed Version 4 → IsRefused kind fault ((magic_of kind ++ rest) ++ more)
    version_refused kind fault other rest more unnamed was is =
        subst (λ (bytes : List ℕ). IsRefused kind fault ((magic_of kind ++ bytes) ++ more)) (sym was)
        (subst (λ (f : Malformed). IsRefused kind f ((magic_of kind ++ other ∷ []) ++ more)) (sym is) (refl, omega arith, refl, unnamed))

-- ---- from the table to what is decoded

number_decoded : (next : ℕ → Layout Ending) (end : Ending) (field rest : List ℕ) → length field ≡ 4 → Encodes (next (from_be_bytes w32 field)) end rest → Encodes (number_then next) end (field ++ rest)
number_decoded next end field rest size spelled = encodes_field (λ (f : List ℕ). next (from_be_bytes w32 f)) end 4 field rest size spelled

-- some prefix of the bytes is decoded as refused
abbrev pub IsDecoded : Kind → Why → ℕ → List ℕ → Type 0
IsDecoded kind why place bytes = (n : ℕ) × Encodes (blob kind) (Err (malformed why place)) (take n bytes)

decoded_version : (kind : Kind) (bytes : List ℕ) → 4 < length bytes → take 4 bytes ≡ magic_of kind → banks_named (get_or bytes 4 0) ≡ None → IsDecoded kind Version 4 bytes
unfolding blob
decoded_version kind bytes long begins unnamed =
    let prefix : take 5 bytes ≡ magic_of kind ++ get_or bytes 4 0 ∷ [] = take_more bytes 4 0 long ∙ ap (λ (m : List ℕ). m ++ get_or bytes 4 0 ∷ []) begins in (
      5,
      subst (Encodes (blob kind) (Err (malformed Version 4))) (sym prefix)
          (magic_encode (magic_of kind) 0 (after_magic kind) (Err (malformed Version 4)) (get_or bytes 4 0 ∷ []) (version_refuses kind (get_or bytes 4 0) unnamed)),
    )

-- the length field and what follows it, behind a magic and a version in order
decoded_behind : (kind : Kind) (banks : Banks) (why : Why) (place n : ℕ) (bytes : List ℕ) → 9 ≤ length bytes → BeginsAsBlob kind banks bytes
    → Encodes (sized_then kind banks (length_field bytes)) (Err (malformed why place)) (take n (drop 9 bytes)) → IsDecoded kind why place bytes
unfolding blob
decoded_behind kind banks why place n bytes long begins spelled =
    let field : length (slice bytes 5 4) ≡ 4 = omega (arith, length-take 4 (drop 5 bytes), length-drop 5 bytes) in
    let exact = magic_encode (magic_of kind) 0 (after_magic kind) (Err (malformed why place)) (version_of banks ∷ (slice bytes 5 4 ++ take n (drop 9 bytes)))
    (version_encodes kind banks (Err (malformed why place)) (slice bytes 5 4 ++ take n (drop 9 bytes))
    (number_decoded (sized_then kind banks) (Err (malformed why place)) (slice bytes 5 4) (take n (drop 9 bytes)) field spelled)) in
    let prefix : take (5 + (4 + n)) bytes ≡ (magic_of kind ++ version_of banks ∷ []) ++ (slice bytes 5 4 ++ take n (drop 9 bytes)) =
    take-add 5 (4 + n) bytes ∙ ap (λ (f : List ℕ). f ++ take (4 + n) (drop 5 bytes)) begins
    ∙ ap (λ (r : List ℕ). (magic_of kind ++ version_of banks ∷ []) ++ r) (take-add 4 n (drop 5 bytes) ∙ ap (λ (r : List ℕ). slice bytes 5 4 ++ take n r) (drop-drop 4 5 bytes)) in
    (5 + (4 + n), subst (Encodes (blob kind) (Err (malformed why place))) (sym prefix) exact)

decoded_length : (kind : Kind) (banks : Banks) (bytes : List ℕ) → 9 ≤ length bytes → BeginsAsBlob kind banks bytes → is_length kind banks (length_field bytes) ≡ false → IsDecoded kind Length 5 bytes
decoded_length kind banks bytes long begins is =
    decoded_behind kind banks Length 5 0 bytes long begins (subst (λ (b : Bool). Encodes (cond b (body_then kind (length_field bytes)) (refuse Length 5)) (Err (malformed Length 5)) []) (sym is) (refl, refl))

exact_value : (kind : Kind) (banks : Banks) (bytes : List ℕ) → 9 < length bytes → BeginsAsBlob kind banks bytes → is_length kind banks (length_field bytes) ≡ true
    → flag_fits kind (length_field bytes) (get_or bytes 9 0) ≡ false → IsDecoded kind Value 9 bytes
exact_value kind banks bytes long begins is differs =
    let flag : take 1 (drop 9 bytes) ≡ get_or bytes 9 0 ∷ [] = take_more (drop 9 bytes) 0 0 (omega (arith, length-drop 9 bytes)) ∙ ap (λ (b : ℕ). b ∷ []) (get_or-drop 9 bytes 0 0) in
    let refused : Encodes (body_then kind (length_field bytes)) (Err (malformed Value 9)) (get_or bytes 9 0 ∷ []) =
    (omega arith, subst (λ (b : Bool). Encodes (cond b (Field (length_field bytes - 1) (λ _. Ends (Ok tt))) (refuse Value 9)) (Err (malformed Value 9)) []) (sym differs) (refl, refl)) in
    let chosen : Encodes (sized_then kind banks (length_field bytes)) (Err (malformed Value 9)) (get_or bytes 9 0 ∷ []) =
    subst (λ (b : Bool). Encodes (cond b (body_then kind (length_field bytes)) (refuse Length 5)) (Err (malformed Value 9)) (get_or bytes 9 0 ∷ [])) (sym is) refused in
    decoded_behind kind banks Value 9 1 bytes (omega arith) begins (rw flag chosen)

decoded_magic : (kind : Kind) (place : ℕ) (bytes : List ℕ) → FirstDiffersAt place bytes (magic_of kind) → IsDecoded kind Magic place bytes
unfolding blob
decoded_magic kind place bytes first =
    (suc place, subst (λ (n : ℕ). Encodes (blob kind) (Err (malformed Magic n)) (take (suc place) bytes)) (zero-add place) (magic_refuse (magic_of kind) 0 (after_magic kind) place bytes first))

-- What the table refuses for bytes that are there is decoded as refused; what it refuses for bytes behind a blob is decoded as one.
pub refused_is_decoded : (kind : Kind) (why : Why) (place : ℕ) (bytes : List ℕ) → IsRefusedFor kind why place bytes
    → IsDecoded kind why place bytes ⊎ ((place < length bytes) × IsBlob kind (take place bytes) × (why ≡ Extra))
refused_is_decoded kind Magic place bytes row = inl (decoded_magic kind place bytes row)
refused_is_decoded kind Version place bytes row = inl (subst (λ (p : ℕ). IsDecoded kind Version p bytes) (sym row.0) (decoded_version kind bytes row.1 row.2 row.3))
refused_is_decoded kind Length place bytes row = inl (subst (λ (p : ℕ). IsDecoded kind Length p bytes) (sym row.0) (decoded_length kind row.2 bytes row.1 row.3 row.4))
refused_is_decoded kind Value place bytes row = inl (subst (λ (p : ℕ). IsDecoded kind Value p bytes) (sym row.0) (exact_value kind row.2 bytes row.1 row.3 row.4 row.5))
refused_is_decoded kind Cut place bytes row = absurd row
refused_is_decoded kind Extra place bytes row = inr (row.0, row.1, refl)
