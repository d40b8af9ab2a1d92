-- What the layout of replies says is what their encodings say.
use Rattle.std.proofs.Common.{◌≡◌, ◌≢◌, ℕ, ◌-◌, ◌^◌, ◌<◌, ◌≤◌, Bool, cond, ltb, eqb, List, [], ◌∷◌, ◌++◌, length, drop, replicate, Ok, Err, refl, sym, ap, subst, ◌∙◌, arith, inl, inr, ◌⊎◌, lit<, lit≤}
use Rattle.std.proofs.lemmas.Bool.{ltb-false, ltb-true, le-ltb, lt-ltb, eqb-true, eqb-false, ne_eqb, cases_lt}
use Rattle.std.proofs.lemmas.List.{length-drop, drop_all}
use Rattle.std.proofs.lemmas.Nat.{from_be_bytes-to_be_bytes_8}
use Rattle.vt_base.specs.Numbers.{IsBytes, number, long}
use Rattle.vt_base.specs.Layout.{Layout, Ends, Field, Encodes, IsOpen, HasFirst, byte_then, number_then, long_then}
use Rattle.vt_base.proofs.Prefixes.{byte_prefix, number_prefix, long_prefix, chosen}
use Rattle.vt_base.proofs.Layouts.{open_start}
use Rattle.vt_base.proofs.Numbers.{encodes_number}
use Rattle.ctrl_codec.specs.declared.request_code.RequestCode.{RequestCode}
use Rattle.ctrl_codec.specs.declared.request_code.RequestCode.TheVariants.{GetCapability, Init, Shutdown, GetEstablished, SetLocality, CancelCommand, StoreVolatile, ResetEstablished, GetStateBlob, SetStateBlob, Stop, GetConfig, SetBufferSize}
use Rattle.ctrl_codec.specs.declared.reply.Reply.{Reply}
use Rattle.ctrl_codec.specs.declared.reply.Reply.TheVariants as reply
use Rattle.ctrl_codec.specs.declared.reply.ReplyFault.{ReplyFault}
use Rattle.ctrl_codec.specs.declared.reply.ReplyFault.TheVariants.{Length, Value}
use Rattle.ctrl_codec.specs.Replies.{ReplyEnding, IsReplyToCode, ReplyIsInRange, ReplyHasData, encode_reply, Says, IsNotZeroAt, RefusesReply, with_reply, zero_then, established, blob, replies_to}

-- What the bytes of an ending are.
abbrev pub SaysEnding : RequestCode → ReplyEnding → List ℕ → Type 0
SaysEnding c (Ok r) bytes = Says c r (drop 16 bytes) bytes
SaysEnding c (Err fault) bytes = RefusesReply c fault bytes

place : (c : RequestCode) (d end : ReplyEnding) (text bytes : List ℕ) → d ≡ end → bytes ≡ text → SaysEnding c d text → SaysEnding c end bytes
place c d end text bytes same parts says =
    subst (λ (e : ReplyEnding). SaysEnding c e bytes) same (subst (λ (t : List ℕ). SaysEnding c d t) (sym parts) says)

result_says : (c : RequestCode) (end : ReplyEnding) (bytes : List ℕ) → ((n : ℕ) → IsReplyToCode c (reply.Result n)) → IsBytes bytes → Encodes (number_then (λ n. with_reply (reply.Result n))) end bytes → SaysEnding c end bytes
result_says c end bytes answers fits h =
    let a = number_prefix (λ n. with_reply (reply.Result n)) end bytes fits h in
    place c (Ok (reply.Result a.value)) end (number a.value) bytes a.spelled.0 (a.parts ∙ ap (λ (t : List ℕ). number a.value ++ t) a.spelled.1)
    (record { answers = answers a.value; in_range = a.below; has_data = refl; spelled = refl })

capability_says : (end : ReplyEnding) (bytes : List ℕ) → IsBytes bytes → Encodes (long_then (λ n. with_reply (reply.Capability n))) end bytes → SaysEnding GetCapability end bytes
capability_says end bytes fits h =
    let a = long_prefix (λ n. with_reply (reply.Capability n)) end bytes fits h in
    place GetCapability (Ok (reply.Capability a.value)) end (long a.value) bytes a.spelled.0 (a.parts ∙ ap (λ (t : List ℕ). long a.value ++ t) a.spelled.1)
    (record { answers = tt; in_range = a.below; has_data = refl; spelled = refl })

two_parts : (bytes w x : List ℕ) (a b : ℕ) → bytes ≡ number a ++ w → w ≡ number b ++ x → x ≡ [] → bytes ≡ number a ++ number b
two_parts bytes w x a b p q r = p ∙ ap (λ (t : List ℕ). number a ++ t) (q ∙ ap (λ (t : List ℕ). number b ++ t) r)

config_says : (end : ReplyEnding) (bytes : List ℕ) → IsBytes bytes → Encodes (number_then (λ m. number_then (λ n. with_reply (reply.Config m n)))) end bytes → SaysEnding GetConfig end bytes
config_says end bytes fits h =
    let a = number_prefix (λ m. number_then (λ n. with_reply (reply.Config m n))) end bytes fits h in
    let b = number_prefix (λ n. with_reply (reply.Config a.value n)) end a.rest a.fits a.spelled in
    place GetConfig (Ok (reply.Config a.value b.value)) end (number a.value ++ number b.value) bytes b.spelled.0
    (two_parts bytes a.rest b.rest a.value b.value a.parts b.parts b.spelled.1)
    (record { answers = tt; in_range = (a.below, b.below); has_data = refl; spelled = refl })

-- four numbers, and what follows them
pub record Four (next : ℕ → ℕ → ℕ → ℕ → Layout ReplyEnding) (end : ReplyEnding) (bytes : List ℕ) : Type 0 where
  pub a : ℕ
  pub b : ℕ
  pub c : ℕ
  pub d : ℕ
  pub rest : List ℕ
  pub below : (a < 2 ^ 32) × (b < 2 ^ 32) × (c < 2 ^ 32) × (d < 2 ^ 32)
  pub parts : bytes ≡ number a ++ number b ++ number c ++ number d ++ rest
  pub spelled : Encodes (next a b c d) end rest

four_parts : (bytes w x y z : List ℕ) (a b c d : ℕ) → bytes ≡ number a ++ w → w ≡ number b ++ x → x ≡ number c ++ y → y ≡ number d ++ z → bytes ≡ number a ++ number b ++ number c ++ number d ++ z
four_parts bytes w x y z a b c d p q r s =
    p ∙ ap (λ (t : List ℕ). number a ++ t) (q ∙ ap (λ (t : List ℕ). number b ++ t) (r ∙ ap (λ (t : List ℕ). number c ++ t) s))

four : (next : ℕ → ℕ → ℕ → ℕ → Layout ReplyEnding) (end : ReplyEnding) (bytes : List ℕ) → IsBytes bytes
    → Encodes (number_then (λ a. number_then (λ b. number_then (λ c. number_then (λ d. next a b c d))))) end bytes → Four next end bytes
four next end bytes fits h =
    let a = number_prefix (λ a. number_then (λ b. number_then (λ c. number_then (λ d. next a b c d)))) end bytes fits h in
    let b = number_prefix (λ b. number_then (λ c. number_then (λ d. next a.value b c d))) end a.rest a.fits a.spelled in
    let c = number_prefix (λ c. number_then (λ d. next a.value b.value c d)) end b.rest b.fits b.spelled in
    let d = number_prefix (λ d. next a.value b.value c.value d) end c.rest c.fits c.spelled in
    record {
      a = a.value;
      b = b.value;
      c = c.value;
      d = d.value;
      rest = d.rest;
      below = (a.below, b.below, c.below, d.below);
      parts = four_parts bytes a.rest b.rest c.rest d.rest a.value b.value c.value d.value a.parts b.parts c.parts d.parts;
      spelled = d.spelled;
    }

buffer_says : (end : ReplyEnding) (bytes : List ℕ) → IsBytes bytes → Encodes (number_then (λ a. number_then (λ b. number_then (λ c. number_then (λ d. with_reply (reply.Buffer a b c d)))))) end bytes → SaysEnding SetBufferSize end bytes
buffer_says end bytes fits h =
    let f = four (λ a b c d. with_reply (reply.Buffer a b c d)) end bytes fits h in
    place SetBufferSize (Ok (reply.Buffer f.a f.b f.c f.d)) end (number f.a ++ number f.b ++ number f.c ++ number f.d) bytes f.spelled.0
    (f.parts ∙ ap (λ (t : List ℕ). number f.a ++ number f.b ++ number f.c ++ number f.d ++ t) f.spelled.1)
    (record { answers = tt; in_range = f.below; has_data = refl; spelled = refl })

blob_says : (end : ReplyEnding) (bytes : List ℕ) → IsBytes bytes → Encodes blob end bytes → SaysEnding GetStateBlob end bytes
blob_says end bytes fits h =
    let f = four (λ a b c d. cond (ltb 4096 d) (Ends (Err (Length d))) (Field d (λ _. with_reply (reply.Blob a b c d)))) end bytes fits h in
    elim (chosen (ltb 4096 f.d) (Ends (Err (Length f.d))) (Field f.d (λ _. with_reply (reply.Blob f.a f.b f.c f.d))) end f.rest f.spelled) [
      | inl above ↦
          place GetStateBlob (Err (Length f.d)) end (number f.a ++ number f.b ++ number f.c ++ number f.d) bytes above.1.0
          (f.parts ∙ ap (λ (t : List ℕ). number f.a ++ number f.b ++ number f.c ++ number f.d ++ t) above.1.1)
          (record { result = f.a; flags = f.b; total = f.c; result_fits = f.below.0; flags_fit = f.below.1; total_fits = f.below.2; len_fits = f.below.3; above = ltb-true _ _ above.0; spelled = refl })
      | inr below ↦
          let within : f.d ≤ 4096 = ltb-false _ _ below.0 in
          let len : length f.rest ≡ f.d = omega (arith, below.1.0, length-drop f.d f.rest, ap length below.1.1.1) in
          place GetStateBlob (Ok (reply.Blob f.a f.b f.c f.d)) end (number f.a ++ number f.b ++ number f.c ++ number f.d ++ f.rest) bytes below.1.1.0 f.parts
          (record { answers = tt; in_range = f.below; has_data = (len, within); spelled = refl })
    ]

-- a byte that isn't zero ends the bytes, or a zero goes before the rest
pub record Zero (next : Layout ReplyEnding) (end : ReplyEnding) (bytes rest : List ℕ) : Type 0 where
  pub parts : bytes ≡ 0 ∷ rest
  pub fits : IsBytes rest
  pub spelled : Encodes next end rest

pub record NotZero (at : ℕ) (end : ReplyEnding) (bytes : List ℕ) : Type 0 where
  pub other : ℕ
  pub other_fits : other < 2 ^ 8
  pub other_is : other ≢ 0
  pub parts : bytes ≡ other ∷ []
  pub ends : Err (Value at) ≡ end

zero_prefix : (at : ℕ) (next : Layout ReplyEnding) (end : ReplyEnding) (bytes : List ℕ) → IsBytes bytes → Encodes (zero_then at next) end bytes → NotZero at end bytes ⊎ Zero next end bytes (drop 1 bytes)
zero_prefix at next end bytes fits h =
    let b = byte_prefix (λ b. cond (eqb b 0) next (Ends (Err (Value at)))) end bytes fits h in
    elim (chosen (eqb b.value 0) next (Ends (Err (Value at))) end b.rest b.spelled) [
      | inl zero ↦
          let parts = b.parts ∙ ap (λ (x : ℕ). x ∷ b.rest) (eqb-true _ _ zero.0) in
          let rest : b.rest ≡ drop 1 bytes = sym (ap (drop 1) b.parts) in
          inr (record { parts = parts ∙ ap (λ (t : List ℕ). 0 ∷ t) rest; fits = subst (λ (t : List ℕ). IsBytes t) rest b.fits; spelled = subst (λ (t : List ℕ). Encodes next end t) rest zero.1 })
      | inr other ↦
          inl (record { other = b.value; other_fits = b.below; other_is = eqb-false _ _ other.0; parts = b.parts ∙ ap (λ (t : List ℕ). b.value ∷ t) other.1.1; ends = other.1.0 })
    ]

not_zero : (at result bit : ℕ) (zeros : List ℕ) (end : ReplyEnding) (bytes rest : List ℕ) → result < 2 ^ 32 → bit < 2 ^ 8 → NotZero at end rest → bytes ≡ number result ++ bit ∷ zeros ++ rest
    → ((other : ℕ) → other < 2 ^ 8 → other ≢ 0 → IsNotZeroAt at (number result ++ bit ∷ zeros ++ other ∷ [])) → SaysEnding GetEstablished end bytes
not_zero at result bit zeros end bytes rest result_fits bit_fits n parts then =
    place GetEstablished (Err (Value at)) end (number result ++ bit ∷ zeros ++ n.other ∷ []) bytes n.ends (parts ∙ ap (λ (t : List ℕ). number result ++ bit ∷ zeros ++ t) n.parts) (then n.other n.other_fits n.other_is)

established_says : (end : ReplyEnding) (bytes : List ℕ) → IsBytes bytes → Encodes established end bytes → SaysEnding GetEstablished end bytes
established_says end bytes fits h =
    let r = number_prefix (λ result. byte_then (λ bit. zero_then 5 (zero_then 6 (zero_then 7 (with_reply (reply.Established result bit)))))) end bytes fits h in
    let b = byte_prefix (λ bit. zero_then 5 (zero_then 6 (zero_then 7 (with_reply (reply.Established r.value bit))))) end r.rest r.fits r.spelled in
    let prefix : bytes ≡ number r.value ++ b.value ∷ b.rest = r.parts ∙ ap (λ (t : List ℕ). number r.value ++ t) b.parts in
    elim (zero_prefix 5 (zero_then 6 (zero_then 7 (with_reply (reply.Established r.value b.value)))) end b.rest b.fits b.spelled) [
      | inl n ↦ not_zero 5 r.value b.value [] end bytes b.rest r.below b.below n prefix (λ other fits is. record { result = r.value; bit = b.value; other = other; result_fits = r.below; bit_fits = b.below; other_fits = fits; other_is = is; from_first = lit≤ tt; to_third = lit≤ tt; spelled = refl })
      | inr y ↦
          let front2 = prefix ∙ ap (λ (t : List ℕ). number r.value ++ b.value ∷ t) y.parts in
          elim (zero_prefix 6 (zero_then 7 (with_reply (reply.Established r.value b.value))) end (drop 1 b.rest) y.fits y.spelled) [
            | inl n ↦ not_zero 6 r.value b.value (0 ∷ []) end bytes (drop 1 b.rest) r.below b.below n front2 (λ other fits is. record { result = r.value; bit = b.value; other = other; result_fits = r.below; bit_fits = b.below; other_fits = fits; other_is = is; from_first = lit≤ tt; to_third = lit≤ tt; spelled = refl })
            | inr z ↦
                let front3 = front2 ∙ ap (λ (t : List ℕ). number r.value ++ b.value ∷ 0 ∷ t) z.parts in
                elim (zero_prefix 7 (with_reply (reply.Established r.value b.value)) end (drop 1 (drop 1 b.rest)) z.fits z.spelled) [
                  | inl n ↦ not_zero 7 r.value b.value (0 ∷ 0 ∷ []) end bytes (drop 1 (drop 1 b.rest)) r.below b.below n front3 (λ other fits is. record { result = r.value; bit = b.value; other = other; result_fits = r.below; bit_fits = b.below; other_fits = fits; other_is = is; from_first = lit≤ tt; to_third = lit≤ tt; spelled = refl })
                  | inr w ↦
                      place GetEstablished (Ok (reply.Established r.value b.value)) end (number r.value ++ b.value ∷ 0 ∷ 0 ∷ 0 ∷ []) bytes w.spelled.0
                      (front3 ∙ ap (λ (t : List ℕ). number r.value ++ b.value ∷ 0 ∷ 0 ∷ t) (w.parts ∙ ap (λ (t : List ℕ). 0 ∷ t) w.spelled.1))
                      (record { answers = tt; in_range = (r.below, b.below); has_data = refl; spelled = refl })
                ]
          ]
    ]

-- What the layout says is what the bytes say.
pub reply_says : (c : RequestCode) (end : ReplyEnding) (bytes : List ℕ) → IsBytes bytes → Encodes (replies_to c) end bytes → SaysEnding c end bytes
unfolding replies_to
reply_says GetCapability end bytes fits h = capability_says end bytes fits h
reply_says Init end bytes fits h = result_says Init end bytes (λ _. tt) fits h
reply_says Shutdown end bytes fits h = result_says Shutdown end bytes (λ _. tt) fits h
reply_says GetEstablished end bytes fits h = established_says end bytes fits h
reply_says SetLocality end bytes fits h = result_says SetLocality end bytes (λ _. tt) fits h
reply_says CancelCommand end bytes fits h = result_says CancelCommand end bytes (λ _. tt) fits h
reply_says StoreVolatile end bytes fits h = result_says StoreVolatile end bytes (λ _. tt) fits h
reply_says ResetEstablished end bytes fits h = result_says ResetEstablished end bytes (λ _. tt) fits h
reply_says GetStateBlob end bytes fits h = blob_says end bytes fits h
reply_says SetStateBlob end bytes fits h = result_says SetStateBlob end bytes (λ _. tt) fits h
reply_says Stop end bytes fits h = result_says Stop end bytes (λ _. tt) fits h
reply_says GetConfig end bytes fits h = config_says end bytes fits h
reply_says SetBufferSize end bytes fits h = buffer_says end bytes fits h

-- ---- and back

-- Before the first byte no reply is decoded.
pub first_of_reply : (c : RequestCode) → HasFirst (replies_to c)
unfolding replies_to
first_of_reply GetCapability = lit< tt
first_of_reply c = lit< tt

pub reply_open_nil : (c : RequestCode) (bytes : List ℕ) → bytes ≡ [] → IsOpen (replies_to c) bytes
reply_open_nil c bytes none = open_start (replies_to c) bytes (first_of_reply c) none

encodes_long : {E : Type 0} (next : ℕ → Layout E) (end : E) (n : ℕ) (rest : List ℕ) → n < 2 ^ 64 → Encodes (next n) end rest → Encodes (long_then next) end (long n ++ rest)
encodes_long next end n rest lt spelled =
    (omega arith, subst (λ (k : ℕ). Encodes (next k) end rest) (sym (from_be_bytes-to_be_bytes_8 n lt)) spelled)

result_back : (n : ℕ) → n < 2 ^ 32 → Encodes (number_then (λ n. with_reply (reply.Result n))) (Ok (reply.Result n)) (number n)
result_back n lt = encodes_number (λ n. with_reply (reply.Result n)) (Ok (reply.Result n)) n [] lt (refl, refl)

four_back : (next : ℕ → ℕ → ℕ → ℕ → Layout ReplyEnding) (end : ReplyEnding) (a b c d : ℕ) (rest : List ℕ) → (a < 2 ^ 32) × (b < 2 ^ 32) × (c < 2 ^ 32) × (d < 2 ^ 32) → Encodes (next a b c d) end rest
    → Encodes (number_then (λ w. number_then (λ x. number_then (λ y. number_then (λ z. next w x y z))))) end (number a ++ number b ++ number c ++ number d ++ rest)
four_back next end a b c d rest lt h =
    encodes_number (λ w. number_then (λ x. number_then (λ y. number_then (λ z. next w x y z)))) end a (number b ++ number c ++ number d ++ rest) lt.0
    (encodes_number (λ x. number_then (λ y. number_then (λ z. next a x y z))) end b (number c ++ number d ++ rest) lt.1
    (encodes_number (λ y. number_then (λ z. next a b y z)) end c (number d ++ rest) lt.2 (encodes_number (λ z. next a b c z) end d rest lt.3 h)))

-- a byte that has to be zero and isn't ends the bytes
other_back : (at : ℕ) (next : Layout ReplyEnding) (other : ℕ) → other ≢ 0 → Encodes (zero_then at next) (Err (Value at)) (other ∷ [])
other_back at next other is = (omega arith, subst (λ (b : Bool). Encodes (cond b next (Ends (Err (Value at)))) (Err (Value at)) []) (sym (ne_eqb other 0 is)) (refl, refl))

established_back : (end : ReplyEnding) (result bit : ℕ) (rest : List ℕ) → result < 2 ^ 32
    → Encodes (zero_then 5 (zero_then 6 (zero_then 7 (with_reply (reply.Established result bit))))) end rest → Encodes established end (number result ++ bit ∷ rest)
established_back end result bit rest lt h =
    encodes_number (λ result. byte_then (λ bit. zero_then 5 (zero_then 6 (zero_then 7 (with_reply (reply.Established result bit)))))) end result (bit ∷ rest) lt (omega arith, h)

blob_back : (end : ReplyEnding) (result flags total len : ℕ) (rest : List ℕ) → (result < 2 ^ 32) × (flags < 2 ^ 32) × (total < 2 ^ 32) × (len < 2 ^ 32)
    → Encodes (cond (ltb 4096 len) (Ends (Err (Length len))) (Field len (λ _. with_reply (reply.Blob result flags total len)))) end rest
    → Encodes blob end (number result ++ number flags ++ number total ++ number len ++ rest)
blob_back end result flags total len rest lt h =
    four_back (λ a b c d. cond (ltb 4096 d) (Ends (Err (Length d))) (Field d (λ _. with_reply (reply.Blob a b c d)))) end result flags total len rest lt h

encoding_back : (c : RequestCode) (r : Reply) (payload : List ℕ) → IsReplyToCode c r → ReplyIsInRange r → ReplyHasData r payload → Encodes (replies_to c) (Ok r) (encode_reply r payload)
unfolding replies_to
encoding_back GetCapability (reply.Capability value) payload answers lt has = encodes_long (λ n. with_reply (reply.Capability n)) (Ok (reply.Capability value)) value [] lt (refl, refl)
encoding_back Init (reply.Result n) payload answers lt has = result_back n lt
encoding_back Shutdown (reply.Result n) payload answers lt has = result_back n lt
encoding_back GetEstablished (reply.Established result bit) payload answers lt has =
    established_back (Ok (reply.Established result bit)) result bit (0 ∷ 0 ∷ 0 ∷ []) lt.0 (omega arith, (omega arith, (omega arith, (refl, refl))))
encoding_back SetLocality (reply.Result n) payload answers lt has = result_back n lt
encoding_back CancelCommand (reply.Result n) payload answers lt has = result_back n lt
encoding_back StoreVolatile (reply.Result n) payload answers lt has = result_back n lt
encoding_back ResetEstablished (reply.Result n) payload answers lt has = result_back n lt
encoding_back GetStateBlob (reply.Blob result flags total len) payload answers lt has =
    blob_back (Ok (reply.Blob result flags total len)) result flags total len payload lt (rw (le-ltb 4096 len has.1) (omega (arith, has.0), (refl, drop_all len payload (omega (arith, has.0)))))
encoding_back SetStateBlob (reply.Result n) payload answers lt has = result_back n lt
encoding_back Stop (reply.Result n) payload answers lt has = result_back n lt
encoding_back GetConfig (reply.Config result flags) payload answers lt has =
    encodes_number (λ m. number_then (λ n. with_reply (reply.Config m n))) (Ok (reply.Config result flags)) result (number flags) lt.0 (encodes_number (λ n. with_reply (reply.Config result n)) (Ok (reply.Config result flags)) flags [] lt.1 (refl, refl))
encoding_back SetBufferSize (reply.Buffer result size least greatest) payload answers lt has =
    four_back (λ a b c d. with_reply (reply.Buffer a b c d)) (Ok (reply.Buffer result size least greatest)) result size least greatest [] lt (refl, refl)
encoding_back c r payload answers lt has = absurd answers

pub says_back : (c : RequestCode) (r : Reply) (payload bytes : List ℕ) → Says c r payload bytes → Encodes (replies_to c) (Ok r) bytes
says_back c r payload bytes says = subst (λ (t : List ℕ). Encodes (replies_to c) (Ok r) t) (sym says.spelled) (encoding_back c r payload says.answers says.in_range says.has_data)

-- which of the three places
places : (at : ℕ) → 5 ≤ at → at ≤ 7 → (at ≡ 5) ⊎ ((at ≡ 6) ⊎ (at ≡ 7))
places at low high =
    elim (cases_lt at 6) [
      | inl five ↦ inl (omega arith)
      | inr above ↦ elim (cases_lt at 7) [
        | inl six ↦ inr (inl (omega arith))
        | inr seven ↦ inr (inr (omega arith))
      ]
    ]

not_zero_back : (at result bit other : ℕ) → result < 2 ^ 32 → other ≢ 0 → 5 ≤ at → at ≤ 7 → Encodes established (Err (Value at)) (number result ++ bit ∷ replicate (at - 5) 0 ++ other ∷ [])
not_zero_back at result bit other lt is low high =
    let P = λ (k : ℕ). Encodes established (Err (Value k)) (number result ++ bit ∷ replicate (k - 5) 0 ++ other ∷ []) in
    let first = other_back 5 (zero_then 6 (zero_then 7 (with_reply (reply.Established result bit)))) other is in
    let second = other_back 6 (zero_then 7 (with_reply (reply.Established result bit))) other is in
    let third = other_back 7 (with_reply (reply.Established result bit)) other is in
    elim (places at low high) [
      | inl five ↦ subst P (sym five) (established_back (Err (Value 5)) result bit (other ∷ []) lt first)
      | inr later ↦ elim later [
        | inl six ↦ subst P (sym six) (established_back (Err (Value 6)) result bit (0 ∷ other ∷ []) lt (omega arith, second))
        | inr seven ↦ subst P (sym seven) (established_back (Err (Value 7)) result bit (0 ∷ 0 ∷ other ∷ []) lt (omega arith, (omega arith, third)))
      ]
    ]

too_long_back : (len result flags total : ℕ) → (result < 2 ^ 32) × (flags < 2 ^ 32) × (total < 2 ^ 32) × (len < 2 ^ 32) → 4096 < len
    → Encodes blob (Err (Length len)) (number result ++ number flags ++ number total ++ number len)
too_long_back len result flags total lt above = blob_back (Err (Length len)) result flags total len [] lt (rw (lt-ltb 4096 len above) (refl, refl))

pub refuses_reply_back : (c : RequestCode) (fault : ReplyFault) (bytes : List ℕ) → RefusesReply c fault bytes → Encodes (replies_to c) (Err fault) bytes
unfolding replies_to
refuses_reply_back GetEstablished (Value at) bytes r =
    subst (λ (t : List ℕ). Encodes established (Err (Value at)) t) (sym r.spelled) (not_zero_back at r.result r.bit r.other r.result_fits r.other_is r.from_first r.to_third)
refuses_reply_back GetStateBlob (Length len) bytes r =
    subst (λ (t : List ℕ). Encodes blob (Err (Length len)) t) (sym r.spelled) (too_long_back len r.result r.flags r.total (r.result_fits, r.flags_fit, r.total_fits, r.len_fits) r.above)
refuses_reply_back c fault bytes r = absurd r
