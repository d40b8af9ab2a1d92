-- What the layout of requests says is what their encodings say.
use Rattle.std.proofs.Common.{◌≡◌, ℕ, ◌^◌, ◌<◌, ◌≤◌, cond, ltb, ◌==◌, List, [], ◌∷◌, ◌++◌, length, take, drop, Option, Some, None, Ok, Err, refl, sym, ap, subst, ◌∙◌, arith, inl, inr, lit<}
use Rattle.std.specs.Int.{w32, from_be_bytes}
use Rattle.std.proofs.lemmas.Bool.{ltb-false, ltb-true, le-ltb, lt-ltb, eqb-true}
use Rattle.std.proofs.lemmas.List.{length-drop, drop_all, nil_from_length}
use Rattle.vt_base.specs.Numbers.{IsBytes, number}
use Rattle.vt_base.specs.Layout.{Layout, Ends, Field, Encodes, IsOpen, number_then}
use Rattle.vt_base.proofs.Layouts.{open_start}
use Rattle.vt_base.proofs.Numbers.{word, encodes_number}
use Rattle.ctrl_codec.specs.declared.request_code.RequestCode.{RequestCode}
use Rattle.ctrl_codec.specs.declared.request_code.RequestCode.TheVariants as command
use Rattle.ctrl_codec.specs.declared.request.Request.{Request}
use Rattle.ctrl_codec.specs.declared.request.Request.TheVariants.{GetCapability, Init, Shutdown, GetEstablished, SetLocality, CancelCommand, StoreVolatile, ResetEstablished, GetStateBlob, SetStateBlob, Stop, GetConfig, SetBufferSize}
use Rattle.ctrl_codec.specs.declared.request.RequestFault.{RequestFault}
use Rattle.ctrl_codec.specs.declared.request.RequestFault.TheVariants.{Code, Length}
use Rattle.ctrl_codec.specs.Commands.{code_of, command_at, commands}
use Rattle.vt_base.proofs.Prefixes.{found, chosen}
use Rattle.ctrl_codec.specs.Requests.{Ending, IsInRange, HasData, Asks, Refuses, encode_request, with_request, locality_then, body_of, body_at, requests}

-- What the bytes of an ending are.
abbrev pub AsksEnding : Ending → List ℕ → Type 0
AsksEnding (Ok q) bytes = Asks q (drop 16 bytes) bytes
AsksEnding (Err fault) bytes = Refuses fault bytes

place : (code : ℕ) (d end : Ending) (r rest : List ℕ) → d ≡ end → rest ≡ r → AsksEnding d (number code ++ r) → AsksEnding end (number code ++ rest)
place code d end r rest same parts says =
    subst (λ (e : Ending). AsksEnding e (number code ++ rest)) same (subst (λ (t : List ℕ). AsksEnding d (number code ++ t)) (sym parts) says)

bare : (code : ℕ) (q : Request) (end : Ending) (rest : List ℕ) → Encodes (with_request q) end rest → AsksEnding (Ok q) (number code ++ []) → AsksEnding end (number code ++ rest)
bare code q end rest h says = place code (Ok q) end [] rest h.0 h.1 says

one : (code : ℕ) (make : ℕ → Request) (end : Ending) (rest : List ℕ) → IsBytes rest → Encodes (number_then (λ n. with_request (make n))) end rest
    → ((n : ℕ) → n < 2 ^ 32 → AsksEnding (Ok (make n)) (number code ++ number n)) → AsksEnding end (number code ++ rest)
one code make end rest fits h says =
    let n = from_be_bytes w32 (take 4 rest) in
    let w = word rest fits h.0 in
    place code (Ok (make n)) end (number n) rest h.1.0 (w.parts ∙ ap (λ (t : List ℕ). number n ++ t) h.1.1) (says n w.below)

located : (code : ℕ) (make : ℕ → Request) (end : Ending) (rest : List ℕ) → IsBytes rest → Encodes (locality_then (λ n. with_request (make n))) end rest
    → ((n : ℕ) (ignored : List ℕ) → n < 2 ^ 8 → length ignored ≡ 3 → AsksEnding (Ok (make n)) (number code ++ n ∷ ignored)) → AsksEnding end (number code ++ rest)
located code make end [] fits h says = absurd (omega (arith, h.0))
located code make end (n ∷ ignored) fits h says =
    let none = nil_from_length (drop 3 ignored) (ap length h.1.1.1) in
    let len : length ignored ≡ 3 = omega (arith, h.1.0, length-drop 3 ignored, ap length h.1.1.1) in
    place code (Ok (make n)) end (n ∷ ignored) (n ∷ ignored) h.1.1.0 refl (says n ignored (fits 0) len)

-- three numbers, and the rest
pub record Words (bytes : List ℕ) (a b c : ℕ) (rest : List ℕ) : Type 0 where
  pub below : (a < 2 ^ 32) × (b < 2 ^ 32) × (c < 2 ^ 32)
  pub parts : bytes ≡ number a ++ number b ++ number c ++ rest
  pub fits : IsBytes rest

words : (bytes : List ℕ) → IsBytes bytes → 4 ≤ length bytes → 4 ≤ length (drop 4 bytes) → 4 ≤ length (drop 4 (drop 4 bytes))
    → Words bytes (from_be_bytes w32 (take 4 bytes)) (from_be_bytes w32 (take 4 (drop 4 bytes))) (from_be_bytes w32 (take 4 (drop 4 (drop 4 bytes)))) (drop 4 (drop 4 (drop 4 bytes)))
words bytes fits p q r =
    let a = word bytes fits p in
    let b = word (drop 4 bytes) a.fits q in
    let c = word (drop 4 (drop 4 bytes)) b.fits r in
    record {
      below = (a.below, b.below, c.below);
      parts = a.parts ∙ ap (λ (t : List ℕ). number (from_be_bytes w32 (take 4 bytes)) ++ t) (b.parts ∙ ap (λ (t : List ℕ). number (from_be_bytes w32 (take 4 (drop 4 bytes))) ++ t) c.parts);
      fits = c.fits;
    }

three : (code : ℕ) (make : ℕ → ℕ → ℕ → Request) (end : Ending) (rest : List ℕ) → IsBytes rest
    → Encodes (number_then (λ a. number_then (λ b. number_then (λ c. with_request (make a b c))))) end rest
    → ((a b c : ℕ) → (a < 2 ^ 32) × (b < 2 ^ 32) × (c < 2 ^ 32) → AsksEnding (Ok (make a b c)) (number code ++ number a ++ number b ++ number c)) → AsksEnding end (number code ++ rest)
three code make end rest fits h says =
    let w = words rest fits h.0 h.1.0 h.1.1.0 in
    let a = from_be_bytes w32 (take 4 rest) in
    let b = from_be_bytes w32 (take 4 (drop 4 rest)) in
    let c = from_be_bytes w32 (take 4 (drop 4 (drop 4 rest))) in
    place code (Ok (make a b c)) end (number a ++ number b ++ number c) rest h.1.1.1.0 (w.parts ∙ ap (λ (t : List ℕ). number a ++ number b ++ number c ++ t) h.1.1.1.1) (says a b c w.below)

blob : (end : Ending) (rest : List ℕ) → IsBytes rest → Encodes (body_of command.SetStateBlob) end rest → AsksEnding end (number 13 ++ rest)
blob end rest fits h =
    let w = words rest fits h.0 h.1.0 h.1.1.0 in
    let a = from_be_bytes w32 (take 4 rest) in
    let b = from_be_bytes w32 (take 4 (drop 4 rest)) in
    let c = from_be_bytes w32 (take 4 (drop 4 (drop 4 rest))) in
    let payload = drop 4 (drop 4 (drop 4 rest)) in
    elim (chosen (ltb 4096 c) (Ends (Err (Length c))) (Field c (λ _. with_request (SetStateBlob a b c))) end payload h.1.1.1) [
      | inl long ↦
          let over : 4096 < c = ltb-true _ _ long.0 in
          place 13 (Err (Length c)) end (number a ++ number b ++ number c) rest long.1.0 (w.parts ∙ ap (λ (t : List ℕ). number a ++ number b ++ number c ++ t) long.1.1) (w.below.2, over, a, b, w.below.0, w.below.1, refl)
      | inr short ↦
          let within : c ≤ 4096 = ltb-false _ _ short.0 in
          let len : length payload ≡ c = omega (arith, short.1.0, length-drop c payload, ap length short.1.1.1) in
          place 13 (Ok (SetStateBlob a b c)) end (number a ++ number b ++ number c ++ payload) rest short.1.1.0 w.parts
          (record { in_range = w.below; has_data = (len, within); spelled = (0 ∷ 0 ∷ 0 ∷ [], refl, refl) })
    ]

body_says : (c : RequestCode) (end : Ending) (rest : List ℕ) → IsBytes rest → Encodes (body_of c) end rest → AsksEnding end (number (code_of c) ++ rest)
body_says command.GetCapability end rest fits h = bare 1 GetCapability end rest h (record { in_range = tt; has_data = refl; spelled = (0 ∷ 0 ∷ 0 ∷ [], refl, refl) })
body_says command.Init end rest fits h = one 2 Init end rest fits h (λ n lt. record { in_range = lt; has_data = refl; spelled = (0 ∷ 0 ∷ 0 ∷ [], refl, refl) })
body_says command.Shutdown end rest fits h = bare 3 Shutdown end rest h (record { in_range = tt; has_data = refl; spelled = (0 ∷ 0 ∷ 0 ∷ [], refl, refl) })
body_says command.GetEstablished end rest fits h = bare 4 GetEstablished end rest h (record { in_range = tt; has_data = refl; spelled = (0 ∷ 0 ∷ 0 ∷ [], refl, refl) })
body_says command.SetLocality end rest fits h = located 5 SetLocality end rest fits h (λ n ignored lt len. record { in_range = lt; has_data = drop_all 11 ignored (omega (arith, len)); spelled = (ignored, len, refl) })
body_says command.CancelCommand end rest fits h = bare 9 CancelCommand end rest h (record { in_range = tt; has_data = refl; spelled = (0 ∷ 0 ∷ 0 ∷ [], refl, refl) })
body_says command.StoreVolatile end rest fits h = bare 10 StoreVolatile end rest h (record { in_range = tt; has_data = refl; spelled = (0 ∷ 0 ∷ 0 ∷ [], refl, refl) })
body_says command.ResetEstablished end rest fits h = located 11 ResetEstablished end rest fits h (λ n ignored lt len. record { in_range = lt; has_data = drop_all 11 ignored (omega (arith, len)); spelled = (ignored, len, refl) })
body_says command.GetStateBlob end rest fits h = three 12 GetStateBlob end rest fits h (λ a b c lt. record { in_range = lt; has_data = refl; spelled = (0 ∷ 0 ∷ 0 ∷ [], refl, refl) })
body_says command.SetStateBlob end rest fits h = blob end rest fits h
body_says command.Stop end rest fits h = bare 14 Stop end rest h (record { in_range = tt; has_data = refl; spelled = (0 ∷ 0 ∷ 0 ∷ [], refl, refl) })
body_says command.GetConfig end rest fits h = bare 15 GetConfig end rest h (record { in_range = tt; has_data = refl; spelled = (0 ∷ 0 ∷ 0 ∷ [], refl, refl) })
body_says command.SetBufferSize end rest fits h = one 17 SetBufferSize end rest fits h (λ n lt. record { in_range = lt; has_data = refl; spelled = (0 ∷ 0 ∷ 0 ∷ [], refl, refl) })

code_is : (code : ℕ) (c : RequestCode) → command_at code ≡ Some c → code_of c ≡ code
code_is code c e = eqb-true _ _ (found (λ k. code_of k == code) commands c e)

body_at_says : (code : ℕ) (o : Option RequestCode) (end : Ending) (rest : List ℕ) → code < 2 ^ 32 → command_at code ≡ o → IsBytes rest → Encodes (body_at code o) end rest → AsksEnding end (number code ++ rest)
body_at_says code None end rest lt at fits h = place code (Err (Code code)) end [] rest h.0 h.1 (lt, at, refl)
body_at_says code (Some c) end rest lt at fits h = rw (← code_is code c at) (body_says c end rest fits h)

-- What the layout says is what the bytes say.
pub says : (end : Ending) (bytes : List ℕ) → IsBytes bytes → Encodes requests end bytes → AsksEnding end bytes
unfolding requests
says end bytes fits h =
    let code = from_be_bytes w32 (take 4 bytes) in
    let w = word bytes fits h.0 in
    rw w.parts (body_at_says code (command_at code) end (drop 4 bytes) w.below refl w.fits h.1)

-- ---- and back

body : (c : RequestCode) (end : Ending) (rest : List ℕ) → Encodes (body_of c) end rest → code_of c < 2 ^ 32 → command_at (code_of c) ≡ Some c → Encodes requests end (number (code_of c) ++ rest)
unfolding requests
body c end rest h lt at = encodes_number (λ code. body_at code (command_at code)) end (code_of c) rest lt (rw at h)

three_back : (make : ℕ → ℕ → ℕ → Layout Ending) (end : Ending) (a b c : ℕ) (rest : List ℕ) → (a < 2 ^ 32) × (b < 2 ^ 32) × (c < 2 ^ 32) → Encodes (make a b c) end rest
    → Encodes (number_then (λ x. number_then (λ y. number_then (λ z. make x y z)))) end (number a ++ number b ++ number c ++ rest)
three_back make end a b c rest lt h =
    encodes_number (λ x. number_then (λ y. number_then (λ z. make x y z))) end a (number b ++ number c ++ rest) lt.0
    (encodes_number (λ y. number_then (λ z. make a y z)) end b (number c ++ rest) lt.1 (encodes_number (λ z. make a b z) end c rest lt.2 h))

located_back : (make : ℕ → Request) (n : ℕ) (ignored : List ℕ) → length ignored ≡ 3 → Encodes (locality_then (λ k. with_request (make k))) (Ok (make n)) (n ∷ ignored)
located_back make n ignored len = (omega arith, (omega (arith, len), (refl, drop_all 3 ignored (omega (arith, len)))))

encoding_back : (q : Request) (ignored payload : List ℕ) → IsInRange q → HasData q payload → length ignored ≡ 3 → Encodes requests (Ok q) (encode_request q ignored payload)
encoding_back GetCapability ignored payload lt has len = body command.GetCapability (Ok GetCapability) [] (refl, refl) (lit< tt) refl
encoding_back (Init flags) ignored payload lt has len = body command.Init (Ok (Init flags)) (number flags) (encodes_number (λ n. with_request (Init n)) (Ok (Init flags)) flags [] lt (refl, refl)) (lit< tt) refl
encoding_back Shutdown ignored payload lt has len = body command.Shutdown (Ok Shutdown) [] (refl, refl) (lit< tt) refl
encoding_back GetEstablished ignored payload lt has len = body command.GetEstablished (Ok GetEstablished) [] (refl, refl) (lit< tt) refl
encoding_back (SetLocality n) ignored payload lt has len = body command.SetLocality (Ok (SetLocality n)) (n ∷ ignored) (located_back SetLocality n ignored len) (lit< tt) refl
encoding_back CancelCommand ignored payload lt has len = body command.CancelCommand (Ok CancelCommand) [] (refl, refl) (lit< tt) refl
encoding_back StoreVolatile ignored payload lt has len = body command.StoreVolatile (Ok StoreVolatile) [] (refl, refl) (lit< tt) refl
encoding_back (ResetEstablished n) ignored payload lt has len = body command.ResetEstablished (Ok (ResetEstablished n)) (n ∷ ignored) (located_back ResetEstablished n ignored len) (lit< tt) refl
encoding_back (GetStateBlob a b c) ignored payload lt has len = body command.GetStateBlob (Ok (GetStateBlob a b c)) (number a ++ number b ++ number c) (three_back (λ x y z. with_request (GetStateBlob x y z)) (Ok (GetStateBlob a b c)) a b c [] lt (refl, refl)) (lit< tt) refl
encoding_back (SetStateBlob a b c) ignored payload lt has len = body command.SetStateBlob (Ok (SetStateBlob a b c)) (number a ++ number b ++ number c ++ payload)
    (three_back (λ x y z. cond (ltb 4096 z) (Ends (Err (Length z))) (Field z (λ _. with_request (SetStateBlob x y z)))) (Ok (SetStateBlob a b c)) a b c payload lt
    (rw (le-ltb 4096 c has.1) (omega (arith, has.0), (refl, drop_all c payload (omega (arith, has.0)))))) (lit< tt) refl
encoding_back Stop ignored payload lt has len = body command.Stop (Ok Stop) [] (refl, refl) (lit< tt) refl
encoding_back GetConfig ignored payload lt has len = body command.GetConfig (Ok GetConfig) [] (refl, refl) (lit< tt) refl
encoding_back (SetBufferSize n) ignored payload lt has len = body command.SetBufferSize (Ok (SetBufferSize n)) (number n) (encodes_number (λ k. with_request (SetBufferSize k)) (Ok (SetBufferSize n)) n [] lt (refl, refl)) (lit< tt) refl

pub asks_back : (q : Request) (payload bytes : List ℕ) → Asks q payload bytes → Encodes requests (Ok q) bytes
asks_back q payload bytes asks = subst (λ (t : List ℕ). Encodes requests (Ok q) t) (sym asks.spelled.2) (encoding_back q asks.spelled.0 payload asks.in_range asks.has_data asks.spelled.1)

pub refuses_back : (fault : RequestFault) (bytes : List ℕ) → Refuses fault bytes → Encodes requests (Err fault) bytes
unfolding requests
refuses_back (Code code) bytes (lt, none, is) = subst (λ (t : List ℕ). Encodes requests (Err (Code code)) t) (sym is) (encodes_number (λ k. body_at k (command_at k)) (Err (Code code)) code [] lt (rw none (refl, refl)))
refuses_back (Length len) bytes (lt, over, a, b, a_lt, b_lt, is) = subst (λ (t : List ℕ). Encodes requests (Err (Length len)) t) (sym is) (body command.SetStateBlob (Err (Length len)) (number a ++ number b ++ number len)
    (three_back (λ x y z. cond (ltb 4096 z) (Ends (Err (Length z))) (Field z (λ _. with_request (SetStateBlob x y z)))) (Err (Length len)) a b len [] (a_lt, b_lt, lt)
    (rw (lt-ltb 4096 len over) (refl, refl))) (lit< tt) refl)

-- Before the first byte nothing is decoded.
pub open_nil : (bytes : List ℕ) → bytes ≡ [] → IsOpen requests bytes
unfolding requests
open_nil bytes none = open_start requests bytes (lit< tt) none
