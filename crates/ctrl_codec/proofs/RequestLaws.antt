-- No encoding of a request begins another.
use Rattle.std.proofs.Common.{◌≡◌, ℕ, List, [], ◌∷◌, ◌++◌, length, take, drop, Ok, Err, refl, sym, ap, subst, ◌∙◌, arith, append_assoc}
use Rattle.std.proofs.lemmas.List.{drop_all, take_at, append_cancel_left}
use Rattle.vt_base.proofs.Layouts.{one_encoding}
use Rattle.ctrl_codec.specs.declared.request.Request.{Request}
use Rattle.ctrl_codec.specs.declared.request.Request.TheVariants.{GetCapability, Init, Shutdown, GetEstablished, SetLocality, CancelCommand, StoreVolatile, ResetEstablished, GetStateBlob, SetStateBlob, Stop, GetConfig, SetBufferSize}
use Rattle.ctrl_codec.specs.declared.request.RequestFault.{RequestFault}
use Rattle.ctrl_codec.specs.Requests.{HasData, IsInRange, Asks, Refuses, Ending, encode_request, requests}
use Rattle.ctrl_codec.specs.RequestReading.{HasNoRequest}
use Rattle.ctrl_codec.specs.RequestStreams.{Asked, AreAsked}
use Rattle.ctrl_codec.proofs.Requests.{asks_back, refuses_back}

-- the data of a request is what follows its first sixteen bytes
payload_of : (q : Request) (ignored payload : List ℕ) → HasData q payload → length ignored ≡ 3 → drop 16 (encode_request q ignored payload) ≡ payload
payload_of GetCapability ignored payload has len = sym has
payload_of (Init flags) ignored payload has len = sym has
payload_of Shutdown ignored payload has len = sym has
payload_of GetEstablished ignored payload has len = sym has
payload_of (SetLocality n) ignored payload has len = drop_all 11 ignored (omega (arith, len)) ∙ sym has
payload_of CancelCommand ignored payload has len = sym has
payload_of StoreVolatile ignored payload has len = sym has
payload_of (ResetEstablished n) ignored payload has len = drop_all 11 ignored (omega (arith, len)) ∙ sym has
payload_of (GetStateBlob a b c) ignored payload has len = sym has
payload_of (SetStateBlob a b c) ignored payload has len = refl
payload_of Stop ignored payload has len = sym has
payload_of GetConfig ignored payload has len = sym has
payload_of (SetBufferSize n) ignored payload has len = sym has

payload_is : (q : Request) (payload bytes : List ℕ) → Asks q payload bytes → drop 16 bytes ≡ payload
payload_is q payload bytes asks = ap (λ (t : List ℕ). drop 16 t) asks.spelled.2 ∙ payload_of q asks.spelled.0 payload asks.has_data asks.spelled.1

abbrev asked : Request → Ending
asked q = Ok q

abbrev refusal : RequestFault → Ending
refusal fault = Err fault

pub same_request : (q r : Request) (p s a b x y : List ℕ) → Asks q p a → Asks r s b → a ++ x ≡ b ++ y → (q ≡ r) × (p ≡ s) × (a ≡ b)
same_request q r p s a b x y first second same =
    let one = one_encoding requests (asked q) (asked r) a b x y (asks_back q p a first) (asks_back r s b second) same in
    let ends : asked q ≡ asked r = one.0 in
    (cc, sym (payload_is q p a first) ∙ ap (λ (t : List ℕ). drop 16 t) one.1 ∙ payload_is r s b second, one.1)

pub same_refusal : (f g : RequestFault) (a b x y : List ℕ) → Refuses f a → Refuses g b → a ++ x ≡ b ++ y → (f ≡ g) × (a ≡ b)
same_refusal f g a b x y first second same =
    let one = one_encoding requests (refusal f) (refusal g) a b x y (refuses_back f a first) (refuses_back g b second) same in
    let ends : refusal f ≡ refusal g = one.0 in
    (cc, one.1)

pub never_both : (q : Request) (f : RequestFault) (p a b x y : List ℕ) → Asks q p a → Refuses f b → a ++ x ≡ b ++ y → ⊥
never_both q f p a b x y first second same =
    let one = one_encoding requests (asked q) (refusal f) a b x y (asks_back q p a first) (refuses_back f b second) same in
    let ends : asked q ≡ refusal f = one.0 in
    cc

pub encoding_asks : (q : Request) (payload : List ℕ) → IsInRange q → HasData q payload → Asks q payload (encode_request q (0 ∷ 0 ∷ 0 ∷ []) payload)
encoding_asks q payload in_range has = record { in_range = in_range; has_data = has; spelled = (0 ∷ 0 ∷ 0 ∷ [], refl, refl) }

-- ---- streams

abbrev asked_with : Request → List ℕ → Asked
asked_with q payload = record { request = q; payload = payload }

same_asked : (d e : Asked) → d.request ≡ e.request → d.payload ≡ e.payload → d ≡ e
same_asked d e same payloads = ap (λ (q : Request). asked_with q d.payload) same ∙ ap (λ (p : List ℕ). asked_with e.request p) payloads

-- A request that becomes whole goes to the end.
pub asked_more : (asked : List Asked) (stream rest piece prefix back : List ℕ) (next : Asked) → AreAsked asked stream rest → rest ++ piece ≡ prefix ++ back → Asks next.request next.payload prefix
    → AreAsked (asked ++ next ∷ []) (stream ++ piece) back
asked_more [] stream rest piece prefix back next so_far parts asks = (prefix, back, ap (λ (t : List ℕ). t ++ piece) so_far ∙ parts, asks, refl)
asked_more (first ∷ others) stream rest piece prefix back next (a, b, is, asks_first, then) parts asks =
    (a, b ++ piece, ap (λ (t : List ℕ). t ++ piece) is ∙ append_assoc a b piece, asks_first, asked_more others b rest piece prefix back next then parts asks)

-- a rest at whose start no request is whole doesn't begin with one
no_first : (rest prefix back : List ℕ) (asked : Asked) → HasNoRequest rest → rest ≡ prefix ++ back → Asks asked.request asked.payload prefix → ⊥
no_first rest prefix back asked none is asks =
    let same : take (length prefix) rest ≡ prefix = ap (take (length prefix)) is ∙ take_at prefix back (length prefix) refl in
    none (length prefix) asked.request asked.payload (subst (λ (t : List ℕ). Asks asked.request asked.payload t) (sym same) asks)

-- Up to a rest at whose start none is whole, the stream is these requests and no others.
pub asked_once : (asked others : List Asked) (stream rest left : List ℕ) → AreAsked asked stream rest → HasNoRequest rest → AreAsked others stream left → HasNoRequest left → (asked ≡ others) × (rest ≡ left)
asked_once [] [] stream rest left p none q nothing = (refl, sym p ∙ q)
asked_once [] (e ∷ others) stream rest left p none (a, b, is, asks, then) nothing = absurd (no_first rest a b e none (sym p ∙ is) asks)
asked_once (d ∷ asked) [] stream rest left (a, b, is, asks, then) none q nothing = absurd (no_first left a b d nothing (sym q ∙ is) asks)
asked_once (d ∷ asked) (e ∷ others) stream rest left (a, b, is, first, then) none (x, y, are, second, more) nothing =
    let same = same_request d.request e.request d.payload e.payload a x b y first second (sym is ∙ are) in
    let backs : b ≡ y = append_cancel_left a b y (sym is ∙ are ∙ ap (λ (t : List ℕ). t ++ y) (sym same.2)) in
    let moved : AreAsked others b left = subst (λ (t : List ℕ). AreAsked others t left) (sym backs) more in
    let tail = asked_once asked others b rest left then none moved nothing in
    (ap (λ (r : Asked). r ∷ asked) (same_asked d e same.0 same.1) ∙ ap (λ (rs : List Asked). e ∷ rs) tail.0, tail.1)
