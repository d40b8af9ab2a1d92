-- What stands at the start of control bytes.
use Rattle.std.proofs.Common.{◌≡◌, ℕ, ◌<◌, List, [], ◌++◌, length, take, drop, Some, None, Result, Ok, Err, refl, sym, ap, ◌∙◌, arith, append-nil, append_assoc}
use Rattle.std.proofs.lemmas.List.{take_at, take-append-drop, length-append, length-take}
use Rattle.vt_base.specs.declared.grammar.Missing.{Missing}
use Rattle.vt_base.specs.Parsing.{parsed}
use Rattle.vt_base.specs.Layout.{Encodes, IsOpen}
use Rattle.vt_base.proofs.Layouts.{parsed_encodes, parsed-append-ended, encodes_prefix, one_encoding}
use Rattle.ctrl_codec.specs.declared.request.Request.{Request}
use Rattle.ctrl_codec.specs.declared.request.Request.TheVariants.{GetCapability, Init, Shutdown, GetEstablished, SetLocality, CancelCommand, StoreVolatile, ResetEstablished, GetStateBlob, SetStateBlob, Stop, GetConfig, SetBufferSize}
use Rattle.ctrl_codec.specs.declared.request.RequestFault.{RequestFault}
use Rattle.ctrl_codec.specs.Requests.{Asks, HasData, Refuses, Ending, encode_request, requests}
use Rattle.ctrl_codec.proofs.Requests.{asks_back, refuses_back}
use Rattle.ctrl_model.specs.Link.{heard_by, heard_in, data_in}
use Rattle.ctrl_model.specs.Link.Heard.{Asked, Refused}

abbrev asked : Request → Ending
asked q = Ok q

abbrev refusal : RequestFault → Ending
refusal fault = Err fault

-- the data behind a request stands where it is looked for, whatever follows
data_prefix : (q : Request) (ignored payload more : List ℕ) → HasData q payload → data_in q (encode_request q ignored payload ++ more) ≡ payload
data_prefix GetCapability ignored payload more has = sym has
data_prefix (Init flags) ignored payload more has = sym has
data_prefix Shutdown ignored payload more has = sym has
data_prefix GetEstablished ignored payload more has = sym has
data_prefix (SetLocality n) ignored payload more has = sym has
data_prefix CancelCommand ignored payload more has = sym has
data_prefix StoreVolatile ignored payload more has = sym has
data_prefix (ResetEstablished n) ignored payload more has = sym has
data_prefix (GetStateBlob a b c) ignored payload more has = sym has
data_prefix (SetStateBlob a b size) ignored payload more has = take_at payload more size has.0
data_prefix Stop ignored payload more has = sym has
data_prefix GetConfig ignored payload more has = sym has
data_prefix (SetBufferSize n) ignored payload more has = sym has

decoded_prefix : (end : Ending) (prefix more : List ℕ) → Encodes requests end prefix → parsed requests (prefix ++ more) ≡ Ok end
decoded_prefix end prefix more spelled = parsed-append-ended requests prefix more end (parsed_encodes requests prefix end spelled)

-- A request that is whole at the start is heard.
pub heard_prefix : (q : Request) (payload prefix more : List ℕ) → Asks q payload prefix → heard_in (prefix ++ more) ≡ Some (Asked q payload)
unfolding heard_in
heard_prefix q payload prefix more asks =
    rw (decoded_prefix (asked q) prefix more (asks_back q payload prefix asks))
    (ap (λ (bytes : List ℕ). Some (Asked q bytes)) (ap (λ (t : List ℕ). data_in q (t ++ more)) asks.spelled.2 ∙ data_prefix q asks.spelled.0 payload more asks.has_data))

-- Bytes that are refused at the start are heard as such.
pub refused_prefix : (fault : RequestFault) (prefix more : List ℕ) → Refuses fault prefix → heard_in (prefix ++ more) ≡ Some (Refused fault)
unfolding heard_in
refused_prefix fault prefix more refuses = rw (decoded_prefix (refusal fault) prefix more (refuses_back fault prefix refuses)) refl

-- Where no message is whole, none is heard.
pub heard_open : (bytes : List ℕ) → IsOpen requests bytes → heard_in bytes ≡ None
unfolding heard_in
heard_open bytes none = go (parsed requests bytes) refl
  where
    go : (exact : Result Ending Missing) → parsed requests bytes ≡ exact → heard_by exact bytes ≡ None
    go (Err missing) is = refl
    go (Ok end) is = let prefix = encodes_prefix requests bytes end is in absurd (none end prefix.0 prefix.2)

-- A part of a request is no message.
pub part_is_open : (q : Request) (payload prefix rest : List ℕ) → Asks q payload (prefix ++ rest) → 0 < length rest → IsOpen requests prefix
part_is_open q payload prefix rest asks some end n spelled =
    let whole : take n prefix ++ (drop n prefix ++ rest) ≡ (prefix ++ rest) ++ [] = sym (append_assoc (take n prefix) (drop n prefix) rest) ∙ ap (λ (t : List ℕ). t ++ rest) (take-append-drop n prefix) ∙ sym (append-nil (prefix ++ rest)) in
    let one = one_encoding requests end (asked q) (take n prefix) (prefix ++ rest) (drop n prefix ++ rest) [] spelled (asks_back q payload (prefix ++ rest) asks) whole in
    omega (arith, ap length one.1, length-take n prefix, length-append prefix rest)
