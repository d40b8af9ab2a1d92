-- A request goes out over a link that is quiet.
use Rattle.std.proofs.Common.{◌≡◌, ℕ, ◌+◌, ◌<◌, Bool, true, false, not, List, [], ◌∷◌, ◌++◌, length, Option, Some, None, refl, sym, ap, subst, ◌∙◌, arith, append-nil}
use Rattle.std.specs.Prelude.{IfSome, ◌||◌, cond}
use Rattle.vt_base.specs.declared.types.Chan.TheVariants.{Ctrl}
use Rattle.ctrl_codec.specs.declared.request.Request.{Request}
use Rattle.ctrl_codec.specs.declared.request.Request.TheVariants.{GetCapability, Init, Shutdown, GetEstablished, SetLocality, CancelCommand, StoreVolatile, ResetEstablished, GetStateBlob, SetStateBlob, Stop, GetConfig, SetBufferSize}
use Rattle.ctrl_codec.specs.Requests.{Asks, HasData, IsInRange, encode_request}
use Rattle.ctrl_codec.proofs.RequestLaws.{encoding_asks}
use Rattle.ctrl_model.specs.Emulator.{RequestOutcome, HandlesRequest}
use Rattle.ctrl_model.specs.Link.{Link, ChannelState, Heard, Handed, HandedBy, Asks as AsksFor, LinkSteps, SentBy, cut, takes, heard_in, with_outcome}
use Rattle.ctrl_model.specs.Link.Heard.{Asked}
use Rattle.ctrl_client.specs.Schedules.{fails_within}
use Rattle.ctrl_client.specs.Exchange.{IsQuiet, SentOut, SendsRequest}
use Rattle.ctrl_model.proofs.Hearing.{heard_prefix, heard_open, part_is_open}

pub or-false : (b : Bool) → (b || false) ≡ b
or-false true = refl
or-false false = refl

-- a choice of the same
pub either_way : {A : Type 0} (b : Bool) (x : A) → cond b x x ≡ x
either_way true x = refl
either_way false x = refl

abbrev pub zeros3 : List ℕ
zeros3 = 0 ∷ 0 ∷ 0 ∷ []

-- a request as it is written is heard
pub heard_request : (q : Request) (payload text : List ℕ) → IsInRange q → HasData q payload → text ≡ encode_request q zeros3 payload → heard_in text ≡ Some (Asked q payload)
heard_request q payload text range has is =
    ap heard_in (is ∙ sym (append-nil (encode_request q zeros3 payload))) ∙ heard_prefix q payload (encode_request q zeros3 payload) [] (encoding_asks q payload range has)

-- the part of it before its data isn't
pub heard_head : (q : Request) (payload text head tail : List ℕ) → IsInRange q → HasData q payload → text ≡ encode_request q zeros3 payload → head ++ tail ≡ text → 0 < length tail → heard_in head ≡ None
heard_head q payload text head tail range has is parts some =
    heard_open head (part_is_open q payload head tail (subst (λ (t : List ℕ). Asks q payload t) (sym (parts ∙ is)) (encoding_asks q payload range has)) some)

pub cut_quiet : (l : Link) → IsQuiet l → cut Ctrl l ≡ l
cut_quiet l quiet = ap (λ channel. record l { control = channel }) (sym quiet.nothing)

-- a quiet channel takes bytes
quiet_takes : (l : Link) → IsQuiet l → takes Ctrl l ≡ true
quiet_takes l quiet = rw (quiet.listens, quiet.nothing) refl

-- control bytes go to an emulator that takes them
handed_asks : (all text : List ℕ) (heard : Option Heard) (l m : Link) → takes Ctrl l ≡ true → l.control.begun ++ text ≡ all → heard_in all ≡ heard → Handed Ctrl text l m → AsksFor heard all l m
handed_asks all text heard l m open_now whole is handed =
    let asks : AsksFor (heard_in (l.control.begun ++ text)) (l.control.begun ++ text) l m = subst (λ (b : Bool). HandedBy b Ctrl text l m) open_now handed in
    let here : AsksFor (heard_in all) all l m = subst (λ (t : List ℕ). AsksFor (heard_in t) t l m) whole asks in
    subst (λ (h : Option Heard). AsksFor h all l m) is here

quiet_begins : (l : Link) (text : List ℕ) → IsQuiet l → l.control.begun ++ text ≡ text
quiet_begins l text quiet = ap (λ (channel : ChannelState). channel.begun ++ text) quiet.nothing

-- a request is heard at once
handed_whole : (q : Request) (payload text : List ℕ) (l m : Link) → IsQuiet l → heard_in text ≡ Some (Asked q payload) → Handed Ctrl text l m → (request_outcome : RequestOutcome) × HandlesRequest q payload l.emulator request_outcome × (m ≡ with_outcome request_outcome l)
handed_whole q payload text l m quiet heard handed = handed_asks text text (Some (Asked q payload)) l m (quiet_takes l quiet) (quiet_begins l text quiet) heard handed

-- or what isn't whole is kept
handed_part : (head : List ℕ) (l m : Link) → IsQuiet l → heard_in head ≡ None → Handed Ctrl head l m → m ≡ record l { control = record { begun = head; pending = [] } }
handed_part head l m quiet heard handed = handed_asks head head None l m (quiet_takes l quiet) (quiet_begins l head quiet) heard handed

begun_takes : (l : Link) (head : List ℕ) → IsQuiet l → takes Ctrl (record l { control = record { begun = head; pending = [] } }) ≡ true
begun_takes l head quiet = rw quiet.listens refl

-- and the rest makes it whole
handed_rest : (q : Request) (payload head tail : List ℕ) (l m : Link) → IsQuiet l → heard_in (head ++ tail) ≡ Some (Asked q payload)
    → Handed Ctrl tail (record l { control = record { begun = head; pending = [] } }) m → (request_outcome : RequestOutcome) × HandlesRequest q payload l.emulator request_outcome × (m ≡ with_outcome request_outcome l)
handed_rest q payload head tail l m quiet heard handed =
    handed_asks (head ++ tail) tail (Some (Asked q payload)) (record l { control = record { begun = head; pending = [] } }) m (begun_takes l head quiet) refl heard handed

module _ {P : Type 0} (fails : P → Bool) (later : P → P) where
  -- one send
  sent_one : (q : Request) (payload text : List ℕ) (l m : Link) (schedule : P) (ok lost : Bool) → IsQuiet l → heard_in text ≡ Some (Asked q payload) → SentBy ok Ctrl text l m → ok ≡ not lost → SentOut lost q payload l (Some m)
  sent_one q payload text l m schedule true true quiet heard sent is = absurd cc
  sent_one q payload text l m schedule true false quiet heard sent is = let whole = handed_whole q payload text l m quiet heard sent in (whole.0, whole.1, ap Some whole.2)
  sent_one q payload text l m schedule false true quiet heard sent is = ap Some (sent ∙ cut_quiet l quiet)
  sent_one q payload text l m schedule false false quiet heard sent is = absurd cc

  pub send_one : (q : Request) (payload text : List ℕ) (o after : Option Link) (schedule schedule_now : P) (ok : Bool) → length payload ≡ 0 → heard_in text ≡ Some (Asked q payload)
      → LinkSteps (SentBy ok Ctrl text) o after → IfSome o (λ _. ok ≡ not (fails schedule)) → IfSome o (λ _. schedule_now ≡ later schedule)
      → IfSome o (λ l. IsQuiet l → SendsRequest fails later q payload l schedule ok after schedule_now)
  send_one q payload text None after schedule schedule_now ok none heard goes answers planned = tt
  send_one q (b ∷ bytes) text (Some l) after schedule schedule_now ok none heard goes answers planned = absurd (omega arith)
  send_one q [] text (Some l) None schedule schedule_now ok none heard goes answers planned = absurd goes
  send_one q [] text (Some l) (Some m) schedule schedule_now ok none heard goes answers planned = λ quiet.
      let lost : fails_within fails later 1 schedule ≡ fails schedule = or-false (fails schedule) in
      record {
        schedule_is = planned ∙ sym (either_way (fails schedule) (later schedule));
        sent_is = answers ∙ ap not (sym lost);
        link = rw lost (sent_one q [] text l m schedule ok (fails schedule) quiet heard goes answers);
      }

  -- two sends, the first of which succeeded
  sent_two : (q : Request) (payload head tail : List ℕ) (l m n : Link) (ok lost : Bool) → IsQuiet l → heard_in head ≡ None → heard_in (head ++ tail) ≡ Some (Asked q payload)
      → Handed Ctrl head l m → SentBy ok Ctrl tail m n → ok ≡ not lost → SentOut lost q payload l (Some n)
  sent_two q payload head tail l m n ok lost quiet part heard handed sent is = go ok lost is (rw (handed_part head l m quiet part handed) at sent)
    where
      go : (ok lost : Bool) → ok ≡ not lost → SentBy ok Ctrl tail (record l { control = record { begun = head; pending = [] } }) n → SentOut lost q payload l (Some n)
      go true true is sent = absurd cc
      go true false is sent = let whole = handed_rest q payload head tail l n quiet heard sent in (whole.0, whole.1, ap Some whole.2)
      go false true is sent = ap Some (sent ∙ cut_quiet l quiet)
      go false false is sent = absurd cc

  pub send_two : (q : Request) (payload head tail : List ℕ) (o mid after : Option Link) (schedule schedule_mid schedule_now : P) (ok : Bool) → 0 < length payload → heard_in head ≡ None → heard_in (head ++ tail) ≡ Some (Asked q payload)
      → LinkSteps (SentBy true Ctrl head) o mid → IfSome o (λ _. true ≡ not (fails schedule)) → IfSome o (λ _. schedule_mid ≡ later schedule)
      → LinkSteps (SentBy ok Ctrl tail) mid after → IfSome mid (λ _. ok ≡ not (fails schedule_mid)) → IfSome mid (λ _. schedule_now ≡ later schedule_mid)
      → IfSome o (λ l. IsQuiet l → SendsRequest fails later q payload l schedule ok after schedule_now)
  send_two q payload head tail None mid after schedule schedule_mid schedule_now ok some part heard first answers planned second answered schedule_later = tt
  send_two q [] head tail (Some l) mid after schedule schedule_mid schedule_now ok some part heard first answers planned second answered schedule_later = absurd (omega arith)
  send_two q (b ∷ bytes) head tail (Some l) None after schedule schedule_mid schedule_now ok some part heard first answers planned second answered schedule_later = absurd first
  send_two q (b ∷ bytes) head tail (Some l) (Some m) None schedule schedule_mid schedule_now ok some part heard first answers planned second answered schedule_later = absurd second
  send_two q (b ∷ bytes) head tail (Some l) (Some m) (Some n) schedule schedule_mid schedule_now ok some part heard first answers planned second answered schedule_later = λ quiet.
      let passes : fails schedule ≡ false = sym (negated (fails schedule) answers) in
      let lost : fails_within fails later 2 schedule ≡ fails (later schedule) = rw passes (or-false (fails (later schedule))) in
      let here : ok ≡ not (fails (later schedule)) = rw planned at answered in
      record {
        schedule_is = schedule_later ∙ ap later planned ∙ sym (rw passes (either_way (fails (later schedule)) (later (later schedule))));
        sent_is = here ∙ ap not (sym lost);
        link = rw lost (sent_two q (b ∷ bytes) head tail l m n ok (fails (later schedule)) quiet part heard first second here);
      }
    where
      negated : (b : Bool) → true ≡ not b → false ≡ b
      negated true is = absurd cc
      negated false is = refl

-- the data of a request stands behind sixteen bytes
pub data_place : (q : Request) (payload : List ℕ) → HasData q payload → 0 < length payload → length (encode_request q zeros3 payload) ≡ 16 + length payload
data_place (SetStateBlob a b size) payload has some = omega arith
data_place GetCapability payload has some = absurd (omega (arith, ap length has))
data_place (Init flags) payload has some = absurd (omega (arith, ap length has))
data_place Shutdown payload has some = absurd (omega (arith, ap length has))
data_place GetEstablished payload has some = absurd (omega (arith, ap length has))
data_place (SetLocality n) payload has some = absurd (omega (arith, ap length has))
data_place CancelCommand payload has some = absurd (omega (arith, ap length has))
data_place StoreVolatile payload has some = absurd (omega (arith, ap length has))
data_place (ResetEstablished n) payload has some = absurd (omega (arith, ap length has))
data_place (GetStateBlob a b c) payload has some = absurd (omega (arith, ap length has))
data_place Stop payload has some = absurd (omega (arith, ap length has))
data_place GetConfig payload has some = absurd (omega (arith, ap length has))
data_place (SetBufferSize n) payload has some = absurd (omega (arith, ap length has))
