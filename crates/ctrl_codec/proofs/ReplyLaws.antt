-- No encoding of a reply to a command begins another.
use Rattle.std.proofs.Common.{◌≡◌, ℕ, List, ◌++◌, drop, Ok, Err, refl, sym, ap, ◌∙◌}
use Rattle.vt_base.proofs.Layouts.{one_encoding}
use Rattle.ctrl_codec.specs.declared.request_code.RequestCode.{RequestCode}
use Rattle.ctrl_codec.specs.declared.reply.Reply.{Reply}
use Rattle.ctrl_codec.specs.declared.reply.Reply.TheVariants as reply
use Rattle.ctrl_codec.specs.declared.reply.ReplyFault.{ReplyFault}
use Rattle.ctrl_codec.specs.Replies.{IsReplyToCode, Says, ReplyHasData, ReplyIsInRange, RefusesReply, ReplyEnding, encode_reply, replies_to}
use Rattle.ctrl_codec.proofs.Replies.{says_back, refuses_reply_back}

-- the data of a reply is what follows its first sixteen bytes
payload_of : (r : Reply) (payload : List ℕ) → ReplyHasData r payload → drop 16 (encode_reply r payload) ≡ payload
payload_of (reply.Capability value) payload has = sym has
payload_of (reply.Result result) payload has = sym has
payload_of (reply.Established result bit) payload has = sym has
payload_of (reply.Blob result flags total len) payload has = refl
payload_of (reply.Config result flags) payload has = sym has
payload_of (reply.Buffer result size least greatest) payload has = sym has

payload_is : (c : RequestCode) (r : Reply) (payload bytes : List ℕ) → Says c r payload bytes → drop 16 bytes ≡ payload
payload_is c r payload bytes says = ap (λ (t : List ℕ). drop 16 t) says.spelled ∙ payload_of r payload says.has_data

abbrev said : Reply → ReplyEnding
said r = Ok r

abbrev refusal : ReplyFault → ReplyEnding
refusal fault = Err fault

pub same_reply : (c : RequestCode) (q r : Reply) (p s a b x y : List ℕ) → Says c q p a → Says c r s b → a ++ x ≡ b ++ y → (q ≡ r) × (p ≡ s) × (a ≡ b)
same_reply c q r p s a b x y first second same =
    let one = one_encoding (replies_to c) (said q) (said r) a b x y (says_back c q p a first) (says_back c r s b second) same in
    let ends : said q ≡ said r = one.0 in
    (cc, sym (payload_is c q p a first) ∙ ap (λ (t : List ℕ). drop 16 t) one.1 ∙ payload_is c r s b second, one.1)

pub same_refusal : (c : RequestCode) (f g : ReplyFault) (a b x y : List ℕ) → RefusesReply c f a → RefusesReply c g b → a ++ x ≡ b ++ y → (f ≡ g) × (a ≡ b)
same_refusal c f g a b x y first second same =
    let one = one_encoding (replies_to c) (refusal f) (refusal g) a b x y (refuses_reply_back c f a first) (refuses_reply_back c g b second) same in
    let ends : refusal f ≡ refusal g = one.0 in
    (cc, one.1)

pub never_both : (c : RequestCode) (r : Reply) (f : ReplyFault) (p a b x y : List ℕ) → Says c r p a → RefusesReply c f b → a ++ x ≡ b ++ y → ⊥
never_both c r f p a b x y first second same =
    let one = one_encoding (replies_to c) (said r) (refusal f) a b x y (says_back c r p a first) (refuses_reply_back c f b second) same in
    let ends : said r ≡ refusal f = one.0 in
    cc

pub encoding_says : (c : RequestCode) (r : Reply) (payload : List ℕ) → IsReplyToCode c r → ReplyIsInRange r → ReplyHasData r payload → Says c r payload (encode_reply r payload)
encoding_says c r payload answers in_range has = record { answers = answers; in_range = in_range; has_data = has; spelled = refl }
