-- Replies to control requests as bytes. (Own definitions.)
use Rattle.std.specs.Prelude.{◌≡◌, ◌≢◌, ℕ, ◌-◌, ◌≤◌, ◌<◌, ◌^◌, ◌==◌, List, [], ◌∷◌, ◌++◌, length, replicate, nat_lt, if◌then◌else◌, Result, Ok, Err, ⊤}
use Rattle.vt_base.specs.Numbers.{number, long}
use Rattle.vt_base.specs.Layout.{Layout, Ends, Field, byte_then, number_then, long_then}
use Rattle.ctrl_codec.specs.Numbers.{largest_data}
use Rattle.ctrl_codec.specs.declared.request_code.RequestCode.{RequestCode}
use Rattle.ctrl_codec.specs.declared.request_code.RequestCode.TheVariants.{GetCapability, Init, Shutdown, GetEstablished, SetLocality, CancelCommand, StoreVolatile, ResetEstablished, GetStateBlob, SetStateBlob, Stop, GetConfig, SetBufferSize}
use Rattle.ctrl_codec.specs.declared.reply.Reply.{Reply}
use Rattle.ctrl_codec.specs.declared.reply.Reply.TheVariants as reply
use Rattle.ctrl_codec.specs.declared.reply.ReplyFault.{ReplyFault}
use Rattle.ctrl_codec.specs.declared.reply.ReplyFault.TheVariants.{Length, Value}

-- ---- the one encoding of each reply

-- a reply, and its data
abbrev pub encode_reply : Reply → List ℕ → List ℕ
encode_reply (reply.Capability value) payload = long value
encode_reply (reply.Result result) payload = number result
encode_reply (reply.Established result bit) payload = number result ++ bit ∷ 0 ∷ 0 ∷ 0 ∷ []
encode_reply (reply.Blob result flags total len) payload = number result ++ number flags ++ number total ++ number len ++ payload
encode_reply (reply.Config result flags) payload = number result ++ number flags
encode_reply (reply.Buffer result size least greatest) payload = number result ++ number size ++ number least ++ number greatest

-- the data that goes with a reply
abbrev pub ReplyHasData : Reply → List ℕ → Type 0
ReplyHasData (reply.Blob result flags total len) payload = (length payload ≡ len) × (len ≤ largest_data)
ReplyHasData r payload = payload ≡ []

-- its numbers are those of its types
abbrev pub ReplyIsInRange : Reply → Type 0
ReplyIsInRange (reply.Capability value) = value < 2 ^ 64
ReplyIsInRange (reply.Result result) = result < 2 ^ 32
ReplyIsInRange (reply.Established result bit) = (result < 2 ^ 32) × (bit < 2 ^ 8)
ReplyIsInRange (reply.Blob result flags total len) = (result < 2 ^ 32) × (flags < 2 ^ 32) × (total < 2 ^ 32) × (len < 2 ^ 32)
ReplyIsInRange (reply.Config result flags) = (result < 2 ^ 32) × (flags < 2 ^ 32)
ReplyIsInRange (reply.Buffer result size least greatest) = (result < 2 ^ 32) × (size < 2 ^ 32) × (least < 2 ^ 32) × (greatest < 2 ^ 32)

-- which reply a command has: a case for each command
abbrev pub IsReplyToCode : RequestCode → Reply → Type 0
IsReplyToCode GetCapability (reply.Capability value) = ⊤
IsReplyToCode Init (reply.Result result) = ⊤
IsReplyToCode Shutdown (reply.Result result) = ⊤
IsReplyToCode GetEstablished (reply.Established result bit) = ⊤
IsReplyToCode SetLocality (reply.Result result) = ⊤
IsReplyToCode CancelCommand (reply.Result result) = ⊤
IsReplyToCode StoreVolatile (reply.Result result) = ⊤
IsReplyToCode ResetEstablished (reply.Result result) = ⊤
IsReplyToCode GetStateBlob (reply.Blob result flags total len) = ⊤
IsReplyToCode SetStateBlob (reply.Result result) = ⊤
IsReplyToCode Stop (reply.Result result) = ⊤
IsReplyToCode GetConfig (reply.Config result flags) = ⊤
IsReplyToCode SetBufferSize (reply.Buffer result size least greatest) = ⊤
IsReplyToCode c r = ⊥

-- These bytes say this reply to the command, with this data.
pub record Says (c : RequestCode) (r : Reply) (payload bytes : List ℕ) : Type 0 where
  pub answers : IsReplyToCode c r
  pub in_range : ReplyIsInRange r
  pub has_data : ReplyHasData r payload
  pub spelled : bytes ≡ encode_reply r payload

-- The byte at this place is the first of the three zero bytes that isn't 0, and the last of these bytes.
pub record IsNotZeroAt (place : ℕ) (bytes : List ℕ) : Type 0 where
  pub result : ℕ
  pub bit : ℕ
  pub other : ℕ
  pub result_fits : result < 2 ^ 32
  pub bit_fits : bit < 2 ^ 8
  pub other_fits : other < 2 ^ 8
  pub other_is : other ≢ 0
  pub from_first : 5 ≤ place
  pub to_third : place ≤ 7
  pub spelled : bytes ≡ number result ++ bit ∷ replicate (place - 5) 0 ++ other ∷ []

-- The fourth field is this length, above the limit, and the last of these bytes.
pub record IsTooLong (len : ℕ) (bytes : List ℕ) : Type 0 where
  pub result : ℕ
  pub flags : ℕ
  pub total : ℕ
  pub result_fits : result < 2 ^ 32
  pub flags_fit : flags < 2 ^ 32
  pub total_fits : total < 2 ^ 32
  pub len_fits : len < 2 ^ 32
  pub above : largest_data < len
  pub spelled : bytes ≡ number result ++ number flags ++ number total ++ number len

-- These bytes end with the field for which no reply to the command begins so. Two commands have such a field.
abbrev pub RefusesReply : RequestCode → ReplyFault → List ℕ → Type 0
RefusesReply GetEstablished (Value place) bytes = IsNotZeroAt place bytes
RefusesReply GetStateBlob (Length len) bytes = IsTooLong len bytes
RefusesReply c fault bytes = ⊥

-- ---- the same, parsed from left to right

-- how a reply ends
abbrev pub ReplyEnding : Type 0
ReplyEnding = Result Reply ReplyFault

abbrev pub with_reply : Reply → Layout ReplyEnding
with_reply r = Ends (Ok r)

-- a zero at this place
abbrev pub zero_then : ℕ → Layout ReplyEnding → Layout ReplyEnding
zero_then place next = byte_then (λ b. if b == 0 then next else Ends (Err (Value place)))

abbrev pub established : Layout ReplyEnding
established = number_then (λ result. byte_then (λ bit.
    zero_then 5 (zero_then 6 (zero_then 7 (with_reply (reply.Established result bit))))))

abbrev pub blob : Layout ReplyEnding
blob = number_then (λ result. number_then (λ flags. number_then (λ total. number_then (λ len.
    if nat_lt largest_data len then Ends (Err (Length len)) else Field len (λ payload. with_reply (reply.Blob result flags total len))))))

-- the replies to a command
unfoldable pub replies_to : RequestCode → Layout ReplyEnding
replies_to GetCapability = long_then (λ value. with_reply (reply.Capability value))
replies_to GetEstablished = established
replies_to GetStateBlob = blob
replies_to GetConfig = number_then (λ result. number_then (λ flags. with_reply (reply.Config result flags)))
replies_to SetBufferSize = number_then (λ result. number_then (λ size. number_then (λ least. number_then (λ greatest. with_reply (reply.Buffer result size least greatest)))))
replies_to c = number_then (λ result. with_reply (reply.Result result))
