-- Migration messages, parsed from left to right: the layout of the rows of Encoding and Refusals. (Own format.)
use Rattle.std.specs.Prelude.{ℕ, ◌+◌, ◌==◌, ◌||◌, List, [], ◌∷◌, nat_lt, if◌then◌else◌, Option, Some, None, Result, Ok}
use Rattle.vt_base.specs.declared.types.Why.TheVariants.{Version, Length, Value}
use Rattle.vt_base.specs.declared.types.Malformed.{Malformed}
use Rattle.vt_base.specs.Layout.{Layout, Ends, Field, byte_then, short_then, number_then, long_then}
use Rattle.vt_base.specs.Magics.{magic_then}
use Rattle.vt_base.specs.Refusing.{refuse, magic_byte_then}
use Rattle.vt_base.specs.declared.types.HostName.{HostName}
use Rattle.move_codec.specs.declared.names.Part.{Part}
use Rattle.move_codec.specs.declared.names.Kind.{Kind}
use Rattle.move_codec.specs.declared.names.Kind.TheVariants as kind
use Rattle.move_codec.specs.declared.outline.Shape.{Shape}
use Rattle.move_codec.specs.declared.outline.Shape.TheVariants.{Offer, Need, Piece, Prepared, Commit, Abort, Refuse}
use Rattle.move_codec.specs.declared.outline.Outline.{Outline}
use Rattle.move_codec.specs.Encoding.{magic}
use Rattle.move_codec.specs.Names.{named, host_byte, hosts, part_byte, parts, reason_byte, reasons, kind_byte, kinds, fits}

abbrev pub Ending : Type 0
Ending = Result Outline Malformed

abbrev pub outline : HostName → ℕ → Shape → Outline
outline to epoch shape = record { to = to; epoch = epoch; shape = shape }

abbrev pub with_message : HostName → ℕ → Shape → Layout Ending
with_message to epoch shape = Ends (Ok (outline to epoch shape))

-- what the name makes of the rest, or a refusal where there is none
abbrev pub name_next : {X V : Type 0} → ℕ → (X → Layout (Result V Malformed)) → Option X → Layout (Result V Malformed)
name_next place next None = refuse Value place
name_next place next (Some name) = next name

-- a byte that is to be that of a name
abbrev pub name_then : {X V : Type 0} → (X → ℕ) → List X → ℕ → (X → Layout (Result V Malformed)) → Layout (Result V Malformed)
name_then byte names place next = byte_then (λ b. name_next place next (named byte names b))

-- ---- bodies

abbrev pub offer : HostName → ℕ → Layout Ending
offer to epoch = number_then (λ device. number_then (λ permanent. number_then (λ volatile. number_then (λ saved. with_message to epoch (Offer (device ∷ permanent ∷ volatile ∷ saved ∷ []))))))

abbrev pub need : HostName → ℕ → Layout Ending
need to epoch = name_then part_byte parts 19 (λ part. number_then (λ offset. with_message to epoch (Need part offset)))

abbrev pub bytes_of : ℕ → HostName → ℕ → Part → ℕ → ℕ → Layout Ending
bytes_of len to epoch part offset count =
    if count == 0 || nat_lt 4096 count then refuse Value 24 else
    if 17 + count == len then Field count (λ _. with_message to epoch (Piece part offset)) else refuse Length 24

abbrev pub piece : ℕ → HostName → ℕ → Layout Ending
piece len to epoch = name_then part_byte parts 19 (λ part. number_then (λ offset. short_then (λ count. bytes_of len to epoch part offset count)))

abbrev pub refusal : HostName → ℕ → Layout Ending
refusal to epoch = name_then reason_byte reasons 19 (λ reason. number_then (λ value. with_message to epoch (Refuse reason value)))

abbrev pub body_of : Kind → ℕ → HostName → ℕ → Layout Ending
body_of kind.Offer len to epoch = offer to epoch
body_of kind.Need len to epoch = need to epoch
body_of kind.Piece len to epoch = piece len to epoch
body_of kind.Prepared len to epoch = with_message to epoch Prepared
body_of kind.Commit len to epoch = with_message to epoch Commit
body_of kind.Abort len to epoch = with_message to epoch Abort
body_of kind.Refuse len to epoch = refusal to epoch

-- ---- the header

abbrev pub receiver : Kind → ℕ → Layout Ending
receiver k len = name_then host_byte hosts 10 (λ to. long_then (λ epoch. body_of k len to epoch))

abbrev pub after_kind : ℕ → Kind → Layout Ending
after_kind len k = if fits k len then receiver k len else refuse Length 5

abbrev pub after_length : ℕ → Layout Ending
after_length len = if nat_lt len 10 || nat_lt 4113 len then refuse Length 5 else name_then kind_byte kinds 9 (λ k. after_kind len k)

-- the version, and what follows it
abbrev pub after_magic : Layout Ending
after_magic = magic_byte_then 1 Version 4 (number_then after_length)

unfoldable pub messages : Layout Ending
messages = magic_then magic 0 after_magic
