-- No message has more than 4122 bytes.
use Rattle.std.specs.Prelude.{ℕ, ◌≡◌, ◌≤◌, ◌-◌, ◌+◌, ◌||◌, slice_index, Bool, true, false, cond, nat_lt, eqb, List, Option, Some, None, Result}
use Rattle.std.specs.Int.{w16, w32, w64, from_be_bytes}
use Rattle.std.proofs.Common.{lit≤}
use Rattle.std.proofs.lemmas.Bool.{ltb-false}
use Rattle.vt_base.specs.declared.types.Why.TheVariants.{Length, Value}
use Rattle.vt_base.specs.declared.types.Malformed.{Malformed}
use Rattle.vt_base.specs.Layout.{Layout, Field, IsWithin}
use Rattle.vt_base.specs.Refusing.{refuse}
use Rattle.vt_base.specs.Within.{either_within, magic_byte_within}
use Rattle.vt_base.specs.declared.types.HostName.{HostName}
use Rattle.move_codec.specs.declared.names.Part.{Part}
use Rattle.move_codec.specs.declared.names.Kind.{Kind}
use Rattle.move_codec.specs.declared.names.Kind.TheVariants.{Offer, Need, Piece, Prepared, Commit, Abort, Refuse}
use Rattle.move_codec.specs.declared.outline.Shape.TheVariants as shape
use Rattle.move_codec.specs.Names.{named, host_byte, hosts, part_byte, parts, reason_byte, reasons, kind_byte, kinds, fits}
use Rattle.move_codec.specs.Messages.{with_message, name_next, name_then, bytes_of, body_of, receiver, after_kind, after_length, messages}

next_within : {X V : Type 0} (place : ℕ) (next : X → Layout (Result V Malformed)) (name : Option X) (room : ℕ) → ((x : X) → IsWithin (next x) room) → IsWithin (name_next place next name) room
next_within place next None room h = tt
next_within place next (Some x) room h = h x

name_within : {X V : Type 0} (byte : X → ℕ) (names : List X) (place : ℕ) (next : X → Layout (Result V Malformed)) (room : ℕ) → 1 ≤ room → ((x : X) → IsWithin (next x) (room - 1)) → IsWithin (name_then byte names place next) room
name_within byte names place next room le h = (le, λ b. next_within place next (named byte names (slice_index b 0)) (room - 1) h)

or_false : (a b : Bool) → (a || b) ≡ false → b ≡ false
or_false true b e = absurd cc
or_false false b e = e

bytes_within : (len : ℕ) (to : HostName) (epoch : ℕ) (part : Part) (offset count : ℕ) → IsWithin (bytes_of len to epoch part offset count) 4096
bytes_within len to epoch part offset count =
    either_within (eqb count 0 || nat_lt 4096 count) (refuse Value 24) (cond (eqb (17 + count) len) (Field count (λ _. with_message to epoch (shape.Piece part offset))) (refuse Length 24)) 4096 (λ _. tt) (λ small.
    either_within (eqb (17 + count) len) (Field count (λ _. with_message to epoch (shape.Piece part offset))) (refuse Length 24) 4096
    (λ _. (ltb-false _ _ (or_false (eqb count 0) (nat_lt 4096 count) small), λ _. tt)) (λ _. tt))

body_within : (k : Kind) (len : ℕ) (to : HostName) (epoch : ℕ) → IsWithin (body_of k len to epoch) 4103
body_within Offer len to epoch = (lit≤ tt, λ _. (lit≤ tt, λ _. (lit≤ tt, λ _. (lit≤ tt, λ _. tt))))
body_within Need len to epoch = name_within part_byte parts 19 _ 4103 (lit≤ tt) (λ p. (lit≤ tt, λ _. tt))
body_within Piece len to epoch = name_within part_byte parts 19 _ 4103 (lit≤ tt) (λ p. (lit≤ tt, λ o. (lit≤ tt, λ n. bytes_within len to epoch p (from_be_bytes w32 o) (from_be_bytes w16 n))))
body_within Prepared len to epoch = tt
body_within Commit len to epoch = tt
body_within Abort len to epoch = tt
body_within Refuse len to epoch = name_within reason_byte reasons 19 _ 4103 (lit≤ tt) (λ r. (lit≤ tt, λ _. tt))

kind_within : (len : ℕ) (k : Kind) → IsWithin (after_kind len k) 4112
kind_within len k = either_within (fits k len) (receiver k len) (refuse Length 5) 4112 (λ _. name_within host_byte hosts 10 _ 4112 (lit≤ tt) (λ to. (lit≤ tt, λ e. body_within k len to (from_be_bytes w64 e)))) (λ _. tt)

length_within : (len : ℕ) → IsWithin (after_length len) 4113
length_within len = either_within (nat_lt len 10 || nat_lt 4113 len) (refuse Length 5) (name_then kind_byte kinds 9 (λ k. after_kind len k)) 4113 (λ _. tt) (λ _. name_within kind_byte kinds 9 _ 4113 (lit≤ tt) (λ k. kind_within len k))

pub messages_within : IsWithin messages 4122
unfolding messages
messages_within = magic_byte_within 67 _ 0 _ 4122 (lit≤ tt) (magic_byte_within 82 _ 1 _ 4121 (lit≤ tt) (magic_byte_within 66 _ 2 _ 4120 (lit≤ tt) (magic_byte_within 77 _ 3 _ 4119 (lit≤ tt)
    (magic_byte_within 1 _ 4 _ 4118 (lit≤ tt) (lit≤ tt, λ len. length_within (from_be_bytes w32 len))))))
