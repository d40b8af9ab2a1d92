-- Parts that are filled slice by slice.
use Rattle.std.proofs.Common.{◌≡◌, ℕ, ◌+◌, List, ◌++◌, length, take, drop, Some, None, refl, sym, ap, ◌∙◌, arith}
use Rattle.std.proofs.lemmas.List.{take_all, take_min, length-take}
use Rattle.std.proofs.Math.Seq.{take-add}
use Rattle.hand_over.specs.Parts.{Parts, part_of, part_after, part_number, lengths, total_of, slice, put, filled}
use Rattle.move_codec.specs.declared.names.Part.{Part}
use Rattle.move_codec.specs.declared.names.Part.TheVariants.{Record, Permanent, Volatile, Saved}

pub part_same : (p q : Part) → part_number p ≡ part_number q → p ≡ q
part_same Record Record h = refl
part_same Permanent Permanent h = refl
part_same Volatile Volatile h = refl
part_same Saved Saved h = refl
part_same Record Permanent h = absurd (omega arith)
part_same Record Volatile h = absurd (omega arith)
part_same Record Saved h = absurd (omega arith)
part_same Permanent Record h = absurd (omega arith)
part_same Permanent Volatile h = absurd (omega arith)
part_same Permanent Saved h = absurd (omega arith)
part_same Volatile Record h = absurd (omega arith)
part_same Volatile Permanent h = absurd (omega arith)
part_same Volatile Saved h = absurd (omega arith)
part_same Saved Record h = absurd (omega arith)
part_same Saved Permanent h = absurd (omega arith)
part_same Saved Volatile h = absurd (omega arith)

pub total_is : (parts : Parts) (p : Part) → total_of (lengths parts) p ≡ length (part_of parts p)
total_is parts Record = refl
total_is parts Permanent = refl
total_is parts Volatile = refl
total_is parts Saved = refl

pub take_slice : (xs : List ℕ) (place size : ℕ) → take place xs ++ slice xs place size ≡ take (place + size) xs
take_slice xs place size = sym (take-add place size xs)

pub put_slice : (parts : Parts) (p : Part) (place size : ℕ) → put (filled parts p place) p (slice (part_of parts p) place size) ≡ filled parts p (place + size)
put_slice parts Record place size = ap (λ bytes. record (filled parts Record place) { record_bytes = bytes }) (take_slice parts.record_bytes place size)
put_slice parts Permanent place size = ap (λ bytes. record (filled parts Permanent place) { permanent = bytes }) (take_slice parts.permanent place size)
put_slice parts Volatile place size = ap (λ bytes. record (filled parts Volatile place) { volatile = bytes }) (take_slice parts.volatile place size)
put_slice parts Saved place size = ap (λ bytes. record (filled parts Saved place) { saved = bytes }) (take_slice parts.saved place size)

-- a part that is full is followed by the next one, and the last by none
pub part_full : (parts : Parts) (p q : Part) → part_after p ≡ Some q → filled parts p (length (part_of parts p)) ≡ filled parts q 0
part_full parts Record Permanent h = ap (λ bytes. record (filled parts Permanent 0) { record_bytes = bytes }) (take_all (length parts.record_bytes) parts.record_bytes (omega arith))
part_full parts Permanent Volatile h = ap (λ bytes. record (filled parts Volatile 0) { permanent = bytes }) (take_all (length parts.permanent) parts.permanent (omega arith))
part_full parts Volatile Saved h = ap (λ bytes. record (filled parts Saved 0) { volatile = bytes }) (take_all (length parts.volatile) parts.volatile (omega arith))
part_full parts Record Record h = absurd cc
part_full parts Record Volatile h = absurd cc
part_full parts Record Saved h = absurd cc
part_full parts Permanent Record h = absurd cc
part_full parts Permanent Permanent h = absurd cc
part_full parts Permanent Saved h = absurd cc
part_full parts Volatile Record h = absurd cc
part_full parts Volatile Permanent h = absurd cc
part_full parts Volatile Volatile h = absurd cc
part_full parts Saved q h = absurd cc

pub all_full : (parts : Parts) (p : Part) → part_after p ≡ None → filled parts p (length (part_of parts p)) ≡ parts
all_full parts Saved h = ap (λ bytes. record parts { saved = bytes }) (take_all (length parts.saved) parts.saved (omega arith))
all_full parts Record h = absurd cc
all_full parts Permanent h = absurd cc
all_full parts Volatile h = absurd cc

-- a slice as long as it is
pub slice_again : (xs : List ℕ) (offset size : ℕ) → slice xs offset size ≡ slice xs offset (length (slice xs offset size))
slice_again xs offset size = sym (ap (λ n. take n (drop offset xs)) (length-take size (drop offset xs)) ∙ take_min size (drop offset xs))
