-- How many bytes a walk over the headers of a stream may ask for.
use Rattle.std.proofs.Common.{◌≡◌, ℕ, ◌+◌, ◌-◌, ◌*◌, ◌^◌, ◌<◌, ◌≤◌, Bool, true, false, ◌&&◌, List, [], ◌∷◌, length, Option, Some, None, Result, Ok, Err, refl, arith, lit≤}
use Rattle.std.specs.Prelude.{nat_eq, slice_index}
use Rattle.std.specs.List.{starts_with}
use Rattle.std.proofs.lemmas.Bool.Decides.{nat_tests}
use Rattle.tpm_core.specs.declared.algorithm.Banks.{Banks}
use Rattle.tpm_core.specs.declared.algorithm.Banks.TheVariants.{One, Two}
use Rattle.vt_base.specs.declared.types.Kind.{Kind}
use Rattle.vt_base.specs.declared.types.Kind.TheVariants.{Permanent, Volatile, Saved}
use Rattle.vt_base.specs.declared.grammar.Missing.{Missing}
use Rattle.vt_base.specs.Layout.{IsWithin, Ends}
use Rattle.vt_base.specs.Parsing.{parsed}
use Rattle.vt_base.specs.Within.{either_within}
use Rattle.vt_base.proofs.Layouts.{wants_within}
use Rattle.state_blobs.specs.Numbers.{banks_named}
use Rattle.state_blobs.specs.Encodings.{magic_of}
use Rattle.state_blobs.specs.Refusals.{length_field}
use Rattle.saved_stream.specs.declared.part.Part.{Part}
use Rattle.saved_stream.specs.declared.part.Part.TheVariants.{Record, Blob}
use Rattle.saved_stream.specs.Parts.{parts}
use Rattle.saved_stream.specs.Streams.{magic}
use Rattle.saved_stream.specs.Headers.{begins, is_length_of, is_header, parts_then, walk, lack, wanted_after}

next_true : (a b : Bool) → a && b ≡ true → b ≡ true
next_true true b is = is
next_true false b is = absurd cc

-- a body has at most 3982 bytes
blob_few : (kind : Kind) (named : Option Banks) (count : ℕ) → is_length_of kind named count ≡ true → count ≤ 3982
blob_few kind None count is = absurd cc
blob_few Permanent (Some banks) count is = grind (arith, nat_tests)
blob_few Volatile (Some One) count is = grind (arith, nat_tests)
blob_few Volatile (Some Two) count is = grind (arith, nat_tests)
blob_few Saved (Some One) count is = grind (arith, nat_tests)
blob_few Saved (Some Two) count is = grind (arith, nat_tests)

may_few : (part : Part) (header : List ℕ) → is_header part header ≡ true → length_field header ≤ 3982
may_few Record header is = grind (arith, nat_tests)
may_few (Blob kind) header is = blob_few kind (banks_named (slice_index header 4)) (length_field header) (next_true (starts_with nat_eq header (magic_of kind)) _ is)

parts_within : (ps : List Part) (room : ℕ) → 3991 * length ps ≤ room → IsWithin (parts_then ps) room
parts_within [] room le = tt
parts_within (part ∷ ps) room le = (
  omega arith,
  λ header. either_within (is_header part header) _ (Ends false) (room - 9)
      (λ is. let within_limit = may_few part header is in (omega arith, λ body. parts_within ps (room - 9 - length_field header) (omega arith))) (λ _. tt),
)

walk_within : IsWithin walk 15973
unfolding walk
walk_within = (lit≤ tt, λ head. either_within (begins magic head) (parts_then parts) (Ends false) 15964 (λ _. parts_within parts 15964 (lit≤ tt)) (λ _. tt))

-- what is missing fits an answer
pub walk_few : (bytes : List ℕ) (lack : Missing) → parsed walk bytes ≡ Err lack → lack.0 < 2 ^ 32
walk_few bytes lack is = omega (arith, wants_within walk 15973 bytes lack.0 walk_within is)

few_if : (bytes : List ℕ) (answer : Result Bool Missing) → parsed walk bytes ≡ answer → 0 < lack answer → length bytes + lack answer ≤ 15973
few_if bytes (Ok end) is some = absurd (omega (arith, some))
few_if bytes (Err m) is some = wants_within walk 15973 bytes m.0 walk_within is

-- and with what is there it isn't much
pub wanted_few : (bytes : List ℕ) → 0 < wanted_after bytes → length bytes + wanted_after bytes ≤ 15973
wanted_few bytes some = few_if bytes (parsed walk bytes) refl some
