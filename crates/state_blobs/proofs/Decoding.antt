-- Bytes of which nothing is decoded are cut.
use Rattle.std.proofs.Common.{ℕ, List, length, take, Ok, Err, arith, inl, inr}
use Rattle.std.proofs.lemmas.List.{take_all}
use Rattle.vt_base.specs.Layout.{IsOpen}
use Rattle.vt_base.specs.declared.types.Kind.{Kind}
use Rattle.vt_base.specs.declared.types.Malformed.{Malformed}
use Rattle.state_blobs.specs.Blobs.{blob}
use Rattle.state_blobs.specs.Refusals.{IsRefused, IsCut}
use Rattle.state_blobs.proofs.Bodies.{blob_is_decoded}
use Rattle.state_blobs.proofs.Refused.{refused_is_decoded}

open_refused : (kind : Kind) (fault : Malformed) (bytes : List ℕ) → IsOpen (blob kind) bytes → IsRefused kind fault bytes → ⊥
open_refused kind fault bytes none refused =
    elim (refused_is_decoded kind fault.why fault.place bytes refused) [
      | inl (n, exact) ↦ none (Err fault) n exact
      | inr (less, is, extra) ↦ none (Ok tt) fault.place (blob_is_decoded kind (take fault.place bytes) is)
    ]

-- Where nothing is decoded yet the bytes are cut.
pub open_is_cut : (kind : Kind) (bytes : List ℕ) → IsOpen (blob kind) bytes → IsCut kind bytes
open_is_cut kind bytes none = record {
  no_blob = λ is. none (Ok tt) (length bytes) (rw (take_all (length bytes) bytes (omega arith)) (blob_is_decoded kind bytes is));
  not_refused = λ fault refused. open_refused kind fault bytes none refused;
}
