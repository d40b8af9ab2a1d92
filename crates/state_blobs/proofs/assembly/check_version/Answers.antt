use Rattle.std.proofs.Common.{◌≡◌, true, [], sym, ◌∙◌, arith, inr}
use Rattle.state_blobs.specs.Encodings.{IsBlob}
use Rattle.state_blobs.proofs.Fields.{blob_there}
use Rattle.state_blobs.proofs.Joined.{blob_if_begun}
use Rattle.state_blobs.proofs.assembly.check_version.Goals as goal

pub returns-then-version-clause-same : goal.returns-then-version-clause-same
returns-then-version-clause-same c =
    let g = c.args.gather.now in
    let p = c.args.permanent.now in
    let begun : g.begun ≡ [] → ⊥ = λ none. let on : c.is_empty.result ≡ true = c.is_empty.ensures.1 none in absurd cc in
    let is : IsBlob g.kind g.begun = blob_if_begun g.kind g.begun c.requires.blob begun in
    inr (is, sym (c.version.ensures (omega (arith, blob_there g.kind g.begun is))) ∙ c.if-version.true ∙ c.version-2.ensures (omega (arith, blob_there p.kind p.begun c.requires.permanent)))

pub returns-clause-other : goal.returns-clause-other
returns-clause-other c =
    let g = c.args.gather.now in
    let p = c.args.permanent.now in
    let begun : g.begun ≡ [] → ⊥ = λ none. let on : c.is_empty.result ≡ true = c.is_empty.ensures.1 none in absurd cc in
    let is : IsBlob g.kind g.begun = blob_if_begun g.kind g.begun c.requires.blob begun in (
      is,
      λ same. c.if-version.false (c.version.ensures (omega (arith, blob_there g.kind g.begun is)) ∙ same ∙ sym (c.version-2.ensures (omega (arith, blob_there p.kind p.begun c.requires.permanent)))),
    )
