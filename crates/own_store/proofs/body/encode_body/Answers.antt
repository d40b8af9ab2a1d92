use Rattle.std.proofs.Common.{◌<◌, ◌^◌, ◌++◌, ◌∷◌, [], List, ℕ, length, ◌∙◌, ap, arith}
use Rattle.std.specs.Int.{w16, w64, to_be_bytes}
use Rattle.own_store.specs.Body.{role_byte}
use Rattle.own_store.proofs.Encoding.{decodes}
use Rattle.own_store.proofs.body.encode_body.Goals as goal

pub returns : goal.returns
returns c =
    let e = c.args.entry.now in
    let fits : c.args.version < 2 ^ 64 = omega arith in
    let top : e.top < 2 ^ 64 = omega arith in
    let stream = c.as_slice-stream.ensures.value in
    let fifth = rw stream at c.put-5.ensures in
    let fourth = rw (c.to_be_bytes-3.ensures, stream) at c.put-4.ensures in
    let third = rw c.to_be_bytes-2.ensures at c.put-3.ensures in
    let second = rw c.role_to_byte.ensures at c.put-2.ensures in
    let first = rw c.to_be_bytes.ensures at c.put.ensures in
    record {
      encoded = decodes c.args.version e c.put-5.new.into fits top c.requires.limit
          (fifth
          ∙ ap (λ (l : List ℕ). l ++ e.stream) fourth
          ∙ ap (λ (l : List ℕ). (l ++ to_be_bytes w16 (length e.stream)) ++ e.stream) third
          ∙ ap (λ (l : List ℕ). ((l ++ to_be_bytes w64 e.top) ++ to_be_bytes w16 (length e.stream)) ++ e.stream) second
          ∙ ap (λ (l : List ℕ). (((l ++ (role_byte e.role ∷ [])) ++ to_be_bytes w64 e.top) ++ to_be_bytes w16 (length e.stream)) ++ e.stream) first);
    }
