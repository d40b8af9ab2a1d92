use Rattle.std.proofs.Common.{◌≤◌, ◌+◌, ◌∷◌, [], ◌++◌, ℕ, List, take, drop, get_or, sym, ap, subst, ◌∙◌, append_assoc, arith}
use Rattle.std.proofs.lemmas.List.{take-append-drop, drop_more, take_more}
use Rattle.state_blobs.specs.Partial.{bytes_read, IsReading}
use Rattle.state_blobs.specs.Refusals.{IsRefused}
use Rattle.state_blobs.proofs.Places.{earlier, same_taken_back, reads_taken_back}
use Rattle.state_blobs.proofs.reading.read_bytes.Goals as goal

pub returns-in-Err-clause-reading : goal.returns-in-Err-clause-reading
returns-in-Err-clause-reading c =
    let now : IsReading c.args.kind c.read_byte.new.reading = subst (IsReading c.args.kind) (sym c.in-Err.ensures.err) c.loop-byte.invariant.reading in
    reads_taken_back c.args.kind c.args.reading.now c.read_byte.new.reading c.requires now (take c.loop-byte.byte-index c.args.bytes.now)
    (rw c.in-Err.ensures.err c.loop-byte.invariant.read) (rw c.in-Err.ensures.err c.loop-byte.invariant.header)

pub returns-in-Err-clause-refused : goal.returns-in-Err-clause-refused
returns-in-Err-clause-refused c =
    let i = c.loop-byte.byte-index in
    let bytes = c.args.bytes.now in
    let old = bytes_read c.args.kind c.args.reading.now in
    subst (IsRefused c.args.kind c.in-Err.fault)
    (ap (λ (prefix : List ℕ). prefix ++ get_or bytes i 0 ∷ drop (i + 1) bytes) c.loop-byte.invariant.read
    ∙ append_assoc old (take i bytes) (get_or bytes i 0 ∷ drop (i + 1) bytes)
    ∙ ap (λ (rest : List ℕ). old ++ (take i bytes ++ rest)) (sym (drop_more bytes i 0 c.loop-byte-test.true))
    ∙ ap (λ (rest : List ℕ). old ++ rest) (take-append-drop i bytes))
    (c.in-Err.ensures.refused (drop (i + 1) bytes))

pub returns-in-Err-clause-err : goal.returns-in-Err-clause-err
returns-in-Err-clause-err c =
    let now : IsReading c.args.kind c.read_byte.new.reading = subst (IsReading c.args.kind) (sym c.in-Err.ensures.err) c.loop-byte.invariant.reading in
    same_taken_back c.args.kind c.args.reading.now c.read_byte.new.reading c.requires now (take c.loop-byte.byte-index c.args.bytes.now)
    (rw c.in-Err.ensures.err c.loop-byte.invariant.read) (rw c.in-Err.ensures.err c.loop-byte.invariant.header)

pub loop-byte-preserved : goal.loop-byte-preserved
loop-byte-preserved c =
    let i = c.loop-byte.byte-index in
    let bytes = c.args.bytes.now in
    let old = bytes_read c.args.kind c.args.reading.now in
    let before : c.args.reading.now.place ≤ c.loop-byte.reading.place =
    earlier c.args.kind c.args.reading.now c.loop-byte.reading c.requires c.loop-byte.invariant.reading (take i bytes) c.loop-byte.invariant.read c.loop-byte.invariant.header in
    record {
      reading = c.in_default.ensures.ok;
      read = c.in_default.ensures.read
          ∙ ap (λ (prefix : List ℕ). prefix ++ get_or bytes i 0 ∷ []) c.loop-byte.invariant.read
          ∙ append_assoc old (take i bytes) (get_or bytes i 0 ∷ [])
          ∙ ap (λ (prefix : List ℕ). old ++ prefix) (sym (take_more bytes i 0 c.loop-byte-test.true));
      header = λ le. c.in_default.ensures.header (omega (arith, le, before)) ∙ c.loop-byte.invariant.header le;
    }
