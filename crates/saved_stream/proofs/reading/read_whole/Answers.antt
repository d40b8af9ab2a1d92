use Rattle.std.proofs.Common.{◌≡◌, ◌-◌, ℕ, rules, ap, sym, subst, ◌∙◌}
use Rattle.vt_base.specs.Numbers.{IsBytes}
use Rattle.vt_base.specs.declared.types.Malformed.{Malformed}
use Rattle.state_blobs.specs.Refusals.{length_field}
use Rattle.saved_stream.specs.Refusals.{moved, IsStreamRefused}
use Rattle.saved_stream.proofs.Whole.{refused_length, refused_blame, refused_extra, whole_stream, fault_of, made_of}
use Rattle.saved_stream.proofs.reading.read_whole.Goals as goal

pub returns-then-length-at-clause-refused : goal.returns-then-length-at-clause-refused
returns-then-length-at-clause-refused g c = refused_length c.args.bytes.now c.in_ok-at.at c.in_ok-length.ensures.ok c.in_ok-at.ensures.parts (λ e. c.if-length-at.true (c.in_ok-length.ensures.length ∙ e))

pub returns-in-Err-clause-refused : goal.returns-in-Err-clause-refused
returns-in-Err-clause-refused g c =
    let same : length_field c.args.bytes.now ≡ c.in_ok-at.at.end - 9 = sym c.in_ok-length.ensures.length ∙ c.if-length-at.false in
    let fault = fault_of _ _ _ _ _ _ c.in-Err.blame c.in_ok-at.ensures.permanent c.in_ok-at.ensures.volatile c.in_ok-at.ensures.saved c.in-Err.ensures.fault in
    subst (λ (f : Malformed). IsStreamRefused f c.args.bytes.now) (sym (c.moved.ensures ∙ ap (λ (n : ℕ). moved n c.in-Err.blame.fault) c.begin_of.ensures)) (refused_blame c.args.bytes.now c.in_ok-at.at c.in_ok-length.ensures.ok c.in_ok-at.ensures.parts same c.in-Err.blame fault)

pub returns-then-at-bytes-clause-refused : goal.returns-then-at-bytes-clause-refused
returns-then-at-bytes-clause-refused g c =
    let same : length_field c.args.bytes.now ≡ c.in_ok-at.at.end - 9 = sym c.in_ok-length.ensures.length ∙ c.if-length-at.false in
    let made = made_of _ _ _ _ _ _ c.in-Ok.tpm c.in_ok-at.ensures.permanent c.in_ok-at.ensures.volatile c.in_ok-at.ensures.saved c.in-Ok.ensures.ok in
    let fits : IsBytes c.args.bytes.now = search rules in
    refused_extra c.args.bytes.now c.in_ok-at.at _ _ fits c.in_ok-length.ensures.ok c.in_ok-at.ensures.parts same c.in_ok-at.ensures.parts.device.whole.1 made c.if-at-bytes.true

pub returns-clause-stream : goal.returns-clause-stream
returns-clause-stream g c =
    let same : length_field c.args.bytes.now ≡ c.in_ok-at.at.end - 9 = sym c.in_ok-length.ensures.length ∙ c.if-length-at.false in
    let made = made_of _ _ _ _ _ _ c.in-Ok.tpm c.in_ok-at.ensures.permanent c.in_ok-at.ensures.volatile c.in_ok-at.ensures.saved c.in-Ok.ensures.ok in
    let fits : IsBytes c.args.bytes.now = search rules in
    whole_stream c.args.bytes.now c.in_ok-at.at _ _ fits c.in_ok-length.ensures.ok c.in_ok-at.ensures.parts same c.load.ensures.ok made c.if-at-bytes.false
