use Rattle.std.proofs.Common.{rules, ◌≡◌, ◌+◌, ℕ, length, drop, sym, ap, ◌∙◌, subst}
use Rattle.std.proofs.lemmas.List.{drop-drop}
use Rattle.device_record.proofs.writing.put_record.Goals as goal

pub returns-clause-behind : goal.returns-clause-behind
returns-clause-behind c =
    let n = length c.args.content.now in
    let size : 0 + length c.header.result ≡ 23 = search rules in
    let first : drop 23 c.put_at.new.into ≡ drop 23 c.args.into.now = subst (λ (k : ℕ). drop k c.put_at.new.into ≡ drop k c.args.into.now) size c.put_at.ensures.behind in
    c.put_at-2.ensures.behind ∙ sym (drop-drop n 23 c.put_at.new.into) ∙ ap (drop n) first ∙ drop-drop n 23 c.args.into.now
