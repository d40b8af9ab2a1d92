use Rattle.std.proofs.Common.{◌≡◌, List, ℕ, [], ap, ◌∙◌, sym, arith}
use Rattle.std.specs.Prelude.{Option, unwrap_or}
use Rattle.crb_machine.proofs.parts.DeviceParts.content.Goals as goal

pub returns-clause-fit : goal.returns-clause-fit
returns-clause-fit g c = λ working.
    let here : c.bytes-bytes.result.now ≡ unwrap_or c.args.self.now.own_buffer [] = c.bytes-bytes.ensures.value ∙ sym (ap (λ (o : Option (List ℕ)). unwrap_or o []) c.in-Some.is) in record {
      working = working;
      idle = λ idle. ap (λ (o : Option (List ℕ)). unwrap_or o []) (c.requires.consistent.idle idle);
      waits = c.requires.consistent.waits;
      size = rw (← here) c.bytes-bytes.ensures.length;
      bytes = rw (← here) c.bytes_fit.ensures;
      number = omega arith;
    }
