use Rattle.std.proofs.Common.{take}
use Rattle.std.proofs.lemmas.Result.{on_ok_weaker}
use Rattle.script_run.specs.Start.{base_of}
use Rattle.script_run.proofs.Guests.{called_responds}
use Rattle.script_run.proofs.drive.respond.Goals as goal

pub returns-in-Cmd-clause-ok : goal.returns-in-Cmd-clause-ok
returns-in-Cmd-clause-ok c = on_ok_weaker c.print_response.result (λ appended start p s waits.
    let calls = rw c.as_slice.ensures.value at (c.call-count.ensures.calls (base_of start) p waits.rest) in
    rw c.in-Cmd.is (called_responds start p s c.in-Cmd.command (take c.call-count.result c.call-count.new.into) c.args.into.now.items c.print_response.new.into.items c.args.pair.now c.call-count.new.pair waits calls (c.call-count.ensures.place start.piece) appended)) c.print_response.ensures.ok
