use Rattle.std.proofs.Common.{◌≡◌, List, length, refl, ap, arith}
use Rattle.vt_script.specs.declared.drive.DriveLine.{DriveLine}
use Rattle.bulk_lines.specs.Generator.{bulk_lines}
use Rattle.script_run.specs.Ends.{HandsPair}
use Rattle.script_run.specs.Calls.{HasDriven}
use Rattle.script_run.specs.Run.{latest_first}
use Rattle.script_run.specs.Start.{default_start}
use Rattle.script_run.proofs.Bulks.{length-bulk}
use Rattle.script_run.proofs.Handing.{all-out, hands-pair}
use Rattle.script_run.proofs.Tasks.{default-piece}
use Rattle.script_run.proofs.bulk.bulk.Goals as goal

pub pair-requires : goal.pair-requires
pair-requires g c = rw c.without_options.ensures default-piece

pub sum_up-summed-requires-clause-within_limit : goal.sum_up-summed-requires-clause-within_limit
sum_up-summed-requires-clause-within_limit g c = omega (arith, c.requires, length-bulk c.args.seed c.args.count, ap length c.new.ensures.lines)

pub returns-clause-hands_out : goal.returns-clause-hands_out
returns-clause-hands_out g c =
    let all : List DriveLine = latest_first (bulk_lines c.args.seed c.args.count) in
    let driven : HasDriven default_start all c.sum_up-summed.new.pair = rw c.new.ensures.lines at c.in-Ok-summed.ensures.driven in
    rw (c.on_hosts-2.ensures.status, c.on_hosts-2.ensures.hosts) (all-out (HandsPair default_start (λ lines. lines ≡ all)) c.write_and_end-status.result _ (hands-pair default_start (λ lines. lines ≡ all) all c.sum_up-summed.new.pair refl driven))
