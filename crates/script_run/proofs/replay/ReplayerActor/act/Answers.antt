use Rattle.std.proofs.Common.{◌∙◌, sym}
use Rattle.vt_script.specs.Replies.{reply_text}
use Rattle.two_hosts.specs.Hosts.{hosts_after}
use Rattle.script_run.proofs.Prefixes.{replied-more}
use Rattle.script_run.proofs.replay.ReplayerActor.act.Goals as goal

pub returns : goal.returns
returns c = record {
  acts = (
    reply_text c.in_ok-reply.reply,
    c.in_ok-print_reply.ensures.ok,
    λ first lines output before. λ b piece follows.
        let d = before b piece follows in
        replied-more b piece lines output c.args.self.now.world c.step.new.self c.args.line.now c.in-Some.line c.in_ok-reply.reply d (sym c.parse_line.ensures.value ∙ c.in-Some.is) (c.in_ok-reply.ensures.steps b piece (hosts_after b piece d.transcript) d.runs.follows),
  );
}
