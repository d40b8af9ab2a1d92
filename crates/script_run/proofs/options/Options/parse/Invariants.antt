use Rattle.std.proofs.Common.{length, map}
use Rattle.std.specs.String.{string_bytes}
use Rattle.script_run.specs.declared.options.Options.{Options}
use Rattle.script_run.specs.Words.{AreOptions}
use Rattle.script_run.proofs.Words.{Continues}
use Rattle.script_run.proofs.options.Options.parse.Given as goal

-- all options are those that are given so far, and those of the words that are left
abbrev pub invariant-loop-rest : goal.invariant-loop-rest
invariant-loop-rest l = record {
  to : (all : Options) → AreOptions all (map string_bytes l.words) → Continues l.given all (map string_bytes l.rest);
  from : (all : Options) → Continues l.given all (map string_bytes l.rest) → AreOptions all (map string_bytes l.words);
}

abbrev pub decreases-loop-rest : goal.decreases-loop-rest
decreases-loop-rest l = length l.rest
