use Rattle.std.proofs.Common.{IsSome}
use Rattle.codec_tests.proofs.ctrl_codec_tests.is_reply_singly.Given as goal

abbrev pub invariant-loop-before : goal.invariant-loop-before
invariant-loop-before l = IsSome l.reader.awaits
