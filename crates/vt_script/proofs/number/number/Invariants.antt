use Rattle.std.proofs.Common.{◌≡◌, ◌<◌, ◌^◌, drop}
use Rattle.vt_script.specs.Script.{number_after}
use Rattle.vt_script.proofs.number.number.Given as goal

-- the number so far and the digits that are left spell the whole
abbrev pub invariant-loop-byte : goal.invariant-loop-byte
invariant-loop-byte l = record {
  rest : number_after l.base l.number (drop l.byte-index l.word) ≡ number_after l.base 0 l.word;
  below : l.number < l.base ^ l.byte-index;
}
