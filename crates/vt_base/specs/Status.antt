-- The exit statuses. (Own definitions.)
use Rattle.std.specs.Prelude.{ℕ}
use Rattle.vt_base.specs.declared.status.Status.{Status}
use Rattle.vt_base.specs.declared.status.Status.TheVariants.{Ok, Usage, Script, ReadFault, WriteFault, Memory, Limit, Refused, NotYet}

-- the number of each; 1 is left to what ends a program from outside
abbrev pub status_number : Status → ℕ
status_number Ok = 0
status_number Usage = 2
status_number Script = 3
status_number ReadFault = 4
status_number WriteFault = 5
status_number Memory = 6
status_number Limit = 7
status_number Refused = 8
status_number NotYet = 9
