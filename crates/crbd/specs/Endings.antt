-- How the program ends, by how its connections ended, and with which status. (Own definitions.)
use Rattle.std.specs.Prelude.{ℕ}
use Rattle.vt_base.specs.Status.{status_number}
use Rattle.vt_base.specs.declared.status.Status.TheVariants as status
use Rattle.emulator_server.specs.declared.served.Served.{Served}
use Rattle.emulator_server.specs.declared.served.Served.TheVariants as served
use Rattle.crbd.specs.declared.ending.Ending.{Ending}
use Rattle.crbd.specs.declared.ending.Ending.TheVariants as ending

-- the exit status
abbrev pub ending_number : Ending → ℕ
ending_number (ending.Status s) = status_number s
ending_number ending.Cut = 8
ending_number ending.NoSocket = 10

-- how one connection ends the program, if the other doesn't count
abbrev pub ending_of : Served → Ending
ending_of served.Ended = ending.Status status.Ok
ending_of served.Closed = ending.Status status.Ok
ending_of served.ReadFault = ending.Status status.ReadFault
ending_of served.WriteFault = ending.Status status.WriteFault
ending_of served.Memory = ending.Status status.Memory
ending_of served.Turns = ending.Status status.Limit
ending_of (served.Cut begun) = ending.Cut
ending_of (served.Bad place) = ending.Status status.Refused
ending_of (served.Wires fault) = ending.Status status.Refused

-- if the first ended well, the other one counts
abbrev pub first_counts : Ending → Ending → Ending
first_counts (ending.Status status.Ok) other = other
first_counts first other = first
