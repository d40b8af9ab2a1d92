-- The accesses that each call makes, as lists (PC Client Platform TPM Profile, the CRB's sequence of a command).
use Rattle.std.specs.Prelude.{ℕ, ◌+◌, List, [], ◌∷◌, ◌++◌, map}
use Rattle.crb_regs.specs.Numbers as numbers
use Rattle.crb_driver.specs.Bus.{Exchange, reading, writing}

-- a read of a register, of four bytes
abbrev pub register_read : ℕ → ℕ → Exchange
register_read offset value = reading offset 4 value

-- a write of a register, likewise
abbrev pub register_write : ℕ → ℕ → Exchange
register_write offset value = writing offset 4 value

-- accesses of one kind to these bytes, one by one from an offset on
abbrev pub one_by_one : (ℕ → ℕ → ℕ → Exchange) → ℕ → List ℕ → List Exchange
one_by_one kind offset [] = []
one_by_one kind offset (byte ∷ bytes) = kind offset 1 byte ∷ one_by_one kind (offset + 1) bytes

-- reads of these bytes
abbrev pub byte_reads : ℕ → List ℕ → List Exchange
byte_reads offset bytes = one_by_one reading offset bytes

-- writes of these bytes
abbrev pub byte_writes : ℕ → List ℕ → List Exchange
byte_writes offset bytes = one_by_one writing offset bytes

-- access is asked for
abbrev pub request_accesses : ℕ → List Exchange
request_accesses loc_sts = register_write numbers.loc_ctrl numbers.request_access ∷ register_read numbers.loc_sts loc_sts ∷ []

-- and then the interface is made ready
abbrev pub ready_accesses : ℕ → ℕ → List Exchange
ready_accesses loc_sts ctrl_sts =
    request_accesses loc_sts ++ register_write numbers.ctrl_req numbers.cmd_ready ∷ register_read numbers.ctrl_sts ctrl_sts ∷ []

-- CANCEL is cleared, and the command is written and started
abbrev pub send_accesses : List ℕ → List Exchange
send_accesses command = register_write numbers.ctrl_cancel 0 ∷ byte_writes numbers.data_buffer command ++ register_write numbers.ctrl_start numbers.start ∷ []

-- all this in turn
abbrev pub start_accesses : List ℕ → ℕ → ℕ → List Exchange
start_accesses command loc_sts ctrl_sts = ready_accesses loc_sts ctrl_sts ++ send_accesses command

-- reads of START
abbrev pub poll_accesses : List ℕ → List Exchange
poll_accesses values = map (register_read numbers.ctrl_start) values

-- the state and the size field of the response are read: a response has its size at byte 2 (TPM 2.0 Library, part 1, the header of responses)
abbrev pub size_accesses : ℕ → List ℕ → List Exchange
size_accesses ctrl_sts size_bytes = register_read numbers.ctrl_sts ctrl_sts ∷ byte_reads (numbers.data_buffer + 2) size_bytes

-- the response is read, the interface goes idle and access is given back
abbrev pub collect_accesses : List ℕ → List Exchange
collect_accesses response = byte_reads numbers.data_buffer response ++ register_write numbers.ctrl_req numbers.go_idle ∷ register_write numbers.loc_ctrl numbers.relinquish ∷ []

-- all this in turn
abbrev pub finish_accesses : ℕ → List ℕ → List ℕ → List Exchange
finish_accesses ctrl_sts size_bytes response = size_accesses ctrl_sts size_bytes ++ collect_accesses response
